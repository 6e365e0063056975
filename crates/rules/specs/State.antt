-- the circuit's state: lists of 512 nodes and 32 functions, how an entry is read and written, and the start
use Rattle.std.specs.Prelude.{ℕ, zero, suc, ◌+◌, ◌*◌, ◌/◌, ◌%◌, Bool, false, ◌≡◌, ◌⊎◌, List, [], ◌∷◌, eqb, ltb, length, get_or, set}
use Rattle.std.specs.Prelude.{replicate}
use Rattle.table.specs.Pick.{pick}
use Rattle.table.specs.Syntax.{Expr, id}

-- of a node status (0 idle, 1 open, 2 busy, 3 done), second phase and value; of a function 8 registers and its occupant, 0 if free
pub record State512 : Type 0 where
  pub status : List ℕ
  pub second : List Bool
  pub value : List ℕ
  pub registers : List ℕ
  pub occupant : List ℕ

pub record Sized (s : State512) : Type 0 where
  pub statuses : length s.status ≡ 512
  pub seconds : length s.second ≡ 512
  pub valued : length s.value ≡ 512
  pub registered : length s.registers ≡ 256
  pub occupied : length s.occupant ≡ 32

-- nodes and functions are counted from 1: entry n is at n - 1, and 0 has none
unfoldable pub entry : {A : Type 0} → List A → A → ℕ → A
entry l d zero = d
entry l d (suc n) = get_or l n d

unfoldable pub write : {A : Type 0} → List A → ℕ → A → List A
write l zero a = l
write l (suc n) a = set l n a

-- register i of function f, i from 0: at 8 (f - 1) + i
unfoldable pub register : List ℕ → ℕ → ℕ → ℕ
register l zero i = 0
register l (suc f) i = pick (ltb i 8) (get_or l (8 * f + i) 0) 0

-- the state read by numbers of nodes and functions
pub record View : Type 0 where
  pub status : ℕ → ℕ
  pub second : ℕ → Bool
  pub value : ℕ → ℕ
  pub register : ℕ → ℕ → ℕ
  pub occupant : ℕ → ℕ

abbrev pub view : State512 → View
view s = record {
  status = entry s.status 0;
  second = entry s.second false;
  value = entry s.value 0;
  register = register s.registers;
  occupant = entry s.occupant 0;
}

-- each element changed by its place, the first being k
unfoldable pub alter : {A : Type 0} → (ℕ → A → A) → ℕ → List A → List A
alter f k [] = []
alter f k (x ∷ xs) = f k x ∷ alter f (suc k) xs

-- all registers of function g: "the arguments and zeros"
unfoldable pub fill : ℕ → List ℕ → List ℕ → List ℕ
fill g vs l = alter (λ k r. pick (eqb (k / 8 + 1) g) (get_or vs (k % 8) 0) r) 0 l

-- the nodes that `mine` names become d
unfoldable pub clear : {A : Type 0} → (ℕ → Bool) → A → List A → List A
clear mine d l = alter (λ n x. pick (mine n) d x) 1 l

-- "opening alters the status alone": the nodes opened one after the other
unfoldable pub opened : List ℕ → List ℕ → List ℕ
opened l [] = l
opened l (n ∷ ns) = opened (write l n 1) ns

-- k times a; shut, so that nothing counts to 512
unfoldable pub blank : {A : Type 0} → ℕ → A → List A
blank k a = replicate k a

-- nothing open, nothing held
unfoldable pub zeros : State512
zeros = record { status = blank 512 0; second = blank 512 false; value = blank 512 0; registers = blank 256 0; occupant = blank 32 0 }

-- the state that a start makes: zeros, but for main's registers and its open root; main is F
unfoldable pub circuit_start : (F : ℕ) (body : ℕ → Expr) → List ℕ → State512
circuit_start F body args = record {
  status = write (blank 512 0) (id (body F)) 1;
  second = blank 512 false;
  value = blank 512 0;
  registers = fill F args (blank 256 0);
  occupant = blank 32 0;
}

-- x stands in the list
abbrev pub In : {A : Type 0} → A → List A → Type 0
In x [] = ⊥
In x (y ∷ ys) = (x ≡ y) ⊎ In x ys
