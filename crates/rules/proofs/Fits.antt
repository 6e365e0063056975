-- values and registers stay below 2^32, in any state: constants are words, and the operations wrap
use Prim.Native.Nat.{ℕ, zero, suc, ◌+◌, ◌-◌, ◌*◌, ◌/◌, ◌%◌, ◌^◌, ◌<◌}
use mathlib.Core.Bool.{Bool, true, false}
use mathlib.Core.Path.{◌≡◌, refl, subst, sym}
use mathlib.Core.List.{List, [], ◌∷◌}
use native.Mathlib.Omega.{arith}
use lib.Bits.{and_lt, or_lt, xor_lt}
use lib.Dec.{eqb, ltb}
use lib.ListN.{get_or, set}
use Rattle.table.specs.Syntax.{Expr, Exprs, const, param, prim, call, self, cond, bind, bound, none, some, id}
use Rattle.table.specs.Environment.{values}
use Rattle.table.specs.Pick.{pick}
use Rattle.table.specs.Bytes.{two_at, four_at, functions, nodes, node_at, word, width}
use Rattle.table.specs.Naming.{owner}
use Rattle.table.specs.Expressions.{expr_at, body_of}
use Rattle.table.specs.Working.{IsNode}
use Rattle.table.proofs.Passed.{Passed, passed}
use Rattle.table.proofs.NodeCases.{NodeCase, node_case}
use Rattle.table.proofs.NodeCases.{is_const, is_param, is_prim, is_call_lem, is_self, is_cond, is_bind, is_bound}
use Rattle.list.specs.Tags.{tagged}
use Rattle.rules.specs.State.{State512, view, entry, write, register, alter, fill, clear, blank, circuit_start}
use Rattle.rules.specs.Step.{Act, stuck, blocked, does, Move, begins, turns, finishes, enters, leaves, restarts, done, all_done}
use Rattle.rules.specs.Step.{branch, act, mine, reset, finish, perform}
use Rattle.rules.specs.Operations.{last_value, wrap, operate}
use Rattle.rules.specs.Arithmetic.{Arithmetic, keep_all, narrow, arithmetic}
use Rattle.rules.specs.Play.{Ask, played}
use Rattle.rules.specs.Circuit.{started, opening, start_of, step_of, plays_of}
use Rattle.rules.specs.Companions.{Word, Words, Bytes, Fits}
use Rattle.rules.proofs.Narrow.{narrow_less}
use Rattle.rules.proofs.ActCases.{by_pick, by_state}
use Rattle.rules.proofs.StepCases.{step_cases}
use Rattle.rules.proofs.Starts.{start_passes}
use Rattle.rules.proofs.AnyState.{by_check}

pick_word : (b : Bool) (x y : ℕ) → Word x → Word y → Word (pick b x y)
pick_word true x y p q = p
pick_word false x y p q = q

last_word : (vs : List ℕ) → Words vs → Word (last_value vs)
unfolding last_value
last_word [] h = omega arith
last_word (v ∷ []) h = h 0
last_word (v ∷ (w ∷ ws)) h = last_word (w ∷ ws) (λ i. h (suc i))

wrap_word : (x : ℕ) → Word (wrap x)
unfolding wrap
wrap_word x = omega arith

-- of words every operation makes a word
pub operate_word : (op : ℕ) (vs : List ℕ) → Words vs → Word (operate op vs)
unfolding operate
operate_word op vs h =
    let x = get_or vs 0 0 in
    let y = get_or vs 1 0 in
    let p : Word x = h 0 in
    let q : Word y = h 1 in
    pick_word (eqb op 0) _ _ (wrap_word (x + y))
    (pick_word (eqb op 1) _ _ (wrap_word (x + 2 ^ 32 - y))
    (pick_word (eqb op 2) _ _ (and_lt 32 x y p q)
    (pick_word (eqb op 3) _ _ (or_lt 32 x y p q)
    (pick_word (eqb op 4) _ _ (xor_lt 32 x y p q)
    (pick_word (eqb op 5) _ _ (wrap_word (2 * x))
    (pick_word (eqb op 6) _ _ (omega arith)
    (pick_word (eqb op 7) _ _ (omega arith)
    (pick_word (eqb op 8) _ _ (pick_word (eqb x y) 1 0 (omega arith) (omega arith))
    (pick_word (eqb op 9) _ _ (pick_word (ltb x y) 1 0 (omega arith) (omega arith))
    (last_word vs h))))))))))

-- of words the primitives of every function make words, and it keeps words
record WordUnits (units : Arithmetic) : Type 0 where
  operated : (f op : ℕ) (vs : List ℕ) → Words vs → Word (units.result f op vs)
  kept : (f v : ℕ) → Word v → Word (units.keep f v)

-- the arithmetic of a table does: what is reduced is no greater
table_words : (t : List ℕ) → WordUnits (arithmetic t)
table_words t = record { operated = λ f op vs w. less f (operate op vs) (operate_word op vs w); kept = less }
  where
    less : (f v : ℕ) → Word v → Word (narrow (width t f) v)
    less f v w = omega (arith, narrow_less (width t f) v, w)

kept_words : (units : Arithmetic) → WordUnits units → (f : ℕ) (vs : List ℕ) → Words vs → Words (keep_all units f vs)
kept_words units ok f [] w i = w i
kept_words units ok f (v ∷ vs) w zero = ok.kept f v (w 0)
kept_words units ok f (v ∷ vs) w (suc i) = kept_words units ok f vs (λ j. w (suc j)) i

-- a constant of an accepted table
pub const_word : (t : List ℕ) → Bytes t → Passed t → (n m v : ℕ) → IsNode t n → expr_at t n ≡ const m v → Word v
const_word t b ok n m v i e = go (node_case t ok n i)
  where
    four : (i : ℕ) → four_at t i < 2 ^ 32
    four = unfold four_at two_at in (λ i. omega (arith, b i, b (i + 1), b (i + 2), b (i + 2 + 1)))

    word_word : word t n < 2 ^ 32
    word_word = unfold word in (four (node_at t n + 2))

    other : {X : Type 0} → ◌≡◌ {A = ℕ} 0 1 → X
    other z = absurd (omega arith)

    go : NodeCase t n → Word v
    go (is_const k f q) = let z : word t n ≡ v = cc in subst Word z word_word
    go (is_param k f l q) = other (cc)
    go (is_prim k f q) = other (cc)
    go (is_call_lem k a b c q) = other (cc)
    go (is_self k a b c q) = other (cc)
    go (is_cond k a b c f q) = other (cc)
    go (is_bind k a b c q) = other (cc)
    go (is_bound k f h q) = other (cc)

-- the lists after a write
set_words : (l : List ℕ) (n v : ℕ) → Words l → Word v → Words (set l n v)
set_words [] n v h w i = h i
set_words (x ∷ l) zero v h w zero = w
set_words (x ∷ l) zero v h w (suc i) = h (suc i)
set_words (x ∷ l) (suc n) v h w zero = h 0
set_words (x ∷ l) (suc n) v h w (suc i) = set_words l n v (λ j. h (suc j)) w i

write_words : (l : List ℕ) (n v : ℕ) → Words l → Word v → Words (write l n v)
unfolding write
write_words l zero v h w = h
write_words l (suc n) v h w = set_words l n v h w

alter_words : (f : ℕ → ℕ → ℕ) (k : ℕ) (l : List ℕ) → ((j x : ℕ) → Word x → Word (f j x)) → Words l → Words (alter f k l)
unfolding alter
alter_words f k [] g h i = h i
alter_words f k (x ∷ l) g h zero = g k x (h 0)
alter_words f k (x ∷ l) g h (suc i) = alter_words f (suc k) l g (λ j. h (suc j)) i

clear_words : (mine : ℕ → Bool) (l : List ℕ) → Words l → Words (clear mine 0 l)
unfolding clear
clear_words mine l h = alter_words _ 1 l (λ j x w. pick_word (mine j) 0 x (omega arith) w) h

fill_words : (g : ℕ) (vs l : List ℕ) → Words vs → Words l → Words (fill g vs l)
unfolding fill
fill_words g vs l v h = alter_words _ 0 l (λ j x w. pick_word (eqb (j / 8 + 1) g) (get_or vs (j % 8) 0) x (v (j % 8)) w) h

entry_word : (l : List ℕ) (n : ℕ) → Words l → Word (entry l 0 n)
unfolding entry
entry_word l zero h = omega arith
entry_word l (suc n) h = h n

register_word : (l : List ℕ) (f i : ℕ) → Words l → Word (register l f i)
unfolding register
register_word l zero i h = omega arith
register_word l (suc f) i h = pick_word (ltb i 8) (get_or l (8 * f + i) 0) 0 (h (8 * f + i)) (omega arith)

-- a step writes words
abbrev MoveFits : Move → Type 0
MoveFits (begins ns) = Unit {0}
MoveFits (turns m) = Unit {0}
MoveFits (finishes v) = Word v
MoveFits (enters g vs) = Words vs
MoveFits (leaves g v) = Word v
MoveFits (restarts f vs) = Words vs

abbrev ActFits : Act → Type 0
ActFits stuck = Unit {0}
ActFits blocked = Unit {0}
ActFits (does m) = MoveFits m

module _ (s : State512) (fits : Fits s) where
  value_word : (n : ℕ) → Word ((view s).value n)
  value_word n = entry_word s.value n fits.value

  values_words : (es : Exprs) → Words (values (view s).value es)
  values_words none i = omega arith
  values_words (some e es) zero = value_word (id e)
  values_words (some e es) (suc i) = values_words es i

  act_fits : (units : Arithmetic) → WordUnits units → (body : ℕ → Expr) (h : ℕ) (u : Expr) → ((m v : ℕ) → u ≡ const m v → Word v)
      → ActFits (act units body h (view s) u)
  act_fits units ok body h (const n v) c = by_state ActFits ((view s).status n) _ _ (λ e. c n v refl) (λ e. tt) tt
  act_fits units ok body h (param n i) c = by_state ActFits ((view s).status n) _ _
      (λ e. register_word s.registers h i fits.registers) (λ e. tt) tt
  act_fits units ok body h (bound n d) c = by_state ActFits ((view s).status n) _ _ (λ e. value_word d) (λ e. tt) tt
  act_fits units ok body h (prim n op es) c = by_state ActFits ((view s).status n) _ _ (λ e. tt)
      (λ e. by_pick ActFits (all_done (view s) es) _ _ (λ e. ok.operated h op (values (view s).value es) (values_words es)) (λ e. tt)) tt
  act_fits units ok body h (call n g es) c = by_state ActFits ((view s).status n) _ _ (λ e. tt)
      (λ e. by_pick ActFits ((view s).second n) _ _
      (λ e. by_pick ActFits (done (view s) (id (body g))) _ _ (λ e. ok.kept h ((view s).value (id (body g))) (value_word (id (body g))))
      (λ e. tt))
      (λ e. by_pick ActFits (all_done (view s) es) _ _
      (λ e. by_pick ActFits (eqb ((view s).occupant g) 0) _ _ (λ e. kept_words units ok g (values (view s).value es) (values_words es))
      (λ e. tt)) (λ e. tt)))
      tt
  act_fits units ok body h (self n es) c = by_state ActFits ((view s).status n) _ _ (λ e. tt)
      (λ e. by_pick ActFits (all_done (view s) es) _ _ (λ e. kept_words units ok h (values (view s).value es) (values_words es))
      (λ e. tt)) tt
  act_fits units ok body h (cond n a b d) c =
      let r : Expr = branch ((view s).value (id a)) b d in
      by_state ActFits ((view s).status n) _ _ (λ e. tt)
      (λ e. by_pick ActFits ((view s).second n) _ _
      (λ e. by_pick ActFits (done (view s) (id r)) _ _ (λ e. value_word (id r)) (λ e. tt))
      (λ e. by_pick ActFits (done (view s) (id a)) _ _ (λ e. tt) (λ e. tt)))
      tt
  act_fits units ok body h (bind n ds b) c = by_state ActFits ((view s).status n) _ _ (λ e. tt)
      (λ e. by_pick ActFits ((view s).second n) _ _
      (λ e. by_pick ActFits (done (view s) (id b)) _ _ (λ e. value_word (id b)) (λ e. tt))
      (λ e. by_pick ActFits (all_done (view s) ds) _ _ (λ e. tt) (λ e. tt)))
      tt

  finish_fits : (n v : ℕ) → Word v → Fits (finish s n v)
  finish_fits n v w = record { value = write_words s.value n v fits.value w; registers = fits.registers }

  reset_fits : (N : ℕ) (home : ℕ → ℕ) (g r : ℕ) (vs : List ℕ) → Words vs → Fits (reset N home s g r vs)
  reset_fits N home g r vs v = record {
    value = clear_words (mine N home g) s.value fits.value;
    registers = fill_words g vs s.registers v fits.registers;
  }

  perform_fits : (N : ℕ) (home : ℕ → ℕ) (body : ℕ → Expr) (n : ℕ) (m : Move) → MoveFits m → Fits (perform N home body s n m)
  perform_fits N home body n (begins ns) w = record { value = fits.value; registers = fits.registers }
  perform_fits N home body n (turns k) w = record { value = fits.value; registers = fits.registers }
  perform_fits N home body n (finishes v) w = finish_fits n v w
  perform_fits N home body n (enters g vs) w = let x = reset_fits N home g (id (body g)) vs w in
      record { value = x.value; registers = x.registers }
  perform_fits N home body n (leaves g v) w = let x = finish_fits n v w in record { value = x.value; registers = x.registers }
  perform_fits N home body n (restarts f vs) w = reset_fits N home f (id (body f)) vs w

-- a step keeps a state of words, whatever the table, the tags and the state
pub step_fits : (t tags : List ℕ) → Bytes t → (s : State512) → Fits s → (n : ℕ) → Fits (step_of t tags s n).state
step_fits t tags b s fits n = by_check t tags (λ f. Fits (f s n).state) (λ k p. fits)
    (λ F N c. step_cases (arithmetic t) (functions t) (nodes t) (body_of t) (expr_at t) (owner t) (tagged tags) s n
    (λ r. Fits r.state) (λ c. fits)
    (λ r e m h. perform_fits s fits (nodes t) (owner t) (body_of t) n m
    (subst ActFits h (act_fits s fits (arithmetic t) (table_words t) (body_of t) (owner t n) (expr_at t n)
    (λ i v q. const_word t b (passed t F N c).0 n i v r q)))))

blank_words : (k : ℕ) → Words (blank k 0)
unfolding blank
blank_words zero i = omega arith
blank_words (suc k) zero = omega arith
blank_words (suc k) (suc i) = blank_words k i

start_fits : (t args : List ℕ) → Words args → Fits (opening t args)
unfolding circuit_start
start_fits t args w = record {
  value = blank_words 512;
  registers = fill_words (functions t) _ (blank 256 0) (kept_words (arithmetic t) (table_words t) (functions t) args w) (blank_words 256);
}

pub plays_fit : (t : List ℕ) → Bytes t → (s : State512) → Fits s → (asked : List (Ask (List ℕ))) → Fits (played (step_of t) s asked).state
plays_fit t b s fits [] = fits
plays_fit t b s fits (a ∷ rest) = plays_fit t b (step_of t a.tags s a.node).state (step_fits t a.tags b s fits a.node) rest

-- from a start with words as arguments every state is one of words
pub fits_from_start : (t tags args : List ℕ) (s : State512) → start_of t tags args ≡ started s → Bytes t → Words args
    → (asked : List (Ask (List ℕ))) → Fits (plays_of t s asked).state
unfolding plays_of
fits_from_start t tags args s e b w asked =
    let p = start_passes t tags args s e in
    plays_fit t b s (subst Fits (sym p.state) (start_fits t args w)) asked
