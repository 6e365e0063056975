-- what a table is turned back for (document 01, and 25 by document 02): 1 to 9 by rising number, then 25; within a number the function
-- records, then the lowest node
use Rattle.std.specs.Prelude.{ℕ, zero, suc, ◌+◌, ◌*◌, ◌^◌, Bool, true, false, ◌&&◌, ◌||◌, not, List, eqb, ltb, leb, length}
use Rattle.table.specs.declared.Counts.{Counts}
use Rattle.table.specs.Pick.{pick}
use Rattle.table.specs.Bytes.{functions, nodes, params, width_byte, width, root, kind, extra, word, first, next}
use Rattle.table.specs.Find.{lowest, all}
use Rattle.table.specs.Naming.{mentions, root_of, owner, tail, in_scope, children}

pub data Verdict : Type 0 where
  accepted : (F N : ℕ) → Verdict
  refused : (number place : ℕ) → Verdict

-- what an accepted table tells, else what stands for nothing
abbrev pub if_accepted : {A : Type 0} → Verdict → A → A → A
if_accepted (accepted F N) x y = x
if_accepted (refused number place) x y = y

abbrev pub between : ℕ → ℕ → Counts
between l h = record { low = l; high = h }

abbrev pub among : ℕ → ℕ → ℕ → Bool
among low high n = leb low n && leb n high

-- 2: F and N in their ranges
unfoldable pub sizes : List ℕ → Bool
sizes t = among 1 32 (functions t) && among 1 512 (nodes t)

-- 3: the length
unfoldable pub whole : List ℕ → Bool
whole t = eqb (length t) (4 + 4 * functions t + 10 * nodes t)

-- 4: a root in 1 to N; a first or next 0 or from the node's own number + 1 to N; every node named once; a root without a next
unfoldable pub root_fits : List ℕ → ℕ → Bool
root_fits t f = among 1 (nodes t) (root t f)

unfoldable pub forward : List ℕ → ℕ → ℕ → Bool
forward t n m = eqb m 0 || (ltb n m && leb m (nodes t))

unfoldable pub linked : List ℕ → ℕ → Bool
linked t n = forward t n (first t n) && forward t n (next t n) && eqb (mentions t n) 1 && (eqb (root_of t n) 0 || eqb (next t n) 0)

-- 5: parameter count and width byte; known kind and operation, and zero where the kind carries nothing
unfoldable pub record_fits : List ℕ → ℕ → Bool
record_fits t f = leb (params t f) 8 && leb (width_byte t f) 32

unfoldable pub fields : (kind extra word first : ℕ) → Bool
fields k e w c =
    pick (eqb k 1) (eqb e 0 && eqb c 0)
    (pick (eqb k 2) (eqb w 0 && eqb c 0)
    (pick (eqb k 3) (leb e 10 && eqb w 0)
    (pick (eqb k 4) (eqb e 0)
    (pick (eqb k 5) (eqb e 0 && eqb w 0)
    (pick (eqb k 6) (eqb e 0 && eqb w 0)
    (pick (eqb k 7) (eqb e 0 && eqb c 0)
    false))))))

unfoldable pub formed : List ℕ → ℕ → Bool
formed t n = fields (kind t n) (extra t n) (word t n) (first t n)

abbrev pub is_kind : List ℕ → ℕ → ℕ → Bool
is_kind t k n = eqb (kind t n) k

-- 6: a callee is in 1 to the caller's own number
unfoldable pub callee_fits : List ℕ → ℕ → Bool
callee_fits t n = not (is_kind t 4 n) || among 1 (owner t n) (word t n)

-- 7: how many children an operation takes, from low to high: 0 and 0 where there is none such
unfoldable pub operation_counts : (op : ℕ) → Counts
operation_counts op =
    pick (leb op 4 || among 8 9 op) (between 2 2)
    (pick (among 5 7 op) (between 1 1)
    (pick (eqb op 10) (between 1 8)
    (between 0 0)))

-- and a kind: a call as many as its callee has parameters; a constant, a parameter and a bound none
unfoldable pub counts_of : (kind op params : ℕ) → Counts
counts_of k op p =
    pick (eqb k 3) (operation_counts op)
    (pick (eqb k 4) (between p p)
    (pick (eqb k 5) (between 3 3)
    (pick (eqb k 6) (between 2 9)
    (between 0 0))))

abbrev pub within : Counts → ℕ → Bool
within c j = among c.low c.high j

unfoldable pub counted : List ℕ → ℕ → Bool
counted t n = within (counts_of (kind t n) (extra t n) (params t (word t n))) (length (children t n))

-- 8: a parameter's index is below the count, a bound node's definiens is in scope
unfoldable pub scoped : List ℕ → ℕ → Bool
scoped t n = (not (is_kind t 2 n) || ltb (extra t n) (params t (owner t n))) && (not (is_kind t 7 n) || in_scope t (word t n) n)

-- 9: a self call is in tail position
unfoldable pub tailed : List ℕ → ℕ → Bool
tailed t n = not (is_kind t 4 n && eqb (word t n) (owner t n)) || tail t n

-- 25: a constant is below 2^w, w being the width of its function
unfoldable pub const_fits : List ℕ → ℕ → Bool
const_fits t n = not (is_kind t 1 n) || ltb (word t n) (2 ^ width t (owner t n))

-- the refusals of one number: the records, then the lowest node; what comes after waits, so that it is asked only then
unfoldable pub stage : (number : ℕ) (records : Bool) (place : ℕ) (rest : Unit {0} → Verdict) → Verdict
stage k false place rest = refused k 0
stage k true zero rest = rest tt
stage k true (suc n) rest = refused k (suc n)

unfoldable pub check_of : List ℕ → Verdict
check_of t =
    stage 1 (leb 4 (length t)) 0 λ _.
    stage 2 (sizes t) 0 λ _.
    stage 3 (whole t) 0 λ _.
    stage 4 (all (root_fits t) (functions t)) (lowest (linked t) (nodes t)) λ _.
    stage 5 (all (record_fits t) (functions t)) (lowest (formed t) (nodes t)) λ _.
    stage 6 true (lowest (callee_fits t) (nodes t)) λ _.
    stage 7 true (lowest (counted t) (nodes t)) λ _.
    stage 8 true (lowest (scoped t) (nodes t)) λ _.
    stage 9 true (lowest (tailed t) (nodes t)) λ _.
    stage 25 true (lowest (const_fits t) (nodes t)) λ _.
    accepted (functions t) (nodes t)
