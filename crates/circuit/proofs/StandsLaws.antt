-- 24: how a state is looked through, and that a step keeps what it asks
use Rattle.std.proofs.Common.{◌≡◌, ℕ, zero, suc, ◌+◌, ◌-◌, ◌<◌, ◌≤◌, Bool, true, false, ◌||◌, ltb, List, [], ◌∷◌, length, get_or, sym, refl}
use Rattle.std.proofs.Common.{ap, ◌∙◌, subst, add-one, arith, ltb-false, lt-ltb}
use Rattle.std.proofs.Common.{take, max}
use Rattle.std.specs.List.{list_any}
use Rattle.std.proofs.lemmas.List.Folds.{list_any_more}
use native.Mathlib.Decide.{ℕ_discrete, dec_le, dec_lt}
use lib.ListN.{get_or-eq_default}
use Rattle.table.proofs.Tests.{ltb_no}
use Rattle.table.specs.Pick.{pick}
use Rattle.table.specs.Syntax.{id}
use Rattle.table.specs.Bytes.{functions, nodes}
use Rattle.table.specs.Naming.{owner}
use Rattle.table.specs.Expressions.{body_of}
use Rattle.rules.specs.State.{State512, entry, write, clear, opened}
use Rattle.rules.specs.Step.{Move, begins, turns, finishes, enters, leaves, restarts, mine, perform, over}
use Rattle.circuit.specs.Working.{Stands}
use Rattle.rules.proofs.StateLaws.{entry_same, entry_other, length_write, length_clear, clear_mine, clear_other}
use Rattle.rules.proofs.Bounded.{over_none}

-- the two parts of 24
neither : (a b : Bool) → (a || b) ≡ false → (a ≡ false) × (b ≡ false)
neither true b e = let z : ◌≡◌ {A = ℕ} 0 1 = cc in absurd (omega arith)
neither false b e = (refl, e)

pub stands_parts : (t : List ℕ) (s : State512) → Stands t s
    → (over 3 (nodes t) s.status ≡ false) × (over (nodes t) (functions t) s.occupant ≡ false)
stands_parts t s st = neither (over 3 (nodes t) s.status) (over (nodes t) (functions t) s.occupant) st.passes

pub stands_by : (t : List ℕ) (s : State512) → over 3 (nodes t) s.status ≡ false → over (nodes t) (functions t) s.occupant ≡ false
    → Stands t s
stands_by t s a b = record { passes = rw (a, b) refl }

over_suc : (limit : ℕ) (l : List ℕ) (k n : ℕ) → n ≡ suc k → over limit n l ≡ pick (ltb limit (entry l 0 n)) true (over limit k l)
unfolding over
over_suc limit l k n e = rw e refl

-- one entry less to look at
module _ (limit : ℕ) (l : List ℕ) (n x : ℕ) (some : 0 < n) (ex : x ≡ entry l 0 n) where
  over_step : over limit n l ≡ pick (ltb limit (entry l 0 n)) true (over limit (n - 1) l)
  over_step = over_suc limit l (n - 1) n (omega arith)

  pub over_here : limit < x → over limit n l ≡ true
  over_here h = over_step ∙ ap (λ b. pick b true (over limit (n - 1) l)) (lt-ltb limit (entry l 0 n) (omega arith))

  pub over_less : x ≤ limit → over limit n l ≡ over limit (n - 1) l
  over_less h = over_step ∙ ap (λ b. pick b true (over limit (n - 1) l)) (ltb_no limit (entry l 0 n) (λ q. omega arith))

pub over_end : (limit : ℕ) (l : List ℕ) (n : ℕ) → n ≡ 0 → over limit n l ≡ false
unfolding over
over_end limit l n e = rw e refl

-- the highest of the entries looked at is over the limit where one of them is
highest_is : (limit h x : ℕ) → pick (ltb limit x) true (ltb limit h) ≡ ltb limit (max h x)
highest_is limit h x = go (dec_lt limit x)
  where
    go : Dec (limit < x) → pick (ltb limit x) true (ltb limit h) ≡ ltb limit (max h x)
    go (yes q) = rw (lt-ltb limit x q) (sym (lt-ltb limit (max h x) (omega arith)))
    go (no q) = rw (ltb_no limit x q) (same (dec_lt limit h))
      where
        same : Dec (limit < h) → ltb limit h ≡ ltb limit (max h x)
        same (yes p) = rw (lt-ltb limit h p) (sym (lt-ltb limit (max h x) (omega arith)))
        same (no p) = rw (ltb_no limit h p) (sym (ltb_no limit (max h x) (λ z. omega arith)))

pub over_highest : (limit : ℕ) (l : List ℕ) (i h r : ℕ) → over limit i l ≡ ltb limit h → r ≡ max h (get_or l i 0)
    → over limit (i + 1) l ≡ ltb limit r
unfolding entry
over_highest limit l i h r e er =
    over_suc limit l i (i + 1) (add-one i) ∙ (λ j. pick (ltb limit (entry l 0 (add-one i j))) true (e j))
    ∙ highest_is limit h (get_or l i 0) ∙ sym (ap (ltb limit) er)

-- some of the entries looked at is over the limit
pub over_any : (limit k : ℕ) (l : List ℕ) → k ≤ length l → list_any (ltb limit) (take k l) ≡ over limit k l
unfolding over entry
over_any limit zero l h = refl
over_any limit (suc k) l h =
    ap (λ j. list_any (ltb limit) (take j l)) (sym (add-one k)) ∙ list_any_more (ltb limit) l k 0 (omega arith)
    ∙ ap (λ b. b || ltb limit (get_or l k 0)) (over_any limit k l (omega arith)) ∙ or_pick (over limit k l) (ltb limit (get_or l k 0))
  where
    or_pick : (a b : Bool) → (a || b) ≡ pick b true a
    or_pick true true = refl
    or_pick true false = refl
    or_pick false true = refl
    or_pick false false = refl

-- every entry up to k is at most the limit
abbrev Under : ℕ → ℕ → List ℕ → Type 0
Under limit k l = (m : ℕ) → 1 ≤ m → m ≤ k → entry l 0 m ≤ limit

under : (limit k : ℕ) (l : List ℕ) → over limit k l ≡ false → Under limit k l
unfolding over
under limit zero l e m p q = absurd (omega arith)
under limit (suc k) l e m p q = go (ltb limit (entry l 0 (suc k))) refl e (under limit k l) (ℕ_discrete m (suc k))
  where
    go : (b : Bool) → ltb limit (entry l 0 (suc k)) ≡ b → pick b true (over limit k l) ≡ false
        → (over limit k l ≡ false → Under limit k l) → Dec (m ≡ suc k) → entry l 0 m ≤ limit
    go true a f ih d = let z : ◌≡◌ {A = ℕ} 0 1 = cc in absurd (omega arith)
    go false a f ih (yes d) = rw d (ltb-false limit (entry l 0 (suc k)) a)
    go false a f ih (no d) = ih f m p (omega arith)

past : (l : List ℕ) (m : ℕ) → length l < m → entry l 0 m ≡ 0
unfolding entry
past l zero h = refl
past l (suc m) h = get_or-eq_default l 0 (omega arith)

module _ (limit k : ℕ) (l : List ℕ) (u : Under limit k l) where
  under_write : (n a : ℕ) → a ≤ limit → Under limit k (write l n a)
  under_write n a h m p q = go (ℕ_discrete m n) (dec_le m (length l))
    where
      go : Dec (m ≡ n) → Dec (m ≤ length l) → entry (write l n a) 0 m ≤ limit
      go (no d) e = subst (λ x. x ≤ limit) (sym (entry_other l n m a 0 d)) (u m p q)
      go (yes d) (yes e) = subst (λ x. x ≤ limit) (sym (subst (λ j. entry (write l j a) 0 m ≡ a) d (entry_same l m a 0 p e))) h
      go (yes d) (no e) = subst (λ x. x ≤ limit) (sym (past (write l n a) m (omega (arith, length_write l n a)))) (omega arith)

  under_clear : (mine : ℕ → Bool) → Under limit k (clear mine 0 l)
  under_clear mine m p q = go (mine m) refl (dec_le m (length l))
    where
      go : (b : Bool) → mine m ≡ b → Dec (m ≤ length l) → entry (clear mine 0 l) 0 m ≤ limit
      go true e (yes d) = subst (λ x. x ≤ limit) (sym (clear_mine mine 0 l m e p d)) (omega arith)
      go true e (no d) = subst (λ x. x ≤ limit) (sym (past (clear mine 0 l) m (omega (arith, length_clear mine 0 l)))) (omega arith)
      go false e d = subst (λ x. x ≤ limit) (sym (clear_other mine 0 l m (λ z. e))) (u m p q)

under_opened : (limit k : ℕ) (l ns : List ℕ) → 1 ≤ limit → Under limit k l → Under limit k (opened l ns)
unfolding opened
under_opened limit k l [] h u = u
under_opened limit k l (n ∷ ns) h u = under_opened limit k (write l n 1) ns h (under_write limit k l u n 1 h)

-- a step keeps it, in any state
module _ (t : List ℕ) (s : State512) (st : Stands t s) (n : ℕ) (inside : n ≤ nodes t) where
  abbrev N : ℕ
  N = nodes t

  a : Under 3 N s.status
  a = under 3 N s.status (stands_parts t s st).0

  held : over N (functions t) s.occupant ≡ false
  held = (stands_parts t s st).1

  o : Under N (functions t) s.occupant
  o = under N (functions t) s.occupant held

  wrote : (m x : ℕ) → x ≤ 3 → over 3 N (write s.status m x) ≡ false
  wrote m x h = over_none 3 N (write s.status m x) (under_write 3 N s.status a m x h)

  fresh : (g r : ℕ) → over 3 N (write (clear (mine N (owner t) g) 0 s.status) r 1) ≡ false
  fresh g r = over_none 3 N _ (under_write 3 N (clear (mine N (owner t) g) 0 s.status) (under_clear 3 N s.status a
      (mine N (owner t) g)) r 1
      (omega arith))

  pub kept : (m : Move) → Stands t (perform N (owner t) (body_of t) s n m)
  kept (begins ns) = stands_by t _ (over_none 3 N _ (under_opened 3 N (write s.status n 2) ns (omega arith)
      (under_write 3 N s.status a n 2 (omega arith)))) held
  kept (turns k) = stands_by t _ (wrote k 1 (omega arith)) held
  kept (finishes v) = stands_by t _ (wrote n 3 (omega arith)) held
  kept (enters g vs) = stands_by t _ (fresh g (id (body_of t g)))
      (over_none N (functions t) _ (under_write N (functions t) s.occupant o g n inside))
  kept (leaves g v) = stands_by t _ (wrote n 3 (omega arith))
      (over_none N (functions t) _ (under_write N (functions t) s.occupant o g 0 (omega arith)))
  kept (restarts f vs) = stands_by t _ (fresh f (id (body_of t f))) held
