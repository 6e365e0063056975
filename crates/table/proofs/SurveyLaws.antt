-- the survey of a table, from what its parts give
use Prim.Native.Nat.{ℕ, zero, suc, ◌≤◌}
use mathlib.Core.Bool.{Bool, true, false}
use mathlib.Core.Path.{◌≡◌, refl, subst, sym, ap, ap₂, ◌∙◌}
use mathlib.Core.List.{List}
use native.Mathlib.Omega.{arith}
use lib.Dec.{leb, eqb→eq}
use lib.ListN.{length}
use borrow.Author.Tests.{le-leb, eq-eqb}
use Rattle.table.proofs.Tests.{true_t}
use Rattle.std.proofs.Common.{Result, Ok, Err}
use Rattle.table.specs.declared.Design.{Design}
use Rattle.table.specs.declared.refusals.Reason.{Reason}
use Rattle.table.specs.declared.refusals.Refusal.{Refusal}
use Rattle.table.specs.Pick.{pick}
use Rattle.table.specs.Bytes.{functions, nodes, root}
use Rattle.table.specs.Find.{all, lowest}
use Rattle.table.specs.Check.{
  among,
  Verdict,
  accepted,
  refused,
  stage,
  sizes,
  whole,
  root_fits,
  linked,
  record_fits,
  if_accepted,
  check_of,
}
use Rattle.table.specs.Working.{Framed, Linked, Taken, Decoded, Kindred, Settles, Read, frame_number}
use Rattle.table.specs.Working.{check_nodes}
use Rattle.table.specs.Refusals.{number_of}
use Rattle.table.specs.Survey.{verdict_of}
use Rattle.table.specs.Decoded.{decoded_into, surveyed}
use Rattle.table.proofs.FindLaws.{both, all_passes, lowest_passes}
use Rattle.table.proofs.Passed.{in_range, params_small, kind_small, passed}
use Rattle.table.proofs.DecodedLaws.{Small, decoded_read}
use Rattle.table.proofs.Reasons.{reason_apart}

-- the first three numbers
abbrev Sizes : List ℕ → Type 0
Sizes t = (leb 4 (length t) ≡ true) × (sizes t ≡ true) × (whole t ≡ true)

pick_true : (b : Bool) (x y : ℕ) → 1 ≤ y → pick b x y ≡ 0 → (b ≡ true) × (x ≡ 0)
pick_true true x y i h = (refl, h)
pick_true false x y i h = absurd (omega arith)

right_size : (t : List ℕ) → frame_number t ≡ 0 → Sizes t
unfolding frame_number
right_size t e =
    let a = pick_true (leb 4 (length t)) (pick (sizes t) (pick (whole t) 0 3) 2) 1 (omega arith) e in
    let b = pick_true (sizes t) (pick (whole t) 0 3) 2 (omega arith) a.1 in
    let c = pick_true (whole t) 0 3 (omega arith) b.1 in
    (a.0, b.0, c.0)

pub framed : (t : List ℕ) → frame_number t ≡ 0 → Framed t
unfolding sizes whole
framed t e =
    let s = right_size t e in
    let b = both (among 1 32 (functions t)) (among 1 512 (nodes t)) (true_t (sizes t) s.1) in
    let f = in_range 1 32 (functions t) b.0 in
    let n = in_range 1 512 (nodes t) b.1 in
    record { f_low = f.0; f_high = f.1; n_low = n.0; n_high = n.1; size = eqb→eq _ _ (true_t (whole t) s.2) }

pub frame_refused : (t : List ℕ) (k : ℕ) → k ≡ frame_number t → (k ≡ 0 → ⊥) → check_of t ≡ refused k 0
unfolding frame_number check_of stage
frame_refused t k e z = go (leb 4 (length t)) (sizes t) (whole t) refl refl refl
  where
    go : (a b c : Bool) → leb 4 (length t) ≡ a → sizes t ≡ b → whole t ≡ c → check_of t ≡ refused k 0
    go false b c p q r = rw p (ap (λ x. refused x 0) (sym (rw p at e)))
    go true false c p q r = rw (p, q) (ap (λ x. refused x 0) (sym (rw (p, q) at e)))
    go true true false p q r = rw (p, q, r) (ap (λ x. refused x 0) (sym (rw (p, q, r) at e)))
    go true true true p q r = absurd (z (rw (p, q, r) at e))

-- the numbers from 4 on, of a table of the right size
among_in : (low high n : ℕ) → low ≤ n → n ≤ high → among low high n ≡ true
among_in low high n a b = rw (le-leb low n a, le-leb n high b)

of_size : (t : List ℕ) → Framed t → Sizes t
unfolding sizes whole
of_size t fr = (
  le-leb 4 (length t) (omega (arith, fr.size)),
  rw (among_in 1 32 (functions t) fr.f_low fr.f_high, among_in 1 512 (nodes t) fr.n_low fr.n_high),
  eq-eqb _ _ fr.size,
)

module _ (t : List ℕ) (fr : Framed t) where
  abbrev fits : Bool
  fits = all (root_fits t) (functions t)

  abbrev unlinked : ℕ
  unlinked = lowest (linked t) (nodes t)

  abbrev records : Bool
  records = all (record_fits t) (functions t)

  pub roots_refused : fits ≡ false → check_of t ≡ refused 4 0
  unfolding check_of stage
  roots_refused e = let s = of_size t fr in rw (s.0, s.1, s.2, e)

  stopped : (k p q : ℕ) (rest : Unit {0} → Verdict) → p ≡ q → (q ≡ 0 → ⊥) → stage k true p rest ≡ refused k q
  unfolding stage
  stopped k zero q rest e z = absurd (z (sym e))
  stopped k (suc p) q rest e z = ap (refused k) e

  pub unlinked_refused : (p : ℕ) → fits ≡ true → p ≡ unlinked → (p ≡ 0 → ⊥) → check_of t ≡ refused 4 p
  unfolding check_of stage
  unlinked_refused p e f z = let s = of_size t fr in rw (s.0, s.1, s.2, e) (stopped 4 unlinked p _ (sym f) z)

  pub records_refused : fits ≡ true → unlinked ≡ 0 → records ≡ false → check_of t ≡ refused 5 0
  unfolding check_of stage
  records_refused e f g = let s = of_size t fr in rw (s.0, s.1, s.2, e, f, g)

  pub nodes_checked : fits ≡ true → unlinked ≡ 0 → records ≡ true → check_of t ≡ check_nodes t
  unfolding check_of check_nodes stage
  nodes_checked e f g = let s = of_size t fr in rw (s.0, s.1, s.2, e, f, g)

  pub links_pass : fits ≡ true → unlinked ≡ 0 → Linked t
  unfolding root_fits
  links_pass e f = record {
    roots = λ g i. in_range 1 (nodes t) (root t g) (all_passes (root_fits t) (functions t) (true_t fits e) g i.0 i.1);
    links = λ n i. lowest_passes (linked t) (nodes t) f n i.0 i.1;
  }

-- an equation on the verdict fixes the whole answer
pub verdict_apart : (a b : Result Design Refusal) → verdict_of a ≡ verdict_of b → a ≡ b
verdict_apart (Ok d) (Ok c) e = let p : d.main.0 ≡ c.main.0 = cc in let q : d.last.0 ≡ c.last.0 = cc in
    λ i. Ok (record { main = record { 0 = p i }; last = record { 0 = q i } })
verdict_apart (Ok d) (Err r) e = absurd (let z : ◌≡◌ {A = ℕ} 0 1 = cc in omega arith)
verdict_apart (Err r) (Ok d) e = absurd (let z : ◌≡◌ {A = ℕ} 0 1 = cc in omega arith)
verdict_apart (Err r) (Err s) e =
    let x : number_of r.reason ≡ number_of s.reason = cc in
    let y : r.place.0 ≡ s.place.0 = cc in
    let z = reason_apart r.reason s.reason x in
    λ i. Err (record { reason = z i; place = record { 0 = y i } })

-- the check's answer, with kin that is nothing where it is a refusal
pub refuses : (t kin : List ℕ) (r : Refusal) → check_of t ≡ refused (number_of r.reason) r.place.0 → Settles t (Err r) kin
refuses t kin r e = record { told = sym e; kindred = λ q. absurd (let z : ◌≡◌ {A = ℕ} 0 1 = cc in omega arith) }

pub refuses_at : (t kin : List ℕ) (k : Reason) (r : Refusal) → r ≡ record { reason = k; place = record { 0 = 0 } }
    → check_of t ≡ refused (number_of k) 0 → Settles t (Err r) kin
refuses_at t kin k r e h = rw e (refuses t kin (record { reason = k; place = record { 0 = 0 } }) h)

pub accepts : (t kin : List ℕ) (d : Design) → Taken t → d.main.0 ≡ functions t → d.last.0 ≡ nodes t → Kindred t kin → Settles t (Ok d) kin
accepts t kin d e ef en h = record { told = ap₂ accepted ef en ∙ sym e; kindred = λ q. h }

-- an accepted table: its answer names F and N, and its records can be read
pub taken_by : (t : List ℕ) (F N : ℕ) → accepted F N ≡ check_of t → Taken t × (F ≡ functions t) × (N ≡ nodes t)
taken_by t F N e =
    let p = passed t F N (sym e) in
    (sym e ∙ ap₂ accepted (sym p.1) (sym p.2), sym p.1, sym p.2)

pub taken_framed : (t : List ℕ) → Taken t → Framed t
taken_framed t e =
    let p = (passed t (functions t) (nodes t) e).0 in
    record { f_low = p.f_low; f_high = p.f_high; n_low = p.n_low; n_high = p.n_high; size = p.size }

pub taken_small : (t : List ℕ) → Taken t → Small t
taken_small t e =
    let p = (passed t (functions t) (nodes t) e).0 in
    record {
      framed = taken_framed t e;
      kinds = λ n i. omega (arith, kind_small t p n i);
      counts = λ f i. omega (arith, params_small t p f i);
    }

-- the cells of an accepted table are filled, those of a refused one kept
pub surveyed_in : (t cells cells' : List ℕ) → Taken t → cells' ≡ decoded_into t cells → cells' ≡ surveyed t cells
unfolding surveyed
surveyed_in t cells cells' e q = q ∙ sym (ap (λ v. if_accepted v (decoded_into t cells) cells) e)

pub surveyed_out : (t cells : List ℕ) (k p : ℕ) → refused k p ≡ check_of t → cells ≡ surveyed t cells
unfolding surveyed
surveyed_out t cells k p e = ap (λ v. if_accepted v (decoded_into t cells) cells) e

-- what a survey says: an accepted table can be read
pub survey_taken : (t cells cells' : List ℕ) (r : Result Design Refusal) (d : Design) → length cells ≡ 3270 → verdict_of r ≡ check_of t
    → cells' ≡ surveyed t cells → r ≡ Ok d → Read t cells' × (d.main.0 ≡ functions t) × (d.last.0 ≡ nodes t)
unfolding surveyed
survey_taken t cells cells' r d size told q e =
    let k = taken_by t d.main.0 d.last.0 (sym (ap verdict_of e) ∙ told) in
    let into = q ∙ ap (λ v. if_accepted v (decoded_into t cells) cells) k.0 in
    (record { taken = k.0; told = subst (Decoded t) (sym into) (decoded_read t cells (taken_small t k.0) size) }, k.1, k.2)
