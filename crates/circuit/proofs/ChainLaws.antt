-- a chain of siblings, node by node: all done, the last one, opened one after the other
use Rattle.std.proofs.Common.{◌≡◌, ℕ, ◌+◌, ◌-◌, ◌<◌, ◌≤◌, Bool, true, false, ◌&&◌, eqb, ◌⊎◌, List, [], ◌∷◌, get_or, sym, refl, ap, ◌∙◌, inl}
use Rattle.std.proofs.Common.{inr, arith, eq-eqb, ne_eqb, eqb-true}
use native.Mathlib.Decide.{ℕ_discrete}
use borrow.Author.Tests.{eqb-false}
use Rattle.table.specs.Pick.{pick}
use Rattle.table.specs.Bytes.{functions, nodes, first, next}
use Rattle.table.specs.Naming.{chain, initial}
use Rattle.table.specs.Working.{IsNode, Linked}
use Rattle.table.proofs.Passed.{Passed, passed}
use Rattle.table.proofs.Links.{link}
use Rattle.table.proofs.Tree.{chain_none, chain_some, first_or, next_or}
use Rattle.rules.specs.State.{write, opened}
use Rattle.rules.specs.Operations.{last_value, operate}
use Rattle.table.specs.Working.{Taken}
use Rattle.circuit.specs.Working.{each_done, leading, last_from}
use Rattle.circuit.proofs.OperationLaws.{operate_by}

-- what is left of a chain
abbrev pub rest : List ℕ → ℕ → ℕ
rest t at = pick (eqb at 0) 0 (nodes t + 1 - at)

module _ (t : List ℕ) (fair : Taken t) where
  pub ok : Passed t
  ok = (passed t (functions t) (nodes t) fair).0

  abbrev lk : Linked t
  lk = ok.linking

  below : (m : ℕ) → (m ≡ 0) ⊎ IsNode t m → m ≤ nodes t
  below m (inl z) = omega arith
  below m (inr i) = i.1

  pub first_in_lem : (n : ℕ) → IsNode t n → (c : ℕ) → c ≡ first t n → c ≤ nodes t
  first_in_lem n i c e = rw e (below (first t n) (first_or t lk n i))

  pub chain_end : (at : ℕ) → at ≡ 0 → chain t at ≡ []
  chain_end at z = ap (chain t) z ∙ chain_none t lk

  module _ (at : ℕ) (some : at ≡ 0 → ⊥) (inside : at ≤ nodes t) (on : ℕ) (e : on ≡ next t at) where
    node : IsNode t at
    node = (omega arith, inside)

    pub chain_here : chain t at ≡ at ∷ chain t on
    chain_here = chain_some t lk at node ∙ ap (λ x. at ∷ chain t x) (sym e)

    pub next_in : on ≤ nodes t
    next_in = rw e (below (next t at) (next_or t lk at node))

    further : (on ≡ 0 → ⊥) → at < on
    further z = let l = (link t lk at node).next_on (λ q. z (e ∙ q)) in omega (arith, l.0, e)

    pub falls : rest t on < rest t at
    falls = rw (ne_eqb at 0 some) (go (ℕ_discrete on 0))
      where
        go : Dec (on ≡ 0) → rest t on < nodes t + 1 - at
        go (yes z) = rw (eq-eqb on 0 z) (omega arith)
        go (no z) = rw (ne_eqb on 0 z) (omega (arith, further z, inside))

    pub last_more : (d : ℕ) → last_from d (chain t at) ≡ last_from at (chain t on)
    unfolding last_from
    last_more d = ap (last_from d) chain_here

  module _ (at : ℕ) (z : at ≡ 0) where
    pub last_ends : (d : ℕ) → last_from d (chain t at) ≡ d
    unfolding last_from
    last_ends d = ap (last_from d) (chain_end at z)

  -- all of a chain, or all but the last (defs)
  pub leading_ends : (defs : Bool) (at : ℕ) → at ≡ 0 → leading defs (chain t at) ≡ []
  unfolding initial
  leading_ends defs at z = ap (leading defs) (chain_end at z) ∙ go defs
    where
      go : (b : Bool) → leading b [] ≡ []
      go true = refl
      go false = refl

  module _ (defs : Bool) (at : ℕ) (some : at ≡ 0 → ⊥) (inside : at ≤ nodes t) (on : ℕ) (e : on ≡ next t at) where
    pub leading_last : (defs && eqb on 0) ≡ true → leading defs (chain t at) ≡ []
    unfolding initial
    leading_last h =
        let b = and_both defs (eqb on 0) h in
        rw b.0 (ap initial (chain_here at some inside on e ∙ ap (λ l. at ∷ l) (chain_end on (eqb-true on 0 b.1))))
      where
        and_both : (x y : Bool) → (x && y) ≡ true → (x ≡ true) × (y ≡ true)
        and_both true y q = (refl, q)
        and_both false y q = absurd (let z : ◌≡◌ {A = ℕ} 0 1 = cc in omega arith)

    pub leading_more : (defs && eqb on 0) ≡ false → leading defs (chain t at) ≡ at ∷ leading defs (chain t on)
    unfolding initial
    leading_more h = go defs h
      where
        go : (d : Bool) → (d && eqb on 0) ≡ false → leading d (chain t at) ≡ at ∷ leading d (chain t on)
        go true q =
            let r = chain_here on (eqb-false on 0 q) (next_in at some inside on e) (next t on) refl in
            ap initial (chain_here at some inside on e ∙ ap (λ l. at ∷ l) r) ∙ ap (λ l. at ∷ initial l) (sym r)
        go false q = chain_here at some inside on e

    module _ (st : ℕ → ℕ) where
      pub done_last : (defs && eqb on 0) ≡ true → each_done st (leading defs (chain t at)) ≡ true
      unfolding each_done
      done_last h = ap (each_done st) (leading_last h)

      pub done_more : (defs && eqb on 0) ≡ false → (x : ℕ) → x ≡ st at → x ≡ 3
          → each_done st (leading defs (chain t at)) ≡ each_done st (leading defs (chain t on))
      unfolding each_done
      done_more h x ex q = ap (each_done st) (leading_more h)
          ∙ ap (λ b. b && each_done st (leading defs (chain t on))) (eq-eqb (st at) 3 (sym ex ∙ q))

      pub done_stops : (defs && eqb on 0) ≡ false → (x : ℕ) → x ≡ st at → (x ≡ 3 → ⊥)
          → each_done st (leading defs (chain t at)) ≡ false
      unfolding each_done
      done_stops h x ex q = ap (each_done st) (leading_more h)
          ∙ ap (λ b. b && each_done st (leading defs (chain t on))) (ne_eqb (st at) 3 (λ z. q (ex ∙ z)))

    pub open_last : (l : List ℕ) → (defs && eqb on 0) ≡ true → opened l (leading defs (chain t at)) ≡ l
    unfolding opened
    open_last l h = ap (opened l) (leading_last h)

    pub open_more : (l : List ℕ) → (defs && eqb on 0) ≡ false
        → opened l (leading defs (chain t at)) ≡ opened (write l at 1) (leading defs (chain t on))
    unfolding opened
    open_more l h = ap (opened l) (leading_more h)

  pub done_ends : (defs : Bool) (at : ℕ) → at ≡ 0 → (st : ℕ → ℕ) → each_done st (leading defs (chain t at)) ≡ true
  unfolding each_done
  done_ends defs at z st = ap (each_done st) (leading_ends defs at z)

  pub open_ends : (defs : Bool) (at : ℕ) → at ≡ 0 → (l : List ℕ) → opened l (leading defs (chain t at)) ≡ l
  unfolding opened
  open_ends defs at z l = ap (opened l) (leading_ends defs at z)

  -- an operation's values
  pub operate_by_lem : (op : ℕ) (vs : List ℕ) → operate op vs ≡ operate_by op (get_or vs 0 0) (get_or vs 1 0) (last_value vs)
  unfolding operate last_value
  operate_by_lem op vs = refl
