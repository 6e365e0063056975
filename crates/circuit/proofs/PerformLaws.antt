-- what each arm of the code that makes a move leaves is what the move makes
use Rattle.std.proofs.Common.{◌≡◌, ℕ, Bool, true, false, List, map, sym, refl, ap, ◌∙◌, subst, ne_eqb}
use Rattle.table.specs.Syntax.{id}
use Rattle.table.specs.Bytes.{functions, nodes, root, kind, first}
use Rattle.table.specs.Naming.{owner, chain, children, initial}
use Rattle.table.specs.Expressions.{expr_at, body_of}
use Rattle.table.specs.Working.{IsNode, IsFunction}
use Rattle.table.proofs.Bodies.{id_body}
use Rattle.rules.specs.State.{State512, view, entry, write, opened, clear, fill}
use Rattle.rules.specs.Step.{does, Move, begins, turns, enters, leaves, restarts, mine}
use Rattle.rules.specs.Arithmetic.{keep_all, arithmetic}
use Rattle.rules.specs.Circuit.{act_of}
use Rattle.circuit.specs.Meaning.{state_as}
use Rattle.table.specs.Working.{Taken}
use Rattle.circuit.specs.declared.plan.Plan.{Plan}
use Rattle.table.specs.declared.Function.{Function}
use Rattle.table.specs.declared.Node.{Node}
use Rattle.circuit.specs.Working.{leading, given, kept_by, opens, Planned, performed, Sound}
use Rattle.rules.proofs.Demands.{lay}
use Rattle.rules.proofs.Performed.{FairAct}
use Rattle.rules.proofs.StepTaken.{act_fair}
use Rattle.circuit.proofs.ChainLaws.{ok}

-- what a node opens, by its kind
module _ (t : List ℕ) (n k : ℕ) (ek : k ≡ kind t n) (c : ℕ) (ec : c ≡ first t n) (l₀ l : List ℕ) (e : l ≡ write l₀ n 2) where
  pub begin_if : k ≡ 5 → (l' : List ℕ) → l' ≡ write l c 1 → l' ≡ opened (write l₀ n 2) (opens t n)
  unfolding opens opened
  begin_if h l' e' = e' ∙ (λ i. write (e i) (ec i) 1) ∙ sym (rw (sym ek ∙ h) refl)

  pub begin_let : k ≡ 6 → (l' : List ℕ) → l' ≡ opened l (leading true (chain t c)) → l' ≡ opened (write l₀ n 2) (opens t n)
  unfolding opens children
  begin_let h l' e' = e' ∙ (λ i. opened (e i) (initial (chain t (ec i)))) ∙ sym (rw (sym ek ∙ h) refl)

  pub begin_all : (k ≡ 5 → ⊥) → (k ≡ 6 → ⊥) → (l' : List ℕ) → l' ≡ opened l (leading false (chain t c)) → l'
      ≡ opened (write l₀ n 2) (opens t n)
  unfolding opens children
  begin_all p q l' e' = e' ∙ (λ i. opened (e i) (chain t (ec i)))
      ∙ sym (rw (ne_eqb (kind t n) 5 (λ z. p (ek ∙ z)), ne_eqb (kind t n) 6 (λ z. q (ek ∙ z))) refl)

module _ (t : List ℕ) (fair : Taken t) (n : ℕ) (i : IsNode t n) (a : List ℕ) (b : List Bool) (c d e : List ℕ) where
  abbrev s : State512
  s = state_as a b c d e

  act_in : FairAct (functions t) (nodes t) (owner t) (body_of t) (id (expr_at t n)) (act_of t s n)
  act_in =
      let laid = lay t (functions t) (nodes t) fair in
      act_fair (arithmetic t) laid (view s) (owner t n) (laid.home_there n i) (expr_at t n) (laid.placed n i)

  there : (m : Move) → does m ≡ act_of t s n → FairAct (functions t) (nodes t) (owner t) (body_of t) (id (expr_at t n)) (does m)
  there m q = subst (FairAct (functions t) (nodes t) (owner t) (body_of t) (id (expr_at t n))) (sym q) act_in

  enter_in : (g : ℕ) (vs : List ℕ) → does (enters g vs) ≡ act_of t s n → IsFunction t g
  enter_in g vs q = let x = there (enters g vs) q in (x.0, x.1)

  again_in : (g : ℕ) (vs : List ℕ) → does (restarts g vs) ≡ act_of t s n → IsFunction t g
  again_in g vs q = let x = there (restarts g vs) q in (x.0, x.1)

  -- what a plan names is there
  pub sound : (p : Plan) → Planned t s n p → Sound t n p
  sound Plan.Begins q = (there (begins (opens t n)) q).0
  sound (Plan.Turns m) q = there (turns m.0) q
  sound (Plan.Finishes v) q = tt
  sound (Plan.Enters g) q = enter_in g.0 (kept_by t c g.0 n) q
  sound (Plan.Restarts f) q = again_in f.0 (kept_by t c f.0 n) q
  sound (Plan.Leaves g v) q = there (leaves g.0 v) q

  pub begun : (a' : List ℕ) → a' ≡ opened (write a n 2) (opens t n) → state_as a' b c d e ≡ performed t s n Plan.Begins
  begun a' ea = λ j. state_as (ea j) b c d e

  pub turned : (m : Node) (a' : List ℕ) (b' : List Bool) → a' ≡ write a m.0 1 → b' ≡ write b n true
      → state_as a' b' c d e ≡ performed t s n (Plan.Turns m)
  turned m a' b' ea eb = λ j. state_as (ea j) (eb j) c d e

  module _ (v : ℕ) (a' : List ℕ) (b' : List Bool) (c' : List ℕ) (ea : a' ≡ write a n 3) (eb : b' ≡ write b n false)
      (ec : c' ≡ write c n v) where
    pub finished : state_as a' b' c' d e ≡ performed t s n (Plan.Finishes v)
    finished = λ j. state_as (ea j) (eb j) (ec j) d e

    pub left : (g : Function) (e' : List ℕ) → e' ≡ write e g.0 0 → state_as a' b' c' d e' ≡ performed t s n (Plan.Leaves g v)
    left g e' ee = λ j. state_as (ea j) (eb j) (ec j) d (ee j)

  module _ (g : Function) (f : IsFunction t g.0) (k : ℕ) (ek : k ≡ first t n) (a' : List ℕ) (b' : List Bool) (c' d' : List ℕ)
      (ea : a' ≡ write (clear (mine (nodes t) (owner t) g.0) 0 a) (root t g.0) 1)
      (eb : b' ≡ clear (mine (nodes t) (owner t) g.0) false b) (ec : c' ≡ clear (mine (nodes t) (owner t) g.0) 0 c)
      (ed : d' ≡ fill g.0 (keep_all (arithmetic t) g.0 (map (entry c 0) (chain t k))) d) where
    given_are : map (entry c 0) (chain t k) ≡ given t c n
    unfolding children
    given_are = ap (λ m. map (entry c 0) (chain t m)) ek

    root_is : root t g.0 ≡ id (body_of t g.0)
    root_is = sym (id_body t (ok t fair) g.0 f)

    status_is : a' ≡ write (clear (mine (nodes t) (owner t) g.0) 0 a) (id (body_of t g.0)) 1
    status_is = ea ∙ ap (λ m. write (clear (mine (nodes t) (owner t) g.0) 0 a) m 1) root_is

    registers_are : d' ≡ fill g.0 (kept_by t c g.0 n) d
    registers_are = ed ∙ ap (λ vs. fill g.0 (keep_all (arithmetic t) g.0 vs) d) given_are

    pub entered : (b'' : List Bool) → b'' ≡ write b' n true → (e' : List ℕ) → e' ≡ write e g.0 n
        → state_as a' b'' c' d' e' ≡ performed t s n (Plan.Enters g)
    entered b'' eb' e' ee = (λ j. state_as (status_is j) ((eb' ∙ ap (λ l. write l n true) eb) j) (ec j) (registers_are j) (ee j))

    pub restarted : state_as a' b' c' d' e ≡ performed t s n (Plan.Restarts g)
    restarted = (λ j. state_as (status_is j) (eb j) (ec j) (registers_are j) e)
