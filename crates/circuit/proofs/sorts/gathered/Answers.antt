-- `sorts::gathered` meets its contract: by a child that is not done, else by kind.
use Rattle.std.proofs.Common.{◌≡◌, ◌≤◌, sym, ◌∙◌, subst, ⊎_elim, arith}
use native.Mathlib.Decide.{ℕ_discrete}
use Rattle.table.specs.Bytes.{kind}
use Rattle.table.proofs.Reading.{told}
use Rattle.rules.specs.State.{In}
use Rattle.circuit.proofs.ChainLaws.{ok}
use Rattle.circuit.proofs.OpensLaws.{opens_all}
use Rattle.circuit.proofs.SortLaws.{sort_prim, gathered_prim}
use Rattle.circuit.proofs.WaitLaws.{busy_waits, Gathering, gathering, not_if, undone_child}
use Rattle.circuit.proofs.sorts.gathered.Goals as goal
use Rattle.circuit.proofs.sorts.gathered.Lts as lts
use Rattle.circuit.proofs.sorts.gathered.Reads as reads
use Rattle.circuit.proofs.sorts.gathered.Tie as tie

abbrev Start : Type 0
Start = lts.Start tie.the-claims reads.Pre reads.Post

abbrev AfterKind : Type 0
AfterKind = lts.After-kind tie.the-claims reads.Pre reads.Post

abbrev gathers : (s : Start) → Gathering s.args.design.now.table.now s.args.status.now s.args.second.now s.args.n.0
gathers s = gathering _ _ _ _ s.requires.1

read : (c : AfterKind) → c.kind.result ≡ kind c.args.design.now.table.now c.args.n.0
read c = told _ _ c.args.design.now.read _ c.requires.0 0 _ (omega arith) c.kind.ensures

pub undone-requires : goal.undone-requires
undone-requires c = go (search) (ℕ_discrete c.args.d.0 0)
  where
    go : (s : Start) → Dec (s.args.d.0 ≡ 0) → s.args.d.0 ≤ 512
    go s (yes e) = omega (arith, e)
    go s (no e) = omega (arith, (s.requires.2 e).0.1, (ok _ s.args.design.now.read.taken).n_high)

pub returns-then-undone : goal.returns-then-undone
returns-then-undone c = let fair = c.args.design.now.read.taken in
    let w = undone_child _ _ _ c.undone.ensures c.if-undone.true in
    let q = not_if _ _ _ _ (gathers (search)) in
    λ x y z. busy_waits _ fair _ c.requires.0 _ _ x y z (gathers (search)).busy (gathers (search)).phase c.args.d.0
    (subst (In c.args.d.0) (sym (opens_all _ fair _ c.requires.0 q.0 q.1)) (c.requires.2 w.0).1) w.1

pub returns-then-kind-eq3 : goal.returns-then-kind-eq3
returns-then-kind-eq3 c = let p = c.requires in
    λ x y z. sort_prim _ c.args.design.now.read.taken _ p.0 _ _ x y z (gathers (search)).busy _ (sym (read (search)) ∙ c.if-kind-eq3.true)
    (gathered_prim _ _ _ _ _ c.once_all_done.ensures)

pub of_call-requires : goal.of_call-requires
of_call-requires c = (
  c.requires.0,
  (gathers (search)).busy,
  ⊎_elim (λ e. absurd (c.if-kind-eq3.false (read (search)
      ∙ e))) (λ e. e) (gathers (search)).kinds,
)
