-- `begin::start` meets its contract, by the number of arguments and what the tags lack.
use Rattle.std.proofs.Common.{◌≡◌, sym, refl, ap, ◌∙◌, subst}
use Rattle.table.specs.Bytes.{functions, params}
use Rattle.rules.specs.State.{State512}
use Rattle.rules.specs.Circuit.{started}
use Rattle.circuit.specs.Meaning.{OpenedAs, state_as}
use Rattle.circuit.proofs.BeginLaws.{start_count, start_short, start_goes, none_found}
use Rattle.circuit.proofs.begin.start.Goals as goal
use Rattle.circuit.proofs.begin.start.Lts as lts
use Rattle.circuit.proofs.begin.start.Reads as reads
use Rattle.circuit.proofs.begin.start.Tie as tie

abbrev AfterParams : Type 0
AfterParams = lts.After-params tie.the-claims reads.Pre reads.Post

abbrev Start : Type 0
Start = lts.Start tie.the-claims reads.Pre reads.Post

count : (c : AfterParams) → let t = c.args.table.now in c.params-count.result ≡ params t (functions t)
count c =
    c.params-count.ensures ∙ ap (params c.args.table.now) c.functions-main.ensures

abbrev state : Start → State512
state s = state_as s.args.status.now s.args.second.now s.args.value.now s.args.registers.now s.args.occupant.now

pub returns-then-args-count : goal.returns-then-args-count
returns-then-args-count c = λ tags e m. rw c.into.ensures (subst (OpenedAs _ _ _) (start_count _ _ _ (record {
  fair = c.requires;
  tagging = e;
}) _ (count (search)) c.if-args-count.true) (record { answer = refl; state = refl }))

pub returns-in-Some : goal.returns-in-Some
returns-in-Some c = λ tags e m. subst (OpenedAs _ _ _) (start_short _ _ _ (record { fair = c.requires; tagging = e }) _ (count (search))
    c.if-args-count.false c.in-Some.place (sym c.in-Some.is ∙ m))
    (record { answer = refl; state = refl })

pub returns : goal.returns
returns c = let e = c.open_main.ensures in
    λ tags q m.
    let goes = start_goes _ _ _ (record { fair = c.requires; tagging = q }) _ (count (search)) c.if-args-count.false
    (none_found _ _ m c.in_default.not-Some) in
    subst (OpenedAs (state (search)) _ _) goes (record { answer = ap started e; state = e })
