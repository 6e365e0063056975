-- the meaning of each type of the circuit tells its values apart: an equation on the meaning fixes the whole value
use Rattle.std.proofs.Common.{◌≡◌, ℕ, List, [], ◌∷◌, map, sym, refl, ap, ◌∙◌}
use Rattle.std.proofs.Common.{Option, None, Some, Result, Ok, Err}
use Rattle.table.specs.Refusals.{number_of}
use Rattle.table.specs.declared.Node.{Node}
use Rattle.table.specs.declared.refusals.Refusal.{Refusal}
use Rattle.table.proofs.Reasons.{reason_apart}
use Rattle.rules.specs.State.{State512}
use Rattle.rules.specs.Circuit as Circuit
use Rattle.rules.specs.Runs.{gave, at_rest, spent, barred}
use Rattle.rules.specs.Runs as Runs
use Rattle.circuit.specs.declared.types.State.{State}
use Rattle.circuit.specs.declared.types.Answer.{Answer}
use Rattle.circuit.specs.declared.types.Stepped.{Stepped}
use Rattle.circuit.specs.declared.types.Started.{Started}
use Rattle.circuit.specs.declared.types.Ran.{Ran}
use Rattle.circuit.specs.declared.types.Ended.{Ended}
use Rattle.circuit.specs.declared.types.Driven.{Driven}
use Rattle.circuit.specs.Meaning.{numbers, lists_of, reply_of, stepped_of, opening_of, StartedAs, halt_of, ran_of, ended_of, driven_of}
use Rattle.circuit.specs.Meaning.{found_of, OpenedAs, stepped_as, RanLent, DrivenLent}

-- a function that is undone by another tells its arguments apart
apart : {A B : Type 0} (f : A → B) (back : B → A) → ((a : A) → back (f a) ≡ a) → (a b : A) → f a ≡ f b → a ≡ b
apart f back e a b p = sym (e a) ∙ ap back p ∙ e b

abbrev node_of : ℕ → Node
node_of n = record { 0 = n }

numbers_back : (l : List Node) → map node_of (numbers l) ≡ l
numbers_back [] = refl
numbers_back (x ∷ l) = ap (λ m. x ∷ m) (numbers_back l)

pub state_same : (s t : State) → lists_of s ≡ lists_of t → s ≡ t
state_same s t e =
    let o = apart numbers (map node_of) numbers_back s.occupant t.occupant (ap (λ x. x.occupant) e) in
    (λ i. record { status = (e i).status; second = (e i).second; value = (e i).value; registers = (e i).registers; occupant = o i })

-- a refusal by its number and its place
refusal_same : (a b : Refusal) → number_of a.reason ≡ number_of b.reason → a.place.0 ≡ b.place.0 → a ≡ b
refusal_same a b x y =
    let z = reason_apart a.reason b.reason x in
    (λ i. record { reason = z i; place = record { 0 = y i } })

pub answer_same : (a b : Answer) → reply_of a ≡ reply_of b → a ≡ b
answer_same Answer.Taken Answer.Taken e = refl
answer_same (Answer.Answered v) (Answer.Answered w) e = let x : v ≡ w = cc in ap Answer.Answered x
answer_same (Answer.Refused k p) (Answer.Refused j q) e =
    let x : number_of k ≡ number_of j = cc in
    let y : p.0 ≡ q.0 = cc in
    let z = reason_apart k j x in
    (λ i. Answer.Refused (z i) (record { 0 = y i }))
answer_same Answer.Taken (Answer.Answered w) e = cc
answer_same Answer.Taken (Answer.Refused j q) e = cc
answer_same (Answer.Answered v) Answer.Taken e = cc
answer_same (Answer.Answered v) (Answer.Refused j q) e = cc
answer_same (Answer.Refused k p) Answer.Taken e = cc
answer_same (Answer.Refused k p) (Answer.Answered w) e = cc

pub stepped_same : (r s : Stepped) → stepped_of r ≡ stepped_of s → r ≡ s
stepped_same r s e =
    let a = answer_same r.answer s.answer (ap (λ x. x.answer) e) in
    let t = state_same r.state s.state (ap (λ x. x.state) e) in
    (λ i. record { answer = a i; state = t i })

opening_same : (a b : Result (Unit {0}) Refusal) (s t : State512) → opening_of a s ≡ opening_of b t → a ≡ b
opening_same (Ok u) (Ok v) s t e = refl
opening_same (Ok u) (Err q) s t e = cc
opening_same (Err r) (Ok v) s t e = cc
opening_same (Err r) (Err q) s t e = ap Err (refusal_same r q (cc) (cc))

pub started_same : (old : State) (r s : Started) (x : Circuit.Started) → StartedAs old r x → StartedAs old s x → r ≡ s
started_same old r s x p q =
    let o = opening_same r.opening s.opening (lists_of r.state) (lists_of s.state) (p.answer ∙ sym q.answer) in
    let t = state_same r.state s.state (p.state ∙ sym q.state) in
    (λ i. record { opening = o i; state = t i })

halt_same : (a b : Result (Unit {0}) Refusal) → halt_of a ≡ halt_of b → a ≡ b
halt_same (Ok u) (Ok v) e = refl
halt_same (Ok u) (Err q) e = cc
halt_same (Err r) (Ok v) e = cc
halt_same (Err r) (Err q) e = ap Err (refusal_same r q (cc) (cc))

pub ran_same : (r s : Ran) → ran_of r ≡ ran_of s → r ≡ s
ran_same r s e =
    let h = halt_same r.halt s.halt (ap (λ x. x.halt) e) in
    let t = state_same r.state s.state (ap (λ x. x.state) e) in
    (λ i. record { steps = (e i).steps; halt = h i; state = t i })

ended_back : Runs.Ended → Ended
ended_back (gave v) = Ended.Answered v
ended_back at_rest = Ended.AtRest
ended_back spent = Ended.Spent
ended_back (barred k p) = Ended.Spent

ended_same : (a b : Result Ended Refusal) → ended_of a ≡ ended_of b → a ≡ b
ended_same (Ok a) (Ok b) e = ap Ok (apart (λ x. ended_of (Ok x)) ended_back undone a b e)
  where
    undone : (a : Ended) → ended_back (ended_of (Ok a)) ≡ a
    undone (Ended.Answered v) = unfold ended_back in refl
    undone Ended.AtRest = unfold ended_back in refl
    undone Ended.Spent = unfold ended_back in refl
ended_same (Ok (Ended.Answered v)) (Err q) e = cc
ended_same (Ok Ended.AtRest) (Err q) e = cc
ended_same (Ok Ended.Spent) (Err q) e = cc
ended_same (Err r) (Ok (Ended.Answered v)) e = cc
ended_same (Err r) (Ok Ended.AtRest) e = cc
ended_same (Err r) (Ok Ended.Spent) e = cc
ended_same (Err r) (Err q) e = ap Err (refusal_same r q (cc) (cc))

pub driven_same : (r s : Driven) → driven_of r ≡ driven_of s → r ≡ s
driven_same r s e =
    let h = ended_same r.ended s.ended (ap (λ x. x.ended) e) in
    let t = state_same r.state s.state (ap (λ x. x.state) e) in
    (λ i. record { steps = (e i).steps; ended = h i; state = t i })

pub found_same : (a b : Result (Option Node) Refusal) → found_of a ≡ found_of b → a ≡ b
found_same (Ok None) (Ok None) e = refl
found_same (Ok (Some m)) (Ok (Some n)) e = let x : m.0 ≡ n.0 = cc in (λ i. Ok (Some (record { 0 = x i })))
found_same (Ok None) (Ok (Some n)) e = cc
found_same (Ok (Some m)) (Ok None) e = cc
found_same (Ok None) (Err q) e = cc
found_same (Ok (Some m)) (Err q) e = cc
found_same (Err r) (Ok None) e = cc
found_same (Err r) (Ok (Some n)) e = cc
found_same (Err r) (Err q) e = ap Err (refusal_same r q (cc) (cc))

-- of lent arrays: the answer, and what they hold
pub opened_lent : (old : State512) (a b : Result (Unit {0}) Refusal) (s t : State512) (x : Circuit.Started) → OpenedAs old a s x
    → OpenedAs old b t x → (a ≡ b) × (s ≡ t)
opened_lent old a b s t x p q = (opening_same a b s t (p.answer ∙ sym q.answer), p.state ∙ sym q.state)

pub stepped_lent : (a b : Answer) (s t : State512) → stepped_as a s ≡ stepped_as b t → (a ≡ b) × (s ≡ t)
stepped_lent a b s t e = (answer_same a b (ap (λ x. x.answer) e), ap (λ x. x.state) e)

pub ran_lent : (t tags : List ℕ) (s : State512) (ns : List ℕ) (old : ℕ) (h g : Result (Unit {0}) Refusal) (u w : State512) (k l : ℕ)
    → RanLent t tags s ns old h u k → RanLent t tags s ns old g w l → (h ≡ g) × (u ≡ w) × (k ≡ l)
ran_lent t tags s ns old h g u w k l p q =
    (halt_same h g (p.halt ∙ sym q.halt), p.state ∙ sym q.state, p.count ∙ sym q.count)

pub driven_lent : (t tags : List ℕ) (s : State512) (budget old : ℕ) (e f : Result Ended Refusal) (u w : State512) (k l : ℕ)
    → DrivenLent t tags s budget old e u k → DrivenLent t tags s budget old f w l → (e ≡ f) × (u ≡ w) × (k ≡ l)
driven_lent t tags s budget old e f u w k l p q =
    (ended_same e f (p.ended ∙ sym q.ended), p.state ∙ sym q.state, p.count ∙ sym q.count)
