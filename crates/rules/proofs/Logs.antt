-- the log that the proofs build, the last step first, says what `played` says
use Prim.Native.Nat.{ℕ, suc, ◌+◌}
use mathlib.Core.Path.{◌≡◌, refl, ap, ◌∙◌}
use mathlib.Core.Logic.{◌⊎◌, inl, inr, ⊎_elim}
use mathlib.Core.List.{List, [], ◌∷◌, ◌++◌}
use native.Mathlib.Omega.{arith}
use lib.ListN.{length}
use lib.Dec.{eqb}
use mathlib.Core.Bool.{Bool, true, false}
use Rattle.table.specs.Pick.{pick}
use Rattle.rules.specs.State.{State512, In}
use Rattle.rules.specs.Step.{Reply, taken, answered, denied, Stepped}
use Rattle.rules.specs.Play.{Ask, asks, Log, noted, before, played, count}

abbrev pub begin : State512 → Log
begin s = record { state = s; answers = []; nodes = [] }

abbrev pub logged : Log → ℕ → Stepped → Log
logged l n r = record { state = r.state; answers = r.answer ∷ l.answers; nodes = noted r.answer n l.nodes }

module _ {T : Type 0} (step : T → State512 → ℕ → Stepped) where
  abbrev pub more : Log → Ask T → Log
  more l a = logged l a.node (step a.tags l.state a.node)

  abbrev pub plays : Log → List (Ask T) → Log
  plays l [] = l
  plays l (a ∷ rest) = plays (more l a) rest

-- r has the steps of l and then those of p, in whatever order
record Joins (l p r : Log) : Type 0 where
  pub state : r.state ≡ p.state
  pub counts : (c : ℕ) → count c r.nodes ≡ count c l.nodes + count c p.nodes
  pub number : length r.nodes ≡ length l.nodes + length p.nodes
  pub out : (x : Reply) → In x r.answers → In x l.answers ⊎ In x p.answers
  pub into : (x : Reply) → In x l.answers ⊎ In x p.answers → In x r.answers

-- one more step taken
count_more : (c n : ℕ) (ns : List ℕ) (a b : ℕ) → a ≡ count c (n ∷ ns) + b → a ≡ count c ns + pick (eqb c n) (suc b) b
unfolding count
count_more c n ns a b = go (eqb c n)
  where
    go : (x : Bool) → a ≡ pick x (suc (count c ns)) (count c ns) + b → a ≡ count c ns + pick x (suc b) b
    go true e = omega arith
    go false e = omega arith

module _ (l p r : Log) (n : ℕ) (t : State512) where
  noted_counts : (x : Reply) (c : ℕ) → count c r.nodes ≡ count c (noted x n l.nodes) + count c p.nodes
      → count c r.nodes ≡ count c l.nodes + count c (noted x n p.nodes)
  unfolding count
  noted_counts taken c e = count_more c n l.nodes (count c r.nodes) (count c p.nodes) e
  noted_counts (answered v) c e = count_more c n l.nodes (count c r.nodes) (count c p.nodes) e
  noted_counts (denied k q) c e = e

  noted_number : (x : Reply) → length r.nodes ≡ length (noted x n l.nodes) + length p.nodes
      → length r.nodes ≡ length l.nodes + length (noted x n p.nodes)
  noted_number taken e = omega arith
  noted_number (answered v) e = omega arith
  noted_number (denied k q) e = e

  shift : (x : Reply) → Joins (logged l n (record { answer = x; state = t })) p r
      → Joins l (before n (record { answer = x; state = t }) p) r
  shift x j = record {
    state = j.state;
    counts = λ c. noted_counts x c (j.counts c);
    number = noted_number x j.number;
    out = λ y i. swap y (j.out y i);
    into = λ y i. j.into y (back y i);
  }
    where
      swap : (y : Reply) → ((y ≡ x) ⊎ In y l.answers) ⊎ In y p.answers → In y l.answers ⊎ ((y ≡ x) ⊎ In y p.answers)
      swap y (inl (inl e)) = inr (inl e)
      swap y (inl (inr i)) = inl i
      swap y (inr i) = inr (inr i)

      back : (y : Reply) → In y l.answers ⊎ ((y ≡ x) ⊎ In y p.answers) → ((y ≡ x) ⊎ In y l.answers) ⊎ In y p.answers
      back y (inl i) = inl (inr i)
      back y (inr (inl e)) = inl (inl e)
      back y (inr (inr i)) = inr i

plus_zero : (k : ℕ) → k ≡ k + 0
plus_zero k = omega arith

module _ {T : Type 0} (step : T → State512 → ℕ → Stepped) where
  plays_joins : (l : Log) (asked : List (Ask T)) → Joins l (played step l.state asked) (plays step l asked)
  unfolding count
  plays_joins l [] = record {
    state = refl;
    counts = λ c. plus_zero (count c l.nodes);
    number = plus_zero (length l.nodes);
    out = λ x i. inl i;
    into = λ x i. ⊎_elim (λ z. z) absurd i;
  }
  plays_joins l (a ∷ rest) =
      let r : Stepped = step a.tags l.state a.node in
      shift l (played step r.state rest) (plays step (more step l a) rest) a.node r.state r.answer
      (plays_joins (more step l a) rest)

-- the same steps, in whatever order
pub record Alike (l p : Log) : Type 0 where
  pub state : l.state ≡ p.state
  pub counts : (c : ℕ) → count c l.nodes ≡ count c p.nodes
  pub number : length l.nodes ≡ length p.nodes
  pub out : (x : Reply) → In x l.answers → In x p.answers
  pub into : (x : Reply) → In x p.answers → In x l.answers

pub plays_alike : {T : Type 0} (step : T → State512 → ℕ → Stepped) (s : State512) (asked : List (Ask T))
    → Alike (plays step (begin s) asked) (played step s asked)
unfolding count
plays_alike step s asked = let j = plays_joins step (begin s) asked in record {
  state = j.state;
  counts = λ c. j.counts c ∙ zero_plus (count c (played step s asked).nodes);
  number = j.number ∙ zero_plus (length (played step s asked).nodes);
  out = λ x i. ⊎_elim absurd (λ z. z) (j.out x i);
  into = λ x i. j.into x (inr i);
}
  where
    zero_plus : (k : ℕ) → 0 + k ≡ k
    zero_plus k = omega arith

-- a longer list goes on from where a shorter one ended
module _ {T : Type 0} (step : T → State512 → ℕ → Stepped) where
  noted_join : (x : Reply) (n : ℕ) (ns ms : List ℕ) → noted x n (ns ++ ms) ≡ noted x n ns ++ ms
  noted_join taken n ns ms = refl
  noted_join (answered v) n ns ms = refl
  noted_join (denied k p) n ns ms = refl

  pub played_state : (s : State512) (xs ys : List (Ask T))
      → (played step s (xs ++ ys)).state ≡ (played step (played step s xs).state ys).state
  played_state s [] ys = refl
  played_state s (a ∷ xs) ys = played_state (step a.tags s a.node).state xs ys

  pub played_nodes : (s : State512) (xs ys : List (Ask T))
      → (played step s (xs ++ ys)).nodes ≡ (played step s xs).nodes ++ (played step (played step s xs).state ys).nodes
  played_nodes s [] ys = refl
  played_nodes s (a ∷ xs) ys =
      let r : Stepped = step a.tags s a.node in
      ap (noted r.answer a.node) (played_nodes r.state xs ys)
      ∙ noted_join r.answer a.node (played step r.state xs).nodes (played step (played step r.state xs).state ys).nodes

pub asks_join : {T : Type 0} (tags : T) (ns ms : List ℕ) → asks tags (ns ++ ms) ≡ asks tags ns ++ asks tags ms
asks_join tags [] ms = refl
asks_join tags (n ∷ ns) ms = ap (λ l. record { tags = tags; node = n } ∷ l) (asks_join tags ns ms)
