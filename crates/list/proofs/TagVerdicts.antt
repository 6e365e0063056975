-- refusal 10, case by case, and what a lent tag list holds then
use Rattle.std.proofs.Common.{◌≡◌, ℕ, zero, suc, ◌+◌, ◌-◌, ◌*◌, ◌/◌, ◌<◌, Bool, true, false, not, ◌&&◌, ◌||◌, eqb, List, length, get_or}
use Rattle.std.proofs.Common.{take, sym, refl, ap, ◌∙◌, ap₂, arith, eq-eqb, ne_eqb}
use Rattle.table.specs.Bytes.{functions, nodes, kind, word}
use Rattle.table.specs.Naming.{owner}
use Rattle.table.specs.Decoded.{cell_at, node_slot, table_slot}
use native.Mathlib.Decide.{ℕ_discrete}
use Rattle.table.specs.Find.{lowest, all}
use Rattle.table.specs.Check.{Verdict, accepted, refused, stage, check_of}
use Rattle.table.specs.Check.{if_accepted}
use Rattle.list.specs.Tags.{tagged, listed, is_call, tag_length, none_past, tag_fits, tags_refusal, cell_fits, held_by, tags_of, after}
use Rattle.list.specs.Tags.{check_with, fill_verdict}
use Rattle.list.proofs.CallWords.{call_low}
use Rattle.list.specs.Tags.{filled_tags}
use Rattle.table.specs.Working.{IsNode, Taken, Read}
use Rattle.table.proofs.LowestLaws.{lowest_same}
use Rattle.list.specs.Working.{Bit}
use Rattle.list.proofs.ListLaws.{tags_are, tags_short}

module _ (cells tags : List ℕ) where
  abbrev N : ℕ
  N = cell_at cells table_slot 2

  abbrev told : Verdict
  told = accepted (cell_at cells table_slot 0) N

  abbrev none : Bool
  none = all (λ i. not (tagged tags (N + i))) (8 * length tags - N)

  -- a tag list that was handed in
  pub wrong_length : (k : ℕ) → k ≡ N → (length tags ≡ (k + 7) / 8 → ⊥) → refused 10 0 ≡ held_by cells tags
  unfolding held_by stage
  wrong_length k e h =
      ap (λ b. stage 10 (b && none) (lowest (cell_fits cells tags) N) λ _. told)
      (sym (ne_eqb (length tags) ((N + 7) / 8) (λ q. h (q ∙ ap (λ n. (n + 7) / 8) (sym e)))))

  stage_by : (k : ℕ) → k ≡ N → (b : Bool) (place : ℕ) → length tags ≡ (k + 7) / 8 → none ≡ b → lowest (cell_fits cells tags) N ≡ place
      → held_by cells tags ≡ stage 10 b place (λ _. told)
  unfolding held_by
  stage_by k e b place l p q =
      ap₂ (λ a c. stage 10 (a && c) (lowest (cell_fits cells tags) N) (λ _. told))
      (eq-eqb (length tags) ((N + 7) / 8) (l ∙ ap (λ n. (n + 7) / 8) e)) p
      ∙ ap (λ c. stage 10 b c (λ _. told)) q

  at_place : (n : ℕ) → (n ≡ 0 → ⊥) → refused 10 n ≡ stage 10 true n (λ _. told)
  unfolding stage
  at_place zero z = absurd (z refl)
  at_place (suc n) z = refl

  pub past_last : (k : ℕ) → k ≡ N → length tags ≡ (k + 7) / 8 → none ≡ false → refused 10 0 ≡ held_by cells tags
  unfolding stage
  past_last k e l p = sym (stage_by k e false (lowest (cell_fits cells tags) N) l p refl)

  pub unfit : (k place : ℕ) → k ≡ N → length tags ≡ (k + 7) / 8 → none ≡ true → place ≡ lowest (cell_fits cells tags) N → (place ≡ 0 → ⊥)
      → refused 10 place ≡ held_by cells tags
  unfit k place e l p q z = at_place place z ∙ sym (stage_by k e true place l p (sym q))

  pub held_fit : (k f : ℕ) → k ≡ N → f ≡ cell_at cells table_slot 0 → length tags ≡ (k + 7) / 8 → none ≡ true
      → lowest (cell_fits cells tags) N ≡ 0 → accepted f k ≡ held_by cells tags
  unfolding stage
  held_fit k f e ef l p q = ap₂ accepted ef e ∙ sym (stage_by k e true 0 l p q)

  pub past_is : (k : ℕ) → k ≡ N → all (λ i. not (tagged tags (k + i))) (8 * length tags - k) ≡ none
  past_is k e = ap (λ n. all (λ i. not (tagged tags (n + i))) (8 * length tags - n)) e

cell_same : (t cells tags : List ℕ) → Read t cells → (n : ℕ) → IsNode t n → cell_fits cells tags n ≡ tag_fits t tags n
unfolding cell_fits tag_fits is_call
cell_same t cells tags h n i =
    ap₂ (λ k o. not (tagged tags n) || (eqb k 4 && not (eqb (cell_at cells (node_slot n) 2) o))) (h.told.node n 0 i (omega arith))
    (h.told.node n 6 i (omega arith))
    ∙ go (ℕ_discrete (kind t n) 4)
  where
    go : Dec (kind t n ≡ 4) → (not (tagged tags n) || (eqb (kind t n) 4 && not (eqb (cell_at cells (node_slot n) 2) (owner t n))))
        ≡ (not (tagged tags n) || (eqb (kind t n) 4 && not (eqb (word t n) (owner t n))))
    go (yes k) = ap (λ w. not (tagged tags n) || (eqb (kind t n) 4 && not (eqb w (owner t n))))
        (h.told.node n 2 i (omega arith) ∙ call_low t h.taken n i k)
    go (no k) = rw (ne_eqb (kind t n) 4 k)

-- of an accepted table, what is read off its cells is what the rules ask
pub held_read : (t cells tags : List ℕ) → Read t cells → held_by cells tags ≡ tags_refusal t tags
unfolding held_by tags_refusal tag_length none_past
held_read t cells tags h =
    ap₂ (λ f n. stage 10 (eqb (length tags) ((n + 7) / 8) && all (λ i. not (tagged tags (n + i))) (8 * length tags - n))
    (lowest (cell_fits cells tags) n) (λ _. accepted f n)) (h.told.own 0 (omega arith)) (h.told.own 1 (omega arith))
    ∙ ap (λ x. stage 10 (eqb (length tags) ((nodes t + 7) / 8) && all (λ i. not (tagged tags (nodes t + i))) (8 * length tags - nodes t)) x
    (λ _. accepted (functions t) (nodes t))) (lowest_same (cell_fits cells tags) (tag_fits t tags) (nodes t)
    (cell_same t cells tags h))

-- the table first
pub after_check : (t tags : List ℕ) (r : Verdict) → Taken t → r ≡ tags_refusal t tags → r ≡ check_with t tags
unfolding check_with after
after_check t tags r ok e = e ∙ sym (ap (λ v. after v (λ _. tags_refusal t tags)) ok)

pub at_check : (t tags : List ℕ) (number place : ℕ) → refused number place ≡ check_of t → refused number place ≡ check_with t tags
unfolding check_with after
at_check t tags number place e = ap (λ v. after v (λ _. tags_refusal t tags)) e

-- a lent tag list: the table is refused, or the list's length
pub filled_refused : (t old : List ℕ) (v : Verdict) (k p : ℕ) → v ≡ fill_verdict t (length old) → v ≡ refused k p → old ≡ filled_tags t old
unfolding filled_tags
filled_refused t old v k p e q = sym (ap (λ v. if_accepted v (tags_of t) old) (sym e ∙ q))

pub fill_turned : (t : List ℕ) (len number place : ℕ) → refused number place ≡ check_of t → refused number place ≡ fill_verdict t len
unfolding fill_verdict after
fill_turned t len number place e = ap (λ v. after v (λ _. stage 10 (eqb len (tag_length t)) 0 (λ _. accepted (functions t) (nodes t)))) e

module _ (t : List ℕ) (ok : Taken t) where
  by_length : (len : ℕ) (b : Bool) → eqb len (tag_length t) ≡ b
      → fill_verdict t len ≡ stage 10 b 0 (λ _. accepted (functions t) (nodes t))
  unfolding fill_verdict after
  by_length len b e =
      ap (λ v. after v (λ _. stage 10 (eqb len (tag_length t)) 0 (λ _. accepted (functions t) (nodes t)))) ok
      ∙ ap (λ b. stage 10 b 0 (λ _. accepted (functions t) (nodes t))) e

  pub fill_wrong : (len k : ℕ) → k ≡ nodes t → (len ≡ (k + 7) / 8 → ⊥) → refused 10 0 ≡ fill_verdict t len
  unfolding stage tag_length
  fill_wrong len k e h = sym (by_length len false (ne_eqb len (tag_length t) (λ z. h (z ∙ ap (λ n. (n + 7) / 8) (sym e)))))

  -- and one that is filled with a set's first bytes
  module _ (old : List ℕ) (k : ℕ) (e : k ≡ nodes t) (h : length old ≡ (k + 7) / 8) where
    fits : length old ≡ tag_length t
    unfolding tag_length
    fits = h ∙ ap (λ n. (n + 7) / 8) e

    pub fill_right : accepted (functions t) (nodes t) ≡ fill_verdict t (length old)
    unfolding stage
    fill_right = sym (by_length (length old) true (eq-eqb (length old) (tag_length t) fits))

    pub filled_right : (new found : List ℕ) → length found ≡ 64 → ((i : ℕ) → i < 64 → get_or found i 0 < 256)
        → ((m : ℕ) → Bit m → tagged found m ≡ listed t m) → new ≡ take (length old) found → new ≡ filled_tags t old
    unfolding filled_tags
    filled_right new found size small is w =
        w ∙ ap (λ j. take j found) fits ∙ tags_are t ok found size (λ i q. small i (omega (arith, q, tags_short t ok))) is
        ∙ sym (ap (λ v. if_accepted v (tags_of t) old) (sym fill_right))
