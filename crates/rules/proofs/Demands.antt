-- the third demand, and what holds under any tags, of every table, tags and arguments that start takes
use Prim.Native.Nat.{ℕ, ◌≤◌}
use mathlib.Core.Bool.{Bool, true, false, not, true≢false}
use mathlib.Core.Path.{◌≡◌, refl, subst, sym, ap, ◌∙◌}
use mathlib.Core.Logic.{inl, inr, ⊎_elim}
use mathlib.Core.List.{List, [], ◌∷◌}
use native.Mathlib.Omega.{arith}
use lib.Dec.{T}
use lib.ListN.{length, take}
use Rattle.rules.specs.State.{State512, In, view}
use Rattle.rules.specs.Step.{denied, over, circuit_step}
use Rattle.rules.specs.Play.{Ask, asks, Log, IsTaken, played}
use Rattle.rules.specs.Arithmetic.{arithmetic}
use Rattle.rules.specs.Circuit.{opening, started, start_of, circuit_of, step_after, step_of, plays_of, play_of}
use Rattle.rules.specs.Circuit.{entries_of}
use Rattle.rules.specs.Circuit.{leavings_of, Possible}
use Rattle.rules.specs.Demand.{Answers, DemandThree, ThirdDemand, ReadingUnique}
use Rattle.rules.specs.Companions.{UnderAnyTags, ReadingFixed}
use Rattle.rules.specs.Reading.{readings_of, ReadsTo}
use Rattle.rules.specs.Runs.{standing}
use Rattle.table.specs.Bytes.{functions, nodes, params}
use Rattle.table.specs.Naming.{owner}
use Rattle.table.specs.Check.{Verdict, accepted, stage, check_of, refused}
use Rattle.table.specs.Expressions.{expr_at, body_of}
use Rattle.table.specs.Well.{Laid}
use Rattle.table.proofs.Passed.{passed, goes_on, params_small}
use Rattle.table.proofs.LaidOut.{laid}
use Rattle.list.specs.Tags.{tagged, after, check_with, Holding}
use Rattle.list.specs.CallSets.{Listed}
use Rattle.list.proofs.Callees.{listed_exactly}
use Rattle.list.proofs.TagFacts.{listed_call}
use Rattle.rules.proofs.Starts.{Not, with_not, start_passes}
use Rattle.rules.proofs.Levels.{fixed, into}
use Rattle.rules.proofs.Unique.{readings_unique}
use Rattle.rules.proofs.Logs.{begin, logged, more, plays, plays_alike}
use Rattle.rules.proofs.Kept.{Kept, refused_kept, start_kept, kept_alike, kept_right, kept_balance, kept_one, kept_over}
use Rattle.rules.proofs.Kept.{kept_main_free, kept_lively, kept_phases, kept_silent}
use Rattle.rules.proofs.StepFacts.{Good}
use Rattle.rules.proofs.Bounded.{over_none, status_bound, occupant_bound}
use Rattle.rules.proofs.Kept as Lists

-- what a query and the runs look at once the check is passed: 24
abbrev pub ranges : (t : List ℕ) → State512 → Unit {0} → Verdict
ranges t s _ =
    stage 24 (not (over 3 (nodes t) s.status)) 0 λ _.
    stage 24 (not (over (nodes t) (functions t) s.occupant)) 0 λ _.
    accepted (functions t) (nodes t)

pub standing_by : (t tags : List ℕ) (s : State512) (c : Verdict) → check_with t tags ≡ c → standing t tags s ≡ after c (ranges t s)
unfolding standing
standing_by t tags s c e = ap (λ c. after c (ranges t s)) e

-- the circuit's proof over a table
module _ (t : List ℕ) (F N : ℕ) (check : check_of t ≡ accepted F N) where
  abbrev pub lay : Laid (functions t) (nodes t) (body_of t) (expr_at t) (owner t)
  lay = laid t F N check

  -- a step whose tags are taken is the circuit's
  pub step_same : (tags : List ℕ) (F N : ℕ) → check_with t tags ≡ accepted F N → (s : State512) (n : ℕ)
      → step_of t tags s n ≡ circuit_step (arithmetic t) (functions t) (nodes t) (body_of t) (expr_at t) (owner t) (tagged tags) s n
  unfolding step_of step_after circuit_of
  step_same tags F N e s n = ap (λ c. step_after c s (circuit_of t tags s n)) e

  -- a step that isn't refused is the circuit's
  possible_same : (tags : List ℕ) (s : State512) (n : ℕ) → Possible t tags s n
      → IsTaken (circuit_step (arithmetic t) (functions t) (nodes t) (body_of t) (expr_at t) (owner t) (tagged tags) s n).answer
  unfolding step_of step_after circuit_of
  possible_same tags s n = go (check_with t tags)
    where
      go : (c : Verdict) → IsTaken (step_after c s (circuit_of t tags s n)).answer
          → IsTaken (circuit_step (arithmetic t) (functions t) (nodes t) (body_of t) (expr_at t) (owner t) (tagged tags) s n).answer
      go (accepted F N) x = x
      go (refused i p) x = absurd x

  -- tags that hold the list are at every call that the circuit's proof lists
  pub holding_tags : (tags : List ℕ) → Holding t tags → (n : ℕ) → Listed (body_of t) (expr_at t) (functions t) n → tagged tags n ≡ true
  holding_tags tags holds n x = let e = (listed_exactly t F N check n).1 x in holds n (listed_call t F N check n e).0 e

  -- a sound state is never refused 24
  stands_well : (tags : List ℕ) (F N : ℕ) → check_with t tags ≡ accepted F N → (s : State512) → Good (functions t) (body_of t) s
      → standing t tags s ≡ accepted (functions t) (nodes t)
  unfolding standing after
  stands_well tags F N e s g =
      standing_by t tags s (accepted F N) e
      ∙ goes_on 24 (not (over 3 (nodes t) s.status)) 0 _ (not_over (over 3 (nodes t) s.status)
      (over_none 3 (nodes t) s.status (status_bound lay (view s) g.sound))) refl
      ∙ goes_on 24 (not (over (nodes t) (functions t) s.occupant)) 0 _ (not_over (over (nodes t) (functions t) s.occupant)
      (over_none (nodes t) (functions t) s.occupant (occupant_bound lay (view s) g.sound))) refl
    where
      not_over : (b : Bool) → b ≡ false → T (not b)
      not_over true e = absurd (true≢false e)
      not_over false e = tt

  pub main_few : (args : List ℕ) → length args ≡ params t (functions t) → length args ≤ 8
  main_few args e = let p = (passed t F N check).0 in omega (arith, params_small t p (functions t) (p.f_low, omega arith))

  module _ (args : List ℕ) (number : length args ≡ params t (functions t)) where
    abbrev s₀ : State512
    s₀ = opening t args

    -- what holds after any list of steps
    abbrev pub KeptFrom : Log → Type 0
    KeptFrom l = Kept (arithmetic t) lay (view s₀) l

    -- a step with tags that are not taken changes nothing, another is the circuit's
    more_kept : (l : Log) → KeptFrom l → (a : Ask (List ℕ)) → KeptFrom (more (step_of t) l a)
    unfolding step_of step_after circuit_of
    more_kept l k a = go (check_with t a.tags)
      where
        go : (c : Verdict) → KeptFrom (logged l a.node (step_after c l.state (circuit_of t a.tags l.state a.node)))
        go (accepted F N) = Lists.more_kept (arithmetic t) lay (view s₀) l k (record { tags = tagged a.tags; node = a.node })
        go (refused i p) = refused_kept (arithmetic t) lay (view s₀) l k a.node i p

    plays_kept : (l : Log) → KeptFrom l → (asked : List (Ask (List ℕ))) → KeptFrom (plays (step_of t) l asked)
    plays_kept l k [] = k
    plays_kept l k (a ∷ asked) = plays_kept (more (step_of t) l a) (more_kept l k a) asked

    pub table_kept : (asked : List (Ask (List ℕ))) → KeptFrom (played (step_of t) s₀ asked)
    table_kept asked = kept_alike (arithmetic t) lay (view s₀) (plays (step_of t) (begin s₀) asked) (played (step_of t) s₀ asked)
        (plays_alike (step_of t) s₀ asked)
        (plays_kept (begin s₀) (start_kept (arithmetic t) lay args (main_few args number)) asked)

    -- under tags that hold the list, a step after any list of steps is not refused 23
    silent : (tags : List ℕ) (F N : ℕ) → check_with t tags ≡ accepted F N → Holding t tags → (l : Log) → KeptFrom l → (n p : ℕ)
        → denied 23 p ≡ (step_of t tags l.state n).answer → ⊥
    silent tags F N taken holds l k n p e =
        kept_silent (arithmetic t) lay (tagged tags) (holding_tags tags holds) (view s₀) l k n p
        (e ∙ ap (λ r. r.answer) (step_same tags F N taken l.state n))

    -- tags that are not taken are refused by other numbers
    untold : (tags : List ℕ) → Holding t tags → (l : Log) → KeptFrom l → (n p : ℕ) → (step_of t tags l.state n).answer ≡ denied 23 p → ⊥
    unfolding step_of step_after
    untold tags holds l k n p e = go (check_with t tags) refl (with_not t tags 23 (omega arith) (λ z. omega (arith, z)))
      where
        same_number : (i j k p : ℕ) → denied i j ≡ denied k p → i ≡ k
        same_number i j k p z = cc

        go : (c : Verdict) → check_with t tags ≡ c → Not 23 c → ⊥
        go (accepted F N) q u = silent tags F N q holds l k n p (sym e)
        go (refused i j) q u =
            u (same_number i j 23 p (sym (ap (λ c. (step_after c l.state (circuit_of t tags l.state n)).answer) q) ∙ e))

    any_tags : (asked : List (Ask (List ℕ))) → UnderAnyTags t args s₀ asked
    unfolding entries_of leavings_of plays_of
    any_tags asked = record {
      balance = λ f p q. kept_balance (arithmetic t) lay args (main_few args number) l k f (p, q);
      phases = λ c f p q e tags a. kept_phases (arithmetic t) lay (view s₀) l k c f (p, q) e (tagged tags)
          (possible_same tags l.state c a);
      answered_done = k.said;
      done_answered = λ e. let x = k.says e in subst (λ v. Answers l v) (sym (k.said x.0 x.1).1) x.1;
      lively = λ F N tags c.
          ⊎_elim inl (λ x. inr (x.0, subst (λ r. IsTaken r.answer) (sym (step_same tags F N c l.state x.0)) x.1))
          (kept_lively (arithmetic t) lay (view s₀) l k (tagged tags));
      arbitrated = λ tags holds n p e. untold tags holds l k n p e;
      stands = λ F N tags c. stands_well tags F N c l.state k.good;
      main_free = kept_main_free (arithmetic t) lay (view s₀) l k;
      right = right;
      never = λ h v i. h v (length l.nodes) (right v i);
      over = λ v n F N tags i p q c. step_same tags F N c l.state n ∙ kept_over (arithmetic t) lay (view s₀) l k v n (tagged tags) i
          (p, q);
    }
      where
        l : Log
        l = played (step_of t) s₀ asked

        k : KeptFrom l
        k = table_kept asked

        right : (v : ℕ) → Answers l v → ReadsTo t args v (length l.nodes)
        right = kept_right (arithmetic t) lay args (main_few args number) l k

    -- under the tags of the start
    module _ (tags : List ℕ) (F' N' : ℕ) (taken : check_with t tags ≡ accepted F' N') where
      plays_silent : Holding t tags → (l : Log) → KeptFrom l → ((p : ℕ) → In (denied 23 p) l.answers → ⊥) → (ns : List ℕ)
          → (p : ℕ) → In (denied 23 p) (plays (step_of t) l (asks tags ns)).answers → ⊥
      plays_silent holds l k h [] p i = h p i
      plays_silent holds l k h (n ∷ ns) p i =
          let a : Ask (List ℕ) = record { tags = tags; node = n } in
          plays_silent holds (more (step_of t) l a) (more_kept l k a) (λ q. ⊎_elim (silent tags F' N' taken holds l k n q) (h q)) ns p i

      no_23 : Holding t tags → (ns : List ℕ) (p : ℕ) → In (denied 23 p) (play_of t tags s₀ ns).answers → ⊥
      unfolding play_of
      no_23 holds ns p i = plays_silent holds (begin s₀) (start_kept (arithmetic t) lay args (main_few args number)) (λ q z. z) ns p
          ((plays_alike (step_of t) s₀ (asks tags ns)).into (denied 23 p) i)

      -- the rest of the third demand, from the state that start makes
      from_start : (ns : List ℕ) → ((p : ℕ) → In (denied 23 p) (play_of t tags s₀ ns).answers → ⊥) → DemandThree t tags args s₀ ns
      unfolding play_of entries_of leavings_of
      from_start ns quiet = record {
        arbitrated = quiet;
        exclusive = λ k f p q. kept_one (arithmetic t) lay args (main_few args number) (played (step_of t) s₀ (asks tags (take k ns)))
            (table_kept (asks tags (take k ns))) f (p, q);
        lively = ⊎_elim inl (λ x. inr (x.0, subst (λ r. IsTaken r.answer) (sym (step_same tags F' N' taken l.state x.0)) x.1))
            (kept_lively (arithmetic t) lay (view s₀) l (table_kept (asks tags ns)) (tagged tags));
        right = kept_right (arithmetic t) lay args (main_few args number) l (table_kept (asks tags ns));
      }
        where
          l : Log
          l = played (step_of t) s₀ (asks tags ns)

-- the third demand: of every table, tags and arguments that start takes, and every list of asked numbers
pub demand : ThirdDemand
demand t tags args s e ns =
    let p = start_passes t tags args s e in
    let F = functions t in
    let N = nodes t in
    subst (λ r. DemandThree t tags args r ns) (sym p.state)
    (from_start t F N p.check args p.count tags F N p.check_tags ns
    (no_23 t F N p.check args p.count tags F N p.check_tags p.holding ns))

-- and its companion
pub under_any_tags : (t tags args : List ℕ) (s : State512) → start_of t tags args ≡ started s → (asked : List (Ask (List ℕ)))
    → UnderAnyTags t args s asked
under_any_tags t tags args s e asked =
    let p = start_passes t tags args s e in
    subst (λ r. UnderAnyTags t args r asked) (sym p.state) (any_tags t (functions t) (nodes t) p.check args p.count asked)

-- the reading has one value and one count
pub reading_unique : ReadingUnique
reading_unique t args v w k l x y = readings_unique (arithmetic t) (body_of t) (functions t) (functions t) args v w k l x y

-- it is its body's, the callees read alike
pub reading_fixed : (t : List ℕ) (F N : ℕ) → check_of t ≡ accepted F N → ReadingFixed t
reading_fixed t F N check =
    let well = (lay t F N check).well in
    let own = fixed (arithmetic t) (body_of t) (functions t) well in
    record {
      fixed = own;
      only = λ K x f r vs v k. (
        into (arithmetic t) (body_of t) (functions t) well K (readings_of t) x own f f (omega arith) r vs v k,
        into (arithmetic t) (body_of t) (functions t) well (readings_of t) K own x f f (omega arith) r vs v k,
      );
    }
