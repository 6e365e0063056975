-- a start is a started circuit of the abstract proof
use Prim.Native.Nat.{ℕ, zero, suc, ◌+◌, ◌*◌, ◌≤◌}
use mathlib.Core.Bool.{Bool, true, false}
use mathlib.Core.Path.{◌≡◌, refl, subst, sym, ap, ◌∙◌}
use mathlib.Core.Logic.{inl}
use mathlib.Core.List.{List}
use native.Mathlib.Omega.{arith}
use native.Mathlib.Decide.{ℕ_discrete}
use lib.Dec.{ltb}
use lib.ListN.{length, get_or, replicate, length-replicate}
use Rattle.table.specs.Syntax.{Expr, id, Node}
use Rattle.rules.proofs.Shape.{Still, Idle}
use Rattle.table.proofs.SyntaxLaws.{node_id}
use Rattle.rules.proofs.Answers.{AtStart}
use Rattle.rules.proofs.StateLaws.{length_write, length_fill, entry_same, entry_other, fill_mine}
use Rattle.rules.specs.State.{Sized, entry, register, view, blank, circuit_start}
use Rattle.table.specs.Pick.{pick}
use Rattle.table.specs.Well.{Fn, Laid}
use Rattle.rules.proofs.LaidFacts.{every_all, under_all, fn_main}

pub length_blank : {A : Type 0} (k : ℕ) (a : A) → length (blank k a) ≡ k
unfolding blank
length_blank k a = length-replicate k a

pub entry_blank : {A : Type 0} (k : ℕ) (a : A) (n : ℕ) → entry (blank k a) a n ≡ a
unfolding blank entry
entry_blank zero a zero = refl
entry_blank zero a (suc n) = refl
entry_blank (suc k) a zero = refl
entry_blank (suc k) a (suc zero) = refl
entry_blank (suc k) a (suc (suc n)) = entry_blank k a (suc n)

zeros_at : (k j : ℕ) → get_or {A = ℕ} (replicate k 0) j 0 ≡ 0
zeros_at zero j = refl
zeros_at (suc k) zero = refl
zeros_at (suc k) (suc j) = zeros_at k j

pub register_blank : (k f i : ℕ) → register (blank k 0) f i ≡ 0
unfolding blank register
register_blank k zero i = refl
register_blank k (suc f) i = go (ltb i 8)
  where
    go : (b : Bool) → pick b (get_or {A = ℕ} (replicate k 0) (8 * f + i) 0) 0 ≡ 0
    go true = zeros_at k (8 * f + i)
    go false = refl

module _ (F : ℕ) (body : ℕ → Expr) (args : List ℕ) where
  pub start_sized : Sized (circuit_start F body args)
  unfolding circuit_start
  start_sized = record {
    statuses = length_write (blank 512 0) (id (body F)) 1 ∙ length_blank 512 0;
    seconds = length_blank 512 false;
    valued = length_blank 512 0;
    registered = length_fill F args (blank 256 0) ∙ length_blank 256 0;
    occupied = length_blank 32 0;
  }

module _ {F N : ℕ} {body at : ℕ → Expr} {home : ℕ → ℕ} (laid : Laid F N body at home) (args : List ℕ) where
  root : (home (id (body F)) ≡ F) × (1 ≤ id (body F)) × (id (body F) ≤ N)
  root = laid.inside F (id (body F)) (fn_main laid) (node_id (body F))

  pub open_root : (view (circuit_start F body args)).status (id (body F)) ≡ 1
  unfolding circuit_start
  open_root = entry_same (blank 512 0) (id (body F)) 1 0 root.1 (omega (arith, root.2, laid.nodes, length_blank {A = ℕ} 512 0))

  others_idle : (m : ℕ) → (m ≡ id (body F) → ⊥) → Idle (view (circuit_start F body args)) m
  unfolding circuit_start
  others_idle m d = (entry_other (blank 512 0) (id (body F)) m 1 0 d ∙ entry_blank 512 0 m, entry_blank 512 false m)

  -- no node is busy
  pub start_rest : (m : ℕ) → (view (circuit_start F body args)).status m ≡ 2 → ⊥
  start_rest m h = go (ℕ_discrete m (id (body F)))
    where
      go : Dec (m ≡ id (body F)) → ⊥
      go (yes e) = omega (arith, open_root, ap (view (circuit_start F body args)).status e, h)
      go (no e) = omega (arith, (others_idle m e).0, h)

  no_second : (m : ℕ) → (view (circuit_start F body args)).second m ≡ false
  unfolding circuit_start
  no_second m = entry_blank 512 false m

  all_free : (f : ℕ) → (view (circuit_start F body args)).occupant f ≡ 0
  unfolding circuit_start
  all_free f = entry_blank 32 0 f

  given : length args ≤ 8 → (i : ℕ) → (view (circuit_start F body args)).register F i ≡ get_or args i 0
  unfolding circuit_start
  given h i = fill_mine F args (blank 256 0) i laid.some_function laid.functions (length_blank 256 0) h

  pub start_started : length args ≤ 8 → AtStart F body (view (circuit_start F body args)) args
  start_started h = record {
    main = (
      (open_root, no_second (id (body F))),
      under_all (Idle (view (circuit_start F body args))) (body F) (laid.well.apart F (fn_main laid))
          (λ m k d. others_idle m d),
    );
    others = λ f q d. every_all (Still (view (circuit_start F body args))) (body f)
        (λ m k. let i = others_idle m (elsewhere f q d m k) in (inl i.0, i.1));
    free = all_free;
    arguments = given h;
  }
    where
      elsewhere : (f : ℕ) → Fn F body f → (f ≡ F → ⊥) → (m : ℕ) → Node m (body f) → m ≡ id (body F) → ⊥
      elsewhere f q d m k e = d (laid.well.owner f F m q (fn_main laid) k
          (subst (λ x. Node x (body F)) (sym e) (node_id (body F))))
