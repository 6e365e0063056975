-- two nodes that both have a move, not both entering one resource: what one writes, the other neither writes nor reads
use Prim.Native.Nat.{ℕ}
use mathlib.Core.Bool.{true, false, true≢false}
use mathlib.Core.Path.{◌≡◌, refl, subst, sym, ap, ◌∙◌}
use mathlib.Core.Logic.{inl, inr, ⊎_elim}
use mathlib.Core.List.{List}
use native.Mathlib.Omega.{arith}
use Rattle.table.specs.Syntax.{Expr, const, param, prim, call, self, cond, bind, bound, id, Node}
use Rattle.table.specs.Environment.{values}
use Rattle.table.specs.Well.{Laid}
use Rattle.table.proofs.SyntaxLaws.{node_id}
use Rattle.rules.specs.Arithmetic.{Arithmetic, keep_all}
use Rattle.rules.specs.State.{View}
use Rattle.rules.specs.Step.{does, Move, enters, act}
use Rattle.rules.proofs.Shape.{Still, Busy}
use Rattle.rules.proofs.Frame.{Same}
use Rattle.rules.proofs.Acting.{Acting}
use Rattle.rules.proofs.Progress.{Able}
use Rattle.rules.proofs.Ready.{able_apart, able_alone}
use Rattle.rules.proofs.Definiens.{definiens_still}
use Rattle.rules.proofs.Performed.{Does}
use Rattle.rules.proofs.Tells.{Restarts}
use Rattle.rules.proofs.Touches.{Renews, Reseats, Writes, Alters, keeps_node, keeps_value, keeps_register, keeps_occupant}
use Rattle.rules.proofs.ActSame.{Seen, Beside, act_same, read_own}
use Rattle.rules.proofs.StepTaken.{one_move, enter_act}
use Rattle.rules.proofs.Mover.{Entering, Leaving, Mover, number, moving, at_home, awake, marked, leaving, renewing, reseating}

-- node a has the move x, another node b the move y
pub record Movers (units : Arithmetic) {F N : ℕ} {body at : ℕ → Expr} {home : ℕ → ℕ} (laid : Laid F N body at home) (s : View) (a b : ℕ)
    (x y : Move) : Type 0 where
  pub one : Mover units laid s a x
  pub other : Mover units laid s b y
  pub different : a ≡ b → ⊥

-- not both enter one resource
abbrev pub Calm : Move → Move → Type 0
Calm x y = (g : ℕ) (vs ws : List ℕ) → x ≡ enters g vs → y ≡ enters g ws → ⊥

pub calm_swap : (x y : Move) → Calm x y → Calm y x
calm_swap x y calm g vs ws p q = calm g ws vs q p

module _ {units : Arithmetic} {F N : ℕ} {body at : ℕ → Expr} {home : ℕ → ℕ} {laid : Laid F N body at home} {s : View}
    {a b : ℕ} {x y : Move} where
  pub swap : Movers units laid s a b x y → Movers units laid s b a y x
  swap h = record { one = h.other; other = h.one; different = λ e. h.different (sym e) }

  module _ (h : Movers units laid s a b x y) where
    abbrev p : Mover units laid s a x
    p = h.one

    abbrev q : Mover units laid s b y
    q = h.other

    restarted : Restarts s (at a) → home b ≡ home a → ⊥
    restarted z e = h.different (sym (number p) ∙ ap id z.is ∙ same ∙ number q)
      where
        same : z.node ≡ id (at b)
        same = able_alone (subst (Acting F body s (home a)) z.is p.acting) z.waits z.ready
            (subst (λ f. Acting F body s f (at b)) e q.acting) q.able

    -- b isn't of a function that a makes new
    fresh : (f : ℕ) → Renews x f → home b ≡ f → ⊥
    fresh f k e = ⊎_elim (λ z. awake q f z.still e) (λ z. restarted z.1 (e ∙ sym z.0)) (renewing p f k)

    -- what a writes is no part of b's expression
    writes_away : (m : ℕ) → Writes N home a x m → Node m (at b) → ⊥
    writes_away m (inl k) j =
        h.different (sym (number p) ∙ able_apart p.acting q.acting p.able q.able m (marked p m k) j ∙ number q)
    writes_away m (inr k) j = fresh k.0 k.1 (sym (at_home q m j) ∙ k.2.2)

    pub expression_kept : (s' : View) → Does N home body s s' a x → (m : ℕ) → Node m (at b) → Same s s' m
    expression_kept s' moved m k = keeps_node N home body s s' a x moved m (λ w. writes_away m w k)

    -- of a resource that b leaves, a writes nothing
    left_renews : (f : ℕ) → Leaving F body s b f → Renews x f → ⊥
    left_renews f z k = ⊎_elim (λ e. z.nonzero (sym z.holder ∙ e.free)) (λ e. awake p f z.still e.0) (renewing p f k)

    left_writes : (f : ℕ) → Leaving F body s b f → (m : ℕ) → Node m (body f) → Writes N home a x m → ⊥
    left_writes f z m j (inl k) = awake p f z.still (sym (at_home p m (marked p m k)) ∙ (laid.inside f m z.fn j).0)
    left_writes f z m j (inr k) = left_renews f z (subst (Renews x) (sym k.2.2 ∙ (laid.inside f m z.fn j).0) k.1)

    left_reseats : (f : ℕ) → Leaving F body s b f → Reseats x f → ⊥
    left_reseats f z k = ⊎_elim (λ e. z.nonzero (sym z.holder ∙ e.free)) (λ e. h.different (sym e.holder ∙ z.holder))
        (reseating p f k)

    -- nor of a resource that b enters
    module _ (calm : Calm x y) where
      entered_renews : (f : ℕ) → Entering body s y f → Renews x f → ⊥
      entered_renews f z k = ⊎_elim (λ e. calm f e.arguments z.arguments e.move z.move) (λ e. awake p f z.still e.0)
          (renewing p f k)

      entered_reseats : (f : ℕ) (vs : List ℕ) → y ≡ enters f vs → s.occupant f ≡ 0 → Reseats x f → ⊥
      entered_reseats f vs m z k = ⊎_elim (λ e. calm f e.arguments vs e.move m) (λ e. e.nonzero (sym e.holder ∙ z))
          (reseating p f k)

      -- so they make no function new together
      renews_apart : (f : ℕ) → Renews x f → Renews y f → ⊥
      renews_apart f j k = ⊎_elim (λ z. entered_renews f z j) (λ z. fresh f j z.0) (renewing q f k)

      seats_apart : (f : ℕ) → Alters x f → Reseats y f → ⊥
      seats_apart f (inl j) k = ⊎_elim (λ z. entered_renews f z j) (λ z. left_renews f z j) (reseating q f k)
      seats_apart f (inr j) k = ⊎_elim (λ z. entered_reseats f z.arguments z.move z.free j) (λ z. left_reseats f z j)
          (reseating q f k)

      -- after a's move, b reads what it read before
      module _ (s' : View) (moved : Does N home body s s' a x) where
        beside : (u : Expr) → at b ≡ u → Able body s u → Beside body (home b) s s' u
        beside (const n v) e l = tt
        beside (param n i) e l = keeps_register N home body s s' a x moved (home b) i (λ k. fresh (home b) k refl)
        beside (bound n d) e l = keeps_value N home body s s' a x moved d (λ i. moving p (subst (Still s) i at_rest_lem.0))
            (λ k. fresh k.0 k.1 (sym (laid.inside (home b) d q.acting.fn at_rest_lem.1).0 ∙ k.2.2))
          where
            at_rest_lem : Still s d × Node d (body (home b))
            at_rest_lem = definiens_still (subst (Acting F body s (home b)) e q.acting)
        beside (prim n op es) e l = tt
        beside (call n g es) e l = (λ w. root w l, λ w. keeps_occupant N home body s s' a x moved g (seat w l))
          where
            -- in its second phase it leaves
            root : Busy s n true → Able body s (call n g es) → Seen s s' (id (body g))
            root w (inl l) = absurd (omega (arith, l.0, w.0))
            root w (inr (inl l)) = absurd (true≢false (sym w.1 ∙ l.0.1))
            root w (inr (inr l)) =
                let z = leaving q g (record { node = n; args = es; is = e; holds = w; over = l.1 }) in
                let k = keeps_node N home body s s' a x moved (id (body g)) (left_writes g z (id (body g)) (node_id (body g))) in
                (k.0, k.2)

            -- in its first it enters
            seat : Busy s n false → Able body s (call n g es) → Reseats x g → ⊥
            seat w (inl l) = absurd (omega (arith, l.0, w.0))
            seat w (inr (inl l)) =
                let vs = keep_all units g (values s.value es) in
                entered_reseats g vs (one_move y (enters g vs) (sym q.moves ∙ ap (act units body (home b) s) e
                ∙ enter_act units body (home b) s n g es w l.1 l.2)) l.2
            seat w (inr (inr l)) = absurd (true≢false (sym l.0.1 ∙ w.1))
        beside (self n es) e l = tt
        beside (cond n u v w) e l = tt
        beside (bind n ds u) e l = tt

        pub keeps_move : act units body (home b) s' (at b) ≡ does y
        keeps_move = act_same units body (home b) s s' (at b)
            (read_own body (home b) s s' (at b) (expression_kept s' moved) (beside (at b) refl q.able))
            ∙ q.moves

-- what both write: nothing
module _ {units : Arithmetic} {F N : ℕ} {body at : ℕ → Expr} {home : ℕ → ℕ} {laid : Laid F N body at home} {s : View} {a b : ℕ} {x y : Move}
    (h : Movers units laid s a b x y) (calm : Calm x y) where
  pub writes_apart : (m : ℕ) → Writes N home a x m → Writes N home b y m → ⊥
  writes_apart m j (inl k) = writes_away h m j (marked h.other m k)
  writes_apart m (inl j) (inr k) = writes_away (swap h) m (inr k) (marked h.one m j)
  writes_apart m (inr j) (inr k) = renews_apart h calm k.0 (subst (Renews x) (sym j.2.2 ∙ k.2.2) j.1) k.1

  pub alters_apart : (f : ℕ) → Alters x f → Alters y f → ⊥
  alters_apart f j (inr k) = seats_apart h calm f j k
  alters_apart f (inl j) (inl k) = renews_apart h calm f j k
  alters_apart f (inr j) (inl k) = seats_apart (swap h) (calm_swap x y calm) f (inl k) j
