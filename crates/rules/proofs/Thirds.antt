-- the phases of a call: a step at it goes on to the next of three, and no other step touches it
use Prim.Native.Nat.{ℕ, ◌+◌, ◌%◌}
use mathlib.Core.Bool.{Bool, true, false}
use mathlib.Core.Path.{◌≡◌, subst, sym, ap, ◌∙◌}
use mathlib.Core.List.{List}
use native.Mathlib.Omega.{arith}
use native.Mathlib.Decide.{ℕ_discrete}
use lib.Dec.{eqb}
use borrow.Author.Tests.{eq-eqb, ne_eqb}
use Rattle.table.specs.Syntax.{Expr, Exprs, call, id, Sub}
use Rattle.rules.specs.State.{View, In}
use Rattle.rules.proofs.Shape.{Busy, open_moves}
use Rattle.rules.proofs.Frame.{Same}
use Rattle.table.specs.Well.{Fn, CallIn, Laid}
use Rattle.table.proofs.CallPlaces.{call_node}
use Rattle.rules.proofs.Places.{inner_busy, still_busy}
use Rattle.rules.proofs.SelfCalls.{self_alone_lem}
use Rattle.table.specs.Pick.{pick, Range}
use Rattle.rules.specs.Arithmetic.{Arithmetic}
use Rattle.rules.proofs.Invariant.{Sound, Step, inner, enter, leave, again}
use Rattle.rules.proofs.Acting.{stepping_live, live, live_part, fn_g, inner_acts, enter_acts, again_acts}
use Rattle.rules.proofs.StateLaws.{in?}
use Rattle.rules.specs.Step.{Act, Move, begins, turns, finishes, enters, leaves, restarts, done, all_done, act}
use Rattle.rules.proofs.Performed.{Resets, Owns, Does, Acted}
use Rattle.rules.proofs.ActCases.{by_pick, by_state, live_open}
use Rattle.rules.proofs.StepSound.{stepped}
use Rattle.rules.proofs.Enter.{asleep}

-- 1 for a busy call in its first phase, 2 in its second, 0 for an idle, open or done one
abbrev pub third : View → ℕ → ℕ
third s c = pick (eqb (s.status c) 2) (pick (s.second c) 2 1) 0

pub third_busy : (s : View) (c : ℕ) (b : Bool) → Busy s c b → third s c ≡ pick b 2 1
third_busy s c b h = ap (λ x. pick x (pick (s.second c) 2 1) 0) (eq-eqb (s.status c) 2 h.0) ∙ ap (λ x. pick x 2 1) h.1

pub third_rest : (s : View) (c : ℕ) → (s.status c ≡ 2 → ⊥) → third s c ≡ 0
third_rest s c h = ap (λ x. pick x (pick (s.second c) 2 1) 0) (ne_eqb (s.status c) 2 h)

third_same : (s s' : View) (c : ℕ) → Same s s' c → third s' c ≡ third s c
third_same s s' c h = λ i. pick (eqb (h.0 i) 2) (pick (h.1 i) 2 1) 0

module _ (units : Arithmetic) {F N : ℕ} {body at : ℕ → Expr} {home : ℕ → ℕ} (laid : Laid F N body at home) (s s' : View)
    (sound : Sound F body s) where
  -- a busy call keeps its state while another node takes a step
  module _ (f c g : ℕ) (q : Fn F body f) (i : CallIn c g (body f)) (busy : s.status c ≡ 2) where
    pub busy_kept : (st : Step units F body s s') → (c ≡ stepped units F body st → ⊥) → Same s s' c
    busy_kept (inner h r u st) d = st.keeps c (λ k. d (inner_busy s c busy (units.result h) (s.register h) s' u st.rule
        (live_part (inner_acts laid.well sound r st)) k))
    busy_kept (enter h r n k es st) d =
        let x = enter_acts laid.well sound r st in
        st.keeps c d (still_busy s c busy (body k) (sound.rest k (fn_g x) (asleep x st)))
    busy_kept (leave h r n k es st) d = st.keeps c d
    busy_kept (again h r n es st) d = st.keeps c (λ k.
        let e : f ≡ h = laid.well.owner f h c q r (call_node c g (body f) i) k in
        self_alone_lem s n es st.waits st.ready c g busy (body h) (laid.well.tail h r) st.place
        (live (again_acts laid.well sound r st)) (subst (λ x. CallIn c g (body x)) e i))

  -- a node that is not busy does not become so by a step at another
  module _ (n c : ℕ) (d : c ≡ n → ⊥) (r : Range N c) (rest : s.status c ≡ 2 → ⊥) where
    as_before : s'.status c ≡ s.status c → s'.status c ≡ 2 → ⊥
    as_before e h = rest (sym e ∙ h)

    reset_rest : (g : ℕ) (vs : List ℕ) (but : ℕ → Type 0) → (but c → ⊥) → Resets s s' (Owns N home g) but (id (body g)) g vs
        → s'.status c ≡ 2 → ⊥
    reset_rest g vs but b x = go (ℕ_discrete (home c) g) (ℕ_discrete c (id (body g)))
      where
        go : Dec (home c ≡ g) → Dec (c ≡ id (body g)) → s'.status c ≡ 2 → ⊥
        go (no e) k h = as_before (x.others c b (λ o. e o.2)).0 h
        go (yes e) (yes k) h = omega (arith, x.root.0, ap s'.status k, h)
        go (yes e) (no k) h = omega (arith, (x.idle c (r.0, r.1, e) k).0, h)

    pub rest_kept : (m : Move) → Does N home body s s' n m → s'.status c ≡ 2 → ⊥
    rest_kept (begins ns) x = go (in? c ns)
      where
        go : Dec (In c ns) → s'.status c ≡ 2 → ⊥
        go (yes i) h = omega (arith, x.opens c i, h)
        go (no i) h = as_before (x.others c d i) h
    rest_kept (turns k) x = go (ℕ_discrete c k)
      where
        go : Dec (c ≡ k) → s'.status c ≡ 2 → ⊥
        go (yes e) h = omega (arith, x.opens, ap s'.status e, h)
        go (no e) h = as_before (x.others c e) h
    rest_kept (finishes v) x = as_before (x.0.others c d).0
    rest_kept (enters g vs) x = reset_rest g vs (λ m. m ≡ n) d x.new
    rest_kept (leaves g v) x = as_before (x.done.others c d).0
    rest_kept (restarts f vs) x = reset_rest f vs (λ m. ⊥) (λ z. z) x.0

  -- a step at another node
  pub third_other : (f c g n : ℕ) → Fn F body f → CallIn c g (body f) → (m : Move) → Does N home body s s' n m
      → (st : Step units F body s s') → stepped units F body st ≡ n
      → (c ≡ n → ⊥) → third s' c ≡ third s c
  third_other f c g n q i m x st e d = go (ℕ_discrete (s.status c) 2)
    where
      r : Range N c
      r = let o = laid.inside f c q (call_node c g (body f) i) in (o.1, o.2)

      go : Dec (s.status c ≡ 2) → third s' c ≡ third s c
      go (yes b) = third_same s s' c (busy_kept f c g q i b st (λ k. d (k ∙ e)))
      go (no b) = third_rest s' c (rest_kept n c d r b m x) ∙ sym (third_rest s c b)

  -- a step at the call itself
  pub third_own : (h n g : ℕ) (es : Exprs) → Fn F body h → Sub (call n g es) (body h)
      → Acted N home body s s' n (act units body h s (call n g es)) → third s' n ≡ (third s n + 1) % 3
  third_own h n g es r p = by_state Goal (s.status n) _ _
      (λ o x. third_busy s' n false (
        x.busy,
        x.seconds n ∙ (live_open s (call n g es)
            (stepping_live sound h r (call n g es) p (open_moves s n o)) o).1,
      )
      ∙ ap (λ y. (y + 1) % 3) (sym (third_rest s n (λ e. omega (arith, o, e)))))
      (λ t. by_pick Goal (s.second n) _ _
      (λ w. by_pick Goal (done s (id (body g))) _ _
      (λ f x. third_rest s' n (λ e. omega (arith, e, x.done.status)) ∙ ap (λ y. (y + 1) % 3) (sym (third_busy s n true (t, w))))
      (λ e. absurd))
      (λ w. by_pick Goal (all_done s es) _ _
      (λ f. by_pick Goal (eqb (s.occupant g) 0) _ _
      (λ z x. third_busy s' n true (x.status ∙ t, x.second) ∙ ap (λ y. (y + 1) % 3) (sym (third_busy s n false (t, w))))
      (λ e. absurd))
      (λ e. absurd)))
      absurd
    where
      Goal : Act → Type 0
      Goal x = Acted N home body s s' n x → third s' n ≡ (third s n + 1) % 3
