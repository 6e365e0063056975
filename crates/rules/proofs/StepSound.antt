-- a move of the circuit on lists is a step of the abstract circuit
use Prim.Native.Nat.{ℕ, zero, suc, ◌≤◌}
use mathlib.Core.Bool.{true}
use mathlib.Core.Path.{◌≡◌, refl, subst, sym, ◌∙◌}
use mathlib.Core.Logic.{inl, inr, ⊎_elim}
use mathlib.Core.List.{List, [], ◌∷◌}
use lib.Dec.{eqb}
use borrow.Author.Tests.{eqb-true}
use Rattle.table.specs.Syntax.{Expr, Exprs, const, param, prim, call, self, cond, bind, bound, id, Node, Node*, Sub, roots}
use Rattle.rules.specs.State.{View, In}
use Rattle.table.specs.Environment.{values}
use Rattle.rules.proofs.Shape.{Idle, Open, open_moves}
use Rattle.rules.specs.Reading.{Chosen}
use Rattle.table.specs.Well.{Fn, Apart, Apart*, Laid}
use Rattle.rules.proofs.Frame.{Same}
use Rattle.table.proofs.SyntaxLaws.{node_id, apart_sub}
use Rattle.rules.proofs.Moves.{Becomes, Opens, Opens*, Keeps, Keeps*, Inner}
use Rattle.table.proofs.CallPlaces.{sub_call}
use Rattle.rules.specs.Arithmetic.{Arithmetic, keep_all}
use Rattle.rules.proofs.Invariant.{New, Sound, Step, inner, enter, leave, again}
use Rattle.rules.proofs.Acting.{stepping_live}
use Rattle.rules.specs.Step.{stuck, does, finishes, done, all_done, branch, act}
use Rattle.rules.proofs.Performed.{Begins, Turns, Finishes, Resets, Owns, Does, Acted}
use Rattle.rules.proofs.ActCases.{by_pick, by_state, live_open}
use Rattle.rules.proofs.LaidFacts.{every_all, every_all*, under_all, root_node, opens_all, opens_all*, all_done_finished}
use Rattle.rules.proofs.LaidFacts.{own_node, callee_fn}

module _ (units : Arithmetic) (F : ℕ) (body : ℕ → Expr) where
  -- the node of a step
  abbrev pub stepped : {s s' : View} → Step units F body s s' → ℕ
  stepped (inner h r u st) = id u
  stepped (enter h r n g es st) = n
  stepped (leave h r n g es st) = n
  stepped (again h r n es st) = n

  abbrev pub StepAt : View → View → ℕ → Type 0
  StepAt s s' n = (st : Step units F body s s') × (stepped st ≡ n)

module _ (units : Arithmetic) {F N : ℕ} {body at : ℕ → Expr} {home : ℕ → ℕ} (laid : Laid F N body at home) where
  module _ (s s' : View) (sound : Sound F body s) (h : ℕ) (r : Fn F body h) where
    open_at : (u : Expr) → Sub u (body h) → s.status (id u) ≡ 1 → Open s (id u)
    open_at u p e = live_open s u (stepping_live sound h r u p (open_moves s (id u) e)) e

    apart : (u : Expr) → Sub u (body h) → Apart u
    apart u p = apart_sub u (body h) (laid.well.apart h r) p

    -- a step inside the body that finishes the node
    ends : (u : Expr) → Sub u (body h) → (v : ℕ) → Does N home body s s' (id u) (finishes v) → Inner (units.result h)
        (s.register h) s s' u
        → StepAt units F body s s' (id u)
    ends u p v d i = (
      inner h r u record {
        place = p;
        rule = i;
        keeps = λ m k. d.0.others m (λ e. k (subst (λ x. Node x u) (sym e) (node_id u)));
        keeps_fn = d.1;
      },
      refl,
    )

    -- one that opens the nodes of ns
    starts : (u : Expr) → Sub u (body h) → (ns : List ℕ) → ((m : ℕ) → In m ns → Node m u) → Begins s s' (id u) ns
        → Inner (units.result h) (s.register h) s s' u → StepAt units F body s s' (id u)
    starts u p ns f d i = (
      inner h r u record {
        place = p;
        rule = i;
        keeps = λ m k. (d.others m (λ e. k (subst (λ x. Node x u) (sym e) (node_id u))) (λ i. k (f m i)), d.seconds m, d.valued m);
        keeps_fn = d.functions;
      },
      refl,
    )

    turning : (u : Expr) → Sub u (body h) → (q : ℕ) → Node q u → Turns s s' (id u) q → Inner (units.result h) (s.register h) s s' u
        → StepAt units F body s s' (id u)
    turning u p q f d i = (
      inner h r u record {
        place = p;
        rule = i;
        keeps = λ m k. (
          d.others m (λ e. k (subst (λ x. Node x u) (sym e) f)),
          d.seconds m (λ e. k (subst (λ x. Node x u) (sym e) (node_id u))),
          d.valued m,
        );
        keeps_fn = d.functions;
      },
      refl,
    )

    becomes : (n v : ℕ) → Finishes s s' n v → Becomes s s' n v
    becomes n v d = (d.status, d.second, d.value)

    -- the chain below a node that becomes busy
    begun : (n : ℕ) (es : Exprs) → (Node* n es → ⊥) → Apart* es → Begins s s' n (roots es) → Opens* s s' es
    begun n es a b d = opens_all* s s' es b (λ m i. (d.opens m i, d.seconds m))
        (λ m k i. (d.others m (λ e. a (subst (λ x. Node* x es) e k)) i, d.seconds m, d.valued m))

    kept* : (n v : ℕ) (es : Exprs) → (Node* n es → ⊥) → Finishes s s' n v → Keeps* s s' es
    kept* n v es a d = every_all* (Same s s') es (λ m k. d.others m (λ e. a (subst (λ x. Node* x es) e k)))

    kept : (n v : ℕ) (e : Expr) → (Node n e → ⊥) → Finishes s s' n v → Keeps s s' e
    kept n v e a d = every_all (Same s s') e (λ m k. d.others m (λ p. a (subst (λ x. Node x e) p k)))

    const_step : (n v : ℕ) → Sub (const n v) (body h) → Acted N home body s s' n (act units body h s (const n v))
        → StepAt units F body s s' n
    const_step n v p = by_state (λ x. Acted N home body s s' n x → StepAt units F body s s' n) (s.status n) (does (finishes v)) stuck
        (λ o d. ends (const n v) p v d (open_at (const n v) p o, becomes n v d.0)) (λ e. absurd) absurd

    param_step : (n i : ℕ) → Sub (param n i) (body h) → Acted N home body s s' n (act units body h s (param n i))
        → StepAt units F body s s' n
    param_step n i p = by_state (λ x. Acted N home body s s' n x → StepAt units F body s s' n) (s.status n)
        (does (finishes (s.register h i))) stuck
        (λ o d. ends (param n i) p (s.register h i) d (open_at (param n i) p o, becomes n (s.register h i) d.0)) (λ e. absurd) absurd

    bound_step : (n q : ℕ) → Sub (bound n q) (body h) → Acted N home body s s' n (act units body h s (bound n q))
        → StepAt units F body s s' n
    bound_step n q p = by_state (λ x. Acted N home body s s' n x → StepAt units F body s s' n) (s.status n)
        (does (finishes (s.value q))) stuck
        (λ o d. ends (bound n q) p (s.value q) d (open_at (bound n q) p o, becomes n (s.value q) d.0)) (λ e. absurd) absurd

    prim_step : (n op : ℕ) (es : Exprs) → Sub (prim n op es) (body h) → Acted N home body s s' n (act units body h s (prim n op es))
        → StepAt units F body s s' n
    prim_step n op es p = by_state (λ x. Acted N home body s s' n x → StepAt units F body s s' n) (s.status n) _ _
        (λ o d. let k = open_at (prim n op es) p o in
        starts (prim n op es) p (roots es) (λ m i. inr (root_node m es i)) d
        (inl (k, (d.busy, d.seconds n ∙ k.1), begun n es a.0 a.1 d)))
        (λ b. by_pick (λ x. Acted N home body s s' n x → StepAt units F body s s' n) (all_done s es) _ _
        (λ f d. ends (prim n op es) p v d (inr (b, all_done_finished s es f, becomes n v d.0, kept* n v es a.0 d.0)))
        (λ e. absurd))
        absurd
      where
        a : Apart (prim n op es)
        a = apart (prim n op es) p

        v : ℕ
        v = units.result h op (values s.value es)

    -- one expression below a node that becomes busy, or in its second phase
    begun₁ : (n : ℕ) (e : Expr) → (Node n e → ⊥) → Apart e → Begins s s' n (id e ∷ []) → Opens s s' e
    begun₁ n e a b d = opens_all s s' e b (d.opens (id e) (inl refl), d.seconds (id e))
        (λ m k i. (d.others m (λ p. a (subst (λ x. Node x e) p k)) (⊎_elim i (λ z. z)), d.seconds m, d.valued m))

    begun_kept : (n q : ℕ) (e : Expr) → (Node n e → ⊥) → (Node q e → ⊥) → Begins s s' n (q ∷ []) → Keeps s s' e
    begun_kept n q e a b d = every_all (Same s s') e
        (λ m k. (
          d.others m (λ p. a (subst (λ x. Node x e) p k)) (⊎_elim (λ p. b (subst (λ x. Node x e) p k)) (λ z. z)),
          d.seconds m,
          d.valued m,
        ))

    turned : (n : ℕ) (e : Expr) → (Node n e → ⊥) → Apart e → Turns s s' n (id e) → Opens s s' e
    turned n e a b d = opens_all s s' e b (d.opens, d.seconds (id e) (λ p. a (subst (λ x. Node x e) p (node_id e))))
        (λ m k i. (d.others m i, d.seconds m (λ p. a (subst (λ x. Node x e) p k)), d.valued m))

    turned_same : (n q m : ℕ) → Turns s s' n q → (m ≡ n → ⊥) → (m ≡ q → ⊥) → Same s s' m
    turned_same n q m d a b = (d.others m b, d.seconds m a, d.valued m)

    turned_kept : (n q : ℕ) (e : Expr) → (Node n e → ⊥) → (Node q e → ⊥) → Turns s s' n q → Keeps s s' e
    turned_kept n q e a b d = every_all (Same s s') e (λ m k. turned_same n q m d (λ p. a (subst (λ x. Node x e) p k))
        (λ p. b (subst (λ x. Node x e) p k)))

    cond_step : (n : ℕ) (a b c : Expr) → Sub (cond n a b c) (body h) → Acted N home body s s' n (act units body h s (cond n a b c))
        → StepAt units F body s s' n
    cond_step n a b c p = by_state (λ x. Acted N home body s s' n x → StepAt units F body s s' n) (s.status n) _ _
        (λ o d. let k = open_at u p o in
        starts u p (id a ∷ []) (λ m i. inr (inl (root m i))) d
        (inl (
          k,
          (d.busy, d.seconds n ∙ k.1),
          begun₁ n a x.0 x.3 d,
          begun_kept n (id a) b x.1 (x.6 (id a) (node_id a)) d,
          begun_kept n (id a) c x.2 (x.7 (id a) (node_id a)) d,
        )))
        (λ t. by_pick (λ y. Acted N home body s s' n y → StepAt units F body s s' n) (s.second n) _ _
        (λ w. by_pick (λ y. Acted N home body s s' n y → StepAt units F body s s' n) (done s (id (branch (s.value (id a)) b c))) _ _
        (λ f d. ends u p (s.value (id (branch (s.value (id a)) b c))) d
        (inr (inr (
          (t, w),
          over (s.value (id a)) f d.0,
          kept n _ a x.0 d.0,
          kept n _ b x.1 d.0,
          kept n _ c x.2 d.0,
        ))))
        (λ e. absurd))
        (λ w. by_pick (λ y. Acted N home body s s' n y → StepAt units F body s s' n) (done s (id a)) _ _
        (λ f d. turning u p (id (branch (s.value (id a)) b c)) (chosen (s.value (id a))) d
        (inr (inl (
          (t, w),
          eqb-true (s.status (id a)) 3 f,
          (d.others n (apart_root (s.value (id a))) ∙ t, d.second),
          below (s.value (id a)) d,
          taken (s.value (id a)) d,
        ))))
        (λ e. absurd)))
        absurd
      where
        u : Expr
        u = cond n a b c

        x : Apart (cond n a b c)
        x = apart (cond n a b c) p

        root : (m : ℕ) → In m (id a ∷ []) → Node m a
        root m (inl e) = subst (λ y. Node y a) (sym e) (node_id a)
        root m (inr z) = absurd z

        chosen : (v : ℕ) → Node (id (branch v b c)) (cond n a b c)
        chosen zero = inr (inr (inr (node_id c)))
        chosen (suc v) = inr (inr (inl (node_id b)))

        apart_root : (v : ℕ) → n ≡ id (branch v b c) → ⊥
        apart_root zero e = x.2 (subst (λ y. Node y c) (sym e) (node_id c))
        apart_root (suc v) e = x.1 (subst (λ y. Node y b) (sym e) (node_id b))

        over : (v : ℕ) → done s (id (branch v b c)) ≡ true → Finishes s s' n (s.value (id (branch v b c)))
            → Chosen ((s.status (id b) ≡ 3) × Becomes s s' n (s.value (id b)))
            ((s.status (id c) ≡ 3) × Becomes s s' n (s.value (id c))) v
        over zero f d = (eqb-true (s.status (id c)) 3 f, becomes n (s.value (id c)) d)
        over (suc v) f d = (eqb-true (s.status (id b)) 3 f, becomes n (s.value (id b)) d)

        below : (v : ℕ) → Turns s s' n (id (branch v b c)) → Keeps s s' a
        below zero d = turned_kept n (id c) a x.0 (λ k. x.7 (id c) k (node_id c)) d
        below (suc v) d = turned_kept n (id b) a x.0 (λ k. x.6 (id b) k (node_id b)) d

        taken : (v : ℕ) → Turns s s' n (id (branch v b c))
            → Chosen (Opens s s' b × Keeps s s' c)
            (Opens s s' c × Keeps s s' b) v
        taken zero d = (turned n c x.2 x.5 d, turned_kept n (id c) b x.1 (λ k. x.8 (id c) k (node_id c)) d)
        taken (suc v) d = (turned n b x.1 x.4 d, turned_kept n (id b) c x.2 (x.8 (id b) (node_id b)) d)

    bind_step : (n : ℕ) (ds : Exprs) (b : Expr) → Sub (bind n ds b) (body h)
        → Acted N home body s s' n (act units body h s (bind n ds b)) → StepAt units F body s s' n
    bind_step n ds b p = by_state (λ x. Acted N home body s s' n x → StepAt units F body s s' n) (s.status n) _ _
        (λ o d. let k = open_at (bind n ds b) p o in
        starts (bind n ds b) p (roots ds) (λ m i. inr (inl (root_node m ds i))) d
        (inl (
          k,
          (d.busy, d.seconds n ∙ k.1),
          begun n ds x.0 x.2 d,
          every_all (Same s s') b (λ m k. (
            d.others m (λ e. x.1 (subst (λ y. Node y b) e k)) (λ i. x.4 m (root_node m ds i) k),
            d.seconds m,
            d.valued m,
          )),
        )))
        (λ t. by_pick (λ y. Acted N home body s s' n y → StepAt units F body s s' n) (s.second n) _ _
        (λ w. by_pick (λ y. Acted N home body s s' n y → StepAt units F body s s' n) (done s (id b)) _ _
        (λ f d. ends (bind n ds b) p (s.value (id b)) d
        (inr (inr (
          (t, w),
          eqb-true (s.status (id b)) 3 f,
          becomes n (s.value (id b)) d.0,
          kept* n _ ds x.0 d.0,
          kept n _ b x.1 d.0,
        ))))
        (λ e. absurd))
        (λ w. by_pick (λ y. Acted N home body s s' n y → StepAt units F body s s' n) (all_done s ds) _ _
        (λ f d. turning (bind n ds b) p (id b) (inr (inr (node_id b))) d
        (inr (inl (
          (t, w),
          all_done_finished s ds f,
          (
            d.others n (λ e. x.1 (subst (λ y. Node y b) (sym e) (node_id b)))
                ∙ t,
            d.second,
          ),
          every_all* (Same s s') ds (λ m k. turned_same n (id b) m d (λ e. x.0 (subst (λ y. Node* y ds) e k))
              (λ e. x.4 m k (subst (λ y. Node y b) (sym e) (node_id b)))),
          turned n b x.1 x.3 d,
        ))))
        (λ e. absurd)))
        absurd
      where
        x : Apart (bind n ds b)
        x = apart (bind n ds b) p

    -- a body after its reset is new
    renewed : (g : ℕ) → Fn F body g → (but : ℕ → Type 0) (vs : List ℕ) → Resets s s' (Owns N home g) but (id (body g)) g vs
        → New body s' g
    renewed g q but vs d = (
      d.root,
      under_all (Idle s') (body g) (laid.well.apart g q)
          (λ m k e. d.idle m (own m (laid.inside g m q k)) e),
    )
      where
        own : (m : ℕ) → (home m ≡ g) × (1 ≤ m) × (m ≤ N) → Owns N home g m
        own m i = (i.1, i.2, i.0)

    call_step : (n g : ℕ) (es : Exprs) → Sub (call n g es) (body h) → Acted N home body s s' n (act units body h s (call n g es))
        → StepAt units F body s s' n
    call_step n g es p = by_state (λ x. Acted N home body s s' n x → StepAt units F body s s' n) (s.status n) _ _
        (λ o d. let k = open_at (call n g es) p o in
        starts (call n g es) p (roots es) (λ m i. inr (root_node m es i)) d
        (k, (d.busy, d.seconds n ∙ k.1), begun n es x.0 x.1 d))
        (λ t. by_pick (λ y. Acted N home body s s' n y → StepAt units F body s s' n) (s.second n) _ _
        (λ w. by_pick (λ y. Acted N home body s s' n y → StepAt units F body s s' n) (done s (id (body g))) _ _
        (λ f d. (
          leave h r n g es record {
            place = p;
            holds = (t, w);
            over = eqb-true (s.status (id (body g))) 3 f;
            becomes = becomes n (units.keep h (s.value (id (body g)))) d.done;
            keeps = d.done.others;
            frees = d.frees;
            registers = d.registers g;
            keeps_fn = λ f e. (d.occupants f e, d.registers f);
          },
          refl,
        ))
        (λ e. absurd))
        (λ w. by_pick (λ y. Acted N home body s s' n y → StepAt units F body s s' n) (all_done s es) _ _
        (λ f. by_pick (λ y. Acted N home body s s' n y → StepAt units F body s s' n) (eqb (s.occupant g) 0) _ _
        (λ z d. (
          enter h r n g es record {
            place = p;
            waits = (t, w);
            ready = all_done_finished s es f;
            free = eqb-true (s.occupant g) 0 z;
            enters = (d.status ∙ t, d.second);
            new = renewed g fn_g (λ m. m ≡ n) (keep_all units g (values s.value es)) d.new;
            keeps = λ m e k. d.new.others m e (λ o. k (own_node laid g m (o.0, o.1) o.2));
            occupies = d.occupies;
            arguments = d.new.registers;
            keeps_fn = d.new.functions;
          },
          refl,
        ))
        (λ e. absurd))
        (λ e. absurd)))
        absurd
      where
        x : Apart (call n g es)
        x = apart (call n g es) p

        fn_g : Fn F body g
        fn_g = callee_fn laid.well h n g r (sub_call n g es (body h) p)

    self_step : (n : ℕ) (es : Exprs) → Sub (self n es) (body h) → Acted N home body s s' n (act units body h s (self n es))
        → StepAt units F body s s' n
    self_step n es p = by_state (λ x. Acted N home body s s' n x → StepAt units F body s s' n) (s.status n) _ _
        (λ o d. let k = open_at (self n es) p o in
        starts (self n es) p (roots es) (λ m i. inr (root_node m es i)) d (k, (d.busy, d.seconds n ∙ k.1), begun n es x.0 x.1 d))
        (λ t. by_pick (λ y. Acted N home body s s' n y → StepAt units F body s s' n) (all_done s es) _ _
        (λ f d. (
          again h r n es record {
            place = p;
            waits = t;
            ready = all_done_finished s es f;
            new = renewed h r (λ m. ⊥) (keep_all units h (values s.value es)) d.0;
            keeps = λ m k. d.0.others m (λ z. z) (λ o. k (own_node laid h m (o.0, o.1) o.2));
            arguments = d.0.registers;
            occupants = d.1;
            keeps_fn = d.0.functions;
          },
          refl,
        ))
        (λ e. absurd))
        absurd
      where
        x : Apart (self n es)
        x = apart (self n es) p

    pub acted_step : (u : Expr) → Sub u (body h) → Acted N home body s s' (id u) (act units body h s u) → StepAt units F body s s' (id u)
    acted_step (const n v) = const_step n v
    acted_step (param n i) = param_step n i
    acted_step (prim n op es) = prim_step n op es
    acted_step (call n g es) = call_step n g es
    acted_step (self n es) = self_step n es
    acted_step (cond n a b c) = cond_step n a b c
    acted_step (bind n ds b) = bind_step n ds b
    acted_step (bound n d) = bound_step n d
