-- what the code makes of the packed sets is what each move makes of the sets: a node that is done, a function that is as new
use Rattle.std.proofs.Common.{◌≡◌, ℕ, suc, ◌+◌, ◌*◌, ◌<◌, ◌≤◌, Bool, true, false, not, ◌&&◌, ◌||◌, eqb, List, sym, refl, ap, ◌∙◌, subst}
use Rattle.std.proofs.Common.{ap₂, arith, lt-ltb, eq-eqb, ne_eqb}
use native.Mathlib.Decide.{ℕ_discrete}
use Rattle.table.specs.Pick.{pick, Range}
use Rattle.table.specs.Syntax.{id}
use Rattle.table.specs.Bytes.{nodes, root}
use Rattle.table.specs.Naming.{owner, parent}
use Rattle.table.specs.Expressions.{expr_at, body_of}
use Rattle.table.specs.Working.{Taken, IsNode, IsFunction}
use Rattle.table.proofs.Bodies.{id_body}
use Rattle.table.proofs.Tests.{ltb_no}
use Rattle.list.specs.Working.{packed, Bit}
use Rattle.rules.specs.Step.{mine}
use Rattle.rules.specs.Play.{calls}
use Rattle.rules.specs.Sets.{Sets}
use Rattle.circuit.specs.Packed.{Packs, sets_as, site, Rowed, Past, Places, Ends, Renews}
use Rattle.circuit.proofs.ChainLaws.{ok}

or_no : (a : Bool) → (a || false) ≡ a
or_no true = refl
or_no false = refl

and_no : (a : Bool) → (a && false) ≡ false
and_no true = refl
and_no false = refl

-- a node has a bit, and a row says of it what the table says; past N a row has nothing
module _ (t : List ℕ) (fair : Taken t) (m : ℕ) where
  pub node_bit : Range (nodes t) m → Bit m
  node_bit r = (r.0, omega (arith, r.1, (ok t fair).n_high))

  pub member_is : Range (nodes t) m → (g : ℕ) → mine (nodes t) (owner t) g m ≡ eqb (owner t m) g
  member_is r g = ap (λ b. b && eqb (owner t m) g) (lt-ltb m (suc (nodes t)) (omega (arith, r.1)))

  pub site_is : Range (nodes t) m → (g : ℕ) → site t (nodes t) g m ≡ calls (expr_at t m) g
  site_is r g = ap (λ b. b && calls (expr_at t m) g) (lt-ltb m (suc (nodes t)) (omega (arith, r.1)))

  pub site_past : nodes t < m → (g : ℕ) → site t (nodes t) g m ≡ false
  site_past h g = ap (λ b. b && calls (expr_at t m) g) (ltb_no m (suc (nodes t)) (λ z. omega (arith, z)))

-- a node that is done
module _ (t : List ℕ) (fair : Taken t) (n : ℕ) (i : IsNode t n) (x y : Sets) (p : Places n false false false x y) where
  past_others : (m : ℕ) → nodes t < m → m ≤ 512 → (y.armed m ≡ x.armed m) × (y.waiting m ≡ x.waiting m)
  past_others m h k = let s = p.others m (omega arith, k) (λ e. omega (arith, e, i.1)) in (s.0, s.1)

  pub ended_inner : (parent t n ≡ 0 → ⊥) → Ends t n x y
  ended_inner d = record {
    ending = record {
      own = p.here;
      armed = λ m r e f. (p.others m (node_bit t fair m r) e).0
          ∙ sym (ap (λ b. x.armed m || (b && (x.inside m && calls (expr_at t m) (owner t n)))) (ne_eqb (parent t n) 0 d)
          ∙ or_no (x.armed m));
      others = λ m r e f. let s = p.others m (node_bit t fair m r) e in (s.1, s.2);
    };
    past = λ q m h k. let s = past_others m h k in let z = q m h k in (s.0 ∙ z.0, s.1 ∙ z.1);
  }

  -- a root: in z the calls inside its function are armed, too
  module _ (top : parent t n ≡ 0) (z : Sets)
      (is : (m : ℕ) → Bit m → z.armed m ≡ (y.armed m || (y.inside m && site t (nodes t) (owner t n) m)))
      (kept : (m : ℕ) → (z.waiting m ≡ y.waiting m) × (z.inside m ≡ y.inside m)) where
    ended_root : Ends t n x z
    ended_root = record {
      ending = record {
        own = (
          is n (node_bit t fair n i) ∙ ap₂ (λ a b. a || (b && site t (nodes t) (owner t n) n)) p.here.0 p.here.2,
          (kept n).0 ∙ p.here.1,
          (kept n).1 ∙ p.here.2,
        );
        armed = λ m r e f. let s = p.others m (node_bit t fair m r) e in
            is m (node_bit t fair m r)
            ∙ (λ j. s.0 j || (s.2 j && site_is t fair m r (owner t n) j))
            ∙ sym (ap (λ b. x.armed m || (b && (x.inside m && calls (expr_at t m) (owner t n)))) (eq-eqb (parent t n) 0 top));
        others = λ m r e f. let s = p.others m (node_bit t fair m r) e in ((kept m).0 ∙ s.1, (kept m).1 ∙ s.2);
      };
      past = λ q m h k. let s = past_others m h k in let o = q m h k in (
        is m (omega arith, k)
            ∙ ap (λ b. y.armed m || (y.inside m && b)) (site_past t fair m h (owner t n))
            ∙ ap (λ b. y.armed m || b) (and_no (y.inside m)) ∙ or_no (y.armed m) ∙ s.0 ∙ o.0,
        (kept m).0 ∙ s.1 ∙ o.1,
      );
    }

-- .. as the rows tell them
pub ended_by : (t : List ℕ) → Taken t → (rows : List ℕ) → Rowed t rows → (n : ℕ) → IsNode t n → parent t n ≡ 0 → (f : ℕ) → f ≡ owner t n
    → IsFunction t (owner t n) → (x y z : Sets) → Places n false false false x y
    → ((m : ℕ) → Bit m → z.armed m ≡ (y.armed m || (y.inside m && packed rows (512 * (32 + f) + m))))
    → ((m : ℕ) → (z.waiting m ≡ y.waiting m) × (z.inside m ≡ y.inside m)) → Ends t n x z
ended_by t fair rows rd n i top f ef fn x y z p is kept = ended_root t fair n i x y p top z
    (λ m b. is m b ∙ ap (λ v. y.armed m || (y.inside m && v))
    (ap (λ k. packed rows (512 * (32 + k) + m)) ef ∙ rd.sites (owner t n) m fn.0 (omega (arith, fn.1, (ok t fair).f_high)) b))
    kept

eqb_turned : (m n : ℕ) → eqb m n ≡ eqb n m
eqb_turned m n = go (ℕ_discrete m n)
  where
    go : Dec (m ≡ n) → eqb m n ≡ eqb n m
    go (yes e) = eq-eqb m n e ∙ sym (eq-eqb n m (sym e))
    go (no e) = ne_eqb m n e ∙ sym (ne_eqb n m (λ z. e (sym z)))

-- the same tests, put in another order
without_two : (e a m c : Bool) → pick e true ((a && not m) && not c) ≡ (e || (a && not (m || c)))
without_two true a m c = refl
without_two false true true c = refl
without_two false true false c = refl
without_two false false m c = refl

out_of_two : (e w m : Bool) → pick e false (w && not m) ≡ (w && not (e || m))
out_of_two true true m = refl
out_of_two true false m = refl
out_of_two false w m = refl

into : (e i : Bool) → pick e true i ≡ (e || i)
into true i = refl
into false i = refl

-- a function that is as new; r is its root
module _ (t : List ℕ) (fair : Taken t) (rows : List ℕ) (rd : Rowed t rows) (g : ℕ) (f : IsFunction t g) (r : ℕ) (er : r ≡ root t g)
    (own sites callers : List ℕ) (po : Packs (λ m. packed rows (512 * g + m)) own)
    (ps : Packs (λ m. packed rows (512 * (32 + g) + m)) sites) (a₀ w₀ i₀ : List ℕ)
    (pc : Packs (λ m. packed i₀ m && packed sites m) callers) (a₁ a₂ a₃ w₁ i₁ : List ℕ)
    (p₁ : Packs (λ m. packed a₀ m && not (packed own m)) a₁) (p₂ : Packs (λ m. packed a₁ m && not (packed callers m)) a₂)
    (p₃ : Packs (λ m. pick (eqb r m) true (packed a₂ m)) a₃) (q₁ : Packs (λ m. packed w₀ m && not (packed own m)) w₁)
    (j₁ : Packs (λ m. packed i₀ m && not (packed own m)) i₁) where
  few : g ≤ 32
  few = omega (arith, f.1, (ok t fair).f_high)

  own_is : (m : ℕ) → Bit m → packed own m ≡ mine (nodes t) (owner t) g m
  own_is m b = po.bits m b ∙ rd.members g m few b

  sites_are : (m : ℕ) → Bit m → packed sites m ≡ site t (nodes t) g m
  sites_are m b = ps.bits m b ∙ rd.sites g m f.0 few b

  armed_is : (m : ℕ) → Bit m → packed a₃ m
      ≡ pick (eqb r m) true ((packed a₀ m && not (mine (nodes t) (owner t) g m)) && not (packed i₀ m && site t (nodes t) g m))
  armed_is m b = p₃.bits m b ∙ ap (pick (eqb r m) true)
      (p₂.bits m b ∙ ap₂ (λ u v. u && not v) (p₁.bits m b ∙ ap (λ v. packed a₀ m && not v) (own_is m b))
      (pc.bits m b ∙ ap (λ v. packed i₀ m && v) (sites_are m b)))

  waiting_is : (m : ℕ) → Bit m → packed w₁ m ≡ (packed w₀ m && not (mine (nodes t) (owner t) g m))
  waiting_is m b = q₁.bits m b ∙ ap (λ v. packed w₀ m && not v) (own_is m b)

  inside_is : (m : ℕ) → Bit m → packed i₁ m ≡ (packed i₀ m && not (mine (nodes t) (owner t) g m))
  inside_is m b = j₁.bits m b ∙ ap (λ v. packed i₀ m && not v) (own_is m b)

  root_id : r ≡ id (body_of t g)
  root_id = er ∙ sym (id_body t (ok t fair) g f)

  root_in : r ≤ nodes t
  root_in = omega (arith, er, ((ok t fair).linking.roots g f).1)

  -- of a node
  module _ (m : ℕ) (k : Range (nodes t) m) where
    bit : Bit m
    bit = node_bit t fair m k

    armed_at : packed a₃ m
        ≡ (eqb m (id (body_of t g)) || (packed a₀ m && not (eqb (owner t m) g || (packed i₀ m && calls (expr_at t m) g))))
    armed_at = armed_is m bit
        ∙ (λ j. pick ((eqb_turned r m ∙ ap (eqb m) root_id) j) true
        ((packed a₀ m && not (member_is t fair m k g j)) && not (packed i₀ m && site_is t fair m k g j)))
        ∙ without_two (eqb m (id (body_of t g))) (packed a₀ m) (eqb (owner t m) g) (packed i₀ m && calls (expr_at t m) g)

    waiting_at : packed w₁ m ≡ (packed w₀ m && not (eqb (owner t m) g))
    waiting_at = waiting_is m bit ∙ ap (λ v. packed w₀ m && not v) (member_is t fair m k g)

    inside_at : packed i₁ m ≡ (packed i₀ m && not (eqb (owner t m) g))
    inside_at = inside_is m bit ∙ ap (λ v. packed i₀ m && not v) (member_is t fair m k g)

  -- past N
  module _ (h : List ℕ) (q : Past (nodes t) (sets_as a₀ w₀ i₀ h)) (m : ℕ) (d : nodes t < m) (l : m ≤ 512) where
    armed_past : packed a₃ m ≡ false
    armed_past = armed_is m (omega arith, l)
        ∙ ap₂ (λ u v. pick u true ((v && not (mine (nodes t) (owner t) g m)) && not (packed i₀ m && site t (nodes t) g m)))
        (ne_eqb r m (λ z. omega (arith, z, root_in))) (q m d l).0

    waiting_past : packed w₁ m ≡ false
    waiting_past = waiting_is m (omega arith, l) ∙ ap (λ v. v && not (mine (nodes t) (owner t) g m)) (q m d l).1

  pub renewed : (n : ℕ) (h : List ℕ) (anew : Bool) → anew ≡ false → Renews t n g anew (sets_as a₀ w₀ i₀ h) (sets_as a₃ w₁ i₁ h)
  renewed n h anew e = subst (λ b. Renews t n g b (sets_as a₀ w₀ i₀ h) (sets_as a₃ w₁ i₁ h)) (sym e) (record {
    renewing = record { armed = armed_at; waiting = waiting_at; inside = inside_at };
    held = λ m k. refl;
    past = λ q m d l. (armed_past h q m d l, waiting_past h q m d l);
  })

  module _ (n : ℕ) (i : IsNode t n) (w₂ i₂ h₀ h₂ : List ℕ) (q₂ : Packs (λ m. pick (eqb n m) false (packed w₁ m)) w₂)
      (j₂ : Packs (λ m. pick (eqb n m) true (packed i₁ m)) i₂) (ph : Packs (λ m. packed h₀ m || packed sites m) h₂) where
    pub entered_anew : (anew : Bool) → anew ≡ true → Renews t n g anew (sets_as a₀ w₀ i₀ h₀) (sets_as a₃ w₂ i₂ h₂)
    entered_anew anew e = subst (λ b. Renews t n g b (sets_as a₀ w₀ i₀ h₀) (sets_as a₃ w₂ i₂ h₂)) (sym e) (record {
      renewing = record {
        armed = armed_at;
        waiting = λ m k. q₂.bits m (node_bit t fair m k) ∙ ap₂ (λ e w. pick e false w) (eqb_turned n m) (waiting_at m k)
            ∙ out_of_two (eqb m n) (packed w₀ m) (eqb (owner t m) g);
        inside = λ m k. j₂.bits m (node_bit t fair m k) ∙ ap₂ (λ e v. pick e true v) (eqb_turned n m) (inside_at m k)
            ∙ into (eqb m n) (packed i₀ m && not (eqb (owner t m) g));
      };
      held = λ m k. ph.bits m (node_bit t fair m k)
          ∙ ap (λ v. packed h₀ m || v) (sites_are m (node_bit t fair m k) ∙ site_is t fair m k g);
      past = λ q m d l. (
        armed_past h₀ q m d l,
        q₂.bits m (omega arith, l) ∙ ap₂ (λ e w. pick e false w) (ne_eqb n m (λ z. omega (arith, z, i.1))) (waiting_past h₀ q m d l),
      );
    })
