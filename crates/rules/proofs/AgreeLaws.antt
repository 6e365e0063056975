-- states that agree at some entries: with themselves, at fewer entries, over a third, and everywhere
use Prim.Native.Nat.{ℕ}
use mathlib.Core.Path.{refl, sym, ◌∙◌}
use mathlib.Core.Logic.{◌⊎◌, ⊎_elim}
use Rattle.rules.specs.State.{View}
use Rattle.rules.specs.Companions.{Agree}

-- at every number
abbrev pub Everywhere : ℕ → Type 0
Everywhere n = Unit {0}

pub agree_same : (P Q : ℕ → Type 0) (s : View) → Agree P Q s s
agree_same P Q s = record {
  status = λ n p. refl;
  second = λ n p. refl;
  value = λ n p. refl;
  register = λ f i q. refl;
  occupant = λ f q. refl;
}

-- at fewer entries
pub agree_fewer : {P Q : ℕ → Type 0} (P' Q' : ℕ → Type 0) {s s' : View} → ((n : ℕ) → P' n → P n) → ((f : ℕ) → Q' f → Q f)
    → Agree P Q s s' → Agree P' Q' s s'
agree_fewer P' Q' i j x = record {
  status = λ n p. x.status n (i n p);
  second = λ n p. x.second n (i n p);
  value = λ n p. x.value n (i n p);
  register = λ f k q. x.register f k (j f q);
  occupant = λ f q. x.occupant f (j f q);
}

-- both agree with a third
pub agree_both : (P Q : ℕ → Type 0) (r s s' : View) → Agree P Q r s → Agree P Q r s' → Agree P Q s s'
agree_both P Q r s s' x y = record {
  status = λ n p. sym (x.status n p) ∙ y.status n p;
  second = λ n p. sym (x.second n p) ∙ y.second n p;
  value = λ n p. sym (x.value n p) ∙ y.value n p;
  register = λ f i q. sym (x.register f i q) ∙ y.register f i q;
  occupant = λ f q. sym (x.occupant f q) ∙ y.occupant f q;
}

-- every entry is of one kind or the other
pub agree_everywhere : (P Q P' Q' : ℕ → Type 0) (s s' : View) → ((n : ℕ) → P n ⊎ P' n) → ((f : ℕ) → Q f ⊎ Q' f)
    → Agree P Q s s' → Agree P' Q' s s' → Agree Everywhere Everywhere s s'
agree_everywhere P Q P' Q' s s' n? f? x y = record {
  status = λ n u. ⊎_elim (x.status n) (y.status n) (n? n);
  second = λ n u. ⊎_elim (x.second n) (y.second n) (n? n);
  value = λ n u. ⊎_elim (x.value n) (y.value n) (n? n);
  register = λ f i u. ⊎_elim (x.register f i) (y.register f i) (f? f);
  occupant = λ f u. ⊎_elim (x.occupant f) (y.occupant f) (f? f);
}
