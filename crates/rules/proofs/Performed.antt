-- what a move changes, entry by entry
use Prim.Native.Nat.{ℕ, suc, ◌≤◌}
use mathlib.Core.Bool.{Bool, true, false, ◌&&◌}
use mathlib.Core.Path.{◌≡◌, refl, subst, sym, ap, ◌∙◌}
use mathlib.Core.List.{List}
use native.Mathlib.Omega.{arith}
use lib.Dec.{eqb, ltb}
use lib.ListN.{length, get_or}
use borrow.Author.Tests.{eq-eqb, ne_eqb, ltb-true, lt-ltb}
use Rattle.table.specs.Syntax.{Expr, id}
use Rattle.rules.specs.State.{View, State512, Sized, entry, write, view, clear, In}
use Rattle.rules.proofs.Frame.{Same, SameFunction}
use Rattle.rules.proofs.StateLaws.{length_write, length_clear, length_fill, length_opened, entry_same, entry_other, clear_mine}
use Rattle.rules.proofs.StateLaws.{clear_other, fill_mine, fill_other, opened_in, opened_other}
use Rattle.rules.specs.Step.{Act, stuck, blocked, does, Move, begins, turns, finishes, enters, leaves, restarts, mine, reset}
use Rattle.rules.specs.Step.{finish, perform}
use Rattle.table.specs.Pick.{Range}

pub record Begins (s s' : View) (n : ℕ) (ns : List ℕ) : Type 0 where
  pub busy : s'.status n ≡ 2
  pub opens : (m : ℕ) → In m ns → s'.status m ≡ 1
  pub others : (m : ℕ) → (m ≡ n → ⊥) → (In m ns → ⊥) → s'.status m ≡ s.status m
  pub seconds : (m : ℕ) → s'.second m ≡ s.second m
  pub valued : (m : ℕ) → s'.value m ≡ s.value m
  pub functions : (f : ℕ) → SameFunction s s' f

pub record Turns (s s' : View) (n k : ℕ) : Type 0 where
  pub opens : s'.status k ≡ 1
  pub others : (m : ℕ) → (m ≡ k → ⊥) → s'.status m ≡ s.status m
  pub second : s'.second n ≡ true
  pub seconds : (m : ℕ) → (m ≡ n → ⊥) → s'.second m ≡ s.second m
  pub valued : (m : ℕ) → s'.value m ≡ s.value m
  pub functions : (f : ℕ) → SameFunction s s' f

pub record Finishes (s s' : View) (n v : ℕ) : Type 0 where
  pub status : s'.status n ≡ 3
  pub second : s'.second n ≡ false
  pub value : s'.value n ≡ v
  pub others : (m : ℕ) → (m ≡ n → ⊥) → Same s s' m

-- a function's body as new: `own` are its nodes, r is its root; `but` is not spoken of
pub record Resets (s s' : View) (own but : ℕ → Type 0) (r g : ℕ) (vs : List ℕ) : Type 0 where
  pub root : (s'.status r ≡ 1) × (s'.second r ≡ false)
  pub idle : (m : ℕ) → own m → (m ≡ r → ⊥) → (s'.status m ≡ 0) × (s'.second m ≡ false)
  pub others : (m : ℕ) → (but m → ⊥) → (own m → ⊥) → Same s s' m
  pub registers : (i : ℕ) → s'.register g i ≡ get_or vs i 0
  pub functions : (f : ℕ) → (f ≡ g → ⊥) → SameFunction s s' f

pub record Enters (s s' : View) (own : ℕ → Type 0) (r g : ℕ) (vs : List ℕ) (n : ℕ) : Type 0 where
  pub new : Resets s s' own (λ m. m ≡ n) r g vs
  pub status : s'.status n ≡ s.status n
  pub second : s'.second n ≡ true
  pub value : s'.value n ≡ s.value n
  pub occupies : s'.occupant g ≡ n

pub record Leaves (s s' : View) (n g v : ℕ) : Type 0 where
  pub done : Finishes s s' n v
  pub frees : s'.occupant g ≡ 0
  pub registers : (f i : ℕ) → s'.register f i ≡ s.register f i
  pub occupants : (f : ℕ) → (f ≡ g → ⊥) → s'.occupant f ≡ s.occupant f

-- node m belongs to function g
abbrev pub Owns : ℕ → (ℕ → ℕ) → ℕ → ℕ → Type 0
Owns N home g m = (1 ≤ m) × (m ≤ N) × (home m ≡ g)

module _ (N : ℕ) (home : ℕ → ℕ) (body : ℕ → Expr) where
  abbrev pub Does : View → View → ℕ → Move → Type 0
  Does s s' n (begins ns) = Begins s s' n ns
  Does s s' n (turns k) = Turns s s' n k
  Does s s' n (finishes v) = Finishes s s' n v × ((f : ℕ) → SameFunction s s' f)
  Does s s' n (enters g vs) = Enters s s' (Owns N home g) (id (body g)) g vs n
  Does s s' n (leaves g v) = Leaves s s' n g v
  Does s s' n (restarts f vs) =
      Resets s s' (Owns N home f) (λ m. ⊥) (id (body f)) f vs × ((g : ℕ) → s'.occupant g ≡ s.occupant g)

  -- the node has a move, and it is made
  abbrev pub Acted : View → View → ℕ → Act → Type 0
  Acted s s' n stuck = ⊥
  Acted s s' n blocked = ⊥
  Acted s s' n (does m) = Does s s' n m

module _ (F N : ℕ) (home : ℕ → ℕ) (body : ℕ → Expr) where
  -- what the laws ask of a move
  abbrev pub Fair : ℕ → Move → Type 0
  Fair n (begins ns) = ((m : ℕ) → In m ns → Range N m) × (In n ns → ⊥)
  Fair n (turns k) = Range N k
  Fair n (finishes v) = Unit {0}
  Fair n (enters g vs) = (1 ≤ g) × (g ≤ F) × (length vs ≤ 8) × Owns N home g (id (body g)) × (Owns N home g n → ⊥)
  Fair n (leaves g v) = (1 ≤ g) × (g ≤ F)
  Fair n (restarts f vs) = (1 ≤ f) × (f ≤ F) × (length vs ≤ 8) × Owns N home f (id (body f))

  abbrev pub FairAct : ℕ → Act → Type 0
  FairAct n stuck = Unit {0}
  FairAct n blocked = Unit {0}
  FairAct n (does m) = Fair n m

module _ (N : ℕ) (home : ℕ → ℕ) (g m : ℕ) where
  pub mine_own : Owns N home g m → mine N home g m ≡ true
  mine_own o = ap (λ b. b && eqb (home m) g) (lt-ltb m (suc N) (omega (arith, o.1))) ∙ eq-eqb (home m) g o.2

  pub mine_not : (Owns N home g m → ⊥) → 1 ≤ m → mine N home g m ≡ false
  mine_not o p = go (ltb m (suc N)) refl
    where
      go : (b : Bool) → ltb m (suc N) ≡ b → (b && eqb (home m) g) ≡ false
      go true e = ne_eqb (home m) g (λ h. o (p, omega (arith, ltb-true m (suc N) e), h))
      go false e = refl

module _ (F N : ℕ) (home : ℕ → ℕ) (few_functions : F ≤ 32) (few : N ≤ 512) (s : State512) (sized : Sized s) where
  -- a node's entry is there
  in_status : (m : ℕ) → m ≤ N → m ≤ length s.status
  in_status m h = omega (arith, sized.statuses, few)

  in_second : (m : ℕ) → m ≤ N → m ≤ length s.second
  in_second m h = omega (arith, sized.seconds, few)

  in_value : (m : ℕ) → m ≤ N → m ≤ length s.value
  in_value m h = omega (arith, sized.valued, few)

  in_occupant : (f : ℕ) → f ≤ F → f ≤ length s.occupant
  in_occupant f h = omega (arith, sized.occupied, few_functions)

  -- after a reset of function g, whose root is r
  module _ (g r : ℕ) (vs : List ℕ) (own : Owns N home g r) where
    abbrev t : View
    t = view (reset N home s g r vs)

    status_idle : (m : ℕ) → Owns N home g m → (m ≡ r → ⊥) → t.status m ≡ 0
    status_idle m o d =
        entry_other (clear (mine N home g) 0 s.status) r m 1 0 d
        ∙ clear_mine (mine N home g) 0 s.status m (mine_own N home g m o) o.0 (in_status m o.1)

    second_idle : (m : ℕ) → Owns N home g m → t.second m ≡ false
    second_idle m o = clear_mine (mine N home g) false s.second m (mine_own N home g m o) o.0 (in_second m o.1)

    root_open : t.status r ≡ 1
    root_open =
        entry_same (clear (mine N home g) 0 s.status) r 1 0 own.0
        (omega (arith, length_clear (mine N home g) 0 s.status, in_status r own.1))

    reset_kept : (m : ℕ) → (Owns N home g m → ⊥) → Same (view s) t m
    reset_kept m o = (
      entry_other (clear (mine N home g) 0 s.status) r m 1 0 (λ e. o (subst (Owns N home g) (sym e) own))
          ∙ clear_other (mine N home g) 0 s.status m (mine_not N home g m o),
      clear_other (mine N home g) false s.second m (mine_not N home g m o),
      clear_other (mine N home g) 0 s.value m (mine_not N home g m o),
    )

    filled : 1 ≤ g → g ≤ F → length vs ≤ 8 → (i : ℕ) → t.register g i ≡ get_or vs i 0
    filled p q h i = fill_mine g vs s.registers i p (omega (arith, q, few_functions)) sized.registered h

    kept : (f : ℕ) → (f ≡ g → ⊥) → (i : ℕ) → t.register f i ≡ (view s).register f i
    kept f e i = fill_other g vs s.registers f i e

  finish_does : (n v : ℕ) → Range N n → Finishes (view s) (view (finish s n v)) n v
  finish_does n v r = record {
    status = entry_same s.status n 3 0 r.0 (in_status n r.1);
    second = entry_same s.second n false false r.0 (in_second n r.1);
    value = entry_same s.value n v 0 r.0 (in_value n r.1);
    others = λ m e. (entry_other s.status n m 3 0 e, entry_other s.second n m false false e, entry_other s.value n m v 0 e);
  }

  module _ (body : ℕ → Expr) where
    pub perform_does : (n : ℕ) (a : Move) → Range N n → Fair F N home body n a
        → Does N home body (view s) (view (perform N home body s n a)) n a
    perform_does n (begins ns) r f = record {
      busy = opened_other (write s.status n 2) ns n f.1 ∙ entry_same s.status n 2 0 r.0 (in_status n r.1);
      opens = λ m i. opened_in (write s.status n 2) ns m (f.0 m i).0
          (omega (arith, length_write s.status n 2, in_status m (f.0 m i).1)) i;
      others = λ m e i. opened_other (write s.status n 2) ns m i ∙ entry_other s.status n m 2 0 e;
      seconds = λ m. refl;
      valued = λ m. refl;
      functions = λ f. (refl, λ i. refl);
    }
    perform_does n (turns k) r f = record {
      opens = entry_same s.status k 1 0 f.0 (in_status k f.1);
      others = λ m e. entry_other s.status k m 1 0 e;
      second = entry_same s.second n true false r.0 (in_second n r.1);
      seconds = λ m e. entry_other s.second n m true false e;
      valued = λ m. refl;
      functions = λ f. (refl, λ i. refl);
    }
    perform_does n (finishes v) r f = (finish_does n v r, λ f. (refl, λ i. refl))
    perform_does n (enters g vs) r f = record {
      new = record {
        root = (root_open g (id (body g)) vs f.3, flag (id (body g)) f.3);
        idle = λ m o d. (status_idle g (id (body g)) vs f.3 m o d, flag m o);
        others = λ m e o.
            let k = reset_kept g (id (body g)) vs f.3 m o in
            (k.0, entry_other (clear (mine N home g) false s.second) n m true false e ∙ k.1, k.2);
        registers = filled g (id (body g)) vs f.3 f.0 f.1 f.2;
        functions = λ h e. (entry_other s.occupant g h n 0 e, kept g (id (body g)) vs f.3 h e);
      };
      status = (reset_kept g (id (body g)) vs f.3 n f.4).0;
      second = entry_same (clear (mine N home g) false s.second) n true false r.0
          (omega (arith, length_clear (mine N home g) false s.second, in_second n r.1));
      value = (reset_kept g (id (body g)) vs f.3 n f.4).2;
      occupies = entry_same s.occupant g n 0 f.0 (in_occupant g f.1);
    }
      where
        flag : (m : ℕ) → Owns N home g m → entry (write (clear (mine N home g) false s.second) n true) false m ≡ false
        flag m o =
            entry_other (clear (mine N home g) false s.second) n m true false (λ e. f.4 (subst (Owns N home g) e o))
            ∙ second_idle g (id (body g)) vs f.3 m o
    perform_does n (leaves g v) r f = record {
      done = let d = finish_does n v r in record { status = d.status; second = d.second; value = d.value; others = d.others };
      frees = entry_same s.occupant g 0 0 f.0 (in_occupant g f.1);
      registers = λ h i. refl;
      occupants = λ h e. entry_other s.occupant g h 0 0 e;
    }
    perform_does n (restarts h vs) r f = (
      record {
        root = (root_open h (id (body h)) vs f.3, second_idle h (id (body h)) vs f.3 (id (body h)) f.3);
        idle = λ m o d. (status_idle h (id (body h)) vs f.3 m o d, second_idle h (id (body h)) vs f.3 m o);
        others = λ m e o. reset_kept h (id (body h)) vs f.3 m o;
        registers = filled h (id (body h)) vs f.3 f.0 f.1 f.2;
        functions = λ k e. (refl, kept h (id (body h)) vs f.3 k e);
      },
      λ k. refl,
    )

-- the lists keep their lengths
module _ (N : ℕ) (home : ℕ → ℕ) (s : State512) (z : Sized s) where
  reset_sized : (g r : ℕ) (vs : List ℕ) → Sized (reset N home s g r vs)
  reset_sized g r vs = record {
    statuses = length_write (clear (mine N home g) 0 s.status) r 1 ∙ length_clear (mine N home g) 0 s.status ∙ z.statuses;
    seconds = length_clear (mine N home g) false s.second ∙ z.seconds;
    valued = length_clear (mine N home g) 0 s.value ∙ z.valued;
    registered = length_fill g vs s.registers ∙ z.registered;
    occupied = z.occupied;
  }

  finish_sized : (n v : ℕ) → Sized (finish s n v)
  finish_sized n v = record {
    statuses = length_write s.status n 3 ∙ z.statuses;
    seconds = length_write s.second n false ∙ z.seconds;
    valued = length_write s.value n v ∙ z.valued;
    registered = z.registered;
    occupied = z.occupied;
  }

  pub perform_sized : (body : ℕ → Expr) (n : ℕ) (a : Move) → Sized (perform N home body s n a)
  perform_sized body n (begins ns) = record {
    statuses = length_opened (write s.status n 2) ns ∙ length_write s.status n 2 ∙ z.statuses;
    seconds = z.seconds;
    valued = z.valued;
    registered = z.registered;
    occupied = z.occupied;
  }
  perform_sized body n (turns k) = record {
    statuses = length_write s.status k 1 ∙ z.statuses;
    seconds = length_write s.second n true ∙ z.seconds;
    valued = z.valued;
    registered = z.registered;
    occupied = z.occupied;
  }
  perform_sized body n (finishes v) = finish_sized n v
  perform_sized body n (enters g vs) = let y = reset_sized g (id (body g)) vs in record {
    statuses = y.statuses;
    seconds = length_write (clear (mine N home g) false s.second) n true ∙ y.seconds;
    valued = y.valued;
    registered = y.registered;
    occupied = length_write s.occupant g n ∙ z.occupied;
  }
  perform_sized body n (leaves g v) = let y = finish_sized n v in record {
    statuses = y.statuses;
    seconds = y.seconds;
    valued = y.valued;
    registered = y.registered;
    occupied = length_write s.occupant g 0 ∙ z.occupied;
  }
  perform_sized body n (restarts f vs) = reset_sized f (id (body f)) vs
