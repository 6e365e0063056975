-- an array's `map`, of a closure whose result is a function of the element alone
use Rattle.std.proofs.Common.{◌≡◌, ℕ, List, map, length, sym, ◌∙◌, arith, ext_get_or}
use Rattle.std.specs.Array.{IsMapOf}
use lib.ListN.{length-map, get_or-map}
use denote.Param.Members.{Mut, Called}

pub mapped : {A B F : Type 0} (g : Mut F (A × Unit {0}) B) (f : A → B) (s : F) (xs : List A) (ys : List B) (n : ℕ) (d : A)
    → ((p q : F) (x : A) (y : B) → Called g p (x, tt) y q → y ≡ f x) → length xs ≡ n → IsMapOf g s xs ys n → ys ≡ map f xs
mapped g f s xs ys n d h e m = ext_get_or (f d) ys (map f xs) (m.long ∙ sym e ∙ sym (length-map xs f))
    (λ i q. let k = m.at i d (f d) (omega (arith, m.long)) in h k.0 k.1 _ _ k.2 ∙ sym (get_or-map f xs i d))
