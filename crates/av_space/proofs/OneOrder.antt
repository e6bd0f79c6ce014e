-- Lists in a strict order that have the same elements are the same.
use Rattle.std.proofs.Common.{◌≡◌, List, [], ◌∷◌, ⊎_elim, refl, sym, ap₂, subst, ◌∙◌}
use Rattle.std.specs.Prelude.{Contains, AllPairs}
use Rattle.av_base.proofs.Lists.{pairs_first, pairs_rest}
use Rattle.av_base.proofs.Among.{among_cases, first_among, more_among, none_among}

pub one_order : {X : Type 0} (R : X → X → Type 0) → ((a b : X) → R a b → R b a → ⊥) → (xs ys : List X) → AllPairs R xs → AllPairs R ys
    → ((z : X) → Contains xs z → Contains ys z) → ((z : X) → Contains ys z → Contains xs z) → xs ≡ ys
one_order R strict [] [] p q f g = refl
one_order R strict [] (y ∷ ys) p q f g = absurd (none_among y (g y (first_among y ys)))
one_order R strict (x ∷ xs) [] p q f g = absurd (none_among x (f x (first_among x xs)))
one_order {X} R strict (x ∷ xs) (y ∷ ys) p q f g = ap₂ (λ a b. a ∷ b) same (one_order R strict xs ys (pairs_rest R x xs p) (pairs_rest R y ys q) over back)
  where
    same : x ≡ y
    same = ⊎_elim
        (λ e. sym e)
        (λ h. ⊎_elim
        (λ e. e)
        (λ k. absurd (strict y x (pairs_first R y x ys q h) (pairs_first R x y xs p k)))
        (among_cases x y xs (g y (first_among y ys))))
        (among_cases y x ys (f x (first_among x xs)))

    over : (z : X) → Contains xs z → Contains ys z
    over z c = ⊎_elim
        (λ e. absurd (let a = subst (R x) (sym (same ∙ e)) (pairs_first R x z xs p c) in strict x x a a))
        (λ k. k)
        (among_cases y z ys (f z (more_among x z xs c)))

    back : (z : X) → Contains ys z → Contains xs z
    back z c = ⊎_elim
        (λ e. absurd (let a = subst (R y) (sym (sym same ∙ e)) (pairs_first R y z ys q c) in strict y y a a))
        (λ k. k)
        (among_cases x z xs (g z (more_among y z ys c)))
