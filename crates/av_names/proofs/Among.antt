-- Elements of lists, by recursion.
use Rattle.std.proofs.Common.{◌≡◌, zero, suc, ◌⊎◌, inl, inr, List, [], ◌∷◌, ◌++◌, map, refl, ap, subst, arith, All, Any}
use Rattle.std.proofs.lemmas.List.Elements.{All-nil, All-cons, All-head, All-tail}

abbrev pub Among : {X : Type 0} → X → List X → Type 0
Among x [] = ⊥
Among x (y ∷ ys) = (y ≡ x) ⊎ Among x ys

pub all_at : {X : Type 0} (P : X → Type 0) (xs : List X) (x : X) → All P xs → Among x xs → P x
all_at P [] x h m = absurd m
all_at P (y ∷ ys) x h (inl e) = subst P e (All-head P y ys h)
all_at P (y ∷ ys) x h (inr m) = all_at P ys x (All-tail P y ys h) m

pub all_from : {X : Type 0} (P : X → Type 0) (xs : List X) → ((x : X) → Among x xs → P x) → All P xs
all_from P [] h = All-nil P
all_from P (y ∷ ys) h = All-cons P y ys (h y (inl refl)) (all_from P ys (λ x m. h x (inr m)))

pub any_at : {X : Type 0} (P : X → Type 0) (xs : List X) → Any P xs → (x : X) × Among x xs × P x
any_at P [] (k, x, l, e, p) = absurd (omega (arith, l))
any_at P (y ∷ ys) (zero, x, l, e, p) = (x, inl e, p)
any_at P (y ∷ ys) (suc k, x, l, e, p) = let r = any_at P ys (k, x, (omega (arith, l)), e, p) in (r.0, inr r.1, r.2)

pub any_from : {X : Type 0} (P : X → Type 0) (xs : List X) (x : X) → Among x xs → P x → Any P xs
any_from P [] x m p = absurd m
any_from P (y ∷ ys) x (inl e) p = (0, x, omega arith, e, p)
any_from P (y ∷ ys) x (inr m) p = let r = any_from P ys x m p in (suc r.0, r.1, (let l = r.2 in omega (arith, l)), r.3, r.4)

-- ---- lists put together

pub among_parts : {X : Type 0} (xs ys : List X) (x : X) → Among x (xs ++ ys) → Among x xs ⊎ Among x ys
among_parts [] ys x m = inr m
among_parts (z ∷ xs) ys x (inl e) = inl (inl e)
among_parts (z ∷ xs) ys x (inr m) = elim (among_parts xs ys x m) [ inl a ↦ inl (inr a) | inr b ↦ inr b ]

pub among_first : {X : Type 0} (xs ys : List X) (x : X) → Among x xs → Among x (xs ++ ys)
among_first [] ys x m = absurd m
among_first (z ∷ xs) ys x (inl e) = inl e
among_first (z ∷ xs) ys x (inr m) = inr (among_first xs ys x m)

pub among_second : {X : Type 0} (xs ys : List X) (x : X) → Among x ys → Among x (xs ++ ys)
among_second [] ys x m = m
among_second (z ∷ xs) ys x m = inr (among_second xs ys x m)

pub among_image : {X Y : Type 0} (f : X → Y) (xs : List X) (x : X) → Among x xs → Among (f x) (map f xs)
among_image f [] x m = absurd m
among_image f (z ∷ xs) x (inl e) = inl (ap f e)
among_image f (z ∷ xs) x (inr m) = inr (among_image f xs x m)

pub among_source : {X Y : Type 0} (f : X → Y) (xs : List X) (y : Y) → Among y (map f xs) → (x : X) × Among x xs × (f x ≡ y)
among_source f [] y m = absurd m
among_source f (z ∷ xs) y (inl e) = (z, inl refl, e)
among_source f (z ∷ xs) y (inr m) = let r = among_source f xs y m in (r.0, inr r.1, r.2)

-- what holds of all of a list holds of all of its part
pub all_within : {X : Type 0} (P : X → Type 0) (xs ys : List X) → All P ys → ((x : X) → Among x xs → Among x ys) → All P xs
all_within P xs ys h within = all_from P xs (λ x m. all_at P ys x h (within x m))
