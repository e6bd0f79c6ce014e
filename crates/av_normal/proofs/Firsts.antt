-- The first item of a list of which something holds, by cases on the list.
use Rattle.std.proofs.Common.{◌≡◌, ℕ, ◌<◌, ◌-◌, ◌^◌, min, Bool, true, false, IsTrue, ◌⊎◌, ⊎_elim, inl, inr, length, List, [], ◌∷◌, ◌++◌, refl, sym, ap, subst, arith, cond}
use Rattle.std.specs.List.{AllByRecursion, filter}
use Rattle.std.proofs.lemmas.List.{append_assoc, append-nil}
use Rattle.std.proofs.lemmas.List.Elements.{All-nil, All-cons}
use Rattle.av_flat.specs.Trees.{Variable, right_side}
use Rattle.av_flat.specs.Signatures.{is_computed}
use Rattle.av_flat.specs.Quantities.{IsFirst, piece_count}
use Rattle.av_normal.specs.Pairwise.{Pairwise, IsFirstOf}
use Rattle.av_normal.specs.inner.Counted.{IsOfFew, HasFew, IsFirstOfMany}

-- Q holds of the first of which P holds
abbrev pub FirstWith : {X : Type 0} → (X → Type 0) → (X → Type 0) → List X → Type 0
FirstWith {X} P Q xs = (x : X) × IsFirst P xs x × Q x

one_before : {X : Type 0} (P Q : X → Type 0) (x : X) (xs : List X) → (P x → ⊥) → FirstWith P Q xs → FirstWith P Q (x ∷ xs)
one_before P Q x xs n (y, f, q) =
    (y, record { before = x ∷ f.before; after = f.after; is = ap (λ ys. x ∷ ys) f.is; not_before = All-cons (λ z. P z → ⊥) x f.before n f.not_before; here = f.here }, q)

at_once : {X : Type 0} (P Q : X → Type 0) (x : X) (xs : List X) → P x → Q x → FirstWith P Q (x ∷ xs)
at_once P Q x xs p q = (x, record { before = []; after = xs; is = refl; not_before = All-nil (λ z. P z → ⊥); here = p }, q)

pub first_with : {X : Type 0} (G P Q : X → Type 0) → ((x : X) → G x → P x → ⊥) → ((x : X) → Q x → P x) → (xs : List X) → IsFirstOf G Q xs → FirstWith P Q xs
first_with G P Q none some [] h = absurd h
first_with G P Q none some (x ∷ xs) (inl q) = at_once P Q x xs (some x q) q
first_with G P Q none some (x ∷ xs) (inr h) = one_before P Q x xs (none x h.0) (first_with G P Q none some xs h.1)

item_of : {X : Type 0} (N : X → Type 0) (before : List X) (x : X) (after : List X) → AllByRecursion N (before ++ x ∷ after) → N x
item_of N [] x after h = h.0
item_of N (y ∷ before) x after h = item_of N before x after h.1

pub no_first : {X : Type 0} (P : X → Type 0) (xs : List X) → AllByRecursion (λ x. P x → ⊥) xs → (x : X) → IsFirst P xs x → ⊥
no_first P xs h x f = item_of (λ y. P y → ⊥) f.before x f.after (subst (λ ys. AllByRecursion (λ y. P y → ⊥) ys) f.is h) f.here

-- ---- two lists

pub along_first : {X Y : Type 0} (R : X → Y → Type 0) (K H S : X → Type 0) (G Q : Y → Type 0) → ((x : X) (y : Y) → K x → R x y → G y → H x) → ((x : X) (y : Y) → K x → R x y → Q y → S x)
    → (xs : List X) (ys : List Y) → AllByRecursion K xs → Pairwise R xs ys → IsFirstOf G Q ys → IsFirstOf H S xs
along_first R K H S G Q f g [] [] k a h = absurd h
along_first R K H S G Q f g [] (y ∷ ys) k a h = absurd a
along_first R K H S G Q f g (x ∷ xs) [] k a h = absurd a
along_first R K H S G Q f g (x ∷ xs) (y ∷ ys) k a (inl q) = inl (g x y k.0 a.0 q)
along_first R K H S G Q f g (x ∷ xs) (y ∷ ys) k a (inr h) = inr (f x y k.0 a.0 h.0, along_first R K H S G Q f g xs ys k.1 a.1 h.1)

pub along_all : {X Y : Type 0} (R : X → Y → Type 0) (K H : X → Type 0) (G : Y → Type 0) → ((x : X) (y : Y) → K x → R x y → G y → H x)
    → (xs : List X) (ys : List Y) → AllByRecursion K xs → Pairwise R xs ys → AllByRecursion G ys → AllByRecursion H xs
along_all R K H G f [] [] k a h = tt
along_all R K H G f [] (y ∷ ys) k a h = absurd a
along_all R K H G f (x ∷ xs) [] k a h = absurd a
along_all R K H G f (x ∷ xs) (y ∷ ys) k a h = (f x y k.0 a.0 h.0, along_all R K H G f xs ys k.1 a.1 h.1)

-- the second list says nothing more
pub along_each : {X Y : Type 0} (R : X → Y → Type 0) (H : X → Type 0) → ((x : X) (y : Y) → R x y → H x) → (xs : List X) (ys : List Y) → Pairwise R xs ys → AllByRecursion H xs
along_each R H f [] [] a = tt
along_each R H f [] (y ∷ ys) a = absurd a
along_each R H f (x ∷ xs) [] a = absurd a
along_each R H f (x ∷ xs) (y ∷ ys) a = (f x y a.0, along_each R H f xs ys a.1)

pub never_first : {X : Type 0} (G Q : X → Type 0) → ((x : X) → Q x → ⊥) → (xs : List X) → IsFirstOf G Q xs → ⊥
never_first G Q none [] h = h
never_first G Q none (x ∷ xs) (inl q) = none x q
never_first G Q none (x ∷ xs) (inr h) = never_first G Q none xs h.1

-- ---- equations of many pieces

abbrev pub computed : List Variable → List Variable
computed vs = filter (λ v. is_computed v.kind) vs

abbrev pub IsMany : Variable → Type 0
IsMany v = 256 < piece_count (right_side v)

abbrev pub IsNumber : ℕ → Variable → Type 0
IsNumber n v = n ≡ min (piece_count (right_side v)) (2 ^ 128 - 1)

computed_yes : (v : Variable) (vs : List Variable) → is_computed v.kind ≡ true → computed (v ∷ vs) ≡ v ∷ computed vs
computed_yes v vs e = ap (λ b. cond b (v ∷ computed vs) (computed vs)) e

computed_no : (v : Variable) (vs : List Variable) → is_computed v.kind ≡ false → computed (v ∷ vs) ≡ computed vs
computed_no v vs e = ap (λ b. cond b (v ∷ computed vs) (computed vs)) e

not_true : (b : Bool) → b ≡ false → IsTrue b → ⊥
not_true b e h = cc

after_few : (v : Variable) (vs : List Variable) (n : ℕ) (b : Bool) → is_computed v.kind ≡ b → IsOfFew v → FirstWith IsMany (IsNumber n) (computed vs) → FirstWith IsMany (IsNumber n) (computed (v ∷ vs))
after_few v vs n true e few rest =
    let least = few e in
    subst (FirstWith IsMany (IsNumber n)) (sym (computed_yes v vs e)) (one_before IsMany (IsNumber n) v (computed vs) (λ m. omega (arith, least, m)) rest)
after_few v vs n false e few rest = subst (FirstWith IsMany (IsNumber n)) (sym (computed_no v vs e)) rest

pub first_of_many : (vs : List Variable) (n : ℕ) → IsFirstOfMany vs n → FirstWith IsMany (IsNumber n) (computed vs)
first_of_many [] n h = absurd h
first_of_many (v ∷ vs) n (inl h) = subst (FirstWith IsMany (IsNumber n)) (sym (computed_yes v vs h.0)) (at_once IsMany (IsNumber n) v (computed vs) h.1 h.2)
first_of_many (v ∷ vs) n (inr h) = after_few v vs n (is_computed v.kind) refl h.0 (first_of_many vs n h.1)

abbrev Fine : List Variable → Type 0
Fine us = AllByRecursion (λ u. IsMany u → ⊥) us

one_few : (v : Variable) (vs : List Variable) (b : Bool) → is_computed v.kind ≡ b → IsOfFew v → Fine (computed vs) → Fine (computed (v ∷ vs))
one_few v vs true e few rest = let least = few e in subst Fine (sym (computed_yes v vs e)) ((λ m. omega (arith, least, m)), rest)
one_few v vs false e few rest = subst Fine (sym (computed_no v vs e)) rest

pub none_of_many : (vs : List Variable) → HasFew vs → AllByRecursion (λ v. IsMany v → ⊥) (computed vs)
none_of_many [] h = tt
none_of_many (v ∷ vs) h = one_few v vs (is_computed v.kind) refl h.0 (none_of_many vs h.1)

-- ---- one item more

pub one_along : {X Y : Type 0} (R : X → Y → Type 0) (x : X) (xs all : List X) (y : Y) (made : List Y) → ((rest : List Y) → Pairwise R (x ∷ xs) rest → Pairwise R all (made ++ rest)) → R x y
    → (rest : List Y) → Pairwise R xs rest → Pairwise R all ((made ++ y ∷ []) ++ rest)
one_along R x xs all y made f r rest h = subst (λ ys. Pairwise R all ys) (sym (append_assoc made (y ∷ []) rest)) (f (y ∷ rest) (r, h))

pub made_along : {X Y : Type 0} (R : X → Y → Type 0) (all : List X) (made : List Y) → ((rest : List Y) → Pairwise R [] rest → Pairwise R all (made ++ rest)) → Pairwise R all made
made_along R all made f = subst (λ ys. Pairwise R all ys) (append-nil made) (f [] tt)

-- where one of the two has ended, the first has
pub none_left : {X Y : Type 0} (R : X → Y → Type 0) (xs : List X) (ys : List Y) → Pairwise R xs ys → (length xs ≡ 0) ⊎ (length ys ≡ 0) → xs ≡ []
none_left R [] ys a h = refl
none_left R (x ∷ xs) [] a h = absurd a
none_left R (x ∷ xs) (y ∷ ys) a h = ⊎_elim (λ e. absurd (omega (arith, e))) (λ e. absurd (omega (arith, e))) h
