-- A relation between the elements of two lists, place by place, as the second list grows.
use Rattle.std.proofs.Common.{◌≡◌, ℕ, zero, suc, ◌+◌, ◌<◌, ◌≤◌, List, [], ◌∷◌, ◌++◌, length, length-append, get_or, inl, inr, sym, ap, subst, ◌∙◌, arith, Some}
use Rattle.std.specs.Prelude.{slice_get}
use Rattle.std.proofs.lemmas.Option.{slice_get-get_or}
use Rattle.av_base.proofs.Lists.{get_cases, some_is}

abbrev pub ArePairs : {X Y : Type 0} → (X → Y → Type 0) → List X → List Y → Type 0
ArePairs {X} {Y} R xs ys = (k : ℕ) (x : X) (y : Y) → slice_get xs k ≡ Some x → slice_get ys k ≡ Some y → R x y

last_pair : {X Y : Type 0} (R : X → Y → Type 0) (xs : List X) (n k j m : ℕ) (x a : X) (y b : Y) → m ≡ n → k ≡ m + j → slice_get xs n ≡ Some x → slice_get xs k ≡ Some a → R x y → slice_get (y ∷ []) j ≡ Some b → R a b
last_pair {X} {Y} R xs n k zero m x a y b size e is is_a here f =
    let at : n ≡ k = omega (arith, e, size) in
    let same : x ≡ a = some_is x a (sym is ∙ ap (λ (i : ℕ). slice_get xs i) at ∙ is_a) in
    subst (λ (c : X). R c b) same (subst (λ (d : Y). R x d) (some_is y b f) here)
last_pair R xs n k (suc j) m x a y b size e is is_a here f = absurd cc

pub one_pair : {X Y : Type 0} (R : X → Y → Type 0) (xs : List X) (ys : List Y) (n : ℕ) → length ys ≡ n → ArePairs R xs ys → (x : X) (y : Y) → slice_get xs n ≡ Some x → R x y → ArePairs R xs (ys ++ y ∷ [])
one_pair R xs ys n size each x y is here = λ k a b is_a is_b. (elim (get_cases ys (y ∷ []) k b is_b) [
  | inl l ↦ each k a b is_a l
  | inr r ↦ last_pair R xs n k r.0 (length ys) x a y b size r.1 is is_a here r.2
])

pub one_longer : {Y : Type 0} (ys : List Y) (n : ℕ) (y : Y) → length ys ≡ n → length (ys ++ y ∷ []) ≡ n + 1
one_longer ys n y size = let e = length-append ys (y ∷ []) in omega (arith, e, size)

-- ---- as loops over slices tell it

pub element : {X : Type 0} (xs : List X) (n : ℕ) (d x : X) → n < length xs → x ≡ get_or xs n d → slice_get xs n ≡ Some x
element xs n d x low is = slice_get-get_or xs n d low ∙ ap Some (sym is)

pub element_of : {X : Type 0} (xs items : List X) (n : ℕ) (d x : X) → items ≡ xs → n < length xs → x ≡ get_or items n d → slice_get xs n ≡ Some x
element_of {X} xs items n d x same low is =
    let size = ap (λ (l : List X). length l) same in
    subst (λ (l : List X). slice_get l n ≡ Some x) same (element items n d x (omega (arith, size, low)) is)

pub next_pair : {X Y : Type 0} (R : X → Y → Type 0) (xs : List X) (ys all : List Y) (n : ℕ) (d x : X) (y : Y) → n < length xs → x ≡ get_or xs n d → length ys ≡ n → ArePairs R xs ys → R x y → all ≡ ys ++ y ∷ [] → (length all ≡ n + 1) × ArePairs R xs all
next_pair {X} {Y} R xs ys all n d x y low is size each here e =
    (ap (λ (l : List Y). length l) e ∙ one_longer ys n y size, subst (λ (l : List Y). ArePairs R xs l) (sym e) (one_pair R xs ys n size each x y (element xs n d x low is) here))

pub all_pairs : {X Y : Type 0} (R : X → Y → Type 0) (xs items : List X) (ys : List Y) (n : ℕ) → items ≡ xs → length ys ≡ n → n ≤ length items → length items ≤ n → ArePairs R items ys → (length ys ≡ length xs) × ArePairs R xs ys
all_pairs {X} R xs items ys n same size low high each =
    let e = ap (λ (l : List X). length l) same in
    (omega (arith, size, low, high, e), subst (λ (l : List X). ArePairs R l ys) same each)
