-- Lists by place.
use Rattle.std.proofs.Common.{◌≡◌, ℕ, zero, suc, ◌<◌, Bool, true, false, if◌then◌else◌, Some, List, [], ◌∷◌, length, map, take, get_or, refl, sym, ap, subst, ◌∙◌, arith}
use Rattle.std.specs.Prelude.{slice_get, filter, All, AllPairs}
use Rattle.std.proofs.lemmas.Option.{slice_get_within, slice_get_read, get_or_from_slice_get}
use Rattle.av_base.proofs.Lists.{some_is, there_is}

pub from_map : {X Y : Type 0} (f : X → Y) (xs : List X) (i : ℕ) (y : Y) → slice_get (map f xs) i ≡ Some y → (x : X) × (slice_get xs i ≡ Some x) × (f x ≡ y)
from_map f [] i y e = absurd cc
from_map f (x ∷ xs) zero y e = (x, refl, some_is (f x) y e)
from_map f (x ∷ xs) (suc i) y e = from_map f xs i y e

pub pair_at : {X : Type 0} (R : X → X → Type 0) (xs : List X) → AllPairs R xs → (i j : ℕ) (x y : X) → slice_get xs i ≡ Some x → slice_get xs j ≡ Some y → i < j → R x y
pair_at R xs h i j x y ix jy lt =
    let r = h i j x lt (slice_get_within xs j y jy) in
    subst (λ (a : _). R a y) (get_or_from_slice_get xs i x x ix) (subst (λ (b : _). R (get_or xs i x) b) (get_or_from_slice_get xs j y x jy) r)

pub pairs_by_place : {X : Type 0} (R : X → X → Type 0) (xs : List X) → ((i j : ℕ) (x y : X) → slice_get xs i ≡ Some x → slice_get xs j ≡ Some y → i < j → R x y) → AllPairs R xs
pairs_by_place R xs h i j d lt within =
    let x = there_is xs i (omega (arith, lt, within)) in
    let y = there_is xs j within in
    subst (λ (a : _). R a (get_or xs j d)) (sym (get_or_from_slice_get xs i x.0 d x.1)) (subst (λ (b : _). R x.0 b) (sym (get_or_from_slice_get xs j y.0 d y.1)) (h i j x.0 y.0 x.1 y.1 lt))

pub all_by_place : {X : Type 0} (P : X → Type 0) (xs : List X) → ((i : ℕ) (x : X) → slice_get xs i ≡ Some x → P x) → All P xs
all_by_place P xs h i d within = let x = there_is xs i within in subst P (sym (get_or_from_slice_get xs i x.0 d x.1)) (h i x.0 x.1)

-- the place of an element of a filtered list in the whole
pub place_of : {X : Type 0} (p : X → Bool) (xs : List X) (n : ℕ) (x : X) → slice_get (filter p xs) n ≡ Some x → (i : ℕ) × (slice_get xs i ≡ Some x) × (length (filter p (take i xs)) ≡ n)
place_of p [] n x e = absurd cc
place_of p (y ∷ xs) n x e = go (p y) refl n e (λ m. place_of p xs m x)
  where
    go : (b : Bool) → p y ≡ b → (n : ℕ) → slice_get (if b then y ∷ filter p xs else filter p xs) n ≡ Some x → ((m : ℕ) → slice_get (filter p xs) m ≡ Some x → (i : ℕ) × (slice_get xs i ≡ Some x) × (length (filter p (take i xs)) ≡ m))
        → (i : ℕ) × (slice_get (y ∷ xs) i ≡ Some x) × (length (filter p (take i (y ∷ xs))) ≡ n)
    go true b zero e more = (0, e, refl)
    go true b (suc n) e more = let r = more n e in (suc r.0, r.1, rw b (ap suc r.2))
    go false b n e more = let r = more n e in (suc r.0, r.1, rw b r.2)

-- the element that a loop or an index reads
pub read_at : {X : Type 0} (xs ys : List X) (k : ℕ) (x : X) → ys ≡ xs → k < length ys → x ≡ get_or ys k x → slice_get xs k ≡ Some x
read_at {X} xs ys k x e l is = ap (λ (zs : List X). slice_get zs k) (sym e) ∙ slice_get_read ys (length ys) k x refl l is
