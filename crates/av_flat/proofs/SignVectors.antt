-- Vectors of entries 0, 1 and -1: their sizes and entries, and the first of some that moves a reference.
use Rattle.std.proofs.Common.{◌≡◌, ℕ, zero, suc, ◌<◌, ◌≤◌, ℤ, pos, negsuc, unsigned_abs, not, Option, Some, List, [], ◌∷◌, ◌++◌, map, length, filter, slice_get, refl, sym, ap, subst, arith, All}
use Rattle.std.proofs.lemmas.Int.{ints}
use Rattle.std.proofs.lemmas.List.Elements.{All-nil, All-cons, All-append, All-map, All-weaker, All-filter}
use Rattle.av_base.proofs.Lists.{all_at}
use Rattle.av_affine.specs.declared.map.Map.{Map}
use Rattle.av_affine.specs.Numbers.{AtMost}
use Rattle.av_tree.specs.Points.{Point}
use Rattle.av_flat.specs.Broadcasts.{lists_of, directions, along, is_zero, stays, moves, first_moving}

abbrev pub signs : List ℤ
signs = pos 0 ∷ pos 1 ∷ negsuc 0 ∷ []

-- one of n entries
pub record IsSignVector (n : ℕ) (w : Point) : Type 0 where
  pub size : length w ≡ n
  pub entries : AtMost 1 w

one_longer : (n : ℕ) (x : ℤ) → unsigned_abs x ≤ 1 → (w : Point) → IsSignVector n w → IsSignVector (suc n) (x ∷ w)
one_longer n x l w h = record { size = ap suc h.size; entries = All-cons (λ x. unsigned_abs x ≤ 1) x w l h.entries }

pub all_vectors : (n : ℕ) → All (IsSignVector n) (lists_of signs n)
all_vectors zero = All-cons (IsSignVector 0) [] [] (record { size = refl; entries = All-nil (λ x. unsigned_abs x ≤ 1) }) (All-nil (IsSignVector 0))
all_vectors (suc n) =
    let P = IsSignVector (suc n) in
    let L = lists_of signs n in
    let one = λ (x : ℤ) (l : unsigned_abs x ≤ 1). All-map P (λ w. x ∷ w) L (All-weaker (IsSignVector n) (λ w. P (x ∷ w)) (one_longer n x l) L (all_vectors n)) in
    All-append P (map (λ w. pos 0 ∷ w) L) (map (λ w. pos 1 ∷ w) L ++ (map (λ w. negsuc 0 ∷ w) L ++ [])) (one (pos 0) (omega (arith, ints)))
    (All-append P (map (λ w. pos 1 ∷ w) L) (map (λ w. negsuc 0 ∷ w) L ++ []) (one (pos 1) (omega (arith, ints)))
    (All-append P (map (λ w. negsuc 0 ∷ w) L) [] (one (negsuc 0) (omega (arith, ints))) (All-nil P)))

all_directions : (n : ℕ) → All (IsSignVector n) (directions n)
all_directions n = All-filter (λ w. not (is_zero w)) (IsSignVector n) (lists_of signs n) (all_vectors n)

all_along : (m : Map) → All (IsSignVector m.from) (along m)
all_along m = All-filter (stays m) (IsSignVector m.from) (directions m.from) (all_directions m.from)

small : (n : ℕ) (ws : List Point) → All (IsSignVector n) ws → All (AtMost 1) ws
small n ws h = All-weaker (IsSignVector n) (AtMost 1) (λ w v. v.entries) ws h

pub small_vectors : (n : ℕ) → All (AtMost 1) (lists_of signs n)
small_vectors n = small n (lists_of signs n) (all_vectors n)

pub small_directions : (n : ℕ) → All (AtMost 1) (directions n)
small_directions n = small n (directions n) (all_directions n)

pub small_along : (m : Map) → All (AtMost 1) (along m)
small_along m = small m.from (along m) (all_along m)

pub shorter_vectors : (n : ℕ) (xs : List Point) → n < 4 → xs ≡ lists_of signs n → All (λ y. length y < 4) xs
shorter_vectors n xs l e = subst (All (λ y. length y < 4)) (sym e) (All-weaker (IsSignVector n) (λ y. length y < 4) (λ y h. let q = h.size in omega (arith, q, l)) (lists_of signs n) (all_vectors n))

-- ---- the first that moves a reference

abbrev pub first_in : Point → Map → List Point → Option Point
first_in linear m ws = slice_get (filter (moves linear) (filter (stays m) (filter (λ w. not (is_zero w)) ws))) 0

-- it has an entry for each index of the map
pub moving_vector : (linear w : Point) (m : Map) → first_moving linear m ≡ Some w → IsSignVector m.from w
moving_vector linear w m e =
    all_at (IsSignVector m.from) (filter (moves linear) (along m)) 0 w (All-filter (moves linear) (IsSignVector m.from) (along m) (all_along m)) e
