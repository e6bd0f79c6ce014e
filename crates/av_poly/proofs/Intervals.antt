-- What a row says of one entry, where those before it are known and those after it lie between bounds.
use Rattle.std.proofs.Common.{◌≡◌, ℕ, zero, suc, ◌<◌, ◌≤◌, ◌+◌, ◌-◌, arith, ℤ, pos, neg_ℤ, ◌+ℤ◌, ◌-ℤ◌, ◌*ℤ◌, ◌≤ℤ◌, ◌<ℤ◌, List, [], ◌∷◌, ◌++◌, length, get_or, take, drop, refl, sym, ◌∙◌, ap, subst, add-one, true}
use Rattle.std.proofs.Math.Seq.{drop-cons}
use Rattle.std.proofs.Math.IntN.{negsuc}
use Rattle.std.specs.Int.{int_max, int_div_euclid}
use Rattle.std.specs.Int.Signed.{lt_z}
use Rattle.std.specs.Int.RustNames.{unsigned_abs}
use Rattle.std.proofs.lemmas.Int.{ints, clamps, by_lt_z}
use Rattle.av_affine.specs.declared.form.Form.{Form}
use Rattle.av_affine.specs.Numbers.{dot}
use Rattle.av_affine.specs.Forms.{value_at}
use Rattle.av_affine.proofs.Ring.{ring}
use Rattle.av_affine.proofs.Order.{product_nonneg, positive_by}
use Rattle.av_affine.proofs.Dots.{dot_more}
use Rattle.av_affine.proofs.Exact.{div_bounds}
use Rattle.std.proofs.lemmas.List.{take_rest, take_more, length-drop}
use Rattle.av_poly.specs.Points.{Holds, HoldsAt}
use Rattle.av_poly.proofs.Dividing.{constant_most}
use Rattle.av_poly.proofs.Membership.{holds_first, holds_last}
use Rattle.av_poly.specs.Search.{IsBetween}

-- ---- the most that a sum of products can be

-- a product with a number between two others is at most one of theirs
pub most_between : (c l h x a b m : ℤ) → a ≡ c *ℤ l → b ≡ c *ℤ h → m ≡ int_max a b → l ≤ℤ x → x ≤ℤ h → (c *ℤ x) ≤ℤ m
most_between c l h x a b m e f g p q =
    by_lt_z c (pos 0)
    (λ n. let k = product_nonneg (neg_ℤ c) (x -ℤ l) (omega (arith, ints, n)) (omega (arith, ints, p)) in let r = simp ring at k in omega (arith, ints, clamps, r, e, f, g))
    (λ n. let k = product_nonneg c (h -ℤ x) n (omega (arith, ints, q)) in let r = simp ring at k in omega (arith, ints, clamps, r, e, f, g))

pub between_at : (low high z : List ℤ) (k : ℕ) → IsBetween low high z → k < length z → (get_or low k (pos 0) ≤ℤ get_or z k (pos 0)) × (get_or z k (pos 0) ≤ℤ get_or high k (pos 0))
between_at low high [] k h l = absurd (omega arith)
between_at [] high (x ∷ z) k h l = absurd h
between_at (a ∷ low) [] (x ∷ z) k h l = absurd h
between_at (a ∷ low) (b ∷ high) (x ∷ z) zero h l = (h.0, h.1)
between_at (a ∷ low) (b ∷ high) (x ∷ z) (suc k) h l = between_at low high z k h.2 (omega arith)

pub most_more : (coef low high z : List ℤ) (k : ℕ) (sum term : ℤ) → k < length z → k < length coef → IsBetween low high z → dot (take k coef) (take k z) ≤ℤ sum
    → ((x : ℤ) → get_or low k (pos 0) ≤ℤ x → x ≤ℤ get_or high k (pos 0) → (get_or coef k (pos 0) *ℤ x) ≤ℤ term) → dot (take (k + 1) coef) (take (k + 1) z) ≤ℤ (sum +ℤ term)
most_more coef low high z k sum term l m h s t =
    let b = between_at low high z k h l in
    let u = t (get_or z k (pos 0)) b.0 b.1 in
    let e = dot_more coef z k (pos 0) (pos 0) m l in
    rw add-one (omega (arith, ints, s, u, e))

-- ---- the entries before and after

pub dot_apart : (coef xs ys : List ℤ) → length xs ≤ length coef → dot coef (xs ++ ys) ≡ dot coef xs +ℤ dot (drop (length xs) coef) ys
dot_apart [] [] ys h = omega (arith, ints)
dot_apart [] (x ∷ xs) ys h = absurd (omega arith)
dot_apart (c ∷ coef) [] ys h = omega (arith, ints)
dot_apart (c ∷ coef) (x ∷ xs) ys h = let e = dot_apart coef xs ys (omega arith) in omega (arith, ints, e)

pub value_apart : (row : Form) (fixed z : List ℤ) (x d : ℤ) → length fixed < length row.coef
    → value_at row (fixed ++ x ∷ z) ≡ dot row.coef fixed +ℤ (get_or row.coef (length fixed) d *ℤ x +ℤ dot (drop (length fixed + 1) row.coef) z) +ℤ row.constant
value_apart row fixed z x d h =
    let e = dot_apart row.coef fixed (x ∷ z) (omega arith) in
    let f = drop-cons row.coef (length fixed) d h in
    let g : dot (drop (length fixed) row.coef) (x ∷ z) ≡ get_or row.coef (length fixed) d *ℤ x +ℤ dot (drop (length fixed + 1) row.coef) z = rw (f, add-one) refl in
    omega (arith, ints, e, g)

-- ---- the bound of one entry

pub above_floor : (a x rest q : ℤ) → pos 0 <ℤ a → q ≡ int_div_euclid rest a → pos 0 ≤ℤ (a *ℤ x +ℤ rest) → (pos 0 -ℤ q) ≤ℤ x
above_floor a x rest q h e k =
    let b = div_bounds rest a h in
    let c = b.1 in
    let d : rest <ℤ (q *ℤ a +ℤ a) = subst (λ (p : ℤ). rest <ℤ (p *ℤ a +ℤ a)) (sym e) c in
    let p = positive_by a (x +ℤ q +ℤ pos 1) h (simp ring (omega (arith, ints, d, k))) in
    omega (arith, ints, p)

pub below_floor : (a x rest q : ℤ) → a <ℤ pos 0 → q ≡ int_div_euclid rest (pos 0 -ℤ a) → pos 0 ≤ℤ (a *ℤ x +ℤ rest) → x ≤ℤ q
below_floor a x rest q h e k =
    let n : pos 0 -ℤ a ≡ neg_ℤ a = omega (arith, ints) in
    let b = div_bounds rest (neg_ℤ a) (omega (arith, ints, h)) in
    let c = b.1 in
    let s = e ∙ ap (λ (p : ℤ). int_div_euclid rest p) n in
    let d : rest <ℤ (q *ℤ neg_ℤ a +ℤ neg_ℤ a) = subst (λ (p : ℤ). rest <ℤ (p *ℤ neg_ℤ a +ℤ neg_ℤ a)) (sym s) c in
    let r = simp ring at d in
    let p = positive_by (neg_ℤ a) (q +ℤ pos 1 -ℤ x) (omega (arith, ints, h)) (simp ring (omega (arith, ints, r, k))) in
    omega (arith, ints, p)

pub floor_most : (c a : ℤ) (limit : ℕ) → pos 0 <ℤ a → unsigned_abs c ≤ limit → unsigned_abs (int_div_euclid c a) ≤ limit
floor_most c (pos zero) limit h k = absurd (omega (arith, ints))
floor_most c (pos (suc a)) limit h k = constant_most c (suc a) limit (omega arith) k
floor_most c (negsuc a) limit h k = absurd h.lt

pub is_positive : (x : ℤ) → lt_z (pos 0) x ≡ true → pos 0 <ℤ x
is_positive x h = grind (arith, ints)

pub is_negative : (x : ℤ) → lt_z x (pos 0) ≡ true → x <ℤ pos 0
is_negative x h = grind (arith, ints)

-- ---- the rows one by one

pub rest_of : (n : ℕ) (xs : List ℤ) (i : ℕ) → length xs ≡ n → take (n - i) (drop i xs) ≡ drop i xs
rest_of n xs i h = subst (λ (m : ℕ). take (m - i) (drop i xs) ≡ drop i xs) h (take_rest xs i)

pub between_rest : (low high z : List ℤ) (x : ℤ) → IsBetween low high (x ∷ z) → IsBetween (drop 1 low) (drop 1 high) z
between_rest [] high z x h = absurd h
between_rest (l ∷ low) [] z x h = absurd h
between_rest (l ∷ low) (k ∷ high) z x h = h.2

-- what the first i rows leave of an interval, and what the next one leaves of that
pub interval_more : (rows : List Form) (i : ℕ) (d : Form) (low high fixed : List ℤ) (a b p q : ℤ) → i < length rows
    → ((x : ℤ) (z : List ℤ) → length (x ∷ z) ≡ length low → IsBetween low high (x ∷ z) → Holds (take i rows) (fixed ++ x ∷ z) → (a ≤ℤ x) × (x ≤ℤ b))
    → ((x : ℤ) (z : List ℤ) → length z ≡ length (take (length low - 1) (drop 1 low)) → IsBetween (take (length low - 1) (drop 1 low)) (take (length high - 1) (drop 1 high)) z
    → HoldsAt (get_or rows i d) (fixed ++ x ∷ z) → a ≤ℤ x → x ≤ℤ b → (p ≤ℤ x) × (x ≤ℤ q))
    → (x : ℤ) (z : List ℤ) → length (x ∷ z) ≡ length low → IsBetween low high (x ∷ z) → Holds (take (i + 1) rows) (fixed ++ x ∷ z) → (p ≤ℤ x) × (x ≤ℤ q)
interval_more rows i d low high fixed a b p q l before next x z n h k =
    let t = subst (λ (rs : List Form). Holds rs (fixed ++ x ∷ z)) (take_more rows i d l) k in
    let s = before x z n h (holds_first (take i rows) (get_or rows i d ∷ []) (fixed ++ x ∷ z) t) in
    let e = rest_of (length low) low 1 refl in
    let f = rest_of (length high) high 1 refl in
    let size : length z ≡ length (drop 1 low) = omega (arith, n, length-drop 1 low) in
    let r : IsBetween (take (length low - 1) (drop 1 low)) (take (length high - 1) (drop 1 high)) z = rw (e, f) (between_rest low high z x h) in
    next x z (size ∙ ap length (sym e)) r (holds_last (take i rows) (get_or rows i d ∷ []) (fixed ++ x ∷ z) t).0 s.0 s.1
