-- What rows with one place left say of it.
use Rattle.std.proofs.Common.{◌≡◌, ℕ, arith, ℤ, pos, ◌+ℤ◌, ◌-ℤ◌, ◌*ℤ◌, ◌≤ℤ◌, ◌<ℤ◌, neg_ℤ, List, [], ◌∷◌, refl, ap, sym, ◌∙◌, Bool, true, false, not, ◌&&◌, int_lt, Option, Some, None, true≢false, IfSome}
use Rattle.std.specs.Ordering.{int_eq}
use Rattle.std.specs.Int.{int_div_euclid, int_max, int_min}
use Rattle.std.proofs.lemmas.Int.{ints, clamps, by_lt_z}
use Rattle.std.specs.List.{AllByRecursion}
use Rattle.av_affine.proofs.Ring.{ring, times_sum, cube}
use Rattle.av_affine.proofs.Order.{product_nonneg, nonneg_by, positive_by}
use Rattle.av_affine.proofs.Exact.{div_bounds}
use Rattle.av_elim.specs.declared.span.Span.{Span}
use Rattle.av_elim.specs.inner.Rows.{factor}
use Rattle.av_elim.specs.inner.Span.{InSpan, Near, Ways, higher, lower, stepped, scanned}

-- a row holds at x from its quotient on
pub fits_from : (c a x : ℤ) → pos 0 <ℤ a → neg_ℤ (int_div_euclid c a) ≤ℤ x → pos 0 ≤ℤ (c *ℤ pos 1 +ℤ a *ℤ x)
fits_from c a x h l =
    let q = int_div_euclid c a in
    let d = div_bounds c a h in
    let p = product_nonneg a (x +ℤ q) (omega (arith, ints)) (omega (arith, ints)) in
    omega (arith, ints, d.0, rw times_sum at p)

pub fits_only : (c a m x : ℤ) → pos 0 <ℤ a → pos 0 <ℤ m → pos 0 ≤ℤ (c *ℤ m +ℤ a *ℤ x) → pos 0 <ℤ (x +ℤ (int_div_euclid c a +ℤ pos 1) *ℤ m)
fits_only c a m x h k l =
    let q = int_div_euclid c a in
    let d = div_bounds c a h in
    let p = product_nonneg (q *ℤ a +ℤ a -ℤ c -ℤ pos 1) m (omega (arith, ints, d.1)) (omega (arith, ints)) in
    let r = simp ring at p in
    positive_by a (x +ℤ (q +ℤ pos 1) *ℤ m) h (simp ring (omega (arith, ints, cube, r, l, k)))

-- the same for a row that bounds from above
pub fits_upto : (c a x : ℤ) → a <ℤ pos 0 → x ≤ℤ int_div_euclid c (neg_ℤ a) → pos 0 ≤ℤ (c *ℤ pos 1 +ℤ a *ℤ x)
fits_upto c a x h l =
    let f = fits_from c (neg_ℤ a) (neg_ℤ x) (omega (arith, ints)) (omega (arith, ints)) in
    let g = simp ring at f in
    omega (arith, ints, g)

pub fits_below : (c a m x : ℤ) → a <ℤ pos 0 → pos 0 <ℤ m → pos 0 ≤ℤ (c *ℤ m +ℤ a *ℤ x) → x <ℤ ((int_div_euclid c (neg_ℤ a) +ℤ pos 1) *ℤ m)
fits_below c a m x h k l =
    let f = fits_only c (neg_ℤ a) m (neg_ℤ x) (omega (arith, ints)) k (simp ring (omega (arith, ints, l))) in
    omega (arith, ints, f)

-- ---- one row more
by_sign : {P : Type 0} (x : ℤ) → (x ≡ pos 0 → P) → (pos 0 <ℤ x → P) → (x <ℤ pos 0 → P) → P
by_sign x g f h = by_lt_z (pos 0) x f (λ k. by_lt_z x (pos 0) h (λ l. g (omega (arith, ints))))

step_flat : (a c : ℤ) (g : Span) → a ≡ pos 0 → stepped a c g ≡ record { flat = g.flat && not (int_lt c (pos 0)); low = g.low; high = g.high }
step_flat a c g e = let t : int_eq a (pos 0) ≡ true = grind (arith, ints) in rw t refl

step_low : (a c : ℤ) (g : Span) → pos 0 <ℤ a → stepped a c g ≡ record { flat = g.flat; low = Some (higher g.low (neg_ℤ (int_div_euclid c a))); high = g.high }
step_low a c g h = let t : int_eq a (pos 0) ≡ false = grind (arith, ints) in let u : int_lt (pos 0) a ≡ true = grind (arith, ints) in rw (t, u) refl

step_high : (a c : ℤ) (g : Span) → a <ℤ pos 0 → stepped a c g ≡ record { flat = g.flat; low = g.low; high = Some (lower g.high (int_div_euclid c (neg_ℤ a))) }
step_high a c g h = let t : int_eq a (pos 0) ≡ false = grind (arith, ints) in let u : int_lt (pos 0) a ≡ false = grind (arith, ints) in rw (t, u) refl

and_both : (p q : Bool) → p && q ≡ true → (p ≡ true) × (q ≡ true)
and_both true q e = (refl, e)
and_both false q e = absurd (true≢false (sym e))

higher_in : (o : Option ℤ) (l x : ℤ) → IfSome o (λ l. l ≤ℤ x) → l ≤ℤ x → higher o l ≤ℤ x
higher_in None l x h k = k
higher_in (Some y) l x h k = omega (arith, ints, clamps, h)

higher_out : (o : Option ℤ) (l x : ℤ) → higher o l ≤ℤ x → IfSome o (λ l. l ≤ℤ x) × (l ≤ℤ x)
higher_out None l x h = (tt, h)
higher_out (Some y) l x h = (omega (arith, ints, clamps, h), omega (arith, ints, clamps, h))

lower_in : (o : Option ℤ) (l x : ℤ) → IfSome o (λ l. x ≤ℤ l) → x ≤ℤ l → x ≤ℤ lower o l
lower_in None l x h k = k
lower_in (Some y) l x h k = omega (arith, ints, clamps, h)

lower_out : (o : Option ℤ) (l x : ℤ) → x ≤ℤ lower o l → IfSome o (λ l. x ≤ℤ l) × (x ≤ℤ l)
lower_out None l x h = (tt, h)
lower_out (Some y) l x h = (omega (arith, ints, clamps, h), omega (arith, ints, clamps, h))

abbrev pub Fits : ℤ → ℤ → ℤ → ℤ → Type 0
Fits a c m x = pos 0 ≤ℤ (c *ℤ m +ℤ a *ℤ x)

pub in_more : (a c : ℤ) (g : Span) (x : ℤ) → InSpan g x → Fits a c (pos 1) x → InSpan (stepped a c g) x
in_more a c g x h f = by_sign a
    (λ z. rw (step_flat a c g z) (record { flat = by (g.flat) h.flat (nonneg (rw z at f)); low = h.low; high = h.high }))
    (λ up. rw (step_low a c g up) (record { flat = h.flat; low = higher_in g.low _ x h.low (let k = fits_only c a (pos 1) x up (omega (arith, ints)) f in let l = simp ring at k in omega (arith, ints, l)); high = h.high }))
    (λ down. rw (step_high a c g down) (record { flat = h.flat; low = h.low; high = lower_in g.high _ x h.high (let k = fits_below c a (pos 1) x down (omega (arith, ints)) f in let l = simp ring at k in omega (arith, ints, l)) }))
  where
    nonneg : pos 0 ≤ℤ (c *ℤ pos 1 +ℤ pos 0 *ℤ x) → int_lt c (pos 0) ≡ false
    nonneg k = let l : pos 0 ≤ℤ c = omega (arith, ints, k) in grind (arith, ints)

    by : (p : Bool) → p ≡ true → int_lt c (pos 0) ≡ false → p && not (int_lt c (pos 0)) ≡ true
    by p e f = rw (e, f) refl

pub in_less : (a c : ℤ) (g : Span) (x : ℤ) → InSpan (stepped a c g) x → InSpan g x × Fits a c (pos 1) x
in_less a c g x h = by_sign a
    (λ z. let k = rw (step_flat a c g z) at h in let b = and_both g.flat (not (int_lt c (pos 0))) k.flat in (record { flat = b.0; low = k.low; high = k.high }, rw z (nonneg b.1)))
    (λ up. let k = rw (step_low a c g up) at h in let b = higher_out g.low (neg_ℤ (int_div_euclid c a)) x k.low in (record { flat = k.flat; low = b.0; high = k.high }, fits_from c a x up b.1))
    (λ down. let k = rw (step_high a c g down) at h in let b = lower_out g.high (int_div_euclid c (neg_ℤ a)) x k.high in (record { flat = k.flat; low = k.low; high = b.0 }, fits_upto c a x down b.1))
  where
    nonneg : not (int_lt c (pos 0)) ≡ true → pos 0 ≤ℤ (c *ℤ pos 1 +ℤ pos 0 *ℤ x)
    nonneg e = let l : pos 0 ≤ℤ c = by_lt_z c (pos 0) (λ k. let t : int_lt c (pos 0) ≡ true = grind (arith, ints) in absurd (true≢false (sym e ∙ ap not t))) (λ k. k) in omega (arith, ints)

above_in : (o : Option ℤ) (l m x : ℤ) → IfSome o (λ l. pos 0 <ℤ (x +ℤ (neg_ℤ l +ℤ pos 1) *ℤ m)) → pos 0 <ℤ (x +ℤ (neg_ℤ l +ℤ pos 1) *ℤ m) → pos 0 <ℤ (x +ℤ (neg_ℤ (higher o l) +ℤ pos 1) *ℤ m)
above_in None l m x h k = k
above_in (Some y) l m x h k = by_lt_z l y
    (λ n. let e : int_max y l ≡ y = omega (arith, ints, clamps) in rw e h)
    (λ n. let e : int_max y l ≡ l = omega (arith, ints, clamps) in rw e k)

under_in : (o : Option ℤ) (l m x : ℤ) → IfSome o (λ l. x <ℤ ((l +ℤ pos 1) *ℤ m)) → x <ℤ ((l +ℤ pos 1) *ℤ m) → x <ℤ ((lower o l +ℤ pos 1) *ℤ m)
under_in None l m x h k = k
under_in (Some y) l m x h k = by_lt_z y l
    (λ n. let e : int_min y l ≡ y = omega (arith, ints, clamps) in rw e h)
    (λ n. let e : int_min y l ≡ l = omega (arith, ints, clamps) in rw e k)

pub near_more : (a c : ℤ) (g : Span) (m x : ℤ) → pos 0 <ℤ m → Near g m x → Fits a c m x → Near (stepped a c g) m x
near_more a c g m x i h f = by_sign a
    (λ z. rw (step_flat a c g z) (record { flat = by (g.flat) h.flat (nonneg (rw z at f)); low = h.low; high = h.high }))
    (λ up. rw (step_low a c g up) (record { flat = h.flat; low = above_in g.low (neg_ℤ (int_div_euclid c a)) m x h.low (let k = fits_only c a m x up i f in let e : neg_ℤ (neg_ℤ (int_div_euclid c a)) ≡ int_div_euclid c a = omega (arith, ints) in rw e k); high = h.high }))
    (λ down. rw (step_high a c g down) (record { flat = h.flat; low = h.low; high = under_in g.high (int_div_euclid c (neg_ℤ a)) m x h.high (fits_below c a m x down i f) }))
  where
    nonneg : pos 0 ≤ℤ (c *ℤ m +ℤ pos 0 *ℤ x) → int_lt c (pos 0) ≡ false
    nonneg k = let l : pos 0 ≤ℤ (m *ℤ c) = omega (arith, ints, k) in let n = nonneg_by m c i l in grind (arith, ints)

    by : (p : Bool) → p ≡ true → int_lt c (pos 0) ≡ false → p && not (int_lt c (pos 0)) ≡ true
    by p e f = rw (e, f) refl

-- ---- all rows
abbrev pub AllFit : ℕ → ℤ → ℤ → List (List ℤ) → Type 0
AllFit k m x rows = AllByRecursion (λ r. Fits (factor k r) (factor 0 r) m x) rows

pub in_all : (k : ℕ) (rows : List (List ℤ)) (g : Span) (x : ℤ) → InSpan g x → AllFit k (pos 1) x rows → InSpan (scanned k rows g) x
in_all k [] g x h f = h
in_all k (r ∷ rows) g x h f = in_all k rows (stepped (factor k r) (factor 0 r) g) x (in_more (factor k r) (factor 0 r) g x h f.0) f.1

pub out_all : (k : ℕ) (rows : List (List ℤ)) (g : Span) (x : ℤ) → InSpan (scanned k rows g) x → InSpan g x × AllFit k (pos 1) x rows
out_all k [] g x h = (h, tt)
out_all k (r ∷ rows) g x h =
    let rest = out_all k rows (stepped (factor k r) (factor 0 r) g) x h in
    let one = in_less (factor k r) (factor 0 r) g x rest.0 in
    (one.0, (one.1, rest.1))

pub near_all : (k : ℕ) (rows : List (List ℤ)) (g : Span) (m x : ℤ) → pos 0 <ℤ m → Near g m x → AllFit k m x rows → Near (scanned k rows g) m x
near_all k [] g m x i h f = h
near_all k (r ∷ rows) g m x i h f = near_all k rows (stepped (factor k r) (factor 0 r) g) m x i (near_more (factor k r) (factor 0 r) g m x i h f.0) f.1

-- ---- directions
always : {X : Type 0} (P : Type 0) (o : Option X) → P → IfSome o (λ l. P)
always P None h = tt
always P (Some l) h = h

pub ways_more : (a c : ℤ) (g : Span) (x : ℤ) → Ways g x → Fits a c (pos 0) x → Ways (stepped a c g) x
ways_more a c g x h f = by_sign a
    (λ z. rw (step_flat a c g z) (record { low = h.low; high = h.high }))
    (λ up. rw (step_low a c g up) (record { low = nonneg_by a x up (omega (arith, ints, f)); high = h.high }))
    (λ down. rw (step_high a c g down) (record { low = h.low; high = let k = nonneg_by (neg_ℤ a) (neg_ℤ x) (omega (arith, ints)) (simp ring (omega (arith, ints, f))) in omega (arith, ints, k) }))

pub ways_less : (a c : ℤ) (g : Span) (x : ℤ) → Ways (stepped a c g) x → Ways g x × Fits a c (pos 0) x
ways_less a c g x h = by_sign a
    (λ z. let k = rw (step_flat a c g z) at h in (record { low = k.low; high = k.high }, rw z (omega (arith, ints))))
    (λ up. let k = rw (step_low a c g up) at h in let l = k.low in let p = product_nonneg a x (omega (arith, ints)) l in (record { low = always (pos 0 ≤ℤ x) g.low l; high = k.high }, omega (arith, ints, p)))
    (λ down. let k = rw (step_high a c g down) at h in let l = k.high in let p = product_nonneg (neg_ℤ a) (neg_ℤ x) (omega (arith, ints)) (omega (arith, ints, l)) in let r = simp ring at p in (record { low = k.low; high = always (x ≤ℤ pos 0) g.high l }, omega (arith, ints, r)))

pub ways_all : (k : ℕ) (rows : List (List ℤ)) (g : Span) (x : ℤ) → Ways g x → AllFit k (pos 0) x rows → Ways (scanned k rows g) x
ways_all k [] g x h f = h
ways_all k (r ∷ rows) g x h f = ways_all k rows (stepped (factor k r) (factor 0 r) g) x (ways_more (factor k r) (factor 0 r) g x h f.0) f.1

pub all_ways : (k : ℕ) (rows : List (List ℤ)) (g : Span) (x : ℤ) → Ways (scanned k rows g) x → Ways g x × AllFit k (pos 0) x rows
all_ways k [] g x h = (h, tt)
all_ways k (r ∷ rows) g x h =
    let rest = all_ways k rows (stepped (factor k r) (factor 0 r) g) x h in
    let one = ways_less (factor k r) (factor 0 r) g x rest.0 in
    (one.0, (one.1, rest.1))
