-- The points of a set in order, each found behind the one before.
use Rattle.std.proofs.Common.{◌≡◌, ℕ, zero, suc, ◌+◌, ◌-◌, ◌<◌, ◌≤◌, ℤ, pos, ◌+ℤ◌, ◌-ℤ◌, ◌*ℤ◌, ◌≤ℤ◌, ◌<ℤ◌, unsigned_abs, false, List, [], ◌∷◌, length, get_or, take, drop, set, Option, Some, None, refl, sym, ap, ap₂, ◌∙◌, subst, arith, inl, inr, true≢false}
use Rattle.std.specs.Prelude.{◌≢◌, IfSome, IfNone, is_some}
use Rattle.std.proofs.lemmas.Int.{ints}
use Rattle.std.proofs.lemmas.Bool.{cases_lt}
use Rattle.std.proofs.lemmas.List.{get_or-set_same, get_or-set_other, length-set}
use Rattle.av_affine.specs.Numbers.{AtMost}
use Rattle.av_affine.proofs.Dots.{entry_most}
use Rattle.av_poly.specs.Points.{Set, Has}
use Rattle.av_poly.specs.Search.{IsBetween, IsNotAfter}
use Rattle.av_tree.specs.Points.{Point}
use Rattle.av_flat.specs.Order.{IsBefore}
use Rattle.av_depend.proofs.Generators.{before_chain, before_itself}
use Rattle.av_data.specs.inner.Walks.{DiffersAt, IsNext, IsLast}

-- ---- where two points differ first

pub differs : (z y : Point) → length z ≡ length y → IsBefore z y → (k : ℕ) × (k < length z) × DiffersAt k z y
differs [] [] e h = absurd h
differs [] (y ∷ ys) e h = absurd (omega (arith, e))
differs (x ∷ xs) [] e h = absurd (omega (arith, e))
differs (x ∷ xs) (y ∷ ys) e (inl lt) = (0, omega arith, record { same = refl; greater = lt })
differs (x ∷ xs) (y ∷ ys) e (inr (eq, h)) =
    let (k, l, d) = differs xs ys (omega (arith, e)) h in
    (suc k, omega (arith, l), record { same = ap₂ (λ (v : ℤ) (vs : Point). v ∷ vs) (sym eq) d.same; greater = d.greater })

pub before_at : (k : ℕ) (z y : Point) → k < length z → length z ≡ length y → DiffersAt k z y → IsBefore z y
before_at k [] y lt e d = absurd (omega (arith, lt))
before_at k (x ∷ xs) [] lt e d = absurd (omega (arith, e))
before_at zero (x ∷ xs) (y ∷ ys) lt e d = inl d.greater
before_at (suc k) (x ∷ xs) (y ∷ ys) lt e d =
    inr (sym (ap (λ (v : Point). get_or v 0 (pos 0)) d.same), before_at k xs ys (omega (arith, lt)) (omega (arith, e)) (record { same = ap (λ (v : Point). drop 1 v) d.same; greater = d.greater }))

shorter : (j k : ℕ) (y z : Point) → j < k → length y ≡ length z → take k y ≡ take k z → (take j y ≡ take j z) × (get_or y j (pos 0) ≡ get_or z j (pos 0))
shorter j k [] [] lt e t = (refl, refl)
shorter j k [] (x ∷ z) lt e t = absurd (omega (arith, e))
shorter j k (x ∷ y) [] lt e t = absurd (omega (arith, e))
shorter j zero (x ∷ y) (w ∷ z) lt e t = absurd (omega (arith, lt))
shorter zero (suc k) (x ∷ y) (w ∷ z) lt e t = (refl, ap (λ (v : Point). get_or v 0 (pos 0)) t)
shorter (suc j) (suc k) (x ∷ y) (w ∷ z) lt e t =
    let m = shorter j k y z (omega (arith, lt)) (omega (arith, e)) (ap (λ (v : Point). drop 1 v) t) in
    (ap₂ (λ (v : ℤ) (vs : Point). v ∷ vs) (ap (λ (v : Point). get_or v 0 (pos 0)) t) m.0, m.1)

same_take : (n : ℕ) (y z : Point) → length y ≡ length z → ((i : ℕ) → i < n → i < length z → get_or y i (pos 0) ≡ get_or z i (pos 0)) → take n y ≡ take n z
same_take n [] [] e f = refl
same_take n [] (x ∷ z) e f = absurd (omega (arith, e))
same_take n (x ∷ y) [] e f = absurd (omega (arith, e))
same_take zero (x ∷ y) (w ∷ z) e f = refl
same_take (suc n) (x ∷ y) (w ∷ z) e f =
    ap₂ (λ (v : ℤ) (vs : Point). v ∷ vs) (f 0 (omega arith) (omega arith)) (same_take n y z (omega (arith, e)) (λ i l m. f (suc i) (omega (arith, l)) (omega (arith, m))))

pub not_after : (y x : Point) → IsNotAfter y x → IsBefore x y → ⊥
not_after [] [] n h = h
not_after [] (x ∷ xs) n h = h
not_after (y ∷ ys) [] n h = n
not_after (y ∷ ys) (x ∷ xs) (inl lt) (inl gt) = omega (arith, ints, lt, gt)
not_after (y ∷ ys) (x ∷ xs) (inl lt) (inr (eq, h)) = omega (arith, ints, lt, eq)
not_after (y ∷ ys) (x ∷ xs) (inr (eq, n)) (inl gt) = omega (arith, ints, gt, eq)
not_after (y ∷ ys) (x ∷ xs) (inr (eq, n)) (inr (eq', h)) = not_after ys xs n h

-- ---- bounds, index by index

between_at : (low high y : List ℤ) → IsBetween low high y → (i : ℕ) → i < length y → (get_or low i (pos 0) ≤ℤ get_or y i (pos 0)) × (get_or y i (pos 0) ≤ℤ get_or high i (pos 0))
between_at low high [] h i lt = absurd (omega (arith, lt))
between_at [] high (x ∷ y) h i lt = absurd h
between_at (l ∷ low) [] (x ∷ y) h i lt = absurd h
between_at (l ∷ low) (g ∷ high) (x ∷ y) h zero lt = (h.0, h.1)
between_at (l ∷ low) (g ∷ high) (x ∷ y) h (suc i) lt = between_at low high y h.2 i (omega (arith, lt))

at_between : (low high y : List ℤ) → length y ≤ length low → length y ≤ length high
    → ((i : ℕ) → i < length y → (get_or low i (pos 0) ≤ℤ get_or y i (pos 0)) × (get_or y i (pos 0) ≤ℤ get_or high i (pos 0))) → IsBetween low high y
at_between low high [] a b f = tt
at_between [] high (x ∷ y) a b f = absurd (omega (arith, a))
at_between (l ∷ low) [] (x ∷ y) a b f = absurd (omega (arith, b))
at_between (l ∷ low) (g ∷ high) (x ∷ y) a b f =
    let here = f 0 (omega arith) in
    (here.0, here.1, at_between low high y (omega (arith, a)) (omega (arith, b)) (λ i lt. f (suc i) (omega (arith, lt))))

-- the bounds are those of the extent, but of the first indices the entries of z
pub record AreFixed (low high : List ℤ) (z : Point) (k : ℕ) (part_low part_high : List ℤ) : Type 0 where
  pub low_size : length part_low ≡ 4
  pub high_size : length part_high ≡ 4
  pub low_before : (i : ℕ) → i < k → get_or part_low i (pos 0) ≡ get_or z i (pos 0)
  pub high_before : (i : ℕ) → i < k → get_or part_high i (pos 0) ≡ get_or z i (pos 0)
  pub low_after : (i : ℕ) → k ≤ i → get_or part_low i (pos 0) ≡ get_or low i (pos 0)
  pub high_after : (i : ℕ) → k ≤ i → get_or part_high i (pos 0) ≡ get_or high i (pos 0)

-- and at this index one more than the entry of z is the least
pub record AreCut (low high : List ℤ) (z : Point) (k : ℕ) (part_low part_high : List ℤ) : Type 0 where
  pub low_size : length part_low ≡ 4
  pub high_size : length part_high ≡ 4
  pub low_before : (i : ℕ) → i < k → get_or part_low i (pos 0) ≡ get_or z i (pos 0)
  pub high_before : (i : ℕ) → i < k → get_or part_high i (pos 0) ≡ get_or z i (pos 0)
  pub low_here : get_or part_low k (pos 0) ≡ get_or z k (pos 0) +ℤ pos 1
  pub low_after : (i : ℕ) → k < i → get_or part_low i (pos 0) ≡ get_or low i (pos 0)
  pub high_after : (i : ℕ) → k ≤ i → get_or part_high i (pos 0) ≡ get_or high i (pos 0)

in_default : (xs : List ℤ) (i : ℕ) (d : ℤ) → i < length xs → get_or xs i d ≡ get_or xs i (pos 0)
in_default [] i d lt = absurd (omega (arith, lt))
in_default (x ∷ xs) zero d lt = refl
in_default (x ∷ xs) (suc i) d lt = in_default xs i d (omega (arith, lt))

at_most : (xs : List ℤ) (i : ℕ) → AtMost 4095 xs → i < length xs → unsigned_abs (get_or xs i (pos 0)) ≤ 4095
at_most xs i all lt = all i (pos 0) lt

all_at_most : (xs : List ℤ) → ((i : ℕ) → i < length xs → unsigned_abs (get_or xs i (pos 0)) ≤ 4095) → AtMost 4095 xs
all_at_most xs f = λ i d lt. subst (λ (x : ℤ). unsigned_abs x ≤ 4095) (sym (in_default xs i d lt)) (f i lt)

module _ (low high : List ℤ) (z : Point) (k : ℕ) (part_low part_high : List ℤ) (cut : AreCut low high z k part_low part_high) (within : k < length z) (few : length z ≤ 4) (low_size : length low ≡ 4) (high_size : length high ≡ 4) where
  pub cut_low : AtMost 4095 low → AtMost 4095 high → AtMost 4095 z → get_or z k (pos 0) <ℤ get_or high k (pos 0) → AtMost 4095 part_low
  cut_low a b small below = all_at_most part_low (λ i lt. by i lt)
    where
      by : (i : ℕ) → i < length part_low → unsigned_abs (get_or part_low i (pos 0)) ≤ 4095
      by i lt = elim (cases_lt i k) [
        | inl before ↦ subst (λ (x : ℤ). unsigned_abs x ≤ 4095) (sym (cut.low_before i before)) (at_most z i small (omega (arith, before, within)))
        | inr le ↦ elim (cases_lt k i) [
          | inl behind ↦ subst (λ (x : ℤ). unsigned_abs x ≤ 4095) (sym (cut.low_after i behind)) (at_most low i a (omega (arith, lt, cut.low_size, low_size)))
          | inr ge ↦
              let same : k ≡ i = omega (arith, le, ge) in
              let h = at_most high k b (omega (arith, within, few, high_size)) in
              let l = at_most z k small within in
              let here = cut.low_here in
              subst (λ j. unsigned_abs (get_or part_low j (pos 0)) ≤ 4095) same (omega (arith, ints, h, l, here, below))
        ]
      ]

  pub cut_high : AtMost 4095 high → AtMost 4095 z → AtMost 4095 part_high
  cut_high b small = all_at_most part_high (λ i lt. by i lt)
    where
      by : (i : ℕ) → i < length part_high → unsigned_abs (get_or part_high i (pos 0)) ≤ 4095
      by i lt = elim (cases_lt i k) [
        | inl before ↦ subst (λ (x : ℤ). unsigned_abs x ≤ 4095) (sym (cut.high_before i before)) (at_most z i small (omega (arith, before, within)))
        | inr le ↦ subst (λ (x : ℤ). unsigned_abs x ≤ 4095) (sym (cut.high_after i le)) (at_most high i b (omega (arith, lt, cut.high_size, high_size)))
      ]

  pub cut_between : (y : Point) → length y ≡ length z → IsBetween low high y → DiffersAt k z y → IsBetween part_low part_high y
  cut_between y size between d = at_between part_low part_high y (omega (arith, size, few, cut.low_size)) (omega (arith, size, few, cut.high_size)) (λ i lt. by i lt)
    where
      by : (i : ℕ) → i < length y → (get_or part_low i (pos 0) ≤ℤ get_or y i (pos 0)) × (get_or y i (pos 0) ≤ℤ get_or part_high i (pos 0))
      by i lt = elim (cases_lt i k) [
        | inl before ↦
            let same = (shorter i k y z before size d.same).1 in
            let a = cut.low_before i before in
            let b = cut.high_before i before in
            (omega (arith, ints, same, a), omega (arith, ints, same, b))
        | inr le ↦ elim (cases_lt k i) [
          | inl behind ↦
              let inside = between_at low high y between i lt in
              let a = cut.low_after i behind in
              let b = cut.high_after i le in
              (omega (arith, ints, inside.0, a), omega (arith, ints, inside.1, b))
          | inr ge ↦
              let same : k ≡ i = omega (arith, le, ge) in
              let inside = between_at low high y between k (omega (arith, within, size)) in
              let a = cut.low_here in
              let b = cut.high_after k (omega arith) in
              let g = d.greater in
              subst (λ j. (get_or part_low j (pos 0) ≤ℤ get_or y j (pos 0)) × (get_or y j (pos 0) ≤ℤ get_or part_high j (pos 0))) same
              (omega (arith, ints, a, g), omega (arith, ints, inside.1, b))
        ]
      ]

  pub between_cut : (y : Point) → length y ≡ length z → IsBetween part_low part_high y → DiffersAt k z y
  between_cut y size between = record {
    same = same_take k y z size (λ i before lt.
        let inside = between_at part_low part_high y between i (omega (arith, lt, size)) in
        let a = cut.low_before i before in
        let b = cut.high_before i before in
        omega (arith, ints, inside.0, inside.1, a, b));
    greater =
        let inside = between_at part_low part_high y between k (omega (arith, within, size)) in
        let a = cut.low_here in
        omega (arith, ints, inside.0, a);
  }

-- ---- the next point

-- no point of the set differs from z first at this index or a later one
abbrev pub NoneFrom : Set → Point → ℕ → Type 0
NoneFrom set z index = (k : ℕ) → index ≤ k → k < length z → (y : Point) → Has set y → DiffersAt k z y → ⊥

module _ (set : Set) (z : Point) (has : Has set z) where
  same_size : (y : Point) → Has set y → length z ≡ length y
  same_size y h = has.dimension ∙ sym h.dimension

  pub none_behind : NoneFrom set z 0 → IsLast set z
  none_behind none x h before =
      let (k, lt, d) = differs z x (same_size x h) before in
      none k (omega arith) lt x h d

  pub none_past : NoneFrom set z (length z)
  none_past k le lt y h d = omega (arith, le, lt)

  pub none_more : (k : ℕ) → NoneFrom set z (k + 1) → ((y : Point) → Has set y → DiffersAt k z y → ⊥) → NoneFrom set z k
  none_more k none here j le lt y h d = elim (cases_lt k j) [
    | inl more ↦ none j (omega (arith, more)) lt y h d
    | inr ge ↦ let same : j ≡ k = omega (arith, le, ge) in here y h (subst (λ i. DiffersAt i z y) same d)
  ]

  pub is_next : (k : ℕ) (y : Point) → k < length z → NoneFrom set z (k + 1) → Has set y → DiffersAt k z y → ((x : Point) → Has set x → DiffersAt k z x → IsNotAfter y x) → IsNext set z y
  is_next k y lt none there d least = record {
    has = there;
    behind = before_at k z y lt (same_size y there) d;
    next = λ x h after before.
        let (j, l, e) = differs z x (same_size x h) after in
        by x h before j l e;
  }
    where
      by : (x : Point) → Has set x → IsBefore x y → (j : ℕ) → j < length z → DiffersAt j z x → ⊥
      by x h before j l e = elim (cases_lt j k) [
        | inl less ↦
            let m = shorter j k y z less (sym (same_size y there)) d.same in
            let sizes : length y ≡ length x = there.dimension ∙ sym h.dimension in
            let g = e.greater in
            let first : DiffersAt j y x = record { same = e.same ∙ sym m.0; greater = (let s = m.1 in omega (arith, ints, g, s)) } in
            before_itself x (before_chain x y x before (before_at j y x (omega (arith, l, same_size y there)) sizes first))
        | inr le ↦ elim (cases_lt k j) [
          | inl more ↦ none j (omega (arith, more)) l x h e
          | inr ge ↦
              let same : j ≡ k = omega (arith, le, ge) in
              not_after y x (least x h (subst (λ i. DiffersAt i z x) same e)) before
        ]
      ]

-- points between small bounds are small
pub between_small : (low high z : Point) → AtMost 4095 low → AtMost 4095 high → IsBetween low high z → AtMost 4095 z
between_small low high z a b between = all_at_most z (λ i lt.
    let h = between_at low high z between i lt in
    let l = entry_most 4095 low i a in
    let g = entry_most 4095 high i b in
    omega (arith, ints, h.0, h.1, l, g))

-- ---- one index after another, from the last one down

-- between these bounds are the points between those which first differ from z at this index
pub record IsPart (low high : List ℤ) (z : Point) (k : ℕ) (part_low part_high : List ℤ) : Type 0 where
  pub between : (y : Point) → length y ≡ length z → IsBetween low high y → DiffersAt k z y → IsBetween part_low part_high y
  pub behind : (y : Point) → length y ≡ length z → IsBetween part_low part_high y → DiffersAt k z y

module _ (set : Set) (z : Point) (has : Has set z) (low high : List ℤ) (inside : (y : Point) → Has set y → IsBetween low high y) (i : ℕ) (above : 0 < i) (within : i ≤ length z) (none : NoneFrom set z i) where
  none_later : NoneFrom set z (i - 1 + 1)
  none_later = subst (NoneFrom set z) (one_less i above) none
    where
      one_less : (n : ℕ) → 0 < n → n ≡ n - 1 + 1
      one_less n lt = omega (arith, lt)

  pub none_top : get_or high (i - 1) (pos 0) ≤ℤ get_or z (i - 1) (pos 0) → NoneFrom set z (i - 1)
  none_top top = none_more set z has (i - 1) none_later (λ y h d.
      let size = same_size set z has y h in
      let b = between_at low high y (inside y h) (i - 1) (omega (arith, above, within, size)) in
      let g = d.greater in
      omega (arith, ints, b.1, g, top))

  module _ (part_low part_high : List ℤ) (part : IsPart low high z (i - 1) part_low part_high) where
    part_has : (y : Point) → Has set y → DiffersAt (i - 1) z y → IsBetween part_low part_high y
    part_has y h d = part.between y (sym (same_size set z has y h)) (inside y h) d

    pub none_part : ((y : Point) → Has set y → IsBetween part_low part_high y → ⊥) → NoneFrom set z (i - 1)
    none_part empty = none_more set z has (i - 1) none_later (λ y h d. empty y h (part_has y h d))

    pub next_found : (o : Option Point) → IfSome o (λ y. Has set y × IsBetween part_low part_high y) → IfSome o (λ y. (x : Point) → Has set x → IsBetween part_low part_high x → IsNotAfter y x) → IfSome o (IsNext set z)
    next_found None found least = tt
    next_found (Some y) found least =
        is_next set z has (i - 1) y (omega (arith, above, within)) none_later found.0 (part.behind y (sym (same_size set z has y found.0)) found.1) (λ x h d. least x h (part_has x h d))

-- what is known of an answer where there is none
pub none_of_none : {A X : Type 0} (o : Option A) → is_some o ≡ false → IfNone o X → X
none_of_none None e x = x
none_of_none (Some y) e x = absurd (true≢false e)

-- ---- how many points can follow

-- the place of a small point among all of them
abbrev pub place_of : Point → ℤ
place_of z = ((get_or z 0 (pos 0) *ℤ pos 8192 +ℤ get_or z 1 (pos 0)) *ℤ pos 8192 +ℤ get_or z 2 (pos 0)) *ℤ pos 8192 +ℤ get_or z 3 (pos 0)

abbrev pub left_behind : Option Point → ℕ
left_behind None = 0
left_behind (Some z) = unsigned_abs (pos 4503599627370496 -ℤ place_of z)

small_place : (z : Point) → AtMost 4095 z → unsigned_abs (place_of z) < 4503599627370496
small_place z small =
    let a = entry_most 4095 z 0 small in
    let b = entry_most 4095 z 1 small in
    let c = entry_most 4095 z 2 small in
    let d = entry_most 4095 z 3 small in
    omega (arith, ints, a, b, c, d)

place_before : (z y : Point) (k : ℕ) → k < 4 → length z ≡ length y → AtMost 4095 z → AtMost 4095 y → DiffersAt k z y → place_of z <ℤ place_of y
place_before z y zero lt e s t d =
    let a = entry_most 4095 z 1 s in
    let b = entry_most 4095 z 2 s in
    let c = entry_most 4095 z 3 s in
    let f = entry_most 4095 y 1 t in
    let g = entry_most 4095 y 2 t in
    let h = entry_most 4095 y 3 t in
    let more = d.greater in
    omega (arith, ints, a, b, c, f, g, h, more)
place_before z y (suc zero) lt e s t d =
    let b = entry_most 4095 z 2 s in
    let c = entry_most 4095 z 3 s in
    let g = entry_most 4095 y 2 t in
    let h = entry_most 4095 y 3 t in
    let more = d.greater in
    let first = (shorter 0 1 y z (omega arith) (sym e) d.same).1 in
    omega (arith, ints, b, c, g, h, more, first)
place_before z y (suc (suc zero)) lt e s t d =
    let c = entry_most 4095 z 3 s in
    let h = entry_most 4095 y 3 t in
    let more = d.greater in
    let first = (shorter 0 2 y z (omega arith) (sym e) d.same).1 in
    let second = (shorter 1 2 y z (omega arith) (sym e) d.same).1 in
    omega (arith, ints, c, h, more, first, second)
place_before z y (suc (suc (suc zero))) lt e s t d =
    let more = d.greater in
    let first = (shorter 0 3 y z (omega arith) (sym e) d.same).1 in
    let second = (shorter 1 3 y z (omega arith) (sym e) d.same).1 in
    let third = (shorter 2 3 y z (omega arith) (sym e) d.same).1 in
    omega (arith, ints, more, first, second, third)
place_before z y (suc (suc (suc (suc k)))) lt e s t d = absurd (omega (arith, lt))

pub fewer_none : (z : Point) → AtMost 4095 z → 0 < left_behind (Some z)
fewer_none z s = let a = small_place z s in omega (arith, ints, a)

pub fewer_left : (z y : Point) → length z ≡ length y → length z ≤ 4 → AtMost 4095 z → AtMost 4095 y → IsBefore z y → left_behind (Some y) < left_behind (Some z)
fewer_left z y e few s t before =
    let (k, lt, d) = differs z y e before in
    let more = place_before z y k (omega (arith, lt, few)) e s t d in
    let a = small_place z s in
    let b = small_place y t in
    omega (arith, ints, a, b, more)

-- ---- bounds that are written one after another

pub fixed_none : (low high : List ℤ) (z : Point) → length low ≡ 4 → length high ≡ 4 → AreFixed low high z 0 low high
fixed_none low high z a b = record {
  low_size = a;
  high_size = b;
  low_before = λ i lt. absurd (omega (arith, lt));
  high_before = λ i lt. absurd (omega (arith, lt));
  low_after = λ i le. refl;
  high_after = λ i le. refl;
}

module _ (low high : List ℤ) (z : Point) (k : ℕ) (part_low part_high : List ℤ) (so : AreFixed low high z k part_low part_high) (few : k < 4) where
  other : (i : ℕ) → k + 1 ≤ i → i ≢ k
  other i le e = omega (arith, le, e)

  written : (xs : List ℤ) (x : ℤ) → length xs ≡ 4 → get_or (set xs k x) k (pos 0) ≡ x
  written xs x size = get_or-set_same xs k x (pos 0) (omega (arith, size, few))

  before : (xs : List ℤ) → length xs ≡ 4 → ((i : ℕ) → i < k → get_or xs i (pos 0) ≡ get_or z i (pos 0)) → (i : ℕ) → i < k + 1 → get_or (set xs k (get_or z k (pos 0))) i (pos 0) ≡ get_or z i (pos 0)
  before xs size f i lt = elim (cases_lt i k) [
    | inl less ↦ get_or-set_other xs k i (get_or z k (pos 0)) (pos 0) (λ e. omega (arith, less, e)) ∙ f i less
    | inr le ↦
        let same : k ≡ i = omega (arith, le, lt) in
        subst (λ j. get_or (set xs k (get_or z k (pos 0))) j (pos 0) ≡ get_or z j (pos 0)) same (written xs (get_or z k (pos 0)) size)
  ]

  pub fixed_more : AreFixed low high z (k + 1) (set part_low k (get_or z k (pos 0))) (set part_high k (get_or z k (pos 0)))
  fixed_more = record {
    low_size = length-set part_low k (get_or z k (pos 0)) ∙ so.low_size;
    high_size = length-set part_high k (get_or z k (pos 0)) ∙ so.high_size;
    low_before = before part_low so.low_size so.low_before;
    high_before = before part_high so.high_size so.high_before;
    low_after = λ i le. get_or-set_other part_low k i (get_or z k (pos 0)) (pos 0) (other i le) ∙ so.low_after i (omega (arith, le));
    high_after = λ i le. get_or-set_other part_high k i (get_or z k (pos 0)) (pos 0) (other i le) ∙ so.high_after i (omega (arith, le));
  }

  pub fixed_cut : AreCut low high z k (set part_low k (get_or z k (pos 0) +ℤ pos 1)) part_high
  fixed_cut =
      let x = get_or z k (pos 0) +ℤ pos 1 in
      record {
        low_size = length-set part_low k x ∙ so.low_size;
        high_size = so.high_size;
        low_before = λ i lt. get_or-set_other part_low k i x (pos 0) (λ e. omega (arith, lt, e)) ∙ so.low_before i lt;
        high_before = so.high_before;
        low_here = written part_low x so.low_size;
        low_after = λ i lt. get_or-set_other part_low k i x (pos 0) (λ e. omega (arith, lt, e)) ∙ so.low_after i (omega (arith, lt));
        high_after = so.high_after;
      }

pub cut_at : (low high : List ℤ) (z : Point) (k i : ℕ) (part_low part_high : List ℤ) (x : ℤ) → AreFixed low high z k part_low part_high → k ≡ i → i < 4 → x ≡ get_or z i (pos 0) +ℤ pos 1 → AreCut low high z i (set part_low i x) part_high
cut_at low high z k i part_low part_high x so same few e =
    subst (λ (v : ℤ). AreCut low high z i (set part_low i v) part_high) (sym e) (fixed_cut low high z i part_low part_high (subst (λ j. AreFixed low high z j part_low part_high) same so) few)
