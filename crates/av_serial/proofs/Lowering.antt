-- Rows lowered one by one, before a map and after it, and the choices of which they are the sets.
use Rattle.std.proofs.Common.{◌≡◌, ℕ, zero, suc, ◌+◌, ◌*◌, ◌<◌, ◌≤◌, ◌^◌, ℤ, pos, Bool, true, false, if◌then◌else◌, nat_lt, List, [], ◌∷◌, ◌++◌, length, get_or, slice_set, take, drop, unsigned_abs, add-one, append_assoc, refl, sym, ap, ap₂, subst, ◌∙◌, arith, All}
use Rattle.std.specs.List.{AllByRecursion}
use Rattle.std.proofs.Math.Seq.{drop-cons}
use Rattle.std.proofs.lemmas.Int.{ints}
use Rattle.std.proofs.lemmas.List.{length-map}
use Rattle.std.proofs.lemmas.List.Elements.{recursion_from_All, All-from_recursion}
use Rattle.av_affine.specs.declared.form.Form.{Form}
use Rattle.av_affine.specs.declared.map.Map.{Map}
use Rattle.av_affine.specs.Numbers.{AtMost, dot}
use Rattle.av_affine.specs.Forms.{IsWithinLimits}
use Rattle.av_affine.specs.Maps.{through, constants_of, coefficients_of}
use Rattle.av_affine.proofs.Dots.{dot_most}
use Rattle.av_affine.proofs.Composing.{constants_most, coefficients_most}
use Rattle.av_poly.specs.Points.{Set, IsSmall}
use Rattle.av_poly.specs.Preimages.{rows_before}
use Rattle.av_flat.specs.declared.tree.Choice.{Choice}
use Rattle.av_flat.specs.WellFormed.{IsProjection}
use Rattle.av_serial.specs.Lines.{is_upper, tightened, bound, map_over, choice_of, choices_from}
use Rattle.av_serial.specs.inner.Lowered.{lower, lowered}
use Rattle.av_serial.proofs.Small.{bound_within, map_within}

pub length_lowered : (m : Map) (n : ℕ) (rows : List Form) → length (lowered m n rows) ≡ length rows
length_lowered m zero rows = refl
length_lowered m (suc n) [] = refl
length_lowered m (suc n) (row ∷ rows) = ap suc (length_lowered m n rows)

-- the same before a map and after it
lower_before : (last : Map) (row : Form) → lower (through last.from last.rows row) ≡ through last.from last.rows (lower row)
lower_before last row =
    let d = dot row.coef (constants_of last.rows) in
    let k = row.constant in
    ap (λ n. record { coef = (through last.from last.rows row).coef; constant = n }) (omega (arith, ints))

-- ---- one row more

abbrev at : Map → Map → ℕ → List Form → List Form
at m last n rows = rows_before last (lowered m n rows)

next_upper : (m last : Map) (rows : List Form) (k : ℕ) (d e : Form) → k < length rows → is_upper m (get_or rows k d) ≡ true
    → slice_set (at m last k rows) k (lower (get_or (at m last k rows) k e)) ≡ at m last (suc k) rows
next_upper m last [] k d e l h = absurd (omega (arith, l))
next_upper m last (row ∷ rows) zero d e l h =
    ap₂ (λ x y. x ∷ y) (lower_before last row ∙ ap (λ t. through last.from last.rows (if t then lower row else row)) (sym h)) refl
next_upper m last (row ∷ rows) (suc k) d e l h = ap (λ xs. through last.from last.rows (if is_upper m row then lower row else row) ∷ xs) (next_upper m last rows k d e (omega (arith, l)) h)

next_other : (m last : Map) (rows : List Form) (k : ℕ) (d : Form) → k < length rows → is_upper m (get_or rows k d) ≡ false → at m last k rows ≡ at m last (suc k) rows
next_other m last [] k d l h = absurd (omega (arith, l))
next_other m last (row ∷ rows) zero d l h = ap (λ t. through last.from last.rows (if t then lower row else row) ∷ rows_before last rows) (sym h)
next_other m last (row ∷ rows) (suc k) d l h = ap (λ xs. through last.from last.rows (if is_upper m row then lower row else row) ∷ xs) (next_other m last rows k d (omega (arith, l)) h)

pub one_lowered : (m last : Map) (rows : List Form) (k : ℕ) (d e : Form) → k < length rows → is_upper m (get_or rows k d) ≡ true
    → slice_set (at m last k rows) k (lower (get_or (at m last k rows) k e)) ≡ at m last (k + 1) rows
one_lowered m last rows k d e l h = next_upper m last rows k d e l h ∙ ap (λ n. at m last n rows) (sym (add-one k))

pub one_left : (m last : Map) (rows : List Form) (k : ℕ) (d : Form) → k < length rows → is_upper m (get_or rows k d) ≡ false → at m last k rows ≡ at m last (k + 1) rows
one_left m last rows k d l h = next_other m last rows k d l h ∙ ap (λ n. at m last n rows) (sym (add-one k))

-- all of them
pub lowered_is : (m : Map) (before rest : List Form) → lowered m (length before) (before ++ rest) ≡ tightened m before ++ rest
lowered_is m [] rest = refl
lowered_is m (row ∷ before) rest = ap (λ xs. (if is_upper m row then lower row else row) ∷ xs) (lowered_is m before rest)

-- ---- how large constants become

abbrev IsModest : Form → Type 0
IsModest row = AtMost 1024 row.coef × (unsigned_abs row.constant ≤ 2 ^ 20 + 1)

module _ (last : Map) (w : All IsWithinLimits last.rows) (few : length last.rows ≤ 4) where
  product : (x : ℤ) (n : ℕ) → unsigned_abs x ≤ 1024 * 2 ^ 20 * n → n ≤ 4 → unsigned_abs x ≤ 2 ^ 33
  product x n h l = omega (arith, h, l)

  constant_before : (row : Form) → IsModest row → unsigned_abs (through last.from last.rows row).constant ≤ 2 ^ 40
  constant_before row c =
      let e = length-map last.rows (λ f. f.constant) in
      let p = product (dot row.coef (constants_of last.rows)) (length (constants_of last.rows)) (dot_most row.coef (constants_of last.rows) 1024 (2 ^ 20) c.0 (constants_most last.rows w)) (omega (arith, e, few)) in
      let q = c.1 in
      omega (arith, ints, p, q)

  coefficient_before : (row : Form) (i : ℕ) → IsModest row → unsigned_abs (if nat_lt i last.from then dot row.coef (coefficients_of i last.rows) else pos 0) ≤ 2 ^ 40
  coefficient_before row i c =
      let e = length-map last.rows (λ f. get_or f.coef i (pos 0)) in
      let p = product (dot row.coef (coefficients_of i last.rows)) (length (coefficients_of i last.rows)) (dot_most row.coef (coefficients_of i last.rows) 1024 (2 ^ 20) c.0 (coefficients_most last.rows i w)) (omega (arith, e, few)) in
      go (nat_lt i last.from) p
    where
      go : (t : Bool) → unsigned_abs (dot row.coef (coefficients_of i last.rows)) ≤ 2 ^ 33 → unsigned_abs (if t then dot row.coef (coefficients_of i last.rows) else pos 0) ≤ 2 ^ 40
      go true h = omega (arith, h)
      go false h = omega arith

  small_before : (row : Form) → IsModest row → IsSmall (through last.from last.rows row)
  small_before row c = record {
    coefficients = All-from_recursion (λ x. unsigned_abs x ≤ 2 ^ 40) (through last.from last.rows row).coef
        (coefficient_before row 0 c, (coefficient_before row 1 c, (coefficient_before row 2 c, (coefficient_before row 3 c, tt))));
    constant = constant_before row c;
  }

  modest : (row : Form) → IsWithinLimits row → IsModest row
  modest row h = (h.coefficients, (let k = h.constant in omega (arith, k)))

  modest_low : (m : Map) (row : Form) → IsWithinLimits row → IsModest (if is_upper m row then lower row else row)
  modest_low m row h = go (is_upper m row)
    where
      go : (t : Bool) → IsModest (if t then lower row else row)
      go true = (h.coefficients, (let k = h.constant in omega (arith, ints, k)))
      go false = modest row h

  all_small : (m : Map) (n : ℕ) (rows : List Form) → AllByRecursion IsWithinLimits rows → AllByRecursion IsSmall (rows_before last (lowered m n rows))
  all_small m zero [] h = tt
  all_small m zero (row ∷ rows) h = (small_before row (modest row h.0), all_small m zero rows h.1)
  all_small m (suc n) [] h = tt
  all_small m (suc n) (row ∷ rows) h = (small_before (if is_upper m row then lower row else row) (modest_low m row h.0), all_small m n rows h.1)

  pub small_lowered : (m : Map) (n : ℕ) (rows : List Form) → All IsWithinLimits rows → All IsSmall (rows_before last (lowered m n rows))
  small_lowered m n rows h = All-from_recursion IsSmall (rows_before last (lowered m n rows)) (all_small m n rows (recursion_from_All IsWithinLimits rows h))

pub length_images : (m last : Map) (n : ℕ) (rows images : List Form) → images ≡ rows_before last (lowered m n rows) → length images ≡ length rows
length_images m last n rows images e = ap length e ∙ length-map (lowered m n rows) (through last.from last.rows) ∙ length_lowered m n rows

-- ---- choices

place_of : (before : List Form) (row d : Form) (rest : List Form) → get_or (before ++ row ∷ rest) (length before) d ≡ row
place_of [] row d rest = refl
place_of (x ∷ before) row d rest = place_of before row d rest

pub choice_is : (m last : Map) (dim : ℕ) (rows images : List Form) (place : ℕ) (d : Form) → last ≡ map_over m (bound m (get_or rows place d)) → dim ≡ last.from → images ≡ rows_before last (lowered m place rows)
    → (before : List Form) (row : Form) (rest : List Form) → rows ≡ before ++ row ∷ rest → length before ≡ place
    → ◌≡◌ {A = Choice} (record { set = record { dim = dim; rows = images }; map = last }) (choice_of m before row rest)
choice_is m last dim rows images place d is size made before row rest e l =
    let row_is : get_or rows place d ≡ row = ap₂ (λ (rs : List Form) (p : ℕ). get_or rs p d) e (sym l) ∙ place_of before row d rest in
    let last_is : last ≡ map_over m (bound m row) = is ∙ ap (λ (r : Form). map_over m (bound m r)) row_is in
    let low : lowered m place rows ≡ tightened m before ++ row ∷ rest = ap₂ (λ (rs : List Form) (p : ℕ). lowered m p rs) e (sym l) ∙ lowered_is m before (row ∷ rest) in
    let dim_is : dim ≡ length m.rows = size ∙ ap (λ (k : Map). k.from) last_is in
    let rows_is : images ≡ rows_before (map_over m (bound m row)) (tightened m before ++ row ∷ rest) = made ∙ ap₂ rows_before last_is low in
    same dim (length m.rows) images (rows_before (map_over m (bound m row)) (tightened m before ++ row ∷ rest)) last (map_over m (bound m row)) dim_is rows_is last_is
  where
    same : (d e : ℕ) (xs ys : List Form) (k n : Map) → d ≡ e → xs ≡ ys → k ≡ n → ◌≡◌ {A = Choice} (record { set = record { dim = d; rows = xs }; map = k }) (record { set = record { dim = e; rows = ys }; map = n })
    same d e xs ys k n p q r = ap₂ (λ (s : Set) (x : Map). record { set = s; map = x }) (ap₂ (λ (a : ℕ) (b : List Form). record { dim = a; rows = b }) p q) r

-- one more row of those to choose from
pub chosen_more : (m : Map) (rows : List Form) (i : ℕ) (d : Form) → i < length rows
    → choices_from m (take i rows) (drop i rows) ≡ (if is_upper m (get_or rows i d) then choice_of m (take i rows) (get_or rows i d) (drop (i + 1) rows) ∷ choices_from m (take (i + 1) rows) (drop (i + 1) rows)
    else choices_from m (take (i + 1) rows) (drop (i + 1) rows))
chosen_more m rows i d l =
    let r = get_or rows i d in
    let next : drop i rows ≡ r ∷ drop (i + 1) rows = drop-cons rows i d l ∙ ap (λ k. r ∷ drop k rows) (sym (add-one i)) in
    let more : take i rows ++ r ∷ [] ≡ take (i + 1) rows = sym (taken rows i d l) in
    let Q : List Form → List Form → List Choice = λ (xs ys : List Form). choices_from m xs ys in
    ap (λ (xs : List Form). choices_from m (take i rows) xs) next
    ∙ ap (λ (xs : List Form). if is_upper m r then choice_of m (take i rows) r (drop (i + 1) rows) ∷ choices_from m xs (drop (i + 1) rows) else choices_from m xs (drop (i + 1) rows)) more
  where
    taken : (xs : List Form) (i : ℕ) (d : Form) → i < length xs → take (i + 1) xs ≡ take i xs ++ get_or xs i d ∷ []
    taken xs i d l = ap (λ k. take k xs) (add-one i) ∙ go xs i d l
      where
        go : (xs : List Form) (i : ℕ) (d : Form) → i < length xs → take (suc i) xs ≡ take i xs ++ get_or xs i d ∷ []
        go [] i d l = absurd (omega (arith, l))
        go (x ∷ xs) zero d l = refl
        go (x ∷ xs) (suc i) d l = ap (λ ys. x ∷ ys) (go xs i d (omega (arith, l)))

pub split_at : (rows : List Form) (i : ℕ) (d : Form) → i < length rows → rows ≡ take i rows ++ get_or rows i d ∷ drop (i + 1) rows
split_at rows i d l = go rows i d l ∙ ap (λ k. take i rows ++ get_or rows i d ∷ drop k rows) (sym (add-one i))
  where
    go : (rows : List Form) (i : ℕ) (d : Form) → i < length rows → rows ≡ take i rows ++ get_or rows i d ∷ drop (suc i) rows
    go [] i d l = absurd (omega (arith, l))
    go (x ∷ rows) zero d l = refl
    go (x ∷ rows) (suc i) d l = ap (λ ys. x ∷ ys) (go rows i d (omega (arith, l)))

pub taken_length : (rows : List Form) (i : ℕ) → i < length rows → length (take i rows) ≡ i
taken_length [] i l = absurd (omega (arith, l))
taken_length (x ∷ rows) zero l = refl
taken_length (x ∷ rows) (suc i) l = ap suc (taken_length rows i (omega (arith, l)))

-- the map to the points that have a row's bound
pub over_bound : (m : Map) (rows seen : List Form) (place : ℕ) (d b : Form) (last : Map) → IsProjection m → m.from ≤ 4 → All IsWithinLimits rows → place < length rows
    → seen ≡ rows → b ≡ bound m (get_or seen place d) → last ≡ map_over m b → All IsWithinLimits last.rows
over_bound m rows seen place d b last is few w l e f g =
    let row = get_or rows place d in
    let b_is : b ≡ bound m row = f ∙ ap (λ (rs : List Form). bound m (get_or rs place d)) e in
    let h : IsWithinLimits b = subst IsWithinLimits (sym b_is) (bound_within m row is few (w place d l)) in
    subst (λ (k : Map). All IsWithinLimits k.rows) (sym g) (All-from_recursion IsWithinLimits (map_over m b).rows (map_within m b h))

-- a choice more, and none more
pub chosen_step : (m : Map) (rows : List Form) (i : ℕ) (d : Form) (choices new : List Choice) (made : Choice) → i < length rows → is_upper m (get_or rows i d) ≡ true → new ≡ choices ++ made ∷ []
    → made ≡ choice_of m (take i rows) (get_or rows i d) (drop (i + 1) rows)
    → new ++ choices_from m (take (i + 1) rows) (drop (i + 1) rows) ≡ choices ++ choices_from m (take i rows) (drop i rows)
chosen_step m rows i d choices new made l up e f =
    let r = get_or rows i d in
    let rest = choices_from m (take (i + 1) rows) (drop (i + 1) rows) in
    ap (λ (xs : List Choice). xs ++ rest) e ∙ append_assoc choices (made ∷ []) rest
    ∙ ap (λ (x : Choice). choices ++ x ∷ rest) f
    ∙ ap (λ (xs : List Choice). choices ++ xs) (sym (chosen_more m rows i d l ∙ ap (λ t. if t then choice_of m (take i rows) r (drop (i + 1) rows) ∷ rest else rest) up))

pub unchosen_step : (m : Map) (rows : List Form) (i : ℕ) (d : Form) (choices new : List Choice) → i < length rows → is_upper m (get_or rows i d) ≡ false → new ≡ choices
    → new ++ choices_from m (take (i + 1) rows) (drop (i + 1) rows) ≡ choices ++ choices_from m (take i rows) (drop i rows)
unchosen_step m rows i d choices new l up e =
    let r = get_or rows i d in
    let rest = choices_from m (take (i + 1) rows) (drop (i + 1) rows) in
    ap (λ (xs : List Choice). xs ++ rest) e
    ∙ ap (λ (xs : List Choice). choices ++ xs) (sym (chosen_more m rows i d l ∙ ap (λ t. if t then choice_of m (take i rows) r (drop (i + 1) rows) ∷ rest else rest) up))
