-- Rows that were normalised before a projection takes them to a body: its columns are unit columns and columns of 0.
use Rattle.std.proofs.Common.{◌≡◌, ◌≢◌, ℕ, zero, suc, ◌<◌, ◌≤◌, ◌⊎◌, inl, inr, Bool, true, false, arith, nat_lt, if◌then◌else◌, IsTrue, ℤ, pos, ◌≤ℤ◌, List, [], ◌∷◌, ◌++◌, length, map, get_or, refl, sym, ap, subst, ◌∙◌, All, Any}
use Rattle.std.proofs.Math.Nat.{zero-div}
use Rattle.std.specs.Int.{int_div_euclid}
use Rattle.std.specs.Int.RustNames.{unsigned_abs}
use Rattle.std.proofs.lemmas.Bool.{cases_eq, cases_lt}
use Rattle.std.proofs.lemmas.Int.{ints}
use Rattle.std.proofs.lemmas.List.{get_or_default}
use Rattle.std.proofs.lemmas.List.Elements.{All-head, All-tail, All-map, All-from_recursion}
use Rattle.std.proofs.lemmas.Nat.Gcd.{dvd-zero}
use Prim.Native.Nat.{◌∣◌}
use Rattle.av_affine.specs.declared.form.Form.{Form}
use Rattle.av_affine.specs.declared.map.Map.{Map}
use Rattle.av_affine.specs.Numbers.{dot, four}
use Rattle.av_affine.specs.Maps.{coefficients_of, constants_of, through}
use Rattle.av_poly.specs.Normal.{counted, IsConstant, IsNever, IsDivided, Tightens, AreNormalised}
use Rattle.av_poly.specs.Preimages.{rows_before}
use Rattle.av_poly.proofs.Dividing.{divided_once}
use Rattle.av_flat.specs.WellFormed.{IsIndex, IsProjection}
use Rattle.av_normal.proofs.Projecting.{unit_here, unit_elsewhere, coefficient_at, AreIndices, AreOnce}
use Rattle.av_normal.proofs.Meeting.{met_mapped, mapped_met}
use Rattle.av_normal.proofs.Normalised.{Shows, ShowsFirst, StandFor, stand_for, normalised_among}
use Rattle.av_affine.proofs.Composing.{dot_none}

-- ---- columns

pub entry_nothing : (i : ℕ) → get_or [] i (pos 0) ≡ pos 0
entry_nothing zero = refl
entry_nothing (suc i) = refl

abbrev IsZeroAt : ℕ → List Form → Type 0
IsZeroAt j forms = All (λ f. get_or f.coef j (pos 0) ≡ pos 0) forms

zero_column : (j : ℕ) (forms : List Form) (xs : List ℤ) → IsZeroAt j forms → dot xs (coefficients_of j forms) ≡ pos 0
zero_column j [] xs h = dot_none xs
zero_column j (f ∷ forms) [] h = refl
zero_column j (f ∷ forms) (x ∷ xs) h =
    let e = All-head (λ g. get_or g.coef j (pos 0) ≡ pos 0) f forms h in
    let r = zero_column j forms xs (All-tail (λ g. get_or g.coef j (pos 0) ≡ pos 0) f forms h) in
    rw (e, r) (omega (arith, ints))

-- the other forms are other indices
zero_rest : (n : ℕ) (f : Form) (forms : List Form) (p : ℕ) → IsIndex n f p → AreIndices n (f ∷ forms) → AreOnce n (f ∷ forms) → IsZeroAt p forms
zero_rest n f forms p is each once k d l =
    let (q, at) = each (suc k) d (omega (arith, l)) in
    coefficient_at n (get_or forms k d) q p at is.within
    ∙ unit_elsewhere q p (λ e. once 0 (suc k) d (omega arith) (omega (arith, l)) p is (let P : ℕ → Type 0 = λ a. IsIndex n (get_or forms k d) a in subst P (sym e) at))

-- the entry at this place of the composition
abbrev column : List Form → ℕ → List ℤ → ℤ
column forms j xs = dot xs (coefficients_of j forms)

abbrev IsEntry : List Form → ℕ → ℕ → Type 0
IsEntry forms j i = (i < length forms) × ((xs : List ℤ) → column forms j xs ≡ get_or xs i (pos 0))

first_entry : (n : ℕ) (f : Form) (forms : List Form) (p j : ℕ) → IsIndex n f p → AreIndices n (f ∷ forms) → AreOnce n (f ∷ forms) → j ≡ p → (xs : List ℤ) → column (f ∷ forms) j xs ≡ get_or xs 0 (pos 0)
first_entry n f forms p j is each once e [] = refl
first_entry n f forms p j is each once e (x ∷ xs) =
    let here : get_or f.coef j (pos 0) ≡ pos 1 = ap (λ a. get_or f.coef a (pos 0)) e ∙ coefficient_at n f p p is is.within ∙ unit_here p p refl in
    let rest = ap (λ a. dot xs (coefficients_of a forms)) e ∙ zero_column p forms xs (zero_rest n f forms p is each once) in
    rw (here, rest) (omega (arith, ints))

later_entry : (n : ℕ) (f : Form) (forms : List Form) (p j : ℕ) → IsIndex n f p → j < n → j ≢ p → (x : ℤ) (xs : List ℤ) → column (f ∷ forms) j (x ∷ xs) ≡ column forms j xs
later_entry n f forms p j is l e x xs =
    let here : get_or f.coef j (pos 0) ≡ pos 0 = coefficient_at n f p j is l ∙ unit_elsewhere p j e in
    rw here (omega (arith, ints))

later_column : (n : ℕ) (f : Form) (forms : List Form) (p j : ℕ) → IsIndex n f p → j < n → j ≢ p → (i : ℕ) → ((xs : List ℤ) → column forms j xs ≡ get_or xs i (pos 0))
    → (xs : List ℤ) → column (f ∷ forms) j xs ≡ get_or xs (suc i) (pos 0)
later_column n f forms p j is l e i h [] = refl
later_column n f forms p j is l e i h (x ∷ xs) = later_entry n f forms p j is l e x xs ∙ h xs

later_none : (n : ℕ) (f : Form) (forms : List Form) (p j : ℕ) → IsIndex n f p → j < n → j ≢ p → ((xs : List ℤ) → column forms j xs ≡ pos 0) → (xs : List ℤ) → column (f ∷ forms) j xs ≡ pos 0
later_none n f forms p j is l e h [] = refl
later_none n f forms p j is l e h (x ∷ xs) = later_entry n f forms p j is l e x xs ∙ h xs

-- each column has one entry of the row, or 0
column_is : (n : ℕ) (forms : List Form) (j : ℕ) → j < n → AreIndices n forms → AreOnce n forms → ((i : ℕ) × IsEntry forms j i) ⊎ ((xs : List ℤ) → column forms j xs ≡ pos 0)
column_is n [] j l each once = inr dot_none
column_is n (f ∷ forms) j l each once =
    let (p, is) = All-head (λ g. (place : ℕ) × IsIndex n g place) f forms each in
    elim (cases_eq j p) [
      | inl e ↦ inl (0, (omega arith, first_entry n f forms p j is each once e))
      | inr e ↦ elim (column_is n forms j l (All-tail (λ g. (place : ℕ) × IsIndex n g place) f forms each) (λ a b d k m. once (suc a) (suc b) d (omega (arith, k)) (omega (arith, m)))) [
        | inl r ↦ inl (suc r.0, ((let k = r.1.0 in omega (arith, k)), later_column n f forms p j is l e r.0 r.1.1))
        | inr r ↦ inr (later_none n f forms p j is l e r)
      ]
    ]

-- each entry stands in one column
abbrev IsColumnOf : ℕ → List Form → ℕ → ℕ → Type 0
IsColumnOf n forms i j = (j < n) × ((d : Form) → IsIndex n (get_or forms i d) j) × ((xs : List ℤ) → column forms j xs ≡ get_or xs i (pos 0))

entry_is : (n : ℕ) (forms : List Form) (i : ℕ) → i < length forms → AreIndices n forms → AreOnce n forms → (j : ℕ) × IsColumnOf n forms i j
entry_is n [] i l each once = absurd (omega (arith, l))
entry_is n (f ∷ forms) zero l each once =
    let (p, is) = All-head (λ g. (place : ℕ) × IsIndex n g place) f forms each in
    (p, (is.within, (λ d. is), first_entry n f forms p p is each once refl))
entry_is n (f ∷ forms) (suc i) l each once =
    let (p, is) = All-head (λ g. (place : ℕ) × IsIndex n g place) f forms each in
    let (j, (within, at, h)) = entry_is n forms i (omega (arith, l)) (All-tail (λ g. (place : ℕ) × IsIndex n g place) f forms each) (λ a b d k m. once (suc a) (suc b) d (omega (arith, k)) (omega (arith, m))) in
    (j, (within, at, later_column n f forms p j is within (λ e. once 0 (suc i) f (omega arith) l p is (let P : ℕ → Type 0 = λ a. IsIndex n (get_or forms i f) a in subst P e (at f))) i h))

constants_none : (n : ℕ) (forms : List Form) (xs : List ℤ) → AreIndices n forms → dot xs (constants_of forms) ≡ pos 0
constants_none n [] xs each = dot_none xs
constants_none n (f ∷ forms) [] each = refl
constants_none n (f ∷ forms) (x ∷ xs) each =
    let (p, is) = All-head (λ g. (place : ℕ) × IsIndex n g place) f forms each in
    let e = is.constant in
    let r = constants_none n forms xs (All-tail (λ g. (place : ℕ) × IsIndex n g place) f forms each) in
    rw (e, r) (omega (arith, ints))

-- ---- entries that count

entry_counted : (n i : ℕ) (xs : List ℤ) → i < n → get_or (counted n xs) i (pos 0) ≡ get_or xs i (pos 0)
entry_counted n i [] l = refl
entry_counted zero i (x ∷ xs) l = absurd (omega (arith, l))
entry_counted (suc n) zero (x ∷ xs) l = refl
entry_counted (suc n) (suc i) (x ∷ xs) l = entry_counted n i xs (omega (arith, l))

entry_past : (n i : ℕ) (xs : List ℤ) → n ≤ i → get_or (counted n xs) i (pos 0) ≡ pos 0
entry_past n i [] l = entry_nothing i
entry_past zero zero (x ∷ xs) l = refl
entry_past zero (suc i) (x ∷ xs) l = entry_past zero i xs (omega arith)
entry_past (suc n) zero (x ∷ xs) l = absurd (omega (arith, l))
entry_past (suc n) (suc i) (x ∷ xs) l = entry_past n i xs (omega (arith, l))

entry_mapped : (f : ℤ → ℤ) (xs : List ℤ) (i : ℕ) → f (pos 0) ≡ pos 0 → get_or (map f xs) i (pos 0) ≡ f (get_or xs i (pos 0))
entry_mapped f [] i e = entry_nothing i ∙ sym (ap f (entry_nothing i) ∙ e)
entry_mapped f (x ∷ xs) zero e = refl
entry_mapped f (x ∷ xs) (suc i) e = entry_mapped f xs i e

entry_of : (P : ℤ → Type 0) (xs : List ℤ) (i : ℕ) → All P xs → P (pos 0) → P (get_or xs i (pos 0))
entry_of P xs i h z = elim (cases_lt i (length xs)) [ inl l ↦ h i (pos 0) l | inr l ↦ subst P (sym (past xs i l)) z ]
  where
    past : (xs : List ℤ) (i : ℕ) → length xs ≤ i → get_or xs i (pos 0) ≡ pos 0
    past [] i l = entry_nothing i
    past (x ∷ xs) zero l = absurd (omega (arith, l))
    past (x ∷ xs) (suc i) l = past xs i (omega (arith, l))

-- each entry that counts, from the entries of the first n places
all_counted : (P : ℤ → Type 0) (n : ℕ) (xs : List ℤ) → P (pos 0) → ((i : ℕ) → i < n → P (get_or xs i (pos 0))) → All P (counted n xs)
all_counted P n xs z h k d l =
    let same : get_or (counted n xs) k d ≡ get_or (counted n xs) k (pos 0) = get_or_default (counted n xs) k d (pos 0) l in
    subst P (sym same) (elim (cases_lt k n) [ inl m ↦ subst P (sym (entry_counted n k xs m)) (h k m) | inr m ↦ subst P (sym (entry_past n k xs m)) z ])

-- ---- four places

abbrev below : ℕ → (ℕ → ℤ) → ℕ → ℤ
below n h j = if nat_lt j n then h j else pos 0

counted_four : (n : ℕ) (h : ℕ → ℤ) → counted n (four (below n h)) ≡ four (below n h)
counted_four zero h = refl
counted_four (suc zero) h = refl
counted_four (suc (suc zero)) h = refl
counted_four (suc (suc (suc zero))) h = refl
counted_four (suc (suc (suc (suc n)))) h = refl

all_four : (P : ℤ → Type 0) (h : ℕ → ℤ) → ((j : ℕ) → P (h j)) → All P (four h)
all_four P h f = All-from_recursion P (four h) (f 0, (f 1, (f 2, (f 3, tt))))

at_four : (P : ℤ → Type 0) (h : ℕ → ℤ) (j : ℕ) → All P (four h) → j < 4 → P (h j)
at_four P h zero f l = f 0 (pos 0) (omega arith)
at_four P h (suc zero) f l = f 1 (pos 0) (omega arith)
at_four P h (suc (suc zero)) f l = f 2 (pos 0) (omega arith)
at_four P h (suc (suc (suc zero))) f l = f 3 (pos 0) (omega arith)
at_four P h (suc (suc (suc (suc j)))) f l = absurd (omega (arith, l))

-- ---- rows before a projection

module _ (m : Map) (is : IsProjection m) (few : m.from ≤ 4) where
  abbrev d : ℕ
  d = length m.rows

  abbrev moved : Form → Form
  moved = through m.from m.rows

  abbrev entry : List ℤ → ℕ → ℤ
  entry xs = below m.from (λ j. column m.rows j xs)

  entry_column : (xs : List ℤ) (j : ℕ) → j < m.from → entry xs j ≡ column m.rows j xs
  entry_column xs j l = go (nat_lt j m.from) refl
    where
      go : (t : Bool) → nat_lt j m.from ≡ t → entry xs j ≡ column m.rows j xs
      go true e = rw e refl
      go false e = absurd (let k : nat_lt j m.from ≡ true = grind (arith, l) in cc)

  -- an entry is one of the row's own that count, or 0
  entry_cases : (j : ℕ) → ((i : ℕ) × (i < d) × ((xs : List ℤ) → entry xs j ≡ get_or xs i (pos 0))) ⊎ ((xs : List ℤ) → entry xs j ≡ pos 0)
  entry_cases j = go (nat_lt j m.from) refl
    where
      go : (t : Bool) → nat_lt j m.from ≡ t → ((i : ℕ) × (i < d) × ((xs : List ℤ) → entry xs j ≡ get_or xs i (pos 0))) ⊎ ((xs : List ℤ) → entry xs j ≡ pos 0)
      go true e =
          let l : j < m.from = grind (arith, e) in
          elim (column_is m.from m.rows j l is.indices is.once) [
            | inl r ↦ inl (r.0, r.1.0, (λ xs. entry_column xs j l ∙ r.1.1 xs))
            | inr r ↦ inr (λ xs. entry_column xs j l ∙ r xs)
          ]
      go false e = inr (λ xs. rw e refl)

  entry_each : (P : ℤ → Type 0) (xs : List ℤ) → P (pos 0) → All P (counted d xs) → (j : ℕ) → P (entry xs j)
  entry_each P xs z h j = elim (entry_cases j) [
    | inl r ↦ subst P (sym (r.2 xs)) (subst P (entry_counted d r.0 xs r.1) (entry_of P (counted d xs) r.0 h z))
    | inr r ↦ subst P (sym (r xs)) z
  ]

  moved_each : (P : ℤ → Type 0) (f : Form) → P (pos 0) → All P (counted d f.coef) → All P (counted m.from (moved f).coef)
  moved_each P f z h = subst (All P) (sym (counted_four m.from (λ j. column m.rows j f.coef))) (all_four P (entry f.coef) (entry_each P f.coef z h))

  each_moved : (P : ℤ → Type 0) (f : Form) → P (pos 0) → All P (counted m.from (moved f).coef) → All P (counted d f.coef)
  each_moved P f z h =
      let all = subst (All P) (counted_four m.from (λ j. column m.rows j f.coef)) h in
      all_counted P d f.coef z (λ i l.
      let (j, (within, at, e)) = entry_is m.from m.rows i l is.indices is.once in
      subst P (entry_column f.coef j within ∙ e f.coef) (at_four P (entry f.coef) j all (omega (arith, within, few))))

  moved_constant : (f : Form) → (moved f).constant ≡ f.constant
  moved_constant f = let e = constants_none m.from m.rows f.coef is.indices in omega (arith, ints, e)

  constant_moved : (f : Form) → IsConstant d f → IsConstant m.from (moved f)
  constant_moved f h = moved_each (λ x. x ≡ pos 0) f refl h

  moved_is_constant : (f : Form) → IsConstant m.from (moved f) → IsConstant d f
  moved_is_constant f h = each_moved (λ x. x ≡ pos 0) f refl h

  never_moved : (f : Form) → IsNever d f → IsNever m.from (moved f)
  never_moved f n = let e = moved_constant f in let c = n.negative in record { no_coefficients = constant_moved f n.no_coefficients; negative = omega (arith, ints, e, c) }

  quotient_moved : (f g : Form) (k : ℕ) → g.coef ≡ map (λ x. int_div_euclid x (pos k)) (counted d f.coef) → (j : ℕ) → entry g.coef j ≡ int_div_euclid (entry f.coef j) (pos k)
  quotient_moved f g k e j =
      let nothing : int_div_euclid (pos 0) (pos k) ≡ pos 0 = ap pos (zero-div k) in
      elim (entry_cases j) [
        | inl r ↦ r.2 g.coef ∙ ap (λ xs. get_or xs r.0 (pos 0)) e ∙ entry_mapped (λ x. int_div_euclid x (pos k)) (counted d f.coef) r.0 nothing
            ∙ ap (λ x. int_div_euclid x (pos k)) (entry_counted d r.0 f.coef r.1 ∙ sym (r.2 f.coef))
        | inr r ↦ r g.coef ∙ sym (ap (λ x. int_div_euclid x (pos k)) (r f.coef) ∙ nothing)
      ]

  divided_moved : (f g : Form) → IsDivided d f g → IsDivided m.from (moved f) (moved g)
  divided_moved f g s =
      let k = s.divisor in
      let q = quotient_moved f g k s.coef in
      record {
        divisor = k;
        positive = s.positive;
        gcd = record {
          divides = moved_each (λ x. k ∣ unsigned_abs x) f (dvd-zero k) s.gcd.divides;
          greatest = λ c h. s.gcd.greatest c (each_moved (λ x. c ∣ unsigned_abs x) f (dvd-zero c) h);
        };
        coef = fours (entry g.coef) (entry f.coef) (λ x. int_div_euclid x (pos k)) q ∙ ap (map (λ x. int_div_euclid x (pos k))) (sym (counted_four m.from (λ j. column m.rows j f.coef)));
        constant = moved_constant g ∙ s.constant ∙ ap (λ x. int_div_euclid x (pos k)) (sym (moved_constant f));
      }
    where
      fours : (a b : ℕ → ℤ) (f : ℤ → ℤ) → ((j : ℕ) → a j ≡ f (b j)) → four a ≡ map f (four b)
      fours a b f e = rw (e 0, e 1, e 2, e 3) refl

  -- the row that is divided before it is moved
  divided_before : (f : Form) (new : Form) → IsDivided m.from (moved f) new → (g : Form) × IsDivided d f g × (moved g ≡ new)
  divided_before f new s =
      let k = s.divisor in
      let g : Form = record { coef = map (λ x. int_div_euclid x (pos k)) (counted d f.coef); constant = int_div_euclid f.constant (pos k) } in
      let is : IsDivided d f g =
      record {
        divisor = k;
        positive = s.positive;
        gcd = record {
          divides = each_moved (λ x. k ∣ unsigned_abs x) f (dvd-zero k) s.gcd.divides;
          greatest = λ c h. s.gcd.greatest c (moved_each (λ x. c ∣ unsigned_abs x) f (dvd-zero c) h);
        };
        coef = refl;
        constant = refl;
      }
      in
      (g, is, divided_once m.from (moved f) (moved g) new (divided_moved f g is) s)

  -- what a moved row shows, the row shows by the coefficients that it has when it is moved
  abbrev before : (List ℤ → Bool) → List ℤ → Bool
  before test xs = test (four (entry xs))

  moved_shows : (test : List ℤ → Bool) (f : Form) → Shows d (before test) f → Shows m.from test (moved f)
  moved_shows test f (g, is, t) = (moved g, divided_moved f g is, t)

  shows_moved : (test : List ℤ → Bool) (f : Form) → Shows m.from test (moved f) → Shows d (before test) f
  shows_moved test f (new, s, t) = let (g, is, e) = divided_before f new s in (g, is, subst (λ (r : Form). IsTrue (test r.coef)) (sym e) t)

  order_moved : (xs new : List Form) → ((one other : List ℤ → Bool) → ShowsFirst d one other new → ShowsFirst d one other xs)
      → (one other : List ℤ → Bool) → ShowsFirst m.from one other (rows_before m new) → ShowsFirst m.from one other (rows_before m xs)
  order_moved xs new order one other h =
      met_mapped moved (Shows d (before one)) (Shows d (before other)) (Shows m.from one) (Shows m.from other) (moved_shows one) (shows_moved other) xs
      (order (before one) (before other)
      (mapped_met moved (Shows d (before one)) (Shows d (before other)) (Shows m.from one) (Shows m.from other) (shows_moved one) (moved_shows other) new h))

  tightens_moved : (f g : Form) → Tightens d f g → Tightens m.from (moved f) (moved g)
  tightens_moved f g s =
      let a = moved_constant g in
      let b = moved_constant s.divided in
      let c = s.constant in
      record {
        divided = moved s.divided;
        is_divided = divided_moved f s.divided s.is_divided;
        coef = ap (λ xs. four (entry xs)) s.coef;
        constant = omega (arith, ints, a, b, c);
      }

  any_moved : (P Q : Form → Type 0) → ((f : Form) → P f → Q (moved f)) → (xs : List Form) → Any P xs → Any Q (rows_before m xs)
  any_moved P Q h [] (k, x, l, e, p) = absurd (omega (arith, l))
  any_moved P Q h (f ∷ xs) (zero, x, l, e, p) = (0, moved x, omega arith, ap moved e, h x p)
  any_moved P Q h (f ∷ xs) (suc k, x, l, e, p) =
      let r = any_moved P Q h xs (k, x, (omega (arith, l)), e, p) in (suc r.0, r.1, (let n = r.2 in omega (arith, n)), r.3, r.4)

  pub stand_before : (xs new : List Form) → StandFor d xs new → StandFor m.from (rows_before m xs) (rows_before m new)
  stand_before xs new (inl (w, v)) = inl (any_moved (IsNever d) (IsNever m.from) never_moved xs w, any_moved (IsNever d) (IsNever m.from) never_moved new v)
  stand_before xs new (inr t) = inr (record {
    none_false = All-map (λ row. IsConstant m.from row → pos 0 ≤ℤ row.constant) moved xs (λ k e l c.
        let h = t.none_false k e l (moved_is_constant (get_or xs k e) c) in let q = moved_constant (get_or xs k e) in omega (arith, ints, h, q));
    divided = All-map (λ row. Any (λ old. IsDivided m.from old row) (rows_before m xs)) moved new (λ k e l.
        any_moved (λ old. IsDivided d old (get_or new k e)) (λ old. IsDivided m.from old (moved (get_or new k e))) (λ f s. divided_moved f (get_or new k e) s) xs (t.divided k e l));
    least = All-map (λ row. IsConstant m.from row ⊎ Any (Tightens m.from row) (rows_before m new)) moved xs (λ k e l. elim (t.least k e l) [
      | inl c ↦ inl (constant_moved (get_or xs k e) c)
      | inr a ↦ inr (any_moved (Tightens d (get_or xs k e)) (Tightens m.from (moved (get_or xs k e))) (λ g s. tightens_moved (get_or xs k e) g s) new a)
    ]);
    order = order_moved xs new t.order;
  })

  -- normalising a holder's rows before they are taken to a body changes nothing
  pub normalised_before : (rows new more out : List Form) → AreNormalised (length m.rows) rows new → AreNormalised m.from (rows_before m new ++ more) out → AreNormalised m.from (rows_before m rows ++ more) out
  normalised_before rows new more out a b = normalised_among m.from (rows_before m rows) (rows_before m new) more out (stand_before rows new (stand_for d rows new a)) b
