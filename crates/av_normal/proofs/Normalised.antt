-- Rows that were normalised among others: dividing twice is dividing once, and a false row stays false.
use Rattle.std.proofs.Common.{◌≡◌, ℕ, zero, suc, ◌<◌, ◌⊎◌, inl, inr, Bool, false, IsTrue, arith, ℤ, pos, ◌≤ℤ◌, List, [], ◌∷◌, ◌++◌, length, map, take, get_or, refl, sym, ap, ap₂, subst, ◌∙◌, All, AllPairs, Any, div-one}
use Rattle.std.proofs.Math.IntN.{negsuc}
use Rattle.std.proofs.Math.Nat.{eq-one_of_dvd-one}
use Rattle.std.specs.List.{AllByRecursion}
use Rattle.std.specs.Bool.{Decides}
use Rattle.std.specs.Cmp.Lexicographic.{pointwise, pointwise_decides}
use Rattle.std.specs.Ordering.{int_eq}
use Rattle.std.specs.Int.{int_div_euclid}
use Rattle.std.specs.Int.RustNames.{unsigned_abs}
use Rattle.std.proofs.lemmas.Bool.{cases_Bool, cases_lt}
use Rattle.std.proofs.lemmas.Bool.Decides.{Decides-int_eq}
use Rattle.std.proofs.lemmas.Int.{ints}
use Rattle.std.proofs.lemmas.List.{get_or_default, get_or-take, length-take}
use Rattle.std.proofs.lemmas.List.Elements.{All-weaker, All-append, All-from_recursion, recursion_from_All, Contains-append_right, Contains-append_cases}
use Prim.Native.Nat.{◌∣◌}
use Rattle.av_affine.specs.declared.form.Form.{Form}
use Rattle.av_affine.specs.Numbers.{IsGcdOf}
use Rattle.av_affine.proofs.Exact.{divided_primitive}
use Rattle.av_poly.specs.Normal.{counted, IsConstant, IsNever, IsDivided, Tightens, HasDirection, IsMetBefore, AreTightest, AreNormalised, IsPrimitive, impossible}
use Rattle.av_poly.proofs.Dividing.{not_constant, divided_once}
use Rattle.av_normal.proofs.Meeting.{MeetsFirst, asymmetric, in_first, some_met, met_in_front, met_behind, met_either, met_too, first_of, met_of}
use Rattle.av_poly.proofs.Tightening.{same_form}
use Rattle.av_poly.proofs.Normalising.{counted_divided}
use Rattle.av_base.proofs.Anys.{any_first}
use Rattle.av_base.proofs.Lists.{all_parts}

-- ---- some element

pub any_second : {X : Type 0} (P : X → Type 0) (xs ys : List X) → Any P ys → Any P (xs ++ ys)
any_second P xs ys (k, x, l, e, p) = let w = Contains-append_right xs ys x (k, l, e) in (w.0, x, w.1, w.2, p)

any_either : {X : Type 0} (P : X → Type 0) (xs ys : List X) → Any P (xs ++ ys) → Any P xs ⊎ Any P ys
any_either P xs ys (k, x, l, e, p) = elim (Contains-append_cases xs ys x (k, l, e)) [ inl w ↦ inl (w.0, x, w.1, w.2, p) | inr w ↦ inr (w.0, x, w.1, w.2, p) ]

any_rest : {X : Type 0} (P : X → Type 0) (x : X) (xs : List X) → (P x → ⊥) → Any P (x ∷ xs) → Any P xs
any_rest P x xs n (zero, y, l, e, p) = absurd (n (subst P (sym e) p))
any_rest P x xs n (suc k, y, l, e, p) = (k, y, omega (arith, l), e, p)

-- ---- dividing twice

by_one : (x : ℤ) → int_div_euclid x (pos 1) ≡ x
by_one (pos n) = ap pos (div-one n)
by_one (negsuc n) = ap negsuc (div-one n)

all_by_one : (xs : List ℤ) → map (λ x. int_div_euclid x (pos 1)) xs ≡ xs
all_by_one [] = refl
all_by_one (x ∷ xs) = ap₂ (λ (y : ℤ) ys. y ∷ ys) (by_one x) (all_by_one xs)

pub primitive : (dim : ℕ) (row new : Form) → IsDivided dim row new → IsPrimitive dim new
primitive dim row new d = record {
  gcd = subst (λ (xs : List ℤ). IsGcdOf xs 1) (sym d.coef) (divided_primitive (counted dim row.coef) d.divisor d.positive d.gcd);
  counts = subst (λ (xs : List ℤ). counted dim xs ≡ xs) (sym d.coef) (counted_divided dim d.divisor row.coef);
}

pub divided_itself : (dim : ℕ) (row : Form) → IsPrimitive dim row → IsDivided dim row row
divided_itself dim row p = record {
  divisor = 1;
  positive = omega arith;
  gcd = subst (λ (xs : List ℤ). IsGcdOf xs 1) (sym p.counts) p.gcd;
  coef = sym (all_by_one (counted dim row.coef) ∙ p.counts);
  constant = sym (by_one row.constant);
}

divided_twice : (dim : ℕ) (row new : Form) → IsPrimitive dim row → IsDivided dim row new → new ≡ row
divided_twice dim row new p d =
    let one : d.divisor ≡ 1 = eq-one_of_dvd-one (p.gcd.greatest d.divisor (subst (λ (xs : List ℤ). All (λ x. d.divisor ∣ unsigned_abs x) xs) p.counts d.gcd.divides)) in
    same_form new row
    (d.coef ∙ ap (λ g. map (λ x. int_div_euclid x (pos g)) (counted dim row.coef)) one ∙ all_by_one (counted dim row.coef) ∙ p.counts)
    (d.constant ∙ ap (λ g. int_div_euclid row.constant (pos g)) one ∙ by_one row.constant)

primitive_not_constant : (dim : ℕ) (row : Form) → IsPrimitive dim row → IsConstant dim row → ⊥
primitive_not_constant dim row p = not_constant dim row row (divided_itself dim row p)

-- ---- false rows

counted_none : (n : ℕ) (xs : List ℤ) → AllByRecursion (λ x. x ≡ pos 0) xs → AllByRecursion (λ x. x ≡ pos 0) (counted n xs)
counted_none n [] h = tt
counted_none zero (x ∷ xs) h = (refl, counted_none zero xs h.1)
counted_none (suc n) (x ∷ xs) h = (h.0, counted_none n xs h.1)

never_impossible : (dim : ℕ) → IsNever dim impossible
never_impossible dim = record {
  no_coefficients = All-from_recursion (λ x. x ≡ pos 0) (counted dim impossible.coef) (counted_none dim impossible.coef (refl, (refl, (refl, (refl, tt)))));
  negative = omega (arith, ints);
}

-- ---- what rows show

-- once it is divided, the row has coefficients that pass the test
abbrev pub Shows : ℕ → (List ℤ → Bool) → Form → Type 0
Shows dim test row = (divided : Form) × IsDivided dim row divided × IsTrue (test divided.coef)

abbrev pub ShowsFirst : ℕ → (List ℤ → Bool) → (List ℤ → Bool) → List Form → Type 0
ShowsFirst dim one other rows = MeetsFirst (Shows dim one) (Shows dim other) rows

-- whether the coefficients are those of a row
abbrev pub is_coef : Form → List ℤ → Bool
is_coef row coef = pointwise int_eq coef row.coef

is_coef_decides : (row : Form) (coef : List ℤ) → Decides (is_coef row coef) (coef ≡ row.coef)
is_coef_decides row coef = pointwise_decides Decides-int_eq coef row.coef

shows_direction : (dim : ℕ) (a row : Form) → HasDirection dim a.coef row → Shows dim (is_coef a) row
shows_direction dim a row (s, is, e) = (s, is, (is_coef_decides a s.coef).1 e)

direction_shown : (dim : ℕ) (a row : Form) → Shows dim (is_coef a) row → HasDirection dim a.coef row
direction_shown dim a row (s, is, t) = (s, is, (is_coef_decides a s.coef).0 t)

pub met_shown : (dim : ℕ) (rows : List Form) (a b : Form) → IsMetBefore dim rows a b → ShowsFirst dim (is_coef a) (is_coef b) rows
met_shown dim rows a b m =
    met_too (HasDirection dim a.coef) (HasDirection dim b.coef) (Shows dim (is_coef a)) (Shows dim (is_coef b)) (shows_direction dim a) (direction_shown dim b) rows (first_of dim rows a b m)

pub shown_met : (dim : ℕ) (rows : List Form) (a b : Form) → ShowsFirst dim (is_coef a) (is_coef b) rows → IsMetBefore dim rows a b
shown_met dim rows a b m =
    met_of dim rows a b
    (met_too (Shows dim (is_coef a)) (Shows dim (is_coef b)) (HasDirection dim a.coef) (HasDirection dim b.coef) (direction_shown dim a) (shows_direction dim b) rows m)

clash : (b : Bool) → IsTrue b → b ≡ false → ⊥
clash b t n = cc

-- a row that tightens another shows what it shows
tightens_shows : (dim : ℕ) (test : List ℤ → Bool) (row new : Form) → Tightens dim row new → Shows dim test row → IsTrue (test new.coef)
tightens_shows dim test row new a (s, is, t) =
    subst (λ (xs : List ℤ). IsTrue (test xs)) (ap (λ (f : Form). f.coef) (divided_once dim row s a.divided is a.is_divided) ∙ sym a.coef) t

shows_tightened : (dim : ℕ) (test : List ℤ → Bool) (row new : Form) → Tightens dim row new → IsTrue (test new.coef) → Shows dim test row
shows_tightened dim test row new a t = (a.divided, a.is_divided, subst (λ (xs : List ℤ). IsTrue (test xs)) a.coef t)

shows_itself : (dim : ℕ) (test : List ℤ → Bool) (row : Form) → IsPrimitive dim row → IsTrue (test row.coef) → Shows dim test row
shows_itself dim test row p t = (row, divided_itself dim row p, t)

shown_itself : (dim : ℕ) (test : List ℤ → Bool) (row : Form) → IsPrimitive dim row → Shows dim test row → IsTrue (test row.coef)
shown_itself dim test row p (s, is, t) = subst (λ (f : Form). IsTrue (test f.coef)) (divided_twice dim row s p is) t

-- ---- the order of the tightest rows

module _ (dim : ℕ) (rows new : List Form) (s : AreTightest dim rows new) where
  primitive_of : (k : ℕ) (d : Form) → k < length new → IsPrimitive dim (get_or new k d)
  primitive_of k d l = let (i, old, m, f, is) = s.divided k d l in primitive dim old (get_or new k d) is

  abbrev IsCovered : Form → Type 0
  IsCovered row = IsConstant dim row ⊎ Any (Tightens dim row) new

  -- a new row that passes the one test is met before each that passes the other
  module _ (one other : List ℤ → Bool) (a : Form) (passes : IsTrue (one a.coef)) where
    abbrev AreAfter : List Form → Type 0
    AreAfter xs = (k : ℕ) (b : Form) → k < length new → get_or new k b ≡ b → IsTrue (other b.coef) → MeetsFirst (HasDirection dim a.coef) (HasDirection dim b.coef) xs

    rest_after : (x : Form) (xs : List Form) → (HasDirection dim a.coef x → ⊥) → AreAfter (x ∷ xs) → AreAfter xs
    rest_after x xs n f k b l e t = elim ((f k b l e t).1) [ inl p ↦ absurd (n p) | inr r ↦ r ]

    shown_first : (xs : List Form) → AllByRecursion IsCovered xs → Any (HasDirection dim a.coef) xs → AreAfter xs → ShowsFirst dim one other xs
    shown_first [] h (k, x, l, e, p) f = absurd (omega (arith, l))
    shown_first (x ∷ xs) (inl c, h) w f =
        let none : HasDirection dim a.coef x → ⊥ = λ r. not_constant dim x r.0 r.1 c in
        ((λ r. not_constant dim x r.0 r.1 c), inr (shown_first xs h (any_rest (HasDirection dim a.coef) x xs none w) (rest_after x xs none f)))
    shown_first (x ∷ xs) (inr (k, y, l, e, t), h) w f = elim (cases_Bool (other y.coef)) [
      | inl p ↦ absurd ((f k y l e p).0 (t.divided, t.is_divided, sym t.coef))
      | inr n ↦ (let hidden : Shows dim other x → ⊥ = λ r. clash (other y.coef) (tightens_shows dim other x y t r) n in
          elim (cases_Bool (one y.coef)) [
            | inl p ↦ (hidden, inl (shows_tightened dim one x y t p))
            | inr m ↦ (let none : HasDirection dim a.coef x → ⊥ =
                λ r. clash (one y.coef) (tightens_shows dim one x y t (r.0, r.1, subst (λ (xs : List ℤ). IsTrue (one xs)) (sym r.2) passes)) m in
                (hidden, inr (shown_first xs h (any_rest (HasDirection dim a.coef) x xs none w) (rest_after x xs none f))))
          ])
    ]

  tightest_order : (one other : List ℤ → Bool) → ShowsFirst dim one other new → ShowsFirst dim one other rows
  tightest_order one other m =
      let (n, (i, a, l, e, p), none) = in_first (Shows dim one) (Shows dim other) new m in
      let size = length-take n new in
      let within : i < length new = omega (arith, l, size) in
      let early : i < n = omega (arith, l, size) in
      let at : get_or new i a ≡ a = sym (get_or-take n new i a early) ∙ e in
      let (j, old, o, f, is) = s.divided i a within in
      let passes = shown_itself dim one a (subst (IsPrimitive dim) at (primitive_of i a within)) p in
      shown_first one other a passes rows (recursion_from_All IsCovered rows s.least) (j, old, o, f, (get_or new i a, is, ap (λ (r : Form). r.coef) at))
      (λ k b q g t. elim (cases_lt i k) [
        | inl h ↦ (let there : get_or new k a ≡ b = get_or_default new k a b q ∙ g in
            subst (λ (r : Form). MeetsFirst (HasDirection dim r.coef) (HasDirection dim b.coef) rows) at
            (subst (λ (r : Form). MeetsFirst (HasDirection dim (get_or new i a).coef) (HasDirection dim r.coef) rows) there (first_of dim rows (get_or new i a) (get_or new k a) (s.order i k a h q))))
        | inr h ↦ (let soon : k < n = omega (arith, h, early) in
            absurd (none k b (omega (arith, soon, q, size))
            (subst (Shows dim other) (sym (get_or-take n new k b soon ∙ g)) (shows_itself dim other b (subst (IsPrimitive dim) g (primitive_of k b q)) t))))
      ])

-- ---- rows that stand for others

pub record IsTighter (dim : ℕ) (rows new : List Form) : Type 0 where
  pub none_false : All (λ row. IsConstant dim row → pos 0 ≤ℤ row.constant) rows
  pub divided : All (λ row. Any (λ old. IsDivided dim old row) rows) new
  pub least : All (λ row. IsConstant dim row ⊎ Any (Tightens dim row) new) rows
  pub order : (one other : List ℤ → Bool) → ShowsFirst dim one other new → ShowsFirst dim one other rows

-- among others the new rows give the normalised rows that the old ones give
abbrev pub StandFor : ℕ → List Form → List Form → Type 0
StandFor dim rows new = (Any (IsNever dim) rows × Any (IsNever dim) new) ⊎ IsTighter dim rows new

pub stand_for : (dim : ℕ) (rows new : List Form) → AreNormalised dim rows new → StandFor dim rows new
stand_for dim rows new (inl (w, e)) = inl (w, subst (Any (IsNever dim)) (sym e) (0, impossible, omega arith, refl, never_impossible dim))
stand_for dim rows new (inr (ok, s)) = inr (record { none_false = ok; divided = s.divided; least = s.least; order = tightest_order dim rows new s })

primitive_in : (dim : ℕ) (rows new : List Form) (k : ℕ) (row : Form) → IsTighter dim rows new → k < length new → get_or new k row ≡ row → IsPrimitive dim row
primitive_in dim rows new k row t l e =
    let (i, old, m, f, d) = t.divided k row l in
    subst (IsPrimitive dim) e (primitive dim old (get_or new k row) d)

no_never : (dim : ℕ) (rows : List Form) → All (λ row. IsConstant dim row → pos 0 ≤ℤ row.constant) rows → Any (IsNever dim) rows → ⊥
no_never dim rows h (k, row, l, e, n) =
    let c = subst (λ (r : Form). IsConstant dim r → pos 0 ≤ℤ r.constant) e (h k row l) n.no_coefficients in
    let d = n.negative in
    omega (arith, ints, c, d)

module _ (dim : ℕ) (rows new more out : List Form) (t : IsTighter dim rows new) where
  abbrev Divides : Form → Form → Type 0
  Divides row old = IsDivided dim old row

  -- a divided row of new rows is one of the old ones
  from_old : (row : Form) → Any (Divides row) (new ++ more) → Any (Divides row) (rows ++ more)
  from_old row w = elim (any_either (Divides row) new more w) [
    | inl a ↦ (let (k, old, l, e, d) = a in
        let p = primitive_in dim rows new k old t l e in
        let same = divided_twice dim old row p d in
        any_first (Divides row) rows more (subst (λ (r : Form). Any (Divides r) rows) (e ∙ sym same) (t.divided k old l)))
    | inr a ↦ any_second (Divides row) rows more a
  ]

  tightens_old : (row middle last : Form) → Tightens dim row middle → IsPrimitive dim middle → Tightens dim middle last → Tightens dim row last
  tightens_old row middle last a p b =
      let same = divided_twice dim middle b.divided p b.is_divided in
      let c = a.constant in
      let d = b.constant in
      let e = ap (λ (f : Form). f.constant) same in
      record { divided = a.divided; is_divided = a.is_divided; coef = b.coef ∙ ap (λ (f : Form). f.coef) same ∙ a.coef; constant = omega (arith, ints, c, d, e) }

  least_old : All (λ row. IsConstant dim row ⊎ Any (Tightens dim row) out) new → All (λ row. IsConstant dim row ⊎ Any (Tightens dim row) out) rows
  least_old h k d l = go (get_or rows k d) (t.least k d l)
    where
      last : (row middle : Form) → Tightens dim row middle → IsPrimitive dim middle → IsConstant dim middle ⊎ Any (Tightens dim middle) out → IsConstant dim row ⊎ Any (Tightens dim row) out
      last row middle a p (inl c) = absurd (primitive_not_constant dim middle p c)
      last row middle a p (inr (j, x, m, e, b)) = inr (j, x, m, e, tightens_old row middle x a p b)

      go : (row : Form) → IsConstant dim row ⊎ Any (Tightens dim row) new → IsConstant dim row ⊎ Any (Tightens dim row) out
      go row (inl c) = inl c
      go row (inr (j, middle, m, e, a)) =
          last row middle a (primitive_in dim rows new j middle t m e) (subst (λ (r : Form). IsConstant dim r ⊎ Any (Tightens dim r) out) e (h j middle m))

  none_shown : (test : List ℤ → Bool) → All (λ row. Shows dim test row → ⊥) new → All (λ row. Shows dim test row → ⊥) rows
  none_shown test h k d l r = elim (t.least k d l) [
    | inl c ↦ not_constant dim (get_or rows k d) r.0 r.1 c
    | inr (j, y, m, e, a) ↦ h j y m
        (subst (Shows dim test) (sym e) (shows_itself dim test y (primitive_in dim rows new j y t m e) (tightens_shows dim test (get_or rows k d) y a r)))
  ]

  order_old : (a b : Form) → IsMetBefore dim (new ++ more) a b → IsMetBefore dim (rows ++ more) a b
  order_old a b m =
      let P = Shows dim (is_coef a) in
      let Q = Shows dim (is_coef b) in
      shown_met dim (rows ++ more) a b (elim (met_either P Q new more (met_shown dim (new ++ more) a b m)) [
        | inl h ↦ met_in_front P Q rows more (t.order (is_coef a) (is_coef b) h)
        | inr (n, h) ↦ met_behind P Q rows more (none_shown (is_coef b) n) h
      ])

pub normalised_among : (dim : ℕ) (rows new more out : List Form) → StandFor dim rows new → AreNormalised dim (new ++ more) out → AreNormalised dim (rows ++ more) out
normalised_among dim rows new more out (inl (w, v)) (inl (u, e)) = inl (any_first (IsNever dim) rows more w, e)
normalised_among dim rows new more out (inl (w, v)) (inr (ok, s)) = absurd (no_never dim (new ++ more) ok (any_first (IsNever dim) new more v))
normalised_among dim rows new more out (inr t) (inl (u, e)) = elim (any_either (IsNever dim) new more u) [
  | inl a ↦ absurd (let (k, row, l, q, n) = a in primitive_not_constant dim row (primitive_in dim rows new k row t l q) n.no_coefficients)
  | inr a ↦ inl (any_second (IsNever dim) rows more a, e)
]
normalised_among dim rows new more out (inr t) (inr (ok, s)) =
    let P : Form → Type 0 = λ row. IsConstant dim row → pos 0 ≤ℤ row.constant in
    let Q : Form → Type 0 = λ row. IsConstant dim row ⊎ Any (Tightens dim row) out in
    let least = all_parts Q new more s.least in
    inr (
      All-append P rows more t.none_false (all_parts P new more ok).1,
      record {
        divided = All-weaker (λ row. Any (λ old. IsDivided dim old row) (new ++ more)) (λ row. Any (λ old. IsDivided dim old row) (rows ++ more)) (from_old dim rows new more out t) out s.divided;
        least = All-append Q rows more (least_old dim rows new more out t least.0) least.1;
        distinct = s.distinct;
        order = λ i j d l m. order_old dim rows new more out t (get_or out i d) (get_or out j d) (s.order i j d l m);
      },
    )

-- normalising some rows first changes nothing
pub normalised_early : (dim : ℕ) (rows new more out : List Form) → AreNormalised dim rows new → AreNormalised dim (new ++ more) out → AreNormalised dim (rows ++ more) out
normalised_early dim rows new more out a b = normalised_among dim rows new more out (stand_for dim rows new a) b

-- the tightest rows stand in their own order
own_order : (dim : ℕ) (rows new : List Form) → AreTightest dim rows new → AllPairs (IsMetBefore dim new) new
own_order dim rows new s i j d l m =
    let within : i < length new = omega (arith, l, m) in
    let size = length-take (suc i) new in
    let a = get_or new i d in
    record {
      count = suc i;
      met = (
        i,
        a,
        omega (arith, size, within),
        get_or-take (suc i) new i a (omega arith) ∙ get_or_default new i a d within,
        (a, divided_itself dim a (primitive_of dim rows new s i d within), refl),
      );
      not_met = λ k e n r.
          let early : k < suc i = omega (arith, n, size) in
          let here : k < length new = omega (arith, early, within) in
          let at : get_or (take (suc i) new) k e ≡ get_or new k d = get_or-take (suc i) new k e early ∙ get_or_default new k e d here in
          let is = subst (λ (row : Form). IsDivided dim row r.0) at r.1 in
          let same = divided_twice dim (get_or new k d) r.0 (primitive_of dim rows new s k d here) is in
          s.distinct k j d (omega (arith, early, l)) m (ap (λ (f : Form). f.coef) (sym same) ∙ r.2);
    }

own_least : (dim : ℕ) (rows new : List Form) → AreTightest dim rows new → All (λ row. Any (Tightens dim row) new) new
own_least dim rows new s k d l =
    let p = primitive_of dim rows new s k d l in
    (k, get_or new k d, l, get_or_default new k (get_or new k d) d l, record { divided = get_or new k d; is_divided = divided_itself dim (get_or new k d) p; coef = refl; constant = omega (arith, ints) })

own_divided : (dim : ℕ) (rows new : List Form) → AreTightest dim rows new → All (λ row. Any (λ old. IsDivided dim old row) new) new
own_divided dim rows new s k d l =
    (k, get_or new k d, l, get_or_default new k (get_or new k d) d l, divided_itself dim (get_or new k d) (primitive_of dim rows new s k d l))

own_ok : (dim : ℕ) (rows new : List Form) → AreTightest dim rows new → All (λ row. IsConstant dim row → pos 0 ≤ℤ row.constant) new
own_ok dim rows new s k d l c = absurd (primitive_not_constant dim (get_or new k d) (primitive_of dim rows new s k d l) c)

own_never : (dim : ℕ) (new : List Form) → new ≡ impossible ∷ [] → Any (IsNever dim) new
own_never dim new e = subst (Any (IsNever dim)) (sym e) (0, impossible, omega arith, refl, never_impossible dim)

-- normalised rows are their own
pub normalised_again : (dim : ℕ) (rows new : List Form) → AreNormalised dim rows new → AreNormalised dim new new
normalised_again dim rows new (inl (w, e)) = inl (own_never dim new e, e)
normalised_again dim rows new (inr (ok, s)) =
    inr (
      own_ok dim rows new s,
      record {
        divided = own_divided dim rows new s;
        least = λ k d l. inr (own_least dim rows new s k d l);
        distinct = s.distinct;
        order = own_order dim rows new s;
      },
    )

-- ---- normalised rows beside those that stand for what they were made from

module _ (dim : ℕ) (rows new : List Form) (t : IsTighter dim rows new) where
  new_primitive : (k : ℕ) (d : Form) → k < length new → IsPrimitive dim (get_or new k d)
  new_primitive k d l = let (i, old, m, f, is) = t.divided k d l in primitive dim old (get_or new k d) is

  new_shows : (test : List ℤ → Bool) → Any (Shows dim test) rows → Any (Shows dim test) new
  new_shows test (k, old, l, e, r) = elim (subst (λ row. IsConstant dim row ⊎ Any (Tightens dim row) new) e (t.least k old l)) [
    | inl c ↦ absurd (not_constant dim old r.0 r.1 c)
    | inr (j, y, m, f, a) ↦ (j, y, m, f, shows_itself dim test y (primitive_in dim rows new j y t m f) (tightens_shows dim test old y a r))
  ]

  new_unshown : (test : List ℤ → Bool) → All (λ row. Shows dim test row → ⊥) rows → All (λ row. Shows dim test row → ⊥) new
  new_unshown test h k d l r =
      let (i, old, m, f, is) = t.divided k d l in
      h i old m (subst (Shows dim test) (sym f) (get_or new k d, is, shown_itself dim test (get_or new k d) (new_primitive k d l) r))

  module _ (one other : List ℤ → Bool) (apart : (coef : List ℤ) → IsTrue (one coef) → IsTrue (other coef) → ⊥) where
    -- a row that passes the one test or one that passes the other comes first
    one_or_other : (xs : List Form) → AllByRecursion (IsPrimitive dim) xs → Any (Shows dim one) xs → ShowsFirst dim one other xs ⊎ ShowsFirst dim other one xs
    one_or_other [] h (k, x, l, e, p) = absurd (omega (arith, l))
    one_or_other (x ∷ xs) h w = elim (cases_Bool (one x.coef)) [
      | inl p ↦ inl ((λ r. apart x.coef p (shown_itself dim other x h.0 r)), inl (shows_itself dim one x h.0 p))
      | inr n ↦ (let none : Shows dim one x → ⊥ = λ r. clash (one x.coef) (shown_itself dim one x h.0 r) n in
          elim (cases_Bool (other x.coef)) [
            | inl p ↦ inr (none, inl (shows_itself dim other x h.0 p))
            | inr q ↦ elim (one_or_other xs h.1 (any_rest (Shows dim one) x xs none w)) [
              | inl a ↦ inl ((λ r. clash (other x.coef) (shown_itself dim other x h.0 r) q), inr a)
              | inr a ↦ inr (none, inr a)
            ]
          ])
    ]

    order_new : ShowsFirst dim one other rows → ShowsFirst dim one other new
    order_new h = elim (one_or_other new (recursion_from_All (IsPrimitive dim) new new_primitive) (new_shows one (some_met (Shows dim one) (Shows dim other) rows h))) [
      | inl a ↦ a
      | inr a ↦ absurd (asymmetric (Shows dim one) (Shows dim other) rows h (t.order other one a))
    ]

  module _ (more out : List Form) (s : AreTightest dim (rows ++ more) out) where
    new_tightened : (k : ℕ) (d : Form) → k < length new → Any (Tightens dim (get_or new k d)) out
    new_tightened k d l =
        let r = get_or new k d in
        let (i, old, m, f, is) = t.divided k d l in
        let Q : Form → Type 0 = λ row. IsConstant dim row ⊎ Any (Tightens dim row) out in
        elim (subst Q f ((all_parts Q rows more s.least).0 i old m)) [
          | inl c ↦ absurd (not_constant dim old r is c)
          | inr (j, x, n, e, a) ↦ (
            j,
            x,
            n,
            e,
            (let same = divided_once dim old a.divided r a.is_divided is in
                let c = a.constant in
                let q = ap (λ (row : Form). row.constant) same in
                record { divided = r; is_divided = divided_itself dim r (new_primitive k d l); coef = a.coef ∙ ap (λ (row : Form). row.coef) same; constant = omega (arith, ints, c, q) }),
          )
        ]

    order_beside : AllPairs (IsMetBefore dim (new ++ out)) out
    order_beside i j d l m =
        let a = get_or out i d in
        let b = get_or out j d in
        let P = Shows dim (is_coef a) in
        let Q = Shows dim (is_coef b) in
        shown_met dim (new ++ out) a b (elim (met_either P Q rows more (met_shown dim (rows ++ more) a b (s.order i j d l m))) [
          | inl h ↦ met_in_front P Q new out
              (order_new (is_coef a) (is_coef b) (λ coef p q. s.distinct i j d l m (sym ((is_coef_decides a coef).0 p) ∙ (is_coef_decides b coef).0 q)) h)
          | inr (n, h) ↦ met_behind P Q new out (new_unshown (is_coef b) n) (met_shown dim out a b (own_order dim (rows ++ more) out s i j d l m))
        ])

-- rows that stand for some of the old ones, and then the normalised rows themselves, give the normalised rows
pub normalised_beside : (dim : ℕ) (rows new more out : List Form) → StandFor dim rows new → AreNormalised dim (rows ++ more) out → AreNormalised dim (new ++ out) out
normalised_beside dim rows new more out (inl (w, v)) (inl (u, e)) = inl (any_first (IsNever dim) new out v, e)
normalised_beside dim rows new more out (inl (w, v)) (inr (ok, s)) = absurd (no_never dim (rows ++ more) ok (any_first (IsNever dim) rows more w))
normalised_beside dim rows new more out (inr t) (inl (u, e)) = inl (any_second (IsNever dim) new out (own_never dim out e), e)
normalised_beside dim rows new more out (inr t) (inr (ok, s)) =
    let P : Form → Type 0 = λ row. IsConstant dim row → pos 0 ≤ℤ row.constant in
    let Q : Form → Type 0 = λ row. IsConstant dim row ⊎ Any (Tightens dim row) out in
    inr (
      All-append P new out (λ k d l c. absurd (primitive_not_constant dim (get_or new k d) (new_primitive dim rows new t k d l) c)) (own_ok dim (rows ++ more) out s),
      record {
        divided = λ k d l. any_second (λ old. IsDivided dim old (get_or out k d)) new out (own_divided dim (rows ++ more) out s k d l);
        least = All-append Q new out (λ k d l. inr (new_tightened dim rows new t more out s k d l)) (λ k d l. inr (own_least dim (rows ++ more) out s k d l));
        distinct = s.distinct;
        order = order_beside dim rows new t more out s;
      },
    )
