-- A domain is unbounded exactly where its set is: the rows have the same normalised rows, whose forms are filled up with 0.
use Rattle.std.proofs.Common.{◌≡◌, ◌≢◌, ℕ, zero, suc, ◌≤◌, ◌⊎◌, inl, inr, arith, ℤ, pos, negsuc, ◌+ℤ◌, ◌-ℤ◌, ◌*ℤ◌, ◌≤ℤ◌, ◌<ℤ◌, List, [], ◌∷◌, ◌++◌, length, map, take, replicate, refl, sym, ap, ap₂, subst, ◌∙◌, All, Any, AllPairs}
use Rattle.std.proofs.Math.Nat.{zero-div, dvd-zero}
use Rattle.std.specs.Int.{int_div_euclid}
use Rattle.std.specs.Int.RustNames.{unsigned_abs}
use Rattle.std.proofs.lemmas.Int.{ints}
use Rattle.std.proofs.lemmas.List.{length-map}
use Rattle.std.proofs.lemmas.Nat.Gcd.{dvd_antisymm}
use Rattle.std.proofs.lemmas.List.Elements.{All-append, All-replicate}
use Prim.Native.Nat.{◌∣◌}
use Rattle.av_affine.specs.declared.form.Form.{Form}
use Rattle.av_affine.specs.Numbers as affine
use Rattle.av_affine.proofs.Order.{product_nonneg}
use Rattle.av_affine.proofs.Ring.{sum_times}
use Rattle.av_poly.specs.Points.{Set}
use Rattle.av_poly.specs.Normal as poly
use Rattle.av_poly.specs.Normal.{counted}
use Rattle.av_poly.specs.Rational as rational
use Rattle.av_poly.proofs.Dividing.{not_constant}
use Rattle.av_tree.specs.Rows as text
use Rattle.av_tree.specs.Rows.{Row}
use Rattle.av_flat.specs.Sets as flat
use Rattle.av_names.specs.Forms.{filled, form_of_row}
use Rattle.av_names.proofs.Terms.{dot_filled}
use Rattle.av_names.proofs.Names.{first_pairs}
use Rattle.av_names.proofs.Among.{Among, all_at, all_from, any_at, any_from, among_image, among_source}
use Rattle.av_names.proofs.Normal.{normal_exists}
use Rattle.av_base.proofs.Lists.{pairs_rest, all_parts}

-- ---- lists filled up

-- a list of at most four entries, and the zeros behind it
filled_is : (xs : List ℤ) → length xs ≤ 4 → (n : ℕ) × (filled xs ≡ xs ++ replicate n (pos 0))
filled_is [] h = (4, refl)
filled_is (a ∷ []) h = (3, refl)
filled_is (a ∷ b ∷ []) h = (2, refl)
filled_is (a ∷ b ∷ c ∷ []) h = (1, refl)
filled_is (a ∷ b ∷ c ∷ d ∷ []) h = (0, refl)
filled_is (a ∷ b ∷ c ∷ d ∷ e ∷ xs) h = absurd (omega (arith, h))

pub take_filled : (xs : List ℤ) → length xs ≤ 4 → take (length xs) (filled xs) ≡ xs
take_filled [] h = refl
take_filled (a ∷ []) h = refl
take_filled (a ∷ b ∷ []) h = refl
take_filled (a ∷ b ∷ c ∷ []) h = refl
take_filled (a ∷ b ∷ c ∷ d ∷ []) h = refl
take_filled (a ∷ b ∷ c ∷ d ∷ e ∷ xs) h = absurd (omega (arith, h))

same_filled : (xs ys : List ℤ) → length xs ≡ length ys → length ys ≤ 4 → filled xs ≡ filled ys → xs ≡ ys
same_filled xs ys e h p = sym (take_filled xs (omega (arith, e, h))) ∙ ap₂ (λ n zs. take n zs) e p ∙ take_filled ys h

counted_filled : (xs : List ℤ) → length xs ≤ 4 → counted (length xs) (filled xs) ≡ filled xs
counted_filled [] h = refl
counted_filled (a ∷ []) h = refl
counted_filled (a ∷ b ∷ []) h = refl
counted_filled (a ∷ b ∷ c ∷ []) h = refl
counted_filled (a ∷ b ∷ c ∷ d ∷ []) h = refl
counted_filled (a ∷ b ∷ c ∷ d ∷ e ∷ xs) h = absurd (omega (arith, h))

pub all_filled : (P : ℤ → Type 0) (xs : List ℤ) → length xs ≤ 4 → P (pos 0) → All P xs → All P (filled xs)
all_filled P xs h z p = let r = filled_is xs h in subst (All P) (sym r.1) (All-append P xs (replicate r.0 (pos 0)) p (All-replicate P r.0 (pos 0) z))

all_unfilled : (P : ℤ → Type 0) (xs : List ℤ) → length xs ≤ 4 → All P (filled xs) → All P xs
all_unfilled P xs h p = let r = filled_is xs h in (all_parts P xs (replicate r.0 (pos 0)) (subst (All P) r.1 p)).0

-- ---- divided rows

abbrev quotients : ℕ → List ℤ → List ℤ
quotients g xs = map (λ x. int_div_euclid x (pos g)) xs

nothing : (g : ℕ) → int_div_euclid (pos 0) (pos g) ≡ pos 0
nothing g = ap pos (zero-div g)

quotients_filled : (g : ℕ) (xs : List ℤ) → length xs ≤ 4 → quotients g (filled xs) ≡ filled (quotients g xs)
quotients_filled g [] h = rw (nothing g) refl
quotients_filled g (a ∷ []) h = rw (nothing g) refl
quotients_filled g (a ∷ b ∷ []) h = rw (nothing g) refl
quotients_filled g (a ∷ b ∷ c ∷ []) h = rw (nothing g) refl
quotients_filled g (a ∷ b ∷ c ∷ d ∷ []) h = refl
quotients_filled g (a ∷ b ∷ c ∷ d ∷ e ∷ xs) h = absurd (omega (arith, h))

abbrev Divides : ℕ → ℤ → Type 0
Divides d x = d ∣ unsigned_abs x

gcd_filled : (xs : List ℤ) (g : ℕ) → length xs ≤ 4 → text.IsGcdOf xs g → affine.IsGcdOf (filled xs) g
gcd_filled xs g h p = record {
  divides = all_filled (Divides g) xs h (dvd-zero g) p.divides;
  greatest = λ d q. p.greatest d (all_unfilled (Divides d) xs h q);
}

gcd_unfilled : (xs : List ℤ) (g : ℕ) → length xs ≤ 4 → affine.IsGcdOf (filled xs) g → text.IsGcdOf xs g
gcd_unfilled xs g h p = record {
  divides = all_unfilled (Divides g) xs h p.divides;
  greatest = λ d q. p.greatest d (all_filled (Divides d) xs h (dvd-zero d) q);
}

same_gcd : (xs : List ℤ) (g h : ℕ) → affine.IsGcdOf xs g → affine.IsGcdOf xs h → g ≡ h
same_gcd xs g h p q = dvd_antisymm (q.greatest g p.divides) (p.greatest h q.divides)

-- there is one divided row
same_divided : (dim : ℕ) (row a b : Form) → poly.IsDivided dim row a → poly.IsDivided dim row b → (a.coef ≡ b.coef) × (a.constant ≡ b.constant)
same_divided dim row a b p q =
    let e = same_gcd (counted dim row.coef) p.divisor q.divisor p.gcd q.gcd in (
      p.coef ∙ ap (λ g. quotients g (counted dim row.coef)) e ∙ sym q.coef,
      p.constant ∙ ap (λ g. int_div_euclid row.constant (pos g)) e ∙ sym q.constant,
    )

-- a row with so many coefficients
abbrev pub Sized : ℕ → Row → Type 0
Sized dim row = length row.coefficients ≡ dim

divided_form : (dim : ℕ) (old row : Row) → dim ≤ 4 → Sized dim old → text.IsDivided old row → poly.IsDivided dim (form_of_row old) (form_of_row row)
divided_form dim old row h s p =
    let few : length old.coefficients ≤ 4 = omega (arith, s, h) in
    let all : counted dim (filled old.coefficients) ≡ filled old.coefficients = ap (λ n. counted n (filled old.coefficients)) (sym s) ∙ counted_filled old.coefficients few in
    record {
      divisor = p.divisor;
      positive = p.positive;
      gcd = subst (λ xs. affine.IsGcdOf xs p.divisor) (sym all) (gcd_filled old.coefficients p.divisor few p.gcd);
      coef = ap filled p.coefficients ∙ sym (quotients_filled p.divisor old.coefficients few) ∙ ap (quotients p.divisor) (sym all);
      constant = p.constant;
    }

-- the row of a divided form
row_of : (dim : ℕ) (old : Row) (f : Form) → dim ≤ 4 → Sized dim old → poly.IsDivided dim (form_of_row old) f
    → (row : Row) × text.IsDivided old row × (filled row.coefficients ≡ f.coef) × (row.constant ≡ f.constant) × Sized dim row
row_of dim old f h s p =
    let few : length old.coefficients ≤ 4 = omega (arith, s, h) in
    let all : counted dim (filled old.coefficients) ≡ filled old.coefficients = ap (λ n. counted n (filled old.coefficients)) (sym s) ∙ counted_filled old.coefficients few in (
      record { coefficients = quotients p.divisor old.coefficients; constant = f.constant },
      record {
        divisor = p.divisor;
        positive = p.positive;
        gcd = gcd_unfilled old.coefficients p.divisor few (subst (λ xs. affine.IsGcdOf xs p.divisor) all p.gcd);
        coefficients = refl;
        constant = p.constant;
      },
      sym (quotients_filled p.divisor old.coefficients few) ∙ ap (quotients p.divisor) (sym all) ∙ sym p.coef,
      refl,
      length-map old.coefficients (λ x. int_div_euclid x (pos p.divisor)) ∙ s,
    )

constant_form : (dim : ℕ) (row : Row) → dim ≤ 4 → Sized dim row → All (λ x. x ≡ pos 0) row.coefficients → poly.IsConstant dim (form_of_row row)
constant_form dim row h s p =
    let few : length row.coefficients ≤ 4 = omega (arith, s, h) in
    subst (All (λ x. x ≡ pos 0)) (sym (ap (λ n. counted n (filled row.coefficients)) (sym s) ∙ counted_filled row.coefficients few)) (all_filled (λ x. x ≡ pos 0) row.coefficients few refl p)

constant_row : (dim : ℕ) (row : Row) → dim ≤ 4 → Sized dim row → poly.IsConstant dim (form_of_row row) → All (λ x. x ≡ pos 0) row.coefficients
constant_row dim row h s p =
    let few : length row.coefficients ≤ 4 = omega (arith, s, h) in
    all_unfilled (λ x. x ≡ pos 0) row.coefficients few (subst (All (λ x. x ≡ pos 0)) (ap (λ n. counted n (filled row.coefficients)) (sym s) ∙ counted_filled row.coefficients few) p)

-- ---- products

same_dot : (xs ys : List ℤ) → text.dot xs ys ≡ affine.dot xs ys
same_dot [] ys = refl
same_dot (x ∷ xs) [] = refl
same_dot (x ∷ xs) (y ∷ ys) = ap (λ d. x *ℤ y +ℤ d) (same_dot xs ys)

zero_dot : (n : ℕ) (ys : List ℤ) → text.dot (replicate n (pos 0)) ys ≡ pos 0
zero_dot zero ys = refl
zero_dot (suc n) [] = refl
zero_dot (suc n) (y ∷ ys) = let e = zero_dot n ys in omega (arith, ints, e)

-- ---- rational points and rays

module _ (dim : ℕ) (h : dim ≤ 4) (rows : List Row) (sized : All (Sized dim) rows) where
  abbrev forms : List Form
  forms = map form_of_row rows

  never_form : Any text.IsNever rows → Any (poly.IsNever dim) forms
  never_form p =
      let r = any_at text.IsNever rows p in
      any_from (poly.IsNever dim) forms (form_of_row r.0) (among_image form_of_row rows r.0 r.1)
      (record { no_coefficients = constant_form dim r.0 h (all_at (Sized dim) rows r.0 sized r.1) r.2.no_coefficients; negative = r.2.negative })

  never_row : Any (poly.IsNever dim) forms → Any text.IsNever rows
  never_row p =
      let r = any_at (poly.IsNever dim) forms p in
      let s = among_source form_of_row rows r.0 r.1 in
      let n : poly.IsNever dim (form_of_row s.0) = subst (poly.IsNever dim) (sym s.2) r.2 in
      any_from text.IsNever rows s.0 s.1
      (record { no_coefficients = constant_row dim s.0 h (all_at (Sized dim) rows s.0 sized s.1) n.no_coefficients; negative = n.negative })

  abbrev Possible : Form → Type 0
  Possible row = poly.IsConstant dim row → pos 0 ≤ℤ row.constant

  possible : All Possible forms → Any (poly.IsNever dim) forms → ⊥
  possible all p =
      let r = any_at (poly.IsNever dim) forms p in
      let c = all_at Possible forms r.0 all r.1 r.2.no_coefficients in
      let n = r.2.negative in
      omega (arith, ints, c, n)

  -- a row is tightened by one of the tightest forms
  tightened : (new : List Form) (old row : Row) → poly.AreTightest dim forms new → Among old rows → text.IsDivided old row
      → (f : Form) × Among f new × (f.coef ≡ filled row.coefficients) × (f.constant ≤ℤ row.constant)
  tightened new old row t m p =
      let s = all_at (Sized dim) rows old sized m in
      let is = divided_form dim old row h s p in
      elim (all_at (λ r. poly.IsConstant dim r ⊎ Any (poly.Tightens dim r) new) forms (form_of_row old) t.least (among_image form_of_row rows old m)) [
        | inl c ↦ absurd (not_constant dim (form_of_row old) (form_of_row row) is c)
        | inr a ↦ (
            let r = any_at (poly.Tightens dim (form_of_row old)) new a in
            let u = r.2 in
            let e = same_divided dim (form_of_row old) u.divided (form_of_row row) u.is_divided is in
            let c = e.1 in
            let k = u.constant in
            (r.0, r.1, u.coef ∙ e.0, omega (arith, ints, c, k)))
      ]

  -- two of them with the same coefficients are one
  same_coef : (new : List Form) (a b : Form) → AllPairs (λ c d. c.coef ≢ d.coef) new → Among a new → Among b new → a.coef ≡ b.coef → a ≡ b
  same_coef [] a b d m n e = absurd m
  same_coef (f ∷ new) a b d (inl p) (inl q) e = sym p ∙ q
  same_coef (f ∷ new) a b d (inl p) (inr n) e = absurd (all_at (λ c. f.coef ≢ c.coef) new b (first_pairs (λ c d. c.coef ≢ d.coef) f new d) n (ap (λ c. c.coef) p ∙ e))
  same_coef (f ∷ new) a b d (inr m) (inl q) e = absurd (all_at (λ c. f.coef ≢ c.coef) new a (first_pairs (λ c d. c.coef ≢ d.coef) f new d) m (ap (λ c. c.coef) q ∙ sym e))
  same_coef (f ∷ new) a b d (inr m) (inr n) e = same_coef new a b (pairs_rest (λ c d. c.coef ≢ d.coef) f new d) m n e

  -- each of the tightest forms is that of a normalised row
  normal_row : (new : List Form) (f : Form) → All Possible forms → poly.AreTightest dim forms new → Among f new
      → (row : Row) × text.IsNormalised dim rows row × (filled row.coefficients ≡ f.coef) × (row.constant ≡ f.constant) × Sized dim row
  normal_row new f all t m =
      let a = any_at (λ old. poly.IsDivided dim old f) forms (all_at (λ g. Any (λ old. poly.IsDivided dim old g) forms) new f t.divided m) in
      let s = among_source form_of_row rows a.0 a.1 in
      let r = row_of dim s.0 f h (all_at (Sized dim) rows s.0 sized s.1) (subst (λ o. poly.IsDivided dim o f) (sym s.2) a.2) in (
        r.0,
        inr (
          (λ n. possible all (never_form n)),
          record {
            divided = any_from (λ old. text.IsDivided old r.0) rows s.0 s.1 r.1;
            least = all_from (λ old. (other : Row) → text.IsDivided old other → other.coefficients ≡ r.0.coefficients → r.0.constant ≤ℤ other.constant) rows (λ old n other q e.
                let u = tightened new old other t n q in
                let g = same_coef new u.0 f t.distinct u.1 m (u.2 ∙ ap filled e ∙ r.2) in
                let c = ap (λ (b : Form). b.constant) g in
                let k = u.3 in
                let l = r.3 in
                omega (arith, ints, c, k, l));
          },
        ),
        r.2,
        r.3,
        r.4,
      )

  at_impossible : (m : ℤ) (y : List ℤ) → pos 0 <ℤ m → pos 0 ≤ℤ (text.dot (replicate dim (pos 0)) y +ℤ negsuc 0 *ℤ m) → ⊥
  at_impossible m y p q = let e = zero_dot dim y in omega (arith, ints, e, p, q)

  divided_size : (old row : Row) → Among old rows → text.IsDivided old row → Sized dim row
  divided_size old row m p = ap length p.coefficients ∙ length-map old.coefficients (λ x. int_div_euclid x (pos p.divisor)) ∙ all_at (Sized dim) rows old sized m

  few_of : (row : Row) → Sized dim row → length row.coefficients ≤ 4
  few_of row s = omega (arith, s, h)

  -- the value of a form at a point is that of its row
  form_value : (row : Row) (f : Form) (y : List ℤ) → Sized dim row → filled row.coefficients ≡ f.coef → affine.dot f.coef y ≡ text.dot row.coefficients y
  form_value row f y s e = ap (λ xs. affine.dot xs y) (sym e) ∙ dot_filled row.coefficients y (few_of row s) ∙ sym (same_dot row.coefficients y)

  satisfied : (new : List Form) (m : ℤ) (y : List ℤ) → ((f : Form) → Among f new → pos 0 ≤ℤ (f.constant *ℤ m +ℤ affine.dot f.coef y)) → rational.Satisfies (rational.homogeneous new) (m ∷ y)
  satisfied [] m y p = tt
  satisfied (f ∷ new) m y p = (p f (inl refl), satisfied new m y (λ g n. p g (inr n)))

  at_form : (new : List Form) (m : ℤ) (y : List ℤ) (f : Form) → rational.Satisfies (rational.homogeneous new) (m ∷ y) → Among f new → pos 0 ≤ℤ (f.constant *ℤ m +ℤ affine.dot f.coef y)
  at_form [] m y f p n = absurd n
  at_form (g ∷ new) m y f p (inl e) = subst (λ (k : Form). pos 0 ≤ℤ (k.constant *ℤ m +ℤ affine.dot k.coef y)) e p.0
  at_form (g ∷ new) m y f p (inr n) = at_form new m y f p.1 n

  abbrev set : Set
  set = record { dim = dim; rows = forms }

  pub unbounded_set : text.IsUnbounded dim rows → flat.IsUnbounded set
  unbounded_set u = let r = normal_exists dim forms in go r.0 r.1
    where
      go : (new : List Form) → poly.AreNormalised dim forms new → flat.IsUnbounded set
      go new (inl (n, e)) = absurd (at_impossible u.divisor u.point u.is_point.positive (u.is_point.holds (text.impossible dim) (inl (never_row n, refl))))
      go new (inr (all, t)) = record {
        rows = new;
        normalised = inr (all, t);
        point = (
          u.divisor,
          u.point,
          record {
            size = u.is_point.size;
            positive = u.is_point.positive;
            satisfies = satisfied new u.divisor u.point (λ f n.
                let r = normal_row new f all t n in
                let e = form_value r.0 f u.point r.4 r.2 in
                let c = ap (λ k. k *ℤ u.divisor) r.3 in
                let p = u.is_point.holds r.0 r.1 in
                omega (arith, ints, e, c, p));
          },
        );
        ray = u.ray;
        is_ray = (
          record {
            size = u.is_ray.size;
            satisfies = satisfied new (pos 0) u.ray (λ f n.
                let r = normal_row new f all t n in
                let e = form_value r.0 f u.ray r.4 r.2 in
                let p = u.is_ray.holds r.0 r.1 in
                omega (arith, ints, e, p));
          },
          u.is_ray.moves,
        );
      }

  pub unbounded_domain : flat.IsUnbounded set → text.IsUnbounded dim rows
  unbounded_domain u = go u.normalised
    where
      m : ℤ
      m = u.point.0

      y : List ℤ
      y = u.point.1

      at_zeros : (ys : List ℤ) → affine.dot (pos 0 ∷ pos 0 ∷ pos 0 ∷ pos 0 ∷ []) ys ≡ pos 0
      at_zeros ys = dot_filled [] ys (omega arith)

      scaled : (a b k : ℤ) → pos 0 <ℤ k → a ≤ℤ b → (a *ℤ k) ≤ℤ (b *ℤ k)
      scaled a b k p q = let n = product_nonneg (b -ℤ a) k (omega (arith, ints, q)) (omega (arith, ints, p)) in let e = sum_times k (b -ℤ a) a in
          let f : (b -ℤ a) +ℤ a ≡ b = omega (arith, ints) in let g = ap (λ c. c *ℤ k) f in omega (arith, ints, n, e, g)

      go : poly.AreNormalised dim forms u.rows → text.IsUnbounded dim rows
      go (inl (n, e)) = absurd (
          let p = at_form u.rows m y poly.impossible u.point.2.satisfies (subst (λ rs. Among poly.impossible rs) (sym e) (inl refl)) in
          let q = u.point.2.positive in
          let z = at_zeros y in
          omega (arith, ints, p, q, z))
      go (inr (all, t)) = record {
        divisor = m;
        point = y;
        is_point = record {
          size = u.point.2.size;
          positive = u.point.2.positive;
          holds = λ row n. elim n [
            | inl w ↦ absurd (possible all (never_form w.0))
            | inr w ↦ (
                let a = any_at (λ old. text.IsDivided old row) rows w.1.divided in
                let r = tightened u.rows a.0 row t a.1 a.2 in
                let p = at_form u.rows m y r.0 u.point.2.satisfies r.1 in
                let s = scaled r.0.constant row.constant m u.point.2.positive r.3 in
                let e = form_value row r.0 y (divided_size a.0 row a.1 a.2) (sym r.2) in
                omega (arith, ints, p, s, e))
          ];
        };
        ray = u.ray;
        is_ray = record {
          size = u.is_ray.0.size;
          moves = u.is_ray.1;
          holds = λ row n. elim n [
            | inl w ↦ absurd (possible all (never_form w.0))
            | inr w ↦ (
                let a = any_at (λ old. text.IsDivided old row) rows w.1.divided in
                let r = tightened u.rows a.0 row t a.1 a.2 in
                let p = at_form u.rows (pos 0) u.ray r.0 u.is_ray.0.satisfies r.1 in
                let e = form_value row r.0 u.ray (divided_size a.0 row a.1 a.2) (sym r.2) in
                omega (arith, ints, p, e))
          ];
        };
      }
