-- Rows have one list of normalised rows.
use Rattle.std.proofs.Common.{◌≡◌, ℕ, zero, suc, ◌<◌, ◌≤◌, ◌⊎◌, ⊎_elim, inl, inr, arith, pos, ◌≤ℤ◌, List, [], ◌∷◌, length, get_or, take, refl, sym, ◌∙◌, ap, ap₂, subst}
use Rattle.std.specs.List.{All, Any, AllPairs, AllByRecursion}
use Rattle.std.proofs.lemmas.Bool.{cases_lt}
use Rattle.std.proofs.lemmas.Int.{ints}
use Rattle.std.proofs.lemmas.List.{get_or_default}
use Rattle.av_affine.specs.declared.form.Form.{Form}
use Rattle.av_poly.specs.Normal.{IsConstant, IsNever, IsDivided, HasDirection, IsMetBefore, AreTightest, AreNormalised}
use Rattle.av_poly.proofs.Dividing.{divided_once, not_constant}
use Rattle.av_poly.proofs.Tightening.{same_form}

-- ---- lists with the same elements in one order

abbrev In : Form → List Form → Type 0
In x [] = ⊥
In x (y ∷ ys) = (x ≡ y) ⊎ In x ys

abbrev AreIn : List Form → List Form → Type 0
AreIn xs ys = AllByRecursion (λ x. In x ys) xs

-- each element comes before all that follow it
abbrev IsOrdered : (Form → Form → Type 0) → List Form → Type 0
IsOrdered R [] = Unit {0}
IsOrdered R (x ∷ xs) = AllByRecursion (R x) xs × IsOrdered R xs

of_element : (P : Form → Type 0) (x : Form) (ys : List Form) → In x ys → AllByRecursion P ys → P x
of_element P x [] i h = absurd i
of_element P x (y ∷ ys) (inl e) h = subst P (sym e) h.0
of_element P x (y ∷ ys) (inr i) h = of_element P x ys i h.1

ordered : (R : Form → Form → Type 0) (xs : List Form) → AllPairs R xs → IsOrdered R xs
ordered R [] h = tt
ordered R (x ∷ xs) h = (go xs (λ k d l. h 0 (suc k) d (omega arith) (omega (arith, l))), ordered R xs (λ i j d l m. h (suc i) (suc j) d (omega (arith, l)) (omega (arith, m))))
  where
    go : (zs : List Form) → ((k : ℕ) (d : Form) → k < length zs → R x (get_or zs k d)) → AllByRecursion (R x) zs
    go [] f = tt
    go (z ∷ zs) f = (f 0 z (omega arith), go zs (λ k d l. f (suc k) d (omega (arith, l))))

module _ (R : Form → Form → Type 0) (strict : (a b : Form) → R a b → R b a → ⊥) where
  same_head : (x y : Form) (xs ys : List Form) → IsOrdered R (x ∷ xs) → IsOrdered R (y ∷ ys) → In x (y ∷ ys) → In y (x ∷ xs) → x ≡ y
  same_head x y xs ys h k (inl e) j = e
  same_head x y xs ys h k (inr i) (inl e) = sym e
  same_head x y xs ys h k (inr i) (inr j) = absurd (strict x y (of_element (R x) y xs j h.0) (of_element (R y) x ys i k.0))

  -- what stands behind the head stands behind the head of the other list
  behind : (x y : Form) (zs ys : List Form) → x ≡ y → AllByRecursion (R x) zs → AreIn zs (y ∷ ys) → AreIn zs ys
  behind x y [] ys e h i = tt
  behind x y (z ∷ zs) ys e h i =
      (⊎_elim (λ q. absurd (let s : z ≡ x = q ∙ sym e in let r = subst (R x) s h.0 in strict x x r r)) (λ j. j) i.0, behind x y zs ys e h.1 i.1)

  same_list : (xs ys : List Form) → IsOrdered R xs → IsOrdered R ys → AreIn xs ys → AreIn ys xs → xs ≡ ys
  same_list [] [] h k i j = refl
  same_list [] (y ∷ ys) h k i j = absurd j.0
  same_list (x ∷ xs) [] h k i j = absurd i.0
  same_list (x ∷ xs) (y ∷ ys) h k i j =
      let e = same_head x y xs ys h k i.0 j.0 in
      ap₂ (λ z zs. z ∷ zs) e (same_list xs ys h.1 k.1 (behind x y xs ys e h.0 i.1) (behind y x ys xs (sym e) k.0 j.1))

-- ---- the order in which coefficients are met

longer : (P : Form → Type 0) (rows : List Form) (c d : ℕ) → c ≤ d → Any P (take c rows) → Any P (take d rows)
longer P [] zero zero l w = w
longer P [] zero (suc d) l (k, x, m, e, p) = absurd (omega (arith, m))
longer P [] (suc c) d l (k, x, m, e, p) = absurd (omega (arith, m))
longer P (r ∷ rows) zero d l (k, x, m, e, p) = absurd (omega (arith, m))
longer P (r ∷ rows) (suc c) zero l w = absurd (omega (arith, l))
longer P (r ∷ rows) (suc c) (suc d) l (zero, x, m, e, p) = (0, x, omega arith, e, p)
longer P (r ∷ rows) (suc c) (suc d) l (suc k, x, m, e, p) =
    let w = longer P rows c d (omega (arith, l)) (k, x, (omega (arith, m)), e, p) in (suc w.0, w.1, (let n = w.2 in omega (arith, n)), w.3, w.4)

none_of : (P : Form → Type 0) (xs : List Form) → Any P xs → All (λ x. P x → ⊥) xs → ⊥
none_of P xs (k, x, l, e, p) h = subst (λ (y : Form). P y → ⊥) e (h k x l) p

pub not_both_before : (dim : ℕ) (rows : List Form) (a b : Form) → IsMetBefore dim rows a b → IsMetBefore dim rows b a → ⊥
not_both_before dim rows a b m n = ⊎_elim
    (λ l. none_of (HasDirection dim a.coef) (take n.count rows) (longer (HasDirection dim a.coef) rows m.count n.count (omega (arith, l)) m.met) n.not_met)
    (λ l. none_of (HasDirection dim b.coef) (take m.count rows) (longer (HasDirection dim b.coef) rows n.count m.count (omega (arith, l)) n.met) m.not_met)
    (cases_lt m.count n.count)

-- ---- each row of the one is a row of the other

record IsMatch (x : Form) (b : List Form) : Type 0 where
  pub place : ℕ
  pub within : place < length b
  pub coef : (get_or b place x).coef ≡ x.coef
  pub constant : (get_or b place x).constant ≤ℤ x.constant

module _ (dim : ℕ) (rows : List Form) where
  matched : (a b : List Form) → AreTightest dim rows a → AreTightest dim rows b → (k : ℕ) (d : Form) → k < length a → IsMatch (get_or a k d) b
  matched a b s t k d l = go (get_or a k d) (s.divided k d l)
    where
      go : (x : Form) → Any (λ old. IsDivided dim old x) rows → IsMatch x b
      go x (j, old, m, e, div) = ⊎_elim
          (λ c. absurd (not_constant dim old x div (subst (λ (r : Form). IsConstant dim r) e c)))
          (λ (i, y, n, f, tight).
          let same : tight.divided ≡ x = divided_once dim old tight.divided x (subst (λ (r : Form). IsDivided dim r tight.divided) e tight.is_divided) div in
          let at : get_or b i x ≡ y = get_or_default b i x y n ∙ f in
          let up = tight.constant in
          let value = ap (λ (r : Form). r.constant) same in
          let here = ap (λ (r : Form). r.constant) at in
          record { place = i; within = n; coef = ap (λ (r : Form). r.coef) at ∙ tight.coef ∙ ap (λ (r : Form). r.coef) same; constant = omega (arith, ints, up, value, here) })
          (t.least j old m)

  found : (a b : List Form) → AreTightest dim rows a → AreTightest dim rows b → (k : ℕ) (d : Form) → k < length a → In (get_or a k d) b
  found a b s t k d l =
      let x = get_or a k d in
      let m = matched a b s t k d l in
      let y = get_or b m.place x in
      let back = matched b a t s m.place x m.within in
      let again = get_or a back.place y in
      let coefs : again.coef ≡ x.coef = back.coef ∙ m.coef in
      let place : back.place ≡ k = ⊎_elim
      (λ h. absurd (s.distinct back.place k y h l (coefs ∙ ap (λ (r : Form). r.coef) (get_or_default a k d y l))))
      (λ h. ⊎_elim
      (λ n. absurd (s.distinct k back.place y n back.within (sym (coefs ∙ ap (λ (r : Form). r.coef) (get_or_default a k d y l)))))
      (λ n. omega (arith, h, n))
      (cases_lt k back.place))
      (cases_lt back.place k) in
      let same : again ≡ x = ap (λ (i : ℕ). get_or a i y) place ∙ get_or_default a k y d l in
      let up = m.constant in
      let down = back.constant in
      let value = ap (λ (r : Form). r.constant) same in
      let e : x ≡ y = same_form x y (sym m.coef) (omega (arith, ints, up, down, value)) in
      in_at b m.place x y m.within refl e
    where
      in_at : (ys : List Form) (i : ℕ) (x y : Form) → i < length ys → get_or ys i x ≡ y → x ≡ y → In x ys
      in_at [] i x y l e f = absurd (omega (arith, l))
      in_at (z ∷ ys) zero x y l e f = inl (f ∙ sym e)
      in_at (z ∷ ys) (suc i) x y l e f = inr (in_at ys i x y (omega (arith, l)) e f)

  all_found : (a b : List Form) → AreTightest dim rows a → AreTightest dim rows b → AreIn a b
  all_found a b s t = go a (λ k d l. found a b s t k d l)
    where
      go : (xs : List Form) → ((k : ℕ) (d : Form) → k < length xs → In (get_or xs k d) b) → AreIn xs b
      go [] f = tt
      go (x ∷ xs) f = (f 0 x (omega arith), go xs (λ k d l. f (suc k) d (omega (arith, l))))

not_both : (dim : ℕ) (rows : List Form) → Any (IsNever dim) rows → All (λ row. IsConstant dim row → pos 0 ≤ℤ row.constant) rows → ⊥
not_both dim rows (j, x, l, e, n) h =
    let P : Form → Type 0 = λ (r : Form). IsConstant dim r → pos 0 ≤ℤ r.constant in
    let k = subst P e (h j x l) n.no_coefficients in
    let m = n.negative in
    omega (arith, ints, k, m)

pub normalised_once : (dim : ℕ) (rows a b : List Form) → AreNormalised dim rows a → AreNormalised dim rows b → a ≡ b
normalised_once dim rows a b (inl h) (inl k) = h.1 ∙ sym k.1
normalised_once dim rows a b (inl h) (inr k) = absurd (not_both dim rows h.0 k.0)
normalised_once dim rows a b (inr h) (inl k) = absurd (not_both dim rows k.0 h.0)
normalised_once dim rows a b (inr h) (inr k) =
    same_list (IsMetBefore dim rows) (not_both_before dim rows) a b
    (ordered (IsMetBefore dim rows) a h.1.order)
    (ordered (IsMetBefore dim rows) b k.1.order)
    (all_found dim rows a b h.1 k.1)
    (all_found dim rows b a k.1 h.1)
