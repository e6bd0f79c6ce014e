-- Verdicts of trees from those of their parts.
use Rattle.std.proofs.Common.{◌≡◌, ℕ, zero, suc, ◌+◌, ◌*◌, ◌<◌, Bool, true, false, true≢false, IsTrue, List, [], ◌∷◌, ◌++◌, length, map, take, get_or, Option, Some, None, refl, sym, ap, ap₂, subst, ◌∙◌, ◌↔◌, arith, zero-mul, mul-zero}
use Rattle.std.specs.Prelude.{nat_eq, if◌then◌else◌}
use Rattle.std.proofs.lemmas.List.{take_more, map-append}
use Rattle.av_poly.specs.Points.{Set, Has}
use Rattle.av_tree.specs.Points.{Point}
use Rattle.av_flat.specs.Trees.{Tree, restriction, trees_of}
use Rattle.av_flat.specs.Points.{has}
use Rattle.av_flat.specs.Signatures.{Signature, is_declared_at}
use Rattle.av_flat.specs.Counts.{count, count_all}
use Rattle.av_flat.proofs.Sets.{has_is, equal, is_equal}
use Rattle.av_check.specs.declared.verdict.Verdict.{Verdict}
use Rattle.av_check.specs.declared.verdict.Verdict.TheVariants as verdict
use Rattle.av_check.specs.Blame.{Blamed, where_none, or_else, blamed, blamed_of_all}
use Rattle.av_check.specs.inner.Verdicts.{IsOf, IsVerdict, IsVerdictOfAll, IsReading}
use Rattle.av_flat.proofs.Parts.{in_order}

-- ---- numbers

product_not_zero : (m n : ℕ) → (m ≡ 0 → ⊥) → (n ≡ 0 → ⊥) → m * n ≡ 0 → ⊥
product_not_zero zero n h k e = h refl
product_not_zero (suc m) zero h k e = k refl
product_not_zero (suc m) (suc n) h k e = omega (arith, e)

not_zero : (n : ℕ) → (n ≡ 0 → ⊥) → nat_eq n 0 ≡ false
not_zero n h = go (nat_eq n 0) refl
  where
    go : (t : Bool) → nat_eq n 0 ≡ t → nat_eq n 0 ≡ false
    go true e = absurd (h (equal n 0 e))
    go false e = e

where_some : (n : ℕ) (a b : Option Blamed) → (n ≡ 0 → ⊥) → where_none n a b ≡ b
where_some n a b h = ap (λ t. if t then a else b) (not_zero n h)

where_zero : (n : ℕ) (a b : Option Blamed) → n ≡ 0 → where_none n a b ≡ a
where_zero n a b e = ap (λ t. if t then a else b) (is_equal n 0 e)

-- ---- parts that are all needed

pub both_counted : (m n : ℕ) (a b : Option Blamed) (v : Verdict) → (m ≡ 0 → ⊥) → IsOf n b v → IsOf (m * n) (where_none m a b) v
both_counted m n a b verdict.Counted h k = product_not_zero m n h k
both_counted m n a b (verdict.Missing own) h k = (ap (λ x. m * x) k.0 ∙ mul-zero m, k.1 ∙ sym (where_some m a b h))

pub both_missing : (m n : ℕ) (a b own : Option Blamed) → m ≡ 0 → own ≡ a → IsOf (m * n) (where_none m a b) (verdict.Missing own)
both_missing m n a b own e p = (ap (λ x. x * n) e ∙ zero-mul n, p ∙ sym (where_zero m a b e))

-- the last part has nobody behind it
pub last_part : (n : ℕ) (b : Option Blamed) (v : Verdict) → IsOf n b v → IsOf n (where_none n b None) v
last_part n b verdict.Counted h = h
last_part n b (verdict.Missing own) h = (h.0, h.1 ∙ sym (where_zero n b None h.0))

same_number : (m n : ℕ) (b : Option Blamed) (v : Verdict) → m ≡ n → IsOf m b v → IsOf n b v
same_number m n b v e h = let P : ℕ → Type 0 = λ k. IsOf k b v in subst P e h

abbrev Both : Verdict → Verdict → Verdict → Type 0
Both v w r = (m n : ℕ) (a b : Option Blamed) → IsOf m a v → IsOf n b w → IsOf (m * n) (where_none m a b) r

pub of_two : (m n : ℕ) (a b : Option Blamed) (v w r : Verdict) → Both v w r → IsOf m a v → IsOf n b w → IsOf (m * n) (where_none m a (where_none n b None)) r
of_two m n a b v w r f h k = f m n a (where_none n b None) h (last_part n b w k)

pub of_four : (l m n o : ℕ) (a b c d : Option Blamed) (s t u v x y r : Verdict) → Both u v x → Both t x y → Both s y r → IsOf l a s → IsOf m b t → IsOf n c u → IsOf o d v
    → IsOf (l * m * n * o) (where_none l a (where_none m b (where_none n c (where_none o d None)))) r
of_four l m n o a b c d s t u v x y r f g h i j k e =
    let first : IsOf (n * o) (where_none n c (where_none o d None)) x = of_two n o c d u v x f k e in
    let second : IsOf (m * (n * o)) (where_none m b (where_none n c (where_none o d None))) y = g m (n * o) b (where_none n c (where_none o d None)) j first in
    same_number (l * (m * (n * o))) (l * m * n * o) (where_none l a (where_none m b (where_none n c (where_none o d None)))) r (in_order l m n o)
    (h l (m * (n * o)) a (where_none m b (where_none n c (where_none o d None))) i second)

-- ---- branches

sum_not_zero : (m n : ℕ) → (m ≡ 0 → ⊥) → m + n ≡ 0 → ⊥
sum_not_zero m n h e = h (omega (arith, e))

pub either_first : (m n : ℕ) (a : Option Blamed) → (m ≡ 0 → ⊥) → IsOf (m + n) a verdict.Counted
either_first m n a h = sum_not_zero m n h

pub either_second : (m n : ℕ) (a : Option Blamed) → (n ≡ 0 → ⊥) → IsOf (m + n) a verdict.Counted
either_second m n a h = λ e. h (omega (arith, e))

pub either_none : (m n : ℕ) (a b own next r : Option Blamed) → m ≡ 0 → own ≡ a → n ≡ 0 → next ≡ b → r ≡ or_else own next → IsOf (m + n) (or_else a b) (verdict.Missing r)
either_none m n a b own next r h p k q e = (omega (arith, h, k), e ∙ ap₂ (λ x y. or_else x y) p q)

or_else_none : (a : Option Blamed) → or_else a None ≡ a
or_else_none None = refl
or_else_none (Some b) = refl

or_else_assoc : (a b c : Option Blamed) → or_else a (or_else b c) ≡ or_else (or_else a b) c
or_else_assoc None b c = refl
or_else_assoc (Some x) b c = refl

module _ (vs : List Signature) (z : Point) where
  count_push : (ts : List Tree) (t : Tree) → count_all vs (trees_of (ts ++ t ∷ [])) z ≡ count_all vs (trees_of ts) z + count vs t z
  count_push [] t = omega arith
  count_push (u ∷ ts) t = let e = count_push ts t in omega (arith, e)

  blamed_push : (ts : List Tree) (t : Tree) → blamed_of_all vs (trees_of (ts ++ t ∷ [])) z ≡ or_else (blamed_of_all vs (trees_of ts) z) (blamed vs t z)
  blamed_push [] t = or_else_none (blamed vs t z)
  blamed_push (u ∷ ts) t = ap (λ b. or_else (blamed vs u z) b) (blamed_push ts t) ∙ or_else_assoc (blamed vs u z) (blamed_of_all vs (trees_of ts) z) (blamed vs t z)

  of_push : (ts : List Tree) (t : Tree) (v : Verdict) → IsOf (count_all vs (trees_of ts) z + count vs t z) (or_else (blamed_of_all vs (trees_of ts) z) (blamed vs t z)) v → IsVerdictOfAll vs (trees_of (ts ++ t ∷ [])) z v
  of_push ts t v h =
      let P : ℕ → Option Blamed → Type 0 = λ n b. IsOf n b v in
      subst (λ n. P n (blamed_of_all vs (trees_of (ts ++ t ∷ [])) z)) (sym (count_push ts t))
      (subst (λ b. P (count_all vs (trees_of ts) z + count vs t z) b) (sym (blamed_push ts t)) h)

  -- one branch more
  pub branch_more : {X : Type 0} (f : X → Tree) (xs : List X) (i : ℕ) (x : X) (so_far own next : Verdict) → i < length xs → x ≡ get_or xs i x
      → ((m n : ℕ) (a b : Option Blamed) → IsOf m a so_far → IsOf n b own → IsOf (m + n) (or_else a b) next)
      → IsVerdictOfAll vs (trees_of (map f (take i xs))) z so_far → IsVerdict vs (f x) z own → IsVerdictOfAll vs (trees_of (map f (take (i + 1) xs))) z next
  branch_more f xs i x so_far own next l e g h k =
      let P : List Tree → Type 0 = λ (ts : List Tree). IsVerdictOfAll vs (trees_of ts) z next in
      let taken : map f (take (i + 1) xs) ≡ map f (take i xs) ++ f x ∷ [] = ap (λ ys. map f ys) (take_more xs i x l ∙ ap (λ y. take i xs ++ y ∷ []) (sym e)) ∙ map-append f (take i xs) (x ∷ []) in
      subst P (sym taken)
      (of_push (map f (take i xs)) (f x) next
      (g (count_all vs (trees_of (map f (take i xs))) z) (count vs (f x) z) (blamed_of_all vs (trees_of (map f (take i xs))) z) (blamed vs (f x) z) h k))

  -- the same of lists that are mapped twice
  pub piece_more : {X Y : Type 0} (f : Y → Tree) (g : X → Y) (xs : List X) (i : ℕ) (x : X) (so_far own next : Verdict) → i < length xs → x ≡ get_or xs i x
      → ((m n : ℕ) (a b : Option Blamed) → IsOf m a so_far → IsOf n b own → IsOf (m + n) (or_else a b) next)
      → IsVerdictOfAll vs (trees_of (map f (map g (take i xs)))) z so_far → IsVerdict vs (f (g x)) z own → IsVerdictOfAll vs (trees_of (map f (map g (take (i + 1) xs)))) z next
  piece_more f g xs i x so_far own next l e h p k =
      let P : List Tree → Type 0 = λ (ts : List Tree). IsVerdictOfAll vs (trees_of ts) z next in
      let taken : map f (map g (take (i + 1) xs)) ≡ map f (map g (take i xs)) ++ f (g x) ∷ [] =
      ap (λ ys. map f (map g ys)) (take_more xs i x l ∙ ap (λ y. take i xs ++ y ∷ []) (sym e)) ∙ ap (map f) (map-append g (take i xs) (x ∷ [])) ∙ map-append f (map g (take i xs)) (g x ∷ []) in
      subst P (sym taken)
      (of_push (map f (map g (take i xs))) (f (g x)) next
      (h (count_all vs (trees_of (map f (map g (take i xs)))) z) (count vs (f (g x)) z) (blamed_of_all vs (trees_of (map f (map g (take i xs)))) z) (blamed vs (f (g x)) z) p k))

  -- ---- restrictions

  pub inside : (d : Set) (t : Tree) (v : Verdict) → has d z ≡ true → IsVerdict vs t z v → IsVerdict vs (restriction d t) z v
  inside d t v e h =
      let P : Bool → Type 0 = λ b. IsOf (if b then count vs t z else 0) (if b then blamed vs t z else None) v in
      subst P (sym e) h

  pub outside : (d : Set) (t : Tree) → has d z ≡ false → IsVerdict vs (restriction d t) z (verdict.Missing None)
  outside d t e =
      let P : Bool → Type 0 = λ b. IsOf (if b then count vs t z else 0) (if b then blamed vs t z else None) (verdict.Missing None) in
      subst P (sym e) (refl, refl)

-- ---- references

pub reads : (vs : List Signature) (place : ℕ) (y : Point) → is_declared_at vs place y ≡ true → IsReading vs place y verdict.Counted
reads vs place y e =
    let P : Bool → Type 0 = λ b. IsOf (if b then 1 else 0) (if b then None else Some (record { var = place; point = y })) verdict.Counted in
    subst P (sym e) (λ h. omega (arith, h))

pub misses : (vs : List Signature) (place : ℕ) (y : Point) (own : Option Blamed) → is_declared_at vs place y ≡ false → own ≡ Some (record { var = place; point = y }) → IsReading vs place y (verdict.Missing own)
misses vs place y own e p =
    let P : Bool → Type 0 = λ b. IsOf (if b then 1 else 0) (if b then None else Some (record { var = place; point = y })) (verdict.Missing own) in
    subst P (sym e) (refl, p)

-- ---- tests of points

pub has_true : (set : Set) (z : Point) (b : Bool) → IsTrue b ↔ Has set z → b ≡ true → has set z ≡ true
has_true set z b f e = (has_is set z).1 (f.0 e)

pub has_false : (set : Set) (z : Point) (b : Bool) → IsTrue b ↔ Has set z → b ≡ false → has set z ≡ false
has_false set z b f e = go (has set z) refl
  where
    go : (t : Bool) → has set z ≡ t → has set z ≡ false
    go true h = absurd (true≢false (sym (f.1 ((has_is set z).0 h)) ∙ e))
    go false h = h
