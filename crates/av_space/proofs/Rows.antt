-- The rows of placings are few, and their entries are -1, 0 and 1.
use Rattle.std.proofs.Common.{◌≡◌, ℕ, suc, ◌≤◌, ◌<◌, ℤ, pos, negsuc, ◌*ℤ◌, Bool, true, false, if◌then◌else◌, List, [], ◌∷◌, length, map, get_or, take, ◌+◌, ◌++◌, refl, sym, ap, subst, ◌∙◌, arith, All, inl, inr}
use Rattle.std.specs.Prelude.{not, ◌||◌, nat_eq, filter, unsigned_abs, Contains}
use Rattle.std.specs.Int.{int_signum}
use Rattle.std.specs.List.{range_with_len, list_any}
use Rattle.std.proofs.lemmas.List.{length-map, map_more}
use Rattle.std.proofs.lemmas.List.Sums.{length-filter, count_by-le-length}
use Rattle.std.proofs.lemmas.List.FromFn.{length-range_with_len, get_or-range_with_len}
use Rattle.std.proofs.lemmas.List.Elements.{All-nil, All-cons, All-map, Contains-get_or}
use Rattle.av_affine.specs.Numbers.{AtMost, dot}
use Rattle.av_affine.specs.Completion.{unit_row, signs_at, positions_but, entry, IsCompletion}
use Rattle.av_affine.specs.Completion.IsCompletion.{beside_one, beside_two}
use Rattle.av_flat.proofs.Sets.{is_equal}
use Rattle.av_base.proofs.Among.{among_cases, none_among}
use Rattle.av_space.specs.Coordinates.{Placing, IsPlacing, point, space, along}
use Rattle.av_affine.proofs.Dots.{dot_most}
use Rattle.av_base.proofs.Lists.{same_tail}

one_or_none : (b : Bool) → unsigned_abs (if b then pos 1 else pos 0) ≤ 1
one_or_none true = omega arith
one_or_none false = omega arith

sign_small : (x : ℤ) → unsigned_abs (int_signum x) ≤ 1
sign_small (pos n) = omega arith
sign_small (negsuc n) = omega arith

sign_or_none : (b : Bool) (x : ℤ) → unsigned_abs (if b then int_signum x else pos 0) ≤ 1
sign_or_none true x = sign_small x
sign_or_none false x = omega arith

unit_small : (n k : ℕ) → AtMost 1 (unit_row n k)
unit_small n k = All-map (λ (x : ℤ). unsigned_abs x ≤ 1) (λ j. if nat_eq j k then pos 1 else pos 0) (range_with_len 0 n) (λ i d l. one_or_none (nat_eq (get_or (range_with_len 0 n) i d) k))

signs_small : (p q : ℕ) (v : List ℤ) → AtMost 1 (signs_at p q v)
signs_small p q v =
    All-map (λ (x : ℤ). unsigned_abs x ≤ 1) (λ j. if nat_eq j p || nat_eq j q then int_signum (entry v j) else pos 0) (range_with_len 0 (length v))
    (λ i d l. let j = get_or (range_with_len 0 (length v)) i d in sign_or_none (nat_eq j p || nat_eq j q) (entry v j))

units_small : (n : ℕ) (ks : List ℕ) → All (AtMost 1) (map (unit_row n) ks)
units_small n ks = All-map (AtMost 1) (unit_row n) ks (λ i d l. unit_small n (get_or ks i d))

shorter : (test : ℕ → Bool) (xs : List ℕ) → length (filter test xs) ≤ length xs
shorter test xs = (let e = length-filter test xs in let f = count_by-le-length test xs in omega (arith, e, f))

one_more : (b : Bool) (y : ℕ) (zs : List ℕ) (n : ℕ) → length zs < n → length (if b then y ∷ zs else zs) < suc n
one_more true y zs n l = omega (arith, l)
one_more false y zs n l = omega (arith, l)

-- what fails a test is left out
fewer : (test : ℕ → Bool) (xs : List ℕ) (x : ℕ) → Contains xs x → test x ≡ false → length (filter test xs) < length xs
fewer test [] x h f = absurd (none_among x h)
fewer test (y ∷ xs) x h f = elim (among_cases y x xs h) [
  | inl e ↦ (let g : test y ≡ false = ap test e ∙ f in let s = shorter test xs in rw g (omega (arith, s)))
  | inr k ↦ one_more (test y) y (filter test xs) (length xs) (fewer test xs x k f)
]

taken : (p : ℕ) (b : Bool) → nat_eq p p ≡ true → not (nat_eq p p || b) ≡ false
taken p b e = rw e refl

left_fewer : (n p : ℕ) (left : List ℕ) → p < n → length (positions_but (p ∷ left) n) < n
left_fewer n p left l =
    let test = λ (k : ℕ). not (list_any (nat_eq k) (p ∷ left)) in
    let g = length-range_with_len 0 n in
    let at : get_or (range_with_len 0 n) p 0 ≡ p = get_or-range_with_len 0 n p 0 l ∙ omega arith in
    let here : Contains (range_with_len 0 n) p = subst (Contains (range_with_len 0 n)) at (Contains-get_or (range_with_len 0 n) p 0 (omega (arith, g, l))) in
    let f = fewer test (range_with_len 0 n) p here (taken p (list_any (nat_eq p) left) (is_equal p p refl)) in
    omega (arith, f, g)

pub record AreSmallRows (rows : List (List ℤ)) : Type 0 where
  pub few : length rows ≤ 4
  pub small : All (AtMost 1) rows

small_completion : (v : List ℤ) (rows : List (List ℤ)) → length v ≤ 4 → IsCompletion v (v ∷ rows) → AreSmallRows rows
small_completion v rows few (beside_one p s e) =
    let ks = positions_but (p ∷ []) (length v) in
    let same = same_tail v v rows (map (unit_row (length v)) ks) e in
    let m = length-map ks (unit_row (length v)) in
    let l = left_fewer (length v) p [] s.within in
    subst AreSmallRows (sym same) (record { few = omega (arith, m, l, few); small = units_small (length v) ks })
small_completion v rows few (beside_two p q n s t e) =
    let ks = positions_but (p ∷ q ∷ []) (length v) in
    let same = same_tail v v rows (signs_at p q v ∷ map (unit_row (length v)) ks) e in
    let m = length-map ks (unit_row (length v)) in
    let l = left_fewer (length v) p (q ∷ []) s.within in
    subst AreSmallRows (sym same) (record { few = omega (arith, m, l, few); small = All-cons (AtMost 1) (signs_at p q v) (map (unit_row (length v)) ks) (signs_small p q v) (units_small (length v) ks) })

pub small_rows : (p : Placing) → IsPlacing p → length p.time.linear ≤ 4 → AreSmallRows p.rows
small_rows p (point e) few = record { few = omega arith; small = All-nil (AtMost 1) }
small_rows p (space {time} rows a) few =
    let size : length time.linear ≡ length a.vector = ap (λ (l : List ℤ). length l) a.divided ∙ length-map a.vector (λ x. a.gcd *ℤ x) in
    small_completion a.vector rows (omega (arith, size, few)) a.rule

-- coordinates of points with small entries
pub small_along : (rows : List (List ℤ)) (z : List ℤ) → AreSmallRows rows → length z ≤ 4 → AtMost 4095 z → AtMost 16380 (along rows z)
small_along rows z h few small =
    All-map (λ (x : ℤ). unsigned_abs x ≤ 16380) (λ row. dot row z) rows (λ k d l. let m = dot_most (get_or rows k d) z 1 4095 (h.small k d l) small in omega (arith, m, few))

pub along_more : (rows : List (List ℤ)) (z : List ℤ) (k : ℕ) (row : List ℤ) → k < length rows → row ≡ get_or rows k row → along (take (k + 1) rows) z ≡ along (take k rows) z ++ dot row z ∷ []
along_more rows z k row l e = map_more (λ row. dot row z) rows k row l ∙ ap (λ (r : List ℤ). along (take k rows) z ++ dot r z ∷ []) (sym e)
