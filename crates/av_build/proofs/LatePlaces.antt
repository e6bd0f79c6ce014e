-- The reference with a number stands behind as many other places.
use Rattle.std.proofs.Common.{◌≡◌, ℕ, zero, suc, ◌+◌, ◌-◌, ◌≤◌, List, [], ◌∷◌, ◌++◌, length, take, drop, refl, sym, ap, subst, ◌∙◌, arith, inl, inr, Some, length-append}
use Rattle.std.specs.Prelude.{Contains, slice_get}
use Rattle.std.proofs.lemmas.List.{length-drop, take_all}
use Rattle.av_base.proofs.Among.{among_at, more_among}
use Rattle.av_base.proofs.Lists.{get_cases, some_is}
use Rattle.av_flat.specs.Broadcasts.{references}
use Rattle.av_flat.specs.Sites.{Place, places_in}
use Rattle.av_flat.specs.Trees.{Tree, reference, constant, binary, choice, restriction, cases, dependence, reduction, pick}

-- ---- what stands in a list from a number on

pub among_dropped : {X : Type 0} (xs : List X) (n k : ℕ) (x : X) → slice_get xs k ≡ Some x → n ≤ k → Contains (drop n xs) x
among_dropped xs zero k x e low = among_at xs k x e
among_dropped [] (suc n) k x e low = absurd cc
among_dropped (y ∷ xs) (suc n) zero x e low = absurd (omega (arith, low))
among_dropped (y ∷ xs) (suc n) (suc k) x e low = among_dropped xs n k x e (omega (arith, low))

pub from_dropped : {X : Type 0} (xs : List X) (n : ℕ) (x : X) → Contains (drop n xs) x → Contains xs x
from_dropped xs zero x h = h
from_dropped [] (suc n) x h = h
from_dropped (y ∷ xs) (suc n) x h = more_among y x xs (from_dropped xs n x h)

-- a slice from a number on
pub tail_is : {X : Type 0} (xs : List X) (n : ℕ) → take (length xs - n) (drop n xs) ≡ drop n xs
tail_is xs n = ap (λ k. take k (drop n xs)) (sym (length-drop n xs)) ∙ take_all (length (drop n xs)) (drop n xs) (omega arith)

-- ---- numbers and places

-- so many places at least; each has a number that is at most its place, counted from n
pub record IsLate (n m : ℕ) (ps : List Place) : Type 0 where
  pub many : m ≤ length ps
  pub each : (j : ℕ) (p : Place) → slice_get ps j ≡ Some p → p.site ≤ n + j

both_late : (n r m o : ℕ) (ps qs : List Place) → r ≡ n + m → IsLate n m ps → IsLate r o qs → IsLate n (m + o) (ps ++ qs)
both_late n r m o ps qs e f g =
    let count = length-append ps qs in
    let a = f.many in
    let b = g.many in
    record {
      many = omega (arith, count, a, b);
      each = λ j p is. (elim (get_cases ps qs j p is) [
        | inl l ↦ f.each j p l
        | inr h ↦ (
            let low = g.each h.0 p h.2 in
            let at = h.1 in
            omega (arith, e, a, low, at))
      ]);
    }

only : (n : ℕ) (p : Place) → p.site ≡ n → (j : ℕ) (q : Place) → slice_get (p ∷ []) j ≡ Some q → q.site ≤ n + j
only n p is zero q e =
    let same : p ≡ q = some_is p q e in
    let site : p.site ≡ q.site = ap (λ (x : Place). x.site) same in
    omega (arith, site, is)
only n p is (suc j) q e = absurd cc

one_late : (n m : ℕ) (p : Place) → m ≤ 1 → p.site ≡ n → IsLate n m (p ∷ [])
one_late n m p few is = record { many = few; each = only n p is }

none_late : (n : ℕ) → IsLate n 0 []
none_late n = record { many = omega arith; each = λ j p e. absurd cc }

pub late : (k n : ℕ) (t : Tree) → IsLate n (length (references t)) (places_in k n t)
late k n (reference place m) = one_late n 1 (record { piece = k; site = n; tree = reference place m }) (omega arith) refl
late k n (binary g l r) =
    let ls = length (references l) in
    subst (λ (m : ℕ). IsLate n m (places_in k n (binary g l r))) (sym (length-append (references l) (references r)))
    (both_late n (n + ls) ls (length (references r)) (places_in k n l) (places_in k (n + ls) r) refl (late k n l) (late k (n + ls) r))
late k n (choice l c r x y) =
    let ls = references l in
    let rs = references r in
    let xs = references x in
    let ys = references y in
    let nr = n + length ls in
    let nx = nr + length rs in
    let ny = nx + length xs in
    let la = places_in k n l in
    let ra = places_in k nr r in
    let xa = places_in k nx x in
    let two = both_late n nr (length ls) (length rs) la ra refl (late k n l) (late k nr r) in
    let three = both_late n nx (length ls + length rs) (length xs) (la ++ ra) xa (omega arith) two (late k nx x) in
    let four = both_late n ny (length ls + length rs + length xs) (length ys) (la ++ ra ++ xa) (places_in k ny y) (omega arith) three (late k ny y) in
    let a = length-append ls rs in
    let b = length-append (ls ++ rs) xs in
    let d = length-append (ls ++ rs ++ xs) ys in
    let count : length ls + length rs + length xs + length ys ≡ length (references (choice l c r x y)) = omega (arith, a, b, d) in
    subst (λ (m : ℕ). IsLate n m (places_in k n (choice l c r x y))) count four
late k n (constant w) = none_late n
late k n (restriction d t) = none_late n
late k n (cases ts) = none_late n
late k n (dependence m t) = none_late n
late k n (reduction o m t set) = none_late n
late k n (pick place choices w) = one_late n 0 (record { piece = k; site = n; tree = pick place choices w }) (omega arith) refl
