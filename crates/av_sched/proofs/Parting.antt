-- Unit vectors as linear parts, and lists of numbers compared.
use Rattle.std.proofs.Common.{◌≡◌, ◌≢◌, ℕ, zero, suc, ◌+◌, ◌<◌, ◌≤◌, ℤ, pos, Some, List, [], ◌∷◌, ◌++◌, length, drop, ◌↔◌, get_or, refl, sym, ap, subst, ◌∙◌, arith, Any, ⊎_elim, length-append, unsigned_abs, ◌⊎◌, inl, inr}
use Rattle.std.specs.Prelude.{slice_get}
use Rattle.std.proofs.lemmas.Int.{ints}
use Rattle.std.proofs.lemmas.Bool.{cases_eq}
use Rattle.std.proofs.lemmas.Option.{slice_get_within}
use Rattle.std.proofs.lemmas.List.Elements.{All-from_recursion}
use Rattle.av_tree.specs.Points.{Point}
use Rattle.av_flat.specs.Trees.{Variable, FlatSystem}
use Rattle.av_flat.specs.Nodes.{nodes}
use Rattle.av_flat.specs.Schedules.{IsLinearPart}
use Rattle.av_sched.specs.Offsets.{part}
use Rattle.av_sched.specs.Choices.{AreLinearParts}
use Rattle.av_sched.specs.Order.{IsLess}
use Rattle.av_sched.proofs.Listing.{sizes, size_at, length_sizes}

pub unit_0 : (c : ℕ) → 1 ≤ c → IsLinearPart c 0 []
unit_0 c l = record { size = refl; entries = All-from_recursion (λ x. unsigned_abs x ≤ c) [] tt; not_zero = λ h. absurd (omega (arith, h)) }

one_there : (xs : List ℤ) → Any (λ x. x ≢ pos 0) (pos 1 ∷ xs)
one_there xs = (0, pos 1, omega arith, refl, (λ (e : pos 1 ≡ pos 0). omega (arith, ints, e)))

pub unit_1 : (c : ℕ) → 1 ≤ c → IsLinearPart c 1 (pos 1 ∷ [])
unit_1 c l = record { size = refl; entries = All-from_recursion (λ x. unsigned_abs x ≤ c) (pos 1 ∷ []) (omega (arith, l), tt); not_zero = λ h. one_there [] }

pub unit_2 : (c : ℕ) → 1 ≤ c → IsLinearPart c 2 (pos 1 ∷ pos 0 ∷ [])
unit_2 c l = record { size = refl; entries = All-from_recursion (λ x. unsigned_abs x ≤ c) (pos 1 ∷ pos 0 ∷ []) (omega (arith, l), (omega arith, tt)); not_zero = λ h. one_there (pos 0 ∷ []) }

pub unit_3 : (c : ℕ) → 1 ≤ c → IsLinearPart c 3 (pos 1 ∷ pos 0 ∷ pos 0 ∷ [])
unit_3 c l = record { size = refl; entries = All-from_recursion (λ x. unsigned_abs x ≤ c) (pos 1 ∷ pos 0 ∷ pos 0 ∷ []) (omega (arith, l), (omega arith, (omega arith, tt))); not_zero = λ h. one_there (pos 0 ∷ pos 0 ∷ []) }

pub unit_4 : (c : ℕ) → 1 ≤ c → IsLinearPart c 4 (pos 1 ∷ pos 0 ∷ pos 0 ∷ pos 0 ∷ [])
unit_4 c l = record { size = refl; entries = All-from_recursion (λ x. unsigned_abs x ≤ c) (pos 1 ∷ pos 0 ∷ pos 0 ∷ pos 0 ∷ []) (omega (arith, l), (omega arith, (omega arith, (omega arith, tt)))); not_zero = λ h. one_there (pos 0 ∷ pos 0 ∷ pos 0 ∷ []) }

-- ---- a part for each of the first nodes

pub record ArePartsTo (s : FlatSystem) (c k : ℕ) (parts : List Point) : Type 0 where
  pub size : length parts ≡ k
  pub each : (n : ℕ) (v : Variable) → n < k → slice_get (nodes s) n ≡ Some v → IsLinearPart c v.domain.dim (part parts n)

pub no_parts : (s : FlatSystem) (c : ℕ) → ArePartsTo s c 0 []
no_parts s c = record { size = refl; each = λ n v l. absurd (omega (arith, l)) }

part_push : (xs : List Point) (x : Point) (n : ℕ) → n < length xs → part (xs ++ x ∷ []) n ≡ part xs n
part_push [] x n h = absurd (omega (arith, h))
part_push (y ∷ xs) x zero h = refl
part_push (y ∷ xs) x (suc n) h = part_push xs x n (omega (arith, h))

part_last : (xs : List Point) (x : Point) → part (xs ++ x ∷ []) (length xs) ≡ x
part_last [] x = refl
part_last (y ∷ xs) x = part_last xs x

pub parts_to_more : (s : FlatSystem) (c k : ℕ) (parts : List Point) (dims : List ℕ) (d : ℕ) (x : Point) → dims ≡ sizes s.variables → d ≡ get_or dims k d → IsLinearPart c d x → ArePartsTo s c k parts → ArePartsTo s c (k + 1) (parts ++ x ∷ [])
parts_to_more s c k parts dims d x e f own h = record {
  size = (let a = length-append parts (x ∷ []) in let b = h.size in omega (arith, a, b));
  each = λ n v l g. ⊎_elim
      (λ q.
      let there : slice_get (nodes s) k ≡ Some v = subst (λ (i : ℕ). slice_get (nodes s) i ≡ Some v) q g in
      let at : part (parts ++ x ∷ []) n ≡ x = ap (part (parts ++ x ∷ [])) (q ∙ sym h.size) ∙ part_last parts x in
      subst (IsLinearPart c v.domain.dim) (sym at) (subst (λ (i : ℕ). IsLinearPart c i x) (size_at s dims k d v e f there) own))
      (λ q. let b : n < k = omega (arith, l, q) in subst (IsLinearPart c v.domain.dim) (sym (part_push parts x n (let z = h.size in omega (arith, b, z)))) (h.each n v b g))
      (cases_eq n k);
}

pub parts_to_all : (s : FlatSystem) (c k : ℕ) (parts : List Point) (dims : List ℕ) → dims ≡ sizes s.variables → length dims ≤ k → k ≤ length dims → ArePartsTo s c k parts → AreLinearParts s c parts
parts_to_all s c k parts dims e l m h =
    let same : length dims ≡ length (nodes s) = ap length e ∙ length_sizes s.variables in
    record {
      one_each = (let z = h.size in omega (arith, z, l, m, same));
      each = λ n v g. h.each n v (let b = slice_get_within (nodes s) n v g in omega (arith, b, l, same)) g;
    }

-- ---- the order of costs

pub less_none : (a b : List ℕ) → (length a ≡ 0) ⊎ (length b ≡ 0) → IsLess a b → ⊥
less_none [] b e h = h
less_none (x ∷ a) [] e h = h
less_none (x ∷ a) (y ∷ b) (inl e) h = omega (arith, e)
less_none (x ∷ a) (y ∷ b) (inr e) h = omega (arith, e)

pub less_first : (a b : List ℕ) → 0 < length a → 0 < length b → get_or a 0 0 < get_or b 0 0 → IsLess a b
less_first [] b l m h = absurd (omega (arith, l))
less_first (x ∷ a) [] l m h = absurd (omega (arith, m))
less_first (x ∷ a) (y ∷ b) l m h = inl h

pub less_not : (a b : List ℕ) → get_or b 0 0 < get_or a 0 0 → IsLess a b → ⊥
less_not [] b h k = k
less_not (x ∷ a) [] h k = k
less_not (x ∷ a) (y ∷ b) h (inl k) = omega (arith, h, k)
less_not (x ∷ a) (y ∷ b) h (inr k) = let e = k.0 in omega (arith, h, e)

pub less_rest : (a b : List ℕ) → 0 < length a → 0 < length b → get_or a 0 0 ≡ get_or b 0 0 → IsLess (drop 1 a) (drop 1 b) ↔ IsLess a b
less_rest [] b l m e = absurd (omega (arith, l))
less_rest (x ∷ a) [] l m e = absurd (omega (arith, m))
less_rest (x ∷ a) (y ∷ b) l m e = ((λ h. inr (e, h)), back)
  where
    back : IsLess (x ∷ a) (y ∷ b) → IsLess a b
    back (inl k) = absurd (omega (arith, k, e))
    back (inr k) = k.1
