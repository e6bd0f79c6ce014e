-- Powers that stop at the greatest number.
use Rattle.std.proofs.Common.{◌≡◌, ℕ, zero, suc, ◌+◌, ◌*◌, ◌-◌, ◌^◌, ◌<◌, ◌≤◌, min, List, [], ◌∷◌, ◌++◌, map, sum, length, take, drop, get_or, refl, sym, ap, subst, ◌∙◌, arith, ⊎_elim, add-one}
use Rattle.std.specs.Prelude.{slice_index_or, slice_get, All, sum_by}
use Rattle.std.proofs.lemmas.List.Sums.{sum_by-cons, sum-map, sum_by_more}
use Rattle.std.proofs.lemmas.List.Elements.{All-push}
use Rattle.av_flat.specs.Trees.{Variable, FlatSystem}
use Rattle.av_flat.specs.Nodes.{nodes}
use Rattle.av_depend.specs.Components.{ReadsNode, AreComponents}
use Rattle.av_sched.specs.Choices.{candidates, dimension_of}
use Rattle.av_sched.specs.SchedFaults.{HasManyCandidates}
use Rattle.std.proofs.Math.Nat.{pow-suc}
use Rattle.std.proofs.lemmas.Bool.{cases_lt}
use Rattle.av_sched.specs.Parts.{indices_of}
use Rattle.av_sched.proofs.Steps.{take_more}
use Rattle.av_base.proofs.Lists.{take_whole}

-- a number that stops at m, times b
pub capped_times : (a b m : ℕ) → 1 ≤ b → min (min a m * b) m ≡ min (a * b) m
capped_times a b m l = ⊎_elim
    (λ less. let e : min a m ≡ a = omega (arith, less) in ap (λ x. min (x * b) m) e)
    (λ most.
    let e : min a m ≡ m = omega (arith, most) in
    let p : m * 1 ≤ m * b = times_most m 1 b l in
    let q : a * 1 ≤ a * b = times_most a 1 b l in
    ap (λ x. min (x * b) m) e ∙ both (m * b) (a * b) (omega (arith, p)) (omega (arith, q, most)))
    (cases_lt a m)
  where
    times_most : (k x y : ℕ) → x ≤ y → k * x ≤ k * y
    times_most k x y h = grind (arith, h)

    both : (x y : ℕ) → m ≤ x → m ≤ y → min x m ≡ min y m
    both x y h k = omega (arith, h, k)

pub capped_power : (b k m n : ℕ) → 1 ≤ b → n ≡ min (b ^ k) m → min (n * b) m ≡ min (b ^ (k + 1)) m
capped_power b k m n l e = ap (λ x. min (x * b) m) e ∙ capped_times (b ^ k) b m l ∙ ap (λ x. min x m) (power b k)
  where
    power : (b k : ℕ) → b ^ k * b ≡ b ^ (k + 1)
    power b k = rw add-one (sym (pow-suc b k))

pub indices_more : (dims component : List ℕ) (k : ℕ) → k < length component → indices_of dims (take (k + 1) component) ≡ indices_of dims (take k component) + slice_index_or dims (slice_index_or component k 0) 0
indices_more dims component k l = sum_by_more (λ n. slice_index_or dims n 0) component k 0 l

pub indices_all : (dims component : List ℕ) (k : ℕ) → length component ≤ k → indices_of dims (take k component) ≡ indices_of dims component
indices_all dims component k l = ap (indices_of dims) (take_whole component k l)

-- ---- candidates

dimension_at : (vs : List Variable) (n : ℕ) → slice_index_or (map (λ v. v.domain.dim) vs) n 0 ≡ dimension_of (slice_get vs n)
dimension_at [] n = refl
dimension_at (v ∷ vs) zero = refl
dimension_at (v ∷ vs) (suc n) = dimension_at vs n

indices_are : (s : FlatSystem) (dims component : List ℕ) → dims ≡ map (λ v. v.domain.dim) (nodes s) → indices_of dims component ≡ sum (map (λ n. dimension_of (slice_get (nodes s) n)) component)
indices_are s dims component e = ap (λ xs. indices_of xs component) e ∙ go component ∙ sym (sum-map (λ n. dimension_of (slice_get (nodes s) n)) component)
  where
    go : (ns : List ℕ) → indices_of (map (λ v. v.domain.dim) (nodes s)) ns ≡ sum_by (λ n. dimension_of (slice_get (nodes s) n)) ns
    go [] = refl
    go (n ∷ ns) = sum_by-cons (λ n. slice_index_or (map (λ v. v.domain.dim) (nodes s)) n 0) n ns
        ∙ ap (λ x. x + indices_of (map (λ v. v.domain.dim) (nodes s)) ns) (dimension_at (nodes s) n)
        ∙ ap (λ x. dimension_of (slice_get (nodes s) n) + x) (go ns)
        ∙ sym (sum_by-cons (λ n. dimension_of (slice_get (nodes s) n)) n ns)

-- the number that was counted is that of candidates, and at most the greatest number
pub counted : (s : FlatSystem) (c : ℕ) (dims component : List ℕ) (base n : ℕ) → base ≡ 2 * c + 1 → dims ≡ map (λ v. v.domain.dim) (nodes s) → n ≡ min (base ^ indices_of dims component) (2 ^ 128 - 1) → n ≡ min (candidates s c component) (2 ^ 128 - 1)
counted s c dims component base n b e h = h ∙ ap (λ x. min (x ^ indices_of dims component) (2 ^ 128 - 1)) b ∙ ap (λ x. min ((2 * c + 1) ^ x) (2 ^ 128 - 1)) (indices_are s dims component e)

pub within_limit : (x n : ℕ) → n ≡ min x (2 ^ 128 - 1) → n ≤ 4194304 → x ≤ 4194304
within_limit x n e l = omega (arith, e, l)

pub above_limit : (x n : ℕ) → n ≡ min x (2 ^ 128 - 1) → 4194304 < n → 4194304 < x
above_limit x n e l = omega (arith, e, l)

-- one component more that has few
pub few_more : (s : FlatSystem) (c : ℕ) (components : List (List ℕ)) (k n : ℕ) (d : List ℕ) → k < length components → d ≡ get_or components k d → n ≡ min (candidates s c d) (2 ^ 128 - 1) → n ≤ 4194304
    → All (λ d. candidates s c d ≤ 4194304) (take k components) → All (λ d. candidates s c d ≤ 4194304) (take (k + 1) components)
few_more s c components k n d l is e few h = subst (All (λ d. candidates s c d ≤ 4194304)) (sym (take_more components k d d l is refl))
    (All-push (λ d. candidates s c d ≤ 4194304) (take k components) d h (within_limit (candidates s c d) n e few))

-- the first that has too many
pub many_at : (s : FlatSystem) (c : ℕ) (components : List (List ℕ)) (k n : ℕ) (d : List ℕ) → AreComponents (length (nodes s)) (ReadsNode s) components → k < length components → d ≡ get_or components k d → n ≡ min (candidates s c d) (2 ^ 128 - 1) → 4194304 < n
    → All (λ d. candidates s c d ≤ 4194304) (take k components) → HasManyCandidates s c n
many_at s c components k n d are l is e many h = record {
  components = components;
  are_components = are;
  component = d;
  first = record {
    before = take k components;
    after = drop (suc k) components;
    is = split components k d l is;
    not_before = λ i f m p. let q = h i f m in omega (arith, p, q);
    here = above_limit (candidates s c d) n e many;
  };
  number = e;
}
  where
    split : (xs : List (List ℕ)) (k : ℕ) (d : List ℕ) → k < length xs → d ≡ get_or xs k d → xs ≡ take k xs ++ d ∷ drop (suc k) xs
    split [] k d l is = absurd (omega (arith, l))
    split (x ∷ xs) zero d l is = ap (λ y. y ∷ xs) (sym is)
    split (x ∷ xs) (suc k) d l is = ap (λ ys. x ∷ ys) (split xs k d (omega (arith, l)) is)
