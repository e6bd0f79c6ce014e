-- The form of an index expression has its value at each point that fits the names.
use Rattle.std.proofs.Common.{◌≡◌, ◌≢◌, ℕ, zero, suc, ◌≤◌, ◌⊎◌, inl, inr, Bool, true, false, List, [], ◌∷◌, ◌++◌, map, replicate, length, Option, Some, None, refl, sym, ap, ◌∙◌, arith, All, IsSome, ℤ, pos, ◌+ℤ◌, ◌-ℤ◌, ◌*ℤ◌, if◌then◌else◌}
use Rattle.std.specs.Prelude.{bytes_eq}
use Rattle.std.proofs.lemmas.Int.{ints}
use Rattle.std.proofs.lemmas.List.Elements.{All-head, All-tail}
use Rattle.std.proofs.lemmas.List.{length-map}
use Rattle.av_affine.specs.Numbers.{dot}
use Rattle.av_affine.specs.Forms.{value_at}
use Rattle.av_affine.proofs.Ring.{sum_times}
use Rattle.av_tree.specs.declared.domain.Term.{Term}
use Rattle.av_tree.specs.declared.domain.IndexExpr.{IndexExpr}
use Rattle.av_tree.specs.Trees.{Text}
use Rattle.av_tree.specs.Points.{Point, Sizes, entry_at, in_reach, unit_at, sum_at, index_at, is_named}
use Rattle.av_tree.specs.Rows.{coefficient, constant, fixed, is_index, or_zero}
use Rattle.av_names.specs.Forms.{filled, form_of}
use Rattle.av_names.specs.Regular.{AreDistinct, IsKnown, AreKnown}
use Rattle.av_names.proofs.Names.{equal_names, other_names, turned_false, turned_true, first_pairs}
use Rattle.av_base.proofs.Lists.{pairs_rest}

-- ---- sums of products

pub dot_sum : (names : List Text) (f g : Text → ℤ) (z : Point) → dot (map (λ n. f n +ℤ g n) names) z ≡ dot (map f names) z +ℤ dot (map g names) z
dot_sum [] f g z = refl
dot_sum (n ∷ names) f g [] = refl
dot_sum (n ∷ names) f g (k ∷ z) = let e = sum_times k (f n) (g n) in let h = dot_sum names f g z in omega (arith, ints, e, h)

less : (a b k : ℤ) → (a -ℤ b) *ℤ k ≡ a *ℤ k -ℤ b *ℤ k
less a b k = let e = sum_times k (a -ℤ b) b in let h : (a -ℤ b) +ℤ b ≡ a = omega (arith, ints) in let j = ap (λ n. n *ℤ k) h in omega (arith, ints, e, j)

pub dot_difference : (names : List Text) (f g : Text → ℤ) (z : Point) → dot (map (λ n. f n -ℤ g n) names) z ≡ dot (map f names) z -ℤ dot (map g names) z
dot_difference [] f g z = refl
dot_difference (n ∷ names) f g [] = refl
dot_difference (n ∷ names) f g (k ∷ z) = let e = less (f n) (g n) k in let h = dot_difference names f g z in omega (arith, ints, e, h)

dot_zeros : (n : ℕ) (z : Point) → dot (replicate n (pos 0)) z ≡ pos 0
dot_zeros zero z = refl
dot_zeros (suc n) [] = refl
dot_zeros (suc n) (k ∷ z) = let h = dot_zeros n z in omega (arith, ints, h)

dot_padded : (xs : List ℤ) (n : ℕ) (z : Point) → dot (xs ++ replicate n (pos 0)) z ≡ dot xs z
dot_padded [] n z = dot_zeros n z
dot_padded (x ∷ xs) n [] = refl
dot_padded (x ∷ xs) n (k ∷ z) = ap (λ d. x *ℤ k +ℤ d) (dot_padded xs n z)

pub dot_filled : (xs : List ℤ) (z : Point) → length xs ≤ 4 → dot (filled xs) z ≡ dot xs z
dot_filled [] z h = dot_padded [] 4 z
dot_filled (a ∷ []) z h = dot_padded (a ∷ []) 3 z
dot_filled (a ∷ b ∷ []) z h = dot_padded (a ∷ b ∷ []) 2 z
dot_filled (a ∷ b ∷ c ∷ []) z h = dot_padded (a ∷ b ∷ c ∷ []) 1 z
dot_filled (a ∷ b ∷ c ∷ d ∷ []) z h = refl
dot_filled (a ∷ b ∷ c ∷ d ∷ e ∷ xs) z h = absurd (omega (arith, h))

-- ---- one term

-- the entries of a name, k times
abbrev named : Text → ℤ → List Text → List ℤ
named name k names = map (λ n. if bytes_eq name n then k else pos 0) names

not_named : (names : List Text) (z : Point) (name : Text) (k : ℤ) → All (λ n. name ≢ n) names → dot (named name k names) z ≡ pos 0
not_named [] z name k h = refl
not_named (n ∷ names) [] name k h = refl
not_named (n ∷ names) (x ∷ z) name k h =
    rw (other_names name n (All-head (λ m. name ≢ m) n names h))
    (let e = not_named names z name k (All-tail (λ m. name ≢ m) n names h) in omega (arith, ints, e))

-- the entry at a name, and the sum of the products with it
abbrev HasEntry : List Text → Point → Text → ℤ → Type 0
HasEntry names z name k = (v : ℤ) × (entry_at names z name ≡ Some v) × (dot (named name k names) z ≡ k *ℤ v)

entry_of : (names : List Text) (z : Point) (name : Text) (k : ℤ) → AreDistinct names → length names ≡ length z → is_index names name ≡ true → HasEntry names z name k
entry_of [] z name k d e h = absurd cc
entry_of (n ∷ names) [] name k d e h = absurd (omega (arith, e))
entry_of (n ∷ names) (x ∷ z) name k d e h = go (λ i. entry_of names z name k (pairs_rest (λ a b. a ≢ b) n names d) (omega (arith, e)) i) (bytes_eq n name) refl
  where
    go : (is_index names name ≡ true → HasEntry names z name k) → (t : Bool) → bytes_eq n name ≡ t → HasEntry (n ∷ names) (x ∷ z) name k
    go rest true p =
        let apart = first_pairs (λ a b. a ≢ b) n names d in
        let none = not_named names z name k (λ j a l q. apart j a l (equal_names n name p ∙ q)) in
        (x, rw p refl, rw (turned_true n name p) (omega (arith, ints, none)))
    go rest false p =
        let r = rest (rw p at h) in
        (r.0, rw p r.1, rw (turned_false n name p) (let q = r.2 in omega (arith, ints, q)))

no_entry : (names : List Text) (z : Point) (name : Text) (k : ℤ) → is_index names name ≡ false → (entry_at names z name ≡ None) × (dot (named name k names) z ≡ pos 0)
no_entry [] z name k h = (refl, refl)
no_entry (n ∷ names) z name k h = go (λ y i. no_entry names y name k i) (bytes_eq n name) refl z
  where
    go : ((y : Point) → is_index names name ≡ false → (entry_at names y name ≡ None) × (dot (named name k names) y ≡ pos 0))
        → (t : Bool) → bytes_eq n name ≡ t → (z : Point) → (entry_at (n ∷ names) z name ≡ None) × (dot (named name k (n ∷ names)) z ≡ pos 0)
    go rest true p z = absurd (let q : true ≡ false = rw p at h in cc)
    go rest false p [] = (refl, refl)
    go rest false p (x ∷ z) =
        let r = rest z (rw p at h) in
        (rw p r.0, rw (turned_false n name p) (let q = r.1 in omega (arith, ints, q)))

-- ---- index expressions

-- the point has an entry for each name, or there are no names
abbrev pub Suits : List Text → Point → Type 0
Suits names z = (names ≡ []) ⊎ (length names ≡ length z)

long_enough : (names : List Text) (z : Point) (name : Text) → Suits names z → is_index names name ≡ true → length names ≡ length z
long_enough [] z name s h = absurd cc
long_enough (n ∷ names) z name (inl e) h = absurd cc
long_enough (n ∷ names) z name (inr e) h = e

known_size : (o : Option ℤ) → IsSome o → o ≡ Some (or_zero o)
known_size None h = absurd cc
known_size (Some k) h = refl

-- the number that a term takes its factor of, and what the term adds to the form's value
abbrev HasUnit : Sizes → List Text → Point → ℤ → Option Text → Type 0
HasUnit sizes names z k o = (v : ℤ) × (unit_at (in_reach sizes names z) o ≡ Some v)
    × (dot (map (λ n. if is_named n o then k else pos 0) names) z +ℤ fixed sizes names k o ≡ k *ℤ v)

not_at_all : (names : List Text) (z : Point) → dot (map (λ n. pos 0) names) z ≡ pos 0
not_at_all [] z = refl
not_at_all (n ∷ names) [] = refl
not_at_all (n ∷ names) (x ∷ z) = let e = not_at_all names z in omega (arith, ints, e)

unit_of : (sizes : Sizes) (names : List Text) (z : Point) (k : ℤ) (o : Option Text) → AreDistinct names → Suits names z → IsKnown sizes names o → HasUnit sizes names z k o
unit_of sizes names z k None d s h = (pos 1, refl, (let e = not_at_all names z in omega (arith, ints, e)))
unit_of sizes names z k (Some name) d s h = go (is_index names name) refl h
  where
    go : (t : Bool) → is_index names name ≡ t → IsKnown sizes names (Some name) → HasUnit sizes names z k (Some name)
    go true p h =
        let r = entry_of names z name k d (long_enough names z name s p) p in
        (r.0, rw r.1 refl, rw p (let q = r.2 in omega (arith, ints, q)))
    go false p (inl h) = absurd (let q : true ≡ false = rw h at p in cc)
    go false p (inr h) =
        let r = no_entry names z name k p in
        (or_zero (sizes name), rw r.0 (known_size (sizes name) h), rw p (let q = r.1 in omega (arith, ints, q)))

-- the value of terms by their coefficients
abbrev sum_of : Sizes → List Text → Point → List Term → ℤ
sum_of sizes names z terms = dot (map (coefficient terms) names) z +ℤ constant sizes names terms

abbrev term_known : Sizes → List Text → Term → Type 0
term_known sizes names t = IsKnown sizes names t.name

terms_value : (sizes : Sizes) (names : List Text) (z : Point) (terms : List Term) → AreDistinct names → Suits names z → All (term_known sizes names) terms
    → sum_at (in_reach sizes names z) terms ≡ Some (sum_of sizes names z terms)
terms_value sizes names z [] d s h = ap Some (let e = not_at_all names z in omega (arith, ints, e))
terms_value sizes names z (t ∷ terms) d s h =
    let r = unit_of sizes names z t.factor t.name d s (All-head (term_known sizes names) t terms h) in
    let e = terms_value sizes names z terms d s (All-tail (term_known sizes names) t terms h) in
    let a = dot_sum names (λ n. if is_named n t.name then t.factor else pos 0) (coefficient terms) z in
    let b = r.2 in
    rw (r.1, e) (ap Some (omega (arith, ints, a, b)))

-- a context's names, of which there are at most four
pub record Names (names : List Text) (z : Point) : Type 0 where
  pub distinct : AreDistinct names
  pub few : length names ≤ 4
  pub suits : Suits names z

pub few_mapped : {X : Type 0} (f : Text → X) (names : List Text) → length names ≤ 4 → length (map f names) ≤ 4
few_mapped f names h = rw length-map h

pub index_value : (sizes : Sizes) (names : List Text) (z : Point) (e : IndexExpr) → Names names z → AreKnown sizes names e
    → index_at (in_reach sizes names z) e ≡ Some (value_at (form_of sizes names e) z)
index_value sizes names z e n h =
    terms_value sizes names z e.terms n.distinct n.suits h
    ∙ ap (λ d. Some (d +ℤ constant sizes names e.terms)) (sym (dot_filled (map (coefficient e.terms) names) z (few_mapped (coefficient e.terms) names n.few)))
