-- The maps of references, dependences and reductions have the images of the texts.
use Rattle.std.proofs.Common.{◌≡◌, ℕ, zero, suc, ◌+◌, ◌<◌, ◌≤◌, inr, Bool, true, false, ◌&&◌, IsTrue, List, [], ◌∷◌, map, length, Some, refl, sym, ap, ap₂, ◌∙◌, arith, All, Any, ℤ, pos, ◌+ℤ◌, get_or, if◌then◌else◌}
use Rattle.std.specs.List.{range_with_len}
use Rattle.std.proofs.lemmas.Int.{ints}
use Rattle.std.proofs.lemmas.List.{length-map}
use Rattle.std.proofs.lemmas.List.Elements.{All-head, All-tail}
use Rattle.av_affine.specs.declared.form.Form.{Form}
use Rattle.av_affine.specs.Forms.{value_at}
use Rattle.av_affine.specs.Maps as affine
use Rattle.av_tree.specs.declared.domain.Term.{Term}
use Rattle.av_tree.specs.declared.domain.IndexExpr.{IndexExpr}
use Rattle.av_tree.specs.declared.domain.MapText.{MapText}
use Rattle.av_tree.specs.declared.expression.Access.{Access}
use Rattle.av_tree.specs.declared.expression.Access.TheVariants as access
use Rattle.av_tree.specs.Trees.{Text}
use Rattle.av_tree.specs.Points.{Point, Sizes, in_reach, point_at, image, read_at, is_named, is_one, is_plain, entry_over, entries_over, point_over}
use Rattle.av_tree.specs.Rows.{coefficient}
use Rattle.av_flat.specs.Points as flat
use Rattle.av_flat.proofs.Sets.{is_equal}
use Rattle.av_names.specs.Forms.{Context, filled, form_of, index_form, map_of, read_of}
use Rattle.av_names.specs.Regular.{AreKnown, IsMap, Reads, Projects}
use Rattle.av_names.proofs.Terms.{Names, index_value}

-- ---- images

-- the forms of index expressions give the point that these name
pub point_value : (sizes : Sizes) (names : List Text) (z : Point) (es : List IndexExpr) → Names names z → All (AreKnown sizes names) es
    → point_at (in_reach sizes names z) es ≡ Some (affine.image (map (form_of sizes names) es) z)
point_value sizes names z [] n h = refl
point_value sizes names z (e ∷ es) n h =
    rw (index_value sizes names z e n (All-head (AreKnown sizes names) e es h), point_value sizes names z es n (All-tail (AreKnown sizes names) e es h)) refl

-- at a point with as many entries as the map has names
pub image_value : (sizes : Sizes) (m : MapText) (z : Point) → IsMap sizes m → length m.names ≡ length z → length z ≤ 4
    → image sizes m z ≡ Some (affine.image (map_of sizes m).rows z)
image_value sizes m z h e f =
    rw (is_equal (length m.names) (length z) e) (point_value sizes m.names z m.results (record { distinct = h.distinct; few = omega (arith, e, f); suits = inr e }) h.known)

pub image_length : (rows : List Form) (z : Point) → length (affine.image rows z) ≡ length rows
image_length rows z = length-map rows (λ f. value_at f z)

-- ---- references

-- each point of at most four entries is its own image
own_image : (z : Point) → length z ≤ 4 → affine.image (map index_form (range_with_len 0 (length z))) z ≡ z
own_image [] h = refl
own_image (a ∷ []) h = rw (one) refl
  where
    one : value_at (index_form 0) (a ∷ []) ≡ a
    one = omega (arith, ints)
own_image (a ∷ b ∷ []) h = ap₂ (λ x y. x ∷ y ∷ []) one two
  where
    one : value_at (index_form 0) (a ∷ b ∷ []) ≡ a
    one = omega (arith, ints)

    two : value_at (index_form 1) (a ∷ b ∷ []) ≡ b
    two = omega (arith, ints)
own_image (a ∷ b ∷ c ∷ []) h = ap₂ (λ x ys. x ∷ ys) one (ap₂ (λ x y. x ∷ y ∷ []) two three)
  where
    one : value_at (index_form 0) (a ∷ b ∷ c ∷ []) ≡ a
    one = omega (arith, ints)

    two : value_at (index_form 1) (a ∷ b ∷ c ∷ []) ≡ b
    two = omega (arith, ints)

    three : value_at (index_form 2) (a ∷ b ∷ c ∷ []) ≡ c
    three = omega (arith, ints)
own_image (a ∷ b ∷ c ∷ d ∷ []) h = ap₂ (λ x ys. x ∷ ys) one (ap₂ (λ x ys. x ∷ ys) two (ap₂ (λ x y. x ∷ y ∷ []) three four))
  where
    one : value_at (index_form 0) (a ∷ b ∷ c ∷ d ∷ []) ≡ a
    one = omega (arith, ints)

    two : value_at (index_form 1) (a ∷ b ∷ c ∷ d ∷ []) ≡ b
    two = omega (arith, ints)

    three : value_at (index_form 2) (a ∷ b ∷ c ∷ d ∷ []) ≡ c
    three = omega (arith, ints)

    four : value_at (index_form 3) (a ∷ b ∷ c ∷ d ∷ []) ≡ d
    four = omega (arith, ints)
own_image (a ∷ b ∷ c ∷ d ∷ e ∷ z) h = absurd (omega (arith, h))

-- a point at which an expression stands in its context
pub record Stands (c : Context) (z : Point) : Type 0 where
  pub names : Names c.names z
  pub size : length z ≡ c.indices
  pub few : c.indices ≤ 4

pub read_value : (sizes : Sizes) (c : Context) (n : ℕ) (at : Access) (z : Point) → Stands c z → Reads sizes c n at
    → read_at sizes c.names at z ≡ Some (affine.image (read_of sizes c at).rows z)
read_value sizes c n access.Here z s h = rw (← s.size) (ap Some (sym (own_image z (let e = s.size in let f = s.few in omega (arith, e, f)))))
read_value sizes c n (access.Indices es) z s h = point_value sizes c.names z es s.names h.1
read_value sizes c n (access.Mapped m) z s h = image_value sizes m z h.2 (h.0 ∙ sym s.size) (let e = s.size in let f = s.few in omega (arith, e, f))

-- ---- projections

-- terms that are one index are it with the factor 1
plain_factor : (names : List Text) (name : Text) (terms : List Term) → Any (λ m. IsTrue (is_plain m terms)) names → is_plain name terms ≡ is_one (coefficient terms name)
plain_factor names name [] (k, m, l, e, h) = absurd cc
plain_factor names name (t ∷ s ∷ terms) (k, m, l, e, h) = absurd cc
plain_factor names name (t ∷ []) (k, m, l, e, h) = go (is_named name t.name)
  where
    both : (a b : Bool) → IsTrue (a && b) → b ≡ true
    both true b p = p
    both false b p = absurd cc

    factor : is_one t.factor ≡ true
    factor = both (is_named m t.name) (is_one t.factor) h

    go : (b : Bool) → b && is_one t.factor ≡ is_one ((if b then t.factor else pos 0) +ℤ pos 0)
    go true = ap is_one (let r : t.factor ≡ t.factor +ℤ pos 0 = omega (arith, ints) in r)
    go false = refl

get_filled : (xs : List ℤ) (place : ℕ) → place < 4 → get_or (filled xs) place (pos 0) ≡ get_or xs place (pos 0)
get_filled xs zero h = refl
get_filled xs (suc zero) h = refl
get_filled xs (suc (suc zero)) h = refl
get_filled xs (suc (suc (suc zero))) h = refl
get_filled xs (suc (suc (suc (suc place)))) h = absurd (omega (arith, h))

-- what a name has among all, it has at this place
abbrev StandsAt : List Text → ℕ → Text → Type 0
StandsAt names place name = (f : Text → ℤ) → get_or (map f names) place (pos 0) ≡ f name

entry_value : (sizes : Sizes) (names : List Text) (es : List IndexExpr) (z : Point) (k : ℤ) (place : ℕ) (name : Text) → place < 4 → StandsAt names place name
    → All (λ e. Any (λ m. IsTrue (is_plain m e.terms)) names) es → flat.entry_over (map (form_of sizes names) es) z k place ≡ entry_over es z k name
entry_value sizes names [] z k place name p s h = refl
entry_value sizes names (e ∷ es) [] k place name p s h = refl
entry_value sizes names (e ∷ es) (x ∷ z) k place name p s h =
    let plain = All-head (λ b. Any (λ m. IsTrue (is_plain m b.terms)) names) e es h in
    let rest = entry_value sizes names es z k place name p s (All-tail (λ b. Any (λ m. IsTrue (is_plain m b.terms)) names) e es h) in
    let test = plain_factor names name e.terms plain ∙ ap is_one (sym (get_filled (map (coefficient e.terms) names) place p ∙ s (coefficient e.terms))) in
    rw (test, rest) refl

entries_value : (sizes : Sizes) (names : List Text) (es : List IndexExpr) (z : Point) (k : ℤ) (rest : List Text) (place : ℕ)
    → place + length rest ≤ 4 → ((f : Text → ℤ) (j : ℕ) → get_or (map f names) (place + j) (pos 0) ≡ get_or (map f rest) j (pos 0))
    → All (λ e. Any (λ m. IsTrue (is_plain m e.terms)) names) es
    → map (flat.entry_over (map (form_of sizes names) es) z k) (range_with_len place (length rest)) ≡ entries_over es z k rest
entries_value sizes names es z k [] place p s h = refl
entries_value sizes names es z k (name ∷ rest) place p s h =
    let here = λ (f : Text → ℤ). ap (λ j. get_or (map f names) j (pos 0)) (let e : place ≡ place + 0 = omega arith in e) ∙ s f 0 in
    let later = λ (f : Text → ℤ) (j : ℕ). ap (λ l. get_or (map f names) l (pos 0)) (let e : (place + 1) + j ≡ place + suc j = omega arith in e) ∙ s f (suc j) in
    ap₂ (λ x ys. x ∷ ys) (entry_value sizes names es z k place name (omega (arith, p)) here h) (entries_value sizes names es z k rest (place + 1) (omega (arith, p)) later h)

pub over_value : (sizes : Sizes) (m : MapText) (z : Point) (k : ℤ) → length m.names ≤ 4 → Projects m → flat.point_over (map_of sizes m) z k ≡ point_over m z k
over_value sizes m z k f h = entries_value sizes m.names m.results z k m.names 0 (omega (arith, f)) (λ g j. ap (λ l. get_or (map g m.names) l (pos 0)) (let e : 0 + j ≡ j = omega arith in e)) h.plain

pub over_length : (es : List IndexExpr) (z : Point) (k : ℤ) (names : List Text) → length (entries_over es z k names) ≡ length names
over_length es z k [] = refl
over_length es z k (name ∷ names) = ap suc (over_length es z k names)
