-- Points under maps, by composed maps.
use Rattle.std.proofs.Common.{◌≡◌, ◌↔◌, ℕ, suc, ◌<◌, ◌≤◌, ◌+◌, ◌^◌, max, List, [], ◌∷◌, length, map, fold, get_or, drop, length-drop, Result, Err, refl, sym, ap, subst, ◌∙◌, arith, All}
use Rattle.std.proofs.Math.Seq.{drop-cons}
use Rattle.std.specs.List.{AllByRecursion}
use Rattle.std.specs.Int.RustNames.{unsigned_abs}
use Rattle.std.proofs.lemmas.List.{length-map, nil_from_length}
use Rattle.std.proofs.lemmas.List.Elements.{All-head, All-tail, recursion_from_All}
use Rattle.av_affine.specs.declared.form.Form.{Form}
use Rattle.av_affine.specs.declared.map.Map.{Map}
use Rattle.av_affine.specs.declared.map.Over.{Over}
use Rattle.av_affine.specs.declared.map.Over.TheVariants as over
use Rattle.av_affine.specs.Numbers.{greatest}
use Rattle.av_affine.specs.Forms.{IsWithinLimits, value_at}
use Rattle.av_affine.specs.Maps.{image, composition, greatest_coefficient, greatest_constant}
use Rattle.av_tree.specs.Points.{Point}
use Rattle.av_flat.specs.Pieces.{composed}
use Rattle.av_flat.specs.Quantities.{steps}
use Rattle.av_flat.proofs.Parts.{composed_image}
use Rattle.av_flat.proofs.Parts as parts
use Rattle.av_check.specs.inner.Reachable.{reach, HasSmallForms, IsChain, IsOnTheWay}

-- ---- compositions within limits are not refused

most_of : {X : Type 0} (f : X → ℕ) (a : ℕ) (xs : List X) (b : ℕ) → a ≤ b → AllByRecursion (λ x. f x ≤ b) xs → fold max a (map f xs) ≤ b
most_of f a [] b h k = h
most_of f a (x ∷ xs) b h k = let l = k.0 in most_of f (max a (f x)) xs b (omega (arith, h, l)) k.1

coefficients_most : (rows : List Form) → AllByRecursion IsWithinLimits rows → AllByRecursion (λ f. greatest f.coef ≤ 1024) rows
coefficients_most [] h = tt
coefficients_most (f ∷ rows) h = (most_of unsigned_abs 0 f.coef 1024 (omega arith) (recursion_from_All (λ x. unsigned_abs x ≤ 1024) f.coef h.0.coefficients), coefficients_most rows h.1)

constants_most : (rows : List Form) → AllByRecursion IsWithinLimits rows → AllByRecursion (λ f. unsigned_abs f.constant ≤ 2 ^ 20) rows
constants_most [] h = tt
constants_most (f ∷ rows) h = (h.0.constant, constants_most rows h.1)

pub not_refused : (rows : List Form) (e : Over) (r : Result Map Over) → r ≡ Err e → All IsWithinLimits rows
    → ((n : ℕ) → (r ≡ Err (over.Coefficient n)) ↔ ((n ≡ greatest_coefficient rows) × (1024 < n)))
    → ((n : ℕ) → (r ≡ Err (over.Constant n)) ↔ ((greatest_coefficient rows ≤ 1024) × (n ≡ greatest_constant rows) × (2 ^ 20 < n))) → ⊥
not_refused rows (over.Coefficient n) r p h f g =
    let w = (f n).0 p in
    let e = w.0 in
    let l = w.1 in
    let most = most_of (λ row. greatest row.coef) 0 rows 1024 (omega arith) (coefficients_most rows (recursion_from_All IsWithinLimits rows h)) in
    omega (arith, e, l, most)
not_refused rows (over.Constant n) r p h f g =
    let w = (g n).0 p in
    let e = w.1 in
    let l = w.2 in
    let most = most_of (λ row. unsigned_abs row.constant) 0 rows (2 ^ 20) (omega arith) (constants_most rows (recursion_from_All IsWithinLimits rows h)) in
    omega (arith, e, l, most)

-- ---- composed maps

reach_is : (ds : List Map) (z : Point) → reach ds z ≡ parts.reach ds z
reach_is [] z = refl
reach_is (d ∷ ds) z = ap (image d.rows) (reach_is ds z)

chain_is : (ds : List Map) (z : Point) → IsChain ds z → parts.Chain ds z
chain_is [] z h = h
chain_is (d ∷ ds) z h = (subst (λ (y : Point). d.from ≡ length y) (reach_is ds z) h.0, h.1, chain_is ds z h.2)

image_composed : (m : Map) (ds : List Map) (z : Point) → IsChain ds z → image (composed m ds).rows z ≡ image m.rows (reach ds z)
image_composed m ds z h = composed_image m ds z (chain_is ds z h) ∙ ap (image m.rows) (sym (reach_is ds z))

dropped : (under : List Map) (i : ℕ) (d : Map) → i < length under → drop i under ≡ get_or under i d ∷ drop (i + 1) under
dropped under i d l = let e : suc i ≡ i + 1 = omega arith in drop-cons under i d l ∙ ap (λ (j : ℕ). get_or under i d ∷ drop j under) e

next_map : (m : Map) (under : List Map) (z : Point) (whole : Map) (i : ℕ) (d : Map) → i < length under → d ≡ get_or under i d → IsOnTheWay m under z whole (drop i under) → IsOnTheWay m under z whole (d ∷ drop (i + 1) under)
next_map m under z whole i d l e h =
    let P : List Map → Type 0 = λ (rest : List Map). IsOnTheWay m under z whole rest in
    subst P (dropped under i d l ∙ ap (λ x. x ∷ drop (i + 1) under) (sym e)) h

module _ (m : Map) (under : List Map) (z : Point) (whole : Map) (i : ℕ) (d : Map) (l : i < length under) (e : d ≡ get_or under i d) (h : IsOnTheWay m under z whole (drop i under)) where
  abbrev way : IsOnTheWay m under z whole (d ∷ drop (i + 1) under)
  way = next_map m under z whole i d l e h

  pub way_fits : whole.from ≡ length d.rows
  way_fits = way.stands.from ∙ length-map d.rows (λ f. value_at f (reach (drop (i + 1) under) z))

  pub way_own : All IsWithinLimits whole.rows
  way_own = way.stands.own

  pub way_outer : All IsWithinLimits d.rows
  way_outer = All-head HasSmallForms d (drop (i + 1) under) way.stands.under

  pub way_limits : All IsWithinLimits (composition whole d).rows
  way_limits = All-head HasSmallForms (composition whole d) (steps (composition whole d) (drop (i + 1) under)) way.stands.composed

  pub way_next : (next : Map) → next ≡ composition whole d → IsOnTheWay m under z next (drop (i + 1) under)
  way_next next p =
      let P : Map → Type 0 = λ (x : Map). IsOnTheWay m under z x (drop (i + 1) under) in
      subst P (sym p) (record {
        stands = record {
          from = way.stands.chain.0;
          chain = way.stands.chain.2;
          own = way_limits;
          under = All-tail HasSmallForms d (drop (i + 1) under) way.stands.under;
          composed = All-tail HasSmallForms (composition whole d) (steps (composition whole d) (drop (i + 1) under)) way.stands.composed;
        };
        same = way.same;
      })

pub way_done : (m : Map) (under : List Map) (z : Point) (whole : Map) → IsChain under z → IsOnTheWay m under z whole [] → image whole.rows z ≡ image m.rows (reach under z)
way_done m under z whole c h = ap (λ (x : Map). image x.rows z) h.same ∙ image_composed m under z c

pub way_ended : (m : Map) (under : List Map) (z : Point) (whole : Map) (i : ℕ) → length under ≤ i → IsOnTheWay m under z whole (drop i under) → IsOnTheWay m under z whole []
way_ended m under z whole i l h =
    let e = length-drop i under in
    subst (λ (rest : List Map). IsOnTheWay m under z whole rest) (nil_from_length (drop i under) (omega (arith, e, l))) h
