-- What holds of the places of trees that read and of their references, and what is gathered from them.
use Rattle.std.proofs.Common.{◌≡◌, ℕ, ◌+◌, List, [], ◌++◌, length, refl, sym, ap₂, ◌∙◌}
use Rattle.std.specs.List.{flat_map, AllByRecursion}
use Rattle.std.proofs.lemmas.List.{append-nil}
use Rattle.std.proofs.lemmas.List.Concat.{flat_map-append}
use Rattle.av_base.specs.declared.word.Op.{Op}
use Rattle.av_affine.specs.declared.map.Map.{Map}
use Rattle.av_poly.specs.Points.{Set}
use Rattle.av_tree.specs.declared.relation.Relation.{Relation}
use Rattle.av_tree.specs.declared.sign.Sign.{Sign}
use Rattle.av_flat.specs.declared.tree.Choice.{Choice}
use Rattle.av_flat.specs.Trees.{Tree, Trees, reference, constant, binary, choice, restriction, cases, dependence, reduction, pick}
use Rattle.av_flat.specs.Broadcasts.{Reference, references}
use Rattle.av_flat.specs.Sites.{Place, places_in}
use Rattle.av_flat.specs.inner.Walked.{reference_at}
use Rattle.av_base.proofs.Lists.{each_append}

-- ---- what a tree hands down to its parts

module _ (P : Tree → Type 0) (two : (g : Sign) (l r : Tree) → P (binary g l r) → P l × P r) (four : (l : Tree) (c : Relation) (r x y : Tree) → P (choice l c r x y) → P l × P r × P x × P y) where
  pub each_reference : (t : Tree) → P t → AllByRecursion (λ (r : Reference). P (reference r.place r.map)) (references t)
  each_reference (reference place m) h = (h, tt)
  each_reference (constant w) h = tt
  each_reference (binary g l r) h =
      let parts = two g l r h in
      each_append (λ (q : Reference). P (reference q.place q.map)) (references l) (references r) (each_reference l parts.0) (each_reference r parts.1)
  each_reference (choice l c r x y) h =
      let parts = four l c r x y h in
      let Q = λ (q : Reference). P (reference q.place q.map) in
      let a = references l in
      let b = references r in
      let d = references x in
      each_append Q (a ++ b ++ d) (references y) (each_append Q (a ++ b) d (each_append Q a b (each_reference l parts.0) (each_reference r parts.1)) (each_reference x parts.2)) (each_reference y parts.3)
  each_reference (restriction d t) h = tt
  each_reference (cases ts) h = tt
  each_reference (dependence m t) h = tt
  each_reference (reduction o m t set) h = tt
  each_reference (pick place choices w) h = tt

  pub each_place : (k n : ℕ) (t : Tree) → P t → AllByRecursion (λ (p : Place). P p.tree) (places_in k n t)
  each_place k n (reference place m) h = (h, tt)
  each_place k n (constant w) h = tt
  each_place k n (binary g l r) h =
      let parts = two g l r h in
      let i = n + length (references l) in
      each_append (λ (p : Place). P p.tree) (places_in k n l) (places_in k i r) (each_place k n l parts.0) (each_place k i r parts.1)
  each_place k n (choice l c r x y) h =
      let parts = four l c r x y h in
      let Q = λ (p : Place). P p.tree in
      let i = n + length (references l) in
      let j = i + length (references r) in
      let m = j + length (references x) in
      let ls = places_in k n l in
      let rs = places_in k i r in
      let xs = places_in k j x in
      each_append Q (ls ++ rs ++ xs) (places_in k m y) (each_append Q (ls ++ rs) xs (each_append Q ls rs (each_place k n l parts.0) (each_place k i r parts.1)) (each_place k j x parts.2)) (each_place k m y parts.3)
  each_place k n (restriction d t) h = tt
  each_place k n (cases ts) h = tt
  each_place k n (dependence m t) h = tt
  each_place k n (reduction o m t set) h = tt
  each_place k n (pick place choices w) h = (h, tt)

-- ---- what is gathered place by place

-- what is gathered from a tree is what is gathered from its places: g says of a tree what f says of a place
pub record IsByParts {X : Type 0} (f g : Tree → List X) : Type 0 where
  pub of_reference : (place : ℕ) (m : Map) → g (reference place m) ≡ f (reference place m)
  pub of_pick : (place : ℕ) (choices : List Choice) (w : ℕ) → g (pick place choices w) ≡ f (pick place choices w)
  pub of_binary : (s : Sign) (l r : Tree) → g (binary s l r) ≡ g l ++ g r
  pub of_choice : (l : Tree) (c : Relation) (r x y : Tree) → g (choice l c r x y) ≡ g l ++ g r ++ g x ++ g y
  pub of_constant : (w : ℕ) → g (constant w) ≡ []
  pub of_restriction : (d : Set) (t : Tree) → g (restriction d t) ≡ []
  pub of_cases : (ts : Trees) → g (cases ts) ≡ []
  pub of_dependence : (m : Map) (t : Tree) → g (dependence m t) ≡ []
  pub of_reduction : (o : Op) (m : Map) (t : Tree) (set : Set) → g (reduction o m t set) ≡ []

pub gathered : {X : Type 0} (f g : Tree → List X) → IsByParts f g → (k n : ℕ) (t : Tree) → flat_map (λ (p : Place). f p.tree) (places_in k n t) ≡ g t
gathered f g h k n (reference place m) = append-nil (f (reference place m)) ∙ sym (h.of_reference place m)
gathered f g h k n (constant w) = sym (h.of_constant w)
gathered {X} f g h k n (binary s l r) =
    let i = n + length (references l) in
    flat_map-append (λ (p : Place). f p.tree) (places_in k n l) (places_in k i r) ∙ ap₂ (λ (a b : List X). a ++ b) (gathered f g h k n l) (gathered f g h k i r) ∙ sym (h.of_binary s l r)
gathered {X} f g h k n (choice l c r x y) =
    let q = λ (p : Place). f p.tree in
    let join = λ (a b : List X). a ++ b in
    let i = n + length (references l) in
    let j = i + length (references r) in
    let m = j + length (references x) in
    let ls = places_in k n l in
    let rs = places_in k i r in
    let xs = places_in k j x in
    let two = flat_map-append q ls rs ∙ ap₂ join (gathered f g h k n l) (gathered f g h k i r) in
    let three = flat_map-append q (ls ++ rs) xs ∙ ap₂ join two (gathered f g h k j x) in
    flat_map-append q (ls ++ rs ++ xs) (places_in k m y) ∙ ap₂ join three (gathered f g h k m y) ∙ sym (h.of_choice l c r x y)
gathered f g h k n (restriction d t) = sym (h.of_restriction d t)
gathered f g h k n (cases ts) = sym (h.of_cases ts)
gathered f g h k n (dependence m t) = sym (h.of_dependence m t)
gathered f g h k n (reduction o m t set) = sym (h.of_reduction o m t set)
gathered f g h k n (pick place choices w) = append-nil (f (pick place choices w)) ∙ sym (h.of_pick place choices w)

pub references_gathered : (k n : ℕ) (t : Tree) → flat_map (λ (p : Place). reference_at p.tree) (places_in k n t) ≡ references t
references_gathered k n t =
    let by_parts : IsByParts reference_at references = record {
      of_reference = λ place m. refl;
      of_pick = λ place choices w. refl;
      of_binary = λ s l r. refl;
      of_choice = λ l c r x y. refl;
      of_constant = λ w. refl;
      of_restriction = λ d t. refl;
      of_cases = λ ts. refl;
      of_dependence = λ m t. refl;
      of_reduction = λ o m t set. refl;
    } in
    gathered reference_at references by_parts k n t
