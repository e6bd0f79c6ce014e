-- The helpers of a cell as helpers of the array, and the modes of their lanes.
use Rattle.std.proofs.Common.{◌≡◌, ℕ, zero, suc, ◌+◌, ◌<◌, List, [], ◌∷◌, ◌++◌, length, refl, sym, ap, subst, ◌∙◌, arith, inl, inr, Some, length-append}
use Rattle.std.specs.Prelude.{slice_get}
use Rattle.av_base.proofs.Lists.{get_cases, get_first, some_is, there_is}
use Rattle.av_affine.specs.declared.map.Map.{Map}
use Rattle.av_tree.specs.Points.{Point}
use Rattle.av_flat.specs.declared.timed.Helper.{Helper}
use Rattle.av_flat.specs.Trees.{Tree, Piece, Variable, FlatSystem, view, view_piece, view_variable, reference, constant, binary, choice, restriction, cases, dependence, reduction, pick}
use Rattle.av_flat.specs.Broadcasts.{Reference, references}
use Rattle.av_flat.specs.Nodes.{number_at}
use Rattle.av_flat.specs.Signatures.{signatures}
use Rattle.av_space.specs.declared.array.Array.{Array as ArrayMade}
use Rattle.av_space.specs.declared.spots.Site.{Site}
use Rattle.av_space.specs.declared.spots.Spot.{Spot as SpotMade}
use Rattle.av_flat.specs.Sites.{place_of, Place, places_in}
use Rattle.av_space.specs.Spots.{system_of, helpers_of, IsArray, IsSpot, IsSiteOf, pipeline_by}
use Rattle.av_space.specs.Taps.{Pipeline, helper_at}
use Rattle.av_space.proofs.Elements.{at_index, in_range}
use Rattle.av_space.proofs.Helpers.{found_helper}
use Rattle.av_space.proofs.SpotPlaces.{IsPlaceBy, place_read}
use Rattle.av_space.proofs.SpotReadings.{known}
use Rattle.av_history.specs.Performing.{Lanes, Spot, IsHelper, helper_spot}
use Rattle.av_build.specs.declared.blueprint.HelperPlan.{HelperPlan}
use Rattle.av_build.specs.declared.blueprint.Pieces.{Pieces}
use Rattle.av_build.specs.declared.moments.PipelineMoments.{PipelineMoments}
use Rattle.av_build.specs.inner.Blueprints.{seen, spot_of, spots_on, ArePieces}
use Rattle.av_build.specs.inner.Sources.{ArePipelineMomentsTo}
use Rattle.av_build.proofs.Appended.{get_right}
use Rattle.av_build.proofs.HelpersOn.{IsFromPlace}
use Rattle.av_build.proofs.MomentLemmas.{AreSpotSlots}
use Rattle.av_build.proofs.SpotNodes.{node_of, spot_slots}

-- a place with a helper is a reference
pub record IsReference (p : Place) : Type 0 where
  pub place : ℕ
  pub map_is : Map
  pub tree : p.tree ≡ reference place map_is

pub by_tree : (hs : List Helper) (own : ℕ) (p : Place) (t : Tree) (h : Pipeline) → p.tree ≡ t → pipeline_by hs own p t ≡ Some h → IsReference p × (helper_at hs own p.piece p.site ≡ Some h)
by_tree hs own p (reference place m) h e f = (record { place = place; map_is = m; tree = e }, f)
by_tree hs own p (pick place choices n) h e f = absurd cc
by_tree hs own p (constant n) h e f = absurd cc
by_tree hs own p (binary g l r) h e f = absurd cc
by_tree hs own p (choice l c r x y) h e f = absurd cc
by_tree hs own p (restriction d u) h e f = absurd cc
by_tree hs own p (cases ts) h e f = absurd cc
by_tree hs own p (dependence m u) h e f = absurd cc
by_tree hs own p (reduction o m u set) h e f = absurd cc

-- ---- the place of a reference

-- of each reference there is a place with its number, counted from n on
abbrev pub Tells : ℕ → ℕ → List Place → List Reference → Type 0
Tells k n ps rs = (i : ℕ) (r : Reference) → slice_get rs i ≡ Some r → (j : ℕ) × (slice_get ps j ≡ Some (record { piece = k; site = n + i; tree = reference r.place r.map }))

both_told : (k n m : ℕ) (ps qs : List Place) (rs more : List Reference) → m ≡ n + length rs → Tells k n ps rs → Tells k m qs more → Tells k n (ps ++ qs) (rs ++ more)
both_told k n m ps qs rs more e f g = λ i r is. (elim (get_cases rs more i r is) [
  | inl l ↦ (let x = f i r l in (x.0, get_first ps qs x.0 (record { piece = k; site = n + i; tree = reference r.place r.map }) x.1))
  | inr b ↦ (
      let x = g b.0 r b.2 in
      let d = b.1 in
      let same : m + b.0 ≡ n + i = omega (arith, e, d) in
      (length ps + x.0, get_right ps qs x.0 (record { piece = k; site = n + i; tree = reference r.place r.map }) (subst (λ (s : ℕ). slice_get qs x.0 ≡ Some (record { piece = k; site = s; tree = reference r.place r.map })) same x.1)))
])

one : (k n place : ℕ) (m : Map) (i : ℕ) (r : Reference) → slice_get (record { place = place; map = m } ∷ []) i ≡ Some r
    → (j : ℕ) × (slice_get (places_in k n (reference place m)) j ≡ Some (record { piece = k; site = n + i; tree = reference r.place r.map }))
one k n place m zero r e =
    let a : n ≡ n + 0 = omega arith in
    let same : ◌≡◌ {A = Reference} (record { place = place; map = m }) r = some_is (record { place = place; map = m }) r e in
    (0, ap (λ (x : ℕ). Some (record { piece = k; site = x; tree = reference place m })) a ∙ ap (λ (x : Reference). Some (record { piece = k; site = n + 0; tree = reference x.place x.map })) same)
one k n place m (suc i) r e = absurd cc

pub told : (k n : ℕ) (t : Tree) → Tells k n (places_in k n t) (references t)
told k n (reference place m) = λ i r e. one k n place m i r e
told k n (binary g l r) = both_told k n (n + length (references l)) (places_in k n l) (places_in k (n + length (references l)) r) (references l) (references r) refl (told k n l) (told k (n + length (references l)) r)
told k n (choice l c r x y) =
    let ls = references l in
    let rs = references r in
    let xs = references x in
    let ys = references y in
    let nr = n + length ls in
    let nx = nr + length rs in
    let ny = nx + length xs in
    let a = length-append ls rs in
    let b = length-append (ls ++ rs) xs in
    let la = places_in k n l in
    let ra = places_in k nr r in
    let xa = places_in k nx x in
    let two = both_told k n nr la ra ls rs refl (told k n l) (told k nr r) in
    let three = both_told k n nx (la ++ ra) xa (ls ++ rs) xs (omega (arith, a)) two (told k nx x) in
    both_told k n ny (la ++ ra ++ xa) (places_in k ny y) (ls ++ rs ++ xs) ys (omega (arith, a, b)) three (told k ny y)
told k n (constant w) = λ i r e. absurd cc
told k n (restriction d t) = λ i r e. absurd cc
told k n (cases ts) = λ i r e. absurd cc
told k n (dependence m t) = λ i r e. absurd cc
told k n (reduction o m t set) = λ i r e. absurd cc
told k n (pick place choices w) = λ i r e. absurd cc

-- ---- the helper of a place

module _ (w : ArrayMade) (is : IsArray w) (p : ℕ) (pieces : Pieces) (are : ArePieces w p pieces) where
  abbrev s : FlatSystem
  s = system_of w

  pub spot_at : (k : ℕ) (at : SpotMade) → slice_get (spots_on w pieces) k ≡ Some at → (at.cell.0 ≡ p) × (0 < length at.slots) × IsSpot w at
  spot_at k at e = at_index (λ (at : SpotMade). (at.cell.0 ≡ p) × (0 < length at.slots) × IsSpot w at) (spots_on w pieces) are.spots.each k at e

  -- a place with a helper, as a helper of the array
  pub record IsHelped (h : HelperPlan) (at : SpotMade) (mine : Site) (pipeline : Pipeline) : Type 0 where
    pub is_spot : slice_get (spots_on w pieces) h.piece ≡ Some at
    pub placed : IsSiteOf w at mine
    pub helper : Helper
    pub place : ℕ
    pub map_is : Map
    pub tree : view mine.place.tree ≡ reference place map_is
    pub helps : IsHelper (seen w) h.number helper (view_variable at.var.now) (view_piece at.piece.now) (record { place = place; map = map_is })
    pub node : number_at s helper.var ≡ at.node.0
    pub piece : helper.piece ≡ at.number
    pub site : helper.site ≡ mine.place.site
    pub direction : helper.direction ≡ pipeline.direction

  pub helped : (h : HelperPlan) (on : IsFromPlace pieces h) → (at : SpotMade) × IsHelped h at on.site on.pipeline
  helped h on =
      let many = are.one_each in
      let low = in_range pieces.sites h.piece on.sites on.are_sites in
      let here = there_is (spots_on w pieces) h.piece (omega (arith, many, low)) in
      let at = here.0 in
      let spot = (spot_at h.piece at here.1).2 in
      let own = are.sites h.piece at on.sites here.1 on.are_sites in
      let placed = at_index (IsSiteOf w at) on.sites own.each h.site on.site on.is_site in
      let q = place_of on.site.place in
      let b = by_tree (helpers_of w) at.place.0 q q.tree on.pipeline refl (sym placed.pipeline ∙ on.is_pipeline) in
      let r = b.0 in
      let piece = (place_read at.number (view at.piece.now.tree) q placed.is_place).piece_is in
      let found = ap (λ (k : ℕ). helper_at (helpers_of w) at.place.0 k q.site) (sym piece) ∙ b.1 in
      let f = found_helper (helpers_of w) 0 at.place.0 at.number q.site on.pipeline found in
      let n = node_of w at spot in
      let same : f.at ≡ h.number = (let e = f.number_is in let g = on.number in omega (arith, e, g)) in
      let pipeline : ◌≡◌ {A = Pipeline} on.pipeline (record { number = h.number; direction = f.helper.direction }) =
      ap (λ (k : ℕ). record { number = k; direction = on.pipeline.direction }) (sym on.number) ∙ ap (λ (z : Point). record { number = h.number; direction = z }) (sym f.direction_is) in
      let whole : slice_get (references (view at.piece.now.tree)) q.site ≡ Some (record { place = r.place; map = r.map_is }) =
      subst (IsPlaceBy (signatures s) (references (view at.piece.now.tree)) q) r.tree (known w is at spot on.site placed) in (
        at,
        record {
          is_spot = here.1;
          placed = placed;
          helper = f.helper;
          place = r.place;
          map_is = r.map_is;
          tree = r.tree;
          helps = record {
            is_helper = subst (λ (k : ℕ). slice_get (helpers_of w) k ≡ Some f.helper) same f.is_helper;
            is_first = ap (λ (k : ℕ). helper_at (helpers_of w) k f.helper.piece f.helper.site) f.var_is ∙ ap (λ (k : ℕ). helper_at (helpers_of w) at.place.0 k f.helper.site) f.piece_is
                ∙ ap (λ (k : ℕ). helper_at (helpers_of w) at.place.0 at.number k) f.site_is ∙ found ∙ ap (λ (x : Pipeline). Some x) pipeline;
            is_variable = ap (slice_get s.variables) f.var_is ∙ n.variable;
            is_node = n.node;
            is_piece = ap (slice_get (view_variable at.var.now).pieces) f.piece_is ∙ spot.is_piece;
            is_reference = ap (slice_get (references (view at.piece.now.tree))) f.site_is ∙ whole;
          };
          node = ap (number_at s) f.var_is ∙ n.number;
          piece = f.piece_is;
          site = f.site_is;
          direction = f.direction_is;
        },
      )

  -- whichever way the helper is told
  module _ (h : HelperPlan) (on : IsFromPlace pieces h) (at : SpotMade) (e : IsHelped h at on.site on.pipeline) (other : Helper) (v : Variable) (piece : Piece) (r : Reference) (it : IsHelper (seen w) h.number other v piece r) where
    same : e.helper ≡ other
    same = some_is e.helper other (sym e.helps.is_helper ∙ it.is_helper)

    pub variable_is : view_variable at.var.now ≡ v
    variable_is = some_is (view_variable at.var.now) v (sym e.helps.is_variable ∙ ap (λ (k : Helper). slice_get s.variables k.var) same ∙ it.is_variable)

    piece_is : view_piece at.piece.now ≡ piece
    piece_is = some_is (view_piece at.piece.now) piece
        (sym e.helps.is_piece ∙ ap (λ (k : Helper). slice_get (view_variable at.var.now).pieces k.piece) same ∙ ap (λ (u : Variable). slice_get u.pieces other.piece) variable_is ∙ it.is_piece)

    read_is : ◌≡◌ {A = Reference} (record { place = e.place; map = e.map_is }) r
    read_is = some_is (record { place = e.place; map = e.map_is }) r
        (sym e.helps.is_reference ∙ ap (λ (k : Helper). slice_get (references (view at.piece.now.tree)) k.site) same ∙ ap (λ (q : Piece). slice_get (references q.tree) other.site) piece_is ∙ it.is_reference)

    pub spot_is : spot_of at ≡ helper_spot (seen w) other v piece p
    spot_is =
        ap (λ (k : ℕ). record { cell = k; node = at.node.0; variable = view_variable at.var.now; number = at.number; piece = view_piece at.piece.now }) (spot_at h.piece at e.is_spot).0
        ∙ ap (λ (k : ℕ). record { cell = p; node = k; variable = view_variable at.var.now; number = at.number; piece = view_piece at.piece.now }) (sym e.node ∙ ap (λ (k : Helper). number_at s k.var) same)
        ∙ ap (λ (u : Variable). record { cell = p; node = number_at s other.var; variable = u; number = at.number; piece = view_piece at.piece.now }) variable_is
        ∙ ap (λ (k : ℕ). record { cell = p; node = number_at s other.var; variable = v; number = k; piece = view_piece at.piece.now }) (sym e.piece ∙ ap (λ (k : Helper). k.piece) same)
        ∙ ap (λ (q : Piece). record { cell = p; node = number_at s other.var; variable = v; number = other.piece; piece = q }) piece_is

    pub site_is : on.site.place.site ≡ other.site
    site_is = sym e.site ∙ ap (λ (k : Helper). k.site) same

    pub tree_is : view on.site.place.tree ≡ reference r.place r.map
    tree_is = e.tree ∙ ap (λ (x : Reference). reference x.place x.map) read_is

    pub pipeline_is : ◌≡◌ {A = Pipeline} on.pipeline (record { number = h.number; direction = other.direction })
    pipeline_is = ap (λ (k : ℕ). record { number = k; direction = on.pipeline.direction }) (sym on.number) ∙ ap (λ (z : Point). record { number = h.number; direction = z }) (sym e.direction ∙ ap (λ (k : Helper). k.direction) same)

    -- the moments of the place are those of the helper
    pub moments_are : (count : ℕ → ℕ) (lanes : Lanes) (order : List ℕ) (found : PipelineMoments) → ArePipelineMomentsTo (seen w) count lanes (spot_of at) on.site.place.site on.pipeline (view on.site.place.tree) at.slots order (length order) found
        → ArePipelineMomentsTo (seen w) count lanes (helper_spot (seen w) other v piece p) other.site (record { number = h.number; direction = other.direction }) (reference r.place r.map) at.slots order (length order) found
    moments_are count lanes order found m =
        subst (λ (x : Spot). ArePipelineMomentsTo (seen w) count lanes x other.site (record { number = h.number; direction = other.direction }) (reference r.place r.map) at.slots order (length order) found) spot_is
        (subst (λ (i : ℕ). ArePipelineMomentsTo (seen w) count lanes (spot_of at) i (record { number = h.number; direction = other.direction }) (reference r.place r.map) at.slots order (length order) found) site_is
        (subst (λ (t : Tree). ArePipelineMomentsTo (seen w) count lanes (spot_of at) on.site.place.site (record { number = h.number; direction = other.direction }) t at.slots order (length order) found) tree_is
        (subst (λ (x : Pipeline). ArePipelineMomentsTo (seen w) count lanes (spot_of at) on.site.place.site x (view on.site.place.tree) at.slots order (length order) found) pipeline_is m)))

    -- and so are its computations
    pub slots_are : AreSpotSlots (seen w) (helper_spot (seen w) other v piece p) at.slots
    slots_are = subst (λ (x : Spot). AreSpotSlots (seen w) x at.slots) spot_is (spot_slots w at (spot_at h.piece at e.is_spot).2)
