-- The place of a piece at which the words of an input port are read.
use Rattle.std.proofs.Common.{◌≡◌, ℕ, ◌+◌, ◌<◌, List, length, drop, map, refl, sym, ap, subst, ◌∙◌, arith, true, Some, None}
use Rattle.std.specs.Prelude.{Contains, nat_eq, slice_get}
use Rattle.av_base.specs.declared.width.Width.{Width}
use Rattle.av_base.proofs.Lists.{get_mapped, some_is, there_is, place_in}
use Rattle.av_base.proofs.Pieces.{same_eq}
use Rattle.av_affine.specs.declared.map.Map.{Map}
use Rattle.av_tree.specs.Points.{Point}
use Rattle.av_flat.specs.Trees.{Tree, Piece, Variable, FlatSystem, view, view_piece, reference, constant, binary, choice, restriction, cases, dependence, reduction, pick}
use Rattle.av_flat.specs.Broadcasts.{Reference, references}
use Rattle.av_flat.specs.Nodes.{nodes}
use Rattle.av_flat.specs.Signatures.{signatures}
use Rattle.av_space.specs.declared.array.Array.{Array as ArrayMade}
use Rattle.av_space.specs.declared.cells.InPort.{InPort}
use Rattle.av_space.specs.declared.spots.Site.{Site}
use Rattle.av_space.specs.declared.spots.Spot.{Spot as SpotMade}
use Rattle.av_space.specs.Ports.{IsPort}
use Rattle.av_flat.specs.Sites.{place_of, Place}
use Rattle.av_space.specs.Spots.{system_of, helpers_of, placings_of, cells_of, ComputesIn, IsSpot, IsSiteOf}
use Rattle.av_space.proofs.ByPlace.{from_map}
use Rattle.av_space.proofs.Elements.{in_range}
use Rattle.av_space.proofs.Helpers.{equal}
use Rattle.av_space.proofs.SpotPlaces.{IsPlaceBy}
use Rattle.av_space.proofs.SpotReadings.{known}
use Rattle.std.proofs.lemmas.List.Elements.{All-contains}
use Rattle.av_history.specs.Widths.{read_width, width_at}
use Rattle.av_build.specs.declared.blueprint.Blueprint.{Blueprint}
use Rattle.av_build.specs.declared.blueprint.CellPlan.{CellPlan}
use Rattle.av_build.specs.declared.spots.SpotPlan.{SpotPlan}
use Rattle.av_build.specs.inner.Blueprints.{seen, spots_on, ArePieces, IsBlueprint}
use Rattle.av_build.specs.inner.Built.{IsPortWidth}
use Rattle.av_build.specs.inner.Lanes.{HasVariable, is_reference_at, HasReference, IsPortPlace, HasPortPlace}
use Rattle.av_build.specs.inner.SpotPlans.{spot_by}
use Rattle.av_build.proofs.SpotNodes.{computed_piece}
use Rattle.av_build.proofs.HelperPlaces.{told, spot_at}
use Rattle.av_build.proofs.LatePlaces.{among_dropped, from_dropped, late}
use Rattle.av_build.proofs.SpotsOn.{variable_there}

-- a place that is the reference with a number
record IsReferenceAt (n i : ℕ) (t : Tree) : Type 0 where
  number : i ≡ n
  place : ℕ
  map_is : Map
  tree : t ≡ reference place map_is

reference_at : (n i : ℕ) (t : Tree) → is_reference_at n i t ≡ true → IsReferenceAt n i t
reference_at n i (reference place m) e = record { number = equal i n e; place = place; map_is = m; tree = refl }
reference_at n i (constant k) e = absurd cc
reference_at n i (binary g l r) e = absurd cc
reference_at n i (choice l c r x y) e = absurd cc
reference_at n i (restriction d t) e = absurd cc
reference_at n i (cases ts) e = absurd cc
reference_at n i (dependence m t) e = absurd cc
reference_at n i (reduction o m t set) e = absurd cc
reference_at n i (pick place choices k) e = absurd cc

module _ (b : Blueprint) (is : IsBlueprint b) (port : InPort) (among : Contains b.array.cells.now.inputs port) where
  abbrev w : ArrayMade
  w = b.array

  abbrev s : FlatSystem
  s = system_of w

  is_port : IsPort s (helpers_of w) (placings_of w) (cells_of w) port
  is_port = All-contains (IsPort s (helpers_of w) (placings_of w) (cells_of w)) w.cells.now.inputs port is.array.ports.each among

  -- the cell of the port
  pub low : port.cell < length b.cells
  low =
      let computes = is_port.4.computes in
      let l = in_range (cells_of w) port.cell computes.cell computes.is_cell in
      let many = is.plans.one_each in
      omega (arith, l, many)

  module _ (plan : CellPlan) (is_plan : slice_get b.cells port.cell ≡ Some plan) where
    pieces : ArePieces w port.cell plan.pieces
    pieces = is.plans.pieces port.cell plan is_plan

    -- ---- a piece on the cell with the port's number

    module _ (k : ℕ) (at : SpotPlan) (is_at : slice_get plan.pieces.spots k ≡ Some at) (number : at.number ≡ port.piece) where
      abbrev made : SpotMade
      made = spot_by w at

      is_made : slice_get (spots_on w plan.pieces) k ≡ Some made
      is_made = get_mapped (spot_by w) plan.pieces.spots k at is_at

      here : (at.cell.0 ≡ port.cell) × (0 < length made.slots) × IsSpot w made
      here = spot_at w is.array port.cell plan.pieces pieces k made is_made

      -- is that of each computation there
      piece_is : (c n : ℕ) (z : Point) (v : Variable) (piece : Piece) → ComputesIn w port.cell c n z → slice_get (nodes s) n ≡ Some v → slice_get v.pieces port.piece ≡ Some piece → view_piece at.piece.now ≡ piece
      piece_is c n z v piece computes is_variable is_piece = computed_piece w port.cell made here.0 here.2 c n z computes v is_variable port.piece piece is_piece number

      abbrev read : Reference
      read = record { place = is_port.4.place; map = is_port.3 }

      -- its reference
      reads : slice_get (references (view_piece at.piece.now).tree) port.site ≡ Some read
      reads =
          let f = is_port.4 in
          ap (λ (q : Piece). slice_get (references q.tree) port.site) (piece_is is_port.0 f.node is_port.1 f.variable f.piece f.computes f.is_variable f.is_piece) ∙ f.is_reference

      port_sites : (sites : List Site) × (slice_get plan.pieces.sites k ≡ Some sites) × HasReference (drop port.site sites) port.site
      port_sites =
          let many = pieces.one_each in
          let within = in_range (spots_on w plan.pieces) k made is_made in
          let own = there_is plan.pieces.sites k (omega (arith, within, many)) in
          let sites = pieces.sites k made own.0 is_made own.1 in
          let place = told at.number 0 (view_piece at.piece.now).tree port.site read reads in
          let e : 0 + port.site ≡ port.site = omega arith in
          let wanted : Place = record { piece = at.number; site = 0 + port.site; tree = reference read.place read.map } in
          let mapped : slice_get (map (λ (s : Site). place_of s.place) own.0) place.0 ≡ Some wanted = ap (λ (l : List Place). slice_get l place.0) sites.places ∙ place.1 in
          let site = from_map (λ (s : Site). place_of s.place) own.0 place.0 wanted mapped in
          let test : is_reference_at port.site site.0.place.site (view site.0.place.tree) ≡ true =
          ap (λ (q : Place). is_reference_at port.site q.site q.tree) site.2 ∙ ap (λ (i : ℕ). nat_eq i port.site) e ∙ same_eq port.site in
          let above = (late at.number 0 (view_piece at.piece.now).tree).each place.0 wanted place.1 in
          (own.0, own.1, (site.0, (among_dropped own.0 port.site place.0 site.0 site.1 (omega (arith, above)), test)))

    -- there is a place of the port
    pub has_port_place : HasPortPlace plan.pieces port
    has_port_place =
        let f = is_port.4 in
        let found = pieces.spots.all is_port.0 f.node is_port.1 f.variable port.piece f.piece f.computes f.is_variable f.is_piece f.within in
        let k = place_in (map (λ (at : SpotMade). at.number) (spots_on w plan.pieces)) port.piece found in
        let made = from_map (λ (at : SpotMade). at.number) (spots_on w plan.pieces) k.0 port.piece k.1 in
        let at = from_map (spot_by w) plan.pieces.spots k.0 made.0 made.1 in
        let number = ap (λ (x : SpotMade). x.number) at.2 ∙ made.2 in
        let own = port_sites k.0 at.0 at.1 number in
        record {
          site = own.2.0;
          is_place = record { number = k.0; at = at.0; is_spot = at.1; is_piece = number; sites = own.0; are_sites = own.1; is_reference = (from_dropped own.0 port.site own.2.0 own.2.1.0, own.2.1.1) };
          each = λ k at is_at number. port_sites k at is_at number;
        }

    -- ---- the place of the port

    module _ (site : Site) (found : IsPortPlace plan.pieces port site) where
      as_reference : IsReferenceAt port.site site.place.site (view site.place.tree)
      as_reference = reference_at port.site site.place.site (view site.place.tree) found.is_reference.1

      abbrev at : SpotMade
      at = spot_by w found.at

      is_at : slice_get (spots_on w plan.pieces) found.number ≡ Some at
      is_at = get_mapped (spot_by w) plan.pieces.spots found.number found.at found.is_spot

      spot : (at.cell.0 ≡ port.cell) × (0 < length at.slots) × IsSpot w at
      spot = spot_at w is.array port.cell plan.pieces pieces found.number at is_at

      placed : IsSiteOf w at site
      placed = All-contains (IsSiteOf w at) found.sites site (pieces.sites found.number at found.sites is_at found.are_sites).each found.is_reference.0

      abbrev own : Reference
      own = record { place = as_reference.place; map = as_reference.map_is }

      -- what it reads is what the piece reads there
      stands : slice_get (references (view_piece found.at.piece.now).tree) port.site ≡ Some own
      stands =
          let t = view_piece found.at.piece.now in
          let q = place_of site.place in
          let whole : slice_get (references t.tree) q.site ≡ Some own =
          subst (IsPlaceBy (signatures s) (references t.tree) q) as_reference.tree (known w is.array at spot.2 site placed) in
          ap (slice_get (references t.tree)) (sym as_reference.number) ∙ whole

      pub has_variable : HasVariable s (view site.place.tree)
      has_variable = variable_there b is at spot.2 spot.1 site placed

      pub port_width_is : (width : Width) (bits : ℕ) → width.bits ≡ read_width s bits None (view site.place.tree) → IsPortWidth (seen w) port width
      port_width_is width bits e = λ c n z v piece r computes is_variable is_piece is_reference.
          let here = piece_is found.number found.at found.is_spot found.is_piece c n z v piece computes is_variable is_piece in
          let same = some_is own r (sym stands ∙ ap (λ (x : Piece). slice_get (references x.tree) port.site) here ∙ is_reference) in
          let place : own.place ≡ r.place = ap (λ (x : Reference). x.place) same in
          e ∙ ap (read_width s bits None) as_reference.tree ∙ ap (width_at s) place
