-- The lane of a helper on a cell, from its place in the blueprint.
use Rattle.std.proofs.Common.{◌≡◌, ℕ, suc, ◌<◌, List, [], ◌∷◌, length, get_or, arith, refl, sym, ap, ap₂, subst, ◌∙◌, Some, None, Ok, Err, Result}
use Rattle.std.specs.Prelude.{slice_get, IfOk}
use Rattle.std.proofs.lemmas.List.{length-map}
use Rattle.av_base.specs.declared.width.Width.{Width}
use Rattle.av_base.proofs.Lists.{get_mapped, some_is}
use Rattle.av_flat.specs.Trees.{Tree, Variable, FlatSystem, view, view_variable, reference}
use Rattle.av_space.specs.declared.array.Array.{Array as ArrayMade}
use Rattle.av_space.specs.declared.spots.Spot.{Spot as SpotMade}
use Rattle.av_space.specs.Links.{line_length}
use Rattle.av_space.specs.Spots.{system_of, helpers_of, cells_of}
use Rattle.av_space.proofs.Elements.{in_range}
use Rattle.av_kinds.specs.declared.counter.Counter.{Counter}
use Rattle.av_kinds.specs.declared.program.Inlet.{Inlet}
use Rattle.av_kinds.specs.declared.program.Inlet.TheVariants.{Taps}
use Rattle.av_kinds.specs.declared.program.ProgramSite.{ProgramSite}
use Rattle.av_kinds.specs.Counters.{count_in}
use Rattle.av_kinds.specs.Programs.{Work, Mode, Lane}
use Rattle.av_kinds.specs.declared.program.Window.{Window}
use Rattle.av_kinds.specs.Written.{ModeMade, work_of, mode_of}
use Rattle.av_history.specs.Performing.{helper_spot}
use Rattle.av_history.specs.Widths.{read_width}
use Rattle.av_build.specs.declared.blueprint.Blueprint.{Blueprint}
use Rattle.av_build.specs.declared.blueprint.CellPlan.{CellPlan}
use Rattle.av_build.specs.declared.blueprint.HelperPlan.{HelperPlan}
use Rattle.av_build.specs.declared.windows.CounterMark.{CounterMark}
use Rattle.av_build.specs.declared.moments.PipelineMoments.{PipelineMoments}
use Rattle.av_build.specs.declared.spots.SpotPlan.{SpotPlan}
use Rattle.av_build.specs.inner.Blueprints.{seen, spot_of, spots_on, lanes_of, ArePieces, IsBlueprint, IsCounted}
use Rattle.av_build.specs.inner.PipelineModes.{own_mode_by, ArePipelineModes}
use Rattle.av_build.specs.inner.Windows.{windows_by}
use Rattle.av_build.specs.inner.Lanes.{HasPlan, AreHelperModes, IsHelperOn, IsBuiltBy}
use Rattle.av_build.specs.inner.Moments.{site_by}
use Rattle.av_build.specs.inner.Orders.{IsInOrder}
use Rattle.av_build.specs.inner.Programmed.{inlet_by, one_site, IsHelperLane}
use Rattle.av_build.specs.inner.Sources.{ArePipelineMomentsTo}
use Rattle.av_build.specs.inner.SpotPlans.{spot_by}
use Rattle.av_build.proofs.PipelineModes.{pipeline_lane}
use Rattle.av_build.proofs.HelperPlaces.{IsHelped, helped, spot_at, variable_is, tree_is, moments_are, slots_are}
use Rattle.av_build.proofs.HelpersOn.{IsFromPlace, place_of_helper}
use Rattle.av_build.proofs.Pairwise.{element_of}
use Rattle.av_build.proofs.SeenArray.{one_seen}

-- ---- a mode by its marks

abbrev pub by_marks : List CounterMark → ProgramSite → Tree → Mode
by_marks marks site t = record { windows = windows_by marks; work = one_site site t }

pub mode_made : {E : Type 0} (read marks : List CounterMark) (site : ProgramSite) (t : Tree) → read ≡ marks → (r : Result ModeMade E) → IfOk r (λ mode. mode.windows ≡ windows_by read)
    → IfOk r (λ mode. work_of mode.work ≡ one_site site t) → IfOk r (λ mode. mode_of mode ≡ by_marks marks site t)
mode_made read marks site t same (Ok mode) windows work =
    ap₂ (λ (i : List Window) (w : Work). record { windows = i; work = w }) (windows ∙ ap (λ (l : List CounterMark). windows_by l) same) work
mode_made read marks site t same (Err e) windows work = tt

-- ---- a helper of a piece, as one of a place of its cell

module _ (b : Blueprint) (is : IsBlueprint b) (at : SpotMade) (h : HelperPlan) (on : IsHelperOn b at h) where
  pub from_place : IsFromPlace on.spot_on.plan.pieces h
  from_place = record {
    sites = on.sites;
    are_sites = subst (λ (k : ℕ). slice_get on.spot_on.plan.pieces.sites k ≡ Some on.sites) (sym on.piece_is) on.spot_on.are_sites;
    site = on.place;
    is_site = on.is_place;
    pipeline = on.pipeline;
    is_pipeline = on.is_pipeline;
    number = on.number;
  }

  pub pieces_there : ArePieces b.array at.cell.0 on.spot_on.plan.pieces
  pieces_there = is.plans.pieces at.cell.0 on.spot_on.plan on.spot_on.is_plan

  pub helped_there : IsHelped b.array is.array at.cell.0 on.spot_on.plan.pieces pieces_there h at on.place on.pipeline
  unfolding from_place
  helped_there =
      let x = helped b.array is.array at.cell.0 on.spot_on.plan.pieces pieces_there h from_place in
      let e : slice_get (spots_on b.array on.spot_on.plan.pieces) h.piece ≡ Some at = ap (λ (k : ℕ). slice_get (spots_on b.array on.spot_on.plan.pieces) k) on.piece_is ∙ on.spot_on.is_spot in
      subst (λ (y : SpotMade). IsHelped b.array is.array at.cell.0 on.spot_on.plan.pieces pieces_there h y on.place on.pipeline) (some_is x.0 at (sym x.1.is_spot ∙ e)) x.1

  -- ---- its modes

  module _ (counter : Counter) (counted : IsCounted b.array counter) (order : List ℕ) (in_order : IsInOrder (count_in counter) at.slots order) (found : PipelineMoments)
      (are : ArePipelineMomentsTo (seen b.array) (count_in counter) (lanes_of b.cells) (spot_of at) on.place.place.site on.pipeline (view on.place.place.tree) at.slots order (length order) found)
      (entries : ProgramSite) (entries_are : entries ≡ site_by (inlet_by (system_of b.array) (λ j. j) None (view on.place.place.tree)) entries.width found.entries)
      (entry_bits : entries.width.bits ≡ read_width (system_of b.array) (view_variable at.var.now).width None (view on.place.place.tree))
      (width : Width) (own_bits : width.bits ≡ (view_variable at.var.now).width) (own : ProgramSite) (own_is : own ≡ site_by Taps width found.own) where
    abbrev w : ArrayMade
    w = b.array

    abbrev s : FlatSystem
    s = system_of w

    abbrev tree : Tree
    tree = view on.place.place.tree

    abbrev entry_mode : Mode
    entry_mode = record { windows = windows_by found.entry_marks; work = one_site entries tree }

    abbrev own_mode : Mode
    own_mode = record { windows = windows_by found.own_marks; work = one_site own tree }

    abbrev mode_by : Inlet → Tree → Mode
    mode_by inlet t = record { windows = windows_by found.entry_marks; work = one_site (site_by inlet entries.width found.entries) t }

    pub helper_modes : AreHelperModes b counter at h (entry_mode ∷ own_mode ∷ [])
    unfolding from_place
    helper_modes = λ lane frame modes helper v piece r it.
        let pieces = on.spot_on.plan.pieces in
        let there = pieces_there in
        let x = helped_there in
        let variable : view_variable at.var.now ≡ v = variable_is w is.array at.cell.0 pieces there h from_place at x helper v piece r it in
        let wide = ap (λ (u : Variable). u.width) variable in
        let read : tree ≡ reference r.place r.map = tree_is w is.array at.cell.0 pieces there h from_place at x helper v piece r it in
        let first : entry_mode ≡ mode_by (inlet_by s (λ j. j) None (reference r.place r.map)) (reference r.place r.map) =
        ap (λ (y : ProgramSite). record { windows = windows_by found.entry_marks; work = one_site y tree }) entries_are ∙ ap (λ (t : Tree). mode_by (inlet_by s (λ j. j) None t) t) read in
        let second : own_mode ≡ record { windows = windows_by found.own_marks; work = one_site (site_by Taps width found.own) (reference r.place r.map) } =
        ap₂ (λ (y : ProgramSite) (t : Tree). record { windows = windows_by found.own_marks; work = one_site y t }) own_is read in
        pipeline_lane (seen w) counter (lanes_of b.cells) (helper_spot (seen w) helper v piece at.cell.0) h.number helper r
        (λ c d m n y z. counted.within at.cell.0 c d m n y z) (λ c m n y z. one_seen w is.array at.cell.0 c m n y z)
        at.slots (slots_are w is.array at.cell.0 pieces there h from_place at x helper v piece r it) order in_order
        found (moments_are w is.array at.cell.0 pieces there h from_place at x helper v piece r it (count_in counter) (lanes_of b.cells) order found are)
        entries.width width (entry_bits ∙ ap (λ (t : Tree). read_width s (view_variable at.var.now).width None t) read) (own_bits ∙ wide)
        lane frame.home frame.rank (frame.width ∙ wide) (modes ∙ ap₂ (λ (m n : Mode). m ∷ n ∷ []) first second) frame.size

  -- those that were made
  pub modes_there : (counter : Counter) → IsCounted b.array counter → (order : List ℕ) → IsInOrder (count_in counter) at.slots order → (found : PipelineMoments)
      → ArePipelineMomentsTo (seen b.array) (count_in counter) (lanes_of b.cells) (spot_of at) on.place.place.site on.pipeline (view on.place.place.tree) at.slots order (length order) found
      → (width : Width) → width.bits ≡ (view_variable at.var.now).width → (modes : List Mode) → ArePipelineModes (system_of b.array) width (view on.place.place.tree) found modes → AreHelperModes b counter at h modes
  modes_there counter counted order in_order found are width own_bits modes made =
      let s = system_of b.array in
      let t = view on.place.place.tree in
      let entry = made.is_entry in
      let bits : entry.site.width.bits ≡ read_width s (view_variable at.var.now).width None t = entry.width ∙ ap (λ (n : ℕ). read_width s n None t) own_bits in
      let second : own_mode_by width t found ≡ record { windows = windows_by found.own_marks; work = one_site (site_by Taps width found.own) t } = refl in
      subst (AreHelperModes b counter at h) (sym (made.are ∙ ap₂ (λ (m n : Mode). m ∷ n ∷ []) entry.is second))
      (helper_modes counter counted order in_order found are entry.site entry.site_is bits width own_bits (site_by Taps width found.own) refl)

-- ---- a helper that has a lane

module _ (b : Blueprint) (is : IsBlueprint b) (p : ℕ) (h : HelperPlan) (has : HasPlan b p h) where
  from : IsFromPlace has.plan.pieces h
  from = place_of_helper has.plan.pieces has.index h has.is_helper

  pieces_of : ArePieces b.array p has.plan.pieces
  pieces_of = is.plans.pieces p has.plan has.is_plan

  -- the piece of its place
  pub record IsPlanned (at : SpotMade) : Type 0 where
    pub cell : at.cell.0 ≡ p
    pub on : IsHelperOn b at h
    pub few : h.number < length (helpers_of b.array)

  pub planned : (at : SpotMade) → slice_get (spots_on b.array has.plan.pieces) h.piece ≡ Some at → IsPlanned at
  planned at e =
      let there = spot_at b.array is.array p has.plan.pieces pieces_of h.piece at e in
      let x = helped b.array is.array p has.plan.pieces pieces_of h from in
      record {
        cell = there.0;
        on = record {
          sites = from.sites;
          spot_on = record { plan = has.plan; is_plan = ap (λ (k : ℕ). slice_get b.cells k) there.0 ∙ has.is_plan; number = h.piece; is_spot = e; are_sites = from.are_sites };
          piece_is = refl;
          place = from.site;
          is_place = from.is_site;
          pipeline = from.pipeline;
          is_pipeline = from.is_pipeline;
          number = from.number;
        };
        few = in_range (helpers_of b.array) h.number x.1.helper x.1.helps.is_helper;
      }

  pub cell_there : p < length (cells_of b.array)
  cell_there =
      let low = in_range b.cells p has.plan has.is_plan in
      let many = is.plans.one_each in
      omega (arith, low, many)

  -- as it is looked up
  module _ (cells : List CellPlan) (plan : CellPlan) (cells_are : cells ≡ b.cells) (plan_is : plan ≡ get_or cells p plan) (spots : List SpotPlan) (spots_are : spots ≡ (get_or cells p plan).pieces.spots) where
    same_spots : spots ≡ has.plan.pieces.spots
    same_spots =
        let here = element_of b.cells cells p plan plan cells_are (in_range b.cells p has.plan has.is_plan) plan_is in
        spots_are ∙ ap (λ (x : CellPlan). x.pieces.spots) (sym plan_is ∙ some_is plan has.plan (sym here ∙ has.is_plan))

    piece_there : h.piece < length has.plan.pieces.spots
    piece_there =
        let x = helped b.array is.array p has.plan.pieces pieces_of h from in
        let low = in_range (spots_on b.array has.plan.pieces) h.piece x.0 x.1.is_spot in
        let size = length-map has.plan.pieces.spots (spot_by b.array) in
        omega (arith, low, size)

    pub piece_low : h.piece < length spots
    piece_low =
        let low = piece_there in
        let size = ap (λ (l : List SpotPlan). length l) same_spots in
        omega (arith, low, size)

    pub piece_is : (plan : SpotPlan) → plan ≡ get_or spots h.piece plan → (at : SpotMade) → at ≡ spot_by b.array plan → slice_get (spots_on b.array has.plan.pieces) h.piece ≡ Some at
    piece_is plan e at made =
        get_mapped (spot_by b.array) has.plan.pieces.spots h.piece plan (element_of has.plan.pieces.spots spots h.piece plan plan same_spots piece_there e) ∙ ap (λ (x : SpotMade). Some x) (sym made)

  -- the lane of its modes is what its plan says
  pub lane_built : (counter : Counter) (at : SpotMade) → slice_get (spots_on b.array has.plan.pieces) h.piece ≡ Some at → (modes : List Mode) → AreHelperModes b counter at h modes
      → (lane : Lane) → lane.home ≡ p → lane.rank ≡ suc h.number → lane.width.bits ≡ (view_variable at.var.now).width → lane.modes ≡ modes
      → lane.length ≡ line_length (system_of b.array) (helpers_of b.array) (cells_of b.array) b.array.cells.now.links p (Some h.number) → IsBuiltBy b counter p (Some h) lane
  lane_built counter at e modes made lane home rank width are size = λ helper v piece r it.
      let cell = (planned at e).cell in
      subst (λ (q : ℕ). IsHelperLane (seen b.array) (count_in counter) (lanes_of b.cells) (helper_spot (seen b.array) helper v piece q) h.number helper r lane) cell
      (made lane (record {
        home = home ∙ sym cell;
        rank = rank;
        width = width;
        size = size ∙ ap (λ (q : ℕ). line_length (system_of b.array) (helpers_of b.array) (cells_of b.array) b.array.cells.now.links q (Some h.number)) (sym cell);
      }) are helper v piece r it)
