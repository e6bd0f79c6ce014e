-- The shapes of places, modes and lanes, one after another.
use Rattle.std.proofs.Common.{◌≡◌, ℕ, zero, suc, ◌+◌, ◌<◌, ◌≤◌, List, [], ◌∷◌, ◌++◌, map, length, drop, get_or, refl, sym, ap, ◌∙◌, arith, Bool, true, false, if◌then◌else◌, Option, Some, None}
use Rattle.std.specs.Prelude.{slice_get, nat_eq, filter}
use Rattle.std.specs.List.{ItemBy}
use Rattle.std.specs.Option.{option_map}
use Rattle.std.proofs.lemmas.List.{length-map}
use Rattle.std.proofs.lemmas.Option.{slice_get_past}
use Rattle.av_base.proofs.Lists.{there_is, next_item}
use Rattle.av_kinds.specs.declared.program.CellLanes.{CellLanes}
use Rattle.av_base.specs.declared.width.Width.{Width}
use Rattle.av_kinds.specs.declared.program.Inlet.{Inlet}
use Rattle.av_kinds.specs.declared.program.ProgramSite.{ProgramSite}
use Rattle.av_kinds.specs.declared.shape.SiteShape.{SiteShape}
use Rattle.av_kinds.specs.Programs.{Mode, Lane, Program, lanes_of}
use Rattle.av_kinds.specs.Written.{ModeMade, LaneMade, mode_of, lane_of}
use Rattle.av_kinds.specs.inner.Shapes.{ModeShape, LaneShape, ModeShapeMade, LaneShapeMade, mode_shape_of, lane_shape_of}
use Rattle.av_kinds.specs.inner.Shaped.{site_shape, site_shapes, mode_shape_by, mode_shapes, lane_shape_by, lane_shapes, shapes_by, is_used}
use Rattle.av_kinds.proofs.Placing.{one_less, one_more, one_seen, some_less, from_place, dropped, read_mapped}
use Rattle.av_kinds.proofs.Steps.{not_same}

abbrev pub selections_of : SiteShape → ℕ
selections_of s = s.selections

sites_more : (before : List SiteShape) (k : ℕ) (site : ProgramSite) (sites : List ProgramSite) → site_shapes (drop k before) (site ∷ sites) ≡ site_shape (get_or (map selections_of before) k 0) site ∷ site_shapes (drop (suc k) before) sites
sites_more [] zero site sites = refl
sites_more [] (suc k) site sites = refl
sites_more (s ∷ before) zero site sites = refl
sites_more (s ∷ before) (suc k) site sites = sites_more before k site sites

modes_more : (before : List ModeShape) (k number : ℕ) (mode : Mode) (modes : List Mode) → mode_shapes (drop k before) number (mode ∷ modes) ≡ mode_shape_by (slice_get before k) number mode ∷ mode_shapes (drop (suc k) before) (number + 1) modes
modes_more [] zero number mode modes = refl
modes_more [] (suc k) number mode modes = refl
modes_more (f ∷ before) zero number mode modes = refl
modes_more (f ∷ before) (suc k) number mode modes = modes_more before k number mode modes

lanes_more : (before : List LaneShape) (k : ℕ) (lane : Lane) (lanes : List Lane) → lane_shapes (drop k before) (lane ∷ lanes) ≡ lane_shape_by (slice_get before k) lane ∷ lane_shapes (drop (suc k) before) lanes
lanes_more [] zero lane lanes = refl
lanes_more [] (suc k) lane lanes = refl
lanes_more (f ∷ before) zero lane lanes = refl
lanes_more (f ∷ before) (suc k) lane lanes = lanes_more before k lane lanes

abbrev pub shape_with : Inlet → Width → ℕ → SiteShape
shape_with inlet width selections = record { inlet = inlet; width = width; selections = selections }

pub site_put : (before : List SiteShape) (sites : List ProgramSite) (k : ℕ) (site : ProgramSite) (shapes next whole : List SiteShape) (shape : SiteShape) → k < length sites → site ≡ get_or sites k site → shapes ++ site_shapes (drop k before) (drop k sites) ≡ whole
    → shape ≡ site_shape (get_or (map selections_of before) k 0) site → next ≡ shapes ++ shape ∷ [] → next ++ site_shapes (drop (k + 1) before) (drop (k + 1) sites) ≡ whole
site_put before sites k site shapes next whole shape lt is h here put =
    let rest = drop (k + 1) sites in
    one_less whole shapes next shape (site_shapes (drop k before) (drop k sites)) (site_shapes (drop (k + 1) before) rest) h put
    (ap (site_shapes (drop k before)) (next_item sites k site lt is) ∙ sites_more before k site rest ∙ ap (λ x. x ∷ site_shapes (drop (suc k) before) rest) (sym here) ∙ ap (λ i. shape ∷ site_shapes (drop i before) rest) (one_more k))

pub mode_put : (before : List ModeShapeMade) (modes : List ModeMade) (k : ℕ) (mode : ModeMade) (shapes next : List ModeShapeMade) (whole : List ModeShape) (shape : ModeShapeMade) → k < length modes → mode ≡ get_or modes k mode
    → map mode_shape_of shapes ++ mode_shapes (map mode_shape_of (drop k before)) k (map mode_of (drop k modes)) ≡ whole
    → mode_shape_of shape ≡ mode_shape_by (slice_get (map mode_shape_of before) k) k (mode_of mode) → next ≡ shapes ++ shape ∷ []
    → map mode_shape_of next ++ mode_shapes (map mode_shape_of (drop (k + 1) before)) (k + 1) (map mode_of (drop (k + 1) modes)) ≡ whole
mode_put before modes k mode shapes next whole shape lt is h here put =
    let rest = map mode_of (drop (k + 1) modes) in
    let old = map mode_shape_of before in
    one_seen mode_shape_of whole shapes next shape (mode_shape_by (slice_get old k) k (mode_of mode)) (mode_shapes (map mode_shape_of (drop k before)) k (map mode_of (drop k modes))) (mode_shapes (map mode_shape_of (drop (k + 1) before)) (k + 1) rest) h put here
    (ap (λ xs. mode_shapes (map mode_shape_of (drop k before)) k (map mode_of xs)) (next_item modes k mode lt is) ∙ ap (λ b. mode_shapes b k (mode_of mode ∷ rest)) (dropped mode_shape_of before k) ∙ modes_more old k k (mode_of mode) rest
    ∙ ap (λ i. mode_shape_by (slice_get old k) k (mode_of mode) ∷ mode_shapes (drop i old) (k + 1) rest) (one_more k)
    ∙ ap (λ b. mode_shape_by (slice_get old k) k (mode_of mode) ∷ mode_shapes b (k + 1) rest) (sym (dropped mode_shape_of before (k + 1))))

pub lane_put : (before : List LaneShapeMade) (lanes : List LaneMade) (k : ℕ) (lane : LaneMade) (shapes next : List LaneShapeMade) (whole : List LaneShape) (shape : LaneShapeMade) → k < length lanes → lane ≡ get_or lanes k lane
    → map lane_shape_of shapes ++ lane_shapes (map lane_shape_of (drop k before)) (map lane_of (drop k lanes)) ≡ whole
    → lane_shape_of shape ≡ lane_shape_by (slice_get (map lane_shape_of before) k) (lane_of lane) → next ≡ shapes ++ shape ∷ []
    → map lane_shape_of next ++ lane_shapes (map lane_shape_of (drop (k + 1) before)) (map lane_of (drop (k + 1) lanes)) ≡ whole
lane_put before lanes k lane shapes next whole shape lt is h here put =
    let rest = map lane_of (drop (k + 1) lanes) in
    let old = map lane_shape_of before in
    one_seen lane_shape_of whole shapes next shape (lane_shape_by (slice_get old k) (lane_of lane)) (lane_shapes (map lane_shape_of (drop k before)) (map lane_of (drop k lanes))) (lane_shapes (map lane_shape_of (drop (k + 1) before)) rest) h put here
    (ap (λ xs. lane_shapes (map lane_shape_of (drop k before)) (map lane_of xs)) (next_item lanes k lane lt is) ∙ ap (λ b. lane_shapes b (lane_of lane ∷ rest)) (dropped lane_shape_of before k) ∙ lanes_more old k (lane_of lane) rest
    ∙ ap (λ i. lane_shape_by (slice_get old k) (lane_of lane) ∷ lane_shapes (drop i old) rest) (one_more k)
    ∙ ap (λ b. lane_shape_by (slice_get old k) (lane_of lane) ∷ lane_shapes b rest) (sym (dropped lane_shape_of before (k + 1))))

-- the element of a place, if there is one
pub seen_at : {R X Y : Type 0} (f : X → Y) (now : R → X) (xs : List X) (k : ℕ) (r : Option R) → ItemBy now xs k k r → option_map (λ m. f (now m)) r ≡ slice_get (map f xs) k
seen_at f now xs k None h = let past : length (map f xs) ≤ k = omega (arith, h.3, length-map xs f) in sym (slice_get_past (map f xs) k past)
seen_at f now xs k (Some x) h = sym (read_mapped f xs k (now x) (now x) h.3.0 h.1)

-- ---- the modes that some cell has

pub used_put : (modes : List ModeShapeMade) (k : ℕ) (mode : ModeShapeMade) (old next : List ModeShapeMade) (whole : List ModeShape) → k < length modes → mode ≡ get_or modes k mode
    → map mode_shape_of old ++ filter is_used (map mode_shape_of (drop k modes)) ≡ whole → map mode_shape_of next ≡ map mode_shape_of old ++ filter is_used (mode_shape_of mode ∷ [])
    → map mode_shape_of next ++ filter is_used (map mode_shape_of (drop (k + 1) modes)) ≡ whole
used_put modes k mode old next whole lt is h put =
    let rest = map mode_shape_of (drop (k + 1) modes) in
    some_less whole (map mode_shape_of old) (map mode_shape_of next) (filter is_used (mode_shape_of mode ∷ [])) (filter is_used (map mode_shape_of (drop k modes))) (filter is_used rest) h put
    (ap (λ xs. filter is_used (map mode_shape_of xs)) (next_item modes k mode lt is) ∙ by_test (is_used (mode_shape_of mode)))
  where
    by_test : (b : Bool) → ◌≡◌ {A = List ModeShape} (if b then mode_shape_of mode ∷ filter is_used (map mode_shape_of (drop (k + 1) modes)) else filter is_used (map mode_shape_of (drop (k + 1) modes)))
        ((if b then mode_shape_of mode ∷ [] else []) ++ filter is_used (map mode_shape_of (drop (k + 1) modes)))
    by_test true = refl
    by_test false = refl

-- ---- all cells of a kind

cells_more : (program : Program) (kind : ℕ) (before : List LaneShape) (own : CellLanes) (of : ℕ) (cells : List CellLanes) (kinds : List ℕ) → shapes_by program kind before (own ∷ cells) (of ∷ kinds) ≡ shapes_by program kind (shapes_by program kind before (own ∷ []) (of ∷ [])) cells kinds
cells_more program kind before own of cells kinds = by_kind (nat_eq of kind)
  where
    by_kind : (b : Bool) → ◌≡◌ {A = List LaneShape} (if b then shapes_by program kind (lane_shapes before (lanes_of program own)) cells kinds else shapes_by program kind before cells kinds)
        (shapes_by program kind (if b then lane_shapes before (lanes_of program own) else before) cells kinds)
    by_kind true = refl
    by_kind false = refl

pub cell_put : (program : Program) (kind k : ℕ) (old next whole : List LaneShape) → k < length program.cells → k < length program.kinds → shapes_by program kind old (drop k program.cells) (drop k program.kinds) ≡ whole
    → ((own : CellLanes) (of : ℕ) → slice_get program.cells k ≡ Some own → slice_get program.kinds k ≡ Some of → next ≡ shapes_by program kind old (own ∷ []) (of ∷ [])) → shapes_by program kind next (drop (k + 1) program.cells) (drop (k + 1) program.kinds) ≡ whole
cell_put program kind k old next whole lt lk h here =
    let own = there_is program.cells k lt in
    let of = there_is program.kinds k lk in
    let cells = drop (k + 1) program.cells in
    let kinds = drop (k + 1) program.kinds in
    ap (λ s. shapes_by program kind s cells kinds) (here own.0 of.0 own.1 of.1) ∙ sym (cells_more program kind old own.0 of.0 cells kinds)
    ∙ ap (λ ks. shapes_by program kind old (own.0 ∷ cells) ks) (sym (from_place program.kinds k of.0 of.1 ∙ ap (λ i. of.0 ∷ drop i program.kinds) (one_more k)))
    ∙ ap (λ cs. shapes_by program kind old cs (drop k program.kinds)) (sym (from_place program.cells k own.0 own.1 ∙ ap (λ i. own.0 ∷ drop i program.cells) (one_more k))) ∙ h

pub taken_cell : (program : Program) (kind : ℕ) (before : List LaneShape) (own : CellLanes) (of : ℕ) → of ≡ kind → lane_shapes before (lanes_of program own) ≡ shapes_by program kind before (own ∷ []) (of ∷ [])
taken_cell program kind before own of e = let same : nat_eq of kind ≡ true = grind arith in rw same refl

pub passed_cell : (program : Program) (kind : ℕ) (before : List LaneShape) (own : CellLanes) (of : ℕ) → (of ≡ kind → ⊥) → before ≡ shapes_by program kind before (own ∷ []) (of ∷ [])
passed_cell program kind before own of differs = let other : nat_eq of kind ≡ false = not_same of kind differs in rw other refl
