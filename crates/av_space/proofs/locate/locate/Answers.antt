use Rattle.std.proofs.Common.{ℕ, ◌≡◌, ◌∙◌, Some, List, length, arith, sym, subst, ap, FitsSigned, to_z, of_z, to_z-of_z}
use Rattle.std.specs.Int.{w128}
use Rattle.std.specs.Prelude.{slice_get, Contains, unsigned_abs}
use Rattle.std.proofs.lemmas.Int.{ints}
use Rattle.std.proofs.lemmas.Option.{slice_get_within}
use Rattle.av_tree.specs.Points.{Point}
use Rattle.av_space.specs.declared.cells.Cell.{Cell}
use Rattle.av_flat.specs.Trees.{view_system}
use Rattle.av_flat.specs.Schedules.{cycle}
use Rattle.av_space.specs.Coordinates.{along}
use Rattle.av_space.specs.Occupancy.{Computes}
use Rattle.av_space.proofs.Nodes.{time_at}
use Rattle.av_space.proofs.Laid.{placing_time}
use Rattle.av_space.proofs.Located.{own_placing, placed, has_cell, node_stands}
use Rattle.av_space.proofs.locate.locate.Goals as goal

pub coordinates-at-requires-clause-few : goal.coordinates-at-requires-clause-few
coordinates-at-requires-clause-few c =
    let t = c.args.scheduled.now.timed in
    let l = c.args.scheduled.now.layout in
    let n = c.args.node.0 in
    let z = c.args.z.now in
    let p = c.index-placements-node.result in
    let is : slice_get l.placements n ≡ Some p = own_placing t l n z p c.placements-placements.result.now c.placements-placements.ensures.scheduled.legal c.placements-placements.ensures.scheduled.layout c.requires c.placements-placements.ensures.is c.index-placements-node.is in
    let own = placed t l n z p c.placements-placements.ensures.scheduled.legal c.placements-placements.ensures.scheduled.layout c.requires is in
    (time_at t n p.time c.placements-placements.ensures.scheduled.legal (placing_time t.times l.placements n p c.placements-placements.ensures.scheduled.layout.are_placings is)).few

pub coordinates-at-requires-clause-fits : goal.coordinates-at-requires-clause-fits
coordinates-at-requires-clause-fits c =
    let t = c.args.scheduled.now.timed in
    let l = c.args.scheduled.now.layout in
    let n = c.args.node.0 in
    let z = c.args.z.now in
    let p = c.index-placements-node.result in
    let is : slice_get l.placements n ≡ Some p = own_placing t l n z p c.placements-placements.result.now c.placements-placements.ensures.scheduled.legal c.placements-placements.ensures.scheduled.layout c.requires c.placements-placements.ensures.is c.index-placements-node.is in
    let own = placed t l n z p c.placements-placements.ensures.scheduled.legal c.placements-placements.ensures.scheduled.layout c.requires is in
    own.timely.few

pub coordinates-at-requires-clause-small : goal.coordinates-at-requires-clause-small
coordinates-at-requires-clause-small c =
    let t = c.args.scheduled.now.timed in
    let l = c.args.scheduled.now.layout in
    let n = c.args.node.0 in
    let z = c.args.z.now in
    let p = c.index-placements-node.result in
    let is : slice_get l.placements n ≡ Some p = own_placing t l n z p c.placements-placements.result.now c.placements-placements.ensures.scheduled.legal c.placements-placements.ensures.scheduled.layout c.requires c.placements-placements.ensures.is c.index-placements-node.is in
    let own = placed t l n z p c.placements-placements.ensures.scheduled.legal c.placements-placements.ensures.scheduled.layout c.requires is in
    own.timely.small

pub cell_at-cell-requires-clause-there : goal.cell_at-cell-requires-clause-there
cell_at-cell-requires-clause-there c =
    let t = c.args.scheduled.now.timed in
    let l = c.args.scheduled.now.layout in
    let n = c.args.node.0 in
    let z = c.args.z.now in
    let p = c.index-placements-node.result in
    let is : slice_get l.placements n ≡ Some p = own_placing t l n z p c.placements-placements.result.now c.placements-placements.ensures.scheduled.legal c.placements-placements.ensures.scheduled.layout c.requires c.placements-placements.ensures.is c.index-placements-node.is in
    let own = placed t l n z p c.placements-placements.ensures.scheduled.legal c.placements-placements.ensures.scheduled.layout c.requires is in
    subst (λ (cells : List Cell). Contains cells (record { node = n; at = c.coordinates-at.result })) (sym c.cells.ensures.is)
    (subst (λ (at : Point). Contains l.cells (record { node = n; at = at })) (sym c.coordinates-at.ensures.value) (has_cell t l n z p c.placements-placements.ensures.scheduled.layout c.requires own))

pub overflow_cast-result : goal.overflow_cast-result
overflow_cast-result c =
    let k = slice_get_within c.cells.result.now c.cell_at-cell.result (record { node = c.args.node.0; at = c.coordinates-at.result }) c.cell_at-cell.ensures in
    let e = ap (λ (cells : List Cell). length cells) c.cells.ensures.is in
    omega (arith, k, e, c.placements-placements.ensures.scheduled.layout.few_cells)

pub cycle-requires : goal.cycle-requires
cycle-requires c =
    let t = c.args.scheduled.now.timed in
    let l = c.args.scheduled.now.layout in
    let n = c.args.node.0 in
    let z = c.args.z.now in
    let p = c.index-placements-node.result in
    let is : slice_get l.placements n ≡ Some p = own_placing t l n z p c.placements-placements.result.now c.placements-placements.ensures.scheduled.legal c.placements-placements.ensures.scheduled.layout c.requires c.placements-placements.ensures.is c.index-placements-node.is in
    let own = placed t l n z p c.placements-placements.ensures.scheduled.legal c.placements-placements.ensures.scheduled.layout c.requires is in
    own.timely.small

pub overflow_cast-result-2 : goal.overflow_cast-result-2
overflow_cast-result-2 c =
    let t = c.args.scheduled.now.timed in
    let l = c.args.scheduled.now.layout in
    let n = c.args.node.0 in
    let z = c.args.z.now in
    let p = c.index-placements-node.result in
    let is : slice_get l.placements n ≡ Some p = own_placing t l n z p c.placements-placements.result.now c.placements-placements.ensures.scheduled.legal c.placements-placements.ensures.scheduled.layout c.requires c.placements-placements.ensures.is c.index-placements-node.is in
    let own = placed t l n z p c.placements-placements.ensures.scheduled.legal c.placements-placements.ensures.scheduled.layout c.requires is in
    let r = c.cycle.result in
    let small = c.cycle.ensures.small in
    let f : FitsSigned w128 r = omega (arith, ints, small) in
    let u : to_z w128 (of_z w128 r) ≡ r = simp to_z-of_z in
    let starts = own.timely.starts in
    let ends = own.timely.ends in
    let v = c.cycle.ensures.value in
    rw u (omega (arith, ints, starts, v), omega (arith, ints, starts, ends, v))

pub returns : goal.returns
returns c =
    let t = c.args.scheduled.now.timed in
    let l = c.args.scheduled.now.layout in
    let n = c.args.node.0 in
    let z = c.args.z.now in
    let p = c.index-placements-node.result in
    let is : slice_get l.placements n ≡ Some p = own_placing t l n z p c.placements-placements.result.now c.placements-placements.ensures.scheduled.legal c.placements-placements.ensures.scheduled.layout c.requires c.placements-placements.ensures.is c.index-placements-node.is in
    let own = placed t l n z p c.placements-placements.ensures.scheduled.legal c.placements-placements.ensures.scheduled.layout c.requires is in
    let r = c.cycle.result in
    let small = c.cycle.ensures.small in
    let f : FitsSigned w128 r = omega (arith, ints, small) in
    let u : to_z w128 (of_z w128 r) ≡ r = simp to_z-of_z in
    let starts = own.timely.starts in
    let ends = own.timely.ends in
    let v = c.cycle.ensures.value in
    let cell : slice_get l.cells c.cell_at-cell.result ≡ Some (record { node = n; at = along p.rows z }) = ap (λ (cells : List Cell). slice_get cells c.cell_at-cell.result) (sym c.cells.ensures.is) ∙ c.cell_at-cell.ensures ∙ ap (λ (at : Point). Some (record { node = n; at = at })) c.coordinates-at.ensures.value in
    let computes : Computes (view_system t.flat) l.placements l.cells c.cell_at-cell.result (unsigned_abs (cycle p.time z)) n z = record { cell = record { node = n; at = along p.rows z }; is_cell = cell; stands = node_stands t l n z p c.requires own } in
    subst (λ (k : ℕ). Computes (view_system t.flat) l.placements l.cells c.cell_at-cell.result k n z) (ap unsigned_abs (sym (u ∙ v))) computes
