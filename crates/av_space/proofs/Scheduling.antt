-- The array of a legal timed system is scheduled.
use Rattle.std.proofs.Common.{◌≡◌, ℕ, pos, ◌+ℤ◌, ◌≤ℤ◌, true, IsTrue, List, map, sym, subst, ◌∙◌, ap, Some}
use Rattle.std.specs.Prelude.{slice_get, Contains}
use Rattle.std.proofs.lemmas.List.Elements.{All-contains}
use Rattle.av_tree.specs.Points.{Point}
use Rattle.av_flat.specs.declared.timed.Time.{Time}
use Rattle.av_flat.specs.declared.timed.Timed.{Timed}
use Rattle.av_flat.specs.Trees.{Piece, Variable, FlatSystem, view_system}
use Rattle.av_flat.specs.Points.{has}
use Rattle.av_flat.specs.Signatures.{signatures}
use Rattle.av_flat.specs.Nodes.{number_at}
use Rattle.av_flat.specs.Chained.{IsChainedVariable, IsChainedPiece}
use Rattle.av_flat.specs.Schedules.{cycle, IsSchedule}
use Rattle.av_flat.specs.Helped.{before}
use Rattle.av_flat.specs.Legal.{IsMoving, IsLegal}
use Rattle.av_pipe.proofs.Piped.{later}
use Rattle.av_space.specs.declared.cells.Cell.{Cell}
use Rattle.av_space.specs.Coordinates.{Placing, ArePlacings}
use Rattle.av_space.specs.Occupancy.{AreCells}
use Rattle.av_space.specs.Taps.{Pipeline, helper_at}
use Rattle.av_space.proofs.Elements.{at_index}
use Rattle.av_space.proofs.Helpers.{found_helper}
use Rattle.av_space.proofs.Timely.{Scheduled}
use Rattle.av_base.proofs.Lists.{some_is}

module _ (t : Timed) (placings : List Placing) (cells : List Cell) (legal : IsLegal t) (are_placings : ArePlacings t.times placings) (are_cells : AreCells (view_system t.flat) placings cells) where
  abbrev own : FlatSystem
  own = view_system t.flat

  pub chained_variable : (v : Variable) → Contains own.variables v → IsChainedVariable own v
  chained_variable v among = All-contains (IsChainedVariable own) own.variables v legal.chained.each among

  pub chained_piece : (v : Variable) (k : ℕ) (piece : Piece) → Contains own.variables v → slice_get v.pieces k ≡ Some piece → IsChainedPiece (signatures own) v piece
  chained_piece v k piece among is = at_index (IsChainedPiece (signatures own) v) v.pieces (chained_variable v among).pieces k piece is

  times_of : map (λ (p : Placing). p.time) placings ≡ t.times
  times_of = are_placings.times_are

  helped_later : (place piece site : ℕ) (h : Pipeline) (v : Variable) (q : Piece) (time : Time) → slice_get own.variables place ≡ Some v → slice_get v.pieces piece ≡ Some q
      → helper_at t.helpers place piece site ≡ Some h → slice_get (map (λ (p : Placing). p.time) placings) (number_at own place) ≡ Some time → (z : Point) → has q.domain z ≡ true
      → (cycle time (before z h.direction) +ℤ pos 1) ≤ℤ cycle time z
  helped_later place piece site h v q time is_variable is_piece found is_time z here =
      let f = found_helper t.helpers 0 place piece site h found in
      let m = at_index (IsMoving own t.times) t.helpers legal.helpers f.at f.helper f.is_helper in
      let variable : m.variable ≡ v = some_is m.variable v (sym m.is ∙ ap (λ (n : ℕ). slice_get own.variables n) f.var_is ∙ is_variable) in
      let same : m.piece ≡ q = some_is m.piece q (sym m.is_piece ∙ ap (λ (n : ℕ). slice_get m.variable.pieces n) f.piece_is ∙ ap (λ (u : Variable). slice_get u.pieces piece) variable ∙ is_piece) in
      let given : slice_get t.times (number_at own place) ≡ Some time = subst (λ (l : List Time). slice_get l (number_at own place) ≡ Some time) times_of is_time in
      let now : m.time ≡ time = some_is m.time time (sym m.is_time ∙ ap (λ (n : ℕ). slice_get t.times (number_at own n)) f.var_is ∙ given) in
      let l : (cycle m.time (before z f.helper.direction) +ℤ pos 1) ≤ℤ cycle m.time z =
      later own t.times legal.chained legal.schedule f.helper m z (subst (λ (p : Piece). IsTrue (has p.domain z)) (sym same) here) in
      subst (λ (w : Point). (cycle time (before z w) +ℤ pos 1) ≤ℤ cycle time z) f.direction_is
      (subst (λ (u : Time). (cycle u (before z f.helper.direction) +ℤ pos 1) ≤ℤ cycle u z) now l)

  pub scheduled : Scheduled own t.helpers placings cells
  scheduled = record {
    schedule = subst (λ (l : List Time). IsSchedule own 4 l) (sym times_of) legal.schedule;
    are_cells = are_cells;
    within = λ v k piece among is. (chained_piece v k piece among is).within;
    reads = λ v k piece among is. (chained_piece v k piece among is).reads;
    plain = λ v k piece among is. (chained_piece v k piece among is).tree.plain;
    no_reduction = λ v k piece among is. (chained_piece v k piece among is).tree.no_reduction;
    proper = legal.proper;
    handed_later = helped_later;
  }
