-- A legal timed system and its array give what the proof of the plan asks for.
use Rattle.std.proofs.Common.{◌≡◌, ℕ, zero, suc, ◌≤◌, ◌<◌, ℤ, pos, ◌<ℤ◌, ◌⊎◌, inl, inr, List, [], ◌∷◌, length, map, sym, subst, arith, ◌∙◌, ap, Some}
use Rattle.std.specs.Prelude.{Contains, slice_get}
use Rattle.std.proofs.lemmas.Int.{ints}
use Rattle.av_tree.specs.Points.{Point}
use Rattle.av_flat.specs.declared.timed.Time.{Time}
use Rattle.av_flat.specs.declared.timed.Timed.{Timed}
use Rattle.av_flat.specs.Trees.{Piece, Variable, FlatSystem, view_system}
use Rattle.av_flat.specs.Nodes.{is_node, nodes, IsComputation}
use Rattle.av_flat.specs.Schedules.{cycle}
use Rattle.av_flat.specs.Legal.{IsLegal}
use Rattle.av_space.specs.declared.cells.Cells.{Cells}
use Rattle.av_space.specs.Coordinates.{Placing, IsPlacing, point, space}
use Rattle.av_space.specs.Occupancy.{Computes}
use Rattle.av_space.specs.Arrays.{IsArrayOf}
use Rattle.av_space.proofs.OneCell.{Inverts, one_node}
use Rattle.av_space.proofs.Placed.{inverts}
use Rattle.av_space.proofs.Elements.{at_index}
use Rattle.av_flat.proofs.NodeNumbers.{passing}
use Rattle.av_space.proofs.Scheduling.{chained_variable, chained_piece, scheduled}
use Rattle.av_base.proofs.Among.{among_at}
use Rattle.av_base.proofs.Lists.{some_is}
use Rattle.av_history.specs.Arranged.{IsArranged}
use Rattle.av_build.specs.inner.Built.{array_of}
use Rattle.av_build.proofs.FineLanes.{HasNumbers}
use Rattle.av_build.proofs.Joined.{Legal, HasOwnPicks, own_picks, arranged, fits_words, one_point}

module _ (t : Timed) (a : Cells) (legal : IsLegal t) (array : IsArrayOf t a) where
  abbrev own : FlatSystem
  own = view_system t.flat

  times_of : map (λ (p : Placing). p.time) array.placings ≡ t.times
  times_of = array.are_placings.times_are

  time_at : (placings : List Placing) (n : ℕ) (p : Placing) → slice_get placings n ≡ Some p → slice_get (map (λ (q : Placing). q.time) placings) n ≡ Some p.time
  time_at [] n p is = absurd cc
  time_at (q ∷ placings) zero p is = ap (λ (x : Placing). Some x.time) (some_is q p is)
  time_at (q ∷ placings) (suc n) p is = time_at placings n p is

  inverse_of : (dim : ℕ) (p : Placing) → length p.time.linear ≡ dim → dim ≤ 4 → IsPlacing p → (dim ≡ 0) ⊎ Inverts p dim
  inverse_of dim p size few (point {time} none) = inl (sym size ∙ ap (λ (l : List ℤ). length l) none)
  inverse_of dim p size few (space {time} rows a) = inr (subst (λ (n : ℕ). Inverts (record { time = time; rows = rows }) n) size (inverts time rows a (omega (arith, size, few))))

  inverted : (n : ℕ) (v : Variable) (p : Placing) → slice_get (nodes own) n ≡ Some v → slice_get array.placings n ≡ Some p → (v.domain.dim ≡ 0) ⊎ Inverts p v.domain.dim
  inverted n v p is_variable is_placing =
      let here = passing is_node own.variables n v is_variable in
      let variable = chained_variable t array.placings a.cells legal array.are_placings array.cells v (among_at own.variables here.place v here.is) in
      let time : slice_get t.times n ≡ Some p.time = subst (λ (l : List Time). slice_get l n ≡ Some p.time) times_of (time_at array.placings n p is_placing) in
      let part = legal.schedule.linear n v p.time is_variable time in
      inverse_of v.domain.dim p part.size variable.indices (at_index IsPlacing array.placings array.are_placings.each n p is_placing)

  pub legal_array : Legal (array_of t a array.placings)
  legal_array = record {
    scheduled = scheduled t array.placings a.cells legal array.are_placings array.cells;
    inverts = inverted;
  }

  picks : (v : Variable) (k : ℕ) (piece : Piece) → Contains own.variables v → slice_get v.pieces k ≡ Some piece → HasOwnPicks own v piece
  picks v k piece among is =
      let tree = (chained_piece t array.placings a.cells legal array.are_placings array.cells v k piece among is).tree in
      own_picks own v.width 0 0 piece.tree tree.plain tree.no_reduction tree.partial

  pub arranged_array : IsArranged (array_of t a array.placings)
  arranged_array = arranged (array_of t a array.placings) legal_array array.links picks

  -- no cell computes two points in one cycle
  pub one_computation : (p c m n : ℕ) (y z : Point) → Computes own array.placings a.cells p c m y → Computes own array.placings a.cells p c n z → (m ≡ n) × (y ≡ z)
  one_computation p c m n y z h k =
      let same = one_node own array.placings a.cells p c c m n y z h k in
      (same, one_point (array_of t a array.placings) legal_array p c n y z (subst (λ (i : ℕ). Computes own array.placings a.cells p c i y) same h) k)

  -- the numbers of each piece are words of its variable
  pub words_fit : (n : ℕ) (v : Variable) (k : ℕ) (piece : Piece) → slice_get (nodes own) n ≡ Some v → slice_get v.pieces k ≡ Some piece → HasNumbers v.width piece.tree
  words_fit n v k piece is_variable is_piece =
      let here = passing is_node own.variables n v is_variable in
      let among = among_at own.variables here.place v here.is in
      let tree = (chained_piece t array.placings a.cells legal array.are_placings array.cells v k piece among is_piece).tree in
      fits_words v.width piece.tree tree.plain tree.words

  cycles_above : (n : ℕ) (z : Point) → IsComputation own n z → (p : Placing) → slice_get array.placings n ≡ Some p → cycle p.time z <ℤ pos a.cycles
  cycles_above n z computation p at =
      let time = ap (λ (ts : List Time). slice_get ts n) (sym array.are_placings.times_are) ∙ time_at array.placings n p at in
      array.cycles.above n z p.time computation time

  pub few_cycles : (limit : a.cycles ≤ 4096) (p c n : ℕ) (z : Point) → Computes own array.placings a.cells p c n z → c < 4096
  few_cycles limit p c n z h =
      let l = cycles_above n z h.stands.computation h.stands.placing h.stands.is_placing in
      let e = h.stands.in_cycle in
      omega (arith, ints, l, limit, e)
