use Rattle.std.proofs.Common.{◌≡◌, ℕ, Bool, true, false, ◌∙◌, ◌+◌, ◌<◌, List, length, sym, ap, subst, arith}
use Rattle.std.specs.Prelude.{nat_eq}
use Rattle.std.proofs.lemmas.List.{length-map}
use Rattle.std.proofs.lemmas.Grind.{common_steps}
use Rattle.av_flat.specs.declared.flat.Piece.{Piece}
use Rattle.av_flat.specs.Trees.{view_piece, view_variable}
use Rattle.av_space.specs.declared.layout.Slot.{Slot}
use Rattle.av_space.specs.declared.spots.Spot.{Spot}
use Rattle.av_space.proofs.OnSpots.{AreSpotsBelow, one_spot_more, none_more, all_spots}
use Rattle.av_space.proofs.array.Array.spots.Goals as goal
use Rattle.av_space.proofs.array.Array.spots.Goals.{then-not-is_empty+in_ok-push, else-not-is_empty}

some : (n : ℕ) (b : Bool) → b ≡ nat_eq n 0 → b ≡ false → 0 < n
some n b e f = let h : nat_eq n 0 ≡ false = sym e ∙ f in grind (arith, h)

none : (n : ℕ) (b : Bool) → b ≡ nat_eq n 0 → b ≡ true → n ≡ 0
none n b e f = let h : nat_eq n 0 ≡ true = sym e ∙ f in grind (arith, h)

pub loop-number-preserved : goal.loop-number-preserved
loop-number-preserved c =
    let a = c.args.self.now in
    let n = c.loop-number.number in
    let at = c.in_ok-spot.spot in
    let is = c.in_ok-spot.ensures in
    elim c.if-not-is_empty.branch [
      | then-not-is_empty+in_ok-push w ↦
          subst (λ (spots : List Spot). AreSpotsBelow a c.args.cell.0 (n + 1) spots) (sym w.in_ok-push.ensures.ok ∙ sym w.spots-is)
          (one_spot_more a c.args.cell.0 n c.loop-number.spots at c.loop-number.invariant is.0 is.1 (subst (λ (x : List Slot). 0 < length x) c.as_slice.ensures (some (length c.as_slice.result.now) c.is_empty.result c.is_empty.ensures w.if-not-is_empty.true)) is.2)
      | else-not-is_empty w ↦
          subst (λ (spots : List Spot). AreSpotsBelow a c.args.cell.0 (n + 1) spots) (sym w.spots-is)
          (none_more a c.args.cell.0 n c.loop-number.spots at c.loop-number.invariant is.0 is.1 (subst (λ (x : List Slot). length x ≡ 0) c.as_slice.ensures (none (length c.as_slice.result.now) c.is_empty.result c.is_empty.ensures w.if-not-is_empty.false)) is.2)
    ]

pub returns : goal.returns
returns c =
    let a = c.args.self.now in
    let v = c.variable.ensures in
    let var = c.variable.result.now in
    let done = c.loop-number-test.false in
    let size = length-map var.pieces view_piece in
    let all = ap (λ (x : List Piece). length x) c.as_slice-number-end.ensures in
    all_spots a c.args.cell.0 c.loop-number.number c.loop-number.spots v.cell (view_variable var) v.is_cell v.is_variable (omega (arith, done, size, all)) c.loop-number.invariant

pub spot-requires-clause-piece : goal.spot-requires-clause-piece
spot-requires-clause-piece c = grind (arith, common_steps)

pub loop-number-init : goal.loop-number-init
loop-number-init c = grind (arith, common_steps)
