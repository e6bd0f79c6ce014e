use Rattle.std.proofs.Common.{◌∙◌, length, ap, arith, subst, sym}
use Rattle.av_clock.proofs.Taking.{ports_same}
use Rattle.av_clock.specs.Named.{named}
use Rattle.av_lanes.specs.Seen.{lane}
use Rattle.av_lanes.specs.inner.Order.{AreMoves, HaveMoved}
use Rattle.av_lanes.proofs.Ordering.{moves_edge, moves_others}
use Rattle.av_lanes.proofs.passes.move_all.Goals as goal

pub returns-clause-edge : goal.returns-clause-edge
returns-clause-edge c k lt =
    let m = c.args.circuit.now in
    let are : AreMoves m c.as_slice-flip_flops.result.now = subst (AreMoves m) (sym c.as_slice-flip_flops.ensures.value) c.requires.moves.moves in
    let moved = c.move_others.ensures are k lt (lane k c.args.words.now) (subst (HaveMoved m are.order (lane k c.args.words.now) (lane k c.move_first.new.words)) (ap length c.deref.ensures.value ∙ sym c.args.moves.now.transfers.ok.0 ∙ sym c.len.ensures) (c.move_first.ensures are k lt)) in
    let count = are.count in
    moves_edge m are.order (lane k c.args.words.now) (lane k c.move_others.new.words) (length c.as_slice-flip_flops.result.now) are.ordered (omega (arith, count)) moved

pub returns-clause-ports : goal.returns-clause-ports
returns-clause-ports c k lt =
    let m = c.args.circuit.now in
    let are : AreMoves m c.as_slice-flip_flops.result.now = subst (AreMoves m) (sym c.as_slice-flip_flops.ensures.value) c.requires.moves.moves in
    let moved = c.move_others.ensures are k lt (lane k c.args.words.now) (subst (HaveMoved m are.order (lane k c.args.words.now) (lane k c.move_first.new.words)) (ap length c.deref.ensures.value ∙ sym c.args.moves.now.transfers.ok.0 ∙ sym c.len.ensures) (c.move_first.ensures are k lt)) in
    let count = are.count in
    ports_same m (named m (lane k c.args.words.now)) (named m (lane k c.move_others.new.words)) c.requires.sound
    (moves_others m are.order (lane k c.args.words.now) (lane k c.move_others.new.words) (length c.as_slice-flip_flops.result.now) are.ordered (omega (arith, count)) moved)

pub returns-clause-fit : goal.returns-clause-fit
returns-clause-fit c k lt =
    let m = c.args.circuit.now in
    let are : AreMoves m c.as_slice-flip_flops.result.now = subst (AreMoves m) (sym c.as_slice-flip_flops.ensures.value) c.requires.moves.moves in
    let moved = c.move_others.ensures are k lt (lane k c.args.words.now) (subst (HaveMoved m are.order (lane k c.args.words.now) (lane k c.move_first.new.words)) (ap length c.deref.ensures.value ∙ sym c.args.moves.now.transfers.ok.0 ∙ sym c.len.ensures) (c.move_first.ensures are k lt)) in
    moved.fit

pub returns-clause-others : goal.returns-clause-others
returns-clause-others c k lt =
    let m = c.args.circuit.now in
    let are : AreMoves m c.as_slice-flip_flops.result.now = subst (AreMoves m) (sym c.as_slice-flip_flops.ensures.value) c.requires.moves.moves in
    let moved = c.move_others.ensures are k lt (lane k c.args.words.now) (subst (HaveMoved m are.order (lane k c.args.words.now) (lane k c.move_first.new.words)) (ap length c.deref.ensures.value ∙ sym c.args.moves.now.transfers.ok.0 ∙ sym c.len.ensures) (c.move_first.ensures are k lt)) in
    let count = are.count in
    moves_others m are.order (lane k c.args.words.now) (lane k c.move_others.new.words) (length c.as_slice-flip_flops.result.now) are.ordered (omega (arith, count)) moved
