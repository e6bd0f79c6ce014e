use Rattle.std.proofs.Common.{◌<◌, ◌∙◌, length, get_or, arith, subst, ◌≡◌}
use Rattle.av_clock.proofs.Edges.{no_flip_flop}
use Rattle.av_lanes.specs.Seen.{lane}
use Rattle.av_lanes.specs.inner.Order.{HaveMoved}
use Rattle.av_lanes.proofs.Ordering.{next_within, register_within, for_move}
use Rattle.av_lanes.proofs.LanePasses.{moves_lane}
use Rattle.av_lanes.proofs.passes.move_others.Goals as goal

pub word_read-requires : goal.word_read-requires
word_read-requires c =
    next_within c.args.circuit.now (length c.loop-i.words) _ (get_or c.args.moves.now c.loop-i.i no_flip_flop) (c.loop-i.auto.words ∙ c.requires.size)
    (for_move c.args.circuit.now c.args.moves.now c.requires.moves c.loop-i.i c.loop-i-test.true)

pub bounds-words-flip_flop : goal.bounds-words-flip_flop
bounds-words-flip_flop c =
    register_within c.args.circuit.now (length c.loop-i.words) _ (get_or c.args.moves.now c.loop-i.i no_flip_flop) (c.loop-i.auto.words ∙ c.requires.size)
    (for_move c.args.circuit.now c.args.moves.now c.requires.moves c.loop-i.i c.loop-i-test.true)

pub offset_bounds-words-flip_flop : goal.offset_bounds-words-flip_flop
offset_bounds-words-flip_flop c =
    let within : (get_or c.args.moves.now c.loop-i.i no_flip_flop).register < length c.loop-i.words =
    register_within c.args.circuit.now (length c.loop-i.words) _ (get_or c.args.moves.now c.loop-i.i no_flip_flop) (c.loop-i.auto.words ∙ c.requires.size)
    (for_move c.args.circuit.now c.args.moves.now c.requires.moves c.loop-i.i c.loop-i-test.true) in
    omega arith

pub loop-i-init : goal.loop-i-init
loop-i-init c are k lt before moved = moved

pub loop-i-preserved : goal.loop-i-preserved
loop-i-preserved c are k lt before moved =
    let here = c.loop-i-test.true in
    let count = are.count in
    moves_lane k c.args.circuit.now are.order before c.loop-i.words c.loop-i.i (get_or c.args.moves.now c.loop-i.i no_flip_flop) c.word_read.result c.requires.sound are.ordered (c.loop-i.auto.words ∙ c.requires.size) (omega (arith, here, count))
    (for_move c.args.circuit.now c.args.moves.now are c.loop-i.i here) (c.word_read.ensures k lt) (c.loop-i.invariant are k lt before moved)

pub returns : goal.returns
returns c are k lt before moved =
    let past = c.loop-i-test.false in
    let most = c.loop-i.auto.i-end in
    let from = c.requires.from in
    let all : c.loop-i.i ≡ length c.args.moves.now = omega (arith, most, past, from) in
    subst (HaveMoved c.args.circuit.now are.order before (lane k c.loop-i.words)) all (c.loop-i.invariant are k lt before moved)
