use Rattle.std.proofs.Common.{◌<◌, ◌∙◌, length, get_or, arith, subst, ◌≡◌}
use Rattle.av_lanes.specs.Seen.{lane}
use Rattle.av_lanes.specs.inner.Order.{HaveMoved}
use Rattle.av_lanes.proofs.Ordering.{source_within, target_within, no_transfer, moves_none}
use Rattle.av_lanes.proofs.LanePasses.{transfers_lane}
use Rattle.av_lanes.proofs.passes.move_first.Goals as goal

pub word_at-requires : goal.word_at-requires
word_at-requires c = source_within c.args.circuit.now (length c.loop-transfer.words) c.args.moves.now c.args.transfers.now c.loop-transfer.transfer-index c.requires.moves c.requires.transfers (c.loop-transfer.auto.words ∙ c.requires.size) c.loop-transfer-test.true

pub bounds-words-transfer : goal.bounds-words-transfer
bounds-words-transfer c = target_within c.args.circuit.now (length c.loop-transfer.words) c.args.moves.now c.args.transfers.now c.loop-transfer.transfer-index c.requires.moves c.requires.transfers (c.loop-transfer.auto.words ∙ c.requires.size) c.loop-transfer-test.true

pub offset_bounds-words-transfer : goal.offset_bounds-words-transfer
offset_bounds-words-transfer c =
    let within : (get_or c.args.transfers.now c.loop-transfer.transfer-index no_transfer).register < length c.loop-transfer.words =
    target_within c.args.circuit.now (length c.loop-transfer.words) c.args.moves.now c.args.transfers.now c.loop-transfer.transfer-index c.requires.moves c.requires.transfers (c.loop-transfer.auto.words ∙ c.requires.size) c.loop-transfer-test.true in
    omega arith

pub loop-transfer-init : goal.loop-transfer-init
loop-transfer-init c are k lt = moves_none c.args.circuit.now are.order (lane k c.args.words.now) (c.requires.fit k lt)

pub loop-transfer-preserved : goal.loop-transfer-preserved
loop-transfer-preserved c are k lt =
    transfers_lane k c.args.circuit.now c.args.moves.now c.args.transfers.now are (lane k c.args.words.now) c.loop-transfer.words c.loop-transfer.transfer-index c.word_at.result c.requires.sound c.requires.transfers (c.loop-transfer.auto.words ∙ c.requires.size)
    c.loop-transfer-test.true (c.word_at.ensures k lt) (c.loop-transfer.invariant are k lt)

pub returns : goal.returns
returns c are k lt =
    let most = c.loop-transfer.auto.transfer-index-end in
    let past = c.loop-transfer-test.false in
    let all : c.loop-transfer.transfer-index ≡ length c.args.transfers.now = omega (arith, most, past) in
    subst (HaveMoved c.args.circuit.now are.order (lane k c.args.words.now) (lane k c.loop-transfer.words)) all (c.loop-transfer.invariant are k lt)
