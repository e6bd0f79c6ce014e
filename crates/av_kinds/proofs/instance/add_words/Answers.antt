use Rattle.av_kinds.proofs.InstanceSteps.{source_there, word_put, words_put}
use Rattle.std.proofs.Common.{◌≡◌, ◌++◌, length, sym, subst, rules}
use Rattle.std.proofs.lemmas.Result.{on_ok_weaker}
use Rattle.av_kinds.specs.Written.{program_of}
use Rattle.av_kinds.specs.Names.{labels}
use Rattle.av_kinds.specs.inner.Instances.{operand_of, words_for}
use Rattle.av_kinds.specs.inner.Reads.{IsThere}
use Rattle.av_kinds.proofs.instance.add_words.Goals as goal

pub operand-requires : goal.operand-requires
operand-requires c =
    let count = length c.args.program.now.lanes in
    subst (IsThere count) (sym c.source_at-source.ensures) (source_there count c.loop-k.k c.args.site.now.selections c.args.site.now.otherwise c.requires.0 c.requires.1)

pub loop-k-preserved : goal.loop-k-preserved
loop-k-preserved c =
    let f = operand_of (labels (program_of c.args.program.now)) c.args.width in
    let site = c.args.site.now in
    word_put f c.args.count site.selections site.otherwise c.loop-k.k c.loop-k.operands c.push.new.self (c.args.operands.now ++ words_for f c.args.count site.selections site.otherwise) c.source_at-source.result c.in_ok-operand.field-0
    c.loop-k.invariant c.source_at-source.ensures c.in_ok-operand.ensures c.in_ok-push.ensures.ok

pub returns : goal.returns
returns c =
    let f = operand_of (labels (program_of c.args.program.now)) c.args.width in
    let site = c.args.site.now in
    let at : c.loop-k.k ≡ c.args.count = search rules in
    on_ok_weaker c.push-2.result
    (words_put f c.args.count site.selections site.otherwise c.loop-k.k c.loop-k.operands c.push-2.new.self (c.args.operands.now ++ words_for f c.args.count site.selections site.otherwise) c.in_ok-operand-2.field-0
    c.loop-k.invariant at c.in_ok-operand-2.ensures)
    c.push-2.ensures.ok
