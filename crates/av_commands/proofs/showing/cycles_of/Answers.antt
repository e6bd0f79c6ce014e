use Rattle.std.proofs.Common.{◌≤◌, arith}
use Rattle.av_commands.proofs.Watched.{earlier_more, earlier_all}
use Rattle.av_commands.proofs.Fed.{at_index}
use Rattle.av_net.specs.declared.design.Entry.{Entry}
use Rattle.av_commands.proofs.showing.cycles_of.Goals as goal
use Rattle.av_commands.proofs.showing.cycles_of.Goals.{then-line-cycles, else-line-cycles}
use Rattle.av_base.proofs.Lists.{all_at}

pub loop-line-preserved : goal.loop-line-preserved
loop-line-preserved c =
    let lines = c.args.lines.now in
    let line = c.line-item.result in
    let n = c.loop-line.line-index in
    let lt = c.loop-line-test.true in
    let inv = c.loop-line.invariant in
    let most : line.cycle ≤ 4095 = all_at (λ (l : Entry). l.cycle ≤ 4095) lines n line c.requires (at_index lines n line lt c.line-item.is) in
    elim c.if-line-cycles.branch [
      | then-line-cycles w ↦ (earlier_more lines n c.loop-line.cycles c.if-line-cycles.cycles line inv.0 lt c.line-item.is (let e = w.cycles-is in let t = w.if-line-cycles.true in omega (arith, e, t)) (let e = w.cycles-is in omega (arith, e)), let e = w.cycles-is in omega (arith, e, most))
      | else-line-cycles w ↦ (earlier_more lines n c.loop-line.cycles c.if-line-cycles.cycles line inv.0 lt c.line-item.is (let e = w.cycles-is in omega (arith, e)) (let e = w.cycles-is in let t = w.if-line-cycles.false in omega (arith, e, t)), let e = w.cycles-is in let i = inv.1 in omega (arith, e, i))
    ]

pub returns : goal.returns
returns c = earlier_all c.args.lines.now c.loop-line.line-index c.loop-line.cycles (let t = c.loop-line-test.false in omega (arith, t)) c.loop-line.invariant.0
