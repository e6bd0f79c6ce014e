use Rattle.std.proofs.Common.{◌≡◌, ℕ, List, length, ap, arith}
use Rattle.av_net.specs.declared.netlist.Port.{Port}
use Rattle.av_page.proofs.Putting.{Puts-none, Puts-more, Puts-is}
use Rattle.av_wave.specs.Dumps.{joined}
use Rattle.av_wave.proofs.News.{news_lines, text_more}
use Rattle.av_wave.proofs.writer.put_cycle.Goals as goal

pub loop-port-init : goal.loop-port-init
loop-port-init g c = Puts-none _ _

pub put_news-requires : goal.put_news-requires
put_news-requires g c =
    let same : length c.as_slice-slice.result.now ≡ length c.args.ports.now = ap (λ (ps : List Port). length ps) c.as_slice-slice.ensures in
    omega (arith, same, c.requires.ports, c.loop-port-test.true)

pub loop-port-preserved : goal.loop-port-preserved
loop-port-preserved g c =
    Puts-is (Puts-more c.loop-port.invariant c.put_news.ensures)
    (text_more c.as_slice-slice.result.now c.args.ports.now c.args.cycle c.args.before.now c.args.words.now c.loop-port.port c.as_slice-slice.ensures)

pub returns : goal.returns
returns g c =
    let text : ℕ → List ℕ = λ n. joined (news_lines c.args.ports.now c.args.cycle c.args.before.now c.args.words.now n) in
    let all : c.loop-port.port ≡ length c.args.words.now = omega (arith, c.loop-port-test.false, c.loop-port.auto.port-end) in
    Puts-is {s = text c.loop-port.port} c.loop-port.invariant (ap text all)
