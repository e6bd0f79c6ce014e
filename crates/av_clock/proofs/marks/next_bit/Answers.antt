use Rattle.std.proofs.Common.{◌<◌, ◌^◌, ◌/◌, arith}
use Rattle.av_clock.proofs.Bits.{none_later, next_is}
use Rattle.av_clock.proofs.marks.next_bit.Goals as goal

pub returns-then-later-eq0 : goal.returns-then-later-eq0
returns-then-later-eq0 c = record { later = omega arith; most = omega arith; clear = λ i le lt. none_later c.args.word c.args.from i (omega arith) le; set = λ lt. absurd (omega arith) }

pub returns-else-later-eq0 : goal.returns-else-later-eq0
returns-else-later-eq0 c =
    let small : c.args.word < 2 ^ 64 = omega arith in
    let some : 0 < c.args.word / 2 ^ c.args.from = omega arith in
    let next = next_is c.args.word c.args.from small some in
    record { later = next.later; most = next.most; clear = next.clear; set = λ lt. next.set }
