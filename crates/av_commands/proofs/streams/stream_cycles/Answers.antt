use Rattle.std.proofs.Common.{◌+◌, ◌*◌, ◌-◌, ◌<◌, ◌^◌, ap₂, arith}
use Rattle.std.proofs.lemmas.Nat.{mul-lt}
use Rattle.av_commands.proofs.streams.stream_cycles.Goals as goal

pub overflow_mul-result : goal.overflow_mul-result
overflow_mul-result c =
    let later = c.args.count - 1 in
    let same = c.from-2.ensures in
    let few : c.from-2.result * later < 2 ^ 32 * 2 ^ 64 = mul-lt c.from-2.result later (2 ^ 32) (2 ^ 64) (omega (arith, same)) (omega arith) in
    omega (arith, few)

pub overflow_add-result : goal.overflow_add-result
overflow_add-result c =
    let later = c.args.count - 1 in
    let same = c.from-2.ensures in
    let first = c.from.ensures in
    let few : c.from-2.result * later < 2 ^ 32 * 2 ^ 64 = mul-lt c.from-2.result later (2 ^ 32) (2 ^ 64) (omega (arith, same)) (omega arith) in
    omega (arith, first, few)

pub returns : goal.returns
returns c = ap₂ (λ n p. n + p * (c.args.count - 1)) c.from.ensures c.from-2.ensures
