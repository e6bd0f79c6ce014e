use Rattle.std.proofs.Common.{◌<◌, length, arith}
use Rattle.std.proofs.lemmas.Bool.Decides.{nat_tests}
use Rattle.av_commands.proofs.Digits.{digits_from_all, all_from_digits}
use Rattle.av_commands.proofs.numbers.are_digits.Goals as goal

pub returns-then-not-is_empty : goal.returns-then-not-is_empty
returns-then-not-is_empty c =
    let some : 0 < length c.args.bytes.now = grind (arith, nat_tests) in
    (λ all. digits_from_all _ some (c.all_digits.ensures.0 all), λ digits. c.all_digits.ensures.1 (all_from_digits _ digits))
