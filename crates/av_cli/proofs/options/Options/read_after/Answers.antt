use Rattle.std.proofs.Common.{◌≡◌, [], drop, arith}
use Rattle.std.proofs.lemmas.List.{drop_all}
use Rattle.av_cli.specs.Commands.{nothing}
use Rattle.av_cli.specs.inner.CommandsSeen.{seen}
use Rattle.av_cli.proofs.options.Options.read_after.Goals as goal

pub returns-clause-read : goal.returns-clause-read
returns-clause-read c =
    let none : drop c.loop-at.at c.args.words.now ≡ [] = drop_all c.loop-at.at c.args.words.now (omega (arith, c.loop-at-test.false)) in
    (c.loop-at.invariant.1 (seen c.loop-at.options)).1 (rw none nothing)
