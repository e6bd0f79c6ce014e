use Rattle.std.proofs.Common.{arith}
use Rattle.std.proofs.lemmas.Grind.{common_steps}
use Rattle.av_kinds.specs.Written.{program_of}
use Rattle.av_build.proofs.Promised.{counting_plans}
use Rattle.av_build.proofs.building.counting_modules.Goals as goal

pub returns : goal.returns
returns c =
    counting_plans c.args.timed.now c.args.cells.now c.requires.legal c.requires.within c.args.counter (program_of c.in_ok-program.program) c.in_ok-program.ensures c.modules_of.result c.modules_of.ensures.netlists c.modules_of.ensures.form

pub modules_of-requires-clause-program : goal.modules_of-requires-clause-program
modules_of-requires-clause-program c = grind (arith, common_steps)
