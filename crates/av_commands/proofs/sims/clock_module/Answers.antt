use Rattle.std.proofs.Common.{refl}
use Rattle.av_commands.proofs.Simulating.{clocked_done, clocked_failed}
use Rattle.av_commands.proofs.sims.clock_module.Goals as goal

pub returns-in-Ok-run : goal.returns-in-Ok-run
returns-in-Ok-run g c = clocked_done c.in-Ok.parts.clock.of c.args.of.now c.args.stimulus.now _ _ c.in-Ok.ensures.clock c.in-Ok-run.ensures.added

pub returns : goal.returns
returns g c = clocked_failed c.in-Ok.parts.clock.of c.args.of.now c.args.stimulus.now _ _ c.in-Ok.ensures.clock (c.in-Err-run.ensures.fault refl) c.in-Err-run.ensures.front
