use Rattle.std.proofs.Common.{refl}
use Rattle.av_commands.proofs.Simulating.{stimulus_left, stimulus_refused, run_answered}
use Rattle.av_commands.proofs.sims.sim_module.Goals as goal

pub clock_module-requires-clause-left : goal.clock_module-requires-clause-left
clock_module-requires-clause-left g c = stimulus_left c.args.of.now.inputs c.args.bytes.now c.in-Ok.stimulus c.in-Ok.ensures.found

pub returns-in-Ok : goal.returns-in-Ok
returns-in-Ok g c = run_answered c.args.of.now c.args.bytes.now c.args.first_line c.in-Ok.stimulus _ _ _ c.requires.sound c.in-Ok.ensures.found c.clock_module.ensures

pub returns-in-Err : goal.returns-in-Err
returns-in-Err g c =
    stimulus_refused c.args.of.now c.args.bytes.now c.args.first_line c.in-Err.fault (c.in-Err.ensures.fault c.in-Err.fault refl) c.put_data_refusal.ensures.memory c.put_data_refusal.ensures.refused
