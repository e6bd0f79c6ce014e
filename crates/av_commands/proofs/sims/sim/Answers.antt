use Rattle.std.proofs.Common.{refl}
use Rattle.av_commands.specs.Sims.{no_mark}
use Rattle.av_commands.specs.Written.{refused}
use Rattle.av_commands.proofs.Simulating.{module_answered, verilog_refused}
use Rattle.av_commands.proofs.sims.sim.Goals as goal

pub sim_module-requires-clause-sound : goal.sim_module-requires-clause-sound
sim_module-requires-clause-sound g c = c.in-Ok.ensures.sound.sound

pub returns-in_default : goal.returns-in_default
returns-in_default g c = refused (no_mark c.in_default.ensures.none refl) c.put.ensures

pub returns-in-Ok : goal.returns-in-Ok
returns-in-Ok g c = module_answered c.args.bytes.now c.in-Some.parts.text.now c.in-Some.parts.rest.now c.in-Some.parts.first_line c.in-Ok.design c.in-Some.ensures.some c.in-Ok.ensures.found c.sim_module.ensures

pub returns-in-Err : goal.returns-in-Err
returns-in-Err g c =
    verilog_refused c.args.bytes.now c.in-Some.parts.text.now c.in-Some.parts.rest.now c.in-Some.parts.first_line c.in-Err.fault c.in-Some.ensures.some (c.in-Err.ensures.fault c.in-Err.fault refl)
    c.put_verilog_refusal.ensures.memory c.put_verilog_refusal.ensures.refused
