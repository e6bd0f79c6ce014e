use Rattle.std.proofs.Common.{Err, ap}
use Rattle.av_commands.proofs.Outputs.{puts_given}
use Rattle.av_commands.proofs.Unwaving.{wave_refused}
use Rattle.av_commands.specs.Waves.{GivesUnwave}
use Rattle.av_commands.proofs.unwaves.unwave.Goals as goal

pub returns-in-Ok : goal.returns-in-Ok
returns-in-Ok g c = puts_given (λ out lines. record { wave = c.in-Ok.wave; is = c.in-Ok.ensures.wave; text = c.in-Ok.ensures.found; lines = lines }) c.put_cycles.ensures

pub returns-in-Err : goal.returns-in-Err
returns-in-Err g c =
    wave_refused c.args.bytes.now (GivesUnwave c.args.bytes.now) c.in-Err.fault (λ line e. c.in-Err.ensures.fault line (ap Err e)) c.put_wave_refusal.ensures.memory c.put_wave_refusal.ensures.refused
