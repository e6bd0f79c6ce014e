use Rattle.av_wave.proofs.Spelled.{name_ascii}
use Rattle.av_wave.proofs.Staging.{scope_none}
use Rattle.av_wave.proofs.stage.open.Goals as goal

pub from_ascii-requires : goal.from_ascii-requires
from_ascii-requires c = name_ascii c.in-Some.name.now c.in-Some.ensures.some.0

pub returns-in_default : goal.returns-in_default
returns-in_default c = scope_none c.args.line.now c.in_default.ensures.none
