use Rattle.std.proofs.Common.{sym, ◌∙◌}
use Rattle.av_base.proofs.LowBytes.{name_ascii}
use Rattle.av_vread.proofs.entry.entry_of.Goals as goal

pub from_ascii-requires : goal.from_ascii-requires
from_ascii-requires c = name_ascii c.args.parts.variable.now (sym c.is_name.ensures ∙ c.if-not-is_name.false)
