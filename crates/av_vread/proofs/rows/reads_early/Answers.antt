use Rattle.std.proofs.Common.{sym, ap, ◌∙◌}
use Rattle.av_net.specs.Rows.{is_in, kind_named}
use Rattle.av_vparse.specs.Said.{said_instance}
use Rattle.av_vread.proofs.KindTables.{unknown_early}
use Rattle.av_vread.proofs.rows.reads_early.Goals as goal

pub returns-in-None : goal.returns-in-None
returns-in-None c = rw c.in-Instance.is (sym (unknown_early c.args.kinds.now (is_in c.args.wires.now) (is_in c.args.earlier.now) (said_instance c.in-Instance.of) (ap (kind_named c.args.kinds.now) (sym c.as_str.ensures) ∙ sym c.in-None.ensures)))
