use Rattle.std.proofs.Common.{◌∙◌}
use Rattle.av_vnames.proofs.Table.{put}
use Rattle.av_vnames.proofs.widths.Widths.insert.Goals as goal

pub returns : goal.returns
returns c =
    put c.self.inside.table c.insert.new.self c.args.self.now c.args.port.now c.as_bytes.result.now c.self.view_is (c.as_bytes.ensures.value ∙ c.as_str.ensures) c.in_ok-insert.ensures.all
