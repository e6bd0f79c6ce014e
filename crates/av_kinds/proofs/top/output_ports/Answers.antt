use Rattle.std.proofs.Common.{◌∙◌, List, ap}
use Rattle.av_base.specs.declared.width.Width.{Width}
use Rattle.av_kinds.specs.Names.{output_name}
use Rattle.av_kinds.specs.Tops.{numbered_ports}
use Rattle.av_kinds.proofs.Added.{if_ok_map}
use Rattle.av_kinds.proofs.top.output_ports.Goals as goal

pub returns : goal.returns
returns c = if_ok_map _ _ (λ ports are. are ∙ ap (λ (ws : List Width). numbered_ports output_name 0 ws) (c.as_slice.ensures ∙ c.in_ok-widths.ensures)) c.ports.result c.ports.ensures
