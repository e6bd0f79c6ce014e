use Rattle.std.proofs.Common.{ap, ◌∙◌}
use Rattle.av_net.specs.Names.{names_of}
use Rattle.av_net.specs.Rows.{is_in}
use Rattle.av_vnames.proofs.kind.IndexedKind.new.Goals as goal

pub with_names-requires : goal.with_names-requires
with_names-requires c = record {
  inputs = λ q. c.in_ok-inputs.ensures q ∙ ap (λ ports. is_in (names_of ports) q) c.as_slice.ensures;
  outputs = λ q. c.in_ok-outputs.ensures q ∙ ap (λ ports. is_in (names_of ports) q) c.as_slice-2.ensures;
}
