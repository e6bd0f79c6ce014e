use Rattle.av_vnames.proofs.kind.IndexedKind.with_names.Goals as goal

pub invariant_of-result : goal.invariant_of-result
invariant_of-result c = record {
  inputs = c.requires.inputs;
  outputs = c.requires.outputs;
  widths = c.in_ok-widths.ensures;
}
