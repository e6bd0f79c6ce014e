use Rattle.av_kinds.proofs.top.all_parts.Goals as goal

pub returns : goal.returns
returns c = record {
  lanes = c.in_ok-parts.parts;
  are_lanes = c.in_ok-parts.ensures;
  drives = c.add_outputs.new.drives;
  are_drives = c.in_ok-add_outputs.ensures;
  adds_counter = c.in_ok-add_counter.ensures;
}
