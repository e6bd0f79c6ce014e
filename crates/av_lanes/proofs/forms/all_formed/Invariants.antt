use Rattle.std.proofs.Common.{◌≡◌, map, take}
use Rattle.std.specs.Prelude.{All}
use Rattle.av_lanes.specs.declared.forms.Formed.{Formed}
use Rattle.av_lanes.specs.inner.Forms.{assignment_of, IsMasked}
use Rattle.av_lanes.proofs.forms.all_formed.Given as goal

abbrev pub invariant-loop-assignment : goal.invariant-loop-assignment
invariant-loop-assignment l = (map assignment_of l.drives.items ≡ take l.assignment-index l.assignment-items) × All (λ (drive : Formed). IsMasked drive.form) l.drives.items
