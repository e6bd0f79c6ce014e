use Rattle.std.proofs.Common.{sym, ◌∙◌}
use Rattle.av_flat.specs.Points.{has}
use Rattle.av_space.specs.declared.layout.Slot.{Slot}
use Rattle.av_space.proofs.OffCells.{none_filtered}
use Rattle.av_space.proofs.apart.slots_in.Goals as goal

pub returns-then-are_apart : goal.returns-then-are_apart
returns-then-are_apart c = c.new.ensures ∙ sym (none_filtered (λ (t : Slot). has c.args.set.now t.point) c.args.slots.now (c.are_apart.ensures c.if-are_apart.true))
