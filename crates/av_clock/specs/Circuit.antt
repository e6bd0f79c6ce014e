-- What a circuit keeps.
use Rattle.std.specs.Prelude.{◌≡◌, length, filter}
use Rattle.av_net.specs.declared.netlist.Module.{Module}
use Rattle.av_net.specs.Sound.{IsSound}
use Rattle.av_clock.specs.declared.circuit.Circuit.TheInside.{Inside}
use Rattle.av_clock.specs.Gates.{AreAssigned, AreStepped}
use Rattle.av_clock.specs.Kept.{computes}
use Rattle.av_clock.specs.Merged.{merged}
use Rattle.av_clock.specs.Readers.{HaveDrives, HaveSteps}

-- the merged module
abbrev pub net : Inside → Module
net c = merged c.of.now c.merged.sources.items

-- its merged module is sound, its assignments and flip-flops stand for that module's drives and steps, those that compute are known, and the
-- lists have drives and steps by what they read
pub record IsCircuit (c : Inside) : Type 0 where
  pub sound : IsSound (net c)
  pub assignments : AreAssigned (net c) (length (net c).drives) c.merged.assignments.items
  pub flip_flops : AreStepped (net c) (length (net c).steps) c.merged.flip_flops.items
  pub computed : c.computed.items ≡ filter computes c.merged.assignments.items
  pub drives_reading : HaveDrives (net c) (length (net c).drives) c.drives_reading.items
  pub steps_reading : HaveSteps (net c) (length (net c).steps) c.steps_reading.items
