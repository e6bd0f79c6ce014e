-- A stimulus that gives nothing to a port, and what a sound design has.
use Rattle.std.proofs.Common.{◌≡◌, ℕ, List, [], sym, arith, subst, All}
use Rattle.std.specs.Prelude.{AllPairs}
use Rattle.av_net.specs.declared.netlist.Port.{Port}
use Rattle.av_net.specs.declared.design.Design.{Design}
use Rattle.av_net.specs.Designs.{IsSoundDesign, HasSpelling}
use Rattle.av_data.specs.declared.stimulus.Given.{Given}
use Rattle.av_data.specs.declared.stimulus.Stimulus.{Stimulus}
use Rattle.av_data.specs.Stimuli.{IsBefore}
use Rattle.av_wave.specs.Recorded.{IsForPort, IsFor}

none_ascend : AllPairs IsBefore []
none_ascend i j d lt within = absurd (omega arith)

none_fit : (inputs : List Port) → All (IsForPort inputs) []
none_fit inputs k d lt = absurd (omega arith)

pub unfed : (inputs : List Port) (s : Stimulus) → s.cycles ≡ 4 → s.values ≡ [] → IsFor inputs s
unfed inputs s cycles none = record {
  most = omega arith;
  ascending = subst (λ (values : List Given). AllPairs IsBefore values) (sym none) none_ascend;
  fit = subst (λ (values : List Given). All (IsForPort inputs) values) (sym none) (none_fit inputs);
}

pub spelled : (design : Design) → IsSoundDesign design → HasSpelling design.module
spelled design sound = record {
  module_name = sound.module_name;
  names = sound.names;
  widths = sound.widths;
  drive_literals = sound.drive_literals;
  step_literals = sound.step_literals;
  widenings = sound.widenings;
}
