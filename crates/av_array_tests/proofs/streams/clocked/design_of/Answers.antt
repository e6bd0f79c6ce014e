use Rattle.std.proofs.Common.{sym, subst}
use Rattle.av_net.specs.declared.design.Design.{Design}
use Rattle.av_net.specs.Sound.{IsSound}
use Rattle.av_net.proofs.FlatDesigns.{flat_is_sound_design}
use Rattle.av_array_tests.proofs.streams.clocked.design_of.Goals as goal

pub returns : goal.returns
returns c = subst (λ (d : Design). IsSound d.«module») (sym c.in_ok-design.ensures) (flat_is_sound_design c.in_ok-found.found.plan c.in_ok-found.ensures).sound
