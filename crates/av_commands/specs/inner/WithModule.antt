-- What `sim` refuses and writes, with the module at hand.
use Rattle.std.specs.Prelude.{◌≡◌, ℕ, List}
use Rattle.av_net.specs.declared.netlist.Module.{Module}
use Rattle.av_data.specs.declared.fault.DataFault.{DataFault}
use Rattle.av_data.specs.declared.stimulus.Stimulus.{Stimulus}
use Rattle.av_data.specs.Stimuli.{SpellsStimulus, IsStimulusFault}
use Rattle.av_commands.specs.Refusals.{data_reason}
use Rattle.av_wave.specs.Simulated.{AreSimulated}

pub record RefusesStimulus (m : Module) (bytes : List ℕ) (first : ℕ) (reason : List ℕ) : Type 0 where
  pub cause : DataFault
  pub is : IsStimulusFault m.inputs first bytes cause
  pub told : reason ≡ data_reason cause

pub record GivesRun (m : Module) (bytes out : List ℕ) : Type 0 where
  pub stimulus : Stimulus
  pub stimulated : SpellsStimulus m.inputs bytes stimulus
  pub simulated : AreSimulated m stimulus out
