-- What `sim` refuses, and what it writes.
use Rattle.std.specs.Prelude.{◌≡◌, ℕ, List, codes}
use Rattle.av_net.specs.declared.design.Design.{Design}
use Rattle.av_net.specs.Designs.{Spells}
use Rattle.av_vread.specs.declared.fault.VFault.{VFault}
use Rattle.av_vread.specs.Faults.{IsFault}
use Rattle.av_data.specs.declared.fault.DataFault.{DataFault}
use Rattle.av_data.specs.declared.stimulus.Stimulus.{Stimulus}
use Rattle.av_data.specs.Divisions.{IsDivided, HasNoMark}
use Rattle.av_data.specs.Stimuli.{SpellsStimulus, IsStimulusFault}
use Rattle.av_commands.specs.Refusals.{verilog_reason, data_reason}
use Rattle.av_wave.specs.Simulated.{AreSimulated}

-- there is no mark, or the text before it spells no design, or what follows it is no stimulus for the design's module
pub data RefusesSim (bytes reason : List ℕ) : Type 0 where
  no_mark : HasNoMark bytes → reason ≡ codes "no mark" → RefusesSim bytes reason
  bad_text : {text rest : List ℕ} {first : ℕ} (fault : VFault) → IsDivided bytes text rest first → IsFault text fault → reason ≡ verilog_reason fault → RefusesSim bytes reason
  bad_stimulus : {text rest : List ℕ} {first : ℕ} {design : Design} (fault : DataFault) → IsDivided bytes text rest first → Spells text design
      → IsStimulusFault design.module.inputs first rest fault → reason ≡ data_reason fault → RefusesSim bytes reason

-- the lines of the run of the module before the mark, under the stimulus behind it
pub record GivesSim (bytes out : List ℕ) : Type 0 where
  pub text : List ℕ
  pub rest : List ℕ
  pub first : ℕ
  pub divided : IsDivided bytes text rest first
  pub design : Design
  pub spelled : Spells text design
  pub stimulus : Stimulus
  pub stimulated : SpellsStimulus design.module.inputs rest stimulus
  pub simulated : AreSimulated design.module stimulus out
