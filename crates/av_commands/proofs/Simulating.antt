-- How the answers of `sim` follow from what its steps did.
use Rattle.std.proofs.Common.{◌≡◌, ℕ, List, get_or, refl, ap, subst, inl, inr, sym, ◌∙◌, arith}
use Rattle.std.specs.Prelude.{◌⊎◌}
use Rattle.av_base.specs.Outside.{SinkState, Adds, AddsPrefix, HasRisen}
use Rattle.av_net.specs.declared.netlist.Port.{Port}
use Rattle.av_net.specs.declared.netlist.Module.{Module}
use Rattle.av_net.specs.declared.design.Design.{Design}
use Rattle.av_net.specs.Meaning.{Words}
use Rattle.av_net.specs.Clocked.{Stream, Run, IsRun}
use Rattle.av_net.specs.Sound.{IsSound}
use Rattle.av_net.specs.Designs.{Spells}
use Rattle.av_net.proofs.Cycles.{has_runs}
use Rattle.av_vread.specs.declared.fault.VFault.{VFault}
use Rattle.av_vread.specs.declared.fault.VFault.TheVariants as verilog_fault
use Rattle.av_vread.specs.Faults.{IsFault}
use Rattle.av_data.specs.declared.fault.DataFault.{DataFault}
use Rattle.av_data.specs.declared.fault.DataFault.TheVariants.{DataSyntax, DataUnknown, DataOutside, DataTwice, DataMissing, Memory}
use Rattle.av_data.specs.declared.stimulus.Stimulus.{Stimulus}
use Rattle.av_data.specs.Divisions.{IsDivided}
use Rattle.av_data.specs.Stimuli.{SpellsStimulus, IsStimulusFault}
use Rattle.av_commands.specs.declared.status.Status.{Status}
use Rattle.av_commands.specs.declared.status.Status.TheVariants.{Done, Refused, WriteFault, Memory as OutOfMemory}
use Rattle.av_commands.specs.Refusals.{refusal_line, verilog_reason, data_reason}
use Rattle.av_wave.specs.Simulated.{IsStimulated, run_lines}
use Rattle.av_commands.specs.Sims.{RefusesSim, bad_text, bad_stimulus, GivesSim, no_mark}
use Rattle.av_commands.specs.inner.WithModule.{RefusesStimulus, GivesRun}
use Rattle.av_commands.specs.Written.{IsPut, IsAnswered, refused, given, no_memory}
use Rattle.av_commands.specs.inner.Clocking.{IsClocked}
use Rattle.av_wave.proofs.Walking.{values_left}
use Rattle.av_wave.proofs.Cycling.{stream_of, is_stream}
use Rattle.av_wave.specs.Clocking.{AreLeft}
use Rattle.av_wave.specs.Recorded.{IsForPort}
use Rattle.av_data.proofs.Fits.{IsFor as Fits, values_fit}
use Rattle.std.proofs.lemmas.List.Elements.{All-weaker}
use Rattle.av_net.specs.Names.{names_of, AreDistinct}
use Rattle.av_net.proofs.Distinct.{front_distinct}
use Rattle.av_vread.proofs.Faulted.{not_both, one_design}
use Rattle.av_vread.proofs.SoundDesigns.{spelled_sound}
use Rattle.av_data.proofs.Told.{not_both as not_both_stimuli}
use Rattle.av_wave.proofs.Presenting.{given_distinct}

-- ---- a run under the stimulus

-- at first all values are left
pub stimulus_left : (inputs : List Port) (bytes : List ℕ) (s : Stimulus) → SpellsStimulus inputs bytes s → AreLeft inputs s.values 0 0 s.values
stimulus_left inputs bytes s is = values_left inputs s.values is.ascending (All-weaker (Fits inputs s.cycles) (IsForPort inputs) (λ g f. (f.port, f.declared, f.fits)) s.values (values_fit inputs bytes s is))

pub clocked_done : (m' m : Module) (s : Stimulus) (sink sink' : SinkState) → m' ≡ m
    → ((stream : Stream) (run : Run) → IsStimulated m' s stream → IsRun m' s.cycles stream run → Adds sink.held sink'.held (run_lines m' run.in_cycle s.cycles)) → IsClocked m s sink sink' Done
clocked_done m' m s sink sink' e added =
    let all = subst (λ x. (stream : Stream) (run : Run) → IsStimulated x s stream → IsRun x s.cycles stream run → Adds sink.held sink'.held (run_lines x run.in_cycle s.cycles)) e added in
    inr (λ stream run stimulated is. record { ends = inl (refl, all stream run stimulated is) })

pub clocked_failed : (m' m : Module) (s : Stimulus) (sink sink' : SinkState) → m' ≡ m → HasRisen sink.faults sink'.faults
    → ((stream : Stream) (run : Run) → IsStimulated m' s stream → IsRun m' s.cycles stream run → AddsPrefix sink.held sink'.held (run_lines m' run.in_cycle s.cycles)) → IsClocked m s sink sink' WriteFault
clocked_failed m' m s sink sink' e risen front =
    let all = subst (λ x. (stream : Stream) (run : Run) → IsStimulated x s stream → IsRun x s.cycles stream run → AddsPrefix sink.held sink'.held (run_lines x run.in_cycle s.cycles)) e front in
    inr (λ stream run stimulated is. record { ends = inr (refl, risen, all stream run stimulated is) })

-- ---- answers

pub run_answered : (m : Module) (bytes : List ℕ) (first : ℕ) (s : Stimulus) (sink sink' : SinkState) (status : Status) → IsSound m → SpellsStimulus m.inputs bytes s → IsClocked m s sink sink' status
    → IsAnswered (RefusesStimulus m bytes first) (GivesRun m bytes) sink sink' status
run_answered m bytes first s sink sink' status sound spelled (inl none) = no_memory none.0 none.1
run_answered m bytes first s sink sink' status sound spelled (inr lines) =
    let stream = stream_of m s in
    let stimulated = is_stream m s sound in
    let (run, is, before) = has_runs m sound s.cycles stream (λ name. 0) in
    given (record {
      stimulus = s;
      stimulated = spelled;
      simulated = record {
        stream = stream;
        run = run;
        stimulated = stimulated;
        powered = λ k d lt. ap (λ (v : Words). v (get_or m.registers k d).name) before;
        clocked = is;
        lines = refl;
      };
    }) (lines stream run stimulated is)

pub module_answered : (bytes text rest : List ℕ) (first : ℕ) (design : Design) {sink sink' : SinkState} {status : Status} → IsDivided bytes text rest first → Spells text design
    → IsAnswered (RefusesStimulus design.module rest first) (GivesRun design.module rest) sink sink' status → IsAnswered (RefusesSim bytes) (GivesSim bytes) sink sink' status
module_answered bytes text rest first design divided spelled (refused r put) = refused (bad_stimulus r.cause divided spelled r.is r.told) put
module_answered bytes text rest first design divided spelled (given g put) =
    given (record { text = text; rest = rest; first = first; divided = divided; design = design; spelled = spelled; stimulus = g.stimulus; stimulated = g.stimulated; simulated = g.simulated }) put
module_answered bytes text rest first design divided spelled (no_memory a b) = no_memory a b

pub stimulus_refused : (m : Module) (bytes : List ℕ) (first : ℕ) (f : DataFault) {sink sink' : SinkState} {status : Status} → (f ≡ Memory) ⊎ IsStimulusFault m.inputs first bytes f
    → (f ≡ Memory → (status ≡ OutOfMemory) × (sink'.held ≡ sink.held)) → ((f ≡ Memory → ⊥) → IsPut sink sink' (refusal_line (data_reason f)) Refused status)
    → IsAnswered (RefusesStimulus m bytes first) (GivesRun m bytes) sink sink' status
stimulus_refused m bytes first Memory fault none put = let (a, b) = none refl in no_memory a b
stimulus_refused m bytes first f (inl e) none put = let (a, b) = none e in no_memory a b
stimulus_refused m bytes first (DataSyntax l) (inr is) none put = refused (record { cause = DataSyntax l; is = is; told = refl }) (put (λ e. cc))
stimulus_refused m bytes first (DataUnknown l) (inr is) none put = refused (record { cause = DataUnknown l; is = is; told = refl }) (put (λ e. cc))
stimulus_refused m bytes first (DataOutside l) (inr is) none put = refused (record { cause = DataOutside l; is = is; told = refl }) (put (λ e. cc))
stimulus_refused m bytes first (DataTwice l) (inr is) none put = refused (record { cause = DataTwice l; is = is; told = refl }) (put (λ e. cc))
stimulus_refused m bytes first (DataMissing name point) (inr is) none put = refused (record { cause = DataMissing name point; is = is; told = refl }) (put (λ e. cc))

pub verilog_refused : (bytes text rest : List ℕ) (first : ℕ) (f : VFault) {sink sink' : SinkState} {status : Status} → IsDivided bytes text rest first → (f ≡ verilog_fault.Memory) ⊎ IsFault text f
    → (f ≡ verilog_fault.Memory → (status ≡ OutOfMemory) × (sink'.held ≡ sink.held)) → ((f ≡ verilog_fault.Memory → ⊥) → IsPut sink sink' (refusal_line (verilog_reason f)) Refused status)
    → IsAnswered (RefusesSim bytes) (GivesSim bytes) sink sink' status
verilog_refused bytes text rest first f divided (inl e) none put = let (a, b) = none e in no_memory a b
verilog_refused bytes text rest first f divided (inr is) none put = refused (bad_text f divided is refl) (put (λ e. subst (λ x. IsFault text x) e is))

inputs_distinct : (text : List ℕ) (design : Design) → Spells text design → AreDistinct (names_of design.module.inputs)
inputs_distinct text design spelled =
    let sound = spelled_sound text design spelled in
    front_distinct (names_of design.module.inputs) (names_of design.module.registers) (given_distinct design.module sound.sound)

pub exclusive_sim : (bytes reason out : List ℕ) → RefusesSim bytes reason → GivesSim bytes out → ⊥
exclusive_sim bytes reason out (no_mark none e) g =
    let marked = g.divided.marked in
    omega (arith, none, marked)
exclusive_sim bytes reason out (bad_text {text} fault divided is e) g =
    let same : g.text ≡ text = g.divided.text_is ∙ sym divided.text_is in
    not_both text g.design fault (subst (λ t. Spells t g.design) same g.spelled) is
exclusive_sim bytes reason out (bad_stimulus {text} {rest} {first} {design} fault divided spelled is e) g =
    let same : g.text ≡ text = g.divided.text_is ∙ sym divided.text_is in
    let one : g.design ≡ design = one_design text g.design design (subst (λ t. Spells t g.design) same g.spelled) spelled in
    let later : g.rest ≡ rest = g.divided.rest_is ∙ sym divided.rest_is in
    let stimulated = subst (λ (d : Design). SpellsStimulus d.module.inputs rest g.stimulus) one (subst (λ r. SpellsStimulus g.design.module.inputs r g.stimulus) later g.stimulated) in
    not_both_stimuli design.module.inputs (inputs_distinct text design spelled) first rest g.stimulus fault stimulated is
