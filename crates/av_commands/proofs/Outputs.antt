-- What it comes to when outputs of a run are put into a sink.
use Rattle.std.proofs.Common.{◌≡◌, ℕ, zero, suc, ◌+◌, Bool, List, [], ◌∷◌, ◌++◌, length, take, Option, refl, sym, ap, ◌∙◌, subst, inl, inr}
use Rattle.std.specs.Prelude.{◌⊎◌, codes, decimal, Result, Ok, Err, OnOk, OnErr}
use Rattle.std.specs.List.{sum}
use Rattle.std.proofs.lemmas.List.{length-map}
use Rattle.std.proofs.Math.Seq.{take-append-add}
use Rattle.av_base.specs.declared.word.Word.{Word}
use Rattle.av_base.specs.Outside.{SinkState, Adds, AddsPrefix, HasRisen}
use Rattle.av_base.specs.Words.{residue}
use Rattle.av_base.proofs.Moves.{Adds-more}
use Rattle.av_flat.specs.declared.timed.Timed.{Timed}
use Rattle.av_flat.specs.Trees.{view_system}
use Rattle.av_net.specs.declared.design.Entry.{Entry}
use Rattle.av_net.specs.declared.design.Design.{Design}
use Rattle.av_net.specs.declared.plan.Plan.{Plan}
use Rattle.av_net.specs.Clocked.{Stream, Run, IsRun}
use Rattle.av_net.specs.Shown.{Values}
use Rattle.av_net.specs.Sound.{IsSound}
use Rattle.av_net.specs.PlanTexts.{text2}
use Rattle.av_space.specs.declared.cells.Cells.{Cells}
use Rattle.av_data.specs.declared.fault.DataFault.{DataFault}
use Rattle.av_data.specs.declared.fault.DataFault.TheVariants as data_fault
use Rattle.av_data.specs.declared.stimulus.Stimulus.{Stimulus}
use Rattle.av_data.specs.Data.{IsInputFault}
use Rattle.av_data.specs.Tables.{totals_line}
use Rattle.av_commands.specs.declared.status.Status.{Status}
use Rattle.av_commands.specs.declared.status.Status.TheVariants.{Done, Refused, WriteFault, Memory}
use Rattle.av_commands.specs.declared.runs.Report.TheVariants.{Results, Trace, Wave}
use Rattle.av_commands.specs.Refusals.{refusal_line, data_reason}
use Rattle.av_commands.specs.Runs.{results}
use Rattle.av_commands.specs.Shown.{IsFedRun, AreShown}
use Rattle.av_wave.specs.Simulated.{IsStimulated, run_lines}
use Rattle.av_wave.specs.Waves.{Recording}
use Rattle.av_wave.specs.Dumps.{dump_text}
use Rattle.av_wave.specs.Recorded.{IsRecorded, IsCaptured, AddsDump, AddsDumpPrefix}
use Rattle.av_commands.specs.Written.{IsPut, IsAnswered, refused, given, no_memory, PutsOneOf, puts, nothing_put}
use Rattle.av_commands.specs.inner.DemoData.{entries, IsSummed}
use Rattle.av_commands.specs.inner.Feeding.{AreOfLines}
use Rattle.av_commands.specs.inner.Reported.{RefusesLines, names_output, IsReport}
use Rattle.av_commands.specs.inner.Watching.{bits_of}
use Rattle.av_commands.proofs.Watching.{has_run}
use Rattle.av_commands.proofs.Fed.{fed}

-- ---- refusals, and outputs that were put

pub data_refused : (t : Timed) (first : ℕ) (bytes : List ℕ) (Given : List ℕ → Type 0) (f : DataFault) {sink sink' : SinkState} {status : Status}
    → (f ≡ data_fault.Memory) ⊎ IsInputFault (view_system t.flat) first bytes f → (f ≡ data_fault.Memory → (status ≡ Memory) × (sink'.held ≡ sink.held))
    → ((f ≡ data_fault.Memory → ⊥) → IsPut sink sink' (refusal_line (data_reason f)) Refused status) → IsAnswered (RefusesLines t first bytes) Given sink sink' status
data_refused t first bytes Given f (inl memory) none put = let (x, y) = none memory in no_memory x y
data_refused t first bytes Given f (inr is) none put = refused (record { fault = f; is = is; told = refl }) (put (λ e. not_memory (subst (IsInputFault (view_system t.flat) first bytes) e is)))
  where
    not_memory : IsInputFault (view_system t.flat) first bytes data_fault.Memory → ⊥
    not_memory is = is.faulty

-- where outputs were put, they were given
pub puts_given : {Refuses Gives Put : List ℕ → Type 0} {sink sink' : SinkState} {status : Status} → ((out : List ℕ) → Put out → Gives out) → PutsOneOf Put sink sink' status
    → IsAnswered Refuses Gives sink sink' status
puts_given f (puts {out} g put) = given (f out g) put
puts_given f (nothing_put a b) = no_memory a b

-- the same of more outputs
pub puts_more : {Put More : List ℕ → Type 0} {sink sink' : SinkState} {status : Status} → ((out : List ℕ) → Put out → More out) → PutsOneOf Put sink sink' status
    → PutsOneOf More sink sink' status
puts_more f (puts {out} g put) = puts (f out g) put
puts_more f (nothing_put a b) = nothing_put a b

-- ---- fronts of texts

-- a front of a text is one of a longer text
pub front_more : (h h' : Option (List ℕ)) (xs ys : List ℕ) → AddsPrefix h h' xs → AddsPrefix h h' (xs ++ ys)
front_more h h' xs ys (n, adds) = (length (take n xs), subst (Adds h h') (sym (begins n xs ys)) adds)
  where
    begins : (n : ℕ) (line rest : List ℕ) → take (length (take n line)) (line ++ rest) ≡ take n line
    begins zero line rest = refl
    begins (suc n) [] rest = refl
    begins (suc n) (b ∷ line) rest = ap (λ (z : List ℕ). b ∷ z) (begins n line rest)

-- a text, and a front of the next
pub front_after : (h h' h'' : Option (List ℕ)) (xs ys : List ℕ) → Adds h h' xs → AddsPrefix h' h'' ys → AddsPrefix h h'' (xs ++ ys)
front_after h h' h'' xs ys so (n, adds) = (length xs + n, subst (Adds h h'') (sym (take-append-add xs ys n)) (Adds-more h h' h'' xs (take n ys) so adds))

pub on_ok_from : {T E P Q : Type 0} (r : Result T E) → (P → Q) → OnOk r P → OnOk r Q
on_ok_from (Ok t) f h = f h
on_ok_from (Err e) f h = tt

pub on_err_from : {T E P Q : Type 0} (r : Result T E) → (P → Q) → OnErr r P → OnErr r Q
on_err_from (Ok t) f h = tt
on_err_from (Err e) f h = f h

-- ---- results

-- a word is shown for each line
pub shown_long : (d : Design) (x : Values) (words : List Word) → AreShown d x (bits_of words) → length words ≡ length d.listing.ats
shown_long d x words shown = sym (length-map words (λ (w : Word). w.bits)) ∙ ap length shown.words_are ∙ length-map d.listing.ats _

module _ (t : Timed) (cells : Cells) (plan : Plan) (d : Design) (x : Values) (words ws : List Word) (ls : List Entry) (list : ls ≡ d.listing.ats) (same : ws ≡ words) (shown : AreShown d x (bits_of words)) where
  abbrev test : Entry → Bool
  test line = names_output (view_system t.flat) line.variable

  lines_are : results test ls (bits_of ws) ≡ results test d.listing.ats (bits_of words)
  lines_are = ap (λ (l : List Entry). results test l (bits_of ws)) list ∙ ap (λ (w : List Word). results test d.listing.ats (bits_of w)) same

  pub results_put : {sink sink' : SinkState} → Adds sink.held sink'.held (results test ls (bits_of ws)) → PutsOneOf (IsReport Results t cells plan d x) sink sink' Done
  results_put adds = puts (record { words = bits_of words; shown = shown; lines = lines_are }) (record { ends = inl (refl, adds) })

  pub results_failed : {sink sink' : SinkState} → HasRisen sink.faults sink'.faults → AddsPrefix sink.held sink'.held (results test ls (bits_of ws)) → PutsOneOf (IsReport Results t cells plan d x) sink sink' WriteFault
  results_failed risen adds = puts (record { words = bits_of words; shown = shown; lines = lines_are }) (record { ends = inr (refl, risen, adds) })

-- ---- a trace

module _ (t : Timed) (cells : Cells) (plan : Plan) (d : Design) (x : Values) (s : Stimulus) (sound : IsSound d.module) (so : AreOfLines d x (length d.listing.ins) s.values) (cycles : s.cycles ≡ cells.cycles) where
  dump_of : (w : Recording) → IsCaptured d.module s w → IsReport Wave t cells plan d x (dump_text w)
  dump_of w captured = record {
    run = captured.run;
    clocked = record {
      stream = captured.stream;
      fed = fed d x s captured.stream so captured.stimulated;
      powered = captured.powered;
      clocked = subst (λ n. IsRun d.module n captured.stream captured.run) cycles captured.clocked;
    };
    wave = w;
    recorded = subst (λ n. IsRecorded d.module captured.run.in_cycle n w) cycles captured.recorded;
    text = refl;
  }

  abbrev trace_of : Run → ℕ → List ℕ
  trace_of run n = text2 plan ++ codes "%%\n" ++ run_lines d.module run.in_cycle n

  pub trace_put : {sink sink' : SinkState} → ((stream : Stream) (run : Run) → IsStimulated d.module s stream → IsRun d.module s.cycles stream run → Adds sink.held sink'.held (trace_of run s.cycles)) → PutsOneOf (IsReport Trace t cells plan d x) sink sink' Done
  trace_put adds =
      let has = has_run d x s sound so in
      puts (record { run = has.run; clocked = subst (λ n. IsFedRun d x n has.run) cycles has.clocked; lines = ap (trace_of has.run) cycles }) (record { ends = inl (refl, adds has.stream has.run has.stimulated has.is) })

  pub trace_failed : {sink sink' : SinkState} → HasRisen sink.faults sink'.faults → ((stream : Stream) (run : Run) → IsStimulated d.module s stream → IsRun d.module s.cycles stream run → AddsPrefix sink.held sink'.held (trace_of run s.cycles))
      → PutsOneOf (IsReport Trace t cells plan d x) sink sink' WriteFault
  trace_failed risen adds =
      let has = has_run d x s sound so in
      puts (record { run = has.run; clocked = subst (λ n. IsFedRun d x n has.run) cycles has.clocked; lines = ap (trace_of has.run) cycles }) (record { ends = inr (refl, risen, adds has.stream has.run has.stimulated has.is) })

  -- ---- a dump

  pub dump_put : {sink sink' : SinkState} → AddsDump d.module s sink.held sink'.held → PutsOneOf (IsReport Wave t cells plan d x) sink sink' Done
  dump_put dump = puts (dump_of dump.wave dump.captured) (record { ends = inl (refl, dump.added) })

  pub dump_failed : {sink sink' : SinkState} → HasRisen sink.faults sink'.faults → AddsDumpPrefix d.module s sink.held sink'.held → PutsOneOf (IsReport Wave t cells plan d x) sink sink' WriteFault
  dump_failed risen dump = puts (dump_of dump.wave dump.captured) (record { ends = inr (refl, risen, dump.added) })

-- ---- a demo

module _ (cells : Cells) (d : Design) (bits : ℕ) (words ws : List Word) (n : ℕ) (same : ws ≡ words) (total : n ≡ residue bits (sum (bits_of ws))) (shown : AreShown d (entries bits) (bits_of words)) where
  abbrev lines_of : ℕ → List ℕ
  lines_of n = totals_line cells ++ (codes "sum " ++ decimal n ++ codes "\n")

  lines_same : lines_of n ≡ lines_of (residue bits (sum (bits_of words)))
  lines_same = ap lines_of (total ∙ ap (λ (w : List Word). residue bits (sum (bits_of w))) same)

  pub summed_put : {sink sink' : SinkState} → Adds sink.held sink'.held (lines_of n) → PutsOneOf (IsSummed cells d bits) sink sink' Done
  summed_put adds = puts (record { words = bits_of words; shown = shown; lines = lines_same }) (record { ends = inl (refl, adds) })

  pub summed_failed : {sink sink' : SinkState} → HasRisen sink.faults sink'.faults → AddsPrefix sink.held sink'.held (lines_of n) → PutsOneOf (IsSummed cells d bits) sink sink' WriteFault
  summed_failed risen adds = puts (record { words = bits_of words; shown = shown; lines = lines_same }) (record { ends = inr (refl, risen, adds) })
