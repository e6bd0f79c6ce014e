-- What it comes to when a stream of problems is put into a sink.
use Rattle.std.proofs.Common.{◌≡◌, ℕ, List, ◌++◌, refl, ap, subst, inl, inr}
use Rattle.std.specs.Prelude.{codes}
use Rattle.av_base.specs.Outside.{SinkState, Adds, AddsPrefix, HasRisen}
use Rattle.av_tree.specs.Values.{Assignment}
use Rattle.av_net.specs.Clocked.{Stream, Run, IsRun}
use Rattle.av_net.specs.Flat.{flat_of, flat_module}
use Rattle.av_net.specs.Sound.{IsSound}
use Rattle.av_data.specs.declared.stimulus.Stimulus.{Stimulus}
use Rattle.av_stream.specs.declared.building.Streamed.{Streamed}
use Rattle.av_stream.specs.StreamTexts.{stream_text}
use Rattle.av_commands.specs.declared.status.Status.TheVariants.{Done, WriteFault}
use Rattle.av_wave.specs.Simulated.{IsStimulated, run_lines}
use Rattle.av_commands.specs.Streams.{IsFedEachRun}
use Rattle.av_commands.specs.Written.{PutsOneOf, puts}
use Rattle.av_commands.specs.inner.Streaming.{AreOfProblems, IsStreamed}
use Rattle.av_commands.proofs.FedEach.{fed_each}
use Rattle.av_commands.proofs.Watching.{HasRunUnder, run_under}

module _ (cycles : ℕ) (streamed : Streamed) (xs : List Assignment) (s : Stimulus) (sound : IsSound (flat_module streamed.plan)) (so : AreOfProblems (flat_of streamed.plan) streamed.period xs s.values) (many : s.cycles ≡ cycles) where
  abbrev lines_of : Run → ℕ → List ℕ
  lines_of run n = stream_text streamed ++ codes "%%\n" ++ run_lines (flat_module streamed.plan) run.in_cycle n

  streams : (has : HasRunUnder (flat_module streamed.plan) s) → IsStreamed cycles streamed xs (lines_of has.run s.cycles)
  streams has = record {
    run = has.run;
    clocked = subst (λ (n : ℕ). IsFedEachRun (flat_of streamed.plan) streamed.period xs n has.run) many
        (record { stream = has.stream; fed = fed_each (flat_of streamed.plan) streamed.period xs s has.stream so has.stimulated; powered = has.powered; clocked = has.is });
    lines = ap (lines_of has.run) many;
  }

  pub stream_put : {sink sink' : SinkState} → ((stream : Stream) (run : Run) → IsStimulated (flat_module streamed.plan) s stream → IsRun (flat_module streamed.plan) s.cycles stream run → Adds sink.held sink'.held (lines_of run s.cycles))
      → PutsOneOf (IsStreamed cycles streamed xs) sink sink' Done
  stream_put adds =
      let has = run_under (flat_module streamed.plan) s sound in
      puts (streams has) (record { ends = inl (refl, adds has.stream has.run has.stimulated has.is) })

  pub stream_failed : {sink sink' : SinkState} → HasRisen sink.faults sink'.faults
      → ((stream : Stream) (run : Run) → IsStimulated (flat_module streamed.plan) s stream → IsRun (flat_module streamed.plan) s.cycles stream run → AddsPrefix sink.held sink'.held (lines_of run s.cycles))
      → PutsOneOf (IsStreamed cycles streamed xs) sink sink' WriteFault
  stream_failed risen adds =
      let has = run_under (flat_module streamed.plan) s sound in
      puts (streams has) (record { ends = inr (refl, risen, adds has.stream has.run has.stimulated has.is) })
