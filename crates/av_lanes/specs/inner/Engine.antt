-- What an engine of lanes keeps.
use Rattle.std.specs.Prelude.{◌≡◌, IsTrue, ℕ, ◌<◌, Bool, false, List, [], length, map, slice_index_or}
use Rattle.av_net.specs.declared.netlist.Module.{Module}
use Rattle.av_net.specs.Names.{all_names}
use Rattle.av_net.specs.Settled.{Settled}
use Rattle.av_net.specs.Sound.{IsSound}
use Rattle.av_clock.specs.Kept.{AreZero}
use Rattle.av_clock.specs.Marked.{AreHeld}
use Rattle.av_clock.specs.Merged.{merged, AreMerged}
use Rattle.av_clock.specs.Named.{named, AllFit}
use Rattle.av_lanes.specs.declared.engine.LaneEngine.TheInside.{Inside}
use Rattle.av_lanes.specs.Seen.{Seen, lane}
use Rattle.av_lanes.specs.inner.Forms.{AreFormed}
use Rattle.av_lanes.specs.inner.Order.{AreOrdered}

-- the words of all places, each read at its source
abbrev pub at_sources : List ℕ → List (List ℕ) → List (List ℕ)
at_sources sources words = map (λ source. slice_index_or words source []) sources

abbrev pub seen : Inside → Seen
seen c = record { of = c.of.now; words = at_sources c.sources.items c.words.items; settled = c.settled }

-- the words of one lane: within their widths, settled where the lanes say so, and where the lanes are not dense, what is not marked holds
pub record IsLane (m : Module) (words : List ℕ) (stale due : List Bool) (dense settled : Bool) : Type 0 where
  pub fit : AllFit m words
  pub settled_words : IsTrue settled → Settled m (named m words)
  pub zeros : AreZero m words
  pub held : dense ≡ false → AreHeld m words stale due

-- the circuit of the merged module, the drives that compute in their forms, a word for each name in each of eight lanes, room for the next words and their steps, the
-- flip-flops in order and as transfers, where they say so, and a mark for each drive and each step
pub record IsKept (c : Inside) : Type 0 where
  pub sound : IsSound c.of.now
  pub sources : AreMerged c.of.now c.sources.items
  pub circuit : c.circuit ≡ merged c.of.now c.sources.items
  pub safe : IsSound c.circuit
  pub drives : AreFormed c.circuit c.drives.items
  pub size : length c.words.items ≡ length (all_names c.circuit)
  pub next : length c.next.items ≡ length c.circuit.steps
  pub taken : length c.taken.items ≡ length c.circuit.steps
  pub moves : IsTrue c.moves.are_ordered → AreOrdered c.circuit c.moves.flip_flops.items c.moves.transfers.items
  pub stale : length c.stale ≡ length c.circuit.drives
  pub due : length c.due ≡ length c.circuit.steps
  pub lanes : (k : ℕ) → k < 8 → IsLane c.circuit (lane k c.words.items) c.stale c.due c.dense c.settled
