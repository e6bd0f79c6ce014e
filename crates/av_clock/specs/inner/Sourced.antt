-- What a clock keeps whose words are read at their sources.
use Rattle.std.specs.Prelude.{◌≡◌, ℕ, List, [], ◌∷◌, Bool, false, ◌||◌, if◌then◌else◌}
use Rattle.std.specs.Str.{bytes_eq}
use Rattle.av_net.specs.declared.netlist.Drive.{Drive}
use Rattle.av_net.specs.declared.netlist.Module.{Module}
use Rattle.av_net.specs.Sound.{IsSound}
use Rattle.av_clock.specs.declared.sourced.SourcedClock.TheInside.{Inside}
use Rattle.av_clock.specs.Seen.{Seen}
use Rattle.av_clock.specs.inner.Engine.{IsWhole}
use Rattle.av_clock.specs.Merged.{merged, source_of, AreMerged, resolved}

-- the mark of the drive of a name, clear where nothing drives it
abbrev pub mark_of : List Drive → List Bool → List ℕ → Bool
mark_of (drive ∷ drives) (mark ∷ marks) name = if bytes_eq drive.target name then mark else mark_of drives marks name
mark_of _ _ name = false

-- a drive is marked where it is, or the one that gives its target's word
abbrev pub marks_of : Module → List ℕ → List Bool → List Drive → List Bool → List Bool
marks_of m sources all (drive ∷ drives) (mark ∷ marks) = (mark || mark_of m.drives all (source_of m sources drive.target)) ∷ marks_of m sources all drives marks
marks_of m sources all _ _ = []

-- what is seen of a clock where its engine is seen so: each place has the word of its source
abbrev pub seen_of : Module → List ℕ → Seen → Seen
seen_of m sources engine = record {
  of = m;
  words = resolved sources engine.words;
  settled = engine.settled;
  work = engine.work;
  marked = marks_of m sources engine.marked m.drives engine.marked;
}

abbrev pub seen : Inside → Seen
seen c = seen_of c.of.now c.sources.items c.engine

-- an engine clocks the merged module, with a word for each name and a mark for each drive
pub record IsEngine (m : Module) (sources : List ℕ) (engine : Seen) : Type 0 where
  pub of : engine.of ≡ merged m sources
  pub whole : IsWhole engine

pub record IsKept (c : Inside) : Type 0 where
  pub sound : IsSound c.of.now
  pub sources : AreMerged c.of.now c.sources.items
  pub engine : IsEngine c.of.now c.sources.items c.engine
