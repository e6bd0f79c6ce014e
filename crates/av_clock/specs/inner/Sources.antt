-- Gates and flip-flops that read at the sources of their places.
use Rattle.std.specs.Prelude.{ℕ, List, slice_index}
use Rattle.av_clock.specs.declared.gate.Reading.{Reading}
use Rattle.av_clock.specs.declared.gate.Reading.TheVariants.{At, Constant}
use Rattle.av_clock.specs.declared.gate.Gate.{Gate}
use Rattle.av_clock.specs.declared.gate.Gate.TheVariants.{Buffer, Operator, Comparator, Multiplexer, Slice, Extender}
use Rattle.av_clock.specs.declared.gate.FlipFlop.{FlipFlop}

-- the place that a reading reads, replaced by its source
abbrev pub at_source : List ℕ → Reading → Reading
at_source sources (At place) = At (slice_index sources place)
at_source sources (Constant word) = Constant word

-- the same gate, reading at sources
abbrev pub gate_at_sources : List ℕ → Gate → Gate
gate_at_sources sources (Buffer input) = Buffer (at_source sources input)
gate_at_sources sources (Operator left symbol right width) = Operator (at_source sources left) symbol (at_source sources right) width
gate_at_sources sources (Comparator left symbol right width) = Comparator (at_source sources left) symbol (at_source sources right) width
gate_at_sources sources (Multiplexer condition first second) = Multiplexer (at_source sources condition) (at_source sources first) (at_source sources second)
gate_at_sources sources (Slice input from width) = Slice (at_source sources input) from width
gate_at_sources sources (Extender input width by) = Extender (at_source sources input) width by

-- and the same flip-flop
abbrev pub flip_flop_at_source : List ℕ → FlipFlop → FlipFlop
flip_flop_at_source sources flip_flop = record flip_flop { next = at_source sources flip_flop.next }
