-- What a design shows of words that its inputs are given: one run of it, and the words of the listed wires in their cycles.
use Rattle.std.specs.Prelude.{◌≡◌, ℕ, ◌<◌, ◌≤◌, ℤ, nat_abs, List, map, Some, All}
use Rattle.av_net.specs.declared.design.Entry.{Entry}
use Rattle.av_net.specs.declared.design.Design.{Design}
use Rattle.av_net.specs.Meaning.{Words}
use Rattle.av_net.specs.Clocked.{Stream, Run, IsRun}
use Rattle.av_net.specs.Shown.{Values}

-- the entries of a point that may be listed
abbrev pub AreSmall : List ℤ → Type 0
AreSmall point = All (λ i. nat_abs i ≤ 4095) point

-- no line presents a point at this port in this cycle
abbrev pub IsIdle : List Entry → ℕ → List ℕ → Type 0
IsIdle ins cycle port = All (λ line. line.cycle ≡ cycle → line.wire ≡ port → ⊥) ins

-- the ports carry in the cycle of each `in` line the word of its point, and 0 everywhere else and at the reset edge
pub record IsFed (d : Design) (x : Values) (stream : Stream) : Type 0 where
  pub on_reset : All (λ port. stream.on_reset port.name ≡ 0) d.module.inputs
  pub listed : All (λ line. Some (stream.in_cycle line.cycle line.wire) ≡ x line.variable line.point) d.listing.ins
  pub idle : (c : ℕ) → All (λ port. IsIdle d.listing.ins c port.name → stream.in_cycle c port.name ≡ 0) d.module.inputs

-- the run of n cycles whose ports carry that, and whose registers are 0 before the reset edge
pub record IsFedRun (d : Design) (x : Values) (n : ℕ) (run : Run) : Type 0 where
  pub stream : Stream
  pub fed : IsFed d x stream
  pub powered : All (λ port. run.before port.name ≡ 0) d.module.registers
  pub clocked : IsRun d.module n stream run

-- the word on the wire of a line in its cycle
abbrev pub word_on : (ℕ → Words) → Entry → ℕ
word_on in_cycle line = in_cycle line.cycle line.wire

-- one word for each `at` line, in the order of the listing: the word on its wire in its cycle, in a run that reaches it
pub record AreShown (d : Design) (x : Values) (words : List ℕ) : Type 0 where
  pub cycles : ℕ
  pub run : Run
  pub clocked : IsFedRun d x cycles run
  pub reached : All (λ line. line.cycle < cycles) d.listing.ats
  pub words_are : words ≡ map (word_on run.in_cycle) d.listing.ats
