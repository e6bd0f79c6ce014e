-- The values that the `in` lines of a design give its ports, by cycle and port.
use Rattle.std.specs.Prelude.{◌≡◌, ℕ, ◌<◌, List, Some, slice_get, AllPairs, Contains}
use Rattle.av_net.specs.declared.design.Entry.{Entry}
use Rattle.av_net.specs.declared.design.Design.{Design}
use Rattle.av_net.specs.Names.{names_of}
use Rattle.av_net.specs.Shown.{Values}
use Rattle.av_data.specs.declared.stimulus.Given.{Given}
use Rattle.av_data.specs.Stimuli.{IsBefore}

-- the value that a line gives: the word of its point, at its port in its cycle
pub record IsOfLine (d : Design) (x : Values) (line : Entry) (g : Given) : Type 0 where
  pub cycle : g.cycle ≡ line.cycle
  pub port : slice_get (names_of d.module.inputs) g.port ≡ Some line.wire
  pub word : x line.variable line.point ≡ Some g.value

-- the value is that of one of the first n lines
pub record IsOfOne (d : Design) (x : Values) (n : ℕ) (g : Given) : Type 0 where
  pub number : ℕ
  pub line : Entry
  pub within : number < n
  pub is_line : slice_get d.listing.ins number ≡ Some line
  pub is : IsOfLine d x line g

-- the values of the first n lines, in ascending order of cycle and port
pub record AreOfLines (d : Design) (x : Values) (n : ℕ) (values : List Given) : Type 0 where
  pub ascending : AllPairs IsBefore values
  pub each : (g : Given) → Contains values g → IsOfOne d x n g
  pub all : (k : ℕ) (line : Entry) → k < n → slice_get d.listing.ins k ≡ Some line → (g : Given) × Contains values g × IsOfLine d x line g
