-- Settled words: each continuous assignment holds (IEEE 1364-2005, 6.1).
use Rattle.std.specs.Prelude.{◌≡◌, ℕ, List, All}
use Rattle.av_base.specs.Words.{IsWord}
use Rattle.av_net.specs.declared.netlist.Drive.{Drive}
use Rattle.av_net.specs.declared.netlist.Module.{Module}
use Rattle.av_net.specs.Meaning.{Words, Widths, result_of}
use Rattle.av_net.specs.Names.{width_of}

-- the target has the word of its operation
abbrev pub Holds : Widths → Words → Drive → Type 0
Holds widths v drive = v drive.target ≡ result_of widths v drive.operation

-- each `assign` holds
abbrev pub Settled : Module → Words → Type 0
Settled m v = All (Holds (width_of m) v) m.drives

-- two maps have the same words at these names
abbrev pub Agree : List (List ℕ) → Words → Words → Type 0
Agree names v w = All (λ name. v name ≡ w name) names

-- the words at these names fit their widths
abbrev pub FitAt : Widths → List (List ℕ) → Words → Type 0
FitAt widths names v = All (λ name. IsWord (widths name) (v name)) names
