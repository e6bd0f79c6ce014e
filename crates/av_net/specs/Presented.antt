-- When inputs can be presented.
use Rattle.std.specs.Prelude.{◌≡◌, ◌≢◌, ℕ, List, Some, All, AllPairs}
use Rattle.av_base.specs.Words.{IsWord}
use Rattle.av_net.specs.declared.netlist.Port.{Port}
use Rattle.av_net.specs.declared.design.Entry.{Entry}
use Rattle.av_net.specs.declared.design.Design.{Design}
use Rattle.av_net.specs.Clocked.{Stream}
use Rattle.av_net.specs.Shown.{Values, Presents}

-- no two lines share wire and cycle
abbrev pub AreApart : List Entry → Type 0
AreApart lines = AllPairs (λ line later. line.wire ≡ later.wire → line.cycle ≢ later.cycle) lines

-- the line's point has a word, which fits each port that the line names
abbrev pub HasFittingWord : List Port → Values → Entry → Type 0
HasFittingWord ports x line =
    (word : ℕ)
    × (x line.variable line.point ≡ Some word)
    × All (λ port. line.wire ≡ port.name → IsWord port.width.bits word) ports

-- each listed input point has a word that fits its port
abbrev pub HaveFittingWords : Design → Values → Type 0
HaveFittingWords design x = All (HasFittingWord design.module.inputs x) design.listing.ins

-- in a run of any length there is a stream that presents x
abbrev pub IsPresentable : Design → Values → Type 0
IsPresentable design x = (n : ℕ) → (stream : Stream) × Presents design n stream x
