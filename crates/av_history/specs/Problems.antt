-- Problem after problem on one array: each has its inputs presented, and its words on the lanes, so many cycles later than the array
-- says.
use Rattle.std.specs.Prelude.{◌≡◌, ℕ, ◌+◌, ◌<◌, IsTrue, Some, slice_get}
use Rattle.av_tree.specs.Points.{Point}
use Rattle.av_tree.specs.Values.{Assignment}
use Rattle.av_flat.specs.Trees.{Variable}
use Rattle.av_flat.specs.Nodes.{is_node, number_at}
use Rattle.av_space.specs.Listings.{InLine, IsInLine}
use Rattle.av_kinds.specs.Histories.{Signals}
use Rattle.av_history.specs.Performing.{Array, ComputesOn, Lanes}

-- the input ports have the listed words, so many cycles later than the listing says, where the run goes on for so long
abbrev pub Presents : Array → ℕ → Assignment → ℕ → Signals → Type 0
Presents a start x n ports = (l : InLine) → IsInLine a.system a.helpers a.times a.cells a.ports l → l.entry.cycle + start < n → Some (ports (l.entry.cycle + start) l.port) ≡ x l.entry.variable l.entry.point

-- the lanes of values have the words of the computed points, so many cycles later than the array says
abbrev pub HaveWords : Array → Lanes → ℕ → Assignment → ℕ → Signals → Type 0
HaveWords a lanes start u n words = (place : ℕ) (z : Point) (v : Variable) → slice_get a.system.variables place ≡ Some v → IsTrue (is_node v)
    → (p c : ℕ) → ComputesOn a p c (number_at a.system place) z → c + start < n → u v.name z ≡ Some (words (c + start) (lanes.of_value p))

-- the counter has in the cycle of each computation what it has so many cycles later
abbrev pub CountsAnew : Array → (ℕ → ℕ) → ℕ → Type 0
CountsAnew a count start = (p c n : ℕ) (z : Point) → ComputesOn a p c n z → count (c + start) ≡ count c
