-- What it is to present inputs to a design, and what a design shows.
use Rattle.std.specs.Prelude.{◌≡◌, ℕ, ◌<◌, ℤ, List, Option, Some, All}
use Rattle.av_net.specs.declared.design.Entry.{Entry}
use Rattle.av_net.specs.declared.design.Design.{Design}
use Rattle.av_net.specs.Meaning.{Words}
use Rattle.av_net.specs.Clocked.{Stream, Run, IsRun, FitPorts}

-- a word for each point of each variable, where the point is declared
abbrev pub Values : Type 0
Values = List ℕ → List ℤ → Option ℕ

-- in its cycle, where that is one of the first n, the line's wire has its point's word
abbrev pub HasListed : ℕ → (ℕ → Words) → Values → Entry → Type 0
HasListed n in_cycle values line = line.cycle < n → Some (in_cycle line.cycle line.wire) ≡ values line.variable line.point

-- A stream for n cycles presents x where its words fit the ports, at the reset edge too, and each listed
-- input point has its word at its port in its cycle. Everything else in it is arbitrary.
pub record Presents (design : Design) (n : ℕ) (stream : Stream) (x : Values) : Type 0 where
  pub fits_on_reset : FitPorts design.module stream.on_reset
  pub fits : (c : ℕ) → c < n → FitPorts design.module (stream.in_cycle c)
  pub points : All (HasListed n stream.in_cycle x) design.listing.ins

-- In every run of any length, under every stream that presents x, each listed point has its word on its
-- wire in its cycle.
abbrev pub Shows : Design → Values → Values → Type 0
Shows design x u =
    (n : ℕ) (stream : Stream) (run : Run)
    → IsRun design.module n stream run → Presents design n stream x
    → All (HasListed n run.in_cycle u) design.listing.ats
