-- Streams of problems: a list of inputs presented to one design, each a period later than the one before it, and a list of assignments
-- that it shows in the same way (own form).
use Rattle.std.specs.Prelude.{◌≡◌, ℕ, ◌+◌, ◌*◌, ◌<◌, List, All, Some, slice_get}
use Rattle.av_net.specs.declared.design.Entry.{Entry}
use Rattle.av_net.specs.declared.design.Design.{Design}
use Rattle.av_net.specs.Clocked.{Stream, Run, FitPorts, IsRun}
use Rattle.av_net.specs.Shown.{Values, HasListed}
use Rattle.av_build.specs.Later.{later_lines}

-- A stream for n cycles presents each of the inputs where its words fit the ports, at the reset edge too, and for the one with the number b
-- each listed input point has its word at its port in its cycle plus b periods. Everything else in it is arbitrary.
pub record PresentsEach (design : Design) (period n : ℕ) (stream : Stream) (xs : List Values) : Type 0 where
  pub fits_on_reset : FitPorts design.module stream.on_reset
  pub fits : (c : ℕ) → c < n → FitPorts design.module (stream.in_cycle c)
  pub points : (b : ℕ) (x : Values) → slice_get xs b ≡ Some x → All (HasListed n stream.in_cycle x) (later_lines (b * period) design.listing.ins)

-- the run has for the assignment with the number b each listed point's word on its wire in its cycle plus b periods
abbrev pub HasEach : Design → ℕ → ℕ → Run → List Values → Type 0
HasEach design period n run us = (b : ℕ) (u : Values) → slice_get us b ≡ Some u → All (HasListed n run.in_cycle u) (later_lines (b * period) design.listing.ats)

-- In every run of any length, under every stream that presents the inputs with the period, the design shows the assignments with it.
abbrev pub ShowsEach : Design → ℕ → List Values → List Values → Type 0
ShowsEach design period xs us =
    (n : ℕ) (stream : Stream) (run : Run)
    → IsRun design.module n stream run → PresentsEach design period n stream xs
    → HasEach design period n run us

-- no port and cycle is asked for two words: where two lines of two problems share port and cycle, they are one line of one problem
abbrev pub AreApartEach : List Entry → ℕ → Type 0
AreApartEach lines period =
    (a b i j : ℕ) (line other : Entry) → slice_get lines i ≡ Some line → slice_get lines j ≡ Some other
    → line.wire ≡ other.wire → line.cycle + a * period ≡ other.cycle + b * period → (a ≡ b) × (i ≡ j)

-- in a run of any length there is a stream that presents the inputs with the period
abbrev pub IsPresentableEach : Design → ℕ → List Values → Type 0
IsPresentableEach design period xs = (n : ℕ) → (stream : Stream) × PresentsEach design period n stream xs
