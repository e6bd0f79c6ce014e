-- Laws of the definitions.
use Rattle.std.specs.Prelude.{◌≡◌, ℕ, ◌<◌}
use Rattle.av_net.specs.declared.netlist.Module.{Module}
use Rattle.av_net.specs.declared.design.Design.{Design}
use Rattle.av_net.specs.Meaning.{Words}
use Rattle.av_net.specs.Names.{given_names, wire_names, all_names, width_of}
use Rattle.av_net.specs.Settled.{Settled, Agree, FitAt}
use Rattle.av_net.specs.Clocked.{Stream, Run, IsRun, FitPorts}
use Rattle.av_net.specs.Shown.{Values}
use Rattle.av_net.specs.Sound.{IsSound}
use Rattle.av_net.specs.Presented.{AreApart, HaveFittingWords, IsPresentable}

-- any words of input ports and registers settle
abbrev pub HasSettled : Type 0
HasSettled = (m : Module) → IsSound m → (given : Words) → (v : Words) × Settled m v × Agree (given_names m) v given

-- and they settle in one way
abbrev pub OneSettled : Type 0
OneSettled = (m : Module) → IsSound m → (v w : Words) → Agree (given_names m) v w → Settled m v → Settled m w → Agree (wire_names m) v w

-- and where they fit, so do the words that they settle to
abbrev pub SettledFit : Type 0
SettledFit = (m : Module) → IsSound m → (v : Words) → FitAt (width_of m) (given_names m) v → Settled m v → FitAt (width_of m) (wire_names m) v

-- there is a run of any length under each stream, from any words
abbrev pub HasRuns : Type 0
HasRuns = (m : Module) → IsSound m → (n : ℕ) (stream : Stream) (before : Words) → (run : Run) × IsRun m n stream run × (run.before ≡ before)

-- and all runs under one stream have the same words in each cycle
abbrev pub OneRun : Type 0
OneRun =
    (m : Module) → IsSound m
    → (n : ℕ) (stream : Stream) (run other : Run) → IsRun m n stream run → IsRun m n stream other
    → (c : ℕ) → c < n → Agree (all_names m) (run.in_cycle c) (other.in_cycle c)

-- and under a stream whose words fit, the words of a run fit
abbrev pub RunsFit : Type 0
RunsFit =
    (m : Module) → IsSound m
    → (n : ℕ) (stream : Stream) (run : Run) → IsRun m n stream run → ((c : ℕ) → c < n → FitPorts m (stream.in_cycle c))
    → (c : ℕ) → c < n → FitAt (width_of m) (all_names m) (run.in_cycle c)

-- inputs can be presented where no port and cycle is listed twice and each listed word fits its port
abbrev pub ArePresentable : Type 0
ArePresentable = (design : Design) (x : Values) → AreApart design.listing.ins → HaveFittingWords design x → IsPresentable design x
