-- The windows of the counter's numbers at which something holds, from ascending numbers of which it is told.
use Rattle.std.specs.Prelude.{ℕ, List, [], ◌∷◌, Option, Some, None, if◌then◌else◌}
use Rattle.av_kinds.specs.declared.program.Window.{Window}
use Rattle.av_build.specs.declared.windows.CounterMark.{CounterMark}

-- a window that goes on to a number
abbrev pub extended : Option Window → ℕ → Window
extended None n = record { first = n; last = n }
extended (Some i) n = record { first = i.first; last = n }

abbrev pub closed : Option Window → List Window → List Window
closed None windows = windows
closed (Some i) windows = i ∷ windows

-- behind one that is begun, or none
abbrev pub windows_from : Option Window → List CounterMark → List Window
windows_from begun [] = closed begun []
windows_from begun (m ∷ marks) = if m.holds then windows_from (Some (extended begun m.number)) marks else closed begun (windows_from None marks)

-- one for each run of marks that hold
abbrev pub windows_by : List CounterMark → List Window
windows_by marks = windows_from None marks
