-- Rounds that raise offsets until each reader is late enough (textbook: after Bellman 1958 and Ford 1956). Only private contracts
-- cite this.
use Rattle.std.specs.Prelude.{ℕ, ℤ, pos, map, ◌+ℤ◌, List, [], ◌∷◌, slice_set, if◌then◌else◌, int_lt}
use Rattle.std.specs.List.{range_with_len}
use Rattle.av_sched.specs.declared.arc.Arc.{Arc}
use Rattle.av_sched.specs.Arcs.{at}

-- the reader made late enough for what it read before
abbrev pub raised : List ℤ → Arc → List ℤ → List ℤ
raised old e off = if int_lt (at off e.reader) (at old e.read +ℤ e.weight) then slice_set off e.reader (at old e.read +ℤ e.weight) else off

-- all readers in turn
abbrev pub raised_all : List ℤ → List Arc → List ℤ → List ℤ
raised_all old [] off = off
raised_all old (e ∷ arcs) off = raised_all old arcs (raised old e off)

-- n zeros
abbrev pub zeros : ℕ → List ℤ
zeros n = map (λ k. pos 0) (range_with_len 0 n)
