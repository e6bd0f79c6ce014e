-- The lines of a dump in the order in which they are written.
use Rattle.std.specs.Prelude.{ℕ, ◌+◌, ◌-◌, Bool, nat_eq, not, ◌||◌, List, [], ◌∷◌, ◌++◌, map, filter, slice_index}
use Rattle.std.specs.List.{range_with_len}
use Rattle.av_net.specs.declared.netlist.Port.{Port}
use Rattle.av_wave.specs.declared.wave.Change.{Change}
use Rattle.av_wave.specs.Dumps.{time_line, change_line}

-- the lines that begin the cycles behind one, up to another
abbrev pub times : ℕ → ℕ → List (List ℕ)
times from to = map time_line (range_with_len (from + 1) (to - from))

-- the lines behind the one that begins a cycle, up to that of the last of these changes
abbrev pub lines_to : List Port → ℕ → List Change → List (List ℕ)
lines_to ports cycle [] = []
lines_to ports cycle (g ∷ changes) = times cycle g.cycle ++ change_line ports g ∷ lines_to ports g.cycle changes

-- the cycle of the last of these changes, or this one where there is none
abbrev pub last_cycle : ℕ → List Change → ℕ
last_cycle cycle [] = cycle
last_cycle cycle (g ∷ changes) = last_cycle g.cycle changes

-- ---- cycle by cycle

-- in the first cycle each port changes, and later where it has another value than before
abbrev pub is_news : ℕ → ℕ → ℕ → Bool
is_news cycle before value = nat_eq cycle 0 || not (nat_eq value before)

-- a port changes to its word
abbrev pub change_at : ℕ → List ℕ → ℕ → Change
change_at cycle words port = record { cycle = cycle; port = port; value = slice_index words port }

-- the changes of the first n ports in a cycle in which they have these words, where they had those before
abbrev pub news : ℕ → List ℕ → List ℕ → ℕ → List Change
news cycle before words n = map (change_at cycle words) (filter (λ port. is_news cycle (slice_index before port) (slice_index words port)) (range_with_len 0 n))
