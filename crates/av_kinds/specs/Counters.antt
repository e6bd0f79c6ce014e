-- The counter by which cells choose: of cycles, or of cycles modulo a period.
use Rattle.std.specs.Prelude.{ℕ, List, codes, refl, ◌%◌, ◌<◌, ◌≤◌, ◌^◌}
use Rattle.std.proofs.lemmas.Bool.{leb-true}
use Rattle.av_base.specs.declared.width.Width.{Width}
use Rattle.av_kinds.specs.declared.counter.Counter.{Counter}
use Rattle.av_kinds.specs.declared.counter.Counter.TheVariants.{Cycles, Phases}

-- the counter has 12 bits
abbrev pub counter_width : Width
counter_width = record { bits = 12; least = leb-true 1 12 refl; most = leb-true 12 64 refl }

-- a period has a cycle at least, and no more than 12 bits count
abbrev pub IsCounter : Counter → Type 0
IsCounter Cycles = Unit {0}
IsCounter (Phases period) = (0 < period) × (period ≤ 2 ^ 12)

abbrev pub counter_name : Counter → List ℕ
counter_name Cycles = codes "cyc"
counter_name (Phases period) = codes "phase"

-- the wire with its next number
abbrev pub next_name : Counter → List ℕ
next_name Cycles = codes "cyc_next"
next_name (Phases period) = codes "phase_next"

-- whether the phase is the last one of its period, and the sum of the phase and 1
abbrev pub last_name : List ℕ
last_name = codes "phase_last"

abbrev pub sum_name : List ℕ
sum_name = codes "phase_sum"

-- what the counter has in a cycle
abbrev pub count_in : Counter → ℕ → ℕ
count_in Cycles cycle = cycle % 2 ^ 12
count_in (Phases period) cycle = cycle % period

-- how many numbers it has before it begins anew
abbrev pub number_count : Counter → ℕ
number_count Cycles = 2 ^ 12
number_count (Phases period) = period
