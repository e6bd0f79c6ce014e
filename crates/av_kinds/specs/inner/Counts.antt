-- What the counter brings into the top module: after the last number of a period the phase is 0 again.
use Rattle.std.specs.Prelude.{ℕ, ◌-◌, List, [], ◌∷◌}
use Rattle.av_net.specs.declared.operation.Symbol.TheVariants.{Add, Equal}
use Rattle.av_net.specs.declared.operation.Operand.{Operand}
use Rattle.av_net.specs.declared.operation.Operand.TheVariants.{Name, Literal}
use Rattle.av_net.specs.declared.operation.Operation.{Operation}
use Rattle.av_net.specs.declared.operation.Operation.TheVariants.{Binary, Choose}
use Rattle.av_net.specs.declared.netlist.Port.{Port}
use Rattle.av_net.specs.declared.netlist.Drive.{Drive}
use Rattle.av_net.specs.declared.netlist.Step.{Step}
use Rattle.av_kinds.specs.declared.counter.Counter.{Counter}
use Rattle.av_kinds.specs.declared.counter.Counter.TheVariants.{Cycles, Phases}
use Rattle.av_kinds.specs.Counters.{counter_width, counter_name, next_name, last_name, sum_name}
use Rattle.av_kinds.specs.Tops.{port, one_bit}

-- a number that the counter is compared with, or raised by
abbrev pub bound : ℕ → Operand
bound n = Literal counter_width n

-- the sum, or 0 after the last number
abbrev pub begun_again : Operation
begun_again = Choose (Name last_name) (bound 0) (Name sum_name)

abbrev pub counter_wires : Counter → List Port
counter_wires Cycles = port counter_width (next_name Cycles) ∷ []
counter_wires (Phases period) = port one_bit last_name ∷ port counter_width sum_name ∷ port counter_width (next_name (Phases period)) ∷ []

abbrev pub counter_drives : Counter → List Drive
counter_drives Cycles = record { target = next_name Cycles; operation = Binary (Name (counter_name Cycles)) Add (bound 1) } ∷ []
counter_drives (Phases period) =
    record { target = last_name; operation = Binary (Name (counter_name (Phases period))) Equal (bound (period - 1)) }
    ∷ record { target = sum_name; operation = Binary (Name (counter_name (Phases period))) Add (bound 1) }
    ∷ record { target = next_name (Phases period); operation = begun_again } ∷ []

abbrev pub counter_step : Counter → Step
counter_step counter = record { register = counter_name counter; reset = 0; next = Name (next_name counter) }
