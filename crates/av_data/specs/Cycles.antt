-- The line of a cycle.
use Rattle.std.specs.Prelude.{ℕ, List, [], ◌∷◌, ◌++◌, codes, decimal}
use Rattle.av_net.specs.declared.netlist.Port.{Port}

-- as ` i0=5`
abbrev pub value_text : Port → ℕ → List ℕ
value_text port value = codes " " ++ port.name ++ codes "=" ++ decimal value

-- each port with its value
abbrev pub values_text : List Port → List ℕ → List ℕ
values_text [] values = []
values_text (port ∷ ports) [] = []
values_text (port ∷ ports) (value ∷ values) = value_text port value ++ values_text ports values

-- as `0 i0=5 o0=6`
abbrev pub cycle_line : ℕ → List Port → List ℕ → List ℕ
cycle_line cycle ports values = decimal cycle ++ values_text ports values ++ codes "\n"
