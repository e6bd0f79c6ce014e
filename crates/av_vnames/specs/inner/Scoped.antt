-- Names that the program borrows from a text.
use Rattle.std.specs.Prelude.{ℕ, List, [], ◌∷◌, ◌++◌, if◌then◌else◌, Option, Some, None}
use Rattle.std.specs.Str.{bytes_eq}
use Rattle.av_net.specs.declared.netlist.Port.{Port}
use Rattle.av_net.specs.Names.{clk, rst, names_of}
use Rattle.av_net.specs.Grammar.{ModuleText, Item, drive, widening, step, instance}
use Rattle.av_net.specs.Rows.{declared_names}
use Rattle.av_vnames.specs.Scoped.{Bytes}

-- what is there, as a list
abbrev pub listed : Option Bytes → List Bytes
listed None = []
listed (Some name) = name ∷ []

-- the width of the first port with a name, where there is one
abbrev pub width_found : List Port → Bytes → Option ℕ
width_found [] q = None
width_found (port ∷ ports) q = if bytes_eq port.name q then Some port.width.bits else width_found ports q

-- the names of instances
abbrev pub instances_named : List Item → List Bytes
instances_named [] = []
instances_named (drive d ∷ items) = instances_named items
instances_named (widening bit d ∷ items) = instances_named items
instances_named (step width s ∷ items) = instances_named items
instances_named (instance x ∷ items) = x.name ∷ instances_named items

-- what a top declares, `clk` and `rst` too
abbrev pub own_names : ModuleText → List Bytes
own_names x = names_of x.inputs ++ names_of x.outputs ++ declared_names x.declarations ++ clk ∷ rst ∷ instances_named x.items
