-- Which variable has an equation. Equations and declarations stand in the order of the text.
use Rattle.std.specs.Prelude.{not, List, [], ◌∷◌, map, find, Option, Some, None, option_map, if◌then◌else◌}
use Rattle.av_tree.specs.declared.system.Declaration.{Declaration}
use Rattle.av_tree.specs.Trees.{Text, Equation, System}
use Rattle.av_tree.specs.Domains.{computed}
use Rattle.av_tree.specs.Rows.{is_index}
use Rattle.av_names.specs.Found.{Found}
use Rattle.av_names.specs.Unknowns.{is_variable}

abbrev pub equation_found : Equation → Found
equation_found e = record { name = e.name; place = e.place }

abbrev pub declaration_found : Declaration → Found
declaration_found d = record { name = d.name; place = d.place }

-- the first equation of an input
abbrev pub defines_input : System → Option Found
defines_input s = option_map equation_found (find (λ e. is_variable s.inputs e.name) s.equations)

-- the first equation whose name an earlier one has
abbrev pub second_equation : List Text → List Equation → Option Found
second_equation before [] = None
second_equation before (e ∷ es) = if is_index before e.name then Some (equation_found e) else second_equation (e.name ∷ before) es

abbrev pub defined : System → List Text
defined s = map (λ e. e.name) s.equations

-- the first output or local, outputs first, without an equation
abbrev pub no_equation : System → Option Found
no_equation s = option_map declaration_found (find (λ d. not (is_index (defined s) d.name)) (computed s))
