-- The first index name that stands twice in its list, or is a size.
use Rattle.std.specs.Prelude.{List, Option}
use denote.Ref.{Bor}
use Rattle.av_tree.specs.declared.system.Declaration.{Declaration}
use Rattle.av_tree.specs.declared.system.Equation.{Equation as EquationMade}
use Rattle.av_tree.specs.Trees.{Text, view_equation}
use Rattle.av_names.specs.declared.part.Part.{Part as PartMade}
use Rattle.av_names.specs.Found.{Found, sooner, first_found}
use Rattle.av_names.specs.Repetitions.{of_declaration, of_equation, of_part, repeated_index}
use Rattle.av_names.specs.inner.AtOption.{at_option}
use Rattle.av_names.specs.inner.Seen.{part}

-- of a declared domain
abbrev pub repeated_in_variables : List Text → List (Bor Declaration) → Option Found
repeated_in_variables sizes variables = first_found (λ d. repeated_index sizes (of_declaration d.now)) variables

-- of an equation
abbrev pub repeated_in_equations : List Text → List EquationMade → Option Found
repeated_in_equations sizes equations = first_found (λ e. at_option (repeated_index sizes) (of_equation (view_equation e))) equations

-- of a restriction or a map
abbrev pub repeated_in_parts : List Text → List PartMade → Option Found
repeated_in_parts sizes parts = first_found (λ p. at_option (repeated_index sizes) (of_part (part p))) parts

-- of any of these
abbrev pub repeated_in_lists : List Text → List (Bor Declaration) → List EquationMade → List PartMade → Option Found
repeated_in_lists sizes variables equations parts =
    sooner (λ f. f.place) (sooner (λ f. f.place) (repeated_in_variables sizes variables) (repeated_in_equations sizes equations)) (repeated_in_parts sizes parts)
