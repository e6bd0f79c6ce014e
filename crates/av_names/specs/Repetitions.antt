-- Names that are declared a second time.
use Rattle.std.specs.Prelude.{◌||◌, List, [], ◌∷◌, ◌++◌, map, Option, Some, None, if◌then◌else◌, option_map}
use Rattle.std.specs.List.{filter_map}
use Rattle.av_base.specs.declared.place.Place.{Place}
use Rattle.av_tree.specs.declared.domain.DomainText.{DomainText}
use Rattle.av_tree.specs.declared.domain.MapText.{MapText}
use Rattle.av_tree.specs.declared.system.Declaration.{Declaration}
use Rattle.av_tree.specs.Trees.{Text, Expression, Equation, System, restriction}
use Rattle.av_tree.specs.Domains.{variables}
use Rattle.av_tree.specs.Rows.{is_index}
use Rattle.av_names.specs.Found.{Found, sooner, first_found}
use Rattle.av_names.specs.Parts.{Part, parts, map_at}

-- a list of index names, with the place of the domain, map or equation that has it
pub record NameList : Type 0 where
  pub names : List Text
  pub place : Place

abbrev of_domain : DomainText → NameList
of_domain d = record { names = d.names; place = d.place }

abbrev pub of_map : MapText → NameList
of_map m = record { names = m.names; place = m.place }

abbrev pub of_declaration : Declaration → NameList
of_declaration d = of_domain d.domain

abbrev pub of_equation : Equation → Option NameList
of_equation e = option_map (λ names. record { names = names; place = e.place }) e.indices

abbrev pub of_expression : Expression → Option NameList
of_expression (restriction d e place) = Some (of_domain d)
of_expression e = option_map of_map (map_at e)

abbrev pub of_part : Part → Option NameList
of_part p = of_expression p.expression

-- each list of index names, but for those of the parameter domain
abbrev pub name_lists : System → List NameList
name_lists s = map of_declaration (variables s) ++ filter_map of_equation s.equations ++ filter_map of_part (parts s)

-- ---- repeated names

-- the first name that stands once more behind it, or is one of the sizes
abbrev pub again : List Text → List Text → Option Text
again sizes [] = None
again sizes (n ∷ names) = if is_index names n || is_index sizes n then Some n else again sizes names

-- the first name that is one of those before it
abbrev pub second : List Text → List Text → Option Text
second before [] = None
second before (n ∷ names) = if is_index before n then Some n else second (n ∷ before) names

abbrev found_at : Place → Option Text → Option Found
found_at place name = option_map (λ n. record { name = n; place = place }) name

-- a size that was declared before, at the place of the parameter domain
abbrev pub repeated_size : DomainText → Option Found
repeated_size sizes = found_at sizes.place (second [] sizes.names)

-- the first variable, in the order of the text, whose name is one of those before it
abbrev pub repeated_variable : List Text → List Declaration → Option Found
repeated_variable before [] = None
repeated_variable before (d ∷ ds) = if is_index before d.name then Some (record { name = d.name; place = d.place }) else repeated_variable (d.name ∷ before) ds

-- an index name that stands twice in its list, or is a size
abbrev pub repeated_index : List Text → NameList → Option Found
repeated_index sizes l = found_at l.place (again sizes l.names)

-- the first place of all these
abbrev pub repeated : System → Option Found
repeated s = sooner (λ f. f.place) (repeated_size s.sizes)
    (sooner (λ f. f.place) (repeated_variable s.sizes.names (variables s)) (first_found (repeated_index s.sizes.names) (name_lists s)))
