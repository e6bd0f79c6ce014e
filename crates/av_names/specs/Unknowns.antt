-- Names that nothing declares.
use Rattle.std.specs.Prelude.{Bool, not, ◌&&◌, List, map, Option, Some, None}
use Rattle.av_tree.specs.declared.domain.Constraint.{Constraint}
use Rattle.av_tree.specs.declared.domain.IndexExpr.{IndexExpr}
use Rattle.av_tree.specs.declared.domain.Term.{Term}
use Rattle.av_tree.specs.declared.system.Declaration.{Declaration}
use Rattle.av_tree.specs.Trees.{Text, Expression, Equation, System, reference}
use Rattle.av_tree.specs.Domains.{variables}
use Rattle.av_tree.specs.Rows.{is_index}
use Rattle.av_names.specs.Found.{Found, sooner, first_found, found_where}
use Rattle.av_names.specs.Parts.{Part, parts}
use Rattle.av_names.specs.Written.{Written, all_written}

abbrev pub declared_as : List Declaration → List Text
declared_as ds = map (λ d. d.name) ds

-- one of the declarations has this name
abbrev pub is_variable : List Declaration → Text → Bool
is_variable ds name = is_index (declared_as ds) name

abbrev pub unknown_equation : System → Equation → Option Found
unknown_equation s e = found_where (not (is_variable (variables s) e.name)) e.name e.place

-- a reference of another name than these
abbrev pub unknown_variable : List Text → Expression → Option Found
unknown_variable names (reference name at place) = found_where (not (is_index names name)) name place
unknown_variable names _ = None

abbrev pub unknown_reference : System → Part → Option Found
unknown_reference s p = unknown_variable (declared_as (variables s)) p.expression

-- ---- index names

abbrev pub named_unknown : List Text → List Text → Term → Option Text → Option Found
named_unknown sizes names t None = None
named_unknown sizes names t (Some n) = found_where (not (is_index names n) && not (is_index sizes n)) n t.place

abbrev pub unknown_term : List Text → List Text → Term → Option Found
unknown_term sizes names t = named_unknown sizes names t t.name

abbrev pub unknown_index : List Text → List Text → IndexExpr → Option Found
unknown_index sizes names e = first_found (unknown_term sizes names) e.terms

abbrev pub unknown_side : List Text → List Text → Constraint → Option Found
unknown_side sizes names c = sooner (λ f. f.place) (unknown_index sizes names c.left) (unknown_index sizes names c.right)

abbrev pub unknown_written : List Text → Written → Option Found
unknown_written sizes w =
    sooner (λ f. f.place) (first_found (unknown_index sizes w.names) w.indices) (first_found (unknown_side sizes w.names) w.constraints)

-- the first place of all these
abbrev pub unknown : System → Option Found
unknown s = sooner (λ f. f.place) (first_found (unknown_equation s) s.equations)
    (sooner (λ f. f.place) (first_found (unknown_reference s) (parts s)) (first_found (unknown_written s.sizes.names) (all_written s)))
