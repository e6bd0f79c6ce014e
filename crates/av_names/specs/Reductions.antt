-- Reductions with a map, a body or a place that the language does not have.
use Rattle.std.specs.Prelude.{◌+◌, Bool, true, false, not, ◌&&◌, ◌||◌, nat_eq, List, [], ◌∷◌, length, Option, Some, None, if◌then◌else◌}
use Rattle.av_base.specs.declared.place.Place.{Place}
use Rattle.av_tree.specs.declared.domain.IndexExpr.{IndexExpr}
use Rattle.av_tree.specs.declared.domain.MapText.{MapText}
use Rattle.av_tree.specs.Trees.{Text, Expression, Expressions, System, reference, constant, binary, choice, restriction, cases, dependence, reduction, none, more}
use Rattle.av_tree.specs.declared.domain.Term.{Term}
use Rattle.av_tree.specs.Points.{is_one}
use Rattle.av_tree.specs.Rows.{is_index}
use Rattle.av_names.specs.Found.{first_place, place_where}
use Rattle.av_names.specs.Parts.{Part, parts}

-- ---- projections

-- the name that the terms are, and nothing more
abbrev pub plain_name : List Term → Option Text
plain_name [] = None
plain_name (t ∷ []) = if is_one t.factor then t.name else None
plain_name (t ∷ s ∷ terms) = None

abbrev pub gives_next : List Text → List Text → Option Text → (List Text → Bool) → Bool
gives_next names before None rest = false
gives_next names before (Some n) rest = is_index names n && (not (is_index before n) && rest (n ∷ before))

-- each result is a plain name, one of the names, and none of those before it
abbrev pub gives_names : List Text → List Text → List IndexExpr → Bool
gives_names names before [] = true
gives_names names before (e ∷ es) = gives_next names before (plain_name e.terms) (λ given. gives_names names given es)

-- all names but one, each once, in any order: as many results as names but one, each a name of its own
abbrev pub is_projection : MapText → Bool
is_projection m = nat_eq (length m.results + 1) (length m.names) && gives_names m.names [] m.results

abbrev pub expression_projection : Expression → Option Place
expression_projection (reduction o m e place) = place_where (not (is_projection m)) m.place
expression_projection _ = None

abbrev pub part_projection : Part → Option Place
part_projection p = expression_projection p.expression

abbrev pub projection : System → Option Place
projection s = first_place part_projection (parts s)

-- ---- cases in reductions

abbrev pub case_at : Bool → Expression → Option Place
case_at reduced (cases es place) = place_where reduced place
case_at reduced _ = None

abbrev pub part_case : Part → Option Place
part_case p = case_at p.reduced p.expression

abbrev pub case_in_reduce : System → Option Place
case_in_reduce s = first_place part_case (parts s)

-- ---- reductions under dependences

abbrev mutual
  pub holds_reduction : Expression → Bool
  holds_reduction (reference name at place) = false
  holds_reduction (constant n at place) = false
  holds_reduction (binary s l r place) = holds_reduction l || holds_reduction r
  holds_reduction (choice l compare r x y place) = holds_reduction l || (holds_reduction r || (holds_reduction x || holds_reduction y))
  holds_reduction (restriction d e place) = holds_reduction e
  holds_reduction (cases es place) = hold_reduction es
  holds_reduction (dependence m e place) = holds_reduction e
  holds_reduction (reduction o m e place) = true

  pub hold_reduction : Expressions → Bool
  hold_reduction none = false
  hold_reduction (more e es) = holds_reduction e || hold_reduction es

abbrev pub dependence_at : Expression → Option Place
dependence_at (dependence m e place) = place_where (holds_reduction e) m.place
dependence_at _ = None

abbrev pub part_dependence : Part → Option Place
part_dependence p = dependence_at p.expression

abbrev pub depend_on_reduce : System → Option Place
depend_on_reduce s = first_place part_dependence (parts s)
