-- The index expressions and comparisons of a system, with the index names that are in reach of them.
use Rattle.std.specs.Prelude.{List, [], ◌∷◌, ◌++◌, map}
use Rattle.av_tree.specs.declared.domain.Constraint.{Constraint}
use Rattle.av_tree.specs.declared.domain.DomainText.{DomainText}
use Rattle.av_tree.specs.declared.domain.IndexExpr.{IndexExpr}
use Rattle.av_tree.specs.declared.domain.MapText.{MapText}
use Rattle.av_tree.specs.declared.expression.Access.{Access}
use Rattle.av_tree.specs.declared.expression.Access.TheVariants as access
use Rattle.av_tree.specs.declared.system.Declaration.{Declaration}
use Rattle.av_tree.specs.Trees.{Text, Expression, System, reference, constant, restriction, dependence, reduction}
use Rattle.av_tree.specs.Domains.{variables}
use Rattle.av_names.specs.Forms.{Context, names_or}
use Rattle.av_names.specs.Parts.{Part, parts}

-- what is written over these index names; the sizes are in reach everywhere
pub record Written : Type 0 where
  pub names : List Text
  pub indices : List IndexExpr
  pub constraints : List Constraint

abbrev nothing : Written
nothing = record { names = []; indices = []; constraints = [] }

-- the results of a map are over its own names
abbrev results_of : MapText → Written
results_of m = record { names = m.names; indices = m.results; constraints = [] }

-- what stands in brackets is over the names of the context
abbrev pub behind : Context → Access → Written
behind c access.Here = nothing
behind c (access.Indices es) = record { names = c.names; indices = es; constraints = [] }
behind c (access.Mapped m) = results_of m

-- a restriction's domain without names is over those of the context
abbrev written_in : Context → Expression → Written
written_in c (reference name at place) = behind c at
written_in c (constant n at place) = behind c at
written_in c (restriction d e place) = record { names = names_or c.names d.names; indices = []; constraints = d.constraints }
written_in c (dependence m e place) = results_of m
written_in c (reduction o m e place) = results_of m
written_in c _ = nothing

abbrev pub written_at : Part → Written
written_at p = written_in p.context p.expression

abbrev pub written_domain : DomainText → Written
written_domain d = record { names = d.names; indices = []; constraints = d.constraints }

-- in the parameter domain the sizes alone are in reach
abbrev pub written_sizes : DomainText → Written
written_sizes d = record { names = []; indices = []; constraints = d.constraints }

abbrev pub written_declaration : Declaration → Written
written_declaration d = written_domain d.domain

abbrev pub all_written : System → List Written
all_written s = written_sizes s.sizes ∷ (map written_declaration (variables s) ++ map written_at (parts s))
