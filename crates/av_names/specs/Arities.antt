-- Where another number of indices stands than must stand there.
use Rattle.std.specs.Prelude.{ℕ, Bool, not, ◌||◌, nat_eq, List, [], ◌∷◌, length, Option, Some, None}
use Rattle.av_base.specs.declared.place.Place.{Place}
use Rattle.av_tree.specs.declared.expression.Access.{Access}
use Rattle.av_tree.specs.declared.expression.Access.TheVariants as access
use Rattle.av_tree.specs.Trees.{Text, Expression, Equation, System, reference, constant, restriction, dependence, reduction}
use Rattle.av_names.specs.Forms.{Context}
use Rattle.av_names.specs.Found.{sooner, first_place, place_where}
use Rattle.av_names.specs.Parts.{Part, parts, arity_of}

abbrev differ : ℕ → ℕ → Bool
differ m n = not (nat_eq m n)

-- an equation's index list, where it has one, is as long as its variable's
abbrev pub listed_arity : Place → ℕ → Option (List Text) → Option Place
listed_arity place n None = None
listed_arity place n (Some names) = place_where (differ (length names) n) place

abbrev pub equation_arity : System → Equation → Option Place
equation_arity s e = listed_arity e.place (arity_of s e.name) e.indices

-- a bare reference reads the point itself; n is the number of indices of the variable
abbrev pub reference_arity : Context → ℕ → Access → Place → Option Place
reference_arity c n access.Here place = place_where (differ c.indices n) place
reference_arity c n (access.Indices es) place = place_where (differ (length es) n) place
reference_arity c n (access.Mapped m) place = place_where (differ (length m.names) c.indices || differ (length m.results) n) m.place

-- a map on a constant may have any number of results
abbrev pub constant_arity : Context → Access → Option Place
constant_arity c (access.Mapped m) = place_where (differ (length m.names) c.indices) m.place
constant_arity c _ = None

-- a restriction without names takes those of the context
abbrev pub restriction_arity : Context → List Text → Place → Option Place
restriction_arity c [] place = None
restriction_arity c (n ∷ names) place = place_where (differ (length (n ∷ names)) c.indices) place

-- a reduction's map leads from its body's indices to those of the context; a dependence's may have any number of results;
-- `indices` tells how many each variable has
abbrev pub expression_arity : (Text → ℕ) → Context → Expression → Option Place
expression_arity indices c (reference name at place) = reference_arity c (indices name) at place
expression_arity indices c (constant n at place) = constant_arity c at
expression_arity indices c (restriction d e place) = restriction_arity c d.names d.place
expression_arity indices c (dependence m e place) = place_where (differ (length m.names) c.indices) m.place
expression_arity indices c (reduction o m e place) = place_where (differ (length m.results) c.indices) m.place
expression_arity indices c _ = None

abbrev pub part_arity : System → Part → Option Place
part_arity s p = expression_arity (arity_of s) p.context p.expression

-- the first place of all these
abbrev pub arity : System → Option Place
arity s = sooner (λ place. place) (first_place (equation_arity s) s.equations) (first_place (part_arity s) (parts s))
