-- Regular systems: what holds of a system that no rule on names, numbers of indices, projections or limits refuses.
-- What its flat system says is what it says itself.
use Rattle.std.specs.Prelude.{◌≡◌, ◌≢◌, ◌≤◌, ℕ, suc, ◌⊎◌, List, [], length, Option, Some, None, IsSome, IsTrue, All, Any, AllPairs}
use Rattle.av_tree.specs.declared.domain.Constraint.{Constraint}
use Rattle.av_tree.specs.declared.domain.DomainText.{DomainText}
use Rattle.av_tree.specs.declared.domain.IndexExpr.{IndexExpr}
use Rattle.av_tree.specs.declared.domain.MapText.{MapText}
use Rattle.av_tree.specs.declared.expression.Access.{Access}
use Rattle.av_tree.specs.declared.expression.Access.TheVariants as access
use Rattle.av_tree.specs.declared.relation.Relation.TheVariants as relation
use Rattle.av_tree.specs.Trees.{Text, Expression, Expressions, Equation, reference, constant, binary, choice, restriction, cases, dependence, reduction, none, more}
use Rattle.av_tree.specs.Points.{Sizes, is_plain}
use Rattle.av_tree.specs.Domains.{variables, computed, context, declared_names}
use Rattle.av_tree.specs.Rows.{is_index}
use Rattle.av_tree.specs.Counts.{Instance}
use Rattle.av_names.specs.Forms.{Context, over, nameless, names_or}

-- ---- names

abbrev pub AreDistinct : List Text → Type 0
AreDistinct names = AllPairs (λ a b. a ≢ b) names

-- the name, where there is one, is one of these or a size
abbrev pub IsKnown : Sizes → List Text → Option Text → Type 0
IsKnown sizes names None = Unit {0}
IsKnown sizes names (Some name) = IsTrue (is_index names name) ⊎ IsSome (sizes name)

abbrev pub AreKnown : Sizes → List Text → IndexExpr → Type 0
AreKnown sizes names e = All (λ t. IsKnown sizes names t.name) e.terms

-- a comparison of known names, and not an inequality
pub record IsComparison (sizes : Sizes) (names : List Text) (c : Constraint) : Type 0 where
  pub left : AreKnown sizes names c.left
  pub right : AreKnown sizes names c.right
  pub related : c.relation ≢ relation.Unequal

-- index names without repetition, and results over them
pub record IsMap (sizes : Sizes) (m : MapText) : Type 0 where
  pub distinct : AreDistinct m.names
  pub known : All (AreKnown sizes m.names) m.results

-- a declared domain: at most four indices
pub record IsDomain (sizes : Sizes) (d : DomainText) : Type 0 where
  pub distinct : AreDistinct d.names
  pub few : length d.names ≤ 4
  pub constraints : All (IsComparison sizes d.names) d.constraints

-- ---- parts of expressions

-- the number of indices of a variable
abbrev pub indices_of : Instance → Text → ℕ
indices_of i name = length (declared_names (variables i.system) name)

-- in this context the access reads points of so many entries
abbrev pub Reads : Sizes → Context → ℕ → Access → Type 0
Reads sizes c n access.Here = c.indices ≡ n
Reads sizes c n (access.Indices es) = (length es ≡ n) × All (AreKnown sizes c.names) es
Reads sizes c n (access.Mapped m) = (length m.names ≡ c.indices) × (length m.results ≡ n) × IsMap sizes m

-- a domain with as many names as the context has indices, or with those of the context
pub record Restricts (sizes : Sizes) (c : Context) (d : DomainText) : Type 0 where
  pub arity : (d.names ≡ []) ⊎ (length d.names ≡ c.indices)
  pub distinct : AreDistinct d.names
  pub constraints : All (IsComparison sizes (names_or c.names d.names)) d.constraints

-- all names but one, each at most once, and nothing else
pub record Projects (m : MapText) : Type 0 where
  pub drops_one : suc (length m.results) ≡ length m.names
  pub plain : All (λ e. Any (λ name. IsTrue (is_plain name e.terms)) m.names) m.results
  pub once : AllPairs (λ a b. (name : Text) → IsTrue (is_plain name a.terms) → IsTrue (is_plain name b.terms) → ⊥) m.results

abbrev mutual
  -- in its context each part of the expression is regular
  pub IsRegularIn : Instance → Context → Expression → Type 0
  IsRegularIn i c (reference name at place) = Any (λ d. d.name ≡ name) (variables i.system) × Reads i.sizes c (indices_of i name) at
  IsRegularIn i c (constant n at place) = Unit {0}
  IsRegularIn i c (binary s l r place) = IsRegularIn i c l × IsRegularIn i c r
  IsRegularIn i c (choice l compare r x y place) = IsRegularIn i c l × IsRegularIn i c r × IsRegularIn i c x × IsRegularIn i c y
  IsRegularIn i c (restriction d e place) = Restricts i.sizes c d × IsRegularIn i c e
  IsRegularIn i c (cases es place) = AreRegularIn i c es
  IsRegularIn i c (dependence m e place) =
      (length m.names ≡ c.indices) × (length m.results ≤ 4) × IsMap i.sizes m × IsRegularIn i (nameless (length m.results)) e
  IsRegularIn i c (reduction o m e place) =
      (length m.results ≡ c.indices) × (length m.names ≤ 4) × IsMap i.sizes m × Projects m × IsRegularIn i (over m.names) e

  pub AreRegularIn : Instance → Context → Expressions → Type 0
  AreRegularIn i c none = Unit {0}
  AreRegularIn i c (more e es) = IsRegularIn i c e × AreRegularIn i c es

-- ---- systems

-- the index names of an equation, where they are written: as many as its variable has indices
abbrev pub HasIndices : ℕ → Option (List Text) → Type 0
HasIndices n None = Unit {0}
HasIndices n (Some names) = AreDistinct names × (length names ≡ n)

pub record IsRegularEquation (i : Instance) (e : Equation) : Type 0 where
  pub computes : Any (λ d. d.name ≡ e.name) (computed i.system)
  pub indices : HasIndices (indices_of i e.name) e.indices
  pub right : IsRegularIn i (over (context i.system e)) e.right

pub record IsRegular (i : Instance) : Type 0 where
  -- no two variables have one name
  pub names : AllPairs (λ a b. a.name ≢ b.name) (variables i.system)
  pub domains : All (λ d. IsDomain i.sizes d.domain) (variables i.system)
  -- each computed variable has one equation
  pub defined : All (λ d. Any (λ e. e.name ≡ d.name) i.system.equations) (computed i.system)
  pub once : AllPairs (λ a b. a.name ≢ b.name) i.system.equations
  pub equations : All (IsRegularEquation i) i.system.equations
