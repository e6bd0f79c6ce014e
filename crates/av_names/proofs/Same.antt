-- The flat system of a regular system says the same, and is proper where the system is.
use Rattle.std.proofs.Common.{◌≡◌, ◌↔◌, ℕ, inl, inr, ℤ, pos, ◌-ℤ◌, List, [], ◌∷◌, length, sym, subst, ◌∙◌, All}
use Rattle.std.specs.List.{flat_map}
use Rattle.std.proofs.lemmas.List.{length-map}
use Rattle.av_tree.specs.declared.domain.IndexExpr.{IndexExpr}
use Rattle.av_tree.specs.declared.domain.Constraint.{Constraint}
use Rattle.av_tree.specs.declared.relation.Relation.{Relation}
use Rattle.av_tree.specs.declared.relation.Relation.TheVariants as relation
use Rattle.av_tree.specs.declared.system.Declaration.{Declaration}
use Rattle.av_tree.specs.Trees.{Text, Equation}
use Rattle.av_tree.specs.Points.{Point, Sizes}
use Rattle.av_tree.specs.Domains.{variables, computed, context}
use Rattle.av_tree.specs.Counts.{Instance, count}
use Rattle.av_tree.specs.Rows as text
use Rattle.av_tree.specs.Rows.{Row, coefficient, at_least, compared, rows_of}
use Rattle.av_tree.specs.Proper as text_proper
use Rattle.av_flat.specs.declared.flat.Kind.{Kind}
use Rattle.av_flat.specs.Trees.{Variable, right_side}
use Rattle.av_flat.specs.Signatures as flat
use Rattle.av_flat.specs.Counts as flat_count
use Rattle.av_flat.specs.Sets as flat_set
use Rattle.av_flat.specs.Proper as flat_proper
use Rattle.av_names.specs.Forms.{set_of}
use Rattle.av_names.specs.Flattened.{flat_of, input_of, computed_of}
use Rattle.av_names.specs.Regular.{IsRegular}
use Rattle.av_names.specs.Same.{SaysTheSame}
use Rattle.av_names.proofs.Among.{Among, all_at, all_from, among_parts, among_first, among_second}
use Rattle.av_names.proofs.Places.{HasDomain}
use Rattle.av_names.proofs.Bounded.{Sized, unbounded_set, unbounded_domain}
use Rattle.av_names.proofs.Equations.{source, present_input, present, IsEquationAt, at_each, count_at_point}
use Rattle.av_names.proofs.Solutions.{meaning, same_counts}

-- ---- rows

row_sized : (sizes : Sizes) (names : List Text) (a b : IndexExpr) (gap : ℤ) → Sized (length names) (at_least sizes names a b gap)
row_sized sizes names a b gap = length-map names (λ name. coefficient a.terms name -ℤ coefficient b.terms name)

single : (n : ℕ) (r row : Row) → Sized n r → Among row (r ∷ []) → Sized n row
single n r row s (inl e) = subst (Sized n) e s
single n r row s (inr m) = absurd m

compared_sized : (sizes : Sizes) (names : List Text) (a : IndexExpr) (r : Relation) (b : IndexExpr) (row : Row) → Among row (compared sizes names a r b) → Sized (length names) row
compared_sized sizes names a relation.Less b row m = single (length names) _ row (row_sized sizes names b a (pos 1)) m
compared_sized sizes names a relation.LessEqual b row m = single (length names) _ row (row_sized sizes names b a (pos 0)) m
compared_sized sizes names a relation.Greater b row m = single (length names) _ row (row_sized sizes names a b (pos 1)) m
compared_sized sizes names a relation.GreaterEqual b row m = single (length names) _ row (row_sized sizes names a b (pos 0)) m
compared_sized sizes names a relation.Equal b row (inl e) = subst (Sized (length names)) e (row_sized sizes names a b (pos 0))
compared_sized sizes names a relation.Equal b row (inr m) = single (length names) _ row (row_sized sizes names b a (pos 0)) m
compared_sized sizes names a relation.Unequal b row m = absurd m

all_sized : (sizes : Sizes) (names : List Text) (constraints : List Constraint) (row : Row)
    → Among row (flat_map (λ c. compared sizes names c.left c.relation c.right) constraints) → Sized (length names) row
all_sized sizes names [] row m = absurd m
all_sized sizes names (c ∷ constraints) row m =
    elim (among_parts (compared sizes names c.left c.relation c.right) (flat_map (λ b. compared sizes names b.left b.relation b.right) constraints) row m) [
      | inl a ↦ compared_sized sizes names c.left c.relation c.right row a
      | inr b ↦ all_sized sizes names constraints row b
    ]

-- ---- proper systems

module _ (i : Instance) (g : IsRegular i) where
  abbrev Bounded : Declaration → Type 0
  Bounded d = text.IsUnbounded (length d.domain.names) (rows_of i.sizes d.domain) → ⊥

  abbrev BoundedSet : Variable → Type 0
  BoundedSet v = flat_set.IsUnbounded v.domain → ⊥

  sized : (d : Declaration) → All (Sized (length d.domain.names)) (rows_of i.sizes d.domain)
  sized d = all_from (Sized (length d.domain.names)) (rows_of i.sizes d.domain) (λ row m. all_sized i.sizes d.domain.names d.domain.constraints row m)

  same_bounds : (d : Declaration) → Among d (variables i.system) → text.IsUnbounded (length d.domain.names) (rows_of i.sizes d.domain) ↔ flat_set.IsUnbounded (set_of i.sizes d.domain)
  same_bounds d m =
      let few = (all_at (HasDomain i.sizes) (variables i.system) d g.domains m).few in (
        (λ u. unbounded_set (length d.domain.names) few (rows_of i.sizes d.domain) (sized d) u),
        (λ u. unbounded_domain (length d.domain.names) few (rows_of i.sizes d.domain) (sized d) u),
      )

  sets_bounded : All Bounded (variables i.system) → All BoundedSet (flat_of i).variables
  sets_bounded h = all_from BoundedSet (flat_of i).variables (λ v m. elim (source i g v m) [
    | inl a ↦ subst BoundedSet a.2 (one a.0 (among_first i.system.inputs (computed i.system) a.0 a.1))
    | inr b ↦ subst BoundedSet b.2.2 (one b.0 (among_second i.system.inputs (computed i.system) b.0 b.2.0))
  ])
    where
      one : (d : Declaration) → Among d (variables i.system) → flat_set.IsUnbounded (set_of i.sizes d.domain) → ⊥
      one d m u = all_at Bounded (variables i.system) d h m ((same_bounds d m).1 u)

  domains_bounded : All BoundedSet (flat_of i).variables → All Bounded (variables i.system)
  domains_bounded h = all_from Bounded (variables i.system) (λ d m u. elim (among_parts i.system.inputs (computed i.system) d m) [
    | inl a ↦ all_at BoundedSet (flat_of i).variables (input_of i d) h (present_input i g d a) ((same_bounds d m).0 u)
    | inr b ↦ (let v = present i g d b in all_at BoundedSet (flat_of i).variables (computed_of i v.0 d) h v.2 ((same_bounds d m).0 u))
  ])

  same_one : (k : Kind) (d : Declaration) (e : Equation) (z : Point) → IsEquationAt i g d e z
      → (flat_count.count (flat.signatures (flat_of i)) (right_side (computed_of i k d)) z ≡ 1) ↔ (count i (context i.system e) e.right z ≡ 1)
  same_one k d e z h = let p = count_at_point i g k d e z h in (λ q. sym p ∙ q, λ q. p ∙ q)

  same_proper : text_proper.IsProper i ↔ flat_proper.IsProper (flat_of i)
  same_proper =
      let counts = at_each i g (λ v z. flat_count.count (flat.signatures (flat_of i)) (right_side v) z ≡ 1) (λ e z. count i (context i.system e) e.right z ≡ 1) same_one in (
        (λ p. record { bounded = sets_bounded p.bounded; counted = counts.1 p.counted }),
        (λ p. record { bounded = domains_bounded p.bounded; counted = counts.0 p.counted }),
      )

  -- the whole law
  pub says_the_same : SaysTheSame i (flat_of i)
  says_the_same = record { meaning = meaning i g; counts = same_counts i g; proper = same_proper }
