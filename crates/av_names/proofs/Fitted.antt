-- What a system that a text spells and no rule refuses has in each place fits into forms, sets and maps.
use Rattle.std.proofs.Common.{ℕ, ◌^◌, ◌≤◌, true, false, Bool, List, [], ◌∷◌, map, length, Option, Some, None, refl, subst, arith, inl, inr, All}
use Rattle.std.specs.Prelude.{bytes_eq}
use Rattle.std.specs.List.{flat_map}
use Rattle.av_affine.specs.Forms.{IsWithinLimits}
use Rattle.av_tree.specs.declared.domain.Constraint.{Constraint}
use Rattle.av_tree.specs.declared.domain.IndexExpr.{IndexExpr}
use Rattle.av_tree.specs.declared.expression.Access.{Access}
use Rattle.av_tree.specs.declared.expression.Access.TheVariants as access
use Rattle.av_tree.specs.declared.system.Declaration.{Declaration}
use Rattle.av_tree.specs.Trees.{Text, Expression, Expressions, Equation, System, reference, constant, binary, choice, restriction, cases, dependence, reduction, none, more}
use Rattle.av_tree.specs.Points.{Sizes}
use Rattle.av_tree.specs.Rows.{compared}
use Rattle.av_tree.specs.Domains.{variables, context, declared_names, given_or}
use Rattle.av_tree.specs.Counts.{Instance}
use Rattle.av_names.specs.declared.size.Size.{Size}
use Rattle.av_names.specs.Sizes.{instance_of}
use Rattle.av_names.specs.inner.Fitting.{FitsForm, FitsRows, FitsAccess, FitsIn, FitAllIn}
use Rattle.av_names.specs.Forms.{Context, over, nameless, names_or, form_of_row, rows_over}
use Rattle.av_names.specs.Limits.{HasSmallForm, HaveSmallRows, HasSmallAccess, IsLimitedIn, AreLimitedIn}
use Rattle.av_names.specs.Refusals.{IsAccepted}
use Rattle.av_names.specs.Regular.{IsRegularIn, AreRegularIn, IsRegularEquation, IsDomain, HasIndices, Reads, indices_of}
use Rattle.av_names.specs.Texts.{IsOfText}
use Rattle.av_names.proofs.AcceptedSystems.{among_flat}
use Rattle.av_names.proofs.Among.{Among, all_at, all_from, among_image, among_source}
use Rattle.av_names.proofs.Spelled.{IsFew, IsFewSides}
use Rattle.av_names.proofs.SpelledSystems.{HasFew, HaveFew, HasFewAccess, IsFewDeclared, few_system}
use Rattle.av_names.proofs.Resolved.{is_regular, is_limited}

-- ---- forms and rows

forms_fit : (sizes : Sizes) (names : List Text) (es : List IndexExpr) → All (IsFew (2 ^ 32)) es → All (HasSmallForm sizes names) es → All (FitsForm sizes names) es
forms_fit sizes names es f g = all_from (FitsForm sizes names) es (λ e m. (all_at (IsFew (2 ^ 32)) es e f m, all_at (HasSmallForm sizes names) es e g m))

rows_fit : (sizes : Sizes) (names : List Text) (cs : List Constraint) → All (IsFewSides (2 ^ 32)) cs → HaveSmallRows sizes names cs → All (FitsRows sizes names) cs
rows_fit sizes names cs f g = all_from (FitsRows sizes names) cs (λ c m.
    let s = all_at (IsFewSides (2 ^ 32)) cs c f m in (
      (s.left, s.right),
      all_from IsWithinLimits (map form_of_row (compared sizes names c.left c.relation c.right)) (λ r n.
          let q = among_source form_of_row (compared sizes names c.left c.relation c.right) r n in
          let h = all_at IsWithinLimits (rows_over sizes names cs) (form_of_row q.0) g (among_image form_of_row (flat_map (λ d. compared sizes names d.left d.relation d.right) cs) q.0
          (among_flat (λ d. compared sizes names d.left d.relation d.right) cs c q.0 m q.1)) in
          subst IsWithinLimits q.2 h),
    ))

-- ---- expressions

module _ (i : Instance) (few : (name : Text) → indices_of i name ≤ 4) where
  access_fits : (c : Context) (n : ℕ) (at : Access) → n ≤ 4 → c.indices ≤ 4 → Reads i.sizes c n at → HasSmallAccess i.sizes c.names at → HasFewAccess (2 ^ 32) at → FitsAccess i.sizes c at
  access_fits c n access.Here l k r s f = tt
  access_fits c n (access.Indices es) l k r s f = ((rw r.0 l), forms_fit i.sizes c.names es f s)
  access_fits c n (access.Mapped m) l k r s f = record { names = rw r.0 k; results = rw r.1 l; forms = forms_fit i.sizes m.names m.results f s }

  mutual
    pub part_fits : (c : Context) (e : Expression) → c.indices ≤ 4 → IsRegularIn i c e → IsLimitedIn i.sizes c.names e → HasFew (2 ^ 32) e → FitsIn i.sizes c e
    part_fits c (reference name at place) l r s f = (l, access_fits c (indices_of i name) at (few name) l r.1 s f)
    part_fits c (constant n at place) l r s f = tt
    part_fits c (binary o a b place) l r s f = (part_fits c a l r.0 s.0 f.0, part_fits c b l r.1 s.1 f.1)
    part_fits c (choice a o b x y place) l r s f =
        (part_fits c a l r.0 s.0 f.0, part_fits c b l r.1 s.1 f.1, part_fits c x l r.2 s.2 f.2, part_fits c y l r.3 s.3 f.3)
    part_fits c (restriction d e place) l r s f =
        (l, rows_fit i.sizes (names_or c.names d.names) d.constraints f.0 s.0, part_fits c e l r.1 s.1 f.1)
    part_fits c (cases es place) l r s f = parts_fit c es l r s f
    part_fits c (dependence m e place) l r s f =
        (record { names = rw r.0 l; results = r.1; forms = forms_fit i.sizes m.names m.results f.0 s.0 }, part_fits (nameless (length m.results)) e r.1 r.3 s.2 f.1)
    part_fits c (reduction o m e place) l r s f =
        (record { names = r.1; results = rw r.0 l; forms = forms_fit i.sizes m.names m.results f.0 s.0 }, part_fits (over m.names) e r.1 r.4 s.2 f.1)

    pub parts_fit : (c : Context) (es : Expressions) → c.indices ≤ 4 → AreRegularIn i c es → AreLimitedIn i.sizes c.names es → HaveFew (2 ^ 32) es → FitAllIn i.sizes c es
    parts_fit c none l r s f = tt
    parts_fit c (more e es) l r s f = (part_fits c e l r.0 s.0 f.0, parts_fit c es l r.1 s.1 f.1)

-- ---- systems

few_names : (sizes : Sizes) (ds : List Declaration) (name : Text) → ((d : Declaration) → Among d ds → length d.domain.names ≤ 4) → length (declared_names ds name) ≤ 4
few_names sizes [] name h = omega arith
few_names sizes (d ∷ ds) name h = go (bytes_eq d.name name) (few_names sizes ds name (λ x m. h x (inr m)))
  where
    go : (t : Bool) → length (declared_names ds name) ≤ 4 → length {A = Text} (elim t [ true ↦ d.domain.names | false ↦ declared_names ds name ]) ≤ 4
    go true rest = h d (inl refl)
    go false rest = rest

module _ (s : System) (words : List Size) (width : ℕ) (of_text : IsOfText s) (accepted : IsAccepted s words) where
  abbrev i : Instance
  i = instance_of s words width

  few : (name : Text) → indices_of i name ≤ 4
  few name = few_names i.sizes (variables s) name (λ d m. (all_at (λ x. IsDomain i.sizes x.domain) (variables s) d (is_regular s words width of_text accepted).domains m).few)

  pub domain_fits : (d : Declaration) → Among d (variables s) → (length d.domain.names ≤ 4) × All (FitsRows i.sizes d.domain.names) d.domain.constraints
  domain_fits d m = (
    (all_at (λ x. IsDomain i.sizes x.domain) (variables s) d (is_regular s words width of_text accepted).domains m).few,
    rows_fit i.sizes d.domain.names d.domain.constraints (all_at (IsFewDeclared (2 ^ 32)) (variables s) d (few_system s of_text).variables m).constraints
        (all_at (λ x. HaveSmallRows i.sizes x.domain.names x.domain.constraints) (variables s) d (is_limited s words width of_text accepted).domains m),
  )

  few_given : (n : ℕ) (names : List Text) (o : Option (List Text)) → n ≤ 4 → length names ≤ 4 → HasIndices n o → length (given_or names o) ≤ 4
  few_given n names None l k h = k
  few_given n names (Some given) l k h = rw h.1 l

  pub right_fits : (e : Equation) → Among e s.equations → (length (context s e) ≤ 4) × FitsIn i.sizes (over (context s e)) e.right
  right_fits e m =
      let r = all_at (IsRegularEquation i) s.equations e (is_regular s words width of_text accepted).equations m in
      let l = few_given (indices_of i e.name) (declared_names (variables s) e.name) e.indices (few e.name) (few e.name) r.indices in (
        l,
        part_fits i few (over (context s e)) e.right l r.right (all_at (λ x. IsLimitedIn i.sizes (context s x) x.right) s.equations e (is_limited s words width of_text accepted).equations m)
            (all_at (λ x. HasFew (2 ^ 32) x.right) s.equations e (few_system s of_text).equations m),
      )
