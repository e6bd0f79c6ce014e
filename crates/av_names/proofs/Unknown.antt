-- Unknown names and numbers of nodes, list by list.
use Rattle.std.proofs.Common.{◌≡◌, List, [], ◌∷◌, ◌++◌, map, length, Option, false, not, option_map, refl, ap, sym, ◌∙◌, Bor}
use Rattle.std.specs.Prelude.{find, bytes_eq, filter_map}
use Rattle.std.specs.List.{flat_map}
use Rattle.std.proofs.Math.Path.{fun_ext}
use Rattle.av_base.specs.declared.place.Place.{Place}
use Rattle.av_tree.specs.declared.system.Declaration.{Declaration}
use Rattle.av_tree.specs.declared.system.Equation.{Equation as EquationMade}
use Rattle.av_tree.specs.Trees.{Text, Expression, System, Equation, view, view_equation, view_equations, reference, constant, binary, choice, restriction, cases, dependence, reduction}
use Rattle.av_tree.specs.Domains.{variables, given_or}
use Rattle.av_tree.specs.Rows.{is_index}
use Rattle.av_names.specs.declared.part.Part.{Part as PartMade}
use Rattle.av_names.specs.Forms.{over}
use Rattle.av_names.specs.Found.{Found, sooner, first_of, first_found, found_where}
use Rattle.av_names.specs.inner.AtOption.{at_option}
use Rattle.av_names.specs.Parts.{Part, parts, parts_of, equation_parts}
use Rattle.av_names.specs.Quantities.{Counted, exceeds, of_declaration, of_equation, of_part, too_many_indices, nodes_of, too_many_nodes}
use Rattle.av_names.specs.inner.Seen.{part, names_at, SameNames}
use Rattle.av_names.specs.Unknowns.{declared_as, unknown, unknown_equation, unknown_reference, unknown_variable, unknown_side, unknown_written}
use Rattle.av_names.specs.Written.{Written, written_at, written_declaration, written_sizes, all_written}
use Rattle.av_names.proofs.Lists.{equations_are}
use Rattle.av_names.proofs.Lookups.{context_is}
use Rattle.av_names.proofs.Reach.{first_flat_map, written_same}
use Rattle.av_names.proofs.Sooner.{first_append, first_map, first_filter_map}

-- ---- the names of the variables

pub names_all : (vs : List (Bor Declaration)) → map (λ d. d.now.name) vs ≡ declared_as (map (λ d. d.now) vs)
names_all [] = refl
names_all (v ∷ vs) = ap (λ names. v.now.name ∷ names) (names_all vs)

-- ---- the equations, with what was looked up

module _ (s : System) (vs : List (Bor Declaration)) (es : List EquationMade) (eqv : map (λ d. d.now) vs ≡ variables s) (eqe : view_equations es ≡ s.equations) where
  -- what a rule finds at the equations
  at_equations : {A : Type 0} (at : A → Place) (rule : Equation → Option A) → first_of at (λ e. rule (view_equation e)) es ≡ first_of at rule s.equations
  at_equations at rule = sym (first_map at rule view_equation es) ∙ ap (first_of at rule) (sym (equations_are es) ∙ eqe)

  -- what a rule finds at the variables
  at_variables : {A : Type 0} (at : A → Place) (rule : Declaration → Option A) → first_of at (λ d. rule d.now) vs ≡ first_of at rule (variables s)
  at_variables at rule = sym (first_map at rule (λ d. d.now) vs) ∙ ap (first_of at rule) eqv

  -- ---- index names

  in_domains : (rule : Written → Option Found) → first_found (λ d. rule (written_declaration d.now)) vs ≡ first_found rule (map written_declaration (variables s))
  in_domains rule = at_variables (λ f. f.place) (λ d. rule (written_declaration d)) ∙ sym (first_map (λ f. f.place) rule written_declaration (variables s))

  pub index_is : (set : List Text) (a b c : Option Found) → SameNames set s.sizes.names → a ≡ first_found (unknown_side set []) s.sizes.constraints
      → b ≡ first_found (λ d. first_found (unknown_side set d.now.domain.names) d.now.domain.constraints) vs → c ≡ first_found (unknown_written set) (map written_at (parts s))
      → sooner (λ f. f.place) a (sooner (λ f. f.place) b c) ≡ first_found (unknown_written s.sizes.names) (all_written s)
  index_is set a b c same ea eb ec =
      let rule = unknown_written set in
      ap (λ x. sooner (λ f. f.place) x (sooner (λ f. f.place) b c)) ea
      ∙ ap (sooner (λ f. f.place) (rule (written_sizes s.sizes)))
      (ap (λ x. sooner (λ f. f.place) x c) (eb ∙ in_domains rule) ∙ ap (sooner (λ f. f.place) (first_found rule (map written_declaration (variables s)))) ec
      ∙ sym (first_append (λ f. f.place) rule (map written_declaration (variables s)) (map written_at (parts s))))
      ∙ ap (λ r. first_found r (all_written s)) (written_same set s.sizes.names same)

  module _ (look : Text → Option Declaration) (found : (name : Text) → look name ≡ find (λ d. bytes_eq d.name name) (map (λ d. d.now) vs)) where
    abbrev looked : EquationMade → List Part
    looked e = parts_of false (over (given_or (names_at (look e.name)) e.indices)) (view e.right)

    looked_is : (e : EquationMade) → looked e ≡ equation_parts s (view_equation e)
    looked_is e = ap (λ ns. parts_of false (over ns) (view e.right)) (context_is s vs e (look e.name) (given_or (names_at (look e.name)) e.indices) eqv (found e.name) refl)

    -- what a rule finds in the parts of the right sides
    pub in_rights : (rule : Written → Option Found) → first_found (λ e. first_found (λ p. rule (written_at p)) (looked e)) es ≡ first_found rule (map written_at (parts s))
    in_rights rule =
        ap (λ r. first_found r es) (fun_ext (λ e. ap (first_found (λ p. rule (written_at p))) (looked_is e)))
        ∙ at_equations (λ f. f.place) (λ e. first_found (λ p. rule (written_at p)) (equation_parts s e))
        ∙ sym (first_flat_map (λ f. f.place) (λ p. rule (written_at p)) (equation_parts s) s.equations) ∙ sym (first_map (λ f. f.place) rule written_at (parts s))

    -- ---- nodes

    pub nodes_are : (a : Option Counted) → a ≡ first_of (λ c. c.place) (λ e. exceeds 4096 (record { number = length (looked e); place = e.place })) es
        → option_map (λ c. c.number) a ≡ too_many_nodes s
    nodes_are a ea =
        ap (option_map (λ c. c.number))
        (ea ∙ ap (λ r. first_of (λ c. c.place) r es) (fun_ext (λ e. ap (λ (ps : List Part). exceeds 4096 (record { number = length ps; place = e.place })) (looked_is e)))
        ∙ at_equations (λ c. c.place) (λ e. exceeds 4096 (nodes_of s e)) ∙ sym (first_map (λ c. c.place) (exceeds 4096) (nodes_of s) s.equations))

  -- ---- names of variables

  variable_same : (a b : List Text) → SameNames a b → (e : Expression) → unknown_variable a e ≡ unknown_variable b e
  variable_same a b same (reference name at place) = ap (λ t. found_where (not t) name place) (same name)
  variable_same a b same (constant n at place) = refl
  variable_same a b same (binary g l r place) = refl
  variable_same a b same (choice l compare r x y place) = refl
  variable_same a b same (restriction d e place) = refl
  variable_same a b same (cases branches place) = refl
  variable_same a b same (dependence m e place) = refl
  variable_same a b same (reduction o m e place) = refl

  pub unknown_is : (ps : List PartMade) (set : List Text) (a b c : Option Found) → map part ps ≡ parts s → SameNames set (declared_as (map (λ d. d.now) vs))
      → a ≡ first_found (λ e. found_where (not (is_index set e.name)) e.name e.place) es → b ≡ first_found (λ p. unknown_variable set (part p).expression) ps
      → c ≡ first_found (unknown_written s.sizes.names) (all_written s) → sooner (λ f. f.place) a (sooner (λ f. f.place) b c) ≡ unknown s
  unknown_is ps set a b c eqp same ea eb ec =
      let own : SameNames set (declared_as (variables s)) = λ name. same name ∙ ap (λ ds. is_index (declared_as ds) name) eqv in
      ap (λ x. sooner (λ f. f.place) x (sooner (λ f. f.place) b c))
      (ea ∙ ap (λ r. first_found r es) (fun_ext (λ e. ap (λ t. found_where (not t) e.name e.place) (own e.name))) ∙ at_equations (λ f. f.place) (unknown_equation s))
      ∙ ap (sooner (λ f. f.place) (first_found (unknown_equation s) s.equations))
      (ap (λ x. sooner (λ f. f.place) x c)
      (eb ∙ ap (λ r. first_found r ps) (fun_ext (λ p. variable_same set (declared_as (variables s)) own (part p).expression))
      ∙ sym (first_map (λ f. f.place) (unknown_reference s) part ps) ∙ ap (first_found (unknown_reference s)) eqp)
      ∙ ap (sooner (λ f. f.place) (first_found (unknown_reference s) (parts s))) ec)

  -- ---- indices

  pub indices_are : (ps : List PartMade) (a b c : Option Counted) → map part ps ≡ parts s → a ≡ first_of (λ c. c.place) (λ d. exceeds 4 (of_declaration d.now)) vs
      → b ≡ first_of (λ c. c.place) (λ e. at_option (exceeds 4) (of_equation (view_equation e))) es
      → c ≡ first_of (λ c. c.place) (λ p. first_of (λ c. c.place) (exceeds 4) (of_part (part p))) ps
      → option_map (λ c. c.number) (sooner (λ c. c.place) (sooner (λ c. c.place) a b) c) ≡ too_many_indices s
  indices_are ps a b c eqp ea eb ec =
      let rule = exceeds 4 in
      let first : a ≡ first_of (λ c. c.place) rule (map of_declaration (variables s)) =
      ea ∙ at_variables (λ c. c.place) (λ d. rule (of_declaration d)) ∙ sym (first_map (λ c. c.place) rule of_declaration (variables s)) in
      let second : b ≡ first_of (λ c. c.place) rule (filter_map of_equation s.equations) =
      eb ∙ at_equations (λ c. c.place) (λ e. at_option rule (of_equation e)) ∙ sym (first_filter_map (λ c. c.place) rule of_equation s.equations) in
      let third : c ≡ first_of (λ c. c.place) rule (flat_map of_part (parts s)) =
      ec ∙ sym (first_map (λ c. c.place) (λ p. first_of (λ c. c.place) rule (of_part p)) part ps) ∙ ap (first_of (λ c. c.place) (λ p. first_of (λ c. c.place) rule (of_part p))) eqp
      ∙ sym (first_flat_map (λ c. c.place) rule of_part (parts s)) in
      ap (option_map (λ c. c.number))
      (ap (λ x. sooner (λ c. c.place) (sooner (λ c. c.place) x b) c) first
      ∙ ap (λ x. sooner (λ c. c.place) (sooner (λ c. c.place) (first_of (λ c. c.place) rule (map of_declaration (variables s))) x) c) second
      ∙ ap (λ x. sooner (λ c. c.place) x c) (sym (first_append (λ c. c.place) rule (map of_declaration (variables s)) (filter_map of_equation s.equations)))
      ∙ ap (sooner (λ c. c.place) (first_of (λ c. c.place) rule (map of_declaration (variables s) ++ filter_map of_equation s.equations))) third
      ∙ sym (first_append (λ c. c.place) rule (map of_declaration (variables s) ++ filter_map of_equation s.equations) (flat_map of_part (parts s))))
