-- Names of variables, equations and parts, list by list.
use Rattle.std.proofs.Common.{◌≡◌, List, [], ◌∷◌, ◌++◌, map, Option, Bool, option_map, refl, ap, sym, ◌∙◌, Bor}
use Rattle.std.specs.Prelude.{filter_map, find, not}
use Rattle.std.proofs.Math.Path.{fun_ext}
use Rattle.av_tree.specs.declared.system.Declaration.{Declaration}
use Rattle.av_tree.specs.declared.system.Equation.{Equation as EquationMade}
use Rattle.av_tree.specs.Trees.{Text, System, view_equation, view_equations}
use Rattle.av_tree.specs.Domains.{variables}
use Rattle.av_names.specs.declared.part.Part.{Part as PartMade}
use Rattle.av_names.specs.Found.{Found, sooner, first_found}
use Rattle.av_names.specs.inner.AtOption.{at_option}
use Rattle.av_tree.specs.Rows.{is_index}
use Rattle.av_names.specs.Equations.{equation_found, declaration_found}
use Rattle.av_names.specs.Parts.{parts}
use Rattle.av_names.specs.Repetitions.{NameList, repeated, repeated_size, repeated_variable, repeated_index, of_declaration, of_equation, of_part}
use Rattle.av_names.specs.inner.Seen.{part, SameNames, equations_seen}
use Rattle.av_names.proofs.Sooner.{first_append, first_map, first_filter_map}
use Rattle.av_names.proofs.Repeats.{again_same}

pub equations_are : (es : List EquationMade) → view_equations es ≡ equations_seen es
equations_are [] = refl
equations_are (e ∷ es) = ap (λ rest. view_equation e ∷ rest) (equations_are es)

index_same : (a b : List Text) → SameNames a b → repeated_index a ≡ repeated_index b
index_same a b same = fun_ext (λ l. ap (λ n. option_map (λ m. record { name = m; place = l.place }) n) (again_same a b l.names same))

in_lists : (rule : NameList → Option Found) (vs : List (Bor Declaration)) (es : List EquationMade) (ps : List PartMade)
    → first_found rule (map of_declaration (map (λ d. d.now) vs) ++ filter_map of_equation (equations_seen es) ++ filter_map of_part (map part ps))
    ≡ sooner (λ f. f.place) (sooner (λ f. f.place) (first_found (λ d. rule (of_declaration d.now)) vs) (first_found (λ e. at_option rule (of_equation (view_equation e))) es))
    (first_found (λ p. at_option rule (of_part (part p))) ps)
in_lists rule vs es ps =
    first_append (λ f. f.place) rule (map of_declaration (map (λ d. d.now) vs) ++ filter_map of_equation (equations_seen es)) (filter_map of_part (map part ps))
    ∙ ap (λ r. sooner (λ f. f.place) r (first_found rule (filter_map of_part (map part ps))))
    (first_append (λ f. f.place) rule (map of_declaration (map (λ d. d.now) vs)) (filter_map of_equation (equations_seen es)))
    ∙ ap (λ r. sooner (λ f. f.place) (sooner (λ f. f.place) r (first_found rule (filter_map of_equation (equations_seen es)))) (first_found rule (filter_map of_part (map part ps))))
    (first_map (λ f. f.place) rule of_declaration (map (λ d. d.now) vs) ∙ first_map (λ f. f.place) (λ d. rule (of_declaration d)) (λ d. d.now) vs)
    ∙ ap (λ r. sooner (λ f. f.place) (sooner (λ f. f.place) (first_found (λ d. rule (of_declaration d.now)) vs) r) (first_found rule (filter_map of_part (map part ps))))
    (first_filter_map (λ f. f.place) rule of_equation (equations_seen es) ∙ first_map (λ f. f.place) (λ e. at_option rule (of_equation e)) view_equation es)
    ∙ ap (sooner (λ f. f.place) (sooner (λ f. f.place) (first_found (λ d. rule (of_declaration d.now)) vs) (first_found (λ e. at_option rule (of_equation (view_equation e))) es)))
    (first_filter_map (λ f. f.place) rule of_part (map part ps) ∙ first_map (λ f. f.place) (λ p. at_option rule (of_part p)) part ps)

-- what is repeated, of all lists
pub repeated_is : (s : System) (vs : List (Bor Declaration)) (es : List EquationMade) (ps : List PartMade) (set : List Text) (a b c d e : Option Found)
    → map (λ x. x.now) vs ≡ variables s → view_equations es ≡ s.equations → map part ps ≡ parts s → SameNames set s.sizes.names
    → a ≡ repeated_size s.sizes → b ≡ repeated_variable s.sizes.names (map (λ x. x.now) vs) → c ≡ first_found (λ x. repeated_index set (of_declaration x.now)) vs
    → d ≡ first_found (λ x. at_option (repeated_index set) (of_equation (view_equation x))) es → e ≡ first_found (λ p. at_option (repeated_index set) (of_part (part p))) ps
    → sooner (λ f. f.place) a (sooner (λ f. f.place) b (sooner (λ f. f.place) (sooner (λ f. f.place) c d) e)) ≡ repeated s
repeated_is s vs es ps set a b c d e eqv eqe eqp same ea eb ec ed ee =
    let rule = repeated_index set in
    let lists : sooner (λ f. f.place) (sooner (λ f. f.place) c d) e
    ≡ first_found (repeated_index s.sizes.names) (map of_declaration (variables s) ++ filter_map of_equation s.equations ++ filter_map of_part (parts s)) =
    rw (ec, ed, ee) (sym (in_lists rule vs es ps)) ∙ ap (λ ds. first_found rule (map of_declaration ds ++ filter_map of_equation (equations_seen es) ++ filter_map of_part (map part ps))) eqv
    ∙ ap (λ xs. first_found rule (map of_declaration (variables s) ++ filter_map of_equation xs ++ filter_map of_part (map part ps))) (sym (equations_are es) ∙ eqe)
    ∙ ap (λ xs. first_found rule (map of_declaration (variables s) ++ filter_map of_equation s.equations ++ filter_map of_part xs)) eqp
    ∙ ap (λ r. first_found r (map of_declaration (variables s) ++ filter_map of_equation s.equations ++ filter_map of_part (parts s))) (index_same set s.sizes.names same) in
    ap (λ x. sooner (λ f. f.place) x (sooner (λ f. f.place) b (sooner (λ f. f.place) (sooner (λ f. f.place) c d) e))) ea
    ∙ ap (λ x. sooner (λ f. f.place) (repeated_size s.sizes) (sooner (λ f. f.place) x (sooner (λ f. f.place) (sooner (λ f. f.place) c d) e))) (eb ∙ ap (repeated_variable s.sizes.names) eqv)
    ∙ ap (λ x. sooner (λ f. f.place) (repeated_size s.sizes) (sooner (λ f. f.place) (repeated_variable s.sizes.names (variables s)) x)) lists

-- ---- the first thing of a list that passes a test

pub find_same : {A : Type 0} (p q : A → Bool) (xs : List A) → ((x : A) → p x ≡ q x) → find p xs ≡ find q xs
find_same p q xs same = ap (λ test. find test xs) (fun_ext same)

-- ---- equations

pub names_are : (es : List EquationMade) → map (λ e. e.name) es ≡ map (λ e. e.name) (view_equations es)
names_are [] = refl
names_are (e ∷ es) = ap (λ names. e.name ∷ names) (names_are es)

pub input_found : (set names : List Text) (es : List EquationMade) → SameNames set names
    → option_map equation_found (find (λ e. is_index set e.name) (equations_seen es)) ≡ option_map equation_found (find (λ e. is_index names e.name) (view_equations es))
input_found set names es same =
    ap (option_map equation_found) (find_same (λ e. is_index set e.name) (λ e. is_index names e.name) (equations_seen es) (λ e. same e.name)
    ∙ ap (find (λ e. is_index names e.name)) (sym (equations_are es)))

pub no_equation_found : (set : List Text) (es : List EquationMade) (ds computed : List Declaration) → SameNames set (map (λ e. e.name) es) → ds ≡ computed
    → option_map declaration_found (find (λ d. not (is_index set d.name)) ds) ≡ option_map declaration_found (find (λ d. not (is_index (map (λ e. e.name) (view_equations es)) d.name)) computed)
no_equation_found set es ds computed same eq =
    let names = map (λ e. e.name) (view_equations es) in
    ap (option_map declaration_found) (find_same (λ d. not (is_index set d.name)) (λ d. not (is_index names d.name)) ds
    (λ d. ap not (same d.name ∙ ap (λ ns. is_index ns d.name) (names_are es)))
    ∙ ap (find (λ d. not (is_index names d.name))) eq)
