-- Variables that are looked up by name, and the parts of all equations.
use Rattle.std.proofs.Common.{◌≡◌, ℕ, ◌+◌, ◌<◌, ◌≤◌, List, [], ◌∷◌, ◌++◌, map, length, get_or, take, take-suc, add-one, append-nil, Option, Some, Bool, true, false, refl, ap, sym, ◌∙◌, Bor, take_all}
use Rattle.std.specs.Prelude.{find, bytes_eq, cond}
use Rattle.std.specs.List.{flat_map}
use Rattle.std.proofs.lemmas.List.{map-append}
use Rattle.std.proofs.lemmas.Grind.{flat_map-append}
use Rattle.av_tree.specs.declared.system.Declaration.{Declaration}
use Rattle.av_tree.specs.declared.system.Equation.{Equation as EquationMade}
use Rattle.av_tree.specs.Trees.{Text, System, view, view_equation, view_equations}
use Rattle.av_tree.specs.Domains.{variables, context, declared_names, given_or}
use Rattle.av_names.specs.declared.part.Part.{Part as PartMade}
use Rattle.av_base.specs.declared.place.Place.{Place}
use Rattle.std.proofs.Math.Path.{fun_ext}
use Rattle.av_names.specs.Arities.{arity, listed_arity, equation_arity, expression_arity, part_arity}
use Rattle.av_names.specs.Forms.{over}
use Rattle.av_names.specs.Found.{sooner, first_place}
use Rattle.av_names.specs.Parts.{Part, parts, parts_of, equation_parts, arity_of}
use Rattle.av_names.specs.inner.Seen.{part, equations_seen, names_at}
use Rattle.av_names.proofs.Lists.{equations_are}
use Rattle.av_names.proofs.Sooner.{first_map}

pub declared_at : (ds : List Declaration) (name : Text) → names_at (find (λ d. bytes_eq d.name name) ds) ≡ declared_names ds name
declared_at [] name = refl
declared_at (d ∷ ds) name = either (bytes_eq d.name name) (find (λ e. bytes_eq e.name name) ds) (declared_names ds name) (declared_at ds name)
  where
    either : (t : Bool) (r : Option Declaration) (rest : List Text) → names_at r ≡ rest → names_at (cond t (Some d) r) ≡ (elim t [ true ↦ d.domain.names | false ↦ rest ])
    either true r rest e = refl
    either false r rest e = e

-- the context of an equation, by what was looked up
pub context_found : (s : System) (e : EquationMade) (found : Option Declaration) (names : List Text) → found ≡ find (λ d. bytes_eq d.name e.name) (variables s)
    → names ≡ given_or (names_at found) e.indices → names ≡ context s (view_equation e)
context_found s e found names at is = is ∙ ap (λ f. given_or (names_at f) e.indices) at ∙ ap (λ ns. given_or ns e.indices) (declared_at (variables s) e.name)

pub context_is : (s : System) (vs : List (Bor Declaration)) (e : EquationMade) (found : Option Declaration) (names : List Text) → map (λ d. d.now) vs ≡ variables s
    → found ≡ find (λ d. bytes_eq d.name e.name) (map (λ d. d.now) vs) → names ≡ given_or (names_at found) e.indices → names ≡ context s (view_equation e)
context_is s vs e found names eqv at is = context_found s e found names (at ∙ ap (find (λ d. bytes_eq d.name e.name)) eqv) is

-- the parts of one more equation
pub parts_more : (s : System) (es : List EquationMade) (old new : List PartMade) (i : ℕ) (e : EquationMade) (names : List Text) → i < length es → e ≡ get_or es i e
    → names ≡ context s (view_equation e) → map part old ≡ flat_map (equation_parts s) (equations_seen (take i es)) → map part new ≡ map part old ++ parts_of false (over names) (view e.right)
    → map part new ≡ flat_map (equation_parts s) (equations_seen (take (i + 1) es))
parts_more s es old new i e names lt at is before now =
    let split : take (i + 1) es ≡ take i es ++ e ∷ [] = rw (add-one, take-suc es i e lt, sym at) refl in
    let seen : equations_seen (take (i + 1) es) ≡ equations_seen (take i es) ++ view_equation e ∷ [] = ap equations_seen split ∙ map-append view_equation (take i es) (e ∷ []) in
    now ∙ ap (λ (ps : List Part). ps ++ parts_of false (over names) (view e.right)) before
    ∙ ap (λ ns. flat_map (equation_parts s) (equations_seen (take i es)) ++ parts_of false (over ns) (view e.right)) is
    ∙ ap (λ (ps : List Part). flat_map (equation_parts s) (equations_seen (take i es)) ++ ps) (sym (append-nil (equation_parts s (view_equation e))))
    ∙ sym (flat_map-append (equation_parts s) (equations_seen (take i es)) (view_equation e ∷ [])) ∙ ap (flat_map (equation_parts s)) (sym seen)

pub parts_all : (s : System) (es : List EquationMade) (made : List PartMade) (i : ℕ) → view_equations es ≡ s.equations → length es ≤ i
    → map part made ≡ flat_map (equation_parts s) (equations_seen (take i es)) → map part made ≡ parts s
parts_all s es made i is past so_far =
    so_far ∙ ap (λ xs. flat_map (equation_parts s) (equations_seen xs)) (take_all i es past) ∙ ap (flat_map (equation_parts s)) (sym (equations_are es) ∙ is)

-- numbers of indices, by what is looked up
pub arity_is : (s : System) (vs : List (Bor Declaration)) (es : List EquationMade) (ps : List PartMade) (look : Text → Option Declaration) (a b : Option Place)
    → map (λ d. d.now) vs ≡ variables s → view_equations es ≡ s.equations → map part ps ≡ parts s
    → ((name : Text) → look name ≡ find (λ d. bytes_eq d.name name) (map (λ d. d.now) vs))
    → a ≡ first_place (λ e. listed_arity e.place (length (names_at (look e.name))) e.indices) es
    → b ≡ first_place (λ p. expression_arity (λ name. length (names_at (look name))) (part p).context (part p).expression) ps
    → sooner (λ place. place) a b ≡ arity s
arity_is s vs es ps look a b eqv eqe eqp at ea eb =
    let same : (λ name. length (names_at (look name))) ≡ arity_of s =
    fun_ext (λ name. ap length (ap names_at (at name ∙ ap (find (λ d. bytes_eq d.name name)) eqv) ∙ declared_at (variables s) name)) in
    ap (λ x. sooner (λ place. place) x b)
    (ea ∙ ap (λ (f : Text → ℕ). first_place (λ (e : EquationMade). listed_arity e.place (f e.name) e.indices) es) same
    ∙ sym (first_map (λ place. place) (equation_arity s) view_equation es) ∙ ap (first_place (equation_arity s)) (sym (equations_are es) ∙ eqe))
    ∙ ap (λ x. sooner (λ place. place) (first_place (equation_arity s) s.equations) x)
    (eb ∙ ap (λ (f : Text → ℕ). first_place (λ (p : PartMade). expression_arity f (part p).context (part p).expression) ps) same
    ∙ sym (first_map (λ place. place) (part_arity s) part ps) ∙ ap (first_place (part_arity s)) eqp)
