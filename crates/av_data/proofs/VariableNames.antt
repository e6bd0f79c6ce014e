-- The names of a system's variables.
use Rattle.std.proofs.Common.{◌≡◌, ℕ, ◌<◌, ◌≤◌, List, [], ◌∷◌, map, length, get_or, take, Some, refl, sym, ap, ◌∙◌, subst, arith}
use Rattle.std.specs.Prelude.{◌≢◌, All, AllPairs, slice_get}
use Rattle.std.proofs.lemmas.List.{length-map, get_or-map, take_all}
use Rattle.std.proofs.lemmas.Option.{slice_get_within, get_or_from_slice_get}
use Rattle.av_tree.specs.Trees.{Text}
use Rattle.av_flat.specs.declared.flat.Var.{Var}
use Rattle.av_flat.specs.Trees.{Variable, view_variable}
use Rattle.av_net.specs.Names.{AreDistinct}

abbrev pub var_names : List Var → List Text
var_names vars = map (λ (v : Var). v.name) vars

pub names_are : (vars : List Var) → map (λ (v : Variable). v.name) (map view_variable vars) ≡ var_names vars
names_are [] = refl
names_are (v ∷ vars) = ap (λ ns. v.name ∷ ns) (names_are vars)

pub distinct : (vs : List Variable) → AllPairs (λ a b. a.name ≢ b.name) vs → AreDistinct (map (λ (v : Variable). v.name) vs)
distinct [] apart = λ i j d l m. absurd (omega (arith, m))
distinct (v ∷ vs) apart = λ i j d l m. λ e.
    let size = length-map (v ∷ vs) (λ (u : Variable). u.name) in
    let lt : j < length (v ∷ vs) = omega (arith, m, size) in
    apart i j v l lt
    (sym (get_or-map (λ (u : Variable). u.name) (v ∷ vs) i v d (omega (arith, l, lt))) ∙ e ∙ get_or-map (λ (u : Variable). u.name) (v ∷ vs) j v d lt)

pub var_name : (vars : List Var) (i : ℕ) (var : Var) → i < length vars → var ≡ get_or vars i var → (i < length (var_names vars)) × (var.name ≡ get_or (var_names vars) i var.name)
var_name vars i var lt at = (omega (arith, length-map vars (λ (v : Var). v.name)), ap (λ (v : Var). v.name) at ∙ sym (get_or-map (λ (v : Var). v.name) vars i var var.name lt))

pub all_taken : (names : List Text) (vars : List Var) (i : ℕ) → length vars ≤ i → names ≡ take i (var_names vars) → names ≡ map (λ (v : Variable). v.name) (map view_variable vars)
all_taken names vars i le e = let size = length-map vars (λ (v : Var). v.name) in e ∙ take_all i (var_names vars) (omega (arith, le, size)) ∙ sym (names_are vars)

-- what holds of each variable holds of the one at a place
pub at_place_all : (P : Variable → Type 0) (vs : List Variable) (p : ℕ) (v : Variable) → All P vs → slice_get vs p ≡ Some v → P v
at_place_all P vs p v all e = subst P (get_or_from_slice_get vs p v v e) (all p v (slice_get_within vs p v e))
