-- Names that are taken one by one, in their order.
use Rattle.std.proofs.Common.{◌≡◌, ℕ, suc, ◌+◌, ◌<◌, Bool, true, false, List, [], ◌∷◌, ◌++◌, length, take, drop, get_or, refl, sym, ap, subst, ◌∙◌, arith, add-one, take-suc}
use Rattle.std.specs.Prelude.{if◌then◌else◌, Contains}
use Rattle.std.specs.List.{list_any}
use Rattle.std.specs.Str.{bytes_eq}
use Rattle.std.proofs.lemmas.List.{length-map, get_or-map, take-append-drop}
use Rattle.std.proofs.lemmas.Slice.Eq.{bytes_eq-Decides}
use Rattle.std.proofs.lemmas.Map.Views.{Contains-from_any}
use Rattle.av_net.specs.declared.netlist.Port.{Port}
use Rattle.av_net.specs.Names.{names_of, AreDistinct}
use Rattle.av_net.specs.Rows.{is_in}
use Rattle.av_net.proofs.Distinct.{apart, front_distinct}

-- a set of names with a new one
pub added : (old new : List (List ℕ)) (key name : List ℕ) → new ≡ (if list_any (bytes_eq key) old then old else (old ++ key ∷ [])) → key ≡ name → is_in old name ≡ false → new ≡ old ++ name ∷ []
added old new key name e is none =
    let other : list_any (bytes_eq key) old ≡ false = ap (is_in old) is ∙ none in
    rw (e, other) (ap (λ k. old ++ k ∷ []) is)

-- a later name of different ones is new
pub is_new : (names : List (List ℕ)) (i : ℕ) (name : List ℕ) → i < length names → name ≡ get_or names i name → AreDistinct names → is_in (take i names) name ≡ false
is_new names i name lt at distinct = by (is_in (take i names) name) refl
  where
    by : (t : Bool) → is_in (take i names) name ≡ t → t ≡ false
    by false e = refl
    by true e =
        let here : Contains (take i names) name = Contains-from_any (λ x y e. (bytes_eq-Decides x y).0 e) name (take i names) e in
        let split : names ≡ take (suc i) names ++ drop (suc i) names = sym (take-append-drop (suc i) names) in
        let front : take (suc i) names ≡ take i names ++ name ∷ [] = take-suc names i name lt ∙ ap (λ n. take i names ++ n ∷ []) (sym at) in
        let whole : AreDistinct (take (suc i) names ++ drop (suc i) names) = subst AreDistinct split distinct in
        let some : AreDistinct (take i names ++ name ∷ []) = subst AreDistinct front (front_distinct (take (suc i) names) (drop (suc i) names) whole) in
        absurd (apart (take i names) (name ∷ []) name some here (0, omega arith, refl))

-- one name more
pub one_named : (names : List (List ℕ)) (i : ℕ) (name : List ℕ) → i < length names → name ≡ get_or names i name → take (i + 1) names ≡ take i names ++ name ∷ []
one_named names i name lt at = rw add-one (take-suc names i name lt ∙ ap (λ n. take i names ++ n ∷ []) (sym at))

-- the name of a port
pub port_name : (ports : List Port) (i : ℕ) (port : Port) → i < length ports → port ≡ get_or ports i port → (i < length (names_of ports)) × (port.name ≡ get_or (names_of ports) i port.name)
port_name ports i port lt at =
    (omega (arith, length-map ports (λ (p : Port). p.name)), ap (λ (p : Port). p.name) at ∙ sym (get_or-map (λ (p : Port). p.name) ports i port port.name lt))
