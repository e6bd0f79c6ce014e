-- Where no name of a sort stands twice, no mention stands again.
use Rattle.std.proofs.Common.{◌≡◌, ℕ, List, [], ◌∷◌, ◌++◌, refl, sym, subst, arith, append_assoc, Bool, true, false, None, inl, inr}
use Rattle.std.specs.Prelude.{Contains}
use Rattle.std.specs.List.{flat_map, list_any}
use Rattle.std.specs.Str.{bytes_eq}
use Rattle.std.proofs.lemmas.List.Concat.{flat_map-append}
use Rattle.std.proofs.lemmas.List.Elements.{Contains-append_left}
use Rattle.std.proofs.lemmas.Slice.Eq.{bytes_eq-Decides}
use Rattle.av_base.proofs.Among.{first_among, more_among, among_flat_map}
use Rattle.av_base.proofs.Truths.{both, either, by_test}
use Rattle.av_net.specs.Names.{AreDistinct}
use Rattle.av_net.specs.Rows.{Mention, of_module, declares, drives, links, is_same, first_again}
use Rattle.av_net.proofs.Distinct.{apart}
use Rattle.av_net.proofs.Mentions.{declared_by, driven_at, linked_at}

-- the names of modules
abbrev pub module_at : Mention → List (List ℕ)
module_at (of_module name) = name ∷ []
module_at (declares name) = []
module_at (drives name) = []
module_at (links u port) = []

-- no name of a sort stands twice
pub record AreFresh (ms : List Mention) : Type 0 where
  pub modules : AreDistinct (flat_map module_at ms)
  pub declared : AreDistinct (flat_map declared_by ms)
  pub driven : AreDistinct (flat_map driven_at ms)
  pub linked : (u : List ℕ) → AreDistinct (flat_map (linked_at u) ms)

-- what a test finds
found : {X : Type 0} (f : X → Bool) (xs : List X) → list_any f xs ≡ true → (x : X) × Contains xs x × (f x ≡ true)
found f [] e = absurd cc
found f (x ∷ xs) e = elim (either (f x) (list_any f xs) e) [
  | inl here ↦ (x, first_among x xs, here)
  | inr later ↦ (let (y, at, is) = found f xs later in (y, more_among x y xs at, is))
]

-- a name before a mention and in it
split : (pick : Mention → List (List ℕ)) (earlier : List Mention) (m : Mention) (ms : List Mention) (name : List ℕ) → AreDistinct (flat_map pick (earlier ++ m ∷ ms)) → Contains (flat_map pick earlier) name → Contains (pick m) name → ⊥
split pick earlier m ms name distinct before here =
    let parts : flat_map pick (earlier ++ m ∷ ms) ≡ flat_map pick earlier ++ (pick m ++ flat_map pick ms) = flat_map-append pick earlier (m ∷ ms) in
    apart (flat_map pick earlier) (pick m ++ flat_map pick ms) name (subst AreDistinct parts distinct) before (Contains-append_left (pick m) (flat_map pick ms) name here)

one_there : (a b : List ℕ) → bytes_eq a b ≡ true → Contains (b ∷ []) a
one_there a b e = (0, omega arith, sym ((bytes_eq-Decides a b).0 e))

linked_there : (u v a b : List ℕ) → bytes_eq u v ≡ true → bytes_eq a b ≡ true → Contains (linked_at u (links v b)) a
linked_there u v a b e f = rw e (one_there a b f)

linked_here : (u a : List ℕ) → Contains (linked_at u (links u a)) a
linked_here u a = let e : bytes_eq u u ≡ true = (bytes_eq-Decides u u).1 refl in rw e (0, omega arith, refl)

clash : (m other : Mention) (earlier ms : List Mention) → Contains earlier other → is_same m other ≡ true → AreFresh (earlier ++ m ∷ ms) → ⊥
clash (of_module a) (of_module b) earlier ms at e fresh = split module_at earlier (of_module a) ms a fresh.modules (among_flat_map module_at earlier (of_module b) a at (one_there a b e)) (0, omega arith, refl)
clash (declares a) (declares b) earlier ms at e fresh = split declared_by earlier (declares a) ms a fresh.declared (among_flat_map declared_by earlier (declares b) a at (one_there a b e)) (0, omega arith, refl)
clash (drives a) (drives b) earlier ms at e fresh = split driven_at earlier (drives a) ms a fresh.driven (among_flat_map driven_at earlier (drives b) a at (one_there a b e)) (0, omega arith, refl)
clash (links u a) (links v b) earlier ms at e fresh =
    let z = both (bytes_eq u v) (bytes_eq a b) e in
    split (linked_at u) earlier (links u a) ms a (fresh.linked u) (among_flat_map (linked_at u) earlier (links v b) a at (linked_there u v a b z.0 z.1)) (linked_here u a)
clash m other earlier ms at e fresh = absurd cc

pub fresh_none : (earlier ms : List Mention) → AreFresh (earlier ++ ms) → first_again earlier ms ≡ None
fresh_none earlier [] fresh = refl
fresh_none earlier (m ∷ ms) fresh =
    let new : list_any (is_same m) earlier ≡ false = by_test (list_any (is_same m) earlier) (λ e. let (other, at, same) = found (is_same m) earlier e in absurd (clash m other earlier ms at same fresh)) (λ e. e) in
    let more : AreFresh ((earlier ++ m ∷ []) ++ ms) = subst AreFresh (sym (append_assoc earlier (m ∷ []) ms)) fresh in
    rw new (fresh_none (earlier ++ m ∷ []) ms more)
