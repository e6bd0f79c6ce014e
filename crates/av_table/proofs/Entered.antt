-- What is found in a table of names after one more name, for the callers of `insert`.
use Rattle.std.proofs.Common.{◌≡◌, ℕ, Bool, true, false, List, [], ◌∷◌, ◌++◌, Option, Some, None, refl, sym, ap, ◌∙◌, true≢false}
use Rattle.std.specs.Prelude.{◌||◌, if◌then◌else◌, cond, is_some, bytes_eq}
use Rattle.std.specs.List.{list_any}
use Rattle.std.specs.Map.{lookup}
use Rattle.std.specs.Option.{option_or}
use Rattle.std.proofs.Math.Bool.{or-true}
use Rattle.std.proofs.lemmas.List.Folds.{list_any-append}
use Rattle.std.proofs.lemmas.Slice.Eq.{bytes_eq-Decides}

or_nothing : (t : Bool) → (t || false) ≡ t
or_nothing true = refl
or_nothing false = refl

-- the names that are there are the old ones and the new one
pub any_entered : (names : List (List ℕ)) (name q : List ℕ) → list_any (bytes_eq q) (if list_any (bytes_eq name) names then names else (names ++ name ∷ [])) ≡ (list_any (bytes_eq q) names || bytes_eq q name)
any_entered names name q = by (list_any (bytes_eq name) names) refl
  where
    old : (t : Bool) → bytes_eq q name ≡ t → list_any (bytes_eq name) names ≡ true → list_any (bytes_eq q) names ≡ (list_any (bytes_eq q) names || t)
    old true e there = ap (λ n. list_any (bytes_eq n) names) ((bytes_eq-Decides q name).0 e) ∙ there ∙ sym (or-true (list_any (bytes_eq q) names))
    old false e there = sym (or_nothing (list_any (bytes_eq q) names))

    by : (t : Bool) → list_any (bytes_eq name) names ≡ t → list_any (bytes_eq q) (if t then names else (names ++ name ∷ [])) ≡ (list_any (bytes_eq q) names || bytes_eq q name)
    by true there = old (bytes_eq q name) refl there
    by false there = list_any-append (bytes_eq q) names (name ∷ []) ∙ ap (λ t. list_any (bytes_eq q) names || t) (or_nothing (bytes_eq q name))

module _ {T : Type 0} where
  lookup_behind : (entries : List (List ℕ × T)) (name : List ℕ) (value : T) (q : List ℕ)
      → lookup (bytes_eq q) (entries ++ (name, value) ∷ []) ≡ option_or (lookup (bytes_eq q) entries) (if bytes_eq q name then Some value else None)
  lookup_behind [] name value q = refl
  lookup_behind (e ∷ entries) name value q = by (bytes_eq q e.0) _ _ (lookup_behind entries name value q)
    where
      by : (t : Bool) (a b : Option T) → a ≡ option_or b (if bytes_eq q name then Some value else None) → cond t (Some e.1) a ≡ option_or (cond t (Some e.1) b) (if bytes_eq q name then Some value else None)
      by true a b h = refl
      by false a b h = h

  some_is : (found : Option T) (other : Option T) → is_some found ≡ true → found ≡ option_or found other
  some_is None other there = absurd (true≢false (sym there))
  some_is (Some x) other there = refl

  or_none : (found : Option T) → found ≡ option_or found None
  or_none None = refl
  or_none (Some x) = refl

  -- a name that had no value has the new one, if it is the new name
  pub lookup_entered : (entries : List (List ℕ × T)) (name : List ℕ) (value : T) (q : List ℕ)
      → lookup (bytes_eq q) (if is_some (lookup (bytes_eq name) entries) then entries else (entries ++ (name, value) ∷ [])) ≡ option_or (lookup (bytes_eq q) entries) (if bytes_eq q name then Some value else None)
  lookup_entered entries name value q = by (is_some (lookup (bytes_eq name) entries)) refl
    where
      old : (t : Bool) → bytes_eq q name ≡ t → is_some (lookup (bytes_eq name) entries) ≡ true → lookup (bytes_eq q) entries ≡ option_or (lookup (bytes_eq q) entries) (if t then Some value else None)
      old true e there = some_is (lookup (bytes_eq q) entries) (Some value) (ap (λ n. is_some (lookup (bytes_eq n) entries)) ((bytes_eq-Decides q name).0 e) ∙ there)
      old false e there = or_none (lookup (bytes_eq q) entries)

      by : (t : Bool) → is_some (lookup (bytes_eq name) entries) ≡ t
          → lookup (bytes_eq q) (if t then entries else (entries ++ (name, value) ∷ [])) ≡ option_or (lookup (bytes_eq q) entries) (if bytes_eq q name then Some value else None)
      by true there = old (bytes_eq q name) refl there
      by false there = lookup_behind entries name value q
