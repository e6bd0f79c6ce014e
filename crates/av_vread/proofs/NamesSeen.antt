-- Names that were seen.
use Rattle.std.proofs.Common.{◌≡◌, ℕ, Bool, true, false, List, [], ◌∷◌, ◌++◌, map, refl, ap}
use Rattle.std.specs.Prelude.{◌||◌, if◌then◌else◌}
use Rattle.std.specs.List.{list_any}
use Rattle.std.specs.Str.{bytes_eq}
use Rattle.std.proofs.lemmas.List.{map_push}
use Rattle.av_net.specs.Rows.{is_in}

-- a test of what an item is seen as
pub any_map : {A B : Type 0} (test : B → Bool) (f : A → B) (xs : List A) → list_any (λ x. test (f x)) xs ≡ list_any test (map f xs)
any_map test f [] = refl
any_map test f (x ∷ xs) = ap (λ b. test (f x) || b) (any_map test f xs)

-- a name more, where it was not there
pub added : {A : Type 0} (f : A → List ℕ) (xs ys : List A) (x : A) (names : List (List ℕ)) → names ≡ map f xs → ys ≡ (if list_any (λ y. bytes_eq (f x) (f y)) xs then xs else (xs ++ x ∷ []))
    → map f ys ≡ (if is_in names (f x) then names else (names ++ f x ∷ []))
added f xs ys x names v e = rw (v, e, any_map (bytes_eq (f x)) f xs) (by (is_in (map f xs) (f x)))
  where
    by : (t : Bool) → map f (if t then xs else (xs ++ x ∷ [])) ≡ (if t then map f xs else (map f xs ++ f x ∷ []))
    by true = refl
    by false = map_push f xs x
