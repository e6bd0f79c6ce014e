-- What is found among keys, by what they are seen as.
use Rattle.std.proofs.Common.{◌≡◌, ℕ, ◌+◌, Bool, cond, not, List, [], ◌∷◌, ◌++◌, map, Some, refl, sym, ap, ◌∙◌, Bor, true, false, true≢false}
use Rattle.std.specs.Prelude.{◌||◌, if◌then◌else◌, is_some, bytes_eq}
use Rattle.std.specs.List.{list_any, position, position_or_len}
use Rattle.std.specs.Map.{lookup}
use Rattle.std.proofs.lemmas.List.{map_push, length-map}
use Rattle.indexmap.specs.IndexMap.{insert_entry}

module _ {K A : Type 0} (f : K → A) where
  pub any_seen : (test : A → Bool) (keys : List K) → list_any (λ k. test (f k)) keys ≡ list_any test (map f keys)
  any_seen test [] = refl
  any_seen test (k ∷ keys) = ap (λ b. test (f k) || b) (any_seen test keys)

  first_seen : (test : A → Bool) (keys : List K) → position_or_len (λ k. test (f k)) keys ≡ position_or_len test (map f keys)
  first_seen test [] = refl
  first_seen test (k ∷ keys) = ap (λ n. cond (not (test (f k))) (1 + n) 0) (first_seen test keys)

  pub position_seen : (test : A → Bool) (keys : List K) → position (λ k. test (f k)) keys ≡ position test (map f keys)
  position_seen test keys = rw (first_seen test keys, sym (length-map keys f)) refl

  -- one more, unless it is there
  pub pushed_seen : (there : Bool) (keys : List K) (key : K) → map f (if there then keys else (keys ++ key ∷ [])) ≡ (if there then map f keys else (map f keys ++ f key ∷ []))
  pushed_seen true keys key = refl
  pushed_seen false keys key = map_push f keys key

-- an entry by the bytes of its name
abbrev pub seen : {T : Type 0} → Bor (List ℕ) × T → List ℕ × T
seen e = (e.0.now, e.1)

module _ {T : Type 0} where
  pub lookup_seen : (test : List ℕ → Bool) (es : List (Bor (List ℕ) × T)) → lookup (λ k. test k.now) es ≡ lookup test (map seen es)
  lookup_seen test [] = refl
  lookup_seen test (e ∷ es) = ap (λ r. cond (test e.0.now) (Some e.1) r) (lookup_seen test es)

  looked_up : (es : List (Bor (List ℕ) × T)) (table : List (List ℕ × T)) (name : List ℕ) (t u : Bool) → map seen es ≡ table → t ≡ is_some (lookup (λ k. bytes_eq name k.now) es) → t ≡ u
      → is_some (lookup (bytes_eq name) table) ≡ u
  looked_up es table name t u view there is = sym (ap is_some (lookup_seen (bytes_eq name) es ∙ ap (lookup (bytes_eq name)) view)) ∙ sym there ∙ is

  -- a name that is there stays
  pub entry_kept : (es : List (Bor (List ℕ) × T)) (table : List (List ℕ × T)) (name : List ℕ) (value : T) (t : Bool) → map seen es ≡ table → t ≡ is_some (lookup (λ k. bytes_eq name k.now) es) → t ≡ true
      → table ≡ (if is_some (lookup (bytes_eq name) table) then table else (table ++ (name, value) ∷ []))
  entry_kept es table name value t view there is = rw (looked_up es table name t true view there is) refl

  put_behind : (es : List (Bor (List ℕ) × T)) (key : Bor (List ℕ)) (value : T) → is_some (lookup (λ k. bytes_eq key.now k.now) es) ≡ false → insert_entry (λ a b. bytes_eq a.now b.now) es key value ≡ es ++ (key, value) ∷ []
  put_behind [] key value none = refl
  put_behind (e ∷ es) key value none = by (bytes_eq key.now e.0.now) none (put_behind es key value)
    where
      by : (t : Bool) → is_some (cond t (Some e.1) (lookup (λ k. bytes_eq key.now k.now) es)) ≡ false
          → (is_some (lookup (λ k. bytes_eq key.now k.now) es) ≡ false → insert_entry (λ a b. bytes_eq a.now b.now) es key value ≡ es ++ (key, value) ∷ [])
          → (if t then (e.0, value) ∷ es else e ∷ insert_entry (λ a b. bytes_eq a.now b.now) es key value) ≡ e ∷ (es ++ (key, value) ∷ [])
      by true there rest = absurd (true≢false there)
      by false none rest = ap (λ (more : List (Bor (List ℕ) × T)). e ∷ more) (rest none)

  -- another one goes behind the others
  pub entry_put : (es es' : List (Bor (List ℕ) × T)) (table : List (List ℕ × T)) (key : Bor (List ℕ)) (value : T) (t : Bool) → map seen es ≡ table → t ≡ is_some (lookup (λ k. bytes_eq key.now k.now) es) → t ≡ false
      → es' ≡ insert_entry (λ a b. bytes_eq a.now b.now) es key value → map seen es' ≡ (if is_some (lookup (bytes_eq key.now) table) then table else (table ++ (key.now, value) ∷ []))
  entry_put es es' table key value t view there is put =
      let new : is_some (lookup (bytes_eq key.now) table) ≡ false = looked_up es table key.now t false view there is in
      rw new (ap (map seen) (put ∙ put_behind es key value (sym there ∙ is)) ∙ map_push seen es (key, value) ∙ ap (λ (entries : List (List ℕ × T)). entries ++ (key.now, value) ∷ []) view)
