-- Variables, equations and sizes that are looked up by name, with one more of them.
use Rattle.std.proofs.Common.{◌≡◌, ℕ, suc, ◌+◌, ◌<◌, ◌≤◌, List, [], ◌∷◌, ◌++◌, map, length, get_or, drop, Option, Some, None, Bool, true, false, if◌then◌else◌, option_map, refl, ap, sym, ◌∙◌, arith, Bor}
use Rattle.std.specs.Prelude.{bytes_eq, is_some}
use Rattle.std.specs.Map.{lookup}
use Rattle.std.specs.Option.{option_or}
use Rattle.std.proofs.lemmas.List.{at_drop_all}
use Rattle.av_table.proofs.Entered.{lookup_entered}
use Rattle.av_tree.specs.declared.system.Declaration.{Declaration}
use Rattle.av_tree.specs.Trees.{Text}
use Rattle.av_names.specs.Flattened.{place_of}
use Rattle.av_names.proofs.Sets.{same_text}
use Rattle.av_base.proofs.Lists.{next_item}

-- a table after one more name
abbrev pub entered : {V : Type 0} → List (Text × V) → Text → V → List (Text × V)
entered table text value = if is_some (lookup (bytes_eq text) table) then table else (table ++ (text, value) ∷ [])

pub looked_up : {V : Type 0} (table : List (Text × V)) (text : Text) (value : V) (name : Text) → lookup (bytes_eq name) (entered table text value) ≡ option_or (lookup (bytes_eq name) table) (if bytes_eq text name then Some value else None)
looked_up table text value name = lookup_entered table text value name ∙ ap (λ t. option_or (lookup (bytes_eq name) table) (if t then Some value else None)) (same_text name text)

-- what is found in the table, or else among those to come
module _ {X V W : Type 0} (seen : V → W) (rule : List X → Option W) (xs : List X) where
  abbrev pub found_or : Text → List (Text × V) → List X → Option W
  found_or name table rest = option_or (option_map seen (lookup (bytes_eq name) table)) (rule rest)

  pub one_later : (old new : List (Text × V)) (i : ℕ) (x : X) (text : Text) (value : V) (name : Text) → i < length xs → x ≡ get_or xs i x
      → rule (x ∷ drop (i + 1) xs) ≡ (if bytes_eq text name then Some (seen value) else rule (drop (i + 1) xs)) → new ≡ entered old text value
      → found_or name old (drop i xs) ≡ rule xs → found_or name new (drop (i + 1) xs) ≡ rule xs
  one_later old new i x text value name lt at first put so_far =
      ap (λ table. found_or name table (drop (i + 1) xs)) put ∙ ap (λ o. option_or (option_map seen o) (rule (drop (i + 1) xs))) (looked_up old text value name)
      ∙ by (lookup (bytes_eq name) old) (bytes_eq text name) ∙ ap (option_or (option_map seen (lookup (bytes_eq name) old))) (sym first ∙ ap rule (sym (next_item xs i x lt at))) ∙ so_far
    where
      by : (o : Option V) (t : Bool)
          → option_or (option_map seen (option_or o (if t then Some value else None))) (rule (drop (i + 1) xs)) ≡ option_or (option_map seen o) (if t then Some (seen value) else rule (drop (i + 1) xs))
      by (Some v) t = refl
      by None true = refl
      by None false = refl

  pub all_found : (table : List (Text × V)) (i : ℕ) (name : Text) → length xs ≤ i → rule [] ≡ None → found_or name table (drop i xs) ≡ rule xs → option_map seen (lookup (bytes_eq name) table) ≡ rule xs
  all_found table i name past none so_far = sym (by (option_map seen (lookup (bytes_eq name) table)) (rule (drop i xs)) (at_drop_all rule xs i past ∙ none)) ∙ so_far
    where
      by : (o rest : Option W) → rest ≡ None → option_or o rest ≡ o
      by None rest e = e
      by (Some w) rest e = refl

-- the place that was found, or else this one
abbrev pub or_other : ℕ → Option ℕ → ℕ
or_other other o = elim o [ None ↦ other | Some place ↦ place ]

pub one_place_later : (vs : List (Bor Declaration)) (old new : List (Text × ℕ)) (i place : ℕ) (x : Bor Declaration) (text name : Text) → i < length vs → x ≡ get_or vs i x → text ≡ x.now.name → place ≡ i
    → new ≡ entered old text place → or_other (i + place_of (map (λ d. d.now) (drop i vs)) name) (lookup (bytes_eq name) old) ≡ place_of (map (λ d. d.now) vs) name
    → or_other (i + 1 + place_of (map (λ d. d.now) (drop (i + 1) vs)) name) (lookup (bytes_eq name) new) ≡ place_of (map (λ d. d.now) vs) name
one_place_later vs old new i place x text name lt at same value put so_far =
    ap (λ table. or_other (i + 1 + rest) (lookup (bytes_eq name) table)) put ∙ ap (or_other (i + 1 + rest)) (looked_up old text place name)
    ∙ by (lookup (bytes_eq name) old) (bytes_eq text name)
    ∙ ap (λ t. or_other (i + (if bytes_eq t name then 0 else suc rest)) (lookup (bytes_eq name) old)) same
    ∙ ap (λ (ds : List (Bor Declaration)). or_other (i + place_of (map (λ d. d.now) ds) name) (lookup (bytes_eq name) old)) (sym (next_item vs i x lt at)) ∙ so_far
  where
    rest : ℕ
    rest = place_of (map (λ d. d.now) (drop (i + 1) vs)) name

    by : (o : Option ℕ) (t : Bool) → or_other (i + 1 + rest) (option_or o (if t then Some place else None)) ≡ or_other (i + (if t then 0 else suc rest)) o
    by (Some p) t = refl
    by None true = omega (arith, value)
    by None false = omega arith

pub all_places : (vs : List (Bor Declaration)) (table : List (Text × ℕ)) (i : ℕ) (name : Text) → length vs ≤ i → i ≤ length vs
    → or_other (i + place_of (map (λ d. d.now) (drop i vs)) name) (lookup (bytes_eq name) table) ≡ place_of (map (λ d. d.now) vs) name
    → or_other (length vs) (lookup (bytes_eq name) table) ≡ place_of (map (λ d. d.now) vs) name
all_places vs table i name past most so_far =
    let none : place_of (map (λ d. d.now) (drop i vs)) name ≡ 0 = at_drop_all (λ (ds : List (Bor Declaration)). place_of (map (λ d. d.now) ds) name) vs i past in
    let all : i + place_of (map (λ d. d.now) (drop i vs)) name ≡ length vs = omega (arith, none, past, most) in
    ap (λ other. or_other other (lookup (bytes_eq name) table)) (sym all) ∙ so_far
