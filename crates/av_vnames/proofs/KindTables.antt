-- What kinds of cells found by their names tell.
use Rattle.std.proofs.Common.{◌≡◌, ℕ, zero, suc, ◌++◌, Bool, true, false, true≢false, cond, List, [], ◌∷◌, map, length, get_or, ◌+◌, ◌≤◌, Option, Some, None, refl, sym, ap, subst, ◌∙◌, arith}
use Rattle.std.specs.Prelude.{◌<◌, is_some, option_map, slice_get, IfSome, if◌then◌else◌}
use Rattle.std.specs.Map.{lookup}
use Rattle.std.proofs.lemmas.List.{length-map}
use Rattle.std.proofs.lemmas.Slice.Eq.{bytes_eq-Decides}
use Rattle.std.specs.List.{flat_map}
use Rattle.std.specs.Str.{bytes_eq}
use Rattle.av_net.specs.declared.netlist.Port.{Port}
use Rattle.av_net.specs.declared.plan.CellKind.{CellKind}
use Rattle.av_net.specs.Flat.{no_kind}
use Rattle.av_net.specs.Names.{width_in}
use Rattle.av_net.specs.Grammar.{PortLink, Instantiation, instance}
use Rattle.av_net.specs.Rows.{first_from, kind_named, driven_by, driven_by_link}
use Rattle.av_vnames.specs.Numbered.{place_among, number_of}
use Rattle.av_vnames.specs.Scoped.{Bytes}
use Rattle.av_vnames.specs.inner.Scoped.{width_found}
use Rattle.av_vnames.proofs.Walks.{found_more}
use Rattle.av_vnames.proofs.Table.{flip}
use Rattle.av_vnames.proofs.RowWalks.{same_widths}

-- ---- no kind

no_driven : (links : List PortLink) → flat_map (driven_by_link no_kind) links ≡ []
no_driven [] = refl
no_driven (link ∷ links) = no_driven links

pub unknown_drives : (kinds : List CellKind) (x : Instantiation) → kind_named kinds x.kind ≡ None → driven_by kinds (instance x) ≡ []
unknown_drives kinds x e = rw e (no_driven x.links)

-- ---- the widths of a kind's ports

pub two_walks : (w1 w2 a b : List Port) → ((q : Bytes) → width_found w1 q ≡ width_found ([] ++ a) q) → ((q : Bytes) → width_found w2 q ≡ width_found (w1 ++ b) q) → (q : Bytes) → width_in w2 q ≡ width_in (a ++ b) q
two_walks w1 w2 a b h1 h2 q = same_widths w2 (a ++ b) (λ p. h2 p ∙ found_more w1 a b p (h1 p)) q

-- ---- kinds by their numbers

or_none : Bool → ℕ → Option ℕ
or_none t n = if t then Some n else None

lookup_joined : (xs : List (Bytes × ℕ)) (name : Bytes) (n : ℕ) (q : Bytes) → lookup (bytes_eq q) (xs ++ (name, n) ∷ []) ≡ first_from (lookup (bytes_eq q) xs) (or_none (bytes_eq q name) n)
unfolding or_none
lookup_joined [] name n q = refl
lookup_joined (x ∷ xs) name n q = go (bytes_eq q x.0) (lookup_joined xs name n q)
  where
    go : (t : Bool) → lookup (bytes_eq q) (xs ++ (name, n) ∷ []) ≡ first_from (lookup (bytes_eq q) xs) (or_none (bytes_eq q name) n)
        → cond t (Some x.1) (lookup (bytes_eq q) (xs ++ (name, n) ∷ [])) ≡ first_from (cond t (Some x.1) (lookup (bytes_eq q) xs)) (or_none (bytes_eq q name) n)
    go true e = refl
    go false e = e

place_joined : (names : List Bytes) (name q : Bytes) → place_among (names ++ name ∷ []) q ≡ first_from (place_among names q) (or_none (bytes_eq name q) (length names))
unfolding or_none
place_joined [] name q = go (bytes_eq name q)
  where
    go : (t : Bool) → cond t (Some 0) None ≡ or_none t 0
    go true = refl
    go false = refl
place_joined (first ∷ names) name q = go (bytes_eq first q) (place_joined names name q)
  where
    more : (a : Option ℕ) (t : Bool) (n : ℕ) → option_map suc (first_from a (or_none t n)) ≡ first_from (option_map suc a) (or_none t (suc n))
    more None true n = refl
    more None false n = refl
    more (Some m) t n = refl

    go : (t : Bool) → place_among (names ++ name ∷ []) q ≡ first_from (place_among names q) (or_none (bytes_eq name q) (length names))
        → cond t (Some 0) (option_map suc (place_among (names ++ name ∷ []) q)) ≡ first_from (cond t (Some 0) (option_map suc (place_among names q))) (or_none (bytes_eq name q) (length (first ∷ names)))
    go true e = refl
    go false e = ap (option_map suc) e ∙ more (place_among names q) (bytes_eq name q) (length names)

-- a name more, where it is new
pub more_places : (places places' : List (Bytes × ℕ)) (names : List Bytes) (name : Bytes) (n : ℕ) → ((q : Bytes) → lookup (bytes_eq q) places ≡ place_among names q) → n ≡ length names
    → places' ≡ (if is_some (lookup (bytes_eq name) places) then places else (places ++ (name, n) ∷ [])) → (q : Bytes) → lookup (bytes_eq q) places' ≡ place_among (names ++ name ∷ []) q
unfolding or_none
more_places places places' names name n h same e q = go (is_some (lookup (bytes_eq name) places)) refl e
  where
    there : (a : Option ℕ) (t : Bool) (m : ℕ) → (a ≡ None → t ≡ true → ⊥) → a ≡ first_from a (or_none t m)
    there (Some k) t m none = refl
    there None false m none = refl
    there None true m none = absurd (none refl refl)

    go : (t : Bool) → is_some (lookup (bytes_eq name) places) ≡ t → places' ≡ (if t then places else (places ++ (name, n) ∷ [])) → lookup (bytes_eq q) places' ≡ place_among (names ++ name ∷ []) q
    go false f e =
        ap (lookup (bytes_eq q)) e ∙ lookup_joined places name n q ∙ ap (λ z. first_from z (or_none (bytes_eq q name) n)) (h q)
        ∙ ap (λ t. first_from (place_among names q) (or_none t n)) (flip q name) ∙ ap (λ m. first_from (place_among names q) (or_none (bytes_eq name q) m)) same ∙ sym (place_joined names name q)
    go true f e =
        ap (lookup (bytes_eq q)) e ∙ h q
        ∙ there (place_among names q) (bytes_eq name q) (length names) (λ none is.
        let named : name ≡ q = (bytes_eq-Decides name q).0 is in
        true≢false (sym f ∙ ap is_some (ap (λ z. lookup (bytes_eq z) places) named ∙ h q ∙ none)))
        ∙ sym (place_joined names name q)

number_step : (kind : CellKind) (kinds : List CellKind) (q : Bytes) (t : Bool) (a : Option ℕ) (n : ℕ) → cond t (Some 0) (option_map suc a) ≡ Some n → ((m : ℕ) → a ≡ Some m → slice_get kinds m ≡ kind_named kinds q)
    → slice_get (kind ∷ kinds) n ≡ cond t (Some kind) (kind_named kinds q)
number_step kind kinds q true a zero e ih = refl
number_step kind kinds q true a (suc n) e ih = absurd cc
number_step kind kinds q false None n e ih = absurd cc
number_step kind kinds q false (Some m) zero e ih = absurd cc
number_step kind kinds q false (Some m) (suc n) e ih = ih n (let s : m ≡ n = cc in ap (λ k. Some k) s)

pub number_there : (kinds : List CellKind) (q : Bytes) (n : ℕ) → number_of kinds q ≡ Some n → slice_get kinds n ≡ kind_named kinds q
number_there [] q n e = absurd cc
number_there (kind ∷ kinds) q n e = number_step kind kinds q (bytes_eq kind.name q) (number_of kinds q) n e (λ m f. number_there kinds q m f)

none_step : (kind : CellKind) (kinds : List CellKind) (q : Bytes) (t : Bool) (a : Option ℕ) → cond t (Some 0) (option_map suc a) ≡ None → (a ≡ None → kind_named kinds q ≡ None) → cond t (Some kind) (kind_named kinds q) ≡ None
none_step kind kinds q true a e ih = absurd cc
none_step kind kinds q false None e ih = ih refl
none_step kind kinds q false (Some m) e ih = absurd cc

pub number_none : (kinds : List CellKind) (q : Bytes) → number_of kinds q ≡ None → kind_named kinds q ≡ None
number_none [] q e = refl
number_none (kind ∷ kinds) q e = none_step kind kinds q (bytes_eq kind.name q) (number_of kinds q) e (λ f. number_none kinds q f)

item_step : (kind : CellKind) (kinds : List CellKind) (q : Bytes) (t : Bool) (a : Option ℕ) (n : ℕ) (d : CellKind) → cond t (Some 0) (option_map suc a) ≡ Some n → ((m : ℕ) → a ≡ Some m → Some (get_or kinds m d) ≡ kind_named kinds q)
    → Some (get_or (kind ∷ kinds) n d) ≡ cond t (Some kind) (kind_named kinds q)
item_step kind kinds q true a zero d e ih = refl
item_step kind kinds q true a (suc n) d e ih = absurd cc
item_step kind kinds q false None n d e ih = absurd cc
item_step kind kinds q false (Some m) zero d e ih = absurd cc
item_step kind kinds q false (Some m) (suc n) d e ih = ih n (let s : m ≡ n = cc in ap (λ k. Some k) s)

pub number_item : (kinds : List CellKind) (q : Bytes) (n : ℕ) (d : CellKind) → number_of kinds q ≡ Some n → Some (get_or kinds n d) ≡ kind_named kinds q
number_item [] q n d e = absurd cc
number_item (kind ∷ kinds) q n d e = item_step kind kinds q (bytes_eq kind.name q) (number_of kinds q) n d e (λ m f. number_item kinds q m d f)

place_step : (t : Bool) (a : Option ℕ) (n m : ℕ) → cond t (Some 0) (option_map suc a) ≡ Some n → ((k : ℕ) → a ≡ Some k → k < m) → n < suc m
place_step true a zero m e ih = omega arith
place_step true a (suc n) m e ih = absurd cc
place_step false None n m e ih = absurd cc
place_step false (Some k) zero m e ih = absurd cc
place_step false (Some k) (suc n) m e ih = let less = ih k refl in let same : k ≡ n = cc in omega (arith, less, same)

pub place_within : (names : List Bytes) (q : Bytes) (n : ℕ) → place_among names q ≡ Some n → n < length names
place_within [] q n e = absurd cc
place_within (name ∷ names) q n e = place_step (bytes_eq name q) (place_among names q) n (length names) e (λ k f. place_within names q k f)

pub number_below : (kinds : List CellKind) (q : Bytes) (n : ℕ) → number_of kinds q ≡ Some n → n < length kinds
number_below kinds q n e = subst (λ m. n < m) (length-map kinds (λ (kind : CellKind). kind.name)) (place_within (map (λ kind. kind.name) kinds) q n e)

pub number_within : (kinds : List CellKind) (q : Bytes) (r : Option ℕ) → r ≡ number_of kinds q → IfSome r (λ n. n < length kinds)
number_within kinds q None e = tt
number_within kinds q (Some n) e = number_below kinds q n (sym e)

pub number_fits : (kinds : List CellKind) (q : Bytes) (r : Option ℕ) → r ≡ number_of kinds q → length kinds ≤ 1073741824 → IfSome r (λ n. n < 4294967296)
number_fits kinds q None e few = tt
number_fits kinds q (Some n) e few = let below = number_below kinds q n (sym e) in omega (arith, below, few)
