-- A table of widths, seen as ports.
use Rattle.std.proofs.Common.{◌≡◌, ℕ, Bool, true, false, cond, List, [], ◌∷◌, ◌++◌, map, Option, Some, None, refl, sym, ap, ◌∙◌, true≢false}
use Rattle.std.specs.Prelude.{◌||◌, is_some, if◌then◌else◌}
use Rattle.std.specs.Map.{lookup}
use Rattle.std.specs.Str.{bytes_eq}
use Rattle.std.proofs.lemmas.List.{map_push}
use Rattle.std.proofs.lemmas.Slice.Eq.{bytes_eq-Decides}
use Rattle.av_base.specs.declared.width.Width.{Width}
use Rattle.av_net.specs.declared.netlist.Port.{Port}
use Rattle.av_net.specs.Names.{names_of, width_in}
use Rattle.av_net.specs.Rows.{is_in}
use Rattle.av_vnames.specs.Scoped.{Bytes}

pub flip : (a b : List ℕ) → bytes_eq a b ≡ bytes_eq b a
flip a b = go (bytes_eq a b) (bytes_eq b a) refl refl
  where
    go : (t u : Bool) → bytes_eq a b ≡ t → bytes_eq b a ≡ u → t ≡ u
    go true true e f = refl
    go false false e f = refl
    go true false e f = absurd (true≢false (sym ((bytes_eq-Decides b a).1 (sym ((bytes_eq-Decides a b).0 e))) ∙ f))
    go false true e f = absurd (true≢false (sym ((bytes_eq-Decides a b).1 (sym ((bytes_eq-Decides b a).0 f))) ∙ e))

abbrev pub seen_as : Bytes × Width → Port
seen_as entry = record { name = entry.0; width = entry.1 }

in_table : (es : List (Bytes × Width)) (q : Bytes) → is_in (names_of (map seen_as es)) q ≡ is_some (lookup (bytes_eq q) es)
in_table [] q = refl
in_table (e ∷ es) q = go (bytes_eq q e.0) (in_table es q)
  where
    go : (t : Bool) → is_in (names_of (map seen_as es)) q ≡ is_some (lookup (bytes_eq q) es)
        → (t || is_in (names_of (map seen_as es)) q) ≡ is_some (cond t (Some e.1) (lookup (bytes_eq q) es))
    go true h = refl
    go false h = h

abbrev or_one : Option Width → ℕ
or_one None = 1
or_one (Some w) = w.bits

width_there : (es : List (Bytes × Width)) (q : Bytes) → width_in (map seen_as es) q ≡ or_one (lookup (bytes_eq q) es)
width_there [] q = refl
width_there (e ∷ es) q = ap (λ t. cond t e.1.bits (width_in (map seen_as es) q)) (flip e.0 q) ∙ go (bytes_eq q e.0) (width_there es q)
  where
    go : (t : Bool) → width_in (map seen_as es) q ≡ or_one (lookup (bytes_eq q) es)
        → cond t e.1.bits (width_in (map seen_as es) q) ≡ or_one (cond t (Some e.1) (lookup (bytes_eq q) es))
    go true h = refl
    go false h = h

-- what a look-up gave
pub bits_some : (es : List (Bytes × Width)) (ports : List Port) (key q : Bytes) (r : Option Width) (w : Width) → map seen_as es ≡ ports → r ≡ lookup (bytes_eq key) es → key ≡ q → r ≡ Some w
    → w.bits ≡ width_in ports q
bits_some es ports key q r w v e is f = ap or_one (sym f ∙ e) ∙ sym (width_there es key) ∙ ap (λ z. width_in z key) v ∙ ap (width_in ports) is

pub bits_none : (es : List (Bytes × Width)) (ports : List Port) (key q : Bytes) (r : Option Width) → map seen_as es ≡ ports → r ≡ lookup (bytes_eq key) es → key ≡ q → r ≡ None
    → 1 ≡ width_in ports q
bits_none es ports key q r v e is f = ap or_one (sym f ∙ e) ∙ sym (width_there es key) ∙ ap (λ z. width_in z key) v ∙ ap (width_in ports) is

-- a port more, where its name is new
pub put : (es es' : List (Bytes × Width)) (ports : List Port) (port : Port) (key : Bytes) → map seen_as es ≡ ports → key ≡ port.name
    → es' ≡ (if is_some (lookup (bytes_eq key) es) then es else (es ++ (key, port.width) ∷ [])) → map seen_as es' ≡ (if is_in (names_of ports) port.name then ports else (ports ++ port ∷ []))
put es es' ports port key v is e =
    let there : is_in (names_of ports) port.name ≡ is_some (lookup (bytes_eq key) es) = ap (is_in (names_of ports)) (sym is) ∙ ap (λ z. is_in (names_of z) key) (sym v) ∙ in_table es key in
    rw there (ap (map seen_as) e ∙ by (is_some (lookup (bytes_eq key) es)))
  where
    by : (t : Bool) → map seen_as (if t then es else (es ++ (key, port.width) ∷ [])) ≡ (if t then ports else (ports ++ port ∷ []))
    by true = v
    by false =
        let last : seen_as (key, port.width) ≡ port = ap (λ (n : Bytes). let p : Port = record { name = n; width = port.width } in p) is in
        map_push seen_as es (key, port.width) ∙ ap (λ z. z ++ seen_as (key, port.width) ∷ []) v ∙ ap (λ (p : Port). ports ++ p ∷ []) last
