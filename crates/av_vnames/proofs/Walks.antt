-- Going over lists item by item.
use Rattle.std.proofs.Common.{◌≡◌, ℕ, ◌+◌, ◌<◌, ◌≤◌, Bool, true, false, cond, List, [], ◌∷◌, ◌++◌, length, drop, get_or, Option, Some, None, refl, sym, ap, ◌∙◌, append_assoc, true≢false}
use Rattle.std.specs.Prelude.{◌||◌, if◌then◌else◌}
use Rattle.std.specs.List.{list_any}
use Rattle.std.specs.Str.{bytes_eq}
use Rattle.std.proofs.lemmas.List.{append-nil}
use Rattle.std.proofs.lemmas.Slice.Eq.{bytes_eq-Decides}
use Rattle.av_net.specs.declared.netlist.Port.{Port}
use Rattle.av_net.specs.Names.{names_of, width_in}
use Rattle.av_net.specs.Rows.{is_in, first_from}
use Rattle.av_vnames.specs.inner.Scoped.{width_found}
use Rattle.av_base.proofs.Lists.{next_item, nothing_left}

-- ---- a list that is made item by item

module _ {X Y : Type 0} (F : List X → List Y) (each : (x : X) (xs : List X) → F (x ∷ xs) ≡ F (x ∷ []) ++ F xs) where
  pub made_more : (made made' total : List Y) (xs : List X) (i : ℕ) (x : X) → made ++ F (drop i xs) ≡ total → i < length xs → x ≡ get_or xs i x → made' ≡ made ++ F (x ∷ [])
      → made' ++ F (drop (i + 1) xs) ≡ total
  made_more made made' total xs i x so lt at e =
      let rest : List X = drop (i + 1) xs in
      ap (λ z. z ++ F rest) e ∙ append_assoc made (F (x ∷ [])) (F rest) ∙ ap (λ z. made ++ z) (sym (each x rest)) ∙ ap (λ z. made ++ F z) (sym (next_item xs i x lt at)) ∙ so

  pub made_all : (made total : List Y) (xs : List X) (i : ℕ) → F [] ≡ [] → made ++ F (drop i xs) ≡ total → length xs ≤ i → made ≡ total
  made_all made total xs i none so h =
      sym (append-nil made) ∙ ap (λ z. made ++ z) (sym none) ∙ ap (λ z. made ++ F z) (sym (nothing_left xs i h)) ∙ so

-- ---- names of a list

any_or : {X : Type 0} (p : X → Bool) (xs ys : List X) → list_any p (xs ++ ys) ≡ (list_any p xs || list_any p ys)
any_or p [] ys = refl
any_or p (x ∷ xs) ys = go (p x) (any_or p xs ys)
  where
    go : (t : Bool) → list_any p (xs ++ ys) ≡ (list_any p xs || list_any p ys) → (t || list_any p (xs ++ ys)) ≡ ((t || list_any p xs) || list_any p ys)
    go true e = refl
    go false e = e

pub any_or_of : (q : List ℕ) (a b : List (List ℕ)) → is_in (a ++ b) q ≡ (is_in a q || is_in b q)
any_or_of q a b = any_or (bytes_eq q) a b

-- a name that is there already adds nothing
pub seen_already : (names rest : List (List ℕ)) (name q : List ℕ) → is_in names name ≡ true → is_in (names ++ rest) q ≡ is_in (names ++ (name ∷ rest)) q
seen_already names rest name q h = any_or (bytes_eq q) names rest ∙ go (bytes_eq q name) refl ∙ sym (any_or (bytes_eq q) names (name ∷ rest))
  where
    go : (t : Bool) → bytes_eq q name ≡ t → (is_in names q || is_in rest q) ≡ (is_in names q || (t || is_in rest q))
    go true e =
        let same : q ≡ name = (bytes_eq-Decides q name).0 e in
        let there : is_in names q ≡ true = ap (is_in names) same ∙ h in
        rw there refl
    go false e = refl

-- the names after one more
pub put_in : (names names' rest : List (List ℕ)) (name q : List ℕ) → names' ≡ (if is_in names name then names else (names ++ name ∷ [])) → is_in (names' ++ rest) q ≡ is_in (names ++ (name ∷ rest)) q
put_in names names' rest name q e = go (is_in names name) refl e
  where
    go : (t : Bool) → is_in names name ≡ t → names' ≡ (if t then names else (names ++ name ∷ [])) → is_in (names' ++ rest) q ≡ is_in (names ++ (name ∷ rest)) q
    go true h e = ap (λ z. is_in (z ++ rest) q) e ∙ seen_already names rest name q h
    go false h e = ap (λ z. is_in (z ++ rest) q) e ∙ ap (λ z. is_in z q) (append_assoc names (name ∷ []) rest)

-- ---- widths of a list

abbrev pub or_one : Option ℕ → ℕ
or_one None = 1
or_one (Some w) = w

pub width_or_one : (ports : List Port) (q : List ℕ) → width_in ports q ≡ or_one (width_found ports q)
width_or_one [] q = refl
width_or_one (port ∷ ports) q = go (bytes_eq port.name q) (width_or_one ports q)
  where
    go : (t : Bool) → width_in ports q ≡ or_one (width_found ports q) → cond t port.width.bits (width_in ports q) ≡ or_one (cond t (Some port.width.bits) (width_found ports q))
    go true e = refl
    go false e = e

pub found_or : (xs ys : List Port) (q : List ℕ) → width_found (xs ++ ys) q ≡ first_from (width_found xs q) (width_found ys q)
found_or [] ys q = refl
found_or (x ∷ xs) ys q = go (bytes_eq x.name q) (found_or xs ys q)
  where
    go : (t : Bool) → width_found (xs ++ ys) q ≡ first_from (width_found xs q) (width_found ys q)
        → cond t (Some x.width.bits) (width_found (xs ++ ys) q) ≡ first_from (cond t (Some x.width.bits) (width_found xs q)) (width_found ys q)
    go true e = refl
    go false e = e

-- as many ports more after either list
pub found_more : (xs ys zs : List Port) (q : List ℕ) → width_found xs q ≡ width_found ys q → width_found (xs ++ zs) q ≡ width_found (ys ++ zs) q
found_more xs ys zs q e = found_or xs zs q ∙ ap (λ w. first_from w (width_found zs q)) e ∙ sym (found_or ys zs q)

-- a name that is there has a width
has_width : (ports : List Port) (name : List ℕ) → is_in (names_of ports) name ≡ true → (w : ℕ) × (width_found ports name ≡ Some w)
has_width [] name h = absurd (true≢false (sym h))
has_width (port ∷ ports) name h = go (bytes_eq port.name name) refl (λ z. has_width ports name z)
  where
    go : (t : Bool) → bytes_eq port.name name ≡ t → (is_in (names_of ports) name ≡ true → (w : ℕ) × (width_found ports name ≡ Some w)) → (w : ℕ) × (cond t (Some port.width.bits) (width_found ports name) ≡ Some w)
    go true e ih = (port.width.bits, refl)
    go false e ih =
        let other : bytes_eq name port.name ≡ false = flip (bytes_eq name port.name) refl in
        ih (let z : (bytes_eq name port.name || is_in (names_of ports) name) ≡ true = h in rw other at z)
      where
        flip : (u : Bool) → bytes_eq name port.name ≡ u → u ≡ false
        flip true f = absurd (true≢false (sym ((bytes_eq-Decides port.name name).1 (sym ((bytes_eq-Decides name port.name).0 f))) ∙ e))
        flip false f = refl

-- the ports after one more
pub width_put : (ports ports' : List Port) (port : Port) (q : List ℕ) → ports' ≡ (if is_in (names_of ports) port.name then ports else (ports ++ port ∷ [])) → width_found ports' q ≡ width_found (ports ++ port ∷ []) q
width_put ports ports' port q e = go (is_in (names_of ports) port.name) refl e
  where
    go : (t : Bool) → is_in (names_of ports) port.name ≡ t → ports' ≡ (if t then ports else (ports ++ port ∷ [])) → width_found ports' q ≡ width_found (ports ++ port ∷ []) q
    go false h e = ap (λ z. width_found z q) e
    go true h e = ap (λ z. width_found z q) e ∙ same (bytes_eq port.name q) refl ∙ sym (found_or ports (port ∷ []) q)
      where
        same : (t : Bool) → bytes_eq port.name q ≡ t → width_found ports q ≡ first_from (width_found ports q) (cond t (Some port.width.bits) None)
        same true f =
            let is : port.name ≡ q = (bytes_eq-Decides port.name q).0 f in
            let w = has_width ports port.name h in
            let there : width_found ports q ≡ Some w.0 = ap (width_found ports) (sym is) ∙ w.1 in
            rw there refl
        same false f = by (width_found ports q)
          where
            by : (x : Option ℕ) → x ≡ first_from x None
            by None = refl
            by (Some w) = refl
