-- Going over lists item by item.
use Rattle.std.proofs.Common.{◌≡◌, ℕ, ◌+◌, ◌<◌, ◌≤◌, List, [], ◌∷◌, length, drop, get_or, Option, Some, None, sym, ap, ◌∙◌}
use Rattle.av_base.proofs.Lists.{next_item, nothing_left}

-- ---- the first answer of a list

module _ {X Y : Type 0} (F : List X → Option Y) where
  pub here : (total : Option Y) (xs : List X) (i : ℕ) (x : X) (y : Y) → F (drop i xs) ≡ total → i < length xs → x ≡ get_or xs i x → F (x ∷ drop (i + 1) xs) ≡ Some y → Some y ≡ total
  here total xs i x y so lt at e = sym e ∙ ap F (sym (next_item xs i x lt at)) ∙ so

  pub later : (total : Option Y) (xs : List X) (i : ℕ) (x : X) → F (drop i xs) ≡ total → i < length xs → x ≡ get_or xs i x → F (x ∷ drop (i + 1) xs) ≡ F (drop (i + 1) xs) → F (drop (i + 1) xs) ≡ total
  later total xs i x so lt at e = sym e ∙ ap F (sym (next_item xs i x lt at)) ∙ so

  pub nowhere : (total : Option Y) (xs : List X) (i : ℕ) → F (drop i xs) ≡ total → length xs ≤ i → F [] ≡ None → None ≡ total
  nowhere total xs i so h e = sym e ∙ ap F (sym (nothing_left xs i h)) ∙ so
