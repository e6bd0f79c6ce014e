-- Cells sorted by what stands on them, one cell after another.
use Rattle.std.proofs.Common.{◌≡◌, ◌↔◌, ℕ, zero, suc, ◌+◌, ◌<◌, ◌⊎◌, inl, inr, List, [], ◌∷◌, ◌++◌, length, refl, sym, ap, subst, ◌∙◌, arith, Some, length-append}
use Rattle.std.specs.Prelude.{slice_get}
use Rattle.av_base.proofs.Lists.{get_cases, get_first, some_is, there_is}
use Rattle.av_space.proofs.Elements.{in_range}
use Rattle.av_build.specs.declared.blueprint.CellPlan.{CellPlan}
use Rattle.av_build.specs.declared.spots.SpotPlan.{SpotPlan}
use Rattle.av_build.specs.inner.Lanes.{HaveSamePieces, HasNoKind, IsKind, AreKindsOf}
use Rattle.av_build.proofs.Appended.{get_right}

-- ---- the same pieces

pub same_turned : (a b : List SpotPlan) → HaveSamePieces a b → HaveSamePieces b a
same_turned a b h = (sym h.0, λ k x y is_x is_y. let e = h.1 k y x is_y is_x in (sym e.0, sym e.1))

pub same_through : (a b c : List SpotPlan) → HaveSamePieces a b → HaveSamePieces b c → HaveSamePieces a c
same_through a b c h g = (
  h.0 ∙ g.0,
  λ k x z is_x is_z. (
      let size = h.0 in
      let low = in_range a k x is_x in
      let y = there_is b k (omega (arith, size, low)) in
      let e = h.1 k x y.0 is_x y.1 in
      let f = g.1 k y.0 z y.1 is_z in
      (e.0 ∙ f.0, e.1 ∙ f.1)),
)

-- up to a number
abbrev pub AreSameUpTo : List SpotPlan → List SpotPlan → ℕ → Type 0
AreSameUpTo a b n = (k : ℕ) (x y : SpotPlan) → k < n → slice_get a k ≡ Some x → slice_get b k ≡ Some y → (x.node.0 ≡ y.node.0) × (x.number ≡ y.number)

-- ---- kinds of the first n cells

pub record AreKindsTo (cells : List CellPlan) (firsts kinds : List ℕ) (n : ℕ) : Type 0 where
  pub one_each : length kinds ≡ n
  pub first_of : (k first : ℕ) → slice_get firsts k ≡ Some first → (first < n) × (slice_get kinds first ≡ Some k)
  pub same : (p j : ℕ) (x : CellPlan) → slice_get kinds p ≡ Some j → slice_get cells p ≡ Some x → IsKind cells firsts x j
  pub apart : (j k f g : ℕ) (x y : CellPlan) → slice_get firsts j ≡ Some f → slice_get firsts k ≡ Some g → slice_get cells f ≡ Some x → slice_get cells g ≡ Some y → HaveSamePieces x.pieces.spots y.pieces.spots → j ≡ k

pub no_kinds : (cells : List CellPlan) → AreKindsTo cells [] [] 0
no_kinds cells = record { one_each = refl; first_of = λ k first e. absurd cc; same = λ p j x e f. absurd cc; apart = λ j k f g x y a b c d e. absurd cc }

-- one behind others, or an earlier one
last_or : {X : Type 0} (xs : List X) (y z : X) (i : ℕ) → slice_get (xs ++ y ∷ []) i ≡ Some z → (slice_get xs i ≡ Some z) ⊎ ((i ≡ length xs) × (y ≡ z))
last_or {X} xs y z i e = elim (get_cases xs (y ∷ []) i z e) [
  | inl l ↦ inl l
  | inr b ↦ inr (at_end b.0 b.1 b.2)
]
  where
    at_end : (j : ℕ) → i ≡ length xs + j → slice_get (y ∷ []) j ≡ Some z → (i ≡ length xs) × (y ≡ z)
    at_end zero f g = (omega (arith, f), some_is y z g)
    at_end (suc j) f g = absurd cc

behind : {X : Type 0} (xs : List X) (y : X) (n : ℕ) → length xs ≡ n → slice_get (xs ++ y ∷ []) n ≡ Some y
behind {X} xs y n size = let e : length xs + 0 ≡ n = omega (arith, size) in subst (λ (k : ℕ). slice_get (xs ++ y ∷ []) k ≡ Some y) e (get_right xs (y ∷ []) 0 y refl)

module _ (cells : List CellPlan) (firsts kinds : List ℕ) (n : ℕ) (h : AreKindsTo cells firsts kinds n) (cell : CellPlan) (is_cell : slice_get cells n ≡ Some cell) where
  one_longer : (k : ℕ) → length (kinds ++ k ∷ []) ≡ n + 1
  one_longer k = let size = length-append kinds (k ∷ []) in let e = h.one_each in omega (arith, size, e)

  -- of a known kind
  pub known_kind : (k : ℕ) → IsKind cells firsts cell k → AreKindsTo cells firsts (kinds ++ k ∷ []) (n + 1)
  known_kind k is = record {
    one_each = one_longer k;
    first_of = λ j first e. (let f = h.first_of j first e in let l = f.0 in (omega (arith, l), get_first kinds (k ∷ []) first j f.1));
    same = λ p j x e f. (elim (last_or kinds k j p e) [
      | inl l ↦ h.same p j x l f
      | inr b ↦ (
          let size = h.one_each in
          let place : n ≡ p = (let g = b.0 in omega (arith, g, size)) in
          let here : cell ≡ x = some_is cell x (sym is_cell ∙ ap (λ (i : ℕ). slice_get cells i) place ∙ f) in
          subst (λ (i : ℕ). IsKind cells firsts x i) b.1 (subst (λ (y : CellPlan). IsKind cells firsts y k) here is))
    ]);
    apart = h.apart;
  }

  -- or the first one of a kind
  pub new_kind : HasNoKind cells firsts cell → AreKindsTo cells (firsts ++ n ∷ []) (kinds ++ length firsts ∷ []) (n + 1)
  new_kind none = record {
    one_each = one_longer (length firsts);
    first_of = λ j first e. (elim (last_or firsts n first j e) [
      | inl l ↦ (let f = h.first_of j first l in let low = f.0 in (omega (arith, low), get_first kinds (length firsts ∷ []) first j f.1))
      | inr b ↦ (
          let f = b.0 in
          let g = b.1 in
          let number : length firsts ≡ j = sym f in
          (omega (arith, g), subst (λ (i : ℕ). slice_get (kinds ++ length firsts ∷ []) first ≡ Some i) number (subst (λ (i : ℕ). slice_get (kinds ++ length firsts ∷ []) i ≡ Some (length firsts)) g (behind kinds (length firsts) n h.one_each))))
    ]);
    same = λ p j x e f. (elim (last_or kinds (length firsts) j p e) [
      | inl l ↦ (
          let is = h.same p j x l f in
          (is.0, is.1, get_first firsts (n ∷ []) j is.0 is.2, is.3, is.4))
      | inr b ↦ (
          let size = h.one_each in
          let place : n ≡ p = (let g = b.0 in omega (arith, g, size)) in
          let here : cell ≡ x = some_is cell x (sym is_cell ∙ ap (λ (i : ℕ). slice_get cells i) place ∙ f) in
          (n, cell, behind firsts n j b.1, is_cell, subst (λ (y : CellPlan). HaveSamePieces cell.pieces.spots y.pieces.spots) here (refl, λ k u v is_u is_v. let same = some_is u v (sym is_u ∙ is_v) in (ap (λ (s : SpotPlan). s.node.0) same, ap (λ (s : SpotPlan). s.number) same))))
    ]);
    apart = λ j k f g x y at_f at_g is_x is_y same. (elim (last_or firsts n f j at_f) [
      | inl l ↦ elim (last_or firsts n g k at_g) [
        | inl m ↦ h.apart j k f g x y l m is_x is_y same
        | inr b ↦ absurd (
            let here : cell ≡ y = some_is cell y (sym is_cell ∙ ap (λ (i : ℕ). slice_get cells i) b.1 ∙ is_y) in
            none j f x l is_x (subst (λ (z : CellPlan). HaveSamePieces x.pieces.spots z.pieces.spots) (sym here) same))
      ]
      | inr a ↦ elim (last_or firsts n g k at_g) [
        | inl m ↦ absurd (
            let here : cell ≡ x = some_is cell x (sym is_cell ∙ ap (λ (i : ℕ). slice_get cells i) a.1 ∙ is_x) in
            none k g y m is_y (same_turned cell.pieces.spots y.pieces.spots (subst (λ (z : CellPlan). HaveSamePieces z.pieces.spots y.pieces.spots) (sym here) same)))
        | inr b ↦ a.0 ∙ sym b.0
      ]
    ]);
  }

-- ---- all cells

pub kinds_are : (cells : List CellPlan) (firsts kinds : List ℕ) (n : ℕ) → n ≡ length cells → AreKindsTo cells firsts kinds n → AreKindsOf cells kinds
kinds_are cells firsts kinds n end h = record {
  one_each = h.one_each ∙ end;
  same = λ p q j k x y is_x is_y is_j is_k. (both p q j k x y is_x is_y is_j is_k);
  numbered = λ p k j is_k lt.
      let size = h.one_each in
      let x = there_is cells p (let r = in_range kinds p k is_k in omega (arith, r, size, end)) in
      let is = h.same p k x.0 is_k x.1 in
      let low = in_range firsts k is.0 is.2 in
      let first = there_is firsts j (omega (arith, low, lt)) in
      (first.0, (h.first_of j first.0 first.1).1);
}
  where
    both : (p q : ℕ) (j k : ℕ) (x y : CellPlan) → slice_get cells p ≡ Some x → slice_get cells q ≡ Some y → slice_get kinds p ≡ Some j → slice_get kinds q ≡ Some k → (j ≡ k) ↔ HaveSamePieces x.pieces.spots y.pieces.spots
    both p q j k x y is_x is_y is_j is_k =
        let a = h.same p j x is_j is_x in
        let b = h.same q k y is_k is_y in (
          (λ e. (
              let f : a.0 ≡ b.0 = some_is a.0 b.0 (sym a.2 ∙ ap (λ (i : ℕ). slice_get firsts i) e ∙ b.2) in
              let one : a.1 ≡ b.1 = some_is a.1 b.1 (sym a.3 ∙ ap (λ (i : ℕ). slice_get cells i) f ∙ b.3) in
              same_through x.pieces.spots a.1.pieces.spots y.pieces.spots (same_turned a.1.pieces.spots x.pieces.spots a.4) (subst (λ (z : CellPlan). HaveSamePieces z.pieces.spots y.pieces.spots) (sym one) b.4))),
          (λ same. h.apart j k a.0 b.0 a.1 b.1 a.2 b.2 a.3 b.3 (same_through a.1.pieces.spots x.pieces.spots b.1.pieces.spots a.4 (same_through x.pieces.spots y.pieces.spots b.1.pieces.spots same (same_turned b.1.pieces.spots y.pieces.spots b.4)))),
        )
