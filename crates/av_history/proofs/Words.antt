-- The word of a plain tree with helpers is given by the words of the places that read.
use Rattle.std.proofs.Common.{◌≡◌, ℕ, suc, ◌+◌, List, [], ◌∷◌, length, refl, ◌∙◌, subst, arith, inl, inr, Option, Some}
use Rattle.std.specs.Prelude.{IsTrue, slice_get}
use Rattle.av_tree.specs.Points.{Point}
use Rattle.av_flat.specs.Trees.{Tree, Piece, reference, constant, binary, choice, pick}
use Rattle.av_flat.specs.Points.{has}
use Rattle.av_flat.specs.Values.{Scene}
use Rattle.av_flat.specs.Broadcasts.{references}
use Rattle.av_flat.specs.Helped.{PointWords, HasHelped, IsOfPiece}
use Rattle.av_kinds.specs.Programs.{site_count}
use Rattle.av_kinds.specs.Histories.{value_by}
use Rattle.av_history.specs.Places.{EachPlace}

pub place_weaker : (R Q : ℕ → ℕ → Tree → Type 0) → ((k i : ℕ) (t : Tree) → R k i t → Q k i t) → (s n : ℕ) (t : Tree) → EachPlace R s n t → EachPlace Q s n t
place_weaker R Q f s n (reference place m) h = f s n (reference place m) h
place_weaker R Q f s n (constant k) h = tt
place_weaker R Q f s n (binary g l r) h = (place_weaker R Q f s n l h.0, place_weaker R Q f (s + site_count l) (n + length (references l)) r h.1)
place_weaker R Q f s n (choice l c r x y) h = (
  place_weaker R Q f s n l h.0,
  place_weaker R Q f (s + site_count l) (n + length (references l)) r h.1,
  place_weaker R Q f (s + site_count l + site_count r) (n + length (references l) + length (references r)) x h.2,
  place_weaker R Q f (s + site_count l + site_count r + site_count x) (n + length (references l) + length (references r) + length (references x)) y h.3,
)
place_weaker R Q f s n (pick place choices k) h = f s n (pick place choices k) h
place_weaker R Q f s n _ h = absurd h

pub place_both : (R Q : ℕ → ℕ → Tree → Type 0) → (s n : ℕ) (t : Tree) → EachPlace R s n t → EachPlace Q s n t → EachPlace (λ k i t. R k i t × Q k i t) s n t
place_both R Q s n (reference place m) h g = (h, g)
place_both R Q s n (constant k) h g = tt
place_both R Q s n (binary o l r) h g = (place_both R Q s n l h.0 g.0, place_both R Q (s + site_count l) (n + length (references l)) r h.1 g.1)
place_both R Q s n (choice l c r x y) h g = (
  place_both R Q s n l h.0 g.0,
  place_both R Q (s + site_count l) (n + length (references l)) r h.1 g.1,
  place_both R Q (s + site_count l + site_count r) (n + length (references l) + length (references r)) x h.2 g.2,
  place_both R Q (s + site_count l + site_count r + site_count x) (n + length (references l) + length (references r) + length (references x)) y h.3 g.3,
)
place_both R Q s n (pick place choices k) h g = (h, g)
place_both R Q s n _ h g = absurd h

pub value_is : (i : Scene) (g : ℕ → Option PointWords) (z : Point) (words : ℕ → ℕ) (s n : ℕ) (t : Tree) → EachPlace (λ k m t. (w : ℕ) → HasHelped i g m t z w → w ≡ words k) s n t → (w : ℕ) → HasHelped i g n t z w → w ≡ value_by i.width words s t
value_is i g z words s n (reference place m) each w h = each w h
value_is i g z words s n (constant k) each w h = h
value_is i g z words s n (binary o l r) each w h =
    let a = value_is i g z words s n l each.0 h.left h.left_has in
    let b = value_is i g z words (s + site_count l) (n + length (references l)) r each.1 h.right h.right_has in
    h.is ∙ rw (a, b) refl
value_is i g z words s n (choice l c r x y) each w h =
    let a = value_is i g z words s n l each.0 h.left h.left_has in
    let b = value_is i g z words (s + site_count l) (n + length (references l)) r each.1 h.right h.right_has in
    let d = value_is i g z words (s + site_count l + site_count r) (n + length (references l) + length (references r)) x each.2 h.first h.first_has in
    let e = value_is i g z words (s + site_count l + site_count r + site_count x) (n + length (references l) + length (references r) + length (references x)) y each.3 h.second h.second_has in
    h.is ∙ rw (a, b, d, e) refl
value_is i g z words s n (pick place choices k) each w h = each w h
value_is i g z words s n _ each w h = absurd each

-- the word of the pieces is that of the one that holds the point
pub piece_value : (i : Scene) (g : ℕ → ℕ → Option PointWords) (z : Point) (number : ℕ) (t : Tree) (w j : ℕ) (pieces : List Piece)
    → ((k : ℕ) (piece : Piece) → slice_get pieces k ≡ Some piece → IsTrue (has piece.domain z) → (j + k ≡ number) × (piece.tree ≡ t)) → IsOfPiece i g j pieces z w → HasHelped i (g number) 0 t z w
piece_value i g z number t w j [] one h = absurd h
piece_value i g z number t w j (piece ∷ pieces) one h = elim h [
  | inl here ↦ (let o = one 0 piece refl here.0 in
      let e : j ≡ number = omega (arith, o.0) in
      subst (λ k. HasHelped i (g k) 0 t z w) e (subst (λ (u : Tree). HasHelped i (g j) 0 u z w) o.1 here.1))
  | inr later ↦ piece_value i g z number t w (suc j) pieces (λ k q at inside. let o = one (suc k) q at inside in (omega (arith, o.0), o.1)) later
]
