-- Sums and products of numbers that are capped at the greatest of 128 bits, and the pieces of equations.
use Rattle.std.proofs.Common.{◌≡◌, ℕ, ◌+◌, ◌-◌, ◌*◌, ◌^◌, min, List, [], ◌∷◌, map, refl, ap, arith, ◌∙◌}
use Rattle.std.proofs.lemmas.Grind.{common_steps}
use Rattle.av_flat.specs.Trees.{Piece, Variable, restriction, trees_of, right_side}
use Rattle.av_flat.specs.Quantities.{piece_count, piece_count_of_all}
use Rattle.av_normal.specs.inner.Counted.{pieces_counted}

pub capped_product : (a b : ℕ) → min (min a (2 ^ 128 - 1) * min b (2 ^ 128 - 1)) (2 ^ 128 - 1) ≡ min (a * b) (2 ^ 128 - 1)
capped_product a b = grind (arith, common_steps)

-- a product of four
pub capped_four : (l r x y pl pr px py a b d : ℕ) → pl ≡ min l (2 ^ 128 - 1) → pr ≡ min r (2 ^ 128 - 1) → px ≡ min x (2 ^ 128 - 1) → py ≡ min y (2 ^ 128 - 1)
    → a ≡ min (pl * pr) (2 ^ 128 - 1) → b ≡ min (a * px) (2 ^ 128 - 1) → d ≡ min (b * py) (2 ^ 128 - 1) → d ≡ min (l * r * x * y) (2 ^ 128 - 1)
capped_four l r x y pl pr px py a b d el er ex ey ea eb ed =
    let first : a ≡ min (l * r) (2 ^ 128 - 1) = ea ∙ rw (el, er) (capped_product l r) in
    let second : b ≡ min (l * r * x) (2 ^ 128 - 1) = eb ∙ rw (first, ex) (capped_product (l * r) x) in
    ed ∙ rw (second, ey) (capped_product (l * r * x) y)

pub counted_right_side : (v : Variable) → piece_count (right_side v) ≡ pieces_counted v.pieces
counted_right_side v = go v.pieces
  where
    go : (ps : List Piece) → piece_count_of_all (trees_of (map (λ p. restriction p.domain p.tree) ps)) ≡ pieces_counted ps
    go [] = refl
    go (p ∷ ps) = ap (λ n. piece_count p.tree + n) (go ps)
