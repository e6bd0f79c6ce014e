-- Pieces at small systems: their order, maps that are composed, sets of reductions.
use Rattle.std.proofs.Common.{◌≡◌, ℕ, pos, negsuc, [], ◌∷◌, map, refl}
use Rattle.av_base.specs.declared.word.Op.TheVariants as op
use Rattle.av_tree.specs.declared.sign.Sign.TheVariants as sign
use Rattle.av_flat.specs.Trees.{Tree, reference, constant, binary, restriction, cases, dependence, reduction, none, more}
use Rattle.av_flat.specs.Signatures.{signature, signatures}
use Rattle.av_flat.specs.Pieces.{part, parts, filled, pieces_of, holding}
use Rattle.av_flat.specs.Quantities.{piece_count, composed_maps, body_sets}
use Rattle.av_flat.proofs.Examples.{form, i, j, set, mapping, product, s, step, two_points, onto_first, read}

-- two branches plus two branches: the first operand is the slowest
abbrev two : ℕ → ℕ → Tree
two a b = cases (more (constant a) (more (constant b) none))

in_order : map (λ p. p.tree) (parts [] [] (binary sign.Add (two 1 2) (two 3 4)))
    ≡ binary sign.Add (constant 1) (constant 3) ∷ binary sign.Add (constant 1) (constant 4) ∷ binary sign.Add (constant 2) (constant 3) ∷ binary sign.Add (constant 2) (constant 4) ∷ []
in_order = refl

four_pieces : piece_count (binary sign.Add (two 1 2) (two 3 4)) ≡ 4
four_pieces = refl

-- the pieces of the partial sums
trees_of_sums : map (λ p. p.tree) (pieces_of (signatures product) s) ≡ constant 0 ∷ step ∷ []
trees_of_sums = refl

second_holds : holding (pos 2 ∷ pos 1 ∷ []) (pieces_of (signatures product) s) ≡ 1
second_holds = refl

none_holds : holding (pos 3 ∷ pos 1 ∷ []) (pieces_of (signatures product) s) ≡ 0
none_holds = refl

-- ({i | i>=1} : X.(i -> i+2)).(i -> 2i), where X has the points 0 and 1
abbrev moved : Tree
moved = dependence (mapping 1 (form (pos 2) (pos 0) (pos 0) ∷ [])) (restriction (set 1 (form (pos 1) (pos 0) (negsuc 0) ∷ [])) (reference 0 (mapping 1 (form (pos 1) (pos 0) (pos 2) ∷ []))))

composed_away : parts (signature two_points ∷ []) [] moved
    ≡ part (form (pos 2) (pos 0) (negsuc 0) ∷ form (pos 2) (pos 0) (pos 2) ∷ form (negsuc 1) (pos 0) (negsuc 0) ∷ []) (reference 0 (mapping 1 (form (pos 2) (pos 0) (pos 2) ∷ []))) ∷ []
composed_away = refl

-- the restriction stands under one dependence, which is not composed; the reference's map is
one_composed : composed_maps [] moved ≡ mapping 1 (form (pos 2) (pos 0) (pos 2) ∷ []) ∷ []
one_composed = refl

-- reduce(min, (i,j -> i), X[j]) where i<=2 holds of the holder: the set has that row at i, and those of X at j
filled_set : body_sets (filled (form (negsuc 0) (pos 0) (pos 2) ∷ []) (reduction op.Min onto_first read (set 2 (i ∷ []))))
    ≡ set 2 (form (negsuc 0) (pos 0) (pos 2) ∷ i ∷ []) ∷ []
filled_set = refl

body_rows : map (λ p. body_sets p.tree) (parts (signature two_points ∷ []) [] (reduction op.Min onto_first read (set 2 [])))
    ≡ (set 2 (j ∷ form (pos 0) (negsuc 0) (pos 1) ∷ []) ∷ []) ∷ []
body_rows = refl
