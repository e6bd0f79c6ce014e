-- The parts of a tree are smaller than the tree.
use Rattle.std.proofs.Common.{◌≡◌, ℕ, ◌<◌, ◌+◌, ◌*◌, List, length, get_or, Box, Global, ap, arith}
use denote.Param.Weighed.{most, at_most}
use Rattle.av_base.specs.declared.word.Op.{Op}
use Rattle.av_affine.specs.declared.map.Map.{Map}
use Rattle.av_poly.specs.Points.{Set}
use Rattle.av_tree.specs.declared.sign.Sign.{Sign}
use Rattle.av_tree.specs.declared.relation.Relation.{Relation}
use Rattle.av_flat.specs.declared.tree.Tree.{Tree as TreeMade}
use Rattle.av_flat.specs.declared.tree.Tree.TheVariants as made
use Rattle.av_flat.specs.declared.tree.Tree.TheViews.{sized-Binary, sized-Choose, sized-Reduce, sized-Case}
use Rattle.av_flat.proofs.tree.Tree.TheLaws.{the_size}

-- a case is deeper than any of its branches
pub less_deep : (t : ℕ) (u : TreeMade) (ts slice : List TreeMade) → u ≡ made.Case ts → slice ≡ ts → 2 * the_size u + 0 ≡ t → 2 * most (λ x. the_size x) slice + 1 < t
less_deep t u ts slice is same d =
    let f = ap the_size is in
    let g = ap (λ xs. most (λ x. the_size x) xs) same in
    omega (arith, d, f, g, sized-Case ts)

pub branch_falls : (t : ℕ) (ts : List TreeMade) (i : ℕ) (x : TreeMade) → 2 * most (λ x. the_size x) ts + 1 ≡ t → i < length ts → x ≡ get_or ts i x → 2 * the_size x + 0 < t
branch_falls t ts i x d l e = let m = at_most (λ x. the_size x) ts i x l in let f = ap the_size e in omega (arith, d, m, f)

-- and any tree than each part of it
abbrev Boxed : Type 0
Boxed = Box TreeMade Global

module _ (t : ℕ) (e x : TreeMade) (d : 2 * the_size e + 0 ≡ t) where
  pub left_falls : (s : Sign) (l r : Boxed) → e ≡ made.Binary s l r → x ≡ l.value → 2 * the_size x + 1 < t
  left_falls s l r is same = let f = ap the_size is in let g = ap the_size same in let k = sized-Binary s l r in omega (arith, d, f, g, k)

  pub right_falls : (s : Sign) (l r : Boxed) → e ≡ made.Binary s l r → x ≡ r.value → 2 * the_size x + 1 < t
  right_falls s l r is same = let f = ap the_size is in let g = ap the_size same in let k = sized-Binary s l r in omega (arith, d, f, g, k)

  module _ (c : Relation) (l r y n : Boxed) (is : e ≡ made.Choose l c r y n) where
    pub first_falls : x ≡ l.value → 2 * the_size x + 1 < t
    first_falls same = let f = ap the_size is in let g = ap the_size same in let k = sized-Choose l c r y n in omega (arith, d, f, g, k)

    pub second_falls : x ≡ r.value → 2 * the_size x + 1 < t
    second_falls same = let f = ap the_size is in let g = ap the_size same in let k = sized-Choose l c r y n in omega (arith, d, f, g, k)

    pub third_falls : x ≡ y.value → 2 * the_size x + 1 < t
    third_falls same = let f = ap the_size is in let g = ap the_size same in let k = sized-Choose l c r y n in omega (arith, d, f, g, k)

    pub fourth_falls : x ≡ n.value → 2 * the_size x + 1 < t
    fourth_falls same = let f = ap the_size is in let g = ap the_size same in let k = sized-Choose l c r y n in omega (arith, d, f, g, k)

  pub body_falls : (o : Op) (m : Map) (b : Boxed) (set : Set) → e ≡ made.Reduce o m b set → x ≡ b.value → 2 * the_size x + 1 < t
  body_falls o m b set is same = let f = ap the_size is in let g = ap the_size same in let k = sized-Reduce o m b set in omega (arith, d, f, g, k)
