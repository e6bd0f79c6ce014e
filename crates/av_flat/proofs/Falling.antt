-- The parts of a tree are smaller than the tree.
use Rattle.std.proofs.Common.{◌≡◌, ℕ, ◌<◌, Box, Global, ap, arith}
use Rattle.av_tree.specs.declared.sign.Sign.{Sign}
use Rattle.av_tree.specs.declared.relation.Relation.{Relation}
use Rattle.av_flat.specs.declared.tree.Tree.{Tree as TreeMade}
use Rattle.av_flat.specs.declared.tree.Tree.TheVariants as made
use Rattle.av_flat.specs.declared.tree.Tree.TheViews.{sized-Binary, sized-Choose}
use Rattle.av_flat.proofs.tree.Tree.TheLaws.{the_size}

abbrev Boxed : Type 0
Boxed = Box TreeMade Global

module _ (t : ℕ) (e x : TreeMade) (d : the_size e ≡ t) where
  pub left_falls : (s : Sign) (l r : Boxed) → e ≡ made.Binary s l r → x ≡ l.value → the_size x < t
  left_falls s l r is same = let f = ap the_size is in let g = ap the_size same in let k = sized-Binary s l r in omega (arith, d, f, g, k)

  pub right_falls : (s : Sign) (l r : Boxed) → e ≡ made.Binary s l r → x ≡ r.value → the_size x < t
  right_falls s l r is same = let f = ap the_size is in let g = ap the_size same in let k = sized-Binary s l r in omega (arith, d, f, g, k)

  module _ (c : Relation) (l r y n : Boxed) (is : e ≡ made.Choose l c r y n) where
    pub first_falls : x ≡ l.value → the_size x < t
    first_falls same = let f = ap the_size is in let g = ap the_size same in let k = sized-Choose l c r y n in omega (arith, d, f, g, k)

    pub second_falls : x ≡ r.value → the_size x < t
    second_falls same = let f = ap the_size is in let g = ap the_size same in let k = sized-Choose l c r y n in omega (arith, d, f, g, k)

    pub third_falls : x ≡ y.value → the_size x < t
    third_falls same = let f = ap the_size is in let g = ap the_size same in let k = sized-Choose l c r y n in omega (arith, d, f, g, k)

    pub fourth_falls : x ≡ n.value → the_size x < t
    fourth_falls same = let f = ap the_size is in let g = ap the_size same in let k = sized-Choose l c r y n in omega (arith, d, f, g, k)
