-- A tree has one word at a point, and only where its count is 1.
use Rattle.std.proofs.Common.{◌≡◌, ℕ, ◌≤◌, Option, Some, None, inl, inr, refl, sym, arith, ◌∙◌}
use Rattle.av_affine.specs.Maps.{image}
use Rattle.av_tree.specs.Points.{Point}
use Rattle.av_tree.proofs.Fibres.{IsOnce, folded_once}
use Rattle.av_tree.proofs.Words.{combined_once, chosen_once, if_true, product_one, too_many}
use Rattle.av_flat.specs.Trees.{Tree, Trees, reference, constant, binary, choice, restriction, cases, dependence, reduction, pick, none, more}
use Rattle.av_flat.specs.Points.{point_over}
use Rattle.av_flat.specs.Counts.{count, count_all}
use Rattle.av_flat.specs.Values.{Scene, HasValue, IsOfBranch, IsWordAt, HasPicked, picked}

-- ---- a word only where the count is 1

pub value_counted : (s : Scene) (t : Tree) (z : Point) (w : ℕ) → HasValue s t z w → count s.variables t z ≡ 1
value_counted s (reference place m) z w p = if_true _ _ p.declared refl
value_counted s (constant n) z w p = refl
value_counted s (binary g l r) z w p = product_one _ _ (value_counted s l z p.left p.left_has) (value_counted s r z p.right p.right_has)
value_counted s (choice l c r x y) z w p =
    let sides = product_one _ _ (value_counted s l z p.left p.left_has) (value_counted s r z p.right p.right_has) in
    product_one _ _ (product_one _ _ sides (value_counted s x z p.first p.first_has)) (value_counted s y z p.second p.second_has)
value_counted s (restriction d t) z w p = if_true _ _ p.0 (value_counted s t z w p.1)
value_counted s (cases ts) z w p = p.0
value_counted s (dependence m t) z w p = value_counted s t (image m.rows z) w p
value_counted s (reduction o m t set) z w p = refl
value_counted s (pick place choices n) z w p = refl

-- ---- one word

-- of these numbers one is not 0
branch_counted : (s : Scene) (ts : Trees) (z : Point) (w : ℕ) → IsOfBranch s ts z w → 1 ≤ count_all s.variables ts z
branch_counted s none z w p = absurd p
branch_counted s (more t ts) z w (inl p) = let h = value_counted s t z w p in omega arith
branch_counted s (more t ts) z w (inr p) = let h = branch_counted s ts z w p in omega arith

word_once : (s : Scene) (place : ℕ) (z : Point) → IsOnce (IsWordAt s place z)
word_once s place z a b p q = let e = p.has in let h = q.has in cc

picked_once : (s : Scene) (place n : ℕ) (o : Option Point) → IsOnce (HasPicked s place n o)
picked_once s place n None a b p q = p ∙ sym q
picked_once s place n (Some z) a b p q = word_once s place z a b p q

mutual
  pub value_once : (s : Scene) (t : Tree) (z : Point) → IsOnce (HasValue s t z)
  value_once s (reference place m) z a b p q = word_once s place (image m.rows z) a b p q
  value_once s (constant n) z a b p q = p ∙ sym q
  value_once s (binary g l r) z a b p q = combined_once _ _ _ (value_once s l z) (value_once s r z) a b p q
  value_once s (choice l c r x y) z a b p q = chosen_once _ _ _ _ _ (value_once s l z) (value_once s r z) (value_once s x z) (value_once s y z) a b p q
  value_once s (restriction d t) z a b p q = value_once s t z a b p.1 q.1
  value_once s (cases ts) z a b p q = branch_once s ts z (omega (arith, p.0)) a b p.1 q.1
  value_once s (dependence m t) z a b p q = value_once s t (image m.rows z) a b p q
  value_once s (reduction o m t set) z a b p q = folded_once _ _ _ (λ k. value_once s t (point_over m z k)) a b p q
  value_once s (pick place choices n) z a b p q = picked_once s place n (picked choices z) a b p q

  branch_once : (s : Scene) (ts : Trees) (z : Point) → count_all s.variables ts z ≤ 1 → IsOnce (IsOfBranch s ts z)
  branch_once s none z most a b p q = absurd p
  branch_once s (more t ts) z most a b (inl p) (inl q) = value_once s t z a b p q
  branch_once s (more t ts) z most a b (inl p) (inr q) = absurd (too_many _ _ (value_counted s t z a p) (branch_counted s ts z b q) most)
  branch_once s (more t ts) z most a b (inr p) (inl q) = absurd (too_many _ _ (value_counted s t z b q) (branch_counted s ts z a p) most)
  branch_once s (more t ts) z most a b (inr p) (inr q) = branch_once s ts z (omega (arith, most)) a b p q
