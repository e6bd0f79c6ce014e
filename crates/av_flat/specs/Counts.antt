-- How many words a tree has at a point (Wilde's domain rules, told by points; that a reduction and a pick have one
-- everywhere is this project's).
use Rattle.std.specs.Prelude.{ℕ, ◌+◌, ◌*◌, if◌then◌else◌, List}
use Rattle.av_affine.specs.Maps.{image}
use Rattle.av_poly.specs.Points.{Set}
use Rattle.av_tree.specs.Points.{Point}
use Rattle.av_flat.specs.Trees.{Tree, Trees, reference, constant, binary, choice, restriction, cases, dependence, reduction, pick, none, more}
use Rattle.av_flat.specs.Points.{has}
use Rattle.av_flat.specs.Signatures.{Signature, is_declared_at}

abbrev mutual
  pub count : List Signature → Tree → Point → ℕ
  count vs (reference place m) z = if is_declared_at vs place (image m.rows z) then 1 else 0
  count vs (constant n) z = 1
  count vs (binary s l r) z = count vs l z * count vs r z
  count vs (choice l c r x y) z = count vs l z * count vs r z * count vs x z * count vs y z
  count vs (restriction d t) z = if has d z then count vs t z else 0
  count vs (cases ts) z = count_all vs ts z
  count vs (dependence m t) z = count vs t (image m.rows z)
  count vs (reduction o m t set) z = 1
  count vs (pick place choices n) z = 1

  -- all branches together
  pub count_all : List Signature → Trees → Point → ℕ
  count_all vs none z = 0
  count_all vs (more t ts) z = count vs t z + count_all vs ts z

-- the count at a point of the set, and 0 elsewhere
abbrev pub count_inside : List Signature → Set → Tree → Point → ℕ
count_inside vs set t z = if has set z then count vs t z else 0
