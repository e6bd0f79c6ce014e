-- A tree distributed into pieces without case, restriction and dependence (after Mauras 1989 and Wilde's reports, where
-- expressions are brought to a normal form; the order of the pieces is this project's).
use Rattle.std.specs.Prelude.{ℕ, List, [], ◌∷◌, ◌++◌, map, Option, Some, None, slice_get, ◌+◌, ◌⊎◌, IsTrue, if◌then◌else◌}
use Rattle.std.specs.List.{flat_map, list_all}
use Rattle.av_affine.specs.declared.form.Form.{Form}
use Rattle.av_affine.specs.declared.map.Map.{Map}
use Rattle.av_affine.specs.Maps.{composition}
use Rattle.av_poly.specs.Preimages.{rows_before}
use Rattle.av_tree.specs.Points.{Point}
use Rattle.av_flat.specs.Trees.{Tree, Trees, Variable, reference, constant, binary, choice, restriction, cases, dependence, reduction, pick, none, more, right_side}
use Rattle.av_flat.specs.Points.{holds}
use Rattle.av_flat.specs.Signatures.{Signature}
use Rattle.av_flat.specs.Values.{Scene, HasValue}

-- where the rows hold, the tree stands for the whole
pub record Part : Type 0 where
  pub rows : List Form
  pub tree : Tree

abbrev pub part : List Form → Tree → Part
part rows tree = record { rows = rows; tree = tree }

abbrev pub rows_of : Option Signature → List Form
rows_of None = []
rows_of (Some v) = v.domain.rows

-- ---- under dependences, the innermost first

-- first the outer dependences, then the inner ones, then the map
abbrev pub composed : Map → List Map → Map
composed m [] = m
composed m (d ∷ ds) = composed (composition m d) ds

-- rows taken at the image
abbrev pub rows_under : List Map → List Form → List Form
rows_under [] rows = rows
rows_under (d ∷ ds) rows = rows_before (composed d ds) rows

-- ---- distribution

-- a part of each, the first one slowest
abbrev pub in_pairs : (Tree → Tree → Tree) → List Part → List Part → List Part
in_pairs f ps qs = flat_map (λ p. map (λ q. part (p.rows ++ q.rows) (f p.tree q.tree)) qs) ps

abbrev pub in_fours : (Tree → Tree → Tree → Tree → Tree) → List Part → List Part → List Part → List Part → List Part
in_fours f ps qs rs ss =
    flat_map (λ p. flat_map (λ q. flat_map (λ r. map (λ s. part (p.rows ++ q.rows ++ r.rows ++ s.rows) (f p.tree q.tree r.tree s.tree)) ss) rs) qs) ps

abbrev pub with_rows : List Form → List Part → List Part
with_rows rows ps = map (λ p. part (rows ++ p.rows) p.tree) ps

abbrev pub first_part : List Part → Part
first_part [] = part [] (cases none)
first_part (p ∷ ps) = p

abbrev mutual
  -- of a reduction, the set has the rows of the body; those of what holds the reduction are not among them yet
  pub parts : List Signature → List Map → Tree → List Part
  parts vs ds (reference place m) = part (rows_before (composed m ds) (rows_of (slice_get vs place))) (reference place (composed m ds)) ∷ []
  parts vs ds (constant n) = part [] (constant n) ∷ []
  parts vs ds (binary s l r) = in_pairs (binary s) (parts vs ds l) (parts vs ds r)
  parts vs ds (choice l c r x y) = in_fours (λ p q. choice p c q) (parts vs ds l) (parts vs ds r) (parts vs ds x) (parts vs ds y)
  parts vs ds (restriction d t) = with_rows (rows_under ds d.rows) (parts vs ds t)
  parts vs ds (cases ts) = parts_of_all vs ds ts
  parts vs ds (dependence m t) = parts vs (m ∷ ds) t
  parts vs ds (reduction o m t set) =
      let body = first_part (parts vs [] t) in part [] (reduction o m body.tree (record { dim = m.from; rows = set.rows ++ body.rows })) ∷ []
  parts vs ds (pick place choices n) = part [] (pick place choices n) ∷ []

  pub parts_of_all : List Signature → List Map → Trees → List Part
  parts_of_all vs ds none = []
  parts_of_all vs ds (more t ts) = parts vs ds t ++ parts_of_all vs ds ts

-- the number of parts whose rows hold at the point
abbrev pub one_where : Point → List Form → ℕ
one_where z rows = if list_all (holds z) rows then 1 else 0

abbrev pub holding : Point → List Part → ℕ
holding z [] = 0
holding z (p ∷ ps) = one_where z p.rows + holding z ps

-- one of the parts whose rows hold at the point has this word
abbrev pub IsOfPart : Scene → Point → List Part → ℕ → Type 0
IsOfPart s z [] w = ⊥
IsOfPart s z (p ∷ ps) w = (IsTrue (list_all (holds z) p.rows) × HasValue s p.tree z w) ⊎ IsOfPart s z ps w

-- ---- sets of reductions

-- the tree with the rows of its holder in the set of each reduction, at the kept indices
abbrev pub filled : List Form → Tree → Tree
filled rows (binary s l r) = binary s (filled rows l) (filled rows r)
filled rows (choice l c r x y) = choice (filled rows l) c (filled rows r) (filled rows x) (filled rows y)
filled rows (reduction o m t set) =
    let inner = rows_before m rows ++ set.rows in reduction o m (filled inner t) (record { dim = set.dim; rows = inner })
filled rows t = t

-- the pieces of a variable before any is dropped: the rows of its declared domain are in each
abbrev pub pieces_of : List Signature → Variable → List Part
pieces_of vs v = map (λ p. part (v.domain.rows ++ p.rows) (filled (v.domain.rows ++ p.rows) p.tree)) (parts vs [] (right_side v))
