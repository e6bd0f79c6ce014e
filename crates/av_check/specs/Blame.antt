-- The reference that is blamed for a tree's having no word at a point (this project's).
use Rattle.std.specs.Prelude.{ℕ, nat_eq, if◌then◌else◌, List, Option, Some, None, slice_get}
use Rattle.av_affine.specs.Maps.{image}
use Rattle.av_tree.specs.Trees.{Text}
use Rattle.av_tree.specs.Points.{Point}
use Rattle.av_flat.specs.Trees.{Tree, Trees, reference, constant, binary, choice, restriction, cases, dependence, reduction, pick, none, more}
use Rattle.av_flat.specs.Points.{has}
use Rattle.av_flat.specs.Signatures.{Signature, is_declared_at}
use Rattle.av_flat.specs.Counts.{count}

-- this point of the variable at this place is blamed
pub record Blamed : Type 0 where
  pub var : ℕ
  pub point : Point

-- the first's blame where it has no word, else the other's
abbrev pub where_none : ℕ → Option Blamed → Option Blamed → Option Blamed
where_none n blame other = if nat_eq n 0 then blame else other

-- the first's blame where it blames somebody, else the other's
abbrev pub or_else : Option Blamed → Option Blamed → Option Blamed
or_else None other = other
or_else (Some b) other = Some b

abbrev mutual
  pub blamed : List Signature → Tree → Point → Option Blamed
  blamed vs (reference place m) z = if is_declared_at vs place (image m.rows z) then None else Some (record { var = place; point = image m.rows z })
  blamed vs (constant n) z = None
  blamed vs (binary s l r) z = where_none (count vs l z) (blamed vs l z) (where_none (count vs r z) (blamed vs r z) None)
  blamed vs (choice l c r x y) z =
      where_none (count vs l z) (blamed vs l z)
      (where_none (count vs r z) (blamed vs r z) (where_none (count vs x z) (blamed vs x z) (where_none (count vs y z) (blamed vs y z) None)))
  blamed vs (restriction d t) z = if has d z then blamed vs t z else None
  blamed vs (cases ts) z = blamed_of_all vs ts z
  blamed vs (dependence m t) z = blamed vs t (image m.rows z)
  blamed vs (reduction o m t set) z = None
  blamed vs (pick place choices n) z = None

  -- the first branch that blames somebody
  pub blamed_of_all : List Signature → Trees → Point → Option Blamed
  blamed_of_all vs none z = None
  blamed_of_all vs (more t ts) z = or_else (blamed vs t z) (blamed_of_all vs ts z)

-- the point with the name of a variable
abbrev pub named_as : Option Signature → Point → Option (Text × Point)
named_as None z = None
named_as (Some v) z = Some (v.name, z)

-- the blame with the name of the variable
abbrev pub named : List Signature → Option Blamed → Option (Text × Point)
named vs None = None
named vs (Some b) = named_as (slice_get vs b.var) b.point
