-- The cells that links come from.
use Rattle.std.proofs.Common.{◌≡◌, ℕ, ◌<◌, length, ap, arith, Option, Some, None}
use Rattle.std.proofs.lemmas.List.Elements.{All-contains}
use Rattle.av_tree.specs.Points.{Point}
use Rattle.av_flat.specs.Trees.{Tree, reference, constant, binary, choice, restriction, cases, dependence, reduction, pick}
use Rattle.av_flat.specs.Values.{picked}
use Rattle.av_space.specs.declared.array.Array.{Array as ArrayMade}
use Rattle.av_space.specs.declared.layout.Slot.{Slot}
use Rattle.av_space.specs.declared.numbers.CellNumber.{CellNumber}
use Rattle.av_space.specs.declared.origin.Origin.{Origin}
use Rattle.av_space.specs.declared.origin.Origin.TheVariants as origin
use Rattle.av_space.specs.declared.spots.Spot.{Spot as SpotMade}
use Rattle.av_space.specs.Links.{IsStretch}
use Rattle.av_space.specs.Spots.{system_of, helpers_of, placings_of, cells_of, IsArray, IsLinkedBy, over_link, IsPickOrigin, IsOriginBy, own_way}
use Rattle.av_flat.specs.Sites.{Place}
use Rattle.av_space.specs.Taps.{Pipeline, each, Tap}
use Rattle.av_space.proofs.Elements.{in_range}

pub producer_in : (w : ArrayMade) → IsArray w → (at : SpotMade) (c : ℕ) (tap : Tap) (q d : ℕ) → IsLinkedBy w at c tap q d → q < length (cells_of w)
producer_in w is at c tap q d l =
    let stretch = All-contains (IsStretch (system_of w) (helpers_of w) (placings_of w) (cells_of w)) w.cells.now.links l.link is.links.each l.is_link in
    let computed = stretch.begins.computed in
    let low = in_range (cells_of w) l.link.producer computed.cell computed.is_cell in
    let e = l.producer_is in
    omega (arith, low, e)

abbrev cell_in : Origin → ℕ
cell_in (origin.Value q d) = q.0
cell_in _ = 0

module _ (w : ArrayMade) (is : IsArray w) (at : SpotMade) (t : Slot) (p : Place) (h : Option Pipeline) (q : CellNumber) (d : ℕ) where
  by_pick : (place n : ℕ) (o : Option Point) → IsPickOrigin w at t.cycle p place n o (origin.Value q d) → q.0 < length (cells_of w)
  by_pick place n None e = absurd cc
  by_pick place n (Some y) (a, b, read, is_read, node, l, e) =
      let same : q.0 ≡ a.0 = ap cell_in e in
      let low = producer_in w is at t.cycle (record { place = p; way = each }) a.0 b l in
      omega (arith, same, low)

  pub value_in : (u : Tree) → IsOriginBy w at t p h u (origin.Value q d) → q.0 < length (cells_of w)
  value_in (reference place m) (over_link a b read is_read node l) = producer_in w is at t.cycle (record { place = record { piece = at.number; site = p.site; tree = reference place m }; way = own_way h }) q.0 d l
  value_in (pick place choices n) o = by_pick place n (picked choices t.point) o
  value_in (constant n) o = absurd o
  value_in (binary g l r) o = absurd o
  value_in (choice l k r x y) o = absurd o
  value_in (restriction b u) o = absurd o
  value_in (cases ts) o = absurd o
  value_in (dependence m u) o = absurd o
  value_in (reduction g m u set) o = absurd o
