-- Tap sites that are alike have the same readings.
use Rattle.std.proofs.Common.{◌≡◌, ◌∙◌, ℕ, List, sym, ap, ap₂, subst}
use Rattle.std.specs.Prelude.{slice_get}
use Rattle.std.proofs.lemmas.List.Elements.{All-weaker}
use Rattle.av_affine.specs.declared.map.Map.{Map}
use Rattle.av_tree.specs.Points.{Point}
use Rattle.av_flat.specs.Helped.{before}
use Rattle.av_flat.specs.Trees.{Tree, Piece, FlatSystem, view_variable, reference, constant, binary, choice, restriction, cases, dependence, reduction, pick}
use Rattle.av_space.specs.declared.cells.Cell.{Cell}
use Rattle.av_space.specs.declared.linking.Consumer.{Consumer}
use Rattle.av_space.specs.declared.stretch.TapReading.{TapReading}
use Rattle.av_space.specs.Coordinates.{Placing}
use Rattle.av_space.specs.Taps.{Way, each, entries, handed, Tap, IsTapRead}
use Rattle.av_space.specs.inner.Alike.{AreAlike, AreOneReference, AreOneWay, IsReferenceBy}
use Rattle.av_space.specs.inner.Readings.{IsReadingAt, IsReadingOf, AreReadBy}
use Rattle.av_space.specs.inner.Scheduled.{Scheduled, system_of, placings_of, cells_of}

-- ---- references

one_tree_by : (place : ℕ) (m : Map) (u : Tree) → IsReferenceBy place m u → reference place m ≡ u
one_tree_by place m (reference q n) e = ap₂ reference e.0 e.1
one_tree_by place m (constant w) e = absurd e
one_tree_by place m (binary g l r) e = absurd e
one_tree_by place m (choice l c r x y) e = absurd e
one_tree_by place m (restriction d t) e = absurd e
one_tree_by place m (cases ts) e = absurd e
one_tree_by place m (dependence n t) e = absurd e
one_tree_by place m (reduction o n t set) e = absurd e
one_tree_by place m (pick q choices w) e = absurd e

one_tree : (t u : Tree) → AreOneReference t u → t ≡ u
one_tree (reference place m) u e = one_tree_by place m u e
one_tree (constant w) u e = absurd e
one_tree (binary g l r) u e = absurd e
one_tree (choice l c r x y) u e = absurd e
one_tree (restriction d t) u e = absurd e
one_tree (cases ts) u e = absurd e
one_tree (dependence m t) u e = absurd e
one_tree (reduction o m t set) u e = absurd e
one_tree (pick place choices w) u e = absurd e

-- ---- ways

one_way_read : (s : FlatSystem) (n : ℕ) (t : Tree) (piece : Piece) (z : Point) (k : ℕ) (y : Point) (a b : Way) → AreOneWay a b → IsTapRead s n t a piece z k y → IsTapRead s n t b piece z k y
one_way_read s n t piece z k y each each e r = r
one_way_read s n t piece z k y each (entries u) e r = absurd e
one_way_read s n t piece z k y each (handed i u) e r = absurd e
one_way_read s n t piece z k y (entries w) each e r = absurd e
one_way_read s n t piece z k y (entries w) (entries u) e r = subst (λ (x : Point). IsTapRead s n t (entries x) piece z k y) e r
one_way_read s n t piece z k y (entries w) (handed i u) e r = absurd e
one_way_read s n t piece z k y (handed h w) each e r = absurd e
one_way_read s n t piece z k y (handed h w) (entries u) e r = absurd e
one_way_read s n t piece z k y (handed h w) (handed i u) e r = (r.0, r.1 ∙ ap (before z) e, r.2)

one_way_turned : (a b : Way) → AreOneWay a b → AreOneWay b a
one_way_turned each each e = e
one_way_turned each (entries u) e = absurd e
one_way_turned each (handed i u) e = absurd e
one_way_turned (entries w) each e = absurd e
one_way_turned (entries w) (entries u) e = sym e
one_way_turned (entries w) (handed i u) e = absurd e
one_way_turned (handed h w) each e = absurd e
one_way_turned (handed h w) (entries u) e = absurd e
one_way_turned (handed h w) (handed i u) e = sym e

-- ---- readings

-- at a point, where the trees are one and the ways alike
read_alike : (s : FlatSystem) (placings : List Placing) (cells : List Cell) (n : ℕ) (t u : Tap) (piece : Piece) (z : Point) (c q d : ℕ) → t.place.tree ≡ u.place.tree → AreOneWay t.way u.way
    → IsReadingAt s placings cells n t piece z c q d → IsReadingAt s placings cells n u piece z c q d
read_alike s placings cells n t u piece z c q d tree way r = record {
  within = r.within;
  producer = r.producer;
  read = r.read;
  reads = one_way_read s n u.place.tree piece z r.producer r.read t.way u.way way (subst (λ (x : Tree). IsTapRead s n x t.way piece z r.producer r.read) tree r.reads);
  earlier = r.earlier;
  later = r.later;
  computed = r.computed;
}

pub alike_readings : (at : Scheduled) (c : Consumer) (t u : Tap) → AreAlike t u → (readings : List TapReading) → AreReadBy at c t readings → AreReadBy at c u readings
alike_readings at c t u alike readings h piece is_piece =
    let s = system_of at in
    let placings = placings_of at in
    let cells = cells_of at in
    let n = c.node.0 in
    let slots = c.slots.now in
    let tree = one_tree t.place.tree u.place.tree alike.2 in
    let g = h piece (ap (slice_get (view_variable c.var.now).pieces) alike.0 ∙ is_piece) in
    record {
      each = All-weaker (λ r. IsReadingOf s placings cells n t piece slots r.cycle r.producer.0 r.delay) (λ r. IsReadingOf s placings cells n u piece slots r.cycle r.producer.0 r.delay)
          (λ r i. record { point = i.point; is_slot = i.is_slot; is = read_alike s placings cells n t u piece i.point r.cycle r.producer.0 r.delay tree alike.1 i.is }) readings g.each;
      all = λ x q d i. g.all x q d (record { point = i.point; is_slot = i.is_slot; is = read_alike s placings cells n u t piece i.point x q d (sym tree) (one_way_turned t.way u.way alike.1) i.is });
      order = g.order;
    }
