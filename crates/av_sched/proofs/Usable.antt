-- The edges of a system are usable under vectors of the nodes' dimensions with small entries.
use Rattle.std.proofs.Common.{◌≡◌, ℕ, ◌+◌, ◌<◌, Option, Some, IsTrue, List, [], length, get_or, refl, sym, ap, subst, ◌∙◌, arith, zero-add, All, Any}
use Rattle.std.specs.Prelude.{Contains, slice_get}
use Rattle.std.specs.Option.{option_map}
use Rattle.std.proofs.lemmas.Option.{slice_get-map, slice_get_within}
use Rattle.std.proofs.lemmas.List.Elements.{All-contains, All-filter, Contains-get_or}
use Rattle.av_affine.specs.declared.map.Map.{Map}
use Rattle.av_affine.specs.Numbers.{dot}
use Rattle.av_affine.specs.Maps.{image}
use Rattle.av_tree.specs.Points.{Point}
use Rattle.av_flat.specs.Trees.{Variable, FlatSystem}
use Rattle.av_flat.specs.Points.{has}
use Rattle.av_flat.specs.Signatures.{Signature, signature, signatures, domain_has}
use Rattle.av_flat.specs.WellFormed.{Fits, dimension_of}
use Rattle.av_flat.specs.Proper.{IsProper}
use Rattle.av_flat.specs.Chained.{IsChained, IsChainedVariable, IsChainedPiece}
use Rattle.av_flat.specs.Nodes.{is_node, nodes, number_at}
use Rattle.av_flat.proofs.Sets.{has_is}
use Rattle.av_flat.proofs.Solving.{read_declared}
use Rattle.av_flat.proofs.Cycles.{node_at, is_node_with}
use Rattle.av_depend.specs.declared.edge.Edge.{Edge}
use Rattle.av_depend.specs.Sites.{sites_in, sites}
use Rattle.av_depend.specs.Edges.{AreEdgesOf}
use Rattle.av_base.proofs.Among.{from_flat_map}
use Rattle.av_depend.proofs.Covering.{read_of_site}
use Rattle.av_depend.proofs.Pairs.{at_node, site_of_edge, small_site}
use Rattle.av_depend.proofs.Generators.{dot_mid, little_listed}
use Rattle.av_flat.proofs.Bounded.{small_point}
use Rattle.av_depend.proofs.Small.{small_map}
use Rattle.av_sched.specs.Offsets.{part, AreVectors}
use Rattle.av_sched.specs.Leads.{IsSmallPart, IsSmallMap, IsUsableAs, IsUsable}
use Rattle.av_base.proofs.Lists.{all_at}

small_part : (s : FlatSystem) (linear : List Point) (n : ℕ) (v : Variable) → AreVectors s 4 linear → IsChainedVariable s v → slice_get (nodes s) n ≡ Some v → IsSmallPart (length (part linear n)) (part linear n)
small_part s linear n v vectors chained e = record {
  size = refl;
  few = (let a = vectors.sizes n v e in let b = chained.indices in omega (arith, a, b));
  entries = vectors.entries n (slice_get_within (nodes s) n v e);
}

same_some : (a b : ℕ) → ◌≡◌ {A = Option ℕ} (Some a) (Some b) → a ≡ b
same_some a b h = cc

some_listed : {P : Point → Type 0} (points : List Point) → Any P points → 0 < length points
some_listed points (i, p, l, e, h) = omega (arith, l)

pub usable_edge : (s : FlatSystem) (edges : List Edge) (linear : List Point) (e : Edge) → IsChained s → IsProper s → AreEdgesOf s edges → AreVectors s 4 linear → Contains edges e → IsUsable linear e
usable_edge s edges linear e chained proper are vectors among =
    let vs = signatures s in
    let r = site_of_edge s (sites s) edges e are among in
    let site = r.site in
    let n = at_node 0 (nodes s) site r.among in
    let p = from_flat_map (λ p. sites_in (0 + n.number) p.domain p.tree) n.variable.pieces site n.own in
    let v = all_at (IsChainedVariable s) (nodes s) n.number n.variable (All-filter is_node (IsChainedVariable s) s.variables chained.each) n.is in
    let piece = All-contains (IsChainedPiece vs n.variable) n.variable.pieces p.0 v.pieces p.1 in
    let fits : Fits vs p.0.domain.dim p.0.tree = subst (λ (k : ℕ). Fits vs k p.0.tree) (sym piece.dimension) piece.tree.fits in
    let at = λ (z : Point) (h : IsTrue (has site.set z)). read_of_site vs (0 + n.number) p.0.domain p.0.tree z site fits piece.tree.apart p.2 h in
    let m = small_map vs n.variable.domain.dim (0 + n.number) p.0.domain p.0.tree site piece.tree.fits piece.tree.rows p.2 in
    let first = at r.pair.point r.pair.reads in
    let u = r.pair.producer in
    let y = image site.map.rows r.pair.point in
    let signed : slice_get vs site.place ≡ Some (signature u) = slice_get-map signature s.variables site.place ∙ ap (option_map signature) r.pair.is_producer in
    let declared : IsTrue (domain_has (slice_get vs site.place) y) = read_declared vs p.0.domain p.0.tree r.pair.point site.place y piece.reads first.within first.read in
    let within : IsTrue (has u.domain y) = subst (λ (o : Option Signature). IsTrue (domain_has o y)) signed declared in
    let q = number_at s site.place in
    let other : slice_get (nodes s) q ≡ Some u = node_at is_node s.variables site.place u r.pair.is_producer (is_node_with s proper site.place u y r.pair.is_producer r.pair.computed within) in
    let w = all_at (IsChainedVariable s) s.variables site.place u chained.each r.pair.is_producer in
    let consumer_is : e.consumer ≡ n.number = r.is.consumer ∙ first.node ∙ zero-add n.number in
    let reader_size = vectors.sizes n.number n.variable n.is in
    let read_size = vectors.sizes q u other in
    let results : u.domain.dim ≡ length site.map.rows = same_some u.domain.dim (length site.map.rows) (ap dimension_of (sym signed) ∙ m.leads.results) in
    let one_each = vectors.one_each in
    let small_site_here = small_site s site chained r.among in
    let small : IsUsableAs linear n.number q e = record {
      consumer_within = (let l = slice_get_within (nodes s) n.number n.variable n.is in omega (arith, l, one_each));
      producer_within = (let l = slice_get_within (nodes s) q u other in omega (arith, l, one_each));
      reader = small_part s linear n.number n.variable vectors v n.is;
      read = small_part s linear q u vectors w other;
      map = subst (λ (f : Map). IsSmallMap (length (part linear n.number)) (length (part linear q)) f) (sym r.is.map) (record { from = m.leads.from ∙ sym reader_size; results = sym results ∙ sym read_size; rows = m.rows });
      some = some_listed e.points (little_listed (dot []) site.set 4095 small_site_here.size e.points (dot_mid []) small_site_here.small r.is.points r.pair.point r.pair.reads);
      points = λ k d l.
          let z = get_or e.points k d in
          let h = at z (r.is.points.each k d l).is_point in
          let own = (has_is n.variable.domain z).0 (piece.within z h.within) in
          record { size = own.dimension ∙ sym reader_size; entries = small_point n.variable.domain v.bounded z own };
    } in
    subst (λ (i : ℕ). IsUsableAs linear i e.producer e) (sym consumer_is) (subst (λ (j : ℕ). IsUsableAs linear n.number j e) (sym r.is.producer) small)

pub usable : (s : FlatSystem) (edges : List Edge) (linear : List Point) → IsChained s → IsProper s → AreEdgesOf s edges → AreVectors s 4 linear → All (IsUsable linear) edges
usable s edges linear chained proper are vectors = λ k d l. usable_edge s edges linear (get_or edges k d) chained proper are vectors (Contains-get_or edges k d l)
