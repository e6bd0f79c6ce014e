-- Offsets of a system are solutions of the arcs of its edges.
use Rattle.std.proofs.Common.{◌≡◌, ℕ, zero, suc, ◌<◌, ℤ, pos, ◌+ℤ◌, ◌-ℤ◌, ◌≤ℤ◌, List, [], ◌∷◌, length, get_or, refl, sym, ap, subst, ◌∙◌, arith, All, Any}
use Rattle.std.specs.Prelude.{Contains}
use Rattle.std.specs.List.{AllZip}
use Rattle.std.proofs.lemmas.Int.{ints}
use Rattle.std.proofs.lemmas.Option.{slice_get_within}
use Rattle.std.proofs.lemmas.List.Elements.{All-contains}
use Rattle.av_affine.specs.Numbers.{dot}
use Rattle.av_affine.specs.declared.map.Map.{Map}
use Rattle.av_affine.specs.Maps.{image}
use Rattle.av_tree.specs.Points.{Point}
use Rattle.av_flat.specs.Trees.{FlatSystem}
use Rattle.av_flat.specs.Chained.{IsChained}
use Rattle.av_flat.specs.Nodes.{nodes, IsComputation}
use Rattle.av_depend.specs.declared.edge.Edge.{Edge}
use Rattle.av_depend.specs.Edges.{AreEdgesOf}
use Rattle.av_depend.proofs.Generators.{IsMidValued, dot_mid, image_middle}
use Rattle.av_depend.proofs.Pairs.{covered_by, listed}
use Rattle.av_sched.specs.declared.arc.Arc.{Arc}
use Rattle.av_sched.specs.Arcs.{at, IsLate, Solves, IsLeastSolution, IsArc}
use Rattle.av_sched.specs.Leads.{lead, IsArcOf, AreStarts, IsUsable}
use Rattle.av_sched.specs.Offsets.{part, AreOffsets, AreLeastOffsets}

pub record IsArcIn (linear : List Point) (edges : List Edge) (arc : Arc) : Type 0 where
  pub edge : Edge
  pub among : Contains edges edge
  pub is : IsArcOf linear edge arc

no_edge_arc : (e : Edge) (xs : List Edge) (k : ℕ) → k < length xs → get_or xs k e ≡ get_or xs k (get_or xs k e)
no_edge_arc e [] k h = absurd (omega (arith, h))
no_edge_arc e (x ∷ xs) zero h = refl
no_edge_arc e (x ∷ xs) (suc k) h = no_edge_arc e xs k (omega (arith, h))

-- an arc comes of an edge
pub arc_in : (linear : List Point) (edges : List Edge) (arcs : List Arc) (k : ℕ) (d : Arc) → AllZip (IsArcOf linear) edges arcs → k < length arcs → IsArcIn linear edges (get_or arcs k d)
arc_in linear [] [] k d h l = absurd (omega (arith, l))
arc_in linear [] (a ∷ arcs) k d h l = absurd h
arc_in linear (e ∷ edges) [] k d h l = absurd h
arc_in linear (e ∷ edges) (a ∷ arcs) zero d h l = record { edge = e; among = (0, omega arith, refl); is = h.0 }
arc_in linear (e ∷ edges) (a ∷ arcs) (suc k) d h l =
    let r = arc_in linear edges arcs k d h.1 (omega (arith, l)) in record { edge = r.edge; among = (suc r.among.0, (let m = r.among.1 in omega (arith, m)), r.among.2); is = r.is }

-- as many arcs as edges
pub arcs_length : (linear : List Point) (edges : List Edge) (arcs : List Arc) → AllZip (IsArcOf linear) edges arcs → length edges ≡ length arcs
arcs_length linear [] [] h = refl
arcs_length linear [] (a ∷ arcs) h = absurd h
arcs_length linear (e ∷ edges) [] h = absurd h
arcs_length linear (e ∷ edges) (a ∷ arcs) h = ap suc (arcs_length linear edges arcs h.1)

-- the lead is affine
pub lead_mid : (a b : Point) (m : Map) → IsMidValued (lead a b m)
lead_mid a b m x y z h =
    let p = dot_mid a x y z h in
    let q = dot_mid b (image m.rows x) (image m.rows y) (image m.rows z) (image_middle m.rows x y z h) in
    omega (arith, ints, p, q)

-- the arc asks for no more than the lead leaves at each point at which it is no less than at a listed one
pub arc_below : (linear : List Point) (e : Edge) (arc : Arc) → IsArcOf linear e arc → (z : Point)
    → Any (λ p. lead (part linear e.consumer) (part linear e.producer) e.map p ≤ℤ lead (part linear e.consumer) (part linear e.producer) e.map z) e.points
    → (pos 1 -ℤ arc.weight) ≤ℤ lead (part linear e.consumer) (part linear e.producer) e.map z
arc_below linear e arc is z (i, p, l, at, less) =
    let own = subst (λ (q : Point). (pos 1 -ℤ arc.weight) ≤ℤ lead (part linear e.consumer) (part linear e.producer) e.map q) at (is.weight.below i p l) in
    omega (arith, ints, own, less)

pub record HasArc (linear : List Point) (e : Edge) (arcs : List Arc) : Type 0 where
  pub arc : Arc
  pub among : Contains arcs arc
  pub is : IsArcOf linear e arc

-- an edge gives an arc
pub arc_from : (linear : List Point) (edges : List Edge) (arcs : List Arc) (k : ℕ) (e : Edge) → AllZip (IsArcOf linear) edges arcs → k < length edges → get_or edges k e ≡ e → HasArc linear e arcs
arc_from linear [] arcs k e h l q = absurd (omega (arith, l))
arc_from linear (f ∷ edges) [] k e h l q = absurd h
arc_from linear (f ∷ edges) (a ∷ arcs) zero e h l q = record { arc = a; among = (0, omega arith, refl); is = subst (λ (g : Edge). IsArcOf linear g a) q h.0 }
arc_from linear (f ∷ edges) (a ∷ arcs) (suc k) e h l q =
    let r = arc_from linear edges arcs k e h.1 (omega (arith, l)) q in record { arc = r.arc; among = (suc r.among.0, (let m = r.among.1 in omega (arith, m)), r.among.2); is = r.is }

module _ (s : FlatSystem) (edges : List Edge) (arcs : List Arc) (linear : List Point) (low : List ℤ) (chained : IsChained s) (are_edges : AreEdgesOf s edges)
    (are_arcs : AllZip (IsArcOf linear) edges arcs) (starts : AreStarts s linear low) where
  pub to_arcs : (off : List ℤ) → AreOffsets s linear off → Solves arcs low off
  to_arcs off h = record {
    size = h.one_each ∙ sym starts.one_each;
    above = λ n l.
        let i = starts.each n (let z = starts.one_each in omega (arith, z, l)) in
        let t = i.taken in
        let b = h.start n i.point i.is_point in
        omega (arith, ints, t, b);
    late = λ k d l. let r = arc_in linear edges arcs k d are_arcs l in late_arc (get_or arcs k d) r;
  }
    where
      late_arc : (arc : Arc) → IsArcIn linear edges arc → IsLate off arc
      late_arc arc r =
          let e = r.edge in
          let (i, z, l, is, t) = r.is.weight.taken in
          let pair = listed s edges e z chained are_edges r.among (i, l, is) in
          let later = h.later e.consumer z e.producer (image e.map.rows z) pair in
          let own : (at off e.producer +ℤ arc.weight) ≤ℤ at off e.consumer = omega (arith, ints, later, t) in
          let moved = subst (λ (k : ℕ). (at off k +ℤ arc.weight) ≤ℤ at off e.consumer) (sym r.is.read) own in
          subst (λ (k : ℕ). (at off arc.read +ℤ arc.weight) ≤ℤ at off k) (sym r.is.reader) moved

  pub from_arcs : (off : List ℤ) → Solves arcs low off → AreOffsets s linear off
  from_arcs off h = record {
    one_each = h.size ∙ starts.one_each;
    start = λ n z c.
        let l : n < length (nodes s) = below n z c in
        let i = starts.each n l in
        let b = i.none_below z c in
        let a = h.above n (let q = starts.one_each in omega (arith, q, l)) in
        omega (arith, ints, a, b);
    later = λ n z k y pair.
        let c = covered_by s edges n z k y chained are_edges pair in
        let e = c.edge in
        let r = arc_from linear edges arcs c.among.0 e are_arcs c.among.1 c.among.2 in
        let lead_below = arc_below linear e r.arc r.is z (c.least (lead (part linear e.consumer) (part linear e.producer) e.map) (lead_mid (part linear e.consumer) (part linear e.producer) e.map)) in
        let late = h.late r.among.0 r.arc r.among.1 in
        let late1 = subst (λ (a : Arc). IsLate off a) r.among.2 late in
        let late2 = subst (λ (j : ℕ). (at off j +ℤ r.arc.weight) ≤ℤ at off r.arc.reader) (r.is.read ∙ c.producer) late1 in
        let late3 = subst (λ (j : ℕ). (at off k +ℤ r.arc.weight) ≤ℤ at off j) (r.is.reader ∙ c.consumer) late2 in
        let w1 = subst (λ (j : ℕ). (pos 1 -ℤ r.arc.weight) ≤ℤ lead (part linear j) (part linear e.producer) e.map z) c.consumer lead_below in
        let w2 = subst (λ (j : ℕ). (pos 1 -ℤ r.arc.weight) ≤ℤ lead (part linear n) (part linear j) e.map z) c.producer w1 in
        let w3 : (pos 1 -ℤ r.arc.weight) ≤ℤ (dot (part linear n) z -ℤ dot (part linear k) y) = subst (λ (p : Point). (pos 1 -ℤ r.arc.weight) ≤ℤ (dot (part linear n) z -ℤ dot (part linear k) p)) (sym c.image_is) w2 in
        omega (arith, ints, late3, w3);
  }
    where
      below : (n : ℕ) (z : Point) → IsComputation s n z → n < length (nodes s)
      below n z c = slice_get_within (nodes s) n c.variable c.is

  -- the least solution is the least offsets
  pub least_offsets : (off : List ℤ) → IsLeastSolution arcs low off → AreLeastOffsets s linear off
  least_offsets off h = record {
    are = from_arcs off h.solves;
    least = λ others o n l. h.least others (to_arcs others o) n (let q = starts.one_each in omega (arith, q, l));
  }

  pub no_offsets : ((x : List ℤ) → Solves arcs low x → ⊥) → (off : List ℤ) → AreOffsets s linear off → ⊥
  no_offsets none off h = none off (to_arcs off h)

-- ---- arcs within bounds

pub arcs_fit : (linear : List Point) (edges : List Edge) (arcs : List Arc) (n : ℕ) → length linear ≡ n → All (IsUsable linear) edges → AllZip (IsArcOf linear) edges arcs → All (IsArc n) arcs
arcs_fit linear edges arcs n size usable h = λ k d l.
    let r = arc_in linear edges arcs k d h l in
    let u = All-contains (IsUsable linear) edges r.edge usable r.among in
    let reader = u.consumer_within in
    let read = u.producer_within in
    let a = r.is.reader in
    let b = r.is.read in
    record { reader = omega (arith, reader, a, size); read = omega (arith, read, b, size); weight = r.is.small }
