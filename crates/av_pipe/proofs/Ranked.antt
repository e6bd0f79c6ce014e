-- What is computed stands behind what it is computed from: in a later cycle, or in the same at a higher rank.
use Rattle.std.proofs.Common.{◌≡◌, ℕ, zero, suc, ℤ, pos, ◌+ℤ◌, ◌≤ℤ◌, ◌<◌, ◌⊎◌, inl, inr, IsTrue, Some, ◌++◌, slice_get, refl, sym, ap, subst, ◌∙◌, arith}
use Rattle.std.proofs.lemmas.Int.{ints}
use Rattle.std.proofs.lemmas.List.Elements.{recursion_from_All}
use Rattle.av_affine.specs.Maps.{image}
use Rattle.av_tree.specs.Points.{Point}
use Rattle.av_flat.specs.declared.timed.Time.{Time}
use Rattle.av_flat.specs.declared.timed.Helper.{Helper}
use Rattle.av_flat.specs.declared.timed.Timed.{Timed}
use Rattle.av_flat.specs.Trees.{Tree, Piece, Variable, FlatSystem, view_system, reference, constant, binary, choice, restriction, cases, dependence, reduction, pick}
use Rattle.av_flat.specs.Points.{has}
use Rattle.av_flat.specs.Nodes.{is_node, number_at}
use Rattle.av_flat.specs.Reads.{IsRead, IsPair}
use Rattle.av_flat.specs.Schedules.{cycle}
use Rattle.av_flat.specs.Broadcasts.{Reference, references}
use Rattle.av_flat.specs.Helped.{before}
use Rattle.av_flat.specs.Legal.{IsMoving, IsLegal}
use Rattle.av_pipe.specs.Ranks.{Computed, of_node, of_helper, StandsIn, IsHelperAt, IsReference, NeedsWord}
use Rattle.av_pipe.proofs.Piped.{filtered_at, later, variable_at, node_is}
use Rattle.av_base.proofs.Among.{among_at}
use Rattle.av_base.proofs.Lists.{each_at, get_cases, some_is}

-- a reference is read at each point
pub read_of : (t : Tree) (i : ℕ) (r : Reference) (z : Point) → slice_get (references t) i ≡ Some r → IsRead t z r.place (image r.map.rows z)
read_of (reference place m) zero r z e = let same : record { place = place; map = m } ≡ r = some_is (record { place = place; map = m }) r e in
    (sym (ap (λ (x : Reference). x.place) same), ap (λ (x : Reference). image x.map.rows z) (sym same))
read_of (reference place m) (suc i) r z e = absurd cc
read_of (constant k) i r z e = absurd cc
read_of (binary s l q) i r z e = elim (get_cases (references l) (references q) i r e) [
  | inl k ↦ inl (read_of l i r z k)
  | inr k ↦ inr (read_of q k.0 r z k.2)
]
read_of (choice l c q x y) i r z e = elim (get_cases (references l ++ references q ++ references x) (references y) i r e) [
  | inl k ↦ elim (get_cases (references l ++ references q) (references x) i r k) [
    | inl a ↦ elim (get_cases (references l) (references q) i r a) [
      | inl b ↦ inl (read_of l i r z b)
      | inr b ↦ inr (inl (read_of q b.0 r z b.2))
    ]
    | inr a ↦ inr (inr (inl (read_of x a.0 r z a.2)))
  ]
  | inr k ↦ inr (inr (inr (read_of y k.0 r z k.2)))
]
read_of (restriction d t) i r z e = absurd cc
read_of (cases ts) i r z e = absurd cc
read_of (dependence m t) i r z e = absurd cc
read_of (reduction o m t inner) i r z e = absurd cc
read_of (pick place choices k) i r z e = absurd cc

module _ (t : Timed) (legal : IsLegal t) where
  abbrev own : FlatSystem
  own = view_system t.flat

  abbrev Behind : ℤ → ℕ → ℤ → ℕ → Type 0
  Behind c i d j = ((d +ℤ pos 1) ≤ℤ c) ⊎ ((d ≡ c) × (j < i))

  same_time : (n : ℕ) (a b : Time) → slice_get t.times n ≡ Some a → slice_get t.times n ≡ Some b → a ≡ b
  same_time n a b p q = some_is a b (sym p ∙ q)

  moving : (j : ℕ) (h : Helper) → slice_get t.helpers j ≡ Some h → IsMoving own t.times h
  moving j h e = each_at (IsMoving own t.times) t.helpers j h (recursion_from_All (IsMoving own t.times) t.helpers legal.helpers) e

  -- a helper's reference is a pair of its node
  pair_of : (j : ℕ) (z : Point) (a : IsHelperAt t j z) (k : ℕ) (y : Point) → IsReference t a.helper a.piece z k y → IsPair own (number_at own a.helper.var) z k y
  pair_of j z a k y r = record {
    reader = a.variable;
    is_reader = filtered_at is_node own.variables a.helper.var a.variable a.is_variable
        (node_is own t.times legal.chained legal.schedule a.variable a.helper.piece a.piece (variable_at own t.times legal.chained legal.schedule a.helper.var a.variable a.is_variable) a.is_piece);
    place = r.reference.place;
    reads = record {
      piece = a.piece;
      among = among_at a.variable.pieces a.helper.piece a.piece a.is_piece;
      within = a.within;
      read = subst (λ (x : Point). IsRead a.piece.tree z r.reference.place x) (sym r.point) (read_of a.piece.tree a.helper.site r.reference z r.is_reference);
    };
    producer = r.producer;
    is_producer = r.is_producer;
    computed = r.computed;
    number = r.number;
  }

  pub needs_come_first : (a b : Computed) (c d : ℤ) (i j : ℕ) → NeedsWord t a b → StandsIn t a c i → StandsIn t b d j → Behind c i d j
  needs_come_first (of_node n z) (of_node k y) c d i j need (u, eu, ec, ei) (v, ev, ed, ej) =
      let l = legal.schedule.later n z k y u v need eu ev in inl (omega (arith, ints, l, ec, ed))
  needs_come_first (of_node n z) (of_helper k y) c d i j (a, en, ey) (u, eu, ec, ei) (h, v, eh, ev, ed, ej) =
      let same : a.helper ≡ h = some_is a.helper h (sym a.is ∙ ap (λ (m : ℕ). slice_get t.helpers m) refl ∙ eh) in
      let there : slice_get t.times (number_at own h.var) ≡ Some u = ap (λ (m : ℕ). slice_get t.times m) (sym (en ∙ ap (λ (x : Helper). number_at own x.var) same)) ∙ eu in
      let time : v ≡ u = same_time (number_at own h.var) v u ev there in
      let cycles : d ≡ c = ed ∙ ap (λ (x : Time). cycle x y) time ∙ ap (λ (x : Point). cycle u x) ey ∙ sym ec in
      inr (cycles, omega (arith, ei, ej))
  needs_come_first (of_helper k z) (of_helper m y) c d i j (a, em, ey, here) (g, u, eg, eu, ec, ei) (h, v, eh, ev, ed, ej) =
      let w = moving k a.helper a.is in
      let first : a.helper ≡ g = some_is a.helper g (sym a.is ∙ eg) in
      let second : a.helper ≡ h = some_is a.helper h (sym a.is ∙ ap (λ (x : ℕ). slice_get t.helpers x) (sym em) ∙ eh) in
      let tu : u ≡ w.time = same_time (number_at own a.helper.var) u w.time (ap (λ (x : Helper). slice_get t.times (number_at own x.var)) first ∙ eu) w.is_time in
      let tv : v ≡ w.time = same_time (number_at own a.helper.var) v w.time (ap (λ (x : Helper). slice_get t.times (number_at own x.var)) second ∙ ev) w.is_time in
      let variable : w.variable ≡ a.variable = some_is w.variable a.variable (sym w.is ∙ a.is_variable) in
      let piece : w.piece ≡ a.piece = some_is w.piece a.piece (sym w.is_piece ∙ ap (λ (x : Variable). slice_get x.pieces a.helper.piece) variable ∙ a.is_piece) in
      let l : (cycle w.time (before z a.helper.direction) +ℤ pos 1) ≤ℤ cycle w.time z =
      later own t.times legal.chained legal.schedule a.helper w z (subst (λ (x : Piece). IsTrue (has x.domain z)) (sym piece) a.within) in
      let cc1 : c ≡ cycle w.time z = ec ∙ ap (λ (x : Time). cycle x z) tu in
      let dd1 : d ≡ cycle w.time (before z a.helper.direction) = ed ∙ ap (λ (x : Time). cycle x y) tv ∙ ap (λ (x : Point). cycle w.time x) ey in
      inl (omega (arith, ints, l, cc1, dd1))
  needs_come_first (of_helper k z) (of_node m y) c d i j (a, r) (g, u, eg, eu, ec, ei) (v, ev, ed, ej) =
      let first : a.helper ≡ g = some_is a.helper g (sym a.is ∙ eg) in
      let l = legal.schedule.later (number_at own a.helper.var) z m y u v (pair_of k z a m y r) (ap (λ (x : Helper). slice_get t.times (number_at own x.var)) first ∙ eu) ev in
      inl (omega (arith, ints, l, ec, ed))
