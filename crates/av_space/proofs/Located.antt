-- The place of a computation among the cells.
use Rattle.std.proofs.Common.{◌≡◌, ℕ, ◌+◌, ◌<◌, ◌≤◌, inl, inr, Some, List, [], ◌∷◌, length, get_or, refl, sym, ap, subst, ◌∙◌, arith}
use Rattle.std.specs.Prelude.{slice_get, AllPairs, Contains, unsigned_abs}
use Rattle.std.proofs.lemmas.Bool.{cases_lt}
use Rattle.std.proofs.lemmas.Option.{slice_get-get_or}
use Rattle.av_tree.specs.Points.{Point}
use Rattle.av_flat.specs.declared.timed.Timed.{Timed}
use Rattle.av_flat.specs.Legal.{IsLegal}
use Rattle.av_flat.specs.Trees.{view_system}
use Rattle.av_flat.specs.Nodes.{IsComputation}
use Rattle.av_flat.specs.Order.{IsBefore}
use Rattle.av_flat.specs.Schedules.{cycle}
use Rattle.av_space.specs.declared.layout.Layout.{Layout}
use Rattle.av_space.specs.Coordinates.{Placing, along}
use Rattle.av_space.specs.Occupancy.{Occupies}
use Rattle.av_space.specs.Layouts.{IsLayout}
use Rattle.av_space.specs.inner.Laying.{IsTimely}
use Rattle.av_space.proofs.ByPlace.{pair_at}
use Rattle.av_space.proofs.Grouped.{timely_of, timely_cycle}
use Rattle.av_space.proofs.Laid.{few_cycles, placing_time, placings_number}
use Rattle.av_space.proofs.Nodes.{computed_within}
use Rattle.av_base.proofs.Lists.{some_is}

-- ---- the order of points

pub none_before_empty : (xs : Point) → IsBefore xs [] → ⊥
none_before_empty [] h = h
none_before_empty (x ∷ xs) h = h

pub empty_before : (ys : Point) → 0 < length ys → IsBefore [] ys
empty_before [] l = absurd (omega (arith, l))
empty_before (y ∷ ys) l = tt

pub some_after_empty : (ys : Point) → IsBefore [] ys → 0 < length ys
some_after_empty [] h = absurd h
some_after_empty (y ∷ ys) h = omega arith

-- ---- a search by halves, in a list that is in order

-- where x stands, it stands at a place between these
pub record IsBetween (X : Type 0) (xs : List X) (x : X) (low high : ℕ) : Type 0 where
  pub each : (p : ℕ) → slice_get xs p ≡ Some x → (low ≤ p) × (p ≤ high)

module _ (X : Type 0) (R : X → X → Type 0) (in_turn : (a b : X) → R a b → R b a → ⊥) (xs : List X) (x : X) (order : AllPairs R xs) where
  before_at : (i j : ℕ) (a b : X) → i < j → slice_get xs i ≡ Some a → slice_get xs j ≡ Some b → R a b
  before_at i j a b l ea eb = pair_at R xs order i j a b ea eb l

  pub higher : (middle : X) (low high m : ℕ) → slice_get xs m ≡ Some middle → R middle x → IsBetween X xs x low high → IsBetween X xs x (m + 1) high
  higher middle low high m em before h = record {
    each = λ p e. (
      (elim (cases_lt m p) [
        | inl lt ↦ omega (arith, lt)
        | inr ge ↦ (elim (cases_lt p m) [
          | inl less ↦ absurd (in_turn x middle (before_at p m x middle less e em) before)
          | inr more ↦ (
              let same : p ≡ m = omega (arith, ge, more) in
              let one : middle ≡ x = some_is middle x (sym em ∙ ap (λ (k : ℕ). slice_get xs k) (sym same) ∙ e) in
              let itself = subst (λ (w : X). R w x) one before in
              absurd (in_turn x x itself itself))
        ])
      ]),
      (h.each p e).1,
    );
  }

  pub lower : (middle : X) (low high m : ℕ) → slice_get xs m ≡ Some middle → (R middle x → ⊥) → IsBetween X xs x low high → IsBetween X xs x low m
  lower middle low high m em not h = record {
    each = λ p e. (
      (h.each p e).0,
      (elim (cases_lt m p) [
        | inl lt ↦ absurd (not (before_at m p middle x lt em e))
        | inr ge ↦ ge
      ]),
    );
  }

  pub found : (low high : ℕ) → high ≤ low → Contains xs x → IsBetween X xs x low high → slice_get xs low ≡ Some x
  found low high l there h =
      let e : slice_get xs there.0 ≡ Some x = slice_get-get_or xs there.0 x there.1 ∙ ap Some there.2 in
      let k = h.each there.0 e in
      let a = k.0 in
      let b = k.1 in
      let same : low ≡ there.0 = omega (arith, a, b, l) in
      ap (λ (i : ℕ). slice_get xs i) same ∙ e

-- ---- computations

-- the placing of a node, where the computation is in time
pub record IsPlaced (t : Timed) (l : Layout) (n : ℕ) (z : Point) (p : Placing) : Type 0 where
  pub is : slice_get l.placements n ≡ Some p
  pub timely : IsTimely p z

pub placed : (t : Timed) (l : Layout) (n : ℕ) (z : Point) (p : Placing) → IsLegal t → IsLayout t l → IsComputation (view_system t.flat) n z → slice_get l.placements n ≡ Some p → IsPlaced t l n z p
placed t l n z p legal h c e = record {
  is = e;
  timely = timely_of t n p z legal (placing_time t.times l.placements n p h.are_placings e) (few_cycles t l.cycles h.cycle_count h.limit) c;
}

pub node_stands : (t : Timed) (l : Layout) (n : ℕ) (z : Point) (p : Placing) → IsComputation (view_system t.flat) n z → IsPlaced t l n z p
    → Occupies (view_system t.flat) l.placements (record { node = n; at = along p.rows z }) (unsigned_abs (cycle p.time z)) n z
node_stands t l n z p c h = record { computation = c; placing = p; is_placing = h.is; node = refl; at = refl; in_cycle = (timely_cycle p z h.timely).0 }

pub has_cell : (t : Timed) (l : Layout) (n : ℕ) (z : Point) (p : Placing) → IsLayout t l → IsComputation (view_system t.flat) n z → IsPlaced t l n z p → Contains l.cells (record { node = n; at = along p.rows z })
has_cell t l n z p h c k = h.are_cells.all (record { node = n; at = along p.rows z }) (unsigned_abs (cycle p.time z), n, z, node_stands t l n z p c k)

pub own_placing : (t : Timed) (l : Layout) (n : ℕ) (z : Point) (p : Placing) (placings : List Placing) → IsLegal t → IsLayout t l → IsComputation (view_system t.flat) n z → placings ≡ l.placements → p ≡ get_or placings n p → slice_get l.placements n ≡ Some p
own_placing t l n z p placings legal h c e is =
    let k = computed_within (view_system t.flat) n z c in
    let m = placings_number t l.placements legal h.are_placings in
    let size = ap (λ (ps : List Placing). length ps) e in
    ap (λ (ps : List Placing). slice_get ps n) (sym e) ∙ slice_get-get_or placings n p (omega (arith, k, m, size)) ∙ ap Some (sym is)
