-- What a legal system grants of its nodes.
use Rattle.std.proofs.Common.{◌≡◌, ℕ, ◌<◌, ◌≤◌, IsTrue, Some, List, [], ◌∷◌, length, get_or, refl, sym, ap, subst, ◌∙◌, arith}
use Rattle.std.specs.Prelude.{slice_get, Any, pos, ◌≢◌}
use Rattle.std.proofs.lemmas.Option.{slice_get-get_or, slice_get_within}
use Rattle.av_affine.specs.Numbers.{AtMost}
use Rattle.av_poly.specs.Points.{Set, Has}
use Rattle.av_tree.specs.Points.{Point}
use Rattle.av_flat.specs.declared.timed.Time.{Time}
use Rattle.av_flat.specs.declared.timed.Timed.{Timed}
use Rattle.av_flat.specs.Legal.{IsLegal}
use Rattle.av_flat.specs.Trees.{Variable, FlatSystem, view_system}
use Rattle.av_flat.specs.Points.{has}
use Rattle.av_flat.specs.Nodes.{nodes, IsComputation}
use Rattle.av_flat.specs.Chained.{IsChained, IsChainedVariable}
use Rattle.av_flat.proofs.Sets.{has_is}
use Rattle.av_depend.specs.AllPoints.{AreAllPoints}
use Rattle.av_flat.proofs.NodeNumbers.{chained_node}
use Rattle.av_flat.proofs.Bounded.{small_point}
use Rattle.av_space.specs.inner.Laying.{AreNodePoints}
use Rattle.av_base.proofs.Lists.{all_at}

-- ---- what is granted

pub chained_variable : (s : FlatSystem) (place : ℕ) (v : Variable) → IsChained s → slice_get s.variables place ≡ Some v → IsChainedVariable s v
chained_variable s place v h e = all_at (IsChainedVariable s) s.variables place v h.each e

-- points of chained variables have few and small entries
pub record IsSmallPoint (v : Variable) (z : Point) : Type 0 where
  pub size : length z ≡ v.domain.dim
  pub few : length z ≤ 4
  pub small : AtMost 4095 z

pub small_of : (s : FlatSystem) (v : Variable) (z : Point) → IsChainedVariable s v → IsTrue (has v.domain z) → IsSmallPoint v z
small_of s v z h t =
    let k = (has_is v.domain z).0 t in
    let n = k.dimension in
    let i = h.indices in
    record { size = n; few = omega (arith, n, i); small = small_point v.domain h.bounded z k }

-- a set without points has none in a list
pub no_points : (set : Set) → ((z : Point) → Has set z → ⊥) → AreAllPoints set []
no_points set none = record {
  ascending = λ i j d l m. absurd (omega (arith, m));
  each = λ k d l. absurd (omega (arith, l));
  all = λ z t. absurd (none z ((has_is set z).0 t));
}

-- the computations of a node are the points of its domain
pub computed_point : (s : FlatSystem) (n : ℕ) (v : Variable) (z : Point) → slice_get (nodes s) n ≡ Some v → IsTrue (has v.domain z) → IsComputation s n z
computed_point s n v z e t = record { variable = v; is = e; declared = t }

pub computed_has : (s : FlatSystem) (n : ℕ) (v : Variable) (z : Point) → slice_get (nodes s) n ≡ Some v → IsComputation s n z → IsTrue (has v.domain z)
computed_has s n v z e c = let f = c.is in let same : c.variable ≡ v = cc in subst (λ (w : Variable). IsTrue (has w.domain z)) same c.declared

pub computed_within : (s : FlatSystem) (n : ℕ) (z : Point) → IsComputation s n z → n < length (nodes s)
computed_within s n z c = slice_get_within (nodes s) n c.variable c.is

-- the time of a node of a legal system
pub record IsTimeOf (t : Timed) (n : ℕ) (time : Time) : Type 0 where
  pub variable : Variable
  pub is : slice_get (nodes (view_system t.flat)) n ≡ Some variable
  pub chained : IsChainedVariable (view_system t.flat) variable
  pub size : length time.linear ≡ variable.domain.dim
  pub few : length time.linear ≤ 4
  pub small : AtMost 4 time.linear
  pub not_zero : 0 < length time.linear → Any (λ x. x ≢ pos 0) time.linear

pub time_at : (t : Timed) (n : ℕ) (time : Time) → IsLegal t → slice_get t.times n ≡ Some time → IsTimeOf t n time
time_at t n time h e =
    let s = view_system t.flat in
    let l : n < length (nodes s) = (let k = slice_get_within t.times n time e in let m = h.schedule.one_each in omega (arith, k, m)) in
    go s (nodes s) refl l
  where
    go : (s : FlatSystem) (vs : List Variable) → vs ≡ nodes (view_system t.flat) → n < length (nodes (view_system t.flat)) → IsTimeOf t n time
    go s [] f l = absurd (let k = ap (λ (xs : List Variable). length xs) f in omega (arith, k, l))
    go s (w ∷ vs) f l =
        let v = get_or (nodes (view_system t.flat)) n w in
        let is : slice_get (nodes (view_system t.flat)) n ≡ Some v = slice_get-get_or (nodes (view_system t.flat)) n w l in
        let p = h.schedule.linear n v time is e in
        let chained = chained_node (view_system t.flat) n v h.chained is in
        let size = p.size in
        let few = chained.indices in
        record { variable = v; is = is; chained = chained; size = size; few = omega (arith, size, few); small = p.entries; not_zero = λ some. p.not_zero (omega (arith, some, size)) }

pub time_of : (t : Timed) (n : ℕ) (time : Time) → IsLegal t → n < length t.times → time ≡ get_or t.times n time → IsTimeOf t n time
time_of t n time h l is = time_at t n time h (slice_get-get_or t.times n time l ∙ ap Some (sym is))

pub computed_small : (t : Timed) (n : ℕ) (z : Point) → IsLegal t → (c : IsComputation (view_system t.flat) n z) → IsSmallPoint c.variable z
computed_small t n z h c = let s = view_system t.flat in small_of s c.variable z (chained_node s n c.variable h.chained c.is) c.declared

pub points_of_node : (s : FlatSystem) (n : ℕ) (v : Variable) (points : List Point) → slice_get (nodes s) n ≡ Some v → AreAllPoints v.domain points → AreNodePoints s n points
points_of_node s n v points e h = record {
  ascending = h.ascending;
  each = λ k d l. computed_point s n v (get_or points k d) e (h.each k d l);
  all = λ z c. h.all z (computed_has s n v z e c);
}
