-- Which causes a system has for a fault, by what was found of its pieces, sets and boxes.
use Rattle.std.proofs.Common.{◌≡◌, ℕ, ◌≤◌, List, [], ◌∷◌, arith, Option, Some, None, inl, inr, ⊎_elim, refl, All}
use Rattle.std.specs.List.{AllByRecursion, flat_map}
use Rattle.std.proofs.lemmas.List.Elements.{All-weaker, recursion_from_All, All-from_recursion}
use Rattle.av_poly.specs.declared.poly.Bounds.{Bounds}
use Rattle.av_poly.specs.Points.{Set}
use Rattle.av_flat.specs.declared.quantity.Quantity.{Quantity}
use Rattle.av_flat.specs.Trees.{Variable, FlatSystem}
use Rattle.av_flat.specs.Signatures.{Signature, signatures}
use Rattle.av_flat.specs.Sets.{HasFewRows, IsUnbounded, IsBounded}
use Rattle.av_flat.specs.WellFormed.{IsWellFormedVariable, IsWellFormed}
use Rattle.av_flat.specs.Quantities.{of_set, measured, IsOver, IsOverBox, HasLargeBox}
use Rattle.av_normal.specs.declared.fault.NormalFault.{NormalFault}
use Rattle.av_normal.specs.declared.fault.NormalFault.TheVariants as fault
use Rattle.av_normal.specs.NormalFaults.{HasFewPieces, HasNarrowSets, HasEnds, IsFault}
use Rattle.av_normal.specs.inner.Counted.{HasFew, IsOfMany}
use Rattle.av_normal.specs.inner.AllPieces.{IsWideIn}
use Rattle.av_normal.specs.Pairwise.{Pairwise, IsFirstOf}
use Rattle.av_normal.specs.Domains.{HasNarrowDomain, IsDeclaredExtent, HasEnd, IsWithoutEnd, IsEndless, IsSmallExtent, IsLargeExtent}
use Rattle.av_normal.proofs.Firsts.{IsMany, computed, first_with, no_first, along_first, along_all, along_each, never_first, first_of_many, none_of_many}
use Rattle.av_normal.proofs.Limits.{IsWithin, none_first, all_spread_parts, few_rows}
use Rattle.av_normal.proofs.Ends.{has_end}
use Rattle.av_normal.proofs.DomainBoxes.{large_box, no_large_box, bounded_domain}

-- ---- what is known of a system

pub few_pieces_of : (s : FlatSystem) → HasFew s.variables → HasFewPieces s
few_pieces_of s h n many = no_first IsMany (computed s.variables) (none_of_many s.variables h) many.variable many.first

abbrev pub HasFewIndices : Variable → Type 0
HasFewIndices v = v.domain.dim ≤ 4

pub few_indices : (s : FlatSystem) → IsWellFormed s → AllByRecursion HasFewIndices s.variables
few_indices s g = recursion_from_All HasFewIndices s.variables (All-weaker (IsWellFormedVariable s) HasFewIndices (λ v w. w.indices) s.variables g.each)

within_all : (s : FlatSystem) → HasNarrowSets s → All (λ v. IsWithin (of_set v.domain)) s.variables
within_all s h =
    let vs = signatures s in
    let fit = none_first (λ o. (k : Quantity) × (n : ℕ) × IsOver o k n) (flat_map (measured vs) s.variables)
    (λ o first. let here = first.here in h here.0 here.1 (record { what = o; first = first; over = here.2 })) in
    All-weaker (λ v. All IsWithin (measured vs v)) (λ v. IsWithin (of_set v.domain)) (first_within vs) s.variables (all_spread_parts IsWithin (measured vs) s.variables fit)
  where
    first_within : (vs : List Signature) (v : Variable) → All IsWithin (measured vs v) → IsWithin (of_set v.domain)
    first_within vs v all = all 0 (of_set v.domain) (omega arith)

pub narrow_domains : (s : FlatSystem) → IsWellFormed s → HasNarrowSets s → AllByRecursion HasNarrowDomain s.variables
narrow_domains s g h = both s.variables (few_indices s g) (recursion_from_All (λ v. IsWithin (of_set v.domain)) s.variables (within_all s h))
  where
    both : (xs : List Variable) → AllByRecursion HasFewIndices xs → AllByRecursion (λ v. IsWithin (of_set v.domain)) xs → AllByRecursion HasNarrowDomain xs
    both [] a b = tt
    both (v ∷ xs) a b = ((a.0, λ k n o. b.0 (k, n, o)), both xs a.1 b.1)

-- ---- faults

pub many_fault : (s : FlatSystem) (f : NormalFault) → IsOfMany s.variables f → IsFault s f
many_fault s (fault.Pieces n) h = let r = first_of_many s.variables n h in record { variable = r.0; first = r.1; number = r.2 }
many_fault s (fault.Limit kind n) h = absurd h
many_fault s (fault.Unbounded name) h = absurd h
many_fault s fault.Memory h = absurd h

pub wide_fault : (s : FlatSystem) → HasFew s.variables → (f : NormalFault) → IsWideIn s f → IsFault s f
wide_fault s few (fault.Pieces n) h = absurd h
wide_fault s few (fault.Limit kind n) h = (few_pieces_of s few, inl h)
wide_fault s few (fault.Unbounded name) h = absurd h
wide_fault s few fault.Memory h = tt

pub endless_fault : (s : FlatSystem) → HasFew s.variables → HasNarrowSets s → (f : NormalFault) → IsEndless s.variables f → IsFault s f
endless_fault s few narrow (fault.Pieces n) h = absurd h
endless_fault s few narrow (fault.Limit kind n) h = absurd h
endless_fault s few narrow (fault.Unbounded name) h =
    let r = first_with HasEnd (λ v. IsUnbounded v.domain) (IsWithoutEnd name) (λ v e u. e u) (λ v q. q.1) s.variables h in
    (few_pieces_of s few, narrow, record { variable = r.0; first = r.1; name_is = r.2.0 })
endless_fault s few narrow fault.Memory h = tt

-- ---- boxes

abbrev Kept : Variable → Type 0
Kept v = HasFewRows v.domain × IsBounded v.domain

module _ (s : FlatSystem) (g : IsWellFormed s) (extents : List (Option Bounds)) (a : Pairwise IsDeclaredExtent s.variables extents) where
  abbrev IsOverAny : Variable → Type 0
  IsOverAny v = (k : Quantity) × (m : ℕ) × IsOverBox v.domain k m

  ends : HasEnds s
  ends name u = no_first (λ v. IsUnbounded v.domain) s.variables (along_each IsDeclaredExtent HasEnd has_end s.variables extents a) u.variable u.first

  fits : (v : Variable) (extent : Option Bounds) → HasFewIndices v → IsDeclaredExtent v extent → IsSmallExtent extent → IsOverAny v → ⊥
  fits v extent few e small o = no_large_box v extent few e small o.0 o.1 o.2

  pub box_fault : HasFew s.variables → HasNarrowSets s → (f : NormalFault) → IsFirstOf IsSmallExtent (IsLargeExtent f) extents → IsFault s f
  box_fault few narrow (fault.Pieces n) h = absurd (never_first IsSmallExtent (IsLargeExtent (fault.Pieces n)) (λ e k. none e k) extents h)
    where
      none : (e : Option Bounds) → IsLargeExtent (fault.Pieces n) e → ⊥
      none None k = k
      none (Some b) k = k
  box_fault few narrow (fault.Unbounded name) h = absurd (never_first IsSmallExtent (IsLargeExtent (fault.Unbounded name)) (λ e k. none e k) extents h)
    where
      none : (e : Option Bounds) → IsLargeExtent (fault.Unbounded name) e → ⊥
      none None k = k
      none (Some b) k = k
  box_fault few narrow (fault.Limit kind n) h =
      let first = along_first IsDeclaredExtent HasFewIndices (λ v. IsOverAny v → ⊥) (λ v. IsOverBox v.domain kind n) IsSmallExtent (IsLargeExtent (fault.Limit kind n))
      (λ v e few d small. fits v e few d small) (λ v e few d large. large_box v e few d kind n large) s.variables extents (few_indices s g) a h in
      let r = first_with (λ v. IsOverAny v → ⊥) IsOverAny (λ v. IsOverBox v.domain kind n) (λ v no o. no o) (λ v o. (kind, n, o)) s.variables first in
      (few_pieces_of s few, inr (narrow, ends, record { variable = r.0; first = r.1; over = r.2 }))
  box_fault few narrow fault.Memory h = tt

  module _ (small : AllByRecursion IsSmallExtent extents) where
    no_large : (kind : Quantity) (n : ℕ) → HasLargeBox s kind n → ⊥
    no_large kind n large =
        no_first IsOverAny s.variables (along_all IsDeclaredExtent HasFewIndices (λ v. IsOverAny v → ⊥) IsSmallExtent (λ v e few d k. fits v e few d k) s.variables extents (few_indices s g) a small)
        large.variable large.first

    pub no_cause : HasFew s.variables → HasNarrowSets s → (f : NormalFault) → IsFault s f → f ≡ fault.Memory
    no_cause few narrow (fault.Pieces n) h = absurd (few_pieces_of s few n h)
    no_cause few narrow (fault.Limit kind n) h = absurd (⊎_elim (λ w. narrow kind n w) (λ l. no_large kind n l.2) h.1)
    no_cause few narrow (fault.Unbounded name) h = absurd (ends name h.2)
    no_cause few narrow fault.Memory h = refl

    -- each declared domain has few rows and is bounded
    pub bounded_domains : HasNarrowSets s → All (λ v. HasFewRows v.domain × IsBounded v.domain) s.variables
    bounded_domains narrow = All-from_recursion Kept s.variables
        (along_all IsDeclaredExtent HasNarrowDomain Kept IsSmallExtent kept s.variables extents (narrow_domains s g narrow) a small)
      where
        kept : (v : Variable) (e : Option Bounds) → HasNarrowDomain v → IsDeclaredExtent v e → IsSmallExtent e → Kept v
        kept v e fit d k =
            let new : Set = record { dim = v.domain.dim; rows = d.0 } in
            (record { rows = d.0; normalised = d.1; few = few_rows v.domain new (record { dim = refl; rows = d.1 }) (λ o. fit.1 o.0 o.1 o.2) }, bounded_domain v e fit.0 d k)
