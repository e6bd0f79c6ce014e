-- Reductions with and without a cause for a fault, by what was found of their normalised rows.
use Rattle.std.proofs.Common.{◌≡◌, ℕ, ◌≤◌, ◌++◌, [], length, Option, Some, None, refl, sym, subst, arith, All, ⊎_elim, IfSome, IfNone}
use Rattle.std.specs.List.{AllByRecursion}
use Rattle.std.proofs.lemmas.List.Elements.{All-from_recursion}
use Rattle.av_affine.specs.declared.map.Map.{Map}
use Rattle.av_affine.specs.Numbers.{AtMost, greatest}
use Rattle.av_affine.specs.Forms.{IsWithinLimits}
use Rattle.av_poly.specs.declared.poly.Bounds.{Bounds}
use Rattle.av_poly.specs.Points.{Set, Has}
use Rattle.av_poly.specs.Normal.{AreNormalised}
use Rattle.av_tree.specs.Trees.{Text}
use Rattle.av_flat.specs.declared.flat.Kind.TheVariants as kind
use Rattle.av_flat.specs.Trees.{Variable}
use Rattle.av_flat.specs.Sets.{IsUnbounded, HasSmallBox}
use Rattle.av_normal.specs.declared.fault.NormalFault.TheVariants as normal
use Rattle.av_normal.specs.Extents.{IsExtent}
use Rattle.av_normal.specs.Domains.{IsDeclaredExtent, HasFourEntries, IsSmallExtent}
use Rattle.av_normal.proofs.Boxes.{greatest_append, most_at}
use Rattle.av_normal.proofs.Ends.{has_end, without_end}
use Rattle.av_normal.proofs.DomainBoxes.{large_box, no_large_box, bounded_domain, normal_point}
use Rattle.av_normal.proofs.InnerSets.{same_set}
use Rattle.av_normal.proofs.Normalised.{normalised_again}
use Rattle.av_normal.proofs.Once.{alike, each_alike}
use Rattle.av_serial.specs.declared.fault.SerialFault.{SerialFault}
use Rattle.av_serial.specs.declared.fault.SerialFault.TheVariants as fault
use Rattle.av_serial.specs.Lines.{IsUnit}
use Rattle.av_serial.specs.SerialFaults.{Reduced, HasSteepRow, HasPoint}
use Rattle.av_serial.specs.inner.Tries.{IsTriable, IsClean, IsFaultOf, IsEndlessOf, IsLargeExtent, IsDomain, IsDomainOf}

-- ---- boxes

pub small_lows : (b : Bounds) → greatest (b.low ++ b.high) ≤ 4095 → AtMost 4095 b.low
small_lows b h = let g = greatest_append b.low b.high in most_at 4095 b.low (omega (arith, g, h))

pub small_highs : (b : Bounds) → greatest (b.low ++ b.high) ≤ 4095 → AtMost 4095 b.high
small_highs b h = let g = greatest_append b.low b.high in most_at 4095 b.high (omega (arith, g, h))

-- a variable with this domain
abbrev of_domain : Text → Set → Variable
of_domain name set = record { name = name; kind = kind.Local; width = 1; domain = set; pieces = [] }

-- ---- one reduction, by its normalised rows

module _ (name : Text) (m : Map) (set domain : Set) (t : IsTriable m set) (dim : domain.dim ≡ set.dim) (s : AreNormalised set.dim set.rows domain.rows) where
  abbrev pub reduced : Reduced
  reduced = record { name = name; map = m; set = set }

  own : Set
  own = record { dim = set.dim; rows = domain.rows }

  own_is : domain ≡ record { dim = set.dim; rows = domain.rows }
  own_is = same_set domain (record { dim = set.dim; rows = domain.rows }) dim refl

  few : set.dim ≤ 4
  few = let a = t.dimension in let b = t.few in omega (arith, a, b)

  pub few_indices : domain.dim ≤ 4
  few_indices = let a = few in omega (arith, dim, a)

  pub few_rows : length domain.rows ≤ 20
  few_rows = let a = (alike set.dim set.rows domain.rows t.rows.rows s t.rows.normalised).rows in let b = t.rows.few in omega (arith, a, b)

  module _ (units : AllByRecursion (IsUnit m) domain.rows) where
    not_steep : HasSteepRow reduced → ⊥
    not_steep (rows, n, (j, x, l, e, f)) = f (subst (IsUnit m) e (All-from_recursion (IsUnit m) rows (each_alike (IsUnit m) set.dim set.rows rows domain.rows n s units) j x l))

    pub endless_cause : (f : SerialFault) → IsEndlessOf name domain f → IsFaultOf reduced f
    endless_cause (fault.NonUnit n) h = absurd h
    endless_cause (fault.Limit k n) h = absurd h
    endless_cause fault.Memory h = tt
    endless_cause (fault.Unbounded n) h =
        let e = without_end (of_domain name set) domain.rows s (normal.Unbounded n) (subst (λ (d : Set). IsEndlessOf name d (fault.Unbounded n)) own_is h) in
        (not_steep, e.1, e.0)

    module _ (extent : Option Bounds) (found : IsExtent domain extent) (size : HasFourEntries extent) where
      declared : IsDeclaredExtent (of_domain name set) extent
      declared = (domain.rows, s, subst (λ (d : Set). IsExtent d extent) own_is found, size)

      ended : IsUnbounded set → ⊥
      ended = has_end (of_domain name set) extent declared

      pub large_cause : (f : SerialFault) → IsLargeExtent extent f → IsFaultOf reduced f
      large_cause f h = go extent f declared h
        where
          go : (x : Option Bounds) (f : SerialFault) → IsDeclaredExtent (of_domain name set) x → IsLargeExtent x f → IsFaultOf reduced f
          go None f d h = absurd h
          go (Some b) (fault.NonUnit n) d h = absurd h
          go (Some b) (fault.Unbounded n) d h = absurd h
          go (Some b) fault.Memory d h = tt
          go (Some b) (fault.Limit k n) d h = (not_steep, ended, large_box (of_domain name set) (Some b) few d k n h)

      module _ (small : IsSmallExtent extent) where
        pub clean : IsClean reduced
        clean (fault.NonUnit n, h) = not_steep h.0
        clean (fault.Unbounded n, h) = ended h.1
        clean (fault.Limit k n, h) = no_large_box (of_domain name set) extent few declared small k n h.2
        clean (fault.Memory, h) = h

        small_box : HasPoint domain → HasSmallBox domain
        small_box p = ⊎_elim (λ h. h) (λ none. absurd (none p.0 p.1))
            (bounded_domain (of_domain name domain) extent few_indices
            (domain.rows, subst (λ (d : ℕ). AreNormalised d domain.rows domain.rows) (sym dim) (normalised_again set.dim set.rows domain.rows s), found, size) small)

        pub some_domain : All IsWithinLimits domain.rows → HasPoint domain → IsDomain m set domain
        some_domain w p = record { dimension = dim; rows = s; units = units; small = small_box p; point = p; limits = w }

        pub no_domain : (HasPoint domain → ⊥) → HasPoint set → ⊥
        no_domain none p = none (p.0, subst (λ (d : Set). Has d p.0) (sym own_is) (normal_point (of_domain name set) domain.rows s p.0 p.1))

        pub is_domain : All IsWithinLimits domain.rows → (o : Option Set) → IfSome o (λ to. to ≡ domain) → IfSome o (λ to. HasPoint domain) → IfNone o (HasPoint domain → ⊥) → IsDomainOf m set o
        is_domain w None a b c = no_domain c
        is_domain w (Some to) a b c = subst (λ (d : Set). IsDomain m set d) (sym a) (some_domain w b)
