-- One step of a composition, and of a walk over trees.
use Rattle.std.proofs.Common.{◌≡◌, ℕ, ◌<◌, ◌+◌, List, [], ◌∷◌, map, subst, sym, length, drop, get_or}
use Rattle.std.specs.List.{All}
use Rattle.av_affine.specs.Forms.{IsWithinLimits}
use Rattle.av_affine.specs.declared.map.Map.{Map}
use Rattle.av_affine.specs.Maps.{composition}
use Rattle.av_flat.specs.Quantities.{of_map, steps}
use Rattle.av_normal.specs.declared.fault.NormalFault.{NormalFault}
use Rattle.av_normal.specs.Searches.{IsNarrow, IsWideOne, IsWide}
use Rattle.av_normal.specs.inner.UnderMaps.{LeadsTo, AreChained, IsUnder}
use Rattle.av_normal.proofs.Searching.{wide_here, wide_after}
use Rattle.av_base.proofs.Lists.{next_item}

-- the next of the outer maps stands in front of the others
pub next_of : (own : Map) (under : List Map) (whole : Map) (i : ℕ) (d : Map) → i < length under → d ≡ get_or under i d → IsUnder own under whole (drop i under) → IsUnder own under whole (d ∷ drop (i + 1) under)
next_of own under whole i d l e h = let P : List Map → Type 0 = λ (rest : List Map). IsUnder own under whole rest in subst P (next_item under i d l e) h

module _ (own : Map) (under : List Map) (whole d : Map) (rest : List Map) (h : IsUnder own under whole (d ∷ rest)) where
  pub one_chain : AreChained (whole ∷ d ∷ [])
  one_chain = (h.chained.0, h.chained.1, (h.chained.2.0, tt, tt))

  pub one_more : (next : Map) → next ≡ composition whole d → All IsWithinLimits next.rows → IsNarrow (of_map (composition whole d)) → IsUnder own under next rest
  one_more next e small n =
      let P : Map → Type 0 = λ (m : Map). All IsWithinLimits m.rows → IsUnder own under m rest in
      subst P (sym e)
      (λ k. record {
        chained = (k, leads rest h.chained.2.1, h.chained.2.2);
        same = h.same;
        narrow = λ s. h.narrow (n, s);
        first = λ f s. h.first f (wide_after (of_map (composition whole d)) (map of_map (steps (composition whole d) rest)) f n s);
      })
      small
    where
      leads : (ds : List Map) → LeadsTo d ds → LeadsTo (composition whole d) ds
      leads [] k = tt
      leads (x ∷ ds) k = k

  pub refused : (f : NormalFault) → IsWideOne (of_map (composition whole d)) f → IsWide (map of_map (steps own under)) f
  refused f w = h.first f (wide_here (of_map (composition whole d)) (map of_map (steps (composition whole d) rest)) f w)
