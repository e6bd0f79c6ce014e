use Rattle.std.proofs.Common.{◌≡◌, ◌∙◌, List, length, drop, inl, inr, arith, sym, ap, subst}
use Rattle.std.specs.Prelude.{Contains, slice_get}
use Rattle.std.proofs.lemmas.Bool.{cases_lt}
use Rattle.std.proofs.lemmas.Grind.{elements}
use Rattle.av_base.proofs.Lists.{some_is}
use Rattle.av_space.specs.declared.spots.Site.{Site}
use Rattle.av_space.proofs.Elements.{in_range}
use Rattle.av_build.specs.declared.spots.SpotPlan.{SpotPlan}
use Rattle.av_build.specs.inner.Lanes.{HasReference, IsReferenceIn}
use Rattle.av_build.proofs.LatePlaces.{from_dropped, tail_is}
use Rattle.av_build.proofs.Pairwise.{element, element_of}
use Rattle.av_build.proofs.ports.reference_of.Goals as goal

pub reference_at-requires : goal.reference_at-requires
reference_at-requires c =
    let pieces = c.args.pieces.now in
    let k = c.loop-k.k in
    let x = c.index-spots-k.result in
    let low = c.loop-k-test.true in
    let many = ap (λ (l : List SpotPlan). length l) c.as_slice-spots.ensures in
    let is_x = element_of pieces.spots c.as_slice-spots.result.now k x x c.as_slice-spots.ensures (omega (arith, low, many)) c.index-spots-k.is in
    let own = c.requires.each k x is_x (ap (λ (s : SpotPlan). s.number) c.index-spots-k.is ∙ c.if-spots-k.true) in
    let y = c.index-as_slice-k.result in
    let is_y = element_of pieces.sites c.as_slice.result.now k y y c.as_slice.ensures (in_range pieces.sites k own.0 own.1) c.index-as_slice-k.is in
    let same : c.as_slice-then-spots-k.result.now ≡ own.0 = c.as_slice-then-spots-k.ensures ∙ some_is y own.0 (sym is_y ∙ own.1) in
    let n = c.args.port.now.site in
    let slice = c.as_slice-then-spots-k.result.now in
    subst (λ (l : List Site). HasReference l n) (sym (tail_is slice n)) (subst (λ (l : List Site). HasReference (drop n l) n) (sym same) own.2)

pub returns-then-spots-k : goal.returns-then-spots-k
returns-then-spots-k c =
    let pieces = c.args.pieces.now in
    let k = c.loop-k.k in
    let x = c.index-spots-k.result in
    let low = c.loop-k-test.true in
    let many = ap (λ (l : List SpotPlan). length l) c.as_slice-spots.ensures in
    let is_x = element_of pieces.spots c.as_slice-spots.result.now k x x c.as_slice-spots.ensures (omega (arith, low, many)) c.index-spots-k.is in
    let number = ap (λ (s : SpotPlan). s.number) c.index-spots-k.is ∙ c.if-spots-k.true in
    let own = c.requires.each k x is_x number in
    let y = c.index-as_slice-k.result in
    let is_y = element_of pieces.sites c.as_slice.result.now k y y c.as_slice.ensures (in_range pieces.sites k own.0 own.1) c.index-as_slice-k.is in
    let same : c.as_slice-then-spots-k.result.now ≡ own.0 = c.as_slice-then-spots-k.ensures ∙ some_is y own.0 (sym is_y ∙ own.1) in
    let n = c.args.port.now.site in
    let slice = c.as_slice-then-spots-k.result.now in
    record {
      number = k;
      at = x;
      is_spot = is_x;
      is_piece = number;
      sites = own.0;
      are_sites = own.1;
      is_reference = subst (λ (l : List Site). IsReferenceIn l c.args.port.now.site c.reference_at.result.now) same
          (from_dropped slice n c.reference_at.result.now (subst (λ (l : List Site). Contains l c.reference_at.result.now) (tail_is slice n) c.reference_at.ensures.0), c.reference_at.ensures.1);
    }

pub loop-k-preserved : goal.loop-k-preserved
loop-k-preserved c = λ j at lt is_at e.
    let spots = c.as_slice-spots.result.now in
    let k = c.loop-k.k in
    let x = c.index-spots-k.result in
    elim (cases_lt j k) [
      | inl l ↦ c.loop-k.invariant j at l is_at e
      | inr ge ↦ (
          let same : k ≡ j = omega (arith, lt, ge) in
          let is_x = element spots k x x c.loop-k-test.true c.index-spots-k.is in
          let one : x ≡ at = some_is x at (sym is_x ∙ ap (slice_get spots) same ∙ is_at) in
          c.if-spots-k.false (ap (λ (s : SpotPlan). s.number) (sym c.index-spots-k.is ∙ one) ∙ e))
    ]

pub unreachable-requires : goal.unreachable-requires
unreachable-requires c =
    let p = c.requires.is_place in
    let low = in_range c.args.pieces.now.spots p.number p.at p.is_spot in
    let many = ap (λ (l : List SpotPlan). length l) c.as_slice-spots.ensures in
    let end = c.loop-k-test.false in
    c.loop-k.invariant p.number p.at (omega (arith, low, many, end)) (ap (λ (l : List SpotPlan). slice_get l p.number) c.as_slice-spots.ensures ∙ p.is_spot) p.is_piece

pub bounds-as_slice-k : goal.bounds-as_slice-k
bounds-as_slice-k c = grind (arith, elements)
