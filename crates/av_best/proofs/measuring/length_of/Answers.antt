use Rattle.std.proofs.Common.{◌≡◌, ◌<◌, ◌≤◌, ◌∙◌, ◌+◌, ◌∷◌, [], pos, ℕ, ℤ, List, Some, All, length, map, sym, ap, subst, arith, rules, w64, FitsSigned, to_z-of_z, length-append}
use Rattle.std.specs.Prelude.{slice_get}
use Rattle.std.proofs.lemmas.Option.{slice_get-get_or}
use Rattle.av_tree.specs.Points.{Point}
use Rattle.av_flat.specs.declared.timed.Time.{Time}
use Rattle.av_flat.specs.Trees.{view_system}
use Rattle.av_flat.specs.Nodes.{nodes}
use Rattle.av_sched.specs.Leads.{IsSmallPoint}
use Rattle.av_sched.proofs.Schedule.{part_of}
use Rattle.av_base.proofs.Lists.{there_is, take_whole}
use Rattle.av_best.specs.declared.span.PartSpan.{PartSpan}
use Rattle.av_best.specs.Lengths.{linear_parts, offsets_of}
use Rattle.av_best.specs.Least.{all_nodes}
use Rattle.av_best.specs.inner.Spans.{IsSpanAt, ArePointsOf, AreSpanned, IsLeastAbove}
use Rattle.av_best.proofs.Every.{as_many}
use Rattle.av_best.proofs.Spanning.{part_small, points_small, span_at, spanned_push}
use Rattle.av_best.proofs.Scheduling.{starts_of_schedule}
use Rattle.av_best.proofs.Lasting.{offsets_more}
use Rattle.av_best.proofs.Leaving.{length_there}
use Rattle.av_best.proofs.measuring.length_of.Goals as goal

pub points_of-requires-clause-within : goal.points_of-requires-clause-within
points_of-requires-clause-within c =
    let e = ap (λ (xs : List Time). length xs) c.as_slice-times.ensures in
    let one = c.requires.schedule.one_each in
    omega (arith, e, one, c.loop-k-test.true)

pub span_over-requires-clause-some : goal.span_over-requires-clause-some
span_over-requires-clause-some c = subst (λ (ps : List Point). 0 < length ps) (sym c.as_slice.ensures) c.in_ok-points.ensures.some

pub span_over-requires-clause-part : goal.span_over-requires-clause-part
span_over-requires-clause-part c =
    let s = view_system c.args.timed.now.flat in
    let k = c.loop-k.k in
    let times = c.as_slice-times.result.now in
    let time = c.index-times-k.result in
    let e = ap (λ (xs : List Time). length xs) c.as_slice-times.ensures in
    let one = c.requires.schedule.one_each in
    let v = there_is (nodes s) k (omega (arith, e, one, c.loop-k-test.true)) in
    let is : slice_get c.args.timed.now.times k ≡ Some time = ap (λ (xs : List Time). slice_get xs k) (sym c.as_slice-times.ensures) ∙ slice_get-get_or times k time c.loop-k-test.true ∙ ap Some (sym c.index-times-k.is) in
    part_small s 4 k v.0 time.linear c.requires.chained (omega arith) v.1 (c.requires.schedule.linear k v.0 time v.1 is)

pub span_over-requires-clause-points : goal.span_over-requires-clause-points
span_over-requires-clause-points c =
    let s = view_system c.args.timed.now.flat in
    let k = c.loop-k.k in
    let times = c.as_slice-times.result.now in
    let time = c.index-times-k.result in
    let e = ap (λ (xs : List Time). length xs) c.as_slice-times.ensures in
    let one = c.requires.schedule.one_each in
    let v = there_is (nodes s) k (omega (arith, e, one, c.loop-k-test.true)) in
    let is : slice_get c.args.timed.now.times k ≡ Some time = ap (λ (xs : List Time). slice_get xs k) (sym c.as_slice-times.ensures) ∙ slice_get-get_or times k time c.loop-k-test.true ∙ ap Some (sym c.index-times-k.is) in
    let linear = c.requires.schedule.linear k v.0 time v.1 is in
    subst (All (IsSmallPoint (length time.linear))) (sym c.as_slice.ensures) (points_small s k v.0 c.requires.chained v.1 c.in_ok-points.points (length time.linear) linear.size c.in_ok-points.ensures)

pub loop-k-preserved : goal.loop-k-preserved
loop-k-preserved c =
    let s = view_system c.args.timed.now.flat in
    let k = c.loop-k.k in
    let times = c.as_slice-times.result.now in
    let time = c.index-times-k.result in
    let is : slice_get c.args.timed.now.times k ≡ Some time = ap (λ (xs : List Time). slice_get xs k) (sym c.as_slice-times.ensures) ∙ slice_get-get_or times k time c.loop-k-test.true ∙ ap Some (sym c.index-times-k.is) in
    let at = part_of c.args.timed.now.times k time is in
    let points = subst (ArePointsOf s k) (sym c.as_slice.ensures) c.in_ok-points.ensures in
    let own = span_at s k c.as_slice.result.now time.linear c.span_over.result points c.span_over.ensures in
    let f : FitsSigned w64 time.offset = search rules in
    let e = simp to_z-of_z at c.in_ok-push.ensures.items in
    let here = subst (λ (a : Point). IsSpanAt s k a c.span_over.result) (sym at) own in
    record {
      offsets = e ∙ offsets_more times k time c.loop-k.offsets.items c.loop-k-test.true c.index-times-k.is c.loop-k.invariant.offsets;
      many = ap length c.in_ok-push-2.ensures.items ∙ length-append c.loop-k.spans.items (c.span_over.result ∷ []) ∙ ap (λ n. n + 1) c.loop-k.invariant.many;
      spanned = subst (AreSpanned s (k + 1) (linear_parts c.args.timed.now.times)) (sym c.in_ok-push-2.ensures.items)
          (spanned_push s k (linear_parts c.args.timed.now.times) c.loop-k.spans.items c.span_over.result c.loop-k.invariant.many here c.loop-k.invariant.spanned);
    }

pub returns : goal.returns
returns c =
    let s = view_system c.args.timed.now.flat in
    let times = c.args.timed.now.times in
    let slice = c.as_slice-times.result.now in
    let k = c.loop-k.k in
    let spans = c.loop-k.spans.items in
    let d : PartSpan = record { low = pos 0; high = pos 0 } in
    let over : length slice ≤ k = search rules in
    let under : k ≤ length slice = search rules in
    let e = ap (λ (xs : List Time). length xs) c.as_slice-times.ensures in
    let one = c.requires.schedule.one_each in
    let many = as_many s in
    let all : length slice ≡ length (all_nodes s) = omega (arith, e, one, many) in
    let offs : c.loop-k.offsets.items ≡ offsets_of times = c.loop-k.invariant.offsets ∙ ap (map (λ (t : Time). t.offset)) (take_whole slice k over ∙ c.as_slice-times.ensures) in
    let spanned = subst (λ (n : ℕ). AreSpanned s n (linear_parts times) spans) (let q : k ≡ length (all_nodes s) = omega (arith, over, under, all) in q) c.loop-k.invariant.spanned in
    let above1 = subst (λ (xs : List ℤ). IsLeastAbove xs c.deref-2.result.now (length slice) c.least_above.result) (c.deref.ensures.value ∙ offs) c.least_above.ensures in
    let above2 = subst (λ (xs : List PartSpan). IsLeastAbove (offsets_of times) xs (length slice) c.least_above.result) c.deref-2.ensures.value above1 in
    let above = subst (λ (n : ℕ). IsLeastAbove (offsets_of times) spans n c.least_above.result) all above2 in
    length_there s (linear_parts times) spans spanned d (offsets_of times) c.least_above.result (starts_of_schedule s 4 times c.requires.schedule) above
