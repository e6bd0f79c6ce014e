use Rattle.std.proofs.Common.{◌≡◌, ◌∙◌, List, ℕ, length, map, ap, sym, subst, arith}
use Rattle.std.specs.Vec.{with_items}
use Rattle.std.proofs.lemmas.Grind.{common_steps}
use Rattle.av_clock.specs.declared.gate.FlipFlop.{FlipFlop}
use Rattle.av_clock.specs.Gates.{AreAssigned, AreStepped}
use Rattle.av_clock.specs.Merged.{merged, AreMerged}
use Rattle.av_clock.specs.inner.Sources.{flip_flop_at_source}
use Rattle.av_clock.proofs.Merging.{nexts_within, is_merging}
use Rattle.av_clock.proofs.Views.{new_items}
use Rattle.av_clock.proofs.merged.ResolvedModule.merged.Goals as goal

pub at_sources-requires : goal.at_sources-requires
at_sources-requires c =
    let same : c.deref-2.result.now ≡ c.merge.new.sources = c.deref-2.ensures.value ∙ new_items c.in_ok-sources.sources _ c.merge.new.sources c.merge.auto.sources c.deref_mut.ensures.value in
    nexts_within c.args.of.now c.deref-2.result.now c.deref-3.result.now (ap length same ∙ c.in_ok-assignments.ensures.merged.size)
    (subst (λ (steps : List FlipFlop). AreStepped c.args.of.now (length c.args.of.now.steps) steps) (sym c.deref-3.ensures.value) c.requires.stepped)

pub returns : goal.returns
returns c =
    let v = with_items c.in_ok-sources.sources c.merge.new.sources in
    let items : c.merge.new.sources ≡ v.items = sym (new_items c.in_ok-sources.sources _ c.merge.new.sources c.merge.auto.sources c.deref_mut.ensures.value) in
    is_merging c.args.of.now v c.in_ok-assignments.assignments c.in_ok-flip_flops.flip_flops c.args.self.now.flip_flops.items c.requires.sound (subst (AreMerged c.args.of.now) items c.in_ok-assignments.ensures.merged)
    (subst (λ (sources : List ℕ). AreAssigned (merged c.args.of.now sources) (length c.args.of.now.drives) c.in_ok-assignments.assignments.items) items c.in_ok-assignments.ensures.assigned) c.requires.stepped
    (c.in_ok-flip_flops.ensures ∙ ap (λ (sources : List ℕ). map (flip_flop_at_source sources) c.deref-3.result.now) c.deref-2.ensures.value ∙ ap (map (flip_flop_at_source v.items)) c.deref-3.ensures.value)

pub merge-requires-clause-assigned : goal.merge-requires-clause-assigned
merge-requires-clause-assigned c = grind (arith, common_steps)
