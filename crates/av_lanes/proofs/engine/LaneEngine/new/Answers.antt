use Rattle.std.proofs.Common.{◌≡◌, length, ◌∙◌, ap, sym, subst, rules, replicate, false}
use Rattle.std.proofs.lemmas.List.{length-replicate}
use Rattle.std.proofs.lemmas.List.Elements.{same_from_all_zip}
use Rattle.std.proofs.lemmas.Simd.{get_or-replicate}
use Rattle.av_net.specs.declared.netlist.Module.{Module}
use Rattle.av_net.specs.Names.{all_names}
use Rattle.av_net.specs.Sound.{IsSound}
use Rattle.av_clock.specs.Merged.{merged, AreMerged}
use Rattle.av_lanes.proofs.LaneStates.{kept_new, new_lane}
use Rattle.av_lanes.proofs.Vectors.{zeros}
use Rattle.av_lanes.proofs.engine.LaneEngine.new.Goals as goal

pub new-requires-3 : goal.new-requires-3
new-requires-3 c = subst IsSound (sym c.in_ok-circuit.ensures) c.in_ok-merged.ensures.safe

pub returns-clause-words : goal.returns-clause-words
returns-clause-words c k lt =
    let same : c.in_ok-merged.merged.sources.items ≡ c.in_ok-sources.sources.items = search (rules, same_from_all_zip) in
    let count : c.size.result ≡ length (all_names c.args.of.now) = c.size.ensures ∙ ap (λ (m : Module). length (all_names m)) c.in_ok-circuit.ensures in
    new_lane c.args.of.now c.in_ok-sources.sources.items k c.in_ok-words.words.items zeros (subst (AreMerged c.args.of.now) same c.in_ok-merged.ensures.sources)
    (c.in_ok-words.ensures.items_if_clones_equal (λ y same. same) ∙ ap (λ n. replicate n zeros) count) (get_or-replicate 8 k 0 0 lt)

pub invariant_of-result : goal.invariant_of-result
invariant_of-result c =
    let same : c.in_ok-merged.merged.sources.items ≡ c.in_ok-sources.sources.items = search (rules, same_from_all_zip) in
    record {
      sound = c.requires;
      sources = subst (AreMerged c.args.of.now) same c.in_ok-merged.ensures.sources;
      circuit = c.in_ok-circuit.ensures ∙ ap (merged c.args.of.now) same;
      safe = subst IsSound (sym c.in_ok-circuit.ensures) c.in_ok-merged.ensures.safe;
      drives = c.in_ok-drives.ensures;
      size = sym c.in_ok-words.words.ok.0 ∙ c.in_ok-words.ensures.len ∙ c.size.ensures;
      next = sym c.in_ok-next.next.ok.0 ∙ c.in_ok-next.ensures.len ∙ c.steps.ensures;
      taken = sym c.in_ok-taken.taken.ok.0 ∙ c.in_ok-taken.ensures.len ∙ c.steps-2.ensures;
      moves = c.in_ok-moves.ensures;
      stale = ap length c.in_ok-stale.ensures ∙ length-replicate c.drives.result false ∙ c.drives.ensures;
      due = ap length c.in_ok-due.ensures ∙ length-replicate c.steps-3.result false ∙ c.steps-3.ensures;
      lanes = λ k lt. kept_new c.in_ok-circuit.circuit k c.size.result c.in_ok-words.words.items zeros _ _ (c.in_ok-words.ensures.items_if_clones_equal (λ y same. same)) (get_or-replicate 8 k 0 0 lt);
    }
