use Rattle.std.proofs.Common.{◌≡◌, List, ℕ, ◌∙◌, ap, subst, rules, replicate, length, true}
use Rattle.std.proofs.lemmas.List.Elements.{same_from_all_zip}
use Rattle.av_clock.specs.Merged.{merged, AreMerged}
use Rattle.av_clock.proofs.SourcedWords.{new_marks, new_words}
use Rattle.av_clock.proofs.sourced.SourcedClock.new.Goals as goal

pub invariant_of-result : goal.invariant_of-result
invariant_of-result c =
    let same : c.in_ok-merged.merged.sources.items ≡ c.in_ok-sources.sources.items = search (rules, same_from_all_zip) in
    record {
      sound = c.requires;
      sources = subst (AreMerged c.args.of.now) same c.in_ok-merged.ensures.sources;
      engine = record { of = c.in_ok-engine.ensures.of ∙ ap (merged c.args.of.now) same; whole = c.is_whole.ensures };
    }

pub returns-clause-words : goal.returns-clause-words
returns-clause-words c =
    let same : c.in_ok-merged.merged.sources.items ≡ c.in_ok-sources.sources.items = search (rules, same_from_all_zip) in
    new_words c.args.of.now c.in_ok-sources.sources.items c.in_ok-engine.engine (subst (AreMerged c.args.of.now) same c.in_ok-merged.ensures.sources) c.in_ok-engine.ensures.words

pub returns-clause-marked : goal.returns-clause-marked
returns-clause-marked c =
    let same : c.in_ok-merged.merged.sources.items ≡ c.in_ok-sources.sources.items = search (rules, same_from_all_zip) in
    new_marks c.args.of.now c.in_ok-sources.sources.items c.in_ok-engine.engine (subst (λ (sources : List ℕ). c.in_ok-engine.engine.marked ≡ replicate (length (merged c.args.of.now sources).drives) true) same c.in_ok-engine.ensures.marked)
