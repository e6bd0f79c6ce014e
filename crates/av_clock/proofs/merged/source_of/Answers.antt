use Rattle.std.proofs.Common.{◌≡◌, ◌∙◌, sym, inr}
use Rattle.av_clock.specs.inner.Keys.{key_of}
use Rattle.av_clock.proofs.Merging.{equal_found}
use Rattle.av_clock.proofs.merged.source_of.Goals as goal

pub returns-then-is_same : goal.returns-then-is_same
returns-then-is_same c =
    let same : key_of c.index-merged-first.result ≡ key_of c.args.assignment.now = sym c.of.ensures ∙ c.is_same.ensures c.if-is_same.true ∙ c.requires in
    inr (inr (equal_found c.args.merged.now c.args.assignment.now c.index-merged-first.result c.args.first c.if-first-merged.true c.index-merged-first.is same))
