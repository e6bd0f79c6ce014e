use Rattle.std.proofs.Common.{◌+◌, ◌∙◌, List, drop, get_or, sym, subst}
use Rattle.av_base.proofs.Lists.{same_default}
use Rattle.av_kinds.specs.declared.program.Selection.{Selection}
use Rattle.av_kinds.specs.declared.program.WordSource.TheVariants.{Word}
use Rattle.av_build.specs.declared.moments.Moment.{Moment}
use Rattle.av_build.specs.inner.Moments.{site_by}
use Rattle.av_build.proofs.SiteSteps.{IsSiteSoFar, same_next, other_next, whole_site}
use Rattle.av_build.proofs.moments.site.Goals as goal
use Rattle.av_build.proofs.moments.site.Goals.{then-not-same_source+in_ok-push, else-not-same_source}

abbrev none : Moment
none = record { number = 0; source = Word 0 }

pub loop-moment-preserved : goal.loop-moment-preserved
loop-moment-preserved c =
    let site = site_by c.args.inlet c.args.width c.args.moments.now in
    let rest = c.in-Some.rest.now in
    let n = c.loop-moment.moment-index in
    let last = c.loop-moment.last in
    let selections = c.loop-moment.selections in
    let m = get_or rest n none in
    let low = c.loop-moment-test.true in
    let is = same_default rest n none m low in
    elim c.if-not-same_source.branch [
      | then-not-same_source+in_ok-push w ↦
          subst (λ (l : List Selection). IsSiteSoFar c.args.inlet c.args.width c.args.moments.now l m (drop (n + 1) rest)) (sym w.selections-is)
          (other_next site.selections site.otherwise selections last rest n m low is c.loop-moment.invariant (sym c.same_source.ensures ∙ w.if-not-same_source.true) w.push.new.self w.in_ok-push.ensures.ok)
      | else-not-same_source w ↦
          subst (λ (l : List Selection). IsSiteSoFar c.args.inlet c.args.width c.args.moments.now l m (drop (n + 1) rest)) (sym w.selections-is)
          (same_next site.selections site.otherwise selections last rest n m low is c.loop-moment.invariant (sym c.same_source.ensures ∙ w.if-not-same_source.false))
    ]

pub returns : goal.returns
returns c = whole_site c.args.inlet c.args.width c.args.moments.now c.loop-moment.selections c.loop-moment.last c.in-Some.rest.now c.loop-moment.moment-index c.loop-moment-test.false c.loop-moment.invariant
