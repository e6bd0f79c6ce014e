use Rattle.std.proofs.Common.{List, map, sym, subst, arith}
use Rattle.std.proofs.lemmas.List.{length-map}
use Rattle.av_space.specs.declared.runs.SiteRun.{SiteRun}
use Rattle.av_space.specs.inner.Runs.{IsSiteRun}
use Rattle.av_space.specs.inner.Sites.{TapMade, tap_of}
use Rattle.av_space.proofs.SiteRuns.{AreRunsTo, one_more_run, all_runs}
use Rattle.av_space.proofs.runs.runs_of.Goals as goal

pub loop-first-preserved : goal.loop-first-preserved
loop-first-preserved c =
    let sites = c.args.sites.now in
    let taps = map tap_of sites in
    let run : SiteRun = record { first = c.loop-first.first; end = c.run_end-end.result } in
    let is : IsSiteRun taps run.first run.end = subst (λ (ts : List TapMade). IsSiteRun (map tap_of ts) run.first run.end) c.as_slice.ensures c.run_end-end.ensures in
    let size = length-map sites tap_of in
    let within = is.within in (
      subst (AreRunsTo taps run.end) (sym c.in_ok-push.ensures.ok) (one_more_run taps c.loop-first.runs run is c.loop-first.invariant.0),
      omega (arith, size, within),
    )

pub returns : goal.returns
returns c =
    let size = length-map c.args.sites.now tap_of in
    let done = c.loop-first-test.false in
    let most = c.loop-first.invariant.1 in
    all_runs (map tap_of c.args.sites.now) c.loop-first.first c.loop-first.runs (omega (arith, size, done, most)) c.loop-first.invariant.0
