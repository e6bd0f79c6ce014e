use Rattle.std.proofs.Common.{rules, ◌+◌, ◌≤◌, ℕ, List, length, refl, sym, subst, arith}
use Rattle.av_space.specs.declared.runs.SiteRun.{SiteRun}
use Rattle.av_space.specs.inner.Runs.{AreNodeRunsTo}
use Rattle.av_space.proofs.ByPlace.{read_at}
use Rattle.av_space.proofs.SiteRuns.{no_node, one_more_node}
use Rattle.av_space.proofs.runs.node_runs.Goals as goal

pub loop-own-init : goal.loop-own-init
loop-own-init c = subst (λ (runs : List (List SiteRun)). AreNodeRunsTo c.args.sites.now 0 runs) (sym c.new-runs.ensures) (no_node c.args.sites.now)

pub loop-own-preserved : goal.loop-own-preserved
loop-own-preserved c =
    let sites = c.args.sites.now in
    let k = c.loop-own.own-index in
    let own = c.own-item.result in
    let here = read_at sites sites k own refl c.loop-own-test.true c.own-item.is in
    subst (λ (runs : List (List SiteRun)). AreNodeRunsTo sites (k + 1) runs) (sym c.in_ok-push.ensures.ok) (one_more_node sites k c.loop-own.runs own c.in_ok-some.some here c.in_ok-some.ensures c.loop-own.invariant)

pub returns : goal.returns
returns c =
    let over : length c.args.sites.now ≤ c.loop-own.own-index = search rules in
    let within = c.loop-own.invariant.within in
    subst (λ (n : ℕ). AreNodeRunsTo c.args.sites.now n c.loop-own.runs) (omega (arith, over, within)) c.loop-own.invariant
