use Rattle.std.proofs.Common.{map, sym, subst, arith}
use Rattle.av_base.proofs.Lists.{all_at, get_mapped}
use Rattle.av_net.specs.Presented.{HaveFittingWords}
use Rattle.av_commands.proofs.Fed.{at_index}
use Rattle.av_commands.proofs.LanesFed.{AreFed, none_fed, fed_more}
use Rattle.av_commands.proofs.lane_showing.feed_sets.Goals as goal

pub feed-requires-clause-words : goal.feed-requires-clause-words
feed-requires-clause-words g c =
    let sets = c.args.sets.now in
    let set = c.set-item.result in
    all_at (λ x. HaveFittingWords c.args.design.now (g.D.Data.words x)) sets c.loop-set.set-index set c.requires.words (at_index sets c.loop-set.set-index set c.loop-set-test.true c.set-item.is)

pub loop-set-init : goal.loop-set-init
loop-set-init g c =
    let xs = map g.D.Data.words c.args.sets.now in
    subst (AreFed c.args.design.now c.args.cycles xs 0) (sym c.new-stimuli.ensures) (none_fed c.args.design.now c.args.cycles xs)

pub loop-set-preserved : goal.loop-set-preserved
loop-set-preserved g c =
    let sets = c.args.sets.now in
    let n = c.loop-set.set-index in
    let set = c.set-item.result in
    let at = at_index sets n set c.loop-set-test.true c.set-item.is in
    fed_more c.args.design.now c.args.cycles (map g.D.Data.words sets) n c.loop-set.stimuli c.push.new.self (g.D.Data.words set) c.in_ok-feed.field-0 c.loop-set.invariant (get_mapped g.D.Data.words sets n set at)
    c.in_ok-feed.ensures.cycles c.in_ok-feed.ensures.values c.in_ok-push.ensures.ok

pub returns-clause-count : goal.returns-clause-count
returns-clause-count g c =
    let many = c.loop-set.invariant.many in
    let test = c.loop-set-test.false in
    let end = c.loop-set.auto.set-index-end in
    omega (arith, many, test, end)

pub returns-clause-cycles : goal.returns-clause-cycles
returns-clause-cycles g c = c.loop-set.invariant.cycles_are

pub returns-clause-values : goal.returns-clause-values
returns-clause-values g c = λ k x s at there. c.loop-set.invariant.each k (g.D.Data.words x) s (get_mapped g.D.Data.words c.args.sets.now k x at) there
