use Rattle.std.proofs.Common.{◌≡◌, ℕ, ◌+◌, ◌*◌, ◌≤◌, Some, length, map, slice_get, sym, ap, ◌∙◌, subst, arith, List}
use Rattle.std.proofs.lemmas.List.{length-map}
use Rattle.av_base.proofs.Lists.{all_at, get_mapped}
use Rattle.av_net.specs.declared.netlist.Port.{Port}
use Rattle.av_net.specs.declared.design.Entry.{Entry}
use Rattle.av_net.specs.Names.{names_of, AreDistinct}
use Rattle.av_net.specs.Listed.{MayBeListed}
use Rattle.av_net.specs.Presented.{HasFittingWord, HaveFittingWords}
use Rattle.av_data.specs.declared.stimulus.Given.{Given}
use Rattle.av_commands.specs.inner.Streaming.{IsOfLater, AreOfProblems}
use Rattle.av_wave.proofs.Presenting.{inputs_apart}
use Rattle.av_wave.proofs.Driven.{few_names}
use Rattle.av_commands.proofs.Fed.{at_index, some_there}
use Rattle.av_commands.proofs.FedEach.{starts_within, none_given_yet, later_given_more, next_problem, all_problems, AreOfEarlier}
use Rattle.av_commands.proofs.showing.feed_each.Goals as goal

pub port_places-requires : goal.port_places-requires
port_places-requires g c = subst (λ (ps : List Port). AreDistinct (names_of ps)) (sym c.as_slice.ensures) (inputs_apart c.args.design.now.module c.requires.sound.sound)

pub given_of-given-requires-clause-few : goal.given_of-given-requires-clause-few
given_of-given-requires-clause-few g c = few_names c.args.design.now.module.inputs c.in_ok-ports.ports (c.in_ok-ports.ensures ∙ ap names_of c.as_slice.ensures) c.are_numbered.ensures

pub given_of-given-requires-clause-some : goal.given_of-given-requires-clause-some
given_of-given-requires-clause-some g c =
    let d = c.args.design.now in
    let problems = c.args.problems.now in
    let values = c.values-item.result in
    let line = c.line-item.result in
    let n = c.loop-line.line-index in
    let there : slice_get d.listing.ins n ≡ Some line = ap (λ (ls : List Entry). slice_get ls n) (sym c.as_slice-line-items.ensures) ∙ at_index c.as_slice-line-items.result.now n line c.loop-line-test.true c.line-item.is in
    let at = at_index problems c.loop-values.values-index values c.loop-values-test.true c.values-item.is in
    let fitting = all_at (λ v. HaveFittingWords d (g.D.Data.words v)) problems c.loop-values.values-index values c.requires.words at in
    let fits = all_at (HasFittingWord d.module.inputs (g.D.Data.words values)) d.listing.ins n line fitting there in
    some_there (g.D.Data.words values line.variable line.point) (fits.0, fits.1)

pub overflow_add-given : goal.overflow_add-given
overflow_add-given g c =
    let d = c.args.design.now in
    let line = c.line-item.result in
    let n = c.loop-line.line-index in
    let there : slice_get d.listing.ins n ≡ Some line = ap (λ (ls : List Entry). slice_get ls n) (sym c.as_slice-line-items.ensures) ∙ at_index c.as_slice-line-items.result.now n line c.loop-line-test.true c.line-item.is in
    let may = all_at (MayBeListed (names_of d.module.inputs)) d.listing.ins n line c.requires.sound.ins there in
    let low = c.loop-values-test.true in
    let begins = starts_within c.loop-values.values-index (length c.args.problems.now) c.args.period 8192 (omega (arith, low)) c.requires.few in
    let start = c.loop-values.invariant.start in
    let cycle = c.given_of-given.ensures.cycle in
    let most = may.cycle in
    omega (arith, cycle, most, start, begins)

pub overflow_add-start : goal.overflow_add-start
overflow_add-start g c =
    let low = c.loop-values-test.true in
    let begins = starts_within (c.loop-values.values-index + 1) (length c.args.problems.now) c.args.period 8192 (omega (arith, low)) c.requires.few in
    let start = c.loop-values.invariant.start in
    omega (arith, start, begins)

pub loop-values-init : goal.loop-values-init
loop-values-init g c =
    let d = c.args.design.now in
    let xs = map g.D.Data.words c.args.problems.now in
    record {
      start = omega arith;
      earlier = subst (AreOfEarlier d c.args.period xs 0 0) (sym c.new-timeline.ensures) (none_given_yet d c.args.period xs);
    }

pub loop-line-init : goal.loop-line-init
loop-line-init g c = c.loop-values.invariant.earlier

pub loop-line-preserved : goal.loop-line-preserved
loop-line-preserved g c =
    let d = c.args.design.now in
    let period = c.args.period in
    let problems = c.args.problems.now in
    let xs = map g.D.Data.words problems in
    let b = c.loop-values.values-index in
    let values = c.values-item.result in
    let line = c.line-item.result in
    let n = c.loop-line.line-index in
    let there : slice_get d.listing.ins n ≡ Some line = ap (λ (ls : List Entry). slice_get ls n) (sym c.as_slice-line-items.ensures) ∙ at_index c.as_slice-line-items.result.now n line c.loop-line-test.true c.line-item.is in
    let at = at_index problems b values c.loop-values-test.true c.values-item.is in
    let problem = get_mapped g.D.Data.words problems b values at in
    let found = c.given_of-given.result in
    let given : Given = record { cycle = found.cycle + c.loop-values.start; port = found.port; value = found.value } in
    let later : IsOfLater d (g.D.Data.words values) (b * period) line given = record {
      cycle = (let cycle = c.given_of-given.ensures.cycle in let start = c.loop-values.invariant.start in omega (arith, cycle, start));
      port = subst (λ (names : List (List ℕ)). slice_get names found.port ≡ Some line.wire) (c.in_ok-ports.ensures ∙ ap names_of c.as_slice.ensures) c.given_of-given.ensures.port;
      word = c.given_of-given.ensures.word;
    } in
    later_given_more d period xs b n c.loop-line.timeline (g.D.Data.words values) line given c.loop-line.invariant later problem there c.requires.apart c.give.new.self c.in_ok-give.ensures.all

pub loop-values-preserved : goal.loop-values-preserved
loop-values-preserved g c =
    let d = c.args.design.now in
    let xs = map g.D.Data.words c.args.problems.now in
    let all : length d.listing.ins ≤ c.loop-line.line-index = (let a = ap length c.as_slice-line-items.ensures in let t = c.loop-line-test.false in omega (arith, a, t)) in
    record {
      start = (let start = c.loop-values.invariant.start in omega (arith, start));
      earlier = next_problem d c.args.period xs c.loop-values.values-index c.loop-line.line-index c.loop-line.timeline all c.loop-line.invariant;
    }

pub returns-clause-values : goal.returns-clause-values
returns-clause-values g c =
    let d = c.args.design.now in
    let problems = c.args.problems.now in
    let xs = map g.D.Data.words problems in
    let all : length xs ≤ c.loop-values.values-index = (let many = length-map problems g.D.Data.words in let t = c.loop-values-test.false in omega (arith, many, t)) in
    subst (AreOfProblems d c.args.period xs) (sym c.in_ok-list.ensures) (all_problems d c.args.period xs c.loop-values.values-index c.loop-values.timeline all c.loop-values.invariant.earlier)
