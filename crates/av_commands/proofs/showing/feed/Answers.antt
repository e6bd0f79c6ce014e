use Rattle.std.proofs.Common.{◌≡◌, ℕ, Some, length, slice_get, sym, ap, ◌∙◌, subst, arith, List}
use Rattle.av_net.specs.declared.netlist.Port.{Port}
use Rattle.av_net.specs.declared.design.Entry.{Entry}
use Rattle.av_net.specs.Names.{names_of, AreDistinct}
use Rattle.av_net.specs.Presented.{HasFittingWord}
use Rattle.av_commands.specs.inner.Feeding.{IsOfLine, AreOfLines}
use Rattle.av_wave.proofs.Presenting.{inputs_apart}
use Rattle.av_wave.proofs.Driven.{few_names}
use Rattle.av_commands.proofs.Fed.{at_index, some_there, given_more}
use Rattle.av_commands.proofs.showing.feed.Goals as goal
use Rattle.av_base.proofs.Lists.{all_at}

pub port_places-requires : goal.port_places-requires
port_places-requires g c = subst (λ (ps : List Port). AreDistinct (names_of ps)) (sym c.as_slice.ensures) (inputs_apart c.args.design.now.module c.requires.sound.sound)

pub given_of-requires-clause-few : goal.given_of-requires-clause-few
given_of-requires-clause-few g c = few_names c.args.design.now.module.inputs c.in_ok-ports.ports (c.in_ok-ports.ensures ∙ ap names_of c.as_slice.ensures) c.are_numbered.ensures

pub given_of-requires-clause-some : goal.given_of-requires-clause-some
given_of-requires-clause-some g c =
    let d = c.args.design.now in
    let x = g.D.Data.words c.args.values.now in
    let line = c.line-item.result in
    let n = c.loop-line.line-index in
    let there : slice_get d.listing.ins n ≡ Some line = ap (λ (ls : List Entry). slice_get ls n) (sym c.as_slice-line-items.ensures) ∙ at_index c.as_slice-line-items.result.now n line c.loop-line-test.true c.line-item.is in
    some_there (x line.variable line.point) (let fits = all_at (HasFittingWord d.module.inputs x) d.listing.ins n line c.requires.words there in (fits.0, fits.1))

pub loop-line-preserved : goal.loop-line-preserved
loop-line-preserved g c =
    let d = c.args.design.now in
    let x = g.D.Data.words c.args.values.now in
    let line = c.line-item.result in
    let n = c.loop-line.line-index in
    let there : slice_get d.listing.ins n ≡ Some line = ap (λ (ls : List Entry). slice_get ls n) (sym c.as_slice-line-items.ensures) ∙ at_index c.as_slice-line-items.result.now n line c.loop-line-test.true c.line-item.is in
    let given = c.given_of.result in
    let of_line : IsOfLine d x line given = record {
      cycle = c.given_of.ensures.cycle;
      port = subst (λ (names : List (List ℕ)). slice_get names given.port ≡ Some line.wire) (c.in_ok-ports.ensures ∙ ap names_of c.as_slice.ensures) c.given_of.ensures.port;
      word = c.given_of.ensures.word;
    } in
    given_more d x n c.loop-line.timeline line given c.loop-line.invariant of_line there c.requires.apart c.give.new.self c.in_ok-give.ensures.all

pub returns-clause-values : goal.returns-clause-values
returns-clause-values g c =
    let d = c.args.design.now in
    let x = g.D.Data.words c.args.values.now in
    let all : c.loop-line.line-index ≡ length d.listing.ins = (let a = ap length c.as_slice-line-items.ensures in let t = c.loop-line-test.false in let e = c.loop-line.auto.line-index-end in omega (arith, a, t, e)) in
    subst (λ (n : ℕ). AreOfLines d x n c.in_ok-list.field-0) all (subst (AreOfLines d x c.loop-line.line-index) (sym c.in_ok-list.ensures) c.loop-line.invariant)
