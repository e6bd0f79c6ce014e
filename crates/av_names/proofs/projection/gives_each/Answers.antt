use Rattle.std.proofs.Common.{ap, sym, ◌∙◌, option_map}
use Rattle.av_tree.specs.Rows.{is_index}
use Rattle.av_names.specs.Reductions.{plain_name}
use Rattle.av_names.proofs.Given.{gives_other, gives_twice, gives_more}
use Rattle.av_names.proofs.Repeats.{was_there, was_new}
use Rattle.av_names.proofs.projection.gives_each.Goals as goal

pub returns-then-not-is_among : goal.returns-then-not-is_among
returns-then-not-is_among c =
    gives_other c.args.own.now c.args.before.now c.loop-entry.before c.args.results.now c.loop-entry.entry-index c.entry-item.result c.in-Some.name.now c.loop-entry-test.true c.entry-item.is
    (sym (ap plain_name c.as_slice.ensures) ∙ sym c.plain_name.ensures ∙ ap (option_map (λ n. n.now)) c.in-Some.is)
    (sym c.is_among.ensures ∙ c.if-not-is_among.true) c.loop-entry.invariant

pub returns-then-not-branch : goal.returns-then-not-branch
returns-then-not-branch c =
    gives_twice c.args.own.now c.args.before.now c.loop-entry.before c.args.results.now c.loop-entry.entry-index c.entry-item.result c.in-Some.name.now c.loop-entry-test.true c.entry-item.is
    (sym (ap plain_name c.as_slice.ensures) ∙ sym c.plain_name.ensures ∙ ap (option_map (λ n. n.now)) c.in-Some.is)
    (was_there c.in_ok-put_name-in-Some.field-0 (is_index c.loop-entry.before c.in-Some.name.now) c.in_ok-put_name-in-Some.ensures.added c.if-not-branch.true) c.loop-entry.invariant

pub loop-entry-preserved : goal.loop-entry-preserved
loop-entry-preserved c =
    gives_more c.args.own.now c.args.before.now c.loop-entry.before c.put_name.new.set c.args.results.now c.loop-entry.entry-index c.entry-item.result c.in-Some.name.now c.loop-entry-test.true c.entry-item.is
    (sym (ap plain_name c.as_slice.ensures) ∙ sym c.plain_name.ensures ∙ ap (option_map (λ n. n.now)) c.in-Some.is)
    (sym c.is_among.ensures ∙ c.if-not-is_among.false)
    (was_new c.in_ok-put_name-in-Some.field-0 (is_index c.loop-entry.before c.in-Some.name.now) c.in_ok-put_name-in-Some.ensures.added c.if-not-branch.false)
    c.in_ok-put_name-in-Some.ensures.names c.loop-entry.invariant
