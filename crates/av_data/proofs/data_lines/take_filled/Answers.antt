use Rattle.std.proofs.Common.{List, map, sym, ap, ◌∙◌}
use Rattle.std.specs.Prelude.{slice_get}
use Rattle.av_flat.specs.declared.flat.Var.{Var}
use Rattle.av_flat.specs.Sets.{IsBounded}
use Rattle.av_flat.specs.Trees.{Variable, view_system, view_variable}
use Rattle.av_flat.proofs.Bounded.{small_point}
use Rattle.av_data.proofs.VariableNames.{at_place_all}
use Rattle.av_data.proofs.Filled.{outside_cause, twice_cause, filled_taken}
use Rattle.av_data.proofs.data_lines.take_filled.Goals as goal

pub point_of-requires-clause-small : goal.point_of-requires-clause-small
point_of-requires-clause-small c =
    let u = view_variable c.variable_at.result.now in
    let p = c.in-Some-input_place.place.0 in
    small_point u.domain (at_place_all (λ (v : Variable). IsBounded v.domain) (view_system c.args.flat.now).variables p u c.requires.readable.bounded (ap (λ (vs : List Var). slice_get (map view_variable vs) p) (sym c.as_slice.ensures) ∙ c.variable_at.ensures))

pub returns-in_default-point_of-clause-err : goal.returns-in_default-point_of-clause-err
returns-in_default-point_of-clause-err c =
    let x = c.in-Some.binding in
    let p = c.in-Some-input_place.place.0 in
    outside_cause (view_system c.args.flat.now) c.requires.readable c.args.words.now c.args.line c.args.text.now c.requires.filled x.name.now x.entries.kept.items x.entries.far x.word.bits c.in-Some.ensures.some p
    (view_variable c.variable_at.result.now) c.in-Some-input_place.ensures.some (ap (λ (vs : List Var). slice_get (map view_variable vs) p) (sym c.as_slice.ensures) ∙ c.variable_at.ensures) c.in_default-point_of.ensures.none

pub returns-then-branch-clause-ok : goal.returns-then-branch-clause-ok
returns-then-branch-clause-ok c =
    let x = c.in-Some.binding in
    let p = c.in-Some-input_place.place.0 in
    filled_taken (view_system c.args.flat.now) c.requires.readable c.args.words.now c.args.line c.args.text.now c.requires.filled x.name.now x.entries.kept.items x.entries.far x.word.bits c.in-Some.ensures.some p
    (view_variable c.variable_at.result.now) c.in-Some-input_place.ensures.some (ap (λ (vs : List Var). slice_get (map view_variable vs) p) (sym c.as_slice.ensures) ∙ c.variable_at.ensures) c.in-Some-point_of.point
    c.in-Some-point_of.ensures.some c.give.new.self c.in_ok-give.field-0 c.if-branch.true c.in_ok-give.ensures.is_new c.in_ok-give.ensures.given

pub returns-else-branch-clause-err : goal.returns-else-branch-clause-err
returns-else-branch-clause-err c =
    let x = c.in-Some.binding in
    let p = c.in-Some-input_place.place.0 in
    twice_cause (view_system c.args.flat.now) c.requires.readable c.args.words.now c.args.line c.args.text.now c.requires.filled x.name.now x.entries.kept.items x.entries.far x.word.bits c.in-Some.ensures.some p
    (view_variable c.variable_at.result.now) c.in-Some-input_place.ensures.some (ap (λ (vs : List Var). slice_get (map view_variable vs) p) (sym c.as_slice.ensures) ∙ c.variable_at.ensures) c.in-Some-point_of.point
    c.in-Some-point_of.ensures.some c.in_ok-give.field-0 c.if-branch.false c.in_ok-give.ensures.is_new
