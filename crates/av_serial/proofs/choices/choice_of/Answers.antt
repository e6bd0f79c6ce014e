use Rattle.std.proofs.Common.{◌≡◌, pos, List, [], get_or, ap, ◌∙◌}
use Rattle.av_affine.specs.declared.form.Form.{Form}
use Rattle.av_poly.specs.Points.{Set}
use Rattle.av_serial.specs.Lines.{map_over, bound}
use Rattle.av_serial.specs.inner.Lowered.{lowered}
use Rattle.av_poly.specs.Preimages.{rows_before}
use Rattle.av_serial.proofs.Lowering.{choice_is, over_bound}
use Rattle.av_serial.proofs.choices.choice_of.Goals as goal

pub preimage-requires-clause-map : goal.preimage-requires-clause-map
preimage-requires-clause-map c =
    over_bound c.args.map.now c.args.domain.now.rows c.as_slice-rows.result.now c.args.place (record { coef = []; constant = pos 0 }) c.bound.result c.map_over-last.result
    c.requires.projection c.requires.from c.requires.rows c.requires.within (c.as_slice-rows.ensures ∙ ap (λ (s : Set). s.rows) c.domain.view_is) c.bound.ensures c.map_over-last.ensures

pub lower_first-requires-clause-last : goal.lower_first-requires-clause-last
lower_first-requires-clause-last c =
    over_bound c.args.map.now c.args.domain.now.rows c.as_slice-rows.result.now c.args.place (record { coef = []; constant = pos 0 }) c.bound.result c.map_over-last.result
    c.requires.projection c.requires.from c.requires.rows c.requires.within (c.as_slice-rows.ensures ∙ ap (λ (s : Set). s.rows) c.domain.view_is) c.bound.ensures c.map_over-last.ensures

pub returns : goal.returns
returns c =
    let rows = c.args.domain.now.rows in
    let none : Form = record { coef = []; constant = pos 0 } in
    let seen : c.as_slice-rows.result.now ≡ rows = c.as_slice-rows.ensures ∙ ap (λ (s : Set). s.rows) c.domain.view_is in
    choice_is c.args.map.now c.map_over-last.result c.set.inside.dim rows c.lower_first.new.images c.args.place none
    (c.map_over-last.ensures ∙ ap (map_over c.args.map.now) (c.bound.ensures ∙ ap (λ (rs : List Form). bound c.args.map.now (get_or rs c.args.place none)) seen))
    (ap (λ (s : Set). s.dim) c.set.view_is ∙ c.in_ok-set.ensures.dim)
    (c.lower_first.ensures.value ∙ ap (λ (rs : List Form). rows_before c.map_over-last.result (lowered c.args.map.now c.args.place rs)) seen)
