use Rattle.std.proofs.Common.{◌≡◌, ◌∙◌, ◌<◌, ℕ, List, length, get_or, ap, sym, subst, arith, rules}
use Rattle.std.proofs.lemmas.Option.{slice_get-get_or}
use Rattle.std.proofs.lemmas.Grind.{common_steps}
use Rattle.av_base.proofs.Lists.{each_at}
use Rattle.av_kinds.specs.Written.{LaneMade, ProgramMade}
use Rattle.av_kinds.proofs.TopSteps.{width_put}
use Rattle.av_kinds.proofs.top.output_widths.Goals as goal

pub loop-number-preserved : goal.loop-number-preserved
loop-number-preserved c =
    let program = c.args.program.now in
    let n = c.loop-number.number-index in
    let all : c.as_slice-lanes.result.now ≡ program.lanes = c.as_slice-lanes.ensures ∙ ap (λ (p : ProgramMade). p.lanes) c.program.view_is in
    let items : c.as_slice-number-items.result.now ≡ program.outputs = c.as_slice-number-items.ensures ∙ ap (λ (p : ProgramMade). p.outputs) c.program.view_is in
    let within : n < length c.as_slice-number-items.result.now = search rules in
    let below : n < length program.outputs = omega (arith, within, ap (λ (xs : List ℕ). length xs) items) in
    let q = get_or c.as_slice-number-items.result.now n 0 in
    let same : q ≡ get_or program.outputs n 0 = ap (λ (xs : List ℕ). get_or xs n 0) items in
    let there : q < length program.lanes = subst (λ i. i < length program.lanes) (sym same) (each_at (λ i. i < length program.lanes) program.outputs n (get_or program.outputs n 0) c.requires (slice_get-get_or program.outputs n 0 below)) in
    let x = c.index-lanes-number.result in
    width_put program program.outputs n q x c.loop-number.widths c.push.new.self c.lane.inside.width below same there (c.index-lanes-number.is ∙ ap (λ (xs : List LaneMade). get_or xs q x) all)
    c.loop-number.invariant (ap (λ (l : LaneMade). l.width) c.lane.view_is) c.in_ok-push.ensures.ok

pub bounds-lanes-number : goal.bounds-lanes-number
bounds-lanes-number c = grind (arith, common_steps)

pub offset_bounds-lanes-number : goal.offset_bounds-lanes-number
offset_bounds-lanes-number c = grind (arith, common_steps)
