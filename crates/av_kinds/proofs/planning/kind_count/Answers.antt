use Rattle.std.proofs.Common.{◌≡◌, ◌∙◌, ◌+◌, ◌<◌, ℕ, List, length, get_or, max, ap, arith, rules}
use Rattle.std.proofs.lemmas.Grind.{common_steps}
use Rattle.av_kinds.specs.Written.{ProgramMade, program_of}
use Rattle.av_kinds.proofs.PlanSteps.{kind_counted, kind_small}
use Rattle.av_kinds.proofs.planning.kind_count.Goals as goal

pub loop-kind-preserved : goal.loop-kind-preserved
loop-kind-preserved c =
    let kinds = c.args.program.now.kinds in
    let k = c.loop-kind.kind-index in
    let items : c.as_slice-kind-items.result.now ≡ kinds = c.as_slice-kind-items.ensures ∙ ap (λ (p : ProgramMade). p.kinds) c.program.view_is in
    let within : k < length c.as_slice-kind-items.result.now = search rules in
    kind_counted kinds k c.loop-kind.count c.max-count.result (omega (arith, within, ap (λ (xs : List ℕ). length xs) items)) c.loop-kind.invariant
    (c.max-count.ensures ∙ ap (λ (xs : List ℕ). max c.loop-kind.count (get_or xs k 0 + 1)) items)

pub overflow_add-kind : goal.overflow_add-kind
overflow_add-kind c =
    let kinds = c.args.program.now.kinds in
    let k = c.loop-kind.kind-index in
    let items : c.as_slice-kind-items.result.now ≡ kinds = c.as_slice-kind-items.ensures ∙ ap (λ (p : ProgramMade). p.kinds) c.program.view_is in
    let own : c.program.inside.kinds ≡ kinds = ap (λ (p : ProgramMade). p.kinds) c.program.view_is in
    let within : k < length c.as_slice-kind-items.result.now = search rules in
    let below : k < length kinds = omega (arith, within, ap (λ (xs : List ℕ). length xs) items) in
    omega (arith, kind_small (program_of c.args.program.now) c.requires k below, ap (λ (xs : List ℕ). get_or xs k 0) items, c.len.ensures.most, ap (λ (xs : List ℕ). length xs) own)

pub returns : goal.returns
returns c = grind (arith, common_steps)

pub loop-kind-init : goal.loop-kind-init
loop-kind-init c = grind (arith, common_steps)
