use Rattle.std.proofs.Common.{◌≡◌, ◌∙◌, List, [], ◌∷◌, ◌++◌, ℕ, ap}
use Rattle.std.specs.Prelude.{codes}
use Rattle.std.proofs.lemmas.Result.{on_ok_weaker}
use Rattle.av_base.specs.declared.width.Width.{Width}
use Rattle.av_net.specs.declared.operation.Operation.{Operation}
use Rattle.av_kinds.specs.Tops.{port}
use Rattle.av_kinds.proofs.Placing.{drive_of}
use Rattle.av_kinds.proofs.counter.add_begun_again.Goals as goal

pub returns-clause-wires : goal.returns-clause-wires
returns-clause-wires c =
    let put = c.in_ok-target.ensures.wires ∙ ap (λ (w : Width). c.args.wires.now ++ port w (codes "phase_next") ∷ []) c.counter_width.ensures in
    on_ok_weaker c.push.result (λ h. put) c.push.ensures.ok

pub returns-clause-drives : goal.returns-clause-drives
returns-clause-drives c =
    let d0 = c.args.drives.now in
    let named = ap (λ (t : List ℕ). d0 ++ drive_of t c.in_ok-operation.operation ∷ []) c.in_ok-target.ensures.name in
    let operated = ap (λ (o : Operation). d0 ++ drive_of (codes "phase_next") o ∷ []) c.in_ok-operation.ensures in
    on_ok_weaker c.push.result (λ h. h ∙ named ∙ operated) c.push.ensures.ok
