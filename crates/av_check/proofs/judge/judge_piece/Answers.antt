use Rattle.std.proofs.Common.{map}
use Rattle.std.proofs.lemmas.Result.{IfOk-weaker}
use Rattle.av_flat.specs.Trees.{view, view_variable, restriction}
use Rattle.av_flat.specs.Signatures.{signature}
use Rattle.av_check.specs.inner.Verdicts.{IsVerdict}
use Rattle.av_check.proofs.Judging.{inside, outside, has_true, has_false}
use Rattle.av_check.proofs.judge.judge_piece.Goals as goal

pub returns-then-contains : goal.returns-then-contains
returns-then-contains c =
    let vs = map signature (map view_variable c.args.vars.now) in
    let d = c.args.piece.now.domain in
    let t = view c.args.piece.now.tree in
    let z = c.args.z.now in
    IfOk-weaker c.judge.result (IsVerdict vs t z) (IsVerdict vs (restriction d t) z)
    (λ v h. inside vs z d t v (has_true d z c.contains.result c.contains.ensures c.if-contains.true) h) c.judge.ensures

pub returns-else-contains : goal.returns-else-contains
returns-else-contains c =
    outside (map signature (map view_variable c.args.vars.now)) c.args.z.now c.args.piece.now.domain (view c.args.piece.now.tree)
    (has_false c.args.piece.now.domain c.args.z.now c.contains.result c.contains.ensures c.if-contains.false)
