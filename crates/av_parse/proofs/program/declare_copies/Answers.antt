use Rattle.std.proofs.Common.{[], ◌∷◌, ◌++◌, ap, ◌∙◌}
use Rattle.av_lex.specs.Lexing.{view}
use Rattle.av_tree.specs.Grammar.{declared}
use Rattle.av_parse.proofs.Declarations.{declared_step}
use Rattle.av_parse.proofs.program.declare_copies.Goals as goal

pub loop-token-preserved : goal.loop-token-preserved
loop-token-preserved c =
    let made = rw (c.in_ok-from_ascii.ensures, c.in_ok-domain.ensures) at c.in_ok-push.ensures.ok in
    let step = made ∙ ap (λ t. c.loop-token.found ++ declared c.args.domain.now c.args.width (view t ∷ [])) c.token-item.is in
    declared_step c.args.found.now c.loop-token.found _ c.args.domain.now c.args.width c.args.names.now c.loop-token.token-index c.token-item.result c.loop-token-test.true c.loop-token.invariant step
