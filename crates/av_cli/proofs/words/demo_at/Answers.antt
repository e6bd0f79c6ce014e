use Rattle.av_cli.specs.inner.CommandsSeen.{seen}
use Rattle.av_cli.proofs.OptionWords.{if_none}
use Rattle.av_cli.proofs.DemoPlaces.{said_behind}
use Rattle.av_cli.proofs.words.demo_at.Goals as goal

pub returns-in_err-options-clause-unread : goal.returns-in_err-options-clause-unread
returns-in_err-options-clause-unread c =
    if_none c.from_residual-in_err-options.result _ c.from_residual-in_err-options.ensures
    (λ bits box k is.
    let (o, say) = said_behind c.args.words.now c.args.at bits box k (seen c.in_ok-read_options.field-0) is c.in_ok-read_options.ensures.read in
    c.in_err-options.ensures.unread o say)
