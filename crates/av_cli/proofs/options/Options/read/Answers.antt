use Rattle.std.proofs.Common.{sym, subst, drop}
use Rattle.av_cli.specs.Commands.{Options, Say}
use Rattle.av_cli.specs.inner.CommandsSeen.{seen}
use Rattle.av_cli.proofs.OptionWords.{if_none, width_steps, width_said, box_steps, box_said}
use Rattle.av_cli.proofs.options.Options.read.Goals as goal

pub returns-in_err-with_width-clause-unread : goal.returns-in_err-with_width-clause-unread
returns-in_err-with_width-clause-unread c =
    if_none c.from_residual.result _ c.from_residual.ensures
    (λ p say. let s = width_said (seen c.args.self) p (drop c.args.at c.args.words.now) c.in-Some.digits.now (drop c.in-Some.next c.args.words.now) c.in-Some.ensures.found.2 say in
    c.in_err-with_width.ensures.none s.0 s.1 s.2)

pub returns-in-Some-clause-read : goal.returns-in-Some-clause-read
returns-in-Some-clause-read c =
    let found = c.in-Some.ensures.found in
    let (none, (n, spelled, e)) = c.in_ok-with_width.ensures.with in (
      found.0,
      found.1,
      λ p.
          subst (λ (o : Options). (Say (seen c.args.self) (drop c.args.at c.args.words.now) p → Say o (drop c.in-Some.next c.args.words.now) p) × (Say o (drop c.in-Some.next c.args.words.now) p → Say (seen c.args.self) (drop c.args.at c.args.words.now) p)) (sym e)
          (width_steps (seen c.args.self) p (drop c.args.at c.args.words.now) c.in-Some.digits.now (drop c.in-Some.next c.args.words.now) n found.2 none spelled),
    )

pub returns-in_err-with_box-clause-unread : goal.returns-in_err-with_box-clause-unread
returns-in_err-with_box-clause-unread c =
    if_none c.from_residual-in_err-with_box.result _ c.from_residual-in_err-with_box.ensures
    (λ p say. let s = box_said (seen c.args.self) p (drop c.args.at c.args.words.now) c.in-Some-option_at.digits.now (drop c.in-Some-option_at.next c.args.words.now) c.in-Some-option_at.ensures.found.2 say in
    c.in_err-with_box.ensures.none s.0 s.1 s.2)

pub returns-in-Some-option_at-clause-read : goal.returns-in-Some-option_at-clause-read
returns-in-Some-option_at-clause-read c =
    let found = c.in-Some-option_at.ensures.found in
    let (none, (n, spelled, e)) = c.in_ok-with_box.ensures.with in (
      found.0,
      found.1,
      λ p.
          subst (λ (o : Options). (Say (seen c.args.self) (drop c.args.at c.args.words.now) p → Say o (drop c.in-Some-option_at.next c.args.words.now) p) × (Say o (drop c.in-Some-option_at.next c.args.words.now) p → Say (seen c.args.self) (drop c.args.at c.args.words.now) p)) (sym e)
          (box_steps (seen c.args.self) p (drop c.args.at c.args.words.now) c.in-Some-option_at.digits.now (drop c.in-Some-option_at.next c.args.words.now) n found.2 none spelled),
    )
