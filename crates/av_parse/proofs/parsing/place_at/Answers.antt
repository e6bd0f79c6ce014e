use Rattle.std.proofs.Common.{◌∙◌, ap, arith}
use Rattle.std.proofs.lemmas.List.{take_rest}
use Rattle.av_lex.specs.Lexing.{views}
use Rattle.av_parse.specs.inner.Reader.{place_of}
use Rattle.av_parse.proofs.Views.{left_behind}
use Rattle.av_parse.proofs.parsing.place_at.Goals as goal

pub returns : goal.returns
returns c = λ before rest split count.
    c.first_place.ensures ∙ (ap (λ z. place_of (views z)) (take_rest c.args.tokens.now c.saturating_sub-passed.result) ∙
    left_behind c.args.tokens.now before rest c.saturating_sub-passed.result split (omega (arith, count, c.saturating_sub-passed.ensures)))
