use Rattle.std.proofs.Common.{ap, ◌∙◌}
use Rattle.std.proofs.lemmas.Option.{IfSome_then}
use Rattle.av_poly.proofs.Searching.{none_weaker}
use Rattle.av_data.specs.inner.Bindings.{signed_value, said_value}
use Rattle.av_data.proofs.Entered.{gives_none}
use Rattle.av_data.proofs.Sentence.{value_behind, no_value_behind, value_is, value_none}
use Rattle.av_data.proofs.binding.word_behind.Goals as goal

pub returns-in_err-whole_in-clause-none : goal.returns-in_err-whole_in-clause-none
returns-in_err-whole_in-clause-none c =
    gives_none c.from_residual.result (λ name z.
    value_behind c.args.width.bits c.args.text.now _ _ _ _ c.ends_line.result name z c.first_piece.ensures.piece c.first_piece.ensures.rest c.first_piece-2.ensures.piece c.first_piece-2.ensures.rest c.ends_line.ensures c.if-ends_line.true
    ∙ ap (said_value c.args.width.bits name z) c.in_err-whole_in.ensures.none)

pub returns-in_ok-whole_in-clause-some : goal.returns-in_ok-whole_in-clause-some
returns-in_ok-whole_in-clause-some c =
    let v = signed_value c.in_ok-whole_in.field-0.negative c.in_ok-whole_in.field-0.digits.now in
    IfSome_then c.word.result c.word.ensures.some (λ w e. λ name z.
    value_behind c.args.width.bits c.args.text.now _ _ _ _ c.ends_line.result name z c.first_piece.ensures.piece c.first_piece.ensures.rest c.first_piece-2.ensures.piece c.first_piece-2.ensures.rest c.ends_line.ensures c.if-ends_line.true
    ∙ ap (said_value c.args.width.bits name z) c.in_ok-whole_in.ensures.some ∙ value_is c.args.width.bits name z v w.bits e.0 e.1)

pub returns-in_ok-whole_in-clause-none : goal.returns-in_ok-whole_in-clause-none
returns-in_ok-whole_in-clause-none c =
    let v = signed_value c.in_ok-whole_in.field-0.negative c.in_ok-whole_in.field-0.digits.now in
    none_weaker _ _ (λ none. λ name z.
    value_behind c.args.width.bits c.args.text.now _ _ _ _ c.ends_line.result name z c.first_piece.ensures.piece c.first_piece.ensures.rest c.first_piece-2.ensures.piece c.first_piece-2.ensures.rest c.ends_line.ensures c.if-ends_line.true
    ∙ ap (said_value c.args.width.bits name z) c.in_ok-whole_in.ensures.some ∙ value_none c.args.width.bits name z v none) c.word.result c.word.ensures.none

pub returns-else-ends_line-clause-none : goal.returns-else-ends_line-clause-none
returns-else-ends_line-clause-none c = λ name z.
    no_value_behind c.args.width.bits c.args.text.now _ _ _ c.ends_line.result name z c.first_piece.ensures.piece c.first_piece.ensures.rest c.first_piece-2.ensures.rest c.ends_line.ensures c.if-ends_line.false
