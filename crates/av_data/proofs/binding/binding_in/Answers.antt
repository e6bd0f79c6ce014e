use Rattle.std.proofs.Common.{◌∙◌}
use Rattle.std.proofs.lemmas.Option.{IfSome_then}
use Rattle.av_poly.proofs.Searching.{none_weaker}
use Rattle.av_data.proofs.Sentence.{begin_none, begin_is}
use Rattle.av_data.proofs.Worded.{read_only, read_none}
use Rattle.av_data.proofs.binding.binding_in.Goals as goal

pub returns-then-begins_point-clause-some : goal.returns-then-begins_point-clause-some
returns-then-begins_point-clause-some c =
    IfSome_then c.binding_behind.result c.binding_behind.ensures.some (λ s e. (
      e.0,
      e.1,
      read_only c.args.width.bits c.args.line.now (record { name = s.name.now; point = e.0; word = s.word.bits })
          (begin_is c.args.width.bits c.args.line.now _ _ _ _ _ c.begins_point.result c.uncommented.ensures c.first_piece.ensures.piece c.first_piece.ensures.rest c.first_piece-2.ensures.piece c.first_piece-2.ensures.rest c.begins_point.ensures c.if-begins_point.true ∙ e.2),
    ))

pub returns-then-begins_point-clause-none : goal.returns-then-begins_point-clause-none
returns-then-begins_point-clause-none c =
    none_weaker _ _ (λ none. read_none c.args.width.bits c.args.line.now
    (begin_is c.args.width.bits c.args.line.now _ _ _ _ _ c.begins_point.result c.uncommented.ensures c.first_piece.ensures.piece c.first_piece.ensures.rest c.first_piece-2.ensures.piece c.first_piece-2.ensures.rest c.begins_point.ensures c.if-begins_point.true ∙ none))
    c.binding_behind.result c.binding_behind.ensures.none

pub returns-else-begins_point-clause-none : goal.returns-else-begins_point-clause-none
returns-else-begins_point-clause-none c =
    read_none c.args.width.bits c.args.line.now
    (begin_none c.args.width.bits c.args.line.now _ _ _ _ c.begins_point.result c.uncommented.ensures c.first_piece.ensures.piece c.first_piece.ensures.rest c.first_piece-2.ensures.piece c.begins_point.ensures c.if-begins_point.false)
