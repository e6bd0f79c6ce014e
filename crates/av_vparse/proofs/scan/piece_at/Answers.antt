use Rattle.std.proofs.Common.{subst, sym, ap, ◌∙◌, length, get_or, ◌-◌}
use Rattle.std.proofs.lemmas.List.{take_rest}
use Rattle.av_base.specs.Reading.{FitsIn}
use Rattle.av_net.specs.Lexemes.{design_texts}
use Rattle.av_vparse.specs.inner.Lexing.{scanner}
use Rattle.av_vparse.specs.inner.Scan.{piece_of}
use Rattle.av_base.proofs.Pieces.{piece_fits}
use Rattle.av_vparse.proofs.Longest.{finds}
use Rattle.av_vparse.proofs.scan.piece_at.Goals as goal

pub returns-clause-fits : goal.returns-clause-fits
returns-clause-fits c =
    let is = c.piece_of.ensures ∙ ap (piece_of (get_or c.args.text.now c.args.at 0)) (take_rest c.args.text.now c.args.at) in
    subst (λ z. FitsIn z (length c.args.text.now - c.args.at)) (sym is) (piece_fits design_texts scanner finds c.args.text.now c.args.at c.requires)
