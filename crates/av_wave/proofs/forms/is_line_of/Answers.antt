use Rattle.std.proofs.Common.{◌++◌, sym, ap, ◌∙◌}
use Rattle.std.specs.Prelude.{codes}
use Rattle.std.proofs.lemmas.Bool.Decides.{Decides-eqb}
use Rattle.std.proofs.lemmas.List.{append_cancel_left}
use Rattle.std.proofs.lemmas.Slice.Eq.{slice_eq-Decides}
use Rattle.av_wave.proofs.forms.is_line_of.Goals as goal

pub returns-in-Some : goal.returns-in-Some
returns-in-Some c =
    let digits = c.args.digits.now in
    let rest = c.in-Some.rest.now in
    let both = slice_eq-Decides Decides-eqb rest c.as_slice.result.now c.eq.result c.eq.ensures in (
      λ yes. c.in-Some.ensures ∙ ap (λ piece. digits ++ piece) (both.0 yes ∙ c.as_slice.ensures),
      λ e. both.1 (append_cancel_left digits rest (codes "\n") (sym c.in-Some.ensures ∙ e) ∙ sym c.as_slice.ensures),
    )
