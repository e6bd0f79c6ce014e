use Rattle.std.proofs.Common.{◌≡◌, ◌++◌, ◌∷◌, List, ℕ, sym, ap, ◌∙◌}
use Rattle.std.specs.Prelude.{codes}
use Rattle.std.proofs.lemmas.Option.{IfSome_then}
use Rattle.av_wave.proofs.Nones.{none_then}
use Rattle.av_wave.proofs.OneForm.{from_bit, from_vector}
use Rattle.av_wave.proofs.Parting.{says_line, says_vector, says_bit}
use Rattle.av_wave.proofs.forms.told_by.Goals as goal

pub returns-in_err-text-clause-none : goal.returns-in_err-text-clause-none
returns-in_err-text-clause-none c =
    rw c.from_residual.ensures (λ number value says. let one = says_line says in c.in_err-text.ensures one.0 (one.1 ∙ ap (λ piece. one.0 ++ piece) (sym c.as_slice.ensures)))

pub returns-in-Some-clause-some : goal.returns-in-Some-clause-some
returns-in-Some-clause-some c =
    let text = c.in_ok-text.text.now in
    let vector = c.in-Some.vector.now in
    let line : c.args.line.now ≡ text ++ codes "\n" = c.in_ok-text.ensures ∙ ap (λ piece. text ++ piece) c.as_slice.ensures in
    let first : text ≡ 98 ∷ vector = c.in-Some.ensures ∙ ap (λ piece. piece ++ vector) c.as_slice-2.ensures in
    IfSome_then c.vector_in.result c.vector_in.ensures.some (λ told says. from_vector (line ∙ ap (λ (t : List ℕ). t ++ codes "\n") first) says)

pub returns-in-Some-clause-none : goal.returns-in-Some-clause-none
returns-in-Some-clause-none c =
    let text = c.in_ok-text.text.now in
    let vector = c.in-Some.vector.now in
    let line : c.args.line.now ≡ text ++ codes "\n" = c.in_ok-text.ensures ∙ ap (λ piece. text ++ piece) c.as_slice.ensures in
    let first : text ≡ 98 ∷ vector = c.in-Some.ensures ∙ ap (λ piece. piece ++ vector) c.as_slice-2.ensures in
    none_then c.vector_in.result c.vector_in.ensures.none (λ none number value says. none number value (says_vector text vector line first says))

pub returns-in-None-clause-some : goal.returns-in-None-clause-some
returns-in-None-clause-some c =
    let text = c.in_ok-text.text.now in
    let line : c.args.line.now ≡ text ++ codes "\n" = c.in_ok-text.ensures ∙ ap (λ piece. text ++ piece) c.as_slice.ensures in
    IfSome_then c.bit_in.result c.bit_in.ensures.some (λ told says. from_bit line says)

pub returns-in-None-clause-none : goal.returns-in-None-clause-none
returns-in-None-clause-none c =
    let text = c.in_ok-text.text.now in
    let line : c.args.line.now ≡ text ++ codes "\n" = c.in_ok-text.ensures ∙ ap (λ piece. text ++ piece) c.as_slice.ensures in
    none_then c.bit_in.result c.bit_in.ensures.none
    (λ none number value says. none number value (says_bit text line (λ behind e. c.in-None.ensures behind (e ∙ ap (λ piece. piece ++ behind) (sym c.as_slice-2.ensures))) says))
