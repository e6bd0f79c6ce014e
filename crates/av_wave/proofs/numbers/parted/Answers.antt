use Rattle.std.proofs.Common.{◌++◌, ap, sym, ◌∙◌}
use Rattle.av_wave.proofs.Digits.{parted_is, parted_none}
use Rattle.av_wave.proofs.Ends.{to_end}
use Rattle.av_wave.proofs.numbers.parted.Goals as goal

pub returns-in_err-rest-clause-none : goal.returns-in_err-rest-clause-none
returns-in_err-rest-clause-none c =
    let text = c.args.text.now in
    let len = c.digits_len-len.result in
    rw c.from_residual.ensures (parted_none text len c.digits_len-len.ensures.len (λ rest e. c.in_err-rest.ensures rest (to_end text len ∙ e ∙ ap (λ piece. piece ++ rest) (sym c.as_slice.ensures))))

pub returns-clause-some : goal.returns-clause-some
returns-clause-some c =
    let text = c.args.text.now in
    let len = c.digits_len-len.result in
    parted_is text c.in_ok-rest.rest.now len c.digits_len-len.ensures.len (sym (to_end text len) ∙ c.in_ok-rest.ensures ∙ ap (λ piece. piece ++ c.in_ok-rest.rest.now) c.as_slice.ensures)
