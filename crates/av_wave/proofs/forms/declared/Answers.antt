use Rattle.std.proofs.Common.{ℕ, List, ◌∷◌, ◌++◌, sym, ap, ◌∙◌}
use Rattle.std.specs.Prelude.{codes, decimal}
use Rattle.av_wave.proofs.OneForm.{port_rest, port_parts}
use Rattle.av_wave.proofs.Parting.{declares_some, wire_next, width_next, code_next, blank_next}
use Rattle.av_wave.proofs.forms.declared.Goals as goal

pub returns-in_err-behind-clause-none : goal.returns-in_err-behind-clause-none
returns-in_err-behind-clause-none c =
    rw c.from_residual.ensures
    (λ port named e.
    let rest = decimal port.width.bits ++ 32 ∷ port_rest c.args.number port.name in
    c.in_err-behind.ensures rest (e ∙ port_parts c.args.number port ∙ ap (λ piece. piece ++ rest) (sym c.as_slice.ensures)))

pub returns-in_err-width-clause-none : goal.returns-in_err-width-clause-none
returns-in_err-width-clause-none c =
    let first = c.in_ok-behind.field-0.now in
    let wire = c.in_ok-behind.ensures ∙ ap (λ piece. piece ++ first) c.as_slice.ensures in
    rw c.from_residual-in_err-width.ensures
    (λ port named e. c.in_err-width.ensures.none port.width (port_rest c.args.number port.name) (wire_next c.args.line.now first c.args.number port wire e))

pub returns-in_err-text-clause-none : goal.returns-in_err-text-clause-none
returns-in_err-text-clause-none c =
    let number = c.args.number in
    let first = c.in_ok-behind.field-0.now in
    let second = c.in_ok-width.text.now in
    let wire = c.in_ok-behind.ensures ∙ ap (λ piece. piece ++ first) c.as_slice.ensures in
    rw c.from_residual-in_err-text.ensures
    (λ port named e.
    let behind = width_next first second number c.in_ok-width.width port c.in_ok-width.ensures.some (wire_next c.args.line.now first number port wire e) in
    let rest : List ℕ = 32 ∷ (port.name ++ codes " $end\n") in
    c.in_err-text.ensures rest (behind ∙ ap (λ piece. piece ++ rest) (sym c.new.ensures ∙ sym c.as_bytes.ensures)))

pub returns-in_err-behind-2-clause-none : goal.returns-in_err-behind-2-clause-none
returns-in_err-behind-2-clause-none c =
    let number = c.args.number in
    let first = c.in_ok-behind.field-0.now in
    let second = c.in_ok-width.text.now in
    let third = c.in_ok-text.text.now in
    let wire = c.in_ok-behind.ensures ∙ ap (λ piece. piece ++ first) c.as_slice.ensures in
    let coded = c.in_ok-text.ensures ∙ ap (λ piece. piece ++ third) (c.as_bytes.ensures ∙ c.new.ensures) in
    rw c.from_residual-in_err-behind-2.ensures
    (λ port named e.
    let behind = width_next first second number c.in_ok-width.width port c.in_ok-width.ensures.some (wire_next c.args.line.now first number port wire e) in
    let rest = port.name ++ codes " $end\n" in
    c.in_err-behind-2.ensures rest (code_next second third number port coded behind ∙ ap (λ piece. piece ++ rest) (sym c.as_slice-2.ensures)))

pub returns-in_err-name-clause-none : goal.returns-in_err-name-clause-none
returns-in_err-name-clause-none c =
    let number = c.args.number in
    let first = c.in_ok-behind.field-0.now in
    let second = c.in_ok-width.text.now in
    let third = c.in_ok-text.text.now in
    let fourth = c.in_ok-behind-2.field-0.now in
    let wire = c.in_ok-behind.ensures ∙ ap (λ piece. piece ++ first) c.as_slice.ensures in
    let coded = c.in_ok-text.ensures ∙ ap (λ piece. piece ++ third) (c.as_bytes.ensures ∙ c.new.ensures) in
    let blank = c.in_ok-behind-2.ensures ∙ ap (λ piece. piece ++ fourth) c.as_slice-2.ensures in
    rw c.from_residual-in_err-name.ensures
    (λ port named e.
    let behind = width_next first second number c.in_ok-width.width port c.in_ok-width.ensures.some (wire_next c.args.line.now first number port wire e) in
    c.in_err-name.ensures.none port.name named (blank_next third fourth port blank (code_next second third number port coded behind)))

pub returns-clause-some : goal.returns-clause-some
returns-clause-some c =
    let first = c.in_ok-behind.field-0.now in
    let second = c.in_ok-width.text.now in
    let third = c.in_ok-text.text.now in
    let fourth = c.in_ok-behind-2.field-0.now in
    let found = c.in_ok-name.ensures.some in (
      found.0,
      declares_some c.args.line.now first second third fourth c.in_ok-name.name.now c.args.number c.in_ok-width.width
          (record {
            wire = c.in_ok-behind.ensures ∙ ap (λ piece. piece ++ first) c.as_slice.ensures;
            bits = c.in_ok-width.ensures.some;
            named = c.in_ok-text.ensures ∙ ap (λ piece. piece ++ third) (c.as_bytes.ensures ∙ c.new.ensures);
            blank = c.in_ok-behind-2.ensures ∙ ap (λ piece. piece ++ fourth) c.as_slice-2.ensures;
          })
          found.1,
    )
