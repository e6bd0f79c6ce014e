use Rattle.std.proofs.Common.{◌≡◌, ℕ, sym, ap, ◌∙◌, arith, false, true≢false}
use Rattle.std.proofs.lemmas.Bool.Decides.{Decides-eqb}
use Rattle.std.proofs.lemmas.Slice.Eq.{slice_eq-Decides}
use Rattle.av_wave.specs.Dumps.{code}
use Rattle.av_wave.specs.inner.Codes.{code_value}
use Rattle.av_wave.proofs.Codes.{code_read}
use Rattle.av_wave.proofs.code.port_of.Goals.{else-port-limit-via-then-port-limit+else-eq, else-port-limit-via-else-port-limit}
use Rattle.av_wave.proofs.code.port_of.Goals as goal

pub returns-in_err-port-clause-none : goal.returns-in_err-port-clause-none
returns-in_err-port-clause-none c = rw c.from_residual.ensures (λ port lt e. let is : code_value c.args.text.now ≡ port = ap code_value e ∙ code_read port in omega (arith, c.in_err-port.ensures.none))

pub returns-else-port-limit-clause-none : goal.returns-else-port-limit-clause-none
returns-else-port-limit-clause-none c = λ port lt e.
    let is : c.in_ok-port.port ≡ port = c.in_ok-port.ensures.some ∙ ap code_value e ∙ code_read port in
    elim c.else-port-limit.branch [
      | else-port-limit-via-then-port-limit+else-eq w ↦
          true≢false (sym ((slice_eq-Decides Decides-eqb c.args.text.now w.as_bytes.result.now false w.if-eq.ensures).1 (e ∙ ap (λ (n : ℕ). code n) (sym is) ∙ sym w.new.ensures ∙ sym w.as_bytes.ensures)))
      | else-port-limit-via-else-port-limit w ↦ omega (arith, w.if-port-limit.false)
    ]
