use Rattle.std.proofs.Common.{◌<◌, ◌^◌, sym, ap, ◌∙◌, subst}
use Rattle.av_net.specs.declared.netlist.Port.{Port}
use Rattle.av_wave.proofs.Parting.{vector_some, vector_within, vector_code, vector_port, residue_fits, residue_same}
use Rattle.av_wave.proofs.forms.vector_in.Goals.{else-width-ne1-via-then-width-ne1+else-of-value, else-width-ne1-via-else-width-ne1}
use Rattle.av_wave.proofs.forms.vector_in.Goals as goal

pub returns-in_err-port-clause-none : goal.returns-in_err-port-clause-none
returns-in_err-port-clause-none c =
    rw c.from_residual-in_err-port.ensures
    (λ number value says. c.in_err-port.ensures.none number (vector_within says) (vector_code c.in_ok-value.value c.in_ok-value.code.now says c.in_ok-value.ensures.some.1))

pub returns-then-of-value-clause-some : goal.returns-then-of-value-clause-some
returns-then-of-value-clause-some c =
    let port = c.in_ok-port.ensures.some in
    vector_some c.args.ports.now c.args.text.now c.in_ok-value.code.now c.in_ok-port.port c.in_ok-value.value c.index-ports-port.result c.in_ok-value.ensures.some.1 port.1 port.0 c.index-ports-port.is
    (λ e. c.if-width-ne1.true (ap (λ (p : Port). p.width.bits) (sym c.index-ports-port.is) ∙ e)) (subst (λ (p : Port). c.in_ok-value.value < 2 ^ p.width.bits) (sym c.index-ports-port.is) (residue_fits _ c.in_ok-value.value c.of.ensures c.if-of-value.true))

pub returns-else-width-ne1-clause-none : goal.returns-else-width-ne1-clause-none
returns-else-width-ne1-clause-none c = λ number value says.
    let port = c.in_ok-port.ensures.some in
    let there = vector_port c.in_ok-value.value c.in_ok-value.code.now c.in_ok-port.port c.index-ports-port.result says c.in_ok-value.ensures.some.1 c.in_ok-value.ensures.some.0 port.1 port.0 c.index-ports-port.is in
    elim c.else-width-ne1.branch [
      | else-width-ne1-via-then-width-ne1+else-of-value w ↦ w.if-of-value.false (residue_same _ c.in_ok-value.value w.of.ensures (subst (λ (p : Port). c.in_ok-value.value < 2 ^ p.width.bits) c.index-ports-port.is there.1))
      | else-width-ne1-via-else-width-ne1 w ↦ there.0 (ap (λ (p : Port). p.width.bits) c.index-ports-port.is ∙ w.if-width-ne1.false)
    ]
