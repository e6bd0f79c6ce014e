use Rattle.std.proofs.Common.{◌≡◌, ℕ, suc, ◌∷◌, length, sym, ap, ◌∙◌, arith}
use Rattle.av_base.proofs.Lists.{same_head}
use Rattle.av_net.specs.declared.netlist.Port.{Port}
use Rattle.av_wave.specs.Dumps.{code}
use Rattle.av_wave.proofs.Parting.{bit_some, bit_head, bit_within, bit_code, bit_wide}
use Rattle.av_wave.proofs.forms.bit_in.Goals as goal

pub returns-in_err-first-clause-none : goal.returns-in_err-first-clause-none
returns-in_err-first-clause-none c =
    rw c.from_residual.ensures
    (λ number value says. let long : length c.args.text.now ≡ suc (length (code number)) = ap length (bit_head says) in omega (arith, long, c.in_err-first.ensures.cases))

pub returns-in_err-value-clause-none : goal.returns-in_err-value-clause-none
returns-in_err-value-clause-none c =
    let is = c.in_ok-first.ensures.cases.0 in
    rw c.from_residual-in_err-value.ensures (λ number value says. c.in_err-value.ensures.none value says.fits (same_head _ _ _ _ (sym is ∙ bit_head says)))

pub returns-in_err-port-clause-none : goal.returns-in_err-port-clause-none
returns-in_err-port-clause-none c =
    let is = c.in_ok-first.ensures.cases.0 in
    rw c.from_residual-in_err-port.ensures (λ number value says. c.in_err-port.ensures.none number (bit_within says) (bit_code _ _ says is))

pub returns-then-width-eq1-clause-some : goal.returns-then-width-eq1-clause-some
returns-then-width-eq1-clause-some c =
    let is = c.in_ok-first.ensures.cases.0 in
    let bit = c.in_ok-value.ensures.some in
    let port = c.in_ok-port.ensures.some in
    bit_some c.args.ports.now c.args.text.now c.in_ok-first.code.now c.in_ok-port.port c.in_ok-value.value c.index-ports-port.result (is ∙ ap (λ (b : ℕ). b ∷ c.in_ok-first.code.now) bit.1) bit.0 port.1 port.0 c.index-ports-port.is
    (ap (λ (p : Port). p.width.bits) c.index-ports-port.is ∙ c.if-width-eq1.true)

pub returns-else-width-eq1-clause-none : goal.returns-else-width-eq1-clause-none
returns-else-width-eq1-clause-none c = λ number value says.
    let is = c.in_ok-first.ensures.cases.0 in
    let port = c.in_ok-port.ensures.some in
    bit_wide c.in_ok-first.first.now c.in_ok-first.code.now c.in_ok-port.port c.index-ports-port.result says is port.1 port.0 c.index-ports-port.is (λ e. c.if-width-eq1.false (ap (λ (p : Port). p.width.bits) (sym c.index-ports-port.is) ∙ e))
