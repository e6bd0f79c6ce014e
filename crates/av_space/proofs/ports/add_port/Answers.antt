use Rattle.std.proofs.Common.{rules, ◌≡◌, ◌∙◌, List, length, refl, sym, ap, subst}
use Rattle.std.specs.Prelude.{filter}
use Rattle.std.proofs.lemmas.List.{nil_from_length}
use Rattle.std.proofs.lemmas.Result.{on_ok_weaker}
use Rattle.av_net.specs.declared.design.Entry.{Entry}
use Rattle.av_space.specs.declared.cells.InPort.{InPort}
use Rattle.av_space.specs.declared.layout.Slot.{Slot}
use Rattle.av_space.specs.Listings.{input_name}
use Rattle.av_space.specs.inner.Feeding.{is_entered, with_port}
use Rattle.av_space.proofs.PortLines.{without_port, port_with_lines}
use Rattle.av_space.proofs.ports.add_port.Goals as goal

pub returns-then-is_empty-clause-ports : goal.returns-then-is_empty-clause-ports
returns-then-is_empty-clause-ports c =
    let site = c.args.site.now in
    let size : length c.args.slots.now ≡ 0 = search rules in
    let none = nil_from_length c.args.slots.now size in
    subst (λ (slots : List Slot). c.args.ports.now ≡ with_port c.args.port site.input.now.name site.map.now c.args.ports.now (filter (λ (t : Slot). is_entered site.domain.now site.direction t.point) slots)) (sym none) refl

pub returns-then-after-before-clause-ports : goal.returns-then-after-before-clause-ports
returns-then-after-before-clause-ports c =
    let old = c.args.ports.now in
    let site = c.args.site.now in
    let own = filter (λ (t : Slot). is_entered site.domain.now site.direction t.point) c.args.slots.now in
    let named = c.in_ok-wire.ensures ∙ ap (λ (ports : List InPort). input_name (length ports)) c.as_slice-number.ensures in
    let after = ap (λ (lines : List Entry). length lines) c.as_slice-after.ensures in
    let before = ap (λ (lines : List Entry). length lines) c.as_slice-before.ensures in
    let same : length c.add_lines.new.ins ≡ length old.ins = sym after ∙ c.if-after-before.true ∙ before in
    without_port c.args.port site.input.now.name site.map.now old c.in_ok-wire.wire named own c.add_lines.new.ins c.in_ok-add_lines.ensures same

pub returns-clause-ports : goal.returns-clause-ports
returns-clause-ports c =
    let old = c.args.ports.now in
    let site = c.args.site.now in
    let own = filter (λ (t : Slot). is_entered site.domain.now site.direction t.point) c.args.slots.now in
    let named = c.in_ok-wire.ensures ∙ ap (λ (ports : List InPort). input_name (length ports)) c.as_slice-number.ensures in
    let after = ap (λ (lines : List Entry). length lines) c.as_slice-after.ensures in
    let before = ap (λ (lines : List Entry). length lines) c.as_slice-before.ensures in
    let more : length c.add_lines.new.ins ≡ length old.ins → ⊥ = λ same. c.if-after-before.false (after ∙ same ∙ sym before) in
    on_ok_weaker c.push.result
    (λ e. port_with_lines c.args.port site.input.now.name site.map.now old c.in_ok-wire.wire named own c.push.new.self c.add_lines.new.ins e c.in_ok-add_lines.ensures more)
    c.push.ensures.ok
