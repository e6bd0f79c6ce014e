use Rattle.std.proofs.Common.{ℕ, List, length, sym, ap, ◌∙◌, subst}
use Rattle.std.specs.Prelude.{Contains}
use Rattle.av_net.specs.declared.netlist.Port.{Port}
use Rattle.av_net.specs.Names.{names_of}
use Rattle.av_wave.specs.declared.stage.Stage.TheVariants.{Ports}
use Rattle.av_wave.specs.inner.Heads.{Head, IsHead}
use Rattle.av_wave.specs.inner.Stages.{Takes}
use Rattle.av_wave.proofs.Spelled.{name_ascii}
use Rattle.av_wave.proofs.Staging.{port_none, port_known, port_takes, known_by, unknown_by, names_more, head_more, pushed_head}
use Rattle.av_wave.proofs.stage.DumpHeader.declare.Goals as goal

pub returns-in_default-clause-turns : goal.returns-in_default-clause-turns
returns-in_default-clause-turns c = port_none c.args.self c.args.line.now c.len.result (c.len.ensures.count ∙ ap (λ (h : Head). length h.ports) c.self.view_is) c.requires.other c.in_default.ensures.none

pub from_ascii-requires : goal.from_ascii-requires
from_ascii-requires c = name_ascii c.in-Some.found.name.now c.in-Some.ensures.some.0

pub returns-then-not-branch-clause-turns : goal.returns-then-not-branch-clause-turns
returns-then-not-branch-clause-turns c =
    let head : Head = c.args.self in
    let port : Port = record { name = c.in-Some.found.name.now; width = c.in-Some.found.width } in
    port_known head c.args.line.now c.len.result port (c.len.ensures.count ∙ ap (λ (h : Head). length h.ports) c.self.view_is) c.requires.other c.in-Some.ensures.some.1
    (subst (λ (names : List (List ℕ)). Contains names port.name) c.requires.names (known_by port.name c.args.names.now c.in_ok-insert.field-0 c.in_ok-insert.ensures.is_new c.if-not-branch.true))

pub returns-clause-turns : goal.returns-clause-turns
returns-clause-turns c =
    let head : Head = c.args.self in
    let name : List ℕ = c.in-Some.found.name.now in
    let port : Port = record { name = name; width = c.in-Some.found.width } in
    let unknown : Contains c.args.names.now name → ⊥ = unknown_by name c.args.names.now c.in_ok-insert.field-0 c.in_ok-insert.ensures.is_new c.if-not-branch.false in
    let more = pushed_head c.self.inside.name c.self.inside.ports c.push.new.self head name c.in_ok-from_ascii.field-0 c.in-Some.found.width c.self.view_is c.in_ok-push.ensures.ok c.in_ok-from_ascii.ensures in
    subst (λ (h : Head). Takes (Ports head) c.args.line.now (Ports h)) (sym more)
    (port_takes head c.args.line.now c.len.result port (c.len.ensures.count ∙ ap (λ (h : Head). length h.ports) c.self.view_is) c.in-Some.ensures.some.1 c.in-Some.ensures.some.0
    (λ there. unknown (subst (λ (names : List (List ℕ)). Contains names name) (sym c.requires.names) there)))

pub returns-clause-names : goal.returns-clause-names
returns-clause-names c =
    let head : Head = c.args.self in
    let name : List ℕ = c.in-Some.found.name.now in
    let port : Port = record { name = name; width = c.in-Some.found.width } in
    let more = pushed_head c.self.inside.name c.self.inside.ports c.push.new.self head name c.in_ok-from_ascii.field-0 c.in-Some.found.width c.self.view_is c.in_ok-push.ensures.ok c.in_ok-from_ascii.ensures in
    names_more head.ports port c.args.names.now c.insert.new.self c.requires.names c.in_ok-insert.ensures.all (unknown_by name c.args.names.now c.in_ok-insert.field-0 c.in_ok-insert.ensures.is_new c.if-not-branch.false)
    ∙ ap (λ (h : Head). names_of h.ports) (sym more)

pub invariant_of-self : goal.invariant_of-self
invariant_of-self c =
    let head : Head = c.args.self in
    let name : List ℕ = c.in-Some.found.name.now in
    let port : Port = record { name = name; width = c.in-Some.found.width } in
    let unknown : Contains c.args.names.now name → ⊥ = unknown_by name c.args.names.now c.in_ok-insert.field-0 c.in_ok-insert.ensures.is_new c.if-not-branch.false in
    let more = pushed_head c.self.inside.name c.self.inside.ports c.push.new.self head name c.in_ok-from_ascii.field-0 c.in-Some.found.width c.self.view_is c.in_ok-push.ensures.ok c.in_ok-from_ascii.ensures in
    subst (λ (h : Head). IsHead h) (sym more)
    (head_more head port (subst (λ (h : Head). IsHead h) c.self.view_is c.self.invariant) c.in-Some.ensures.some.0
    (λ there. unknown (subst (λ (names : List (List ℕ)). Contains names name) (sym c.requires.names) there)))
