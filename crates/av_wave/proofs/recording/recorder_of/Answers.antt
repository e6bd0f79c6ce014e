use Rattle.std.proofs.Common.{List, ℕ, sym, ◌∙◌, subst}
use Rattle.std.specs.Prelude.{All}
use Rattle.av_net.specs.declared.netlist.Port.{Port}
use Rattle.av_net.specs.Lexemes.{IsName}
use Rattle.av_net.specs.Names.{names_of, AreDistinct}
use Rattle.av_wave.proofs.Capturing.{header_apart, header_spelled}
use Rattle.av_wave.proofs.recording.recorder_of.Goals as goal

pub new-requires-2-clause-named : goal.new-requires-2-clause-named
new-requires-2-clause-named c = subst (λ (name : List ℕ). IsName name) (sym (c.in_ok-name.ensures ∙ c.as_str.ensures)) c.requires.spelled.module_name

pub new-requires-2-clause-ports_named : goal.new-requires-2-clause-ports_named
new-requires-2-clause-ports_named c = subst (λ (ports : List Port). All IsName (names_of ports)) (sym c.in_ok-ports.ensures) (header_spelled c.args.of.now c.requires.spelled)

pub new-requires-2-clause-apart : goal.new-requires-2-clause-apart
new-requires-2-clause-apart c = subst (λ (ports : List Port). AreDistinct (names_of ports)) (sym c.in_ok-ports.ensures) (header_apart c.args.of.now c.requires.sound)
