use Rattle.std.proofs.Common.{◌++◌, ◌∙◌, ap}
use Rattle.av_base.specs.declared.width.Width.{Width}
use Rattle.av_kinds.specs.inner.Interfaces.{ports_by}
use Rattle.std.proofs.lemmas.Result.{on_ok_weaker}
use Rattle.av_kinds.specs.Names.{numbered, bound_name}
use Rattle.av_kinds.proofs.InterfaceSteps.{words_put}
use Rattle.av_kinds.proofs.interface.add_words.Goals as goal

pub returns : goal.returns
returns c =
    on_ok_weaker c.add_ports-2.result
    (λ h. words_put (numbered c.args.letter.now) c.args.width c.args.word c.args.bound c.args.selections c.args.ports.now c.add_ports.new.ports c.add_ports-2.new.ports c.in_ok-add_ports.ensures
    (h ∙ ap (λ (w : Width). c.add_ports.new.ports ++ ports_by bound_name w c.args.bound c.args.selections) c.counter_width.ensures))
    c.add_ports-2.ensures
