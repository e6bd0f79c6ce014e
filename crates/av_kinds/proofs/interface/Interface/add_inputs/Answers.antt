use Rattle.av_kinds.proofs.InterfaceSteps.{inputs_added}
use Rattle.av_kinds.proofs.interface.Interface.add_inputs.Goals as goal

pub returns-clause-ports : goal.returns-clause-ports
returns-clause-ports c = inputs_added c.args.self.now c.args.width c.args.selections c.add_words.new.ports c.requires c.in_ok-add_words.ensures
