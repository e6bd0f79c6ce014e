use Rattle.av_verilog_tests.proofs.Unfed.{unfed}
use Rattle.av_verilog_tests.proofs.wave.assert_captured.Goals as goal

pub capture-requires-clause-stimulus : goal.capture-requires-clause-stimulus
capture-requires-clause-stimulus g c = unfed c.args.of.now.inputs c.four_cycles.result c.four_cycles.ensures.cycles c.four_cycles.ensures.values
