use Rattle.av_verilog_tests.proofs.Unfed.{unfed}
use Rattle.av_verilog_tests.proofs.wave.is_written.Goals as goal

pub write_run-requires-clause-stimulus : goal.write_run-requires-clause-stimulus
write_run-requires-clause-stimulus c = unfed c.args.of.now.inputs c.four_cycles.result c.four_cycles.ensures.cycles c.four_cycles.ensures.values
