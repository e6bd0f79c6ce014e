use Rattle.av_verilog_tests.proofs.Unfed.{spelled}
use Rattle.av_verilog_tests.proofs.wave.a_run_is_captured.Goals as goal

pub assert_captured-requires-clause-spelled : goal.assert_captured-requires-clause-spelled
assert_captured-requires-clause-spelled g c = spelled c.in_ok-design.design c.in_ok-design.ensures

pub assert_run_written-requires-clause-spelled : goal.assert_run_written-requires-clause-spelled
assert_run_written-requires-clause-spelled g c = spelled c.in_ok-design.design c.in_ok-design.ensures

pub assert_run_cut-requires-clause-spelled : goal.assert_run_cut-requires-clause-spelled
assert_run_cut-requires-clause-spelled g c = spelled c.in_ok-design.design c.in_ok-design.ensures
