use Rattle.std.proofs.Common.{refl}
use Rattle.av_base.proofs.Widths.{width_is}
use Rattle.av_verilog_tests.specs.inner.Plans.{two_bits}
use Rattle.av_verilog_tests.proofs.plans.two_wide.Goals as goal

pub returns : goal.returns
returns c = width_is _ two_bits refl
