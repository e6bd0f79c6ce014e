use Rattle.std.proofs.Common.{refl}
use Rattle.av_base.proofs.Widths.{width_is}
use Rattle.av_verilog_tests.specs.inner.Plans.{eight_bits}
use Rattle.av_verilog_tests.proofs.plans.eight_wide.Goals as goal

pub returns : goal.returns
returns c = width_is _ eight_bits refl
