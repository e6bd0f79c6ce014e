use Rattle.std.proofs.Common.{◌≡◌, take, All}
use Rattle.av_base.specs.Words.{IsWord}
use Rattle.av_cli_tests.proofs.shows.fits_all.Given as goal

abbrev pub invariant-loop-port : goal.invariant-loop-port
invariant-loop-port l = All (λ port. l.line.wire ≡ port.name → IsWord port.width.bits l.word.bits) (take l.port-index l.ports)
