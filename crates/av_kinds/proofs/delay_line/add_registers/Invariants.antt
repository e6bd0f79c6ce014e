use Rattle.std.proofs.Common.{◌≡◌, ◌++◌, map}
use Rattle.std.specs.List.{range_with_len}
use Rattle.av_kinds.specs.Tops.{port}
use Rattle.av_kinds.specs.inner.Numbered.{register_in}
use Rattle.av_kinds.proofs.delay_line.add_registers.Given as goal

abbrev pub invariant-loop-delay : goal.invariant-loop-delay
invariant-loop-delay l = l.registers ≡ l.initial.registers ++ map (λ d. port l.width (register_in l.names d)) (range_with_len 0 l.delay)
