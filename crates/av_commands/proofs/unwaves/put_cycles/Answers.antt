use Rattle.std.proofs.Common.{ℕ, length, replicate, refl, inl, inr, ap, ◌∙◌}
use Rattle.av_wave.specs.Waves.{Recording}
use Rattle.av_commands.specs.Written.{puts}
use Rattle.av_commands.proofs.unwaves.put_cycles.Goals as goal

pub write_cycles-requires : goal.write_cycles-requires
write_cycles-requires g c = c.in-Ok.ensures.zeros ∙ ap (λ (n : ℕ). replicate n 0) c.len.ensures.count ∙ ap (λ (w : Recording). replicate (length w.ports) 0) c.wave.view_is

pub returns-in-Ok-write_cycles : goal.returns-in-Ok-write_cycles
returns-in-Ok-write_cycles g c = puts refl (record { ends = inl (refl, c.in-Ok-write_cycles.ensures.added) })

pub returns : goal.returns
returns g c = puts refl (record { ends = inr (refl, c.in-Err-write_cycles.ensures.fault refl, c.in-Err-write_cycles.ensures.front) })
