use Rattle.std.proofs.Common.{ap, subst, ◌∙◌}
use Rattle.av_page.proofs.Putting.{Puts-more, Puts-is}
use Rattle.av_wave.specs.Waves.{Recording, IsWave}
use Rattle.av_wave.specs.Dumps.{head_lines, joined}
use Rattle.av_wave.proofs.Written.{text_said, ports_within}
use Rattle.av_wave.proofs.writer.put_wave.Goals as goal

pub put_changes-cycle-requires : goal.put_changes-cycle-requires
put_changes-cycle-requires g c = record {
  ports =
      ports_within c.args.wave.now (subst IsWave c.wave.view_is c.wave.invariant) c.as_slice.result.now c.as_slice-2.result.now
      (c.as_slice.ensures ∙ ap (λ (w : Recording). w.ports) c.wave.view_is) (c.as_slice-2.ensures ∙ ap (λ (w : Recording). w.changes) c.wave.view_is);
}

pub returns : goal.returns
returns g c =
    let head = Puts-is c.put_head.ensures (ap (λ (w : Recording). joined (head_lines w.name w.ports)) c.wave.view_is) in
    Puts-is (Puts-more (Puts-more (Puts-more head c.put_time.ensures) c.put_changes-cycle.ensures.put) c.put_times.ensures)
    (text_said c.args.wave.now (subst IsWave c.wave.view_is c.wave.invariant) c.as_slice.result.now c.as_slice-2.result.now c.put_changes-cycle.result c.wave.inside.cycles
    (c.as_slice.ensures ∙ ap (λ (w : Recording). w.ports) c.wave.view_is) (c.as_slice-2.ensures ∙ ap (λ (w : Recording). w.changes) c.wave.view_is)
    c.put_changes-cycle.ensures.last (ap (λ (w : Recording). w.cycles) c.wave.view_is))
