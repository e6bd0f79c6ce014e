use Rattle.std.proofs.Common.{refl, subst, List}
use Rattle.av_names.specs.declared.size.Size.{Size}
use Rattle.av_compile.specs.Mapped.{IsUnmapped}
use Rattle.av_compile.specs.Planned.{IsPlanned}
use Rattle.av_commands.specs.WithWords.{GivesEmitWith}
use Rattle.av_commands.proofs.Tabling.{table_refused}
use Rattle.av_commands.proofs.Emitting.{emit_given}
use Rattle.av_commands.proofs.emits.emit.Goals as goal

pub returns-in-Err-planned : goal.returns-in-Err-planned
returns-in-Err-planned g c =
    let refusal = c.in-Err-planned.refusal in
    table_refused (GivesEmitWith c.args.words.now c.args.width.bits c.args.reach.size c.args.bytes.now) c.args.words.now c.in-Ok.sizes c.args.width.bits c.args.reach.size c.args.bytes.now refusal c.in-Ok.ensures.given
    (λ some. subst (λ (xs : List Size). IsUnmapped c.args.bytes.now xs c.args.width.bits c.args.reach.size refusal) c.as_slice.ensures (c.in-Err-planned.ensures.refused refusal refl some))
    c.put_alpha_refusal.ensures.memory c.put_alpha_refusal.ensures.refused

pub put_plan-requires : goal.put_plan-requires
put_plan-requires g c = c.in-Ok-planned.ensures.found.headline.plan.is_plan.sound

pub returns : goal.returns
returns g c =
    emit_given c.args.words.now c.in-Ok.sizes c.args.width.bits c.args.reach.size c.args.bytes.now c.in-Ok-planned.plan c.in-Ok.ensures.given
    (subst (λ (xs : List Size). IsPlanned c.args.bytes.now xs c.args.width.bits c.args.reach.size c.in-Ok-planned.plan) c.as_slice.ensures c.in-Ok-planned.ensures.found)
    c.put_plan.ensures
