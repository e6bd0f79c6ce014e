use Rattle.std.proofs.Common.{refl, subst, List}
use Rattle.av_names.specs.declared.size.Size.{Size}
use Rattle.av_compile.specs.Scheduled.{HasOneSolutionEach}
use Rattle.av_compile.specs.Mapped.{IsMapped, IsUnmapped}
use Rattle.av_commands.specs.WithWords.{GivesTableWith}
use Rattle.av_commands.proofs.Tabling.{table_refused, table_given}
use Rattle.av_commands.proofs.tables.table.Goals as goal

pub returns-in-Err-mapped : goal.returns-in-Err-mapped
returns-in-Err-mapped g c =
    let refusal = c.in-Err-mapped.refusal in
    table_refused (GivesTableWith c.args.words.now c.args.width.bits c.args.reach.size c.args.bytes.now) c.args.words.now c.in-Ok.sizes c.args.width.bits c.args.reach.size c.args.bytes.now refusal c.in-Ok.ensures.given
    (λ some. subst (λ (xs : List Size). IsUnmapped c.args.bytes.now xs c.args.width.bits c.args.reach.size refusal) c.as_slice.ensures (c.in-Err-mapped.ensures.refused refusal refl some))
    c.put_alpha_refusal.ensures.memory c.put_alpha_refusal.ensures.refused

pub returns : goal.returns
returns g c =
    let timed = c.in-Ok-mapped.array.timed in
    let cells = c.in-Ok-mapped.array.cells in
    table_given c.args.words.now c.in-Ok.sizes c.args.width.bits c.args.reach.size c.args.bytes.now timed cells c.in-Ok.ensures.given
    (subst (λ (xs : List Size). IsMapped c.args.bytes.now xs c.args.width.bits c.args.reach.size timed cells) c.as_slice.ensures c.in-Ok-mapped.ensures.found)
    (subst (λ (xs : List Size). HasOneSolutionEach c.args.bytes.now xs c.args.width.bits) c.as_slice.ensures c.in-Ok-mapped.ensures.one_solution)
    c.put_table.ensures
