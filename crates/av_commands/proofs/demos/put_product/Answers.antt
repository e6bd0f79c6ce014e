use Rattle.std.proofs.Common.{refl}
use Rattle.av_commands.proofs.Outputs.{summed_put, summed_failed}
use Rattle.av_commands.proofs.demos.put_product.Goals as goal

pub returns-in-Ok-write_lines : goal.returns-in-Ok-write_lines
returns-in-Ok-write_lines g c =
    let compiled = c.args.compiled.now in
    summed_put compiled.cells compiled.design c.args.width.bits c.in-Ok.words c.as_slice.result.now c.total_of-total.result.bits c.as_slice.ensures c.total_of-total.ensures c.in-Ok.ensures c.in-Ok-write_lines.ensures.added

pub returns : goal.returns
returns g c =
    let compiled = c.args.compiled.now in
    summed_failed compiled.cells compiled.design c.args.width.bits c.in-Ok.words c.as_slice.result.now c.total_of-total.result.bits c.as_slice.ensures c.total_of-total.ensures c.in-Ok.ensures
    (c.in-Err-write_lines.ensures.fault refl) c.in-Err-write_lines.ensures.front
