use Rattle.std.proofs.Common.{refl, subst, List}
use Rattle.av_flat.specs.Trees.{view_system}
use Rattle.av_names.specs.declared.size.Size.{Size}
use Rattle.av_compile.specs.Checked.{IsChecked, IsRefused}
use Rattle.av_commands.proofs.Checking.{check_refused, check_given}
use Rattle.av_commands.proofs.checks.check.Goals as goal

pub returns-in-Err-checked : goal.returns-in-Err-checked
returns-in-Err-checked g c =
    let refusal = c.in-Err-checked.refusal in
    check_refused c.args.words.now c.in-Ok.sizes c.args.width.bits c.args.bytes.now refusal c.in-Ok.ensures.given
    (λ some. subst (λ (xs : List Size). IsRefused c.args.bytes.now xs c.args.width.bits refusal) c.as_slice.ensures (c.in-Err-checked.ensures.refused refusal refl some))
    c.put_alpha_refusal.ensures.memory c.put_alpha_refusal.ensures.refused

pub returns : goal.returns
returns g c =
    let to = view_system c.in-Ok-checked.field-0 in
    check_given c.args.words.now c.in-Ok.sizes c.args.width.bits c.args.bytes.now to c.in-Ok.ensures.given
    (subst (λ (xs : List Size). IsChecked c.args.bytes.now xs c.args.width.bits to) c.as_slice.ensures c.in-Ok-checked.ensures.found) c.put.ensures
