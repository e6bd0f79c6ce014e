use Rattle.std.proofs.Common.{◌++◌, ◌∷◌, [], sym, ap, ◌∙◌}
use Rattle.av_net.specs.Names.{targets_of}
use Rattle.av_net.specs.Rows.{is_in}
use Rattle.av_data.proofs.Named.{added, is_new, one_named}
use Rattle.av_wave.proofs.Driven.{target_name}
use Rattle.av_wave.proofs.feed.targets.Goals as goal

pub loop-drive-preserved : goal.loop-drive-preserved
loop-drive-preserved c =
    let at = target_name c.args.drives.now c.loop-drive.drive-index c.drive-item.result c.loop-drive-test.true c.drive-item.is in
    let new = ap (λ ns. is_in ns c.drive-item.result.target) c.loop-drive.invariant ∙ is_new (targets_of c.args.drives.now) c.loop-drive.drive-index c.drive-item.result.target at.0 at.1 c.requires in
    added _ _ _ c.drive-item.result.target c.in_ok-insert.ensures.all (c.as_bytes.ensures.value ∙ c.as_str.ensures) new ∙ ap (λ ns. ns ++ c.drive-item.result.target ∷ []) c.loop-drive.invariant
    ∙ sym (one_named (targets_of c.args.drives.now) c.loop-drive.drive-index c.drive-item.result.target at.0 at.1)
