use Rattle.av_affine.specs.Maps.{composition}
use Rattle.av_check.proofs.Reaching.{not_refused}
use Rattle.av_check.proofs.images.composed.Goals as goal

pub unreachable-requires : goal.unreachable-requires
unreachable-requires c =
    not_refused (composition c.args.own.now c.args.outer.now).rows c.in-Err.field-0 c.compose.result c.in-Err.is c.requires.limits c.compose.ensures.coefficient c.compose.ensures.constant
