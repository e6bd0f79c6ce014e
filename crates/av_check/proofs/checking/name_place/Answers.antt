use Rattle.std.proofs.Common.{◌<◌, ◌∙◌, length, rules}
use Rattle.av_check.specs.Blame.{Blamed}
use Rattle.av_check.proofs.Looking.{named_here}
use Rattle.av_check.proofs.checking.name_place.Goals as goal

pub returns : goal.returns
returns c =
    let l : c.blame.inside.var.0 < length c.args.vars.now = search rules in
    let blamed : Blamed = record { var = c.blame.inside.var.0; point = c.blame.inside.point } in
    rw (← c.blame.view_is) (named_here c.args.vars.now blamed c.index-vars-place.result c.in_ok-name.name l (c.in_ok-name.ensures ∙ c.as_str.ensures))
