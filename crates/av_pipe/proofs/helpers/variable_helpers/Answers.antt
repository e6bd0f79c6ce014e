use Rattle.std.proofs.Common.{rules, Option, None, length, ◌≤◌, ◌≡◌, ◌++◌, sym, ap, ◌∙◌, slice_get}
use Rattle.std.proofs.lemmas.List.{append-nil}
use Rattle.std.proofs.lemmas.Option.{slice_get_past}
use Rattle.av_flat.specs.Trees.{view_variable}
use Rattle.av_flat.specs.declared.timed.Time.{Time}
use Rattle.av_pipe.specs.Pipelines.{of_variable}
use Rattle.av_pipe.proofs.helpers.variable_helpers.Goals as goal

pub returns-in-None : goal.returns-in-None
returns-in-None c =
    let l : length c.args.times.now ≤ c.args.node.0 = search rules in
    let e : slice_get c.args.times.now c.args.node.0 ≡ None = slice_get_past c.args.times.now c.args.node.0 l in
    sym (append-nil c.args.helpers.now) ∙ ap (λ (o : Option Time). c.args.helpers.now ++ of_variable c.args.place.0 o (view_variable c.args.var.now)) (sym e)
