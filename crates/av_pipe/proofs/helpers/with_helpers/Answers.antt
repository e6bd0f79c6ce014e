use Rattle.std.proofs.Common.{List, refl, ◌∙◌, ap}
use Rattle.av_flat.specs.Trees.{view_system}
use Rattle.av_flat.specs.declared.timed.Time.{Time}
use Rattle.av_pipe.specs.Pipelines.{pipelines}
use Rattle.av_pipe.proofs.Given.{given}
use Rattle.av_pipe.proofs.Numbering.{fine_variables, small_times}
use Rattle.av_pipe.proofs.helpers.with_helpers.Goals as goal

pub all_helpers-requires-clause-linear : goal.all_helpers-requires-clause-linear
all_helpers-requires-clause-linear c =
    rw c.as_slice.ensures (small_times (view_system c.args.from.flat) c.args.from.times c.requires.legal.schedule)

pub all_helpers-requires-clause-maps : goal.all_helpers-requires-clause-maps
all_helpers-requires-clause-maps c = fine_variables (view_system c.args.from.flat) c.requires.legal.chained

pub returns : goal.returns
returns c =
    let from = c.args.from in
    let s = view_system from.flat in
    given from (record { flat = from.flat; times = from.times; helpers = c.in_ok-helpers.helpers }) c.requires.legal c.requires.none refl refl
    (c.in_ok-helpers.ensures ∙ ap (λ (ts : List Time). pipelines s ts) c.as_slice.ensures)
