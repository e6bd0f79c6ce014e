use Rattle.std.proofs.Common.{[], ◌∙◌}
use Rattle.av_tree.specs.Trees.{view_equation}
use Rattle.av_names.specs.Equations.{equation_found}
use Rattle.av_names.specs.inner.FirstAgain.{first_again}
use Rattle.av_names.proofs.Repeats.{equation_again, told}
use Rattle.av_names.proofs.defined.second_equation.Goals as goal

pub returns : goal.returns
returns c =
    let equations = c.args.equations.now in
    c.equation_found.ensures
    ∙ told (λ e. equation_found (view_equation e)) c.in_ok-twice.twice (first_again (λ e. e.name) [] equations) (rw c.new-before.ensures at c.in_ok-twice.ensures) ∙ equation_again [] equations
