use Rattle.std.proofs.Common.{ap, sym, ◌∙◌}
use Rattle.av_tree.specs.Trees.{view, view_all}
use Rattle.av_names.specs.Reductions as rules
use Rattle.av_names.proofs.Cases.{view_case}
use Rattle.av_names.proofs.reductions_in.+holds.Goals as goal

pub holds_reduction-returns-in-Case : goal.holds_reduction-returns-in-Case
holds_reduction-returns-in-Case t c =
    c.one_holds_reduction.ensures ∙ ap (λ es. rules.hold_reduction (view_all es)) c.as_slice.ensures
    ∙ sym (ap (λ e. rules.holds_reduction (view e)) c.in-Case.is ∙ ap rules.holds_reduction (view_case c.in-Case.branches c.in-Case.place))
