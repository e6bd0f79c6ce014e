use Rattle.std.proofs.Common.{◌≡◌, drop}
use Rattle.av_tree.specs.Trees.{Text, view_equation, view_equations}
use Rattle.av_names.specs.Flattened.{equation_of}
use Rattle.av_names.proofs.Entered.{found_or}
use Rattle.av_names.proofs.flat_tables.equation_table.Given as goal

abbrev pub invariant-loop-equation : goal.invariant-loop-equation
invariant-loop-equation l =
    (name : Text) → found_or (λ e. view_equation e.now) (λ es. equation_of (view_equations es) name) l.equations name l.table (drop l.equation-index l.equations) ≡ equation_of (view_equations l.equations) name
