use Rattle.std.proofs.Common.{◌≡◌, map, drop}
use Rattle.std.specs.Prelude.{find, bytes_eq}
use Rattle.av_tree.specs.Trees.{Text}
use Rattle.av_names.proofs.Entered.{found_or}
use Rattle.av_names.proofs.index.by_name.Given as goal

abbrev pub invariant-loop-variable : goal.invariant-loop-variable
invariant-loop-variable l =
    (name : Text) → found_or (λ d. d.now) (λ ds. find (λ d. bytes_eq d.name name) (map (λ d. d.now) ds)) l.variables name l.table (drop l.variable-index l.variables) ≡ find (λ d. bytes_eq d.name name) (map (λ d. d.now) l.variables)
