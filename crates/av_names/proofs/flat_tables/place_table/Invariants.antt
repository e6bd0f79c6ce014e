use Rattle.std.proofs.Common.{◌≡◌, ◌≤◌, ◌+◌, length, map, drop}
use Rattle.av_tree.specs.Trees.{Text}
use Rattle.av_names.specs.inner.Building.{place_or}
use Rattle.av_names.specs.Flattened.{place_of}
use Rattle.av_names.proofs.flat_tables.place_table.Given as goal

abbrev pub invariant-loop-variable : goal.invariant-loop-variable
invariant-loop-variable l =
    (l.place ≡ l.variable-index) × (l.variable-index ≤ length l.variables)
    × ((name : Text) → place_or (l.variable-index + place_of (map (λ d. d.now) (drop l.variable-index l.variables)) name) l.table name ≡ place_of (map (λ d. d.now) l.variables) name)
