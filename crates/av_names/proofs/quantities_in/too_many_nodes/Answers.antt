use Rattle.std.proofs.Common.{refl, ◌∙◌, length}
use Rattle.std.specs.Prelude.{option_map, bytes_eq}
use Rattle.std.specs.Map.{lookup}
use Rattle.av_tree.specs.Trees.{view_system}
use Rattle.av_names.specs.Quantities.{exceeds}
use Rattle.av_names.specs.inner.Seen.{parts_by}
use Rattle.av_names.specs.inner.Sums.{counted}
use Rattle.av_names.proofs.Unknown.{nodes_are}
use Rattle.av_names.proofs.quantities_in.too_many_nodes.Goals as goal

pub returns : goal.returns
returns c =
    c.number_of.ensures
    ∙ nodes_are (view_system c.args.system.now) c.args.variables.now c.args.system.now.equations c.requires refl
    (λ name. option_map (λ d. d.now) (lookup (bytes_eq name) c.in_ok-table.table)) c.in_ok-table.ensures (option_map counted c.in_ok-first.first)
    (rw c.as_slice.ensures at c.in_ok-first.ensures (λ e. exceeds 4096 (record { number = length (parts_by (lookup (bytes_eq e.name) c.in_ok-table.table) e); place = e.place })) (λ e fault is. is))
