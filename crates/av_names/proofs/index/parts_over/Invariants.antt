use Rattle.std.proofs.Common.{◌≡◌, map, take}
use Rattle.std.specs.List.{flat_map}
use Rattle.av_tree.specs.Trees.{view_system}
use Rattle.av_names.specs.Parts as list
use Rattle.av_names.specs.inner.Seen.{part, equations_seen}
use Rattle.av_names.proofs.index.parts_over.Given as goal

abbrev pub invariant-loop-equation : goal.invariant-loop-equation
invariant-loop-equation l =
    map part l.parts.items ≡ flat_map (list.equation_parts (view_system l.system)) (equations_seen (take l.equation-index l.system.equations))
