use Rattle.std.proofs.Common.{map, take}
use Rattle.av_flat.specs.Trees.{view_system}
use Rattle.av_depend.specs.inner.Adding.{HasAdded, site_of}
use Rattle.av_depend.proofs.site.add_choices.Given as goal

abbrev pub invariant-loop-choice : goal.invariant-loop-choice
invariant-loop-choice l = HasAdded (view_system l.nodes) (map (site_of l.reading.node l.place.0 l.reading.set) (take l.choice-index l.choices)) l.initial.edges l.edges
