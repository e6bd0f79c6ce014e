use Rattle.std.proofs.Common.{◌∙◌, length, ap}
use Rattle.av_flat.specs.declared.flat.Flat.{Flat}
use Rattle.av_flat.specs.Trees.{view_system}
use Rattle.av_flat.specs.Nodes.{nodes}
use Rattle.av_flat.proofs.NodeNumbers.{places_number}
use Rattle.av_flat.proofs.nodes.Nodes.len.Goals as goal

pub returns-clause-count : goal.returns-clause-count
returns-clause-count c =
    c.len.ensures.count ∙ places_number (view_system c.self.inside.flat.now) c.self.inside.places c.self.invariant.0
    ∙ ap (λ (f : Flat). length (nodes (view_system f))) c.self.view_is
