use Rattle.std.proofs.Common.{◌∙◌, List, Some, refl, sym, ap}
use Rattle.av_space.specs.declared.runs.SiteRun.{SiteRun}
use Rattle.av_space.proofs.ByPlace.{read_at}
use Rattle.av_space.proofs.linking.runs_of_node.Goals as goal

pub returns : goal.returns
returns c = read_at c.args.runs.now c.args.runs.now c.args.node.0 c.index-runs-node.result refl c.requires c.index-runs-node.is ∙ ap (λ (own : List SiteRun). Some own) (sym c.as_slice.ensures)
