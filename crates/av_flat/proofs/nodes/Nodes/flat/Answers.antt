use Rattle.av_flat.proofs.nodes.Nodes.flat.Goals as goal

pub returns : goal.returns
returns c = c.self.view_is
