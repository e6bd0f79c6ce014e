use Rattle.std.proofs.Common.{sym, subst, Option}
use Rattle.std.specs.Option.{IfNone}
use Rattle.av_poly.specs.declared.poly.Bounds.{Bounds}
use Rattle.av_poly.specs.Points.{Has}
use Rattle.av_tree.specs.Points.{Point}
use Rattle.av_depend.specs.AllPoints.{AreAllPoints}
use Rattle.av_flat.proofs.Bounded.{small_point}
use Rattle.av_space.proofs.Nodes.{no_points}
use Rattle.av_space.proofs.points.points_of.Goals as goal

pub box_of-requires-clause-small : goal.box_of-requires-clause-small
box_of-requires-clause-small c = small_point c.args.domain.now c.requires.bounded

pub returns-in-None : goal.returns-in-None
returns-in-None c =
    let set = c.args.domain.now in
    let none : (z : Point) → Has set z → ⊥ = subst (λ (o : Option Bounds). IfNone o ((z : Point) → Has set z → ⊥)) c.in-None.is c.in_ok-extent.ensures.empty in
    subst (AreAllPoints set) (sym c.new.ensures) (no_points set none)
