use Rattle.std.proofs.Common.{rules, ◌≡◌, ◌∙◌, sym, subst, [], length, length-take-le, take, arith}
use Rattle.std.proofs.lemmas.Grind.{common_steps}
use Rattle.av_tree.specs.Points.{Point}
use Rattle.av_depend.specs.AllPoints.{AreAllPoints}
use Rattle.av_depend.specs.inner.Listing.{AreListed}
use Rattle.av_depend.proofs.Listed.{listed_are_all}
use Rattle.av_depend.proofs.listing.all_points.Goals as goal

pub returns : goal.returns
returns c =
    let set = c.args.set.now in
    let low = c.args.extent.now.low in
    let high = c.args.extent.now.high in
    let l : c.as_slice.result.now ≡ take set.dim low = search rules in
    let h : c.as_slice-2.result.now ≡ take set.dim high = search rules in
    let four : length low ≡ 4 = search rules in
    let n : length (take set.dim low) ≡ set.dim = length-take-le set.dim low (omega (arith, four, c.requires.few)) in
    let k = c.in_ok-add_points.ensures in
    let e : c.add_points.new.points ≡ k.added = k.new_is ∙ search rules in
    let are = subst (λ (xs : Point). AreListed set.rows [] xs (take set.dim high) k.added) l (subst (λ (xs : Point). AreListed set.rows [] c.as_slice.result.now xs k.added) h k.are) in
    subst (AreAllPoints set) (sym e) (listed_are_all set low high k.added n c.requires.inside.between are)

pub add_points-requires-clause-low : goal.add_points-requires-clause-low
add_points-requires-clause-low c = grind (arith, common_steps)

pub add_points-requires-clause-high : goal.add_points-requires-clause-high
add_points-requires-clause-high c = grind (arith, common_steps)
