use Rattle.av_kinds.proofs.ShapeSteps.{shape_with, selections_of, site_put}
use Rattle.std.proofs.Common.{◌∙◌, ap, max, rules, get_or, map}
use Rattle.av_kinds.specs.inner.Shaped.{site_shapes}
use Rattle.av_kinds.proofs.shape.site_shapes.Goals as goal

pub loop-k-preserved : goal.loop-k-preserved
loop-k-preserved c =
    let site = c.index-sites-k.result in
    let k = c.loop-k.k in
    let before = c.args.before.now in
    site_put before c.args.sites.now k site c.loop-k.shapes c.push.new.self (site_shapes before c.args.sites.now) (shape_with site.inlet site.width c.max.result)
    (search rules) c.index-sites-k.is c.loop-k.invariant
    (ap (shape_with site.inlet site.width) (c.max.ensures ∙ ap (λ i. max i c.len.result) c.selections_before.ensures ∙ ap (λ i. max (get_or (map selections_of before) k 0) i) c.len.ensures.count))
    c.in_ok-push.ensures.ok
