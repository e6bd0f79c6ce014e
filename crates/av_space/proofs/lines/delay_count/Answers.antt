use Rattle.std.proofs.Common.{refl, sym, ap, subst, get_or, ◌∙◌, arith}
use Rattle.std.specs.Prelude.{unwrap_or}
use Rattle.std.specs.Map.{lookup}
use Rattle.std.specs.Ordering.{is_eq}
use Rattle.std.proofs.lemmas.Grind.{common_steps}
use Rattle.av_flat.specs.declared.timed.Timed.{Timed}
use Rattle.av_flat.specs.Trees.{view_system}
use Rattle.av_space.specs.declared.cells.Link.{Link}
use Rattle.av_space.specs.Lengths.{line_cmp}
use Rattle.av_space.specs.inner.Sites.{AreNodeTaps}
use Rattle.av_space.proofs.LineLengths.{none_counted}
use Rattle.av_space.proofs.LinkLines.{one_link_more}
use Rattle.av_space.proofs.lines.delay_count.Goals as goal

abbrev none : Link
none = record { consumer = 0; producer = 0; site = 0; delay = 0; first = 0; last = 0 }

pub loop-link-init : goal.loop-link-init
loop-link-init c = record {
  lengths = λ q. ap (λ es. unwrap_or (lookup (λ k. is_eq (line_cmp q k)) es) 0) c.new-lengths.ensures.empty;
  count = sym (none_counted (view_system c.args.scheduled.now.timed.flat) c.args.scheduled.now.timed.helpers c.args.scheduled.now.layout.cells);
  small = omega arith;
}

pub line_of-line-requires-clause-sites : goal.line_of-line-requires-clause-sites
line_of-line-requires-clause-sites c =
    let t = c.args.scheduled.now.timed in
    let sites = c.in_ok-sites.sites in
    subst (AreNodeTaps (view_system t.flat) t.helpers) (sym c.as_slice.ensures) (subst (λ (u : Timed). AreNodeTaps (view_system u.flat) u.helpers sites) c.timed.ensures.is c.in_ok-sites.ensures)

pub line_of-line-requires-clause-link : goal.line_of-line-requires-clause-link
line_of-line-requires-clause-link c = c.requires.are.each c.loop-link.link-index none c.loop-link-test.true

pub loop-link-preserved : goal.loop-link-preserved
loop-link-preserved c =
    let inv = c.loop-link.invariant in
    let b = c.in_ok-lengthened.ensures.by in
    let e = c.from.ensures in
    let r = one_link_more c.args.scheduled.now.timed c.timed.ensures.scheduled.legal c.args.scheduled.now.layout.placements c.args.scheduled.now.layout.cells c.args.links.now c.requires.are c.loop-link.link-index none c.loop-link-test.true
    c.loop-link.lengths c.lengthened.new.lengths c.line_of-line.result c.line_of-line.ensures (get_or c.args.links.now c.loop-link.link-index none).delay refl inv.lengths c.loop-link.count c.from.result inv.count (e ∙ b) c.in_ok-lengthened.ensures.all in
    let few = c.in_ok-lengthened.ensures.small in
    record { lengths = r.0; count = r.1; small = (let s = inv.small in omega (arith, s, few, e)) }

pub returns : goal.returns
returns c = grind (arith, common_steps)
