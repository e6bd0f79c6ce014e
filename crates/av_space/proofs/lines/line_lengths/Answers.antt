use Rattle.std.proofs.Common.{refl, sym, ap, subst, get_or}
use Rattle.std.specs.Prelude.{unwrap_or}
use Rattle.std.specs.Map.{lookup}
use Rattle.std.specs.Ordering.{is_eq}
use Rattle.av_flat.specs.declared.timed.Timed.{Timed}
use Rattle.av_flat.specs.Trees.{view_system}
use Rattle.av_space.specs.declared.cells.Link.{Link}
use Rattle.av_space.specs.Lengths.{line_cmp}
use Rattle.av_space.specs.inner.Sites.{AreNodeTaps}
use Rattle.av_space.proofs.LinkLines.{one_line_more}
use Rattle.av_space.proofs.lines.line_lengths.Goals as goal

abbrev none : Link
none = record { consumer = 0; producer = 0; site = 0; delay = 0; first = 0; last = 0 }

pub loop-link-init : goal.loop-link-init
loop-link-init c = λ q. ap (λ es. unwrap_or (lookup (λ k. is_eq (line_cmp q k)) es) 0) c.new-lengths.ensures.empty

pub line_of-line-requires-clause-sites : goal.line_of-line-requires-clause-sites
line_of-line-requires-clause-sites c =
    let t = c.args.scheduled.now.timed in
    let sites = c.in_ok-sites.sites in
    subst (AreNodeTaps (view_system t.flat) t.helpers) (sym c.as_slice.ensures) (subst (λ (u : Timed). AreNodeTaps (view_system u.flat) u.helpers sites) c.timed.ensures.is c.in_ok-sites.ensures)

pub line_of-line-requires-clause-link : goal.line_of-line-requires-clause-link
line_of-line-requires-clause-link c = c.requires.are.each c.loop-link.link-index none c.loop-link-test.true

pub loop-link-preserved : goal.loop-link-preserved
loop-link-preserved c =
    let s = view_system c.args.scheduled.now.timed.flat in
    let hs = c.args.scheduled.now.timed.helpers in
    let cells = c.args.scheduled.now.layout.cells in
    one_line_more s hs cells c.args.links.now c.loop-link.link-index none c.loop-link-test.true c.loop-link.lengths c.lengthened.new.lengths c.line_of-line.result
    c.line_of-line.ensures (get_or c.args.links.now c.loop-link.link-index none).delay refl c.loop-link.invariant c.in_ok-lengthened.ensures.all
