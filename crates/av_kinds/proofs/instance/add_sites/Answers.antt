use Rattle.av_kinds.proofs.InstanceSteps.{site_put, site_there_at}
use Rattle.std.proofs.Common.{◌++◌, ◌<◌, length, arith, rules}
use Rattle.av_kinds.specs.Written.{program_of}
use Rattle.av_kinds.specs.Names.{labels}
use Rattle.av_kinds.specs.inner.Instances.{sites_operands}
use Rattle.av_kinds.proofs.ShapeMade.{suit_sites_many}
use Rattle.av_kinds.proofs.instance.add_sites.Goals as goal

pub bounds-sites-k : goal.bounds-sites-k
bounds-sites-k c =
    omega (arith, c.loop-k-test.true, suit_sites_many c.args.shapes.now c.args.sites.now c.requires.suit)

pub add_site-requires : goal.add_site-requires
add_site-requires c =
    site_there_at (length c.args.program.now.lanes) c.args.sites.now c.requires.there c.loop-k.k c.index-sites-k.result (omega (arith, c.loop-k-test.true, suit_sites_many c.args.shapes.now c.args.sites.now c.requires.suit)) c.index-sites-k.is

pub loop-k-preserved : goal.loop-k-preserved
loop-k-preserved c =
    let names = labels (program_of c.args.program.now) in
    site_put names c.args.shapes.now c.args.sites.now c.loop-k.k c.index-shapes-k.result c.index-sites-k.result c.loop-k.operands c.add_site.new.operands (c.args.operands.now ++ sites_operands names c.args.shapes.now c.args.sites.now)
    (search rules) c.index-shapes-k.is (omega (arith, c.loop-k-test.true, suit_sites_many c.args.shapes.now c.args.sites.now c.requires.suit)) c.index-sites-k.is c.loop-k.invariant c.in_ok-add_site.ensures

pub offset_bounds-sites-k : goal.offset_bounds-sites-k
offset_bounds-sites-k c =
    let within : c.loop-k.k < length c.args.sites.now = omega (arith, c.loop-k-test.true, suit_sites_many c.args.shapes.now c.args.sites.now c.requires.suit) in
    omega arith
