use Rattle.std.proofs.Common.{◌≡◌, List, sym, subst}
use Rattle.av_space.specs.declared.cells.Link.{Link}
use Rattle.av_space.specs.inner.Quantified.{AreWithin, LinksOf, delays_of}
use Rattle.av_space.proofs.Quantified.{no_fault}
use Rattle.av_space.proofs.WholeListing.{whole_listing}
use Rattle.av_space.proofs.mapping.mapped.Goals as goal

pub within_limits-requires : goal.within_limits-requires
within_limits-requires c = subst (LinksOf c.args.scheduled.now) (sym c.as_slice.ensures) c.in_ok-links.ensures

pub laid_out-requires-clause-delays : goal.laid_out-requires-clause-delays
laid_out-requires-clause-delays c = subst (λ (links : List Link). c.in_ok-delays.delays ≡ delays_of c.args.scheduled.now links) c.as_slice.ensures c.in_ok-delays.ensures.delays

pub returns-clause-whole : goal.returns-clause-whole
returns-clause-whole c =
    let a = c.in_ok-cells.ensures in
    whole_listing c.args.scheduled.now.timed c.in_ok-cells.cells c.in_ok-links.ensures.scheduled.legal a.array a.few_inputs a.few_outputs a.few_cells

pub returns-clause-complete : goal.returns-clause-complete
returns-clause-complete c =
    no_fault c.args.scheduled.now c.in_ok-links.links c.in_ok-links.ensures (subst (AreWithin c.args.scheduled.now) c.as_slice.ensures c.in_ok-delays.ensures.within)
