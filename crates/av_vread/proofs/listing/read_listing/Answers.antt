use Rattle.std.proofs.Common.{◌≡◌, subst}
use Rattle.av_net.specs.Names.{names_of, wire_names}
use Rattle.av_net.specs.Rows.{Among, is_in, module_of}
use Rattle.av_vparse.specs.Said.{said_module}
use Rattle.av_vread.specs.inner.Listings.{listing_at, GivesListing}
use Rattle.av_vnames.proofs.RowWalks.{same_test}
use Rattle.av_vread.proofs.listing.read_listing.Goals as goal

pub returns : goal.returns
returns c =
    let ports : is_in c.in_ok-ports.ports ≡ is_in (names_of c.args.top.now.inputs) = same_test _ _ c.in_ok-ports.ensures in
    let wires : is_in c.in_ok-wires.wires ≡ is_in (wire_names (module_of (said_module c.args.top.now))) = same_test _ _ c.in_ok-wires.ensures in
    subst (λ (p : Among). GivesListing (λ listing. listing) c.read_lines.result (listing_at p (is_in (wire_names (module_of (said_module c.args.top.now)))) c.args.bytes.now c.args.first)) ports
    (subst (λ (w : Among). GivesListing (λ listing. listing) c.read_lines.result (listing_at (is_in c.in_ok-ports.ports) w c.args.bytes.now c.args.first)) wires c.read_lines.ensures)
