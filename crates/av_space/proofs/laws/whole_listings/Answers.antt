use Rattle.av_space.proofs.WholeListing.{whole_listing}
use Rattle.av_space.proofs.laws.whole_listings.Goals as goal

pub returns : goal.returns
returns c = whole_listing
