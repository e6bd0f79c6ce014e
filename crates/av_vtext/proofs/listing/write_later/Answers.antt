use Rattle.std.proofs.Common.{rules, codes, ◌++◌}
use Rattle.std.specs.Fmt.{signed_decimal}
use Rattle.av_page.proofs.Putting.{Puts-none, Puts-next, Puts-more}
use Rattle.av_vtext.proofs.listing.write_later.Goals as goal

pub loop-index-init : goal.loop-index-init
loop-index-init g c = Puts-none _ _

pub loop-index-preserved : goal.loop-index-preserved
loop-index-preserved g c = Puts-next (λ index. codes "," ++ signed_decimal index) _ _ _ c.loop-index-test.true (search rules) c.loop-index.invariant (Puts-more c.put.ensures c.put_number.ensures)
