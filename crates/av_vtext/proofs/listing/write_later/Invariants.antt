use Rattle.std.proofs.Common.{take, codes, ◌++◌}
use Rattle.std.specs.List.{flat_map}
use Rattle.std.specs.Fmt.{signed_decimal}
use Rattle.av_page.specs.Pages.{Puts}
use Rattle.av_vtext.proofs.listing.write_later.Given as goal

abbrev pub invariant-loop-index : goal.invariant-loop-index
invariant-loop-index g l =
    let S = g.K.Sink.state in
    Puts (S l.fn.sink) (S l.sink) l.fn.page l.page (flat_map (λ index. codes "," ++ signed_decimal index) (take l.index-index l.later))
