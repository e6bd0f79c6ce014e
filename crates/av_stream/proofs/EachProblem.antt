-- A design that shows each solution from each multiple of the period on shows the solutions of a list of inputs with the period.
use Rattle.std.proofs.Common.{ℕ, ◌*◌, ◌<◌, List, length, arith}
use Rattle.std.proofs.lemmas.Option.{slice_get_within}
use Rattle.av_tree.specs.Values.{Assignment}
use Rattle.av_flat.specs.declared.timed.Timed.{Timed}
use Rattle.av_flat.specs.Trees.{view_system}
use Rattle.av_flat.specs.Solutions.{IsSolution}
use Rattle.av_net.specs.declared.design.Design.{Design}
use Rattle.av_net.specs.Shown.{Shows}
use Rattle.av_build.specs.Later.{later}
use Rattle.av_stream.specs.Streams.{ShowsEach}
use Rattle.av_stream.specs.StreamPlans.{AreSolutions}
use Rattle.av_base.proofs.Lists.{there_is}

pub each_problem : (t : Timed) (d : Design) (period : ℕ) → ((b : ℕ) (x u : Assignment) → IsSolution (view_system t.flat) x u → Shows (later (b * period) d) x u)
    → (xs us : List Assignment) → AreSolutions t xs us → ShowsEach d period xs us
each_problem t d period shows xs us solve n stream run is presents b u at =
    let within : b < length xs = omega (arith, slice_get_within us b u at, solve.one_each) in
    let x = there_is xs b within in
    shows b x.0 u (solve.each b x.0 u x.1 at) n stream run is (record { fits_on_reset = presents.fits_on_reset; fits = presents.fits; points = presents.points b x.0 x.1 })
