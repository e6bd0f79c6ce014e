use Rattle.std.proofs.Common.{ℕ, ◌<◌, length, get_or, subst}
use Rattle.av_net.specs.declared.netlist.Drive.{Drive}
use Rattle.av_net.specs.Names.{width_of}
use Rattle.av_net.specs.Settled.{Holds}
use Rattle.av_clock.specs.Seen.{Seen, carried}
use Rattle.av_clock.specs.Marked.{IsClear}
use Rattle.av_clock.proofs.clock.Clock.unmarked_drives_hold.Goals as goal

pub returns : goal.returns
returns c =
    subst (λ (s : Seen). (k : ℕ) (d : Drive) → k < length s.of.drives → IsClear s.marked k → Holds (width_of s.of) (carried s) (get_or s.of.drives k d)) c.self.view_is c.unmarked_drives_hold.ensures
