use Rattle.std.proofs.Common.{◌≡◌, List, ◌++◌, length, take}
use Rattle.av_net.specs.declared.netlist.Port.{Port}
use Rattle.av_net.specs.Names.{AreDistinct, names_of}
use Rattle.av_clock.specs.inner.Found.{Finds}
use Rattle.av_clock.proofs.Found.{found_in}
use Rattle.av_clock.proofs.resolver.enter.Given as goal

abbrev pub invariant-loop-i : goal.invariant-loop-i
invariant-loop-i l =
    (front : List Port) → length front ≡ l.first → AreDistinct (names_of (front ++ l.ports))
    → Finds (found_in l.fn.table) front → Finds (found_in l.table) (front ++ take l.i l.ports)
