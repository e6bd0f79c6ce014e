use Rattle.std.proofs.Common.{◌≡◌, ◌≢◌, ℕ, ◌<◌, length, get_or}
use Rattle.av_net.specs.declared.design.Entry.{Entry}
use Rattle.av_cli_tests.proofs.shows.are_apart.Given as goal

abbrev pub invariant-loop-i : goal.invariant-loop-i
invariant-loop-i l =
    (a b : ℕ) (e : Entry) → a < l.i → a < b → b < length l.lines → (get_or l.lines a e).wire ≡ (get_or l.lines b e).wire → (get_or l.lines a e).cycle ≢ (get_or l.lines b e).cycle
