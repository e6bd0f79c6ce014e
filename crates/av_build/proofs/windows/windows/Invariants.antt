use Rattle.std.proofs.Common.{◌≡◌, ◌++◌, drop}
use Rattle.av_build.specs.inner.Windows.{windows_from, windows_by}
use Rattle.av_build.proofs.windows.windows.Given as goal

-- with those of the marks to come
abbrev pub invariant-loop-mark : goal.invariant-loop-mark
invariant-loop-mark l = l.windows ++ windows_from l.begun (drop l.mark-index l.marks) ≡ windows_by l.marks
