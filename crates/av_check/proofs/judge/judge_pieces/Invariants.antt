use Rattle.std.proofs.Common.{map, take}
use Rattle.av_flat.specs.Trees.{trees_of, view_variable, view_piece, restriction}
use Rattle.av_flat.specs.Signatures.{signature}
use Rattle.av_check.specs.inner.Verdicts.{IsVerdictOfAll}
use Rattle.av_check.proofs.judge.judge_pieces.Given as goal

abbrev pub invariant-loop-piece : goal.invariant-loop-piece
invariant-loop-piece l = IsVerdictOfAll (map signature (map view_variable l.vars)) (trees_of (map (λ p. restriction p.domain p.tree) (map view_piece (take l.piece-index l.pieces)))) l.z l.verdict
