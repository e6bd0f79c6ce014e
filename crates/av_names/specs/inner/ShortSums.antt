-- Sums that no text makes great: few terms with small factors.
use Rattle.std.specs.Prelude.{◌^◌, ◌<◌, List, length, All, unsigned_abs}
use Rattle.av_tree.specs.declared.domain.Constraint.{Constraint}
use Rattle.av_tree.specs.declared.domain.IndexExpr.{IndexExpr}
use Rattle.av_tree.specs.declared.domain.Term.{Term}
use Rattle.av_tree.specs.Trees.{System}
use Rattle.av_names.specs.Written.{Written, all_written}

abbrev pub IsShort : Term → Type 0
IsShort t = unsigned_abs t.factor < 2 ^ 64

abbrev pub AreShort : List Term → Type 0
AreShort terms = (length terms < 2 ^ 32) × All IsShort terms

abbrev pub HasShortTerms : IndexExpr → Type 0
HasShortTerms e = AreShort e.terms

abbrev pub HasShortSides : Constraint → Type 0
HasShortSides c = AreShort c.left.terms × AreShort c.right.terms

-- few terms with factors below 2^64 in each index expression
abbrev pub IsShortWritten : Written → Type 0
IsShortWritten w = All HasShortTerms w.indices × All HasShortSides w.constraints

abbrev pub HasShortSums : System → Type 0
HasShortSums s = All IsShortWritten (all_written s)
