-- What a single token is where the grammar names one.
use Rattle.std.specs.Prelude.{◌≡◌, ◌≢◌, codes}
use Rattle.av_base.specs.declared.token_kind.TokenKind.TheVariants as kind
use Rattle.av_base.specs.declared.word.Op.{Op}
use Rattle.av_base.specs.declared.word.Op.TheVariants as op
use Rattle.av_base.specs.Tokens.{Token}
use Rattle.av_tree.specs.declared.relation.Relation.{Relation}
use Rattle.av_tree.specs.declared.relation.Relation.TheVariants as relation
use Rattle.av_tree.specs.Trees.{Text}

abbrev pub IsReserved : Text → Token → Type 0
IsReserved text t = (t.kind ≡ kind.Reserved) × (t.text ≡ text)

abbrev pub IsSymbol : Text → Token → Type 0
IsSymbol text t = (t.kind ≡ kind.Symbol) × (t.text ≡ text)

abbrev pub IsName : Token → Type 0
IsName t = t.kind ≡ kind.Name

abbrev pub IsNumber : Token → Type 0
IsNumber t = t.kind ≡ kind.Number

abbrev pub IsEnd : Token → Type 0
IsEnd t = t.kind ≡ kind.End

-- how a comparison is written
abbrev pub spelling : Relation → Text
spelling relation.Less = codes "<"
spelling relation.LessEqual = codes "<="
spelling relation.Greater = codes ">"
spelling relation.GreaterEqual = codes ">="
spelling relation.Equal = codes "="
spelling relation.Unequal = codes "<>"

-- a comparison in the condition of a choice
abbrev pub IsCompare : Relation → Token → Type 0
IsCompare r t = IsSymbol (spelling r) t

-- a comparison in a domain
abbrev pub IsRelation : Relation → Token → Type 0
IsRelation r t = (r ≢ relation.Unequal) × IsCompare r t

-- the operator of a reduction
abbrev pub IsOp : Op → Token → Type 0
IsOp op.Add t = IsSymbol (codes "+") t
IsOp op.Mul t = IsSymbol (codes "*") t
IsOp op.Min t = IsReserved (codes "min") t
IsOp op.Max t = IsReserved (codes "max") t
