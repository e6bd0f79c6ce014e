-- A tree as wires: each operator is one operation, or a test and a choice.
use Rattle.std.specs.Prelude.{ℕ, ◌+◌, List, [], ◌∷◌, ◌++◌, length}
use Rattle.av_base.specs.declared.width.Width.{Width}
use Rattle.av_tree.specs.declared.relation.Relation.{Relation}
use Rattle.av_tree.specs.declared.relation.Relation.TheVariants as relation
use Rattle.av_tree.specs.declared.sign.Sign.{Sign}
use Rattle.av_tree.specs.declared.sign.Sign.TheVariants as sign
use Rattle.av_net.specs.declared.operation.Symbol.TheVariants.{Add, Sub, Mul, Equal, Unequal, Less, LessEqual, Greater, GreaterEqual}
use Rattle.av_net.specs.declared.operation.Operand.{Operand}
use Rattle.av_net.specs.declared.operation.Operand.TheVariants.{Name, Literal}
use Rattle.av_net.specs.declared.operation.Operation.{Operation}
use Rattle.av_net.specs.declared.operation.Operation.TheVariants.{Plain, Binary, Signed, Choose}
use Rattle.av_flat.specs.Trees.{Tree, reference, constant, binary, choice, pick}
use Rattle.av_kinds.specs.declared.gates.LaneGate.{LaneGate}
use Rattle.av_kinds.specs.Programs.{site_count}
use Rattle.av_kinds.specs.Names.{Naming}
use Rattle.av_kinds.specs.Tops.{one_bit}
use Rattle.av_kinds.specs.inner.Gates.{gate, Built, built, named}

-- a test on a wire of its own, and the choice by it
abbrev pub chosen_by : Naming → ℕ → List LaneGate → Operation → Operand → Operand → Built
chosen_by name n gates test first second = built (gates ++ gate one_bit test ∷ []) (Choose (Name (name (n + length gates))) first second)

-- an operator on what both sides have
abbrev pub joined : Naming → ℕ → Sign → List LaneGate → Operand → Operand → Built
joined name n sign.Add gates a b = built gates (Binary a Add b)
joined name n sign.Sub gates a b = built gates (Binary a Sub b)
joined name n sign.Mul gates a b = built gates (Binary a Mul b)
joined name n sign.Min gates a b = chosen_by name n gates (Signed b Less a) b a
joined name n sign.Max gates a b = chosen_by name n gates (Signed a Less b) b a

-- words compared as signed numbers
abbrev pub comparison : Relation → Operand → Operand → Operation
comparison relation.Less a b = Signed a Less b
comparison relation.LessEqual a b = Signed a LessEqual b
comparison relation.Greater a b = Signed a Greater b
comparison relation.GreaterEqual a b = Signed a GreaterEqual b
comparison relation.Equal a b = Binary a Equal b
comparison relation.Unequal a b = Binary a Unequal b

-- where the places that read, counted from s on, are brought by these operands; wires have numbers from n on
abbrev pub tree_built : Naming → Width → (ℕ → Operand) → ℕ → ℕ → Tree → Built
tree_built name w taps n s (reference place m) = built [] (Plain (taps s))
tree_built name w taps n s (constant k) = built [] (Plain (Literal w k))
tree_built name w taps n s (binary g l r) =
    let a = named name n w (tree_built name w taps n s l) in
    let b = named name (n + length a.gates) w (tree_built name w taps (n + length a.gates) (s + site_count l) r) in
    joined name n g (a.gates ++ b.gates) a.operand b.operand
tree_built name w taps n s (choice l c r x y) =
    let a = named name n w (tree_built name w taps n s l) in
    let nb = n + length a.gates in
    let sb = s + site_count l in
    let b = named name nb w (tree_built name w taps nb sb r) in
    let nx = nb + length b.gates in
    let sx = sb + site_count r in
    let d = named name nx w (tree_built name w taps nx sx x) in
    let ny = nx + length d.gates in
    let sy = sx + site_count x in
    let e = named name ny w (tree_built name w taps ny sy y) in
    chosen_by name n (a.gates ++ (b.gates ++ (d.gates ++ e.gates))) (comparison c a.operand b.operand) d.operand e.operand
tree_built name w taps n s (pick place choices k) = built [] (Plain (taps s))
tree_built name w taps n s _ = built [] (Plain (Literal w 0))
