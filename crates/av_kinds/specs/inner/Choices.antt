-- Choices by the counter: which of several words is taken at a number of it.
use Rattle.std.specs.Prelude.{ℕ, ◌+◌, ◌-◌, Bool, nat_le, nat_eq, nat_lt, ◌&&◌, List, [], ◌∷◌, ◌++◌, length, if◌then◌else◌}
use Rattle.av_base.specs.declared.width.Width.{Width}
use Rattle.av_net.specs.declared.operation.Symbol.TheVariants.{And, LessEqual, GreaterEqual}
use Rattle.av_net.specs.declared.operation.Operand.{Operand}
use Rattle.av_net.specs.declared.operation.Operand.TheVariants.{Name, Literal}
use Rattle.av_net.specs.declared.operation.Operation.{Operation}
use Rattle.av_net.specs.declared.operation.Operation.TheVariants.{Plain, Binary, Choose, Part, Widen}
use Rattle.av_kinds.specs.declared.choice.Guard.{Guard}
use Rattle.av_kinds.specs.declared.choice.Guard.TheVariants.{UpTo, Within}
use Rattle.av_kinds.specs.declared.choice.Arm.{Arm}
use Rattle.av_kinds.specs.declared.choice.Tap.{Tap}
use Rattle.av_net.specs.Meaning.{Words, word_of}
use Rattle.av_kinds.specs.Histories.{resized}
use Rattle.av_kinds.specs.Names.{Naming}
use Rattle.av_kinds.specs.inner.Gates.{gate, Built, built, Named, named}
use Rattle.av_kinds.specs.Tops.{one_bit}

-- whether the number is one of them
abbrev pub holds_in : Words → ℕ → Guard → Bool
holds_in v c (UpTo last) = nat_le c (word_of v last)
holds_in v c (Within first last) = nat_le (word_of v first) c && nat_le c (word_of v last)

-- the test, by the counter
abbrev pub guard_built : Naming → ℕ → Operand → Guard → Built
guard_built name n counter (UpTo last) = built [] (Binary counter LessEqual last)
guard_built name n counter (Within first last) =
    built (gate one_bit (Binary counter GreaterEqual first) ∷ gate one_bit (Binary counter LessEqual last) ∷ [])
    (Binary (Name (name n)) And (Name (name (n + 1))))

-- the first where the number is in the guard, else the second: the wires of the second come first
abbrev pub either_built : Naming → ℕ → Operand → Guard → Named → Named → Built
either_built name n counter guard first second =
    let m = n + length second.gates + length first.gates in
    let t = named name m one_bit (guard_built name m counter guard) in
    built (second.gates ++ (first.gates ++ t.gates)) (Choose t.operand first.operand second.operand)

-- ---- words

-- the operand at a number
abbrev pub tapped_by : Words → ℕ → Operand → List Arm → Operand
tapped_by v c otherwise [] = otherwise
tapped_by v c otherwise (o ∷ options) = if holds_in v c o.guard then o.operand else tapped_by v c otherwise options

abbrev pub tapped : Words → ℕ → Tap → Operand
tapped v c tap = tapped_by v c tap.otherwise tap.arms

abbrev pub options_built : Naming → Width → Operand → ℕ → Operand → List Arm → Built
options_built name w counter n otherwise [] = built [] (Plain otherwise)
options_built name w counter n otherwise (o ∷ options) =
    either_built name n counter o.guard (record { gates = []; operand = o.operand }) (named name n w (options_built name w counter n otherwise options))

abbrev pub tap_built : Naming → Operand → ℕ → Tap → Built
tap_built name counter n tap = options_built name tap.width counter n tap.otherwise tap.arms

-- ---- words of another width

-- the operation that gives a word of one width as a word of another
abbrev pub fitting : ℕ → ℕ → Operand → Operation
fitting from to (Name name) = if nat_lt from to then Widen name (to - from) else Part name (to - 1) 0
fitting from to (Literal width value) = Plain (Literal width value)

-- the word of a tap, as one of the width w
abbrev pub fit_built : Naming → Width → Operand → ℕ → Tap → Built
fit_built name w counter n tap =
    if nat_eq tap.width.bits w.bits then tap_built name counter n tap
    else (let a = named name n tap.width (tap_built name counter n tap) in built a.gates (fitting tap.width.bits w.bits a.operand))

abbrev pub tap_value : ℕ → Words → ℕ → Tap → ℕ
tap_value w v c tap = resized tap.width.bits w (word_of v (tapped v c tap))
