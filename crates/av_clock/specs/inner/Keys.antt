-- Keys of assignments: assignments with one key give the same word in the same width.
use Rattle.std.specs.Prelude.{ℕ}
use Rattle.av_net.specs.declared.operation.Symbol.{Symbol}
use Rattle.av_net.specs.declared.operation.Symbol.TheVariants.{Add, Sub, Mul, And, Or, Equal, Unequal, Less, LessEqual, Greater, GreaterEqual}
use Rattle.av_clock.specs.declared.gate.Reading.TheVariants.{Constant}
use Rattle.av_clock.specs.declared.gate.Gate.{Gate}
use Rattle.av_clock.specs.declared.gate.Gate.TheVariants.{Buffer, Operator, Comparator, Multiplexer, Slice, Extender}
use Rattle.av_clock.specs.declared.gate.Assignment.{Assignment}
use Rattle.av_clock.specs.declared.key.Key.{Key}

abbrev pub number_of : Symbol → ℕ
number_of Add = 0
number_of Sub = 1
number_of Mul = 2
number_of And = 3
number_of Or = 4
number_of Equal = 5
number_of Unequal = 6
number_of Less = 7
number_of LessEqual = 8
number_of Greater = 9
number_of GreaterEqual = 10

abbrev pub gate_key : ℕ → Gate → Key
gate_key width (Buffer input) = record { form = 0; symbol = 0; number = 0; bits = 0; width = width; first = input; second = Constant 0; third = Constant 0 }
gate_key width (Operator left symbol right bits) = record { form = 1; symbol = number_of symbol; number = 0; bits = bits.bits; width = width; first = left; second = right; third = Constant 0 }
gate_key width (Comparator left symbol right bits) = record { form = 2; symbol = number_of symbol; number = 0; bits = bits.bits; width = width; first = left; second = right; third = Constant 0 }
gate_key width (Multiplexer condition first second) = record { form = 3; symbol = 0; number = 0; bits = 0; width = width; first = condition; second = first; third = second }
gate_key width (Slice input from bits) = record { form = 4; symbol = 0; number = from; bits = bits.bits; width = width; first = input; second = Constant 0; third = Constant 0 }
gate_key width (Extender input bits by) = record { form = 5; symbol = 0; number = by; bits = bits.bits; width = width; first = input; second = Constant 0; third = Constant 0 }

abbrev pub key_of : Assignment → Key
key_of assignment = gate_key assignment.width.bits assignment.gate
