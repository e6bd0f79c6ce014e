-- What a key says of the word that an assignment gives.
use Rattle.std.proofs.Common.{◌≡◌, ℕ, List, ◌==◌, ◌/◌, ◌%◌, ◌^◌, if◌then◌else◌, refl, sym, ◌∙◌, ap}
use Rattle.av_net.specs.declared.operation.Symbol.{Symbol}
use Rattle.av_net.specs.declared.operation.Symbol.TheVariants.{Add, Sub, Mul, And, Or, Equal, Unequal, Less, LessEqual, Greater, GreaterEqual}
use Rattle.av_net.specs.Meaning.{applied, signed_test, bit, chosen, widened}
use Rattle.av_clock.specs.declared.gate.Gate.{Gate}
use Rattle.av_clock.specs.declared.gate.Gate.TheVariants.{Buffer, Operator, Comparator, Multiplexer, Slice, Extender}
use Rattle.av_clock.specs.declared.gate.Assignment.{Assignment}
use Rattle.av_clock.specs.declared.key.Key.{Key}
use Rattle.av_clock.specs.Gates.{reading_word, gate_word}
use Rattle.av_clock.specs.inner.Keys.{number_of, gate_key, key_of}

abbrev symbol_of : ℕ → Symbol
symbol_of n =
    if n == 0 then Add else (if n == 1 then Sub else (if n == 2 then Mul else (if n == 3 then And else (if n == 4 then Or else (if n == 5 then Equal else
    (if n == 6 then Unequal else (if n == 7 then Less else (if n == 8 then LessEqual else (if n == 9 then Greater else GreaterEqual)))))))))

symbol_back : (symbol : Symbol) → symbol_of (number_of symbol) ≡ symbol
symbol_back Add = refl
symbol_back Sub = refl
symbol_back Mul = refl
symbol_back And = refl
symbol_back Or = refl
symbol_back Equal = refl
symbol_back Unequal = refl
symbol_back Less = refl
symbol_back LessEqual = refl
symbol_back Greater = refl
symbol_back GreaterEqual = refl

-- the word of a gate, by its key
abbrev key_word : List ℕ → Key → ℕ
key_word words key =
    if key.form == 0 then reading_word words key.first
    else (if key.form == 1 then applied (symbol_of key.symbol) key.bits (reading_word words key.first) (reading_word words key.second)
    else (if key.form == 2 then bit (signed_test (symbol_of key.symbol) key.bits (reading_word words key.first) (reading_word words key.second))
    else (if key.form == 3 then chosen (reading_word words key.first) (reading_word words key.second) (reading_word words key.third)
    else (if key.form == 4 then reading_word words key.first / 2 ^ key.number % 2 ^ key.bits
    else widened key.bits key.number (reading_word words key.first)))))

key_gives : (words : List ℕ) (width : ℕ) (gate : Gate) → key_word words (gate_key width gate) ≡ gate_word words gate
key_gives words width (Buffer input) = refl
key_gives words width (Operator left symbol right bits) = ap (λ s. applied s bits.bits (reading_word words left) (reading_word words right)) (symbol_back symbol)
key_gives words width (Comparator left symbol right bits) = ap (λ s. bit (signed_test s bits.bits (reading_word words left) (reading_word words right))) (symbol_back symbol)
key_gives words width (Multiplexer condition first second) = refl
key_gives words width (Slice input from bits) = refl
key_gives words width (Extender input bits by) = refl

-- assignments with one key give the same word
pub same_key : (words : List ℕ) (a b : Assignment) → key_of a ≡ key_of b → gate_word words a.gate ≡ gate_word words b.gate
same_key words a b same = sym (key_gives words a.width.bits a.gate) ∙ ap (key_word words) same ∙ key_gives words b.width.bits b.gate

key_width : (width : ℕ) (gate : Gate) → (gate_key width gate).width ≡ width
key_width width (Buffer input) = refl
key_width width (Operator left symbol right bits) = refl
key_width width (Comparator left symbol right bits) = refl
key_width width (Multiplexer condition first second) = refl
key_width width (Slice input from bits) = refl
key_width width (Extender input bits by) = refl

-- in the same width
pub same_width : (a b : Assignment) → key_of a ≡ key_of b → a.width.bits ≡ b.width.bits
same_width a b same = sym (key_width a.width.bits a.gate) ∙ ap (λ (key : Key). key.width) same ∙ key_width b.width.bits b.gate
