-- Reading a stimulus from left to right and line by line.
use Rattle.std.specs.Prelude.{◌≡◌, ℕ, ◌+◌, ◌^◌, Bool, false, not, ◌&&◌, if◌then◌else◌, nat_eq, nat_lt, nat_le, List, [], ◌∷◌, codes, length, take, drop, Option, Some, None, Result, Ok, Err, slice_get}
use Rattle.std.specs.List.{prefix_len, position}
use Rattle.std.specs.Str.{bytes_eq}
use Rattle.std.specs.Char.{is_ascii_digit}
use Rattle.av_base.specs.Tokens.{number_of}
use Rattle.av_base.specs.Spelling.{is_not_feed}
use Rattle.av_net.specs.declared.netlist.Port.{Port}
use Rattle.av_net.specs.Listed.{begins_feed}
use Rattle.av_net.specs.Spelling.{is_name}
use Rattle.av_net.specs.Names.{names_of}
use Rattle.av_data.specs.declared.stimulus.Given.{Given}
use Rattle.av_data.specs.declared.stimulus.Stimulus.{Stimulus}
use Rattle.av_data.specs.declared.fault.DataFault.{DataFault}
use Rattle.av_data.specs.declared.fault.DataFault.TheVariants.{DataSyntax, DataUnknown, DataOutside, DataTwice, Memory}
use Rattle.av_data.specs.Lines.{data_lines, uncommented, is_gap}
use Rattle.av_data.specs.Kept.{is_given, placed}

-- ---- one line at the front of some bytes

abbrev pub begins_return : List ℕ → Bool
begins_return [] = false
begins_return (b ∷ bytes) = nat_eq b 13 && begins_feed bytes

-- the first line, without what ends it
abbrev pub first_line : List ℕ → List ℕ
first_line [] = []
first_line (b ∷ bytes) = if nat_eq b 10 then [] else (if begins_return (b ∷ bytes) then [] else b ∷ first_line bytes)

-- how many bytes it has with that
abbrev pub line_size : List ℕ → ℕ
line_size [] = 0
line_size (b ∷ bytes) = if nat_eq b 10 then 1 else (if begins_return (b ∷ bytes) then 2 else 1 + line_size bytes)

-- how many bytes it has with its line feed
unfoldable pub whole_size : List ℕ → ℕ
whole_size bytes = if nat_lt (prefix_len is_not_feed bytes) (length bytes) then prefix_len is_not_feed bytes + 1 else prefix_len is_not_feed bytes

-- ---- the parts of a line, from left to right

abbrev pub is_part_byte : ℕ → Bool
is_part_byte b = not (is_gap b)

abbrev pub without_gap : List ℕ → List ℕ
without_gap text = drop (prefix_len is_gap text) text

-- the first part, or nothing
abbrev pub first_part : List ℕ → List ℕ
first_part text = take (prefix_len is_part_byte (without_gap text)) (without_gap text)

-- what follows it
abbrev pub after_part : List ℕ → List ℕ
after_part text = drop (prefix_len is_part_byte (without_gap text)) (without_gap text)

abbrev pub is_empty : List ℕ → Bool
is_empty text = nat_eq (length text) 0

abbrev pub are_digits : List ℕ → Bool
are_digits text = nat_lt 0 (length text) && nat_eq (prefix_len is_ascii_digit text) (length text)

-- the digits behind `cycles`, where nothing else stands there
unfoldable pub cycles_digits : List ℕ → Option (List ℕ)
cycles_digits text =
    if bytes_eq (first_part text) (codes "cycles") && (are_digits (first_part (after_part text)) && is_empty (first_part (after_part (after_part text))))
    then Some (first_part (after_part text)) else None

-- what stands behind `at`
pub record Setting : Type 0 where
  pub cycle : List ℕ
  pub port : List ℕ
  pub value : List ℕ

abbrev pub setting_by : List ℕ → List ℕ → List ℕ → List ℕ → List ℕ → Option Setting
setting_by word cycle port value extra =
    if bytes_eq word (codes "at") && (are_digits cycle && (is_name port && (are_digits value && is_empty extra)))
    then Some (record { cycle = cycle; port = port; value = value }) else None

abbrev pub setting_behind : List ℕ → List ℕ → Option Setting
setting_behind word text =
    setting_by word (first_part text) (first_part (after_part text)) (first_part (after_part (after_part text))) (first_part (after_part (after_part (after_part text))))

unfoldable pub setting_in : List ℕ → Option Setting
setting_in text = setting_behind (first_part text) (after_part text)

-- ---- lines

-- the answer so far
infixl 10 ◌>>=◌
abbrev pub ◌>>=◌ : {A B : Type 0} → Result A DataFault → (A → Result B DataFault) → Result B DataFault
(Ok x) >>= f = f x
(Err fault) >>= f = Err fault

-- the number of cycles that digits say
abbrev pub cycles_by : ℕ → Option (List ℕ) → Result (Option ℕ) DataFault
cycles_by k None = Err (DataSyntax k)
cycles_by k (Some digits) = if nat_le (number_of digits) 4096 then Ok (Some (number_of digits)) else Err (DataSyntax k)

-- line number k, where no line before it says how many cycles there are
unfoldable pub cycles_at : ℕ → List ℕ → Result (Option ℕ) DataFault
cycles_at k line = if is_empty (first_part (uncommented line)) then Ok None else cycles_by k (cycles_digits (uncommented line))

-- the place of the first port with a name
abbrev pub place_of : List Port → List ℕ → Option ℕ
place_of inputs name = position (bytes_eq name) (names_of inputs)

abbrev pub bits_of : Option Port → ℕ
bits_of None = 0
bits_of (Some port) = port.width.bits

-- the width of the port there, or 0
abbrev pub width_at : List Port → ℕ → ℕ
width_at inputs k = bits_of (slice_get inputs k)

abbrev pub added : ℕ → List Given → Given → Result (List Given) DataFault
added k values g = if is_given values g then Err (DataTwice k) else Ok (placed g values)

abbrev pub given_as : Setting → ℕ → Given
given_as s port = record { cycle = number_of s.cycle; port = port; value = number_of s.value }

abbrev pub is_within : List Port → ℕ → Setting → ℕ → Bool
is_within inputs n s port = nat_lt (number_of s.cycle) n && nat_lt (number_of s.value) (2 ^ width_at inputs port)

abbrev pub given_at : List Port → ℕ → ℕ → List Given → Setting → Option ℕ → Result (List Given) DataFault
given_at inputs n k values s None = Err (DataUnknown k)
given_at inputs n k values s (Some port) = if is_within inputs n s port then added k values (given_as s port) else Err (DataOutside k)

abbrev pub given_by : List Port → ℕ → ℕ → List Given → Option Setting → Result (List Given) DataFault
given_by inputs n k values None = Err (DataSyntax k)
given_by inputs n k values (Some s) = given_at inputs n k values s (place_of inputs s.port)

-- line number k, after a `cycles` line and these values
unfoldable pub value_at : List Port → ℕ → ℕ → List Given → List ℕ → Result (List Given) DataFault
value_at inputs n k values line = if is_empty (first_part (uncommented line)) then Ok values else given_by inputs n k values (setting_in (uncommented line))

-- the lines from number k on, where the lines before them said so many cycles and these values
unfoldable pub stimulus_from : List Port → Option ℕ → List Given → ℕ → List (List ℕ) → Result Stimulus DataFault
stimulus_from inputs None values k [] = Err (DataSyntax k)
stimulus_from inputs (Some n) values k [] = Ok (record { cycles = n; values = values })
stimulus_from inputs None values k (line ∷ lines) = cycles_at k line >>= λ cycles. stimulus_from inputs cycles values (k + 1) lines
stimulus_from inputs (Some n) values k (line ∷ lines) = value_at inputs n k values line >>= λ more. stimulus_from inputs (Some n) more (k + 1) lines

abbrev pub stimulus_of : List Port → ℕ → List ℕ → Result Stimulus DataFault
stimulus_of inputs first bytes = stimulus_from inputs None [] first (data_lines bytes)

-- ---- what the program answers

-- this fault, unless memory ran out
abbrev pub FaultIs : {A : Type 0} → DataFault → Result A DataFault → Type 0
FaultIs Memory wanted = Unit {0}
FaultIs fault wanted = wanted ≡ Err fault

-- this answer, unless memory ran out
abbrev pub Answers : {A : Type 0} → Result A DataFault → Result A DataFault → Type 0
Answers (Ok x) wanted = wanted ≡ Ok x
Answers (Err fault) wanted = FaultIs fault wanted
