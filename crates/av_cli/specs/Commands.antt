-- How the words of the command line are read.
use Rattle.std.specs.Prelude.{◌≡◌, ◌⊎◌, ℕ, List, [], ◌∷◌, ◌++◌, Option, Some, None, codes, Contains}
use Rattle.std.specs.List.{AllByRecursion}
use Rattle.av_names.specs.declared.size.Size.{Size}
use Rattle.av_commands.specs.SizeWords.{SpellsUpTo, IsSize, GiveSizes}

-- ---- options

-- the width of words, and the size of the box, where an option gives them
pub record Options : Type 0 where
  pub width : Option ℕ
  pub box : Option ℕ

abbrev pub having_width : Options → ℕ → Options
having_width o n = record { width = Some n; box = o.box }

abbrev pub having_box : Options → ℕ → Options
having_box o n = record { width = o.width; box = Some n }

-- an option with its value stands before the rest: in two words, or in one with a `=` between
abbrev pub IsOption : List ℕ → List (List ℕ) → List ℕ → List (List ℕ) → Type 0
IsOption name words digits rest = (words ≡ name ∷ digits ∷ rest) ⊎ (words ≡ (name ++ (codes "=" ++ digits)) ∷ rest)

-- with the options so far, the words end with these options; behind `--` there are sizes alone
pub data Say : Options → List (List ℕ) → Options → Type 0 where
  nothing : {o : Options} → Say o [] o
  width : {o p : Options} {words rest : List (List ℕ)} {digits : List ℕ} {n : ℕ} → o.width ≡ None → IsOption (codes "--width") words digits rest
      → SpellsUpTo 64 digits n → Say (having_width o n) rest p → Say o words p
  box : {o p : Options} {words rest : List (List ℕ)} {digits : List ℕ} {n : ℕ} → o.box ≡ None → IsOption (codes "--box") words digits rest
      → SpellsUpTo 4 digits n → Say (having_box o n) rest p → Say o words p
  size : {o p : Options} {word : List ℕ} {rest : List (List ℕ)} → IsSize word → Say o rest p → Say o (word ∷ rest) p
  sizes : {o : Options} {word : List ℕ} {rest : List (List ℕ)} → word ≡ codes "--" → AllByRecursion IsSize rest → Say o (word ∷ rest) o

-- ---- commands

-- where no option gives the width of words
abbrev pub default_width : ℕ
default_width = 32

-- where no option gives the size of the box
abbrev pub default_box : ℕ
default_box = 2

abbrev pub given_or : ℕ → Option ℕ → ℕ
given_or default None = default
given_or default (Some n) = n

-- no option yet
abbrev pub no_options : Options
no_options = record { width = None; box = None }

-- the name of a command, then options and sizes in any order; neither a command nor an option or its value has the form of a size
pub record Asks (name : List ℕ) (words : List (List ℕ)) (bits box : ℕ) (sizes : List Size) : Type 0 where
  pub rest : List (List ℕ)
  pub first : words ≡ name ∷ rest
  pub options : Options
  pub say : Say no_options rest options
  pub bits_are : bits ≡ given_or default_width options.width
  pub box_is : box ≡ given_or default_box options.box
  pub give : GiveSizes words sizes

-- of `check` the box says nothing
abbrev pub IsCheck : List (List ℕ) → ℕ → List Size → Type 0
IsCheck words bits found = (reach : ℕ) × Asks (codes "check") words bits reach found

abbrev pub IsSchedule : List (List ℕ) → ℕ → ℕ → List Size → Type 0
IsSchedule words bits reach found = Asks (codes "schedule") words bits reach found

abbrev pub IsTable : List (List ℕ) → ℕ → ℕ → List Size → Type 0
IsTable words bits reach found = Asks (codes "table") words bits reach found

abbrev pub IsEmit : List (List ℕ) → ℕ → ℕ → List Size → Type 0
IsEmit words bits reach found = Asks (codes "emit") words bits reach found

abbrev pub IsRun : List (List ℕ) → ℕ → ℕ → List Size → Type 0
IsRun words bits reach found = Asks (codes "run") words bits reach found

abbrev pub IsTrace : List (List ℕ) → ℕ → ℕ → List Size → Type 0
IsTrace words bits reach found = Asks (codes "trace") words bits reach found

abbrev pub IsBest : List (List ℕ) → ℕ → ℕ → List Size → Type 0
IsBest words bits reach found = Asks (codes "best") words bits reach found

abbrev pub IsStream : List (List ℕ) → ℕ → ℕ → List Size → Type 0
IsStream words bits reach found = Asks (codes "stream") words bits reach found

abbrev pub AsksWave : List (List ℕ) → ℕ → ℕ → List Size → Type 0
AsksWave words bits reach found = Asks (codes "wave") words bits reach found

abbrev pub IsRun8 : List (List ℕ) → ℕ → ℕ → List Size → Type 0
IsRun8 words bits reach found = Asks (codes "run8") words bits reach found

-- nothing, or `--` alone
abbrev pub IsBare : List (List ℕ) → Type 0
IsBare words = (words ≡ []) ⊎ (words ≡ codes "--" ∷ [])

-- `sim`, with no option and no size
pub record IsSim (words : List (List ℕ)) : Type 0 where
  pub rest : List (List ℕ)
  pub first : words ≡ codes "sim" ∷ rest
  pub bare : IsBare rest

-- `unwave`, with no option and no size
pub record IsUnwave (words : List (List ℕ)) : Type 0 where
  pub rest : List (List ℕ)
  pub first : words ≡ codes "unwave" ∷ rest
  pub bare : IsBare rest

-- `demo`, with the size of its matrices between whole options, and behind `--` nothing but that size. No word has the form of a
-- size of a system.
pub record IsDemo (words : List (List ℕ)) (bits box k : ℕ) : Type 0 where
  pub before : List (List ℕ)
  pub word : List ℕ
  pub after : List (List ℕ)
  pub parts : words ≡ codes "demo" ∷ (before ++ (word ∷ after))
  pub size : SpellsUpTo 16 word k
  pub middle : Options
  pub options : Options
  pub say_before : Say no_options before middle
  pub say_after : Say middle after options
  pub last : Contains before (codes "--") → after ≡ []
  pub bits_are : bits ≡ given_or default_width options.width
  pub box_is : box ≡ given_or default_box options.box
  pub no_size : GiveSizes words []

-- a command that reads an input
abbrev pub TakeInput : List (List ℕ) → Type 0
TakeInput words =
    ((bits : ℕ) × (reach : ℕ) × (found : List Size) × IsEmit words bits reach found)
    ⊎ IsSim words
    ⊎ ((bits : ℕ) × (found : List Size) × IsCheck words bits found)
    ⊎ ((bits : ℕ) × (reach : ℕ) × (found : List Size) × IsSchedule words bits reach found)
    ⊎ ((bits : ℕ) × (reach : ℕ) × (found : List Size) × IsTable words bits reach found)
    ⊎ ((bits : ℕ) × (reach : ℕ) × (found : List Size) × IsRun words bits reach found)
    ⊎ ((bits : ℕ) × (reach : ℕ) × (found : List Size) × IsTrace words bits reach found)
    ⊎ ((bits : ℕ) × (reach : ℕ) × (found : List Size) × IsBest words bits reach found)
    ⊎ ((bits : ℕ) × (reach : ℕ) × (found : List Size) × IsStream words bits reach found)
    ⊎ ((bits : ℕ) × (reach : ℕ) × (found : List Size) × AsksWave words bits reach found)
    ⊎ ((bits : ℕ) × (reach : ℕ) × (found : List Size) × IsRun8 words bits reach found)
    ⊎ IsUnwave words

-- `demo`, which reads none
abbrev pub AskDemo : List (List ℕ) → Type 0
AskDemo words = (bits : ℕ) × (reach : ℕ) × (k : ℕ) × IsDemo words bits reach k

abbrev pub AreRead : List (List ℕ) → Type 0
AreRead words = TakeInput words ⊎ AskDemo words

abbrev pub usage_line : List ℕ
usage_line = codes "usage: alphav check|schedule|table|emit|run|trace|best|stream|wave|run8 [--width W] [--box C] [NAME=VALUE ...] | sim | unwave | demo K\n"
