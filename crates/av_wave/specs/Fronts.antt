-- Which lines begin the text of a wave, and the fault of bytes that are no such text.
use Rattle.std.specs.Prelude.{◌≡◌, ℕ, ◌+◌, ◌<◌, ◌≤◌, List, [], ◌∷◌, ◌++◌, if◌then◌else◌, nat_eq, length, take, Result, Ok, Err}
use Rattle.av_net.specs.Listed.{longer}
use Rattle.av_wave.specs.declared.fault.WaveFault.{WaveFault}
use Rattle.av_wave.specs.declared.fault.WaveFault.TheVariants.{WaveSyntax, Memory}
use Rattle.av_wave.specs.Waves.{Recording, IsWave}
use Rattle.av_wave.specs.Dumps.{dump_lines, dump_text}

-- the lines, each with the line feed that ends it; bytes after the last line feed are a line too
abbrev pub whole_lines : List ℕ → List (List ℕ)
whole_lines [] = []
whole_lines (b ∷ bytes) = if nat_eq b 10 then (b ∷ []) ∷ whole_lines bytes else longer b (whole_lines bytes)

-- the lines begin the text of some wave
pub record Begin (lines : List (List ℕ)) : Type 0 where
  pub wave : Recording
  pub is : IsWave wave
  pub more : List (List ℕ)
  pub text : lines ++ more ≡ dump_lines wave

-- the bytes are the text of no wave, and this is the number of the first line such that the lines before it begin one and with it
-- they begin none, or of the line after the last where all lines begin one
pub record IsWaveFault (bytes : List ℕ) (number : ℕ) : Type 0 where
  pub none : (w : Recording) → IsWave w → bytes ≡ dump_text w → ⊥
  pub before : ℕ
  pub number_is : number ≡ before + 1
  pub within : before ≤ length (whole_lines bytes)
  pub begin : Begin (take before (whole_lines bytes))
  pub ends : before < length (whole_lines bytes) → Begin (take (before + 1) (whole_lines bytes)) → ⊥

-- ---- answers

-- the answer is this wave, or out of memory
abbrev pub GivesWave : Result Recording WaveFault → Recording → Type 0
GivesWave (Ok w) wanted = w ≡ wanted
GivesWave (Err Memory) wanted = Unit {0}
GivesWave (Err (WaveSyntax n)) wanted = ⊥

-- the answer is a fault at this line, or out of memory
abbrev pub RefusesWave : Result Recording WaveFault → ℕ → Type 0
RefusesWave (Ok w) wanted = ⊥
RefusesWave (Err Memory) wanted = Unit {0}
RefusesWave (Err (WaveSyntax n)) wanted = n ≡ wanted
