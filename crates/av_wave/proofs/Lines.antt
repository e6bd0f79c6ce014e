-- The lines of a text, each with the line feed that ends it.
use Rattle.std.proofs.Common.{◌≡◌, ◌≢◌, ℕ, suc, ◌<◌, ◌≤◌, List, [], ◌∷◌, ◌++◌, length, drop, true, false, Bool, refl, sym, ◌∙◌, ap, arith}
use Rattle.std.specs.Prelude.{if◌then◌else◌, nat_eq}
use Rattle.std.specs.List.{AllByRecursion}
use Rattle.std.proofs.lemmas.Bool.{ne_eqb}
use Rattle.av_net.specs.Listed.{longer}
use Rattle.av_wave.specs.Dumps.{joined}
use Rattle.av_wave.specs.Fronts.{whole_lines}
use Rattle.av_wave.specs.inner.Lines.{first_line}

-- no byte is a line feed
abbrev pub IsPlain : List ℕ → Type 0
IsPlain text = AllByRecursion (λ b. b ≢ 10) text

-- a text without a line feed, and one behind it
pub record IsLine (line : List ℕ) : Type 0 where
  pub text : List ℕ
  pub plain : IsPlain text
  pub whole : line ≡ text ++ 10 ∷ []

-- ---- a text falls apart into its lines

whole_first : (text rest : List ℕ) → IsPlain text → whole_lines ((text ++ 10 ∷ []) ++ rest) ≡ (text ++ 10 ∷ []) ∷ whole_lines rest
whole_first [] rest plain = refl
whole_first (b ∷ text) rest plain = rw (ne_eqb b 10 plain.0) (ap (longer b) (whole_first text rest plain.1))

pub lines_back : (lines : List (List ℕ)) → AllByRecursion IsLine lines → whole_lines (joined lines) ≡ lines
lines_back [] all = refl
lines_back (line ∷ lines) all =
    let is = all.0 in
    ap (λ first. whole_lines (first ++ joined lines)) is.whole ∙ whole_first is.text (joined lines) is.plain ∙ ap (λ first. first ∷ whole_lines (joined lines)) (sym is.whole)
    ∙ ap (λ rest. line ∷ rest) (lines_back lines all.1)

-- ---- and is made of them

joined_longer : (b : ℕ) (lines : List (List ℕ)) → joined (longer b lines) ≡ b ∷ joined lines
joined_longer b [] = refl
joined_longer b (line ∷ lines) = refl

pub joined_back : (bytes : List ℕ) → joined (whole_lines bytes) ≡ bytes
joined_back [] = refl
joined_back (b ∷ bytes) = by_test (nat_eq b 10) (joined_back bytes)
  where
    by_test : (t : Bool) → joined (whole_lines bytes) ≡ bytes → joined (if t then (b ∷ []) ∷ whole_lines bytes else longer b (whole_lines bytes)) ≡ b ∷ bytes
    by_test true e = ap (λ rest. b ∷ rest) e
    by_test false e = joined_longer b (whole_lines bytes) ∙ ap (λ rest. b ∷ rest) e

-- ---- line by line

first_one : (b : ℕ) (bytes : List ℕ) → whole_lines (b ∷ bytes) ≡ first_line (b ∷ bytes) ∷ whole_lines (drop (length (first_line (b ∷ bytes))) (b ∷ bytes))
first_one b [] = by_test (nat_eq b 10)
  where
    by_test : (t : Bool) → (if t then (b ∷ []) ∷ [] else (b ∷ []) ∷ [])
        ≡ (if t then b ∷ [] else b ∷ []) ∷ whole_lines (drop (length (if t then b ∷ [] else b ∷ [])) (b ∷ []))
    by_test true = refl
    by_test false = refl
first_one b (c ∷ bytes) = by_test (nat_eq b 10) (first_one c bytes)
  where
    by_test : (t : Bool) → whole_lines (c ∷ bytes) ≡ first_line (c ∷ bytes) ∷ whole_lines (drop (length (first_line (c ∷ bytes))) (c ∷ bytes))
        → (if t then (b ∷ []) ∷ whole_lines (c ∷ bytes) else longer b (whole_lines (c ∷ bytes)))
        ≡ (if t then b ∷ [] else b ∷ first_line (c ∷ bytes)) ∷ whole_lines (drop (length (if t then b ∷ [] else b ∷ first_line (c ∷ bytes))) (b ∷ c ∷ bytes))
    by_test true e = refl
    by_test false e = ap (longer b) e

pub next_line : (bytes : List ℕ) → 0 < length bytes → whole_lines bytes ≡ first_line bytes ∷ whole_lines (drop (length (first_line bytes)) bytes)
next_line [] some = absurd (omega arith)
next_line (b ∷ bytes) some = first_one b bytes

first_some : (b : ℕ) (bytes : List ℕ) (t : Bool) → 0 < length (if t then b ∷ [] else b ∷ first_line bytes)
first_some b bytes true = omega arith
first_some b bytes false = omega arith

-- a line has a byte, and no more than the text
pub line_some : (bytes : List ℕ) → 0 < length bytes → 0 < length (first_line bytes)
line_some [] some = absurd (omega arith)
line_some (b ∷ bytes) some = first_some b bytes (nat_eq b 10)

pub line_within : (bytes : List ℕ) → length (first_line bytes) ≤ length bytes
line_within [] = omega arith
line_within (b ∷ bytes) = by_test (nat_eq b 10) (line_within bytes)
  where
    by_test : (t : Bool) → length (first_line bytes) ≤ length bytes → length (if t then b ∷ [] else b ∷ first_line bytes) ≤ suc (length bytes)
    by_test true le = omega arith
    by_test false le = omega arith
