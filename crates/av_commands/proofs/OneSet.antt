-- A text with other data behind its mark.
use Rattle.std.proofs.Common.{◌≡◌, ℕ, zero, suc, ◌+◌, ◌<◌, Bool, true, false, not, cond, List, [], ◌∷◌, ◌++◌, length, take, drop, refl, sym, ap, ◌∙◌, arith, length-append}
use Rattle.std.specs.Prelude.{if◌then◌else◌, nat_eq, codes}
use Rattle.std.specs.List.{prefix_len}
use Rattle.std.proofs.lemmas.List.{length-take-le}
use Rattle.std.proofs.Math.Seq.{take-append_seam, drop-append-add}
use Rattle.av_net.specs.Listed.{longer}
use Rattle.av_data.specs.Divisions.{whole_lines, is_mark, lines_before, joined, IsDivided}

-- ---- lines

abbrev lines_by : Bool → ℕ → List (List ℕ) → List (List ℕ)
lines_by t b lines = if t then (b ∷ []) ∷ lines else longer b lines

joined_back : (bytes : List ℕ) → joined (whole_lines bytes) ≡ bytes
joined_back [] = refl
joined_back (b ∷ bytes) = by (nat_eq b 10) (joined_back bytes)
  where
    joined_longer : (lines : List (List ℕ)) → joined (longer b lines) ≡ b ∷ joined lines
    joined_longer [] = refl
    joined_longer (line ∷ lines) = refl

    by : (t : Bool) → joined (whole_lines bytes) ≡ bytes → joined (lines_by t b (whole_lines bytes)) ≡ b ∷ bytes
    by true ih = ap (λ (ys : List ℕ). b ∷ ys) ih
    by false ih = joined_longer (whole_lines bytes) ∙ ap (λ (ys : List ℕ). b ∷ ys) ih

-- the first n of these lines remain lines where more follows them
abbrev AreKept : List ℕ → List (List ℕ) → ℕ → Type 0
AreKept more lines n = n < length lines → whole_lines (joined (take n lines) ++ more) ≡ take n lines ++ whole_lines more

kept_feed : (b : ℕ) (more : List ℕ) (lines : List (List ℕ)) → nat_eq b 10 ≡ true → ((m : ℕ) → AreKept more lines m) → (n : ℕ) → AreKept more ((b ∷ []) ∷ lines) n
kept_feed b more lines is kept zero lt = refl
kept_feed b more lines is kept (suc n) lt =
    let first : whole_lines (b ∷ (joined (take n lines) ++ more)) ≡ (b ∷ []) ∷ whole_lines (joined (take n lines) ++ more) = ap (λ t. lines_by t b (whole_lines (joined (take n lines) ++ more))) is in
    first ∙ ap (λ (ls : List (List ℕ)). (b ∷ []) ∷ ls) (kept n (omega arith))

kept_longer : (b : ℕ) (more : List ℕ) (lines : List (List ℕ)) → nat_eq b 10 ≡ false → ((m : ℕ) → AreKept more lines m) → (n : ℕ) → AreKept more (longer b lines) n
kept_longer b more lines is kept zero lt = refl
kept_longer b more [] is kept (suc n) lt = absurd (omega arith)
kept_longer b more (line ∷ lines) is kept (suc n) lt =
    let first : whole_lines (b ∷ ((line ++ joined (take n lines)) ++ more)) ≡ longer b (whole_lines ((line ++ joined (take n lines)) ++ more)) = ap (λ t. lines_by t b (whole_lines ((line ++ joined (take n lines)) ++ more))) is in
    first ∙ ap (longer b) (kept (suc n) (omega arith))

-- lines of a text that others follow remain lines, whatever comes behind them
lines_kept : (more bytes : List ℕ) (n : ℕ) → AreKept more (whole_lines bytes) n
lines_kept more [] n lt = absurd (omega arith)
lines_kept more (b ∷ bytes) n lt = by (nat_eq b 10) refl (λ m. lines_kept more bytes m) n lt
  where
    by : (t : Bool) → nat_eq b 10 ≡ t → ((m : ℕ) → AreKept more (whole_lines bytes) m) → (m : ℕ) → AreKept more (lines_by t b (whole_lines bytes)) m
    by true is kept = kept_feed b more (whole_lines bytes) is kept
    by false is kept = kept_longer b more (whole_lines bytes) is kept

-- ---- the first mark

-- how many pass a test from the front on, where another that does not pass follows these
passes_kept : (p : List ℕ → Bool) (lines : List (List ℕ)) (mark : List ℕ) (others : List (List ℕ)) → p mark ≡ false → prefix_len p (take (prefix_len p lines) lines ++ mark ∷ others) ≡ prefix_len p lines
passes_kept p [] mark others stops = ap (λ t. cond t (1 + prefix_len p others) 0) stops
passes_kept p (line ∷ lines) mark others stops = by (p line) refl (passes_kept p lines mark others stops)
  where
    by : (t : Bool) → p line ≡ t → prefix_len p (take (prefix_len p lines) lines ++ mark ∷ others) ≡ prefix_len p lines
        → prefix_len p (take (cond t (1 + prefix_len p lines) 0) (line ∷ lines) ++ mark ∷ others) ≡ cond t (1 + prefix_len p lines) 0
    by false is ih = ap (λ t. cond t (1 + prefix_len p others) 0) stops
    by true is ih =
        let one : 1 + prefix_len p lines ≡ suc (prefix_len p lines) = omega arith in
        ap (λ (n : ℕ). prefix_len p (take n (line ∷ lines) ++ mark ∷ others)) one
        ∙ ap (λ t. cond t (1 + prefix_len p (take (prefix_len p lines) lines ++ mark ∷ others)) 0) is
        ∙ ap (λ (n : ℕ). 1 + n) ih

-- these bytes behind the mark of a text, whatever stood there before
pub other_data : (whole before rest : List ℕ) (first : ℕ) → IsDivided whole before rest first → (bytes : List ℕ) → IsDivided (before ++ (codes "%%\n" ++ bytes)) before bytes first
other_data whole before rest first divided bytes = record {
  marked = omega (arith, count, size);
  text_is = divided.text_is ∙ ap joined (sym (ap (λ (m : ℕ). take m (whole_lines other)) count ∙ ap (take n) lines ∙ front));
  rest_is = sym (joined_back bytes) ∙ ap joined (sym (ap (λ (m : ℕ). drop (m + 1) (whole_lines other)) count ∙ ap (drop (n + 1)) lines ∙ behind));
  number = divided.number ∙ ap (λ (m : ℕ). m + 2) (sym count);
}
  where
    n : ℕ
    n = lines_before whole

    other : List ℕ
    other = before ++ (codes "%%\n" ++ bytes)

    all : List (List ℕ)
    all = take n (whole_lines whole) ++ codes "%%\n" ∷ whole_lines bytes

    within : n < length (whole_lines whole)
    within = divided.marked

    lines : whole_lines other ≡ all
    lines = ap (λ (text : List ℕ). whole_lines (text ++ (codes "%%\n" ++ bytes))) divided.text_is ∙ lines_kept (codes "%%\n" ++ bytes) whole n within

    many : length (take n (whole_lines whole)) ≡ n
    many = length-take-le n (whole_lines whole) (omega (arith, within))

    size : length (whole_lines other) ≡ n + suc (length (whole_lines bytes))
    size = ap length lines ∙ length-append (take n (whole_lines whole)) (codes "%%\n" ∷ whole_lines bytes) ∙ ap (λ (m : ℕ). m + suc (length (whole_lines bytes))) many

    count : lines_before other ≡ n
    count = ap (prefix_len (λ line. not (is_mark line))) lines ∙ passes_kept (λ line. not (is_mark line)) (whole_lines whole) (codes "%%\n") (whole_lines bytes) refl

    front : take n all ≡ take n (whole_lines whole)
    front = ap (λ (m : ℕ). take m all) (sym many) ∙ take-append_seam (take n (whole_lines whole)) (codes "%%\n" ∷ whole_lines bytes)

    behind : drop (n + 1) all ≡ whole_lines bytes
    behind = ap (λ (m : ℕ). drop (m + 1) all) (sym many) ∙ drop-append-add (take n (whole_lines whole)) (codes "%%\n" ∷ whole_lines bytes) 1
