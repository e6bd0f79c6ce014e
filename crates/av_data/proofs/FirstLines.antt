-- The first line of some bytes, and those after it.
use Rattle.std.proofs.Common.{◌≡◌, ℕ, zero, suc, ◌+◌, ◌<◌, ◌≤◌, Bool, true, false, List, [], ◌∷◌, ◌++◌, length, take, drop, refl, sym, ap, ◌∙◌, arith, add-one, true≢false, inl, inr}
use Rattle.std.specs.Prelude.{◌⊎◌, ◌&&◌, if◌then◌else◌, nat_eq}
use Rattle.std.proofs.lemmas.List.{append-nil, take_all}
use Rattle.std.proofs.Math.ListN.{drop_of_length-le}
use Rattle.av_net.specs.Listed.{longer, begins_feed}
use Rattle.av_data.specs.Lines.{data_lines}
use Rattle.av_data.specs.Reading.{begins_return, first_line, line_size}

-- ---- from the front on

-- what is known where so many bytes are no end of a line
pub record Goes (bytes : List ℕ) (i : ℕ) : Type 0 where
  pub line : take i bytes ++ first_line (drop i bytes) ≡ first_line bytes
  pub size : i + line_size (drop i bytes) ≡ line_size bytes

pub goes_first : (bytes : List ℕ) → Goes bytes 0
goes_first bytes = record { line = refl; size = omega arith }

line_more : (xs : List ℕ) (i : ℕ) → i < length xs → begins_feed (drop i xs) ≡ false → begins_return (drop i xs) ≡ false → take (suc i) xs ++ first_line (drop (suc i) xs) ≡ take i xs ++ first_line (drop i xs)
line_more [] i lt h k = absurd (omega arith)
line_more (b ∷ xs) zero lt h k = rw (h, k) refl
line_more (b ∷ xs) (suc i) lt h k = ap (λ ys. b ∷ ys) (line_more xs i (omega arith) h k)

size_more : (xs : List ℕ) (i : ℕ) → i < length xs → begins_feed (drop i xs) ≡ false → begins_return (drop i xs) ≡ false → suc i + line_size (drop (suc i) xs) ≡ i + line_size (drop i xs)
size_more [] i lt h k = absurd (omega arith)
size_more (b ∷ xs) zero lt h k = rw (h, k) (omega arith)
size_more (b ∷ xs) (suc i) lt h k = let more = size_more xs i (omega arith) h k in omega (arith, more)

pub goes_on : (bytes : List ℕ) (i : ℕ) → i < length bytes → begins_feed (drop i bytes) ≡ false → begins_return (drop i bytes) ≡ false → Goes bytes i → Goes bytes (i + 1)
goes_on bytes i lt h k so = record {
  line = rw add-one (line_more bytes i lt h k ∙ so.line);
  size = rw add-one (size_more bytes i lt h k ∙ so.size);
}

at_feed : (ys : List ℕ) → begins_feed ys ≡ true → (first_line ys ≡ []) × (line_size ys ≡ 1)
at_feed [] h = absurd (true≢false (sym h))
at_feed (b ∷ ys) h = (rw h refl, rw h refl)

at_return : (ys : List ℕ) → begins_feed ys ≡ false → begins_return ys ≡ true → (first_line ys ≡ []) × (line_size ys ≡ 2)
at_return [] h k = absurd (true≢false (sym k))
at_return (b ∷ ys) h k = (rw (h, k) refl, rw (h, k) refl)

pub line_before : (bytes : List ℕ) (i : ℕ) → first_line (drop i bytes) ≡ [] → Goes bytes i → take i bytes ≡ first_line bytes
line_before bytes i e so = sym (append-nil (take i bytes)) ∙ ap (λ ys. take i bytes ++ ys) (sym e) ∙ so.line

pub feed_line : (bytes : List ℕ) (i : ℕ) → begins_feed (drop i bytes) ≡ true → Goes bytes i → (take i bytes ≡ first_line bytes) × (i + 1 ≡ line_size bytes)
feed_line bytes i h so = let e = at_feed (drop i bytes) h in (line_before bytes i e.0 so, ap (λ n. i + n) (sym e.1) ∙ so.size)

pub return_line : (bytes : List ℕ) (i : ℕ) → begins_feed (drop i bytes) ≡ false → begins_return (drop i bytes) ≡ true → Goes bytes i → (take i bytes ≡ first_line bytes) × (i + 2 ≡ line_size bytes)
return_line bytes i h k so = let e = at_return (drop i bytes) h k in (line_before bytes i e.0 so, ap (λ n. i + n) (sym e.1) ∙ so.size)

pub whole_line : (bytes : List ℕ) (i : ℕ) → length bytes ≡ i → Goes bytes i → (bytes ≡ first_line bytes) × (length bytes ≡ line_size bytes)
whole_line bytes i is so =
    let none : drop i bytes ≡ [] = drop_of_length-le bytes (omega arith) in
    (sym (take_all i bytes (omega arith)) ∙ line_before bytes i (ap first_line none) so, (let e : line_size (drop i bytes) ≡ 0 = ap line_size none in omega (arith, e, so.size)))

-- ---- the other lines

abbrev Splits : List ℕ → Type 0
Splits bytes = data_lines bytes ≡ first_line bytes ∷ data_lines (drop (line_size bytes) bytes)

both_end : (t u : Bool) → (t && u) ≡ true → u ≡ true
both_end true u h = h
both_end false u h = absurd (true≢false (sym h))

feed_splits : (ys : List ℕ) → begins_feed ys ≡ true → data_lines ys ≡ [] ∷ data_lines (drop 1 ys)
feed_splits [] h = absurd (true≢false (sym h))
feed_splits (c ∷ ys) h = rw h refl

longer_splits : (b : ℕ) (ys : List ℕ) → (ys ≡ []) ⊎ Splits ys → longer b (data_lines ys) ≡ (b ∷ first_line ys) ∷ data_lines (drop (1 + line_size ys) (b ∷ ys))
longer_splits b ys (inl e) = rw e refl
longer_splits b ys (inr h) = let e : 1 + line_size ys ≡ suc (line_size ys) = omega arith in rw (h, e) refl

splits_by : (b : ℕ) (bytes : List ℕ) → (bytes ≡ []) ⊎ Splits bytes → (t u : Bool) → nat_eq b 10 ≡ t → (nat_eq b 13 && begins_feed bytes) ≡ u → Splits (b ∷ bytes)
splits_by b bytes h true u e f = rw e refl
splits_by b bytes h false true e f = rw (e, f) (feed_splits bytes (both_end (nat_eq b 13) (begins_feed bytes) f))
splits_by b bytes h false false e f = rw (e, f) (longer_splits b bytes h)

pub first_of : (b : ℕ) (bytes : List ℕ) → data_lines (b ∷ bytes) ≡ first_line (b ∷ bytes) ∷ data_lines (drop (line_size (b ∷ bytes)) (b ∷ bytes))
first_of b [] = splits_by b [] (inl refl) (nat_eq b 10) (nat_eq b 13 && false) refl refl
first_of b (c ∷ bytes) = splits_by b (c ∷ bytes) (inr (first_of c bytes)) (nat_eq b 10) (nat_eq b 13 && begins_feed (c ∷ bytes)) refl refl

-- a line has a byte, and no more than there are
pub size_some : (b : ℕ) (bytes : List ℕ) → 0 < line_size (b ∷ bytes)
size_some b bytes = by (nat_eq b 10) (nat_eq b 13 && begins_feed bytes)
  where
    by : (t u : Bool) → 0 < (if t then 1 else (if u then 2 else 1 + line_size bytes))
    by true u = omega arith
    by false true = omega arith
    by false false = omega arith

two_there : (ys : List ℕ) → begins_feed ys ≡ true → 2 ≤ suc (length ys)
two_there [] h = absurd (true≢false (sym h))
two_there (c ∷ ys) h = omega arith

within_by : (b : ℕ) (bytes : List ℕ) → line_size bytes ≤ length bytes → (t u : Bool) → (nat_eq b 13 && begins_feed bytes) ≡ u → (if t then 1 else (if u then 2 else 1 + line_size bytes)) ≤ suc (length bytes)
within_by b bytes h true u f = omega arith
within_by b bytes h false true f = two_there bytes (both_end (nat_eq b 13) (begins_feed bytes) f)
within_by b bytes h false false f = omega (arith, h)

pub size_within : (bytes : List ℕ) → line_size bytes ≤ length bytes
size_within [] = omega arith
size_within (b ∷ bytes) = within_by b bytes (size_within bytes) (nat_eq b 10) (nat_eq b 13 && begins_feed bytes) refl
