-- An input divided line by line.
use Rattle.std.proofs.Common.{◌≡◌, ℕ, zero, suc, ◌+◌, ◌<◌, ◌≤◌, Bool, true, false, not, List, [], ◌∷◌, ◌++◌, length, get_or, take, drop, refl, sym, ap, ◌∙◌, arith, append_assoc, true≢false, inl, inr, drop-drop}
use Rattle.std.specs.Prelude.{◌⊎◌, if◌then◌else◌, nat_eq, nat_lt}
use Rattle.std.specs.List.{prefix_len}
use Rattle.std.proofs.lemmas.Bool.{cases_lt, ltb-true, ltb-false}
use Rattle.std.proofs.lemmas.List.{length-drop, append-nil}
use Rattle.std.proofs.lemmas.List.Sums.{prefix_len_passes, prefix_len_stops, prefix_len-le-length}
use Rattle.std.proofs.Math.ListN.{drop_of_length-le}
use Rattle.std.proofs.Math.Seq.{take-add}
use Rattle.av_net.specs.Listed.{longer}
use Rattle.av_data.specs.Divisions.{whole_lines, is_mark, lines_before, joined, IsDivided, HasNoMark}
use Rattle.av_base.specs.Spelling.{is_not_feed}
use Rattle.av_data.specs.Reading.{whole_size}

-- ---- the size of the first line

lt_to : (a b : ℕ) → a < b → nat_lt a b ≡ true
lt_to a b lt = by (nat_lt a b) refl
  where
    by : (t : Bool) → nat_lt a b ≡ t → t ≡ true
    by true e = refl
    by false e = absurd (omega (arith, lt, ltb-false a b e))

lt_not : (a b : ℕ) → b ≤ a → nat_lt a b ≡ false
lt_not a b le = by (nat_lt a b) refl
  where
    by : (t : Bool) → nat_lt a b ≡ t → t ≡ false
    by true e = absurd (omega (arith, le, ltb-true a b e))
    by false e = refl

size_by : ℕ → ℕ → ℕ
size_by n long = if nat_lt n long then n + 1 else n

by_less : (n long : ℕ) → n < long → size_by n long ≡ n + 1
unfolding size_by
by_less n long lt = rw (lt_to n long lt) refl

by_all : (n long : ℕ) → long ≤ n → size_by n long ≡ n
unfolding size_by
by_all n long le = rw (lt_not n long le) refl

size_is : (bytes : List ℕ) → whole_size bytes ≡ size_by (prefix_len is_not_feed bytes) (length bytes)
unfolding whole_size size_by
size_is bytes = refl

size_feed : (b : ℕ) (bytes : List ℕ) → nat_eq b 10 ≡ true → whole_size (b ∷ bytes) ≡ 1
size_feed b bytes h =
    let none : prefix_len is_not_feed (b ∷ bytes) ≡ 0 = rw h refl in
    size_is (b ∷ bytes) ∙ ap (λ n. size_by n (length (b ∷ bytes))) none ∙ by_less 0 (length (b ∷ bytes)) (omega arith)

size_more : (b : ℕ) (bytes : List ℕ) → nat_eq b 10 ≡ false → whole_size (b ∷ bytes) ≡ suc (whole_size bytes)
size_more b bytes h =
    let n : ℕ = prefix_len is_not_feed bytes in
    let more : prefix_len is_not_feed (b ∷ bytes) ≡ suc n = rw h (omega arith) in
    size_is (b ∷ bytes) ∙ ap (λ n. size_by n (length (b ∷ bytes))) more ∙ grows n (length bytes) ∙ ap (λ (m : ℕ). suc m) (sym (size_is bytes))
  where
    grows : (n long : ℕ) → size_by (suc n) (suc long) ≡ suc (size_by n long)
    grows n long = elim (cases_lt n long) [
      | inl lt ↦ by_less (suc n) (suc long) (omega arith) ∙ (let e = by_less n long lt in omega (arith, e))
      | inr le ↦ by_all (suc n) (suc long) (omega arith) ∙ ap (λ (m : ℕ). suc m) (sym (by_all n long le))
    ]

size_none : whole_size [] ≡ 0
size_none = size_is [] ∙ by_all 0 0 (omega arith)

-- ---- the lines

abbrev Splits : List ℕ → Type 0
Splits bytes = whole_lines bytes ≡ take (whole_size bytes) bytes ∷ whole_lines (drop (whole_size bytes) bytes)

splits_feed : (b : ℕ) (bytes : List ℕ) → nat_eq b 10 ≡ true → Splits (b ∷ bytes)
splits_feed b bytes h =
    let one = size_feed b bytes h in
    let here : whole_lines (b ∷ bytes) ≡ (b ∷ []) ∷ whole_lines bytes = rw h refl in
    here ∙ sym (ap (λ n. take n (b ∷ bytes) ∷ whole_lines (drop n (b ∷ bytes))) one)

splits_more : (b : ℕ) (bytes : List ℕ) → nat_eq b 10 ≡ false → (bytes ≡ []) ⊎ Splits bytes → Splits (b ∷ bytes)
splits_more b bytes h rest =
    let more = size_more b bytes h in
    let here : whole_lines (b ∷ bytes) ≡ longer b (whole_lines bytes) = rw h refl in
    here ∙ by bytes rest ∙ sym (ap (λ n. take n (b ∷ bytes) ∷ whole_lines (drop n (b ∷ bytes))) more)
  where
    by : (ys : List ℕ) → (ys ≡ []) ⊎ Splits ys → longer b (whole_lines ys) ≡ take (suc (whole_size ys)) (b ∷ ys) ∷ whole_lines (drop (suc (whole_size ys)) (b ∷ ys))
    by ys (inl e) = rw (e, size_none) refl
    by ys (inr e) = ap (longer b) e

splits_by : (b : ℕ) (bytes : List ℕ) → (bytes ≡ []) ⊎ Splits bytes → (t : Bool) → nat_eq b 10 ≡ t → Splits (b ∷ bytes)
splits_by b bytes rest true e = splits_feed b bytes e
splits_by b bytes rest false e = splits_more b bytes e rest

splits : (b : ℕ) (bytes : List ℕ) → Splits (b ∷ bytes)
splits b [] = splits_by b [] (inl refl) (nat_eq b 10) refl
splits b (c ∷ bytes) = splits_by b (c ∷ bytes) (inr (splits c bytes)) (nat_eq b 10) refl

size_some : (b : ℕ) (bytes : List ℕ) → 0 < whole_size (b ∷ bytes)
size_some b bytes = by (nat_eq b 10) refl
  where
    by : (t : Bool) → nat_eq b 10 ≡ t → 0 < whole_size (b ∷ bytes)
    by true e = omega (arith, size_feed b bytes e)
    by false e = omega (arith, size_more b bytes e)

joined_longer : (b : ℕ) (lines : List (List ℕ)) → joined (longer b lines) ≡ b ∷ joined lines
joined_longer b [] = refl
joined_longer b (line ∷ lines) = refl

joined_lines : (bytes : List ℕ) → joined (whole_lines bytes) ≡ bytes
joined_lines [] = refl
joined_lines (b ∷ bytes) = by (nat_eq b 10) (joined_lines bytes)
  where
    by : (t : Bool) → joined (whole_lines bytes) ≡ bytes → joined (if t then (b ∷ []) ∷ whole_lines bytes else longer b (whole_lines bytes)) ≡ b ∷ bytes
    by true ih = ap (λ (ys : List ℕ). b ∷ ys) ih
    by false ih = joined_longer b (whole_lines bytes) ∙ ap (λ (ys : List ℕ). b ∷ ys) ih

joined_append : (xs ys : List (List ℕ)) → joined (xs ++ ys) ≡ joined xs ++ joined ys
joined_append [] ys = refl
joined_append (x ∷ xs) ys = ap (λ z. x ++ z) (joined_append xs ys) ∙ sym (append_assoc x (joined xs) (joined ys))

-- ---- the place in a list

pub record IsNext {X : Type 0} (xs : List X) (k : ℕ) (x : X) (rest : List X) : Type 0 where
  pub within : k < length xs
  pub here : get_or xs k x ≡ x
  pub front : take (suc k) xs ≡ take k xs ++ x ∷ []
  pub after : drop (suc k) xs ≡ rest

next_is : {X : Type 0} (xs : List X) (k : ℕ) (x : X) (rest : List X) → drop k xs ≡ x ∷ rest → IsNext xs k x rest
next_is [] k x rest e = absurd (by k e)
  where
    by : (k : ℕ) → drop k [] ≡ x ∷ rest → ⊥
    by zero e = cc
    by (suc k) e = cc
next_is (y ∷ ys) zero x rest e = record { within = omega arith; here = head e; front = ap (λ z. z ∷ []) (head e); after = tail e }
  where
    head : y ∷ ys ≡ x ∷ rest → y ≡ x
    head e = ap (λ (zs : List _). get_or zs 0 y) e

    tail : y ∷ ys ≡ x ∷ rest → ys ≡ rest
    tail e = ap (λ (zs : List _). drop 1 zs) e
next_is (y ∷ ys) (suc k) x rest e =
    let ih = next_is ys k x rest e in
    record { within = (let w = ih.within in omega (arith, w)); here = ih.here; front = ap (λ (zs : List _). y ∷ zs) ih.front; after = ih.after }

-- ---- from line to line

-- so many lines, none of which is `%%`, are so many bytes
pub record Walks (bytes : List ℕ) (at k : ℕ) : Type 0 where
  pub front : take at bytes ≡ joined (take k (whole_lines bytes))
  pub left : whole_lines (drop at bytes) ≡ drop k (whole_lines bytes)
  pub none : k ≤ lines_before bytes
  pub within : at ≤ length bytes
  pub few : k ≤ at

pub walks_first : (bytes : List ℕ) → Walks bytes 0 0
walks_first bytes = record { front = refl; left = refl; none = omega arith; within = omega arith; few = omega arith }

-- the line that begins here
abbrev pub line_at : List ℕ → ℕ → List ℕ
line_at bytes at = take (whole_size (drop at bytes)) (drop at bytes)

line_there : (bytes : List ℕ) (at : ℕ) → at < length bytes → (0 < whole_size (drop at bytes)) × (whole_lines (drop at bytes) ≡ line_at bytes at ∷ whole_lines (drop (at + whole_size (drop at bytes)) bytes))
line_there bytes at lt = by (drop at bytes) refl
  where
    by : (rest : List ℕ) → drop at bytes ≡ rest → (0 < whole_size rest) × (whole_lines rest ≡ take (whole_size rest) rest ∷ whole_lines (drop (at + whole_size rest) bytes))
    by [] e = absurd (omega (arith, length-drop at bytes, ap length e))
    by (b ∷ rest) e = (size_some b rest, splits b rest ∙ ap (λ (ys : List ℕ). take (whole_size (b ∷ rest)) (b ∷ rest) ∷ whole_lines ys) (ap (drop (whole_size (b ∷ rest))) (sym e) ∙ drop-drop (whole_size (b ∷ rest)) at bytes))

pub line_some : (bytes : List ℕ) (at : ℕ) → at < length bytes → 0 < whole_size (drop at bytes)
line_some bytes at lt = (line_there bytes at lt).0

module _ (bytes : List ℕ) (at k : ℕ) (walks : Walks bytes at k) (lt : at < length bytes) where
  next : IsNext (whole_lines bytes) k (line_at bytes at) (whole_lines (drop (at + whole_size (drop at bytes)) bytes))
  next = next_is (whole_lines bytes) k (line_at bytes at) _ (sym walks.left ∙ (line_there bytes at lt).1)

  pub walks_on : at + whole_size (drop at bytes) ≤ length bytes → is_mark (line_at bytes at) ≡ false → Walks bytes (at + whole_size (drop at bytes)) (k + 1)
  walks_on within plain = record {
    front = take-add at (whole_size (drop at bytes)) bytes ∙ ap (λ z. z ++ line_at bytes at) walks.front ∙ ap (λ z. joined (take k (whole_lines bytes)) ++ z) (sym (append-nil (line_at bytes at)))
        ∙ sym (joined_append (take k (whole_lines bytes)) (line_at bytes at ∷ [])) ∙ ap joined (sym next.front) ∙ ap (λ n. joined (take n (whole_lines bytes))) one_more;
    left = sym next.after ∙ ap (λ n. drop n (whole_lines bytes)) one_more;
    none = later;
    within = within;
    few = (let s = line_some bytes at lt in let f = walks.few in omega (arith, s, f));
  }
    where
      one_more : suc k ≡ k + 1
      one_more = omega arith

      later : k + 1 ≤ lines_before bytes
      later = elim (cases_lt k (lines_before bytes)) [
        | inl less ↦ omega arith
        | inr le ↦
            let is : lines_before bytes ≡ k = (let n = walks.none in omega (arith, n, le)) in
            let stops = prefix_len_stops (λ line. not (is_mark line)) (whole_lines bytes) (line_at bytes at) (let w = next.within in omega (arith, is, w)) in
            let here : get_or (whole_lines bytes) (lines_before bytes) (line_at bytes at) ≡ line_at bytes at = ap (λ n. get_or (whole_lines bytes) n (line_at bytes at)) is ∙ next.here in
            absurd (true≢false (sym (ap not (ap is_mark here ∙ plain)) ∙ stops))
      ]

  pub divided : is_mark (line_at bytes at) ≡ true → IsDivided bytes (take at bytes) (drop (at + whole_size (drop at bytes)) bytes) (k + 2)
  divided marked = record {
    marked = (let w = next.within in omega (arith, is, w));
    text_is = walks.front ∙ ap (λ n. joined (take n (whole_lines bytes))) (sym is);
    rest_is = sym (joined_lines (drop (at + whole_size (drop at bytes)) bytes)) ∙ ap joined (sym next.after ∙ ap (λ n. drop n (whole_lines bytes)) one_more);
    number = ap (λ n. n + 2) (sym is);
  }
    where
      is : lines_before bytes ≡ k
      is = elim (cases_lt k (lines_before bytes)) [
        | inl less ↦ absurd (true≢false (sym (prefix_len_passes (λ line. not (is_mark line)) (whole_lines bytes) k (line_at bytes at) less) ∙ ap not (ap is_mark next.here ∙ marked)))
        | inr le ↦ (let n = walks.none in omega (arith, n, le))
      ]

      one_more : suc k ≡ lines_before bytes + 1
      one_more = omega (arith, is)

pub unmarked : (bytes : List ℕ) (at k : ℕ) → Walks bytes at k → length bytes ≤ at → HasNoMark bytes
unmarked bytes at k walks le =
    let gone : drop k (whole_lines bytes) ≡ [] = sym walks.left ∙ ap whole_lines (drop_of_length-le bytes le) in
    let long : length (whole_lines bytes) ≤ k = (let e = length-drop k (whole_lines bytes) in let f = ap length gone in omega (arith, e, f)) in
    let most = prefix_len-le-length (λ line. not (is_mark line)) (whole_lines bytes) in
    let none = walks.none in
    omega (arith, long, most, none)
