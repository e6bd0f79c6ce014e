-- Going over the lines of a text.
use Rattle.std.proofs.Common.{◌≡◌, ℕ, zero, suc, ◌+◌, ◌-◌, ◌<◌, ◌≤◌, Bool, true, false, cond, not, List, [], ◌∷◌, length, take, drop, get_or, Ok, Err, refl, sym, ap, subst, ◌∙◌, arith, true≢false, inl, inr, ◌⊎◌}
use Rattle.std.specs.Prelude.{if◌then◌else◌, ◌&&◌, nat_eq, nat_lt, nat_le}
use Rattle.std.proofs.Math.Numerals.{one-add}
use Rattle.std.proofs.lemmas.Bool.{ltb-true, leb-true, leb-false, eqb-true}
use Rattle.std.proofs.lemmas.List.{length-drop, drop-drop}
use Rattle.av_net.specs.declared.design.Listing.{Listing}
use Rattle.av_net.specs.Listed.{Line, longer, begins_feed, lines_of, numbered}
use Rattle.av_net.specs.Rows.{Among}
use Rattle.av_vread.specs.declared.fault.VFault.{VFault}
use Rattle.av_vread.specs.declared.fault.VFault.TheVariants.{VByte, VSyntax, VListing, VTwice, VName, VUnassigned, VOrder, VWidth, Memory}
use Rattle.av_vread.specs.inner.Lines.{trimmed, line_len, first_line_of}
use Rattle.av_vread.proofs.Cuts.{less_suc}
use Rattle.av_vread.specs.inner.Listings.{Listed, with_line, and_then, with_lines, no_lines, listing_at, IsListingFault}
use Rattle.av_base.proofs.Truths.{both}

-- the lines from an index on; none begins behind the end
abbrev pub lines_from : ℕ → List ℕ → List (List ℕ)
lines_from at bytes = if nat_le at (length bytes) then lines_of (drop at bytes) else []

-- ---- a first byte more

within_suc : (n m : ℕ) (t : Bool) → nat_le (n + 1) m ≡ t → nat_le (suc n + 1) (suc m) ≡ t
within_suc n m true e = let le = leb-true (n + 1) m e in grind arith
within_suc n m false e = let lt = leb-false (n + 1) m e in grind arith

trimmed_more : (b c : ℕ) (text : List ℕ) → trimmed (b ∷ c ∷ text) ≡ b ∷ trimmed (c ∷ text)
trimmed_more b c text = rw (last, one, some (length text), some (suc (length text))) (go (nat_eq (get_or (c ∷ text) (length text) 0) 13))
  where
    some : (n : ℕ) → nat_lt 0 (suc n) ≡ true
    some n = grind arith

    last : suc (suc (length text)) - 1 ≡ suc (length text)
    last = omega arith

    one : suc (length text) - 1 ≡ length text
    one = omega arith

    go : (t : Bool) → cond t (b ∷ take (length text) (c ∷ text)) (b ∷ c ∷ text) ≡ b ∷ cond t (take (length text) (c ∷ text)) (c ∷ text)
    go true = refl
    go false = refl

trimmed_one : (b : ℕ) → nat_eq b 13 ≡ false → trimmed (b ∷ []) ≡ b ∷ []
trimmed_one b e = rw e refl

-- no bytes before the first line feed
begins_at_once : (c : ℕ) (text : List ℕ) → line_len (c ∷ text) ≡ 0 → nat_eq c 10 ≡ true
begins_at_once c text e = go (nat_eq c 10) refl e
  where
    go : (t : Bool) → nat_eq c 10 ≡ t → cond (not t) (1 + line_len text) 0 ≡ 0 → t ≡ true
    go true h e = refl
    go false h e = absurd (omega arith)

first_more : (b : ℕ) (text : List ℕ) → nat_eq b 10 ≡ false → (nat_eq b 13 && begins_feed text) ≡ false → first_line_of (b ∷ text) ≡ b ∷ first_line_of text
first_more b text h r = rw (h, one-add) (go (nat_lt (line_len text) (length text)) refl)
  where
    n : ℕ
    n = line_len text

    front : (t : List ℕ) → text ≡ t → (m : ℕ) → line_len t ≡ m → m < length t → trimmed (b ∷ take m t) ≡ b ∷ trimmed (take m t)
    front [] s m e lt = absurd (omega arith)
    front (c ∷ t) s zero e lt =
        let feed : begins_feed text ≡ true = ap begins_feed s ∙ begins_at_once c t e in
        let no : nat_eq b 13 ≡ false = other (nat_eq b 13) (ap (λ z. nat_eq b 13 && z) (sym feed) ∙ r) in
        trimmed_one b no
      where
        other : (t : Bool) → (t && true) ≡ false → t ≡ false
        other true e = e
        other false e = e
    front (c ∷ t) s (suc m) e lt = trimmed_more b c (take m t)

    go : (t : Bool) → nat_lt n (length text) ≡ t → cond (nat_lt (suc n) (suc (length text))) (trimmed (b ∷ take n text)) (b ∷ text) ≡ b ∷ cond t (trimmed (take n text)) text
    go true e = rw (less_suc n (length text) true e) (front text refl n refl (ltb-true n (length text) e))
    go false e = rw (less_suc n (length text) false e) refl

from_more : (b n : ℕ) (text : List ℕ) → lines_from (suc n + 1) (b ∷ text) ≡ lines_from (n + 1) text
from_more b n text = go (nat_le (n + 1) (length text)) refl
  where
    past : drop (suc n + 1) (b ∷ text) ≡ drop (n + 1) text
    past = let e : suc n + 1 ≡ suc (n + 1) = omega arith in ap (λ m. drop m (b ∷ text)) e

    go : (t : Bool) → nat_le (n + 1) (length text) ≡ t → lines_from (suc n + 1) (b ∷ text) ≡ cond t (lines_of (drop (n + 1) text)) []
    go true e = rw (within_suc n (length text) true e, past) refl
    go false e = rw (within_suc n (length text) false e) refl

at_feed : (text : List ℕ) → first_line_of (10 ∷ text) ≡ []
at_feed text = rw (some (length text)) refl
  where
    some : (n : ℕ) → nat_lt 0 (suc n) ≡ true
    some n = grind arith

after_feed : (text : List ℕ) → lines_from 1 (10 ∷ text) ≡ lines_of text
after_feed text = rw (some (length text)) refl
  where
    some : (n : ℕ) → nat_le 1 (suc n) ≡ true
    some n = grind arith

return_feed : (b : ℕ) (text : List ℕ) → (nat_eq b 13 && begins_feed text) ≡ true → first_line_of (b ∷ text) ≡ first_line_of text
return_feed b [] e = absurd (true≢false (sym (both (nat_eq b 13) false e).1))
return_feed b (c ∷ text) e =
    let z = both (nat_eq b 13) (nat_eq c 10) e in
    subst (λ x. first_line_of (x ∷ c ∷ text) ≡ first_line_of (c ∷ text)) (sym (eqb-true b 13 z.0))
    (subst (λ y. first_line_of (13 ∷ y ∷ text) ≡ first_line_of (y ∷ text)) (sym (eqb-true c 10 z.1)) (ended (length text) ∙ sym (at_feed text)))
  where
    some : (n : ℕ) → nat_lt 1 (suc (suc n)) ≡ true
    some n = grind arith

    ended : (n : ℕ) → cond (nat_lt 1 (suc (suc n))) [] (13 ∷ 10 ∷ text) ≡ []
    ended n = rw (some n) refl

-- ---- the first line and the others

pub next_line : (text : List ℕ) → lines_of text ≡ first_line_of text ∷ lines_from (line_len text + 1) text
next_line [] = refl
next_line (b ∷ text) = go (nat_eq b 10) refl (next_line text)
  where
    others : (t : Bool) → nat_eq b 10 ≡ false → (nat_eq b 13 && begins_feed text) ≡ t → lines_of text ≡ first_line_of text ∷ lines_from (line_len text + 1) text
        → cond t (lines_of text) (longer b (lines_of text)) ≡ first_line_of (b ∷ text) ∷ lines_from (line_len text + 1) text
    others true h r ih = ih ∙ ap (λ z. z ∷ lines_from (line_len text + 1) text) (sym (return_feed b text r))
    others false h r ih = rw (ih, first_more b text h r) refl

    go : (t : Bool) → nat_eq b 10 ≡ t → lines_of text ≡ first_line_of text ∷ lines_from (line_len text + 1) text
        → cond t ([] ∷ lines_of text) (cond (nat_eq b 13 && begins_feed text) (lines_of text) (longer b (lines_of text))) ≡ first_line_of (b ∷ text) ∷ lines_from (line_len (b ∷ text) + 1) (b ∷ text)
    go true h ih =
        subst (λ c. [] ∷ lines_of text ≡ first_line_of (c ∷ text) ∷ lines_from (line_len (c ∷ text) + 1) (c ∷ text)) (sym (eqb-true b 10 h)) (rw (at_feed text, after_feed text) refl)
    go false h ih =
        others (nat_eq b 13 && begins_feed text) h refl ih
        ∙ ap (λ z. first_line_of (b ∷ text) ∷ z) (sym (from_more b (line_len text) text) ∙ ap (λ n. lines_from (n + 1) (b ∷ text)) (sym one))
      where
        one : line_len (b ∷ text) ≡ suc (line_len text)
        one = rw (h, one-add) refl

-- the lines from an index on
from_at : (bytes : List ℕ) (at : ℕ) → at ≤ length bytes → lines_from at bytes ≡ first_line_of (drop at bytes) ∷ lines_from (at + (line_len (drop at bytes) + 1)) bytes
from_at bytes at le = rw here (next_line (drop at bytes) ∙ ap (λ z. first_line_of (drop at bytes) ∷ z) (rest (nat_le (at + n) (length bytes)) refl))
  where
    n : ℕ
    n = line_len (drop at bytes) + 1

    here : nat_le at (length bytes) ≡ true
    here = grind arith

    room : length (drop at bytes) ≡ length bytes - at
    room = length-drop at bytes

    rest : (t : Bool) → nat_le (at + n) (length bytes) ≡ t → lines_from n (drop at bytes) ≡ cond t (lines_of (drop (at + n) bytes)) []
    rest true e =
        let within : nat_le n (length (drop at bytes)) ≡ true = let le = leb-true (at + n) (length bytes) e in let r = room in grind arith in
        let past : drop n (drop at bytes) ≡ drop (at + n) bytes = drop-drop n at bytes in
        rw (within, past) refl
    rest false e =
        let beyond : nat_le n (length (drop at bytes)) ≡ false = let lt = leb-false (at + n) (length bytes) e in let r = room in grind arith in
        rw beyond refl

behind : (bytes : List ℕ) (at : ℕ) → length bytes < at → lines_from at bytes ≡ []
behind bytes at lt = let beyond : nat_le at (length bytes) ≡ false = grind arith in rw beyond refl

-- ---- the loop that reads the listing

abbrev line_with : ℕ → List ℕ → Line
line_with number text = record { number = number; text = text }

module _ (ports wires : Among) (bytes : List ℕ) (first : ℕ) where
  -- what is left to read
  abbrev pub left_from : ℕ → ℕ → List Line
  left_from at number = numbered number (take (first - number) (lines_from at bytes))

  -- the listing so far, and what is still read
  pub record Reads (at number : ℕ) (listing : Listing) : Type 0 where
    pub within : at ≤ length bytes + 1
    pub some : 1 ≤ number
    pub is : with_lines ports wires listing (left_from at number) ≡ listing_at ports wires bytes first

  pub reads_first : Reads 0 1 no_lines
  reads_first = record { within = omega arith; some = omega arith; is = ap (λ z. with_lines ports wires no_lines (numbered 1 (take (first - 1) z))) all }
    where
      zero_within : nat_le 0 (length bytes) ≡ true
      zero_within = grind arith

      all : lines_from 0 bytes ≡ lines_of bytes
      all = rw zero_within refl

  module _ (at number : ℕ) (listing : Listing) (reads : Reads at number listing) (before : number < first) (inside : at ≤ length bytes) where
    line : Line
    line = record { number = number; text = first_line_of (drop at bytes) }

    next : ℕ
    next = at + (line_len (drop at bytes) + 1)

    left_is : left_from at number ≡ line ∷ left_from next (number + 1)
    unfolding line next
    left_is = rw (from_at bytes at inside, more) refl
      where
        more : first - number ≡ suc (first - (number + 1))
        more = omega arith

    turn : (r : Listed) → with_line ports wires listing line ≡ r → and_then r (λ t. with_lines ports wires t (left_from next (number + 1))) ≡ listing_at ports wires bytes first
    unfolding with_lines
    turn r e = ap (λ z. and_then z (λ t. with_lines ports wires t (left_from next (number + 1)))) (sym e) ∙ ap (with_lines ports wires listing) (sym left_is) ∙ reads.is

    -- a text that is the line
    module _ (text : List ℕ) (is : text ≡ first_line_of (drop at bytes)) where
      same_line : record { number = number; text = text } ≡ line
      unfolding line
      same_line = ap (λ z. line_with number z) is

      pub reads_next : (more : Listing) (len : ℕ) → len ≡ line_len (drop at bytes) → at + len ≤ length bytes
          → with_line ports wires listing (record { number = number; text = text }) ≡ Ok more → Reads (at + (len + 1)) (number + 1) more
      unfolding next
      reads_next more len e le h =
          record {
            within = omega arith;
            some = omega arith;
            is = ap (λ n. with_lines ports wires more (left_from (at + (n + 1)) (number + 1))) e ∙ turn (Ok more) (ap (with_line ports wires listing) (sym same_line) ∙ h);
          }

      pub reads_bad : (f : VFault) → IsListingFault f (with_line ports wires listing (record { number = number; text = text })) → IsListingFault f (listing_at ports wires bytes first)
      reads_bad (VListing n) h = sym (turn (Err n) (ap (with_line ports wires listing) (sym same_line) ∙ h))
      reads_bad Memory h = tt
      reads_bad (VByte p) h = absurd h
      reads_bad (VSyntax p) h = absurd h
      reads_bad (VTwice name) h = absurd h
      reads_bad (VName name) h = absurd h
      reads_bad (VUnassigned name) h = absurd h
      reads_bad (VOrder name) h = absurd h
      reads_bad (VWidth name) h = absurd h

  pub reads_all : (at number : ℕ) (listing : Listing) → Reads at number listing → ((first ≤ number) ⊎ (length bytes < at)) → listing_at ports wires bytes first ≡ Ok listing
  unfolding with_lines
  reads_all at number listing reads (inl le) =
      let none : first - number ≡ 0 = omega arith in
      sym reads.is ∙ ap (λ n. with_lines ports wires listing (numbered number (take n (lines_from at bytes)))) none
  reads_all at number listing reads (inr lt) = sym reads.is ∙ ap (λ z. with_lines ports wires listing (numbered number z)) (ap (take (first - number)) (behind bytes at lt) ∙ none (first - number))
    where
      none : (n : ℕ) → take {A = List ℕ} n [] ≡ []
      none zero = refl
      none (suc n) = refl
