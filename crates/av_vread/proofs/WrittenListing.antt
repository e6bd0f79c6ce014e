-- The lines before a module's text are comments, and those of the listing are found among them.
use Rattle.std.proofs.Common.{◌≡◌, ◌≢◌, ℕ, suc, ◌+◌, ◌≤◌, Bool, true, false, not, List, [], ◌∷◌, ◌++◌, length, map, take, refl, sym, ap, subst, ◌∙◌, arith, append_assoc, true≢false, eq-eqb}
use Rattle.std.specs.Prelude.{nat_eq, codes, decimal, nat_abs}
use Rattle.std.specs.Char.{is_ascii_digit}
use Rattle.std.specs.List.{AllByRecursion, list_all, flat_map, filter}
use Rattle.std.proofs.lemmas.List.Elements.{All-from_recursion, recursion_from_All}
use Rattle.av_base.specs.declared.place.Place.{Place}
use Rattle.av_base.specs.Tokens.{next_place, moved, is_word_byte}
use Rattle.av_net.specs.declared.design.Entry.{Entry}
use Rattle.av_net.specs.declared.design.Listing.{Listing}
use Rattle.av_net.specs.Lexemes.{Token, AreTokens, blank, comment}
use Rattle.av_net.specs.Texts.{entry_line, listing_text, point_text, entries_text}
use Rattle.av_net.specs.Listed.{longer, lines_of, numbered, is_listed, line_text}
use Rattle.av_vread.specs.SpelledParts.{IsEntrySpelled}
use Rattle.av_vread.specs.inner.Lines.{is_not}
use Rattle.av_vread.proofs.Each.{all_append, all_map, all_weaker}
use Rattle.av_vread.proofs.Cuts.{Without}
use Rattle.av_vread.proofs.Numerals.{decimal_digits}
use Rattle.av_vread.proofs.Indices.{digits_without, indices_without, without_append}
use Rattle.av_base.proofs.Spelled.{name_gives}
use Rattle.av_vread.proofs.EntryLines.{body, variable_word}
use Rattle.av_vread.proofs.NamesSpelled.{name_word}
use Rattle.av_vread.proofs.ListingLines.{texts_of}
use Rattle.av_base.proofs.Truths.{both, not_true}

-- ---- lines, one after another

abbrev pub joined : List (List ℕ) → List ℕ → List ℕ
joined [] rest = rest
joined (line ∷ lines) rest = line ++ (10 ∷ joined lines rest)

joined_append : (xs ys : List (List ℕ)) (rest : List ℕ) → joined (xs ++ ys) rest ≡ joined xs (joined ys rest)
joined_append [] ys rest = refl
joined_append (x ∷ xs) ys rest = ap (λ z. x ++ (10 ∷ z)) (joined_append xs ys rest)

entries_joined : (kind : List ℕ) (entries : List Entry) (rest : List ℕ) → flat_map (entry_line kind) entries ++ rest ≡ joined (map (line_text kind) entries) rest
entries_joined kind [] rest = refl
entries_joined kind (e ∷ entries) rest =
    append_assoc (entry_line kind e) (flat_map (entry_line kind) entries) rest ∙ append_assoc (line_text kind e) (codes "\n") (flat_map (entry_line kind) entries ++ rest)
    ∙ ap (λ z. line_text kind e ++ (10 ∷ z)) (entries_joined kind entries rest)

-- the lines of a listing
abbrev pub entry_lines : Listing → List (List ℕ)
entry_lines listing = map (line_text (codes "in")) listing.ins ++ map (line_text (codes "at")) listing.ats

pub listing_joined : (listing : Listing) (rest : List ℕ) → listing_text listing ++ rest ≡ joined (entry_lines listing) rest
unfolding listing_text
listing_joined listing rest =
    append_assoc (flat_map (entry_line (codes "in")) listing.ins) (flat_map (entry_line (codes "at")) listing.ats) rest
    ∙ ap (λ z. flat_map (entry_line (codes "in")) listing.ins ++ z) (entries_joined (codes "at") listing.ats rest)
    ∙ entries_joined (codes "in") listing.ins (joined (map (line_text (codes "at")) listing.ats) rest)
    ∙ sym (joined_append (map (line_text (codes "in")) listing.ins) (map (line_text (codes "at")) listing.ats) rest)

-- ---- bytes that no line has

-- a byte that ends a line
pub record EndsLines (c : ℕ) : Type 0 where
  pub words : (b : ℕ) → is_word_byte b ≡ true → is_not c b ≡ true
  pub marks : Without c (codes "-,() /")

feed_ends : EndsLines 10
feed_ends = record { words = λ b h. grind arith; marks = (refl, (refl, (refl, (refl, (refl, (refl, tt)))))) }

return_ends : EndsLines 13
return_ends = record { words = λ b h. grind arith; marks = (refl, (refl, (refl, (refl, (refl, (refl, tt)))))) }

module _ (c : ℕ) (out : EndsLines c) where
  minus : is_not c 45 ≡ true
  minus = out.marks.0

  comma : is_not c 44 ≡ true
  comma = out.marks.1.0

  opening : is_not c 40 ≡ true
  opening = out.marks.1.1.0

  closing : is_not c 41 ≡ true
  closing = out.marks.1.1.1.0

  space : is_not c 32 ≡ true
  space = out.marks.1.1.1.1.0

  slash : is_not c 47 ≡ true
  slash = out.marks.1.1.1.1.1.0

  words_out : (text : List ℕ) → list_all is_word_byte text ≡ true → Without c text
  words_out [] h = tt
  words_out (b ∷ text) h = let z = both (is_word_byte b) (list_all is_word_byte text) h in (out.words b z.0, words_out text z.1)

  digits_out : (b : ℕ) → is_ascii_digit b ≡ true → is_not c b ≡ true
  digits_out b h = out.words b (digit_word b h)
    where
      digit_word : (b : ℕ) → is_ascii_digit b ≡ true → is_word_byte b ≡ true
      digit_word b h = grind arith

  body_out : (e : Entry) → IsEntrySpelled e → Without c (body e)
  body_out e h =
      let variable = words_out e.variable (variable_word e.variable (name_gives e.variable h.variable)) in
      let indices : Without c (entries_text e.point) = indices_without c (digits_out, minus) comma e.point (recursion_from_All (λ i. nat_abs i ≤ 4095) e.point h.index) in
      let point : Without c (point_text e.point) = (opening, without_append c (entries_text e.point) (codes ")") indices (closing, tt)) in
      let cycle : Without c (decimal e.cycle) = digits_without c digits_out (decimal e.cycle) (decimal_digits e.cycle h.cycle) in
      let blank : Without c (codes " ") = (space, tt) in
      without_append c (e.variable ++ codes " " ++ point_text e.point ++ codes " " ++ e.wire ++ codes " ") (decimal e.cycle)
      (without_append c (e.variable ++ codes " " ++ point_text e.point ++ codes " " ++ e.wire) (codes " ")
      (without_append c (e.variable ++ codes " " ++ point_text e.point ++ codes " ") e.wire
      (without_append c (e.variable ++ codes " " ++ point_text e.point) (codes " ")
      (without_append c (e.variable ++ codes " ") (point_text e.point) (without_append c e.variable (codes " ") variable blank) point) blank) (words_out e.wire (name_word e.wire h.wire))) blank) cycle

-- ---- comment lines

-- a line that is a comment, without what ends a line
pub record IsCommentLine (line : List ℕ) : Type 0 where
  pub more : List ℕ
  pub slashes : line ≡ 47 ∷ 47 ∷ more
  pub no_feed : Without 10 line
  pub no_return : Without 13 line

in_line : (e : Entry) → IsEntrySpelled e → IsCommentLine (line_text (codes "in") e)
in_line e h = record {
  more = codes " in " ++ body e;
  slashes = refl;
  no_feed = (refl, (refl, (refl, (refl, (refl, (refl, body_out 10 feed_ends e h))))));
  no_return = (refl, (refl, (refl, (refl, (refl, (refl, body_out 13 return_ends e h))))));
}

at_line : (e : Entry) → IsEntrySpelled e → IsCommentLine (line_text (codes "at") e)
at_line e h = record {
  more = codes " at " ++ body e;
  slashes = refl;
  no_feed = (refl, (refl, (refl, (refl, (refl, (refl, body_out 10 feed_ends e h))))));
  no_return = (refl, (refl, (refl, (refl, (refl, (refl, body_out 13 return_ends e h))))));
}

-- a first line, which is none of the listing
pub record IsVersionLine (line : List ℕ) : Type 0 where
  pub comment : IsCommentLine line
  pub unlisted : is_listed (record { number = 1; text = line }) ≡ false

pub first_version : IsVersionLine (codes "// alphav 1")
first_version = record {
  comment = record {
    more = codes " alphav 1";
    slashes = refl;
    no_feed = (refl, (refl, (refl, (refl, (refl, (refl, (refl, (refl, (refl, (refl, (refl, tt)))))))))));
    no_return = (refl, (refl, (refl, (refl, (refl, (refl, (refl, (refl, (refl, (refl, (refl, tt)))))))))));
  };
  unlisted = refl;
}

pub second_version : IsVersionLine (codes "// alphav 2")
second_version = record {
  comment = record {
    more = codes " alphav 2";
    slashes = refl;
    no_feed = (refl, (refl, (refl, (refl, (refl, (refl, (refl, (refl, (refl, (refl, (refl, tt)))))))))));
    no_return = (refl, (refl, (refl, (refl, (refl, (refl, (refl, (refl, (refl, (refl, (refl, tt)))))))))));
  };
  unlisted = refl;
}

pub entry_comments : (listing : Listing) → AllByRecursion IsEntrySpelled listing.ins → AllByRecursion IsEntrySpelled listing.ats → AllByRecursion IsCommentLine (entry_lines listing)
entry_comments listing h k =
    all_append IsCommentLine (map (line_text (codes "in")) listing.ins) (map (line_text (codes "at")) listing.ats)
    (all_map IsCommentLine (line_text (codes "in")) listing.ins (all_weaker IsEntrySpelled (λ e. IsCommentLine (line_text (codes "in") e)) in_line listing.ins h))
    (all_map IsCommentLine (line_text (codes "at")) listing.ats (all_weaker IsEntrySpelled (λ e. IsCommentLine (line_text (codes "at") e)) at_line listing.ats k))

-- ---- what is read behind them

abbrev pub after_lines : Place → List (List ℕ) → Place
after_lines p [] = p
after_lines p (line ∷ lines) = after_lines (next_place (moved p line) 10) lines

no_feeds : (text : List ℕ) → Without 10 text → AllByRecursion (λ b. b ≢ 10) text
no_feeds [] h = tt
no_feeds (b ∷ text) h = (λ e. true≢false (sym h.0 ∙ ap not (eq-eqb b 10 e)), no_feeds text h.1)

comment_before : (p : Place) (line rest : List ℕ) (ts : List Token) → IsCommentLine line → AreTokens (next_place (moved p line) 10) rest ts → AreTokens p (line ++ (10 ∷ rest)) ts
comment_before p line rest ts c t =
    let more : Without 10 c.more = (subst (Without 10) c.slashes c.no_feed).1.1 in
    comment {text = line} {rest = 10 ∷ rest} refl
    (record { more = c.more; marked = c.slashes; one_line = All-from_recursion (λ b. b ≢ 10) c.more (no_feeds c.more more); stops = refl }) (blank refl t)

pub comments_before : (p : Place) (lines : List (List ℕ)) (rest : List ℕ) (ts : List Token) → AllByRecursion IsCommentLine lines → AreTokens (after_lines p lines) rest ts → AreTokens p (joined lines rest) ts
comments_before p [] rest ts h t = t
comments_before p (line ∷ lines) rest ts h t = comment_before p line (joined lines rest) ts h.0 (comments_before (next_place (moved p line) 10) lines rest ts h.1 t)

same_line : (p : Place) (text : List ℕ) → Without 10 text → (moved p text).line ≡ p.line
same_line p [] h = refl
same_line p (b ∷ text) h = same_line (next_place p b) text h.1 ∙ go (nat_eq b 10) refl h.0
  where
    go : (t : Bool) → nat_eq b 10 ≡ t → not t ≡ true → (next_place p b).line ≡ p.line
    go true e k = absurd (true≢false (sym k))
    go false e k = rw e refl

pub lines_after : (p : Place) (lines : List (List ℕ)) → AllByRecursion IsCommentLine lines → (after_lines p lines).line ≡ p.line + length lines
lines_after p [] h = omega arith
lines_after p (line ∷ lines) h =
    let one = same_line p line h.0.no_feed in
    let more = lines_after (next_place (moved p line) 10) lines h.1 in
    omega (arith, one, more)

-- ---- the lines that are found

line_found : (line rest : List ℕ) → Without 10 line → Without 13 line → lines_of (line ++ (10 ∷ rest)) ≡ line ∷ lines_of rest
line_found [] rest h k = refl
line_found (b ∷ line) rest h k =
    let feed : nat_eq b 10 ≡ false = not_true (nat_eq b 10) h.0 in
    let back : nat_eq b 13 ≡ false = not_true (nat_eq b 13) k.0 in
    rw (feed, back) (ap (longer b) (line_found line rest h.1 k.1))

pub lines_found : (lines : List (List ℕ)) (rest : List ℕ) → AllByRecursion IsCommentLine lines → take (length lines) (lines_of (joined lines rest)) ≡ lines
lines_found [] rest h = refl
lines_found (line ∷ lines) rest h =
    ap (take (suc (length lines))) (line_found line (joined lines rest) h.0.no_feed h.0.no_return) ∙ ap (λ z. line ∷ z) (lines_found lines rest h.1)

-- ---- those of the listing

abbrev IsListedText : List ℕ → Type 0
IsListedText text = (n : ℕ) → is_listed (record { number = n; text = text }) ≡ true

numbered_all : (n : ℕ) (texts : List (List ℕ)) → AllByRecursion IsListedText texts → texts_of (filter is_listed (numbered n texts)) ≡ texts
numbered_all n [] h = refl
numbered_all n (text ∷ texts) h = rw (h.0 n) (ap (λ z. text ∷ z) (numbered_all (n + 1) texts h.1))

entries_listed : (listing : Listing) → AllByRecursion IsListedText (entry_lines listing)
entries_listed listing =
    all_append IsListedText (map (line_text (codes "in")) listing.ins) (map (line_text (codes "at")) listing.ats) (ins listing.ins) (ats listing.ats)
  where
    ins : (entries : List Entry) → AllByRecursion IsListedText (map (line_text (codes "in")) entries)
    ins [] = tt
    ins (e ∷ entries) = ((λ n. refl), ins entries)

    ats : (entries : List Entry) → AllByRecursion IsListedText (map (line_text (codes "at")) entries)
    ats [] = tt
    ats (e ∷ entries) = ((λ n. refl), ats entries)

pub listing_found : (version : List ℕ) → IsVersionLine version → (listing : Listing) → texts_of (filter is_listed (numbered 1 (version ∷ entry_lines listing))) ≡ entry_lines listing
listing_found version is listing = rw is.unlisted (numbered_all 2 (entry_lines listing) (entries_listed listing))
