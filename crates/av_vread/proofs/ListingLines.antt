-- The listing is read from its lines, up to the first that is none of one.
use Rattle.std.proofs.Common.{◌≡◌, ℕ, Bool, true, false, cond, List, [], ◌∷◌, ◌++◌, length, map, take, drop, Option, Some, None, Ok, Err, refl, sym, ap, subst, ◌∙◌, arith, true≢false, append_assoc}
use Rattle.std.specs.Prelude.{◌||◌, nat_eq, nat_le, codes, All}
use Rattle.std.specs.List.{list_all, AllByRecursion, filter}
use Rattle.std.specs.Str.{bytes_eq}
use Rattle.std.proofs.lemmas.Bool.{eqb-true}
use Rattle.std.proofs.lemmas.List.{append-nil, map-append, length-take, nil_from_length, take-append-drop}
use Rattle.std.proofs.lemmas.List.Elements.{recursion_from_All, All-from_recursion, All-nil, All-push, All-contains, Contains-append_right, filter_passes}
use Rattle.std.proofs.lemmas.Slice.Eq.{bytes_eq-Decides}
use Rattle.av_base.specs.Tokens.{is_word_byte}
use Rattle.av_net.specs.declared.design.Entry.{Entry}
use Rattle.av_net.specs.declared.design.Listing.{Listing}
use Rattle.av_net.specs.Listed.{Line, is_listed, line_text, MayBeListed, IsListing, IsBadLine}
use Rattle.av_net.specs.Rows.{is_in}
use Rattle.av_vread.specs.inner.Entries.{entry_at}
use Rattle.av_vread.specs.inner.Listings.{Listed, begins_with, with_in, with_at, with_in_line, with_at_line, with_line, and_then, with_lines, no_lines}
use Rattle.av_vparse.proofs.Tables.{and_false}
use Rattle.av_vread.proofs.EntryLines.{body, entry_gives, entry_is}
use Rattle.av_base.proofs.Truths.{both}

abbrev pub texts_of : List Line → List (List ℕ)
texts_of lines = map (λ line. line.text) lines

-- ---- first words

-- a text begins with a word where its first six bytes are that word
word_begins : (word text : List ℕ) → length word ≡ 6 → take 6 text ≡ word → begins_with word text ≡ true
word_begins word text six e =
    let n = length-take 6 text in
    let m = ap length e in
    let long : nat_le 6 (length text) ≡ true = grind arith in
    rw long ((bytes_eq-Decides (take 6 text) word).1 e)

begins_same : (word text : List ℕ) → length word ≡ 6 → begins_with word text ≡ bytes_eq (take 6 text) word
begins_same word text six = go (bytes_eq (take 6 text) word) refl
  where
    go : (t : Bool) → bytes_eq (take 6 text) word ≡ t → begins_with word text ≡ t
    go true e = word_begins word text six ((bytes_eq-Decides (take 6 text) word).0 e)
    go false e = and_false (nat_le 6 (length text)) (bytes_eq (take 6 text) word) e

begins_is : (word text : List ℕ) → begins_with word text ≡ true → text ≡ word ++ drop 6 text
begins_is word text h =
    let z = both (nat_le 6 (length text)) (bytes_eq (take 6 text) word) h in
    sym (take-append-drop 6 text) ∙ ap (λ z. z ++ drop 6 text) ((bytes_eq-Decides (take 6 text) word).0 z.1)

listed_begins : (line : Line) → is_listed line ≡ (begins_with (codes "// in ") line.text || begins_with (codes "// at ") line.text)
listed_begins line = rw (begins_same (codes "// in ") line.text refl, begins_same (codes "// at ") line.text refl) refl

in_begins : (entry : Entry) → begins_with (codes "// in ") (line_text (codes "in") entry) ≡ true
in_begins entry = word_begins (codes "// in ") (line_text (codes "in") entry) refl refl

at_begins : (entry : Entry) → begins_with (codes "// at ") (line_text (codes "at") entry) ≡ true
at_begins entry = word_begins (codes "// at ") (line_text (codes "at") entry) refl refl

at_no_in : (entry : Entry) → begins_with (codes "// in ") (line_text (codes "at") entry) ≡ false
at_no_in entry = begins_same (codes "// in ") (line_text (codes "at") entry) refl

abbrev ok_with : List Entry → List Entry → Listed
ok_with ins ats = Ok (record { ins = ins; ats = ats })

abbrev err_with : ℕ → Listed
err_with n = Err n

ok_is : (a b : Listing) → ◌≡◌ {A = Listed} (Ok a) (Ok b) → a ≡ b
ok_is a b e = cc

err_is : (m n : ℕ) → ◌≡◌ {A = Listed} (Err m) (Err n) → m ≡ n
err_is m n e = cc

ok_or_err : (a : Listing) (n : ℕ) → ◌≡◌ {A = Listed} (Ok a) (Err n) → ⊥
ok_or_err a n e = cc

-- names that are words
abbrev pub AreWords : List (List ℕ) → Type 0
AreWords names = All (λ name. list_all is_word_byte name ≡ true) names

module _ (ports wires : List (List ℕ)) where
  -- one line more
  abbrev one_more : Listing → Line → Listed
  one_more s line = with_line (is_in ports) (is_in wires) s line

  abbrev pub read_on : Listing → List Line → Listed
  read_on s lines = with_lines (is_in ports) (is_in wires) s lines

  -- ---- a line that is none of the listing

  not_listed : (s : Listing) (line : Line) → is_listed line ≡ false → one_more s line ≡ Ok s
  not_listed s line h = go (begins_with (codes "// in ") line.text) (begins_with (codes "// at ") line.text) (sym (listed_begins line) ∙ h)
    where
      go : (t u : Bool) → (t || u) ≡ false
          → cond t (with_in_line (is_in ports) s line.number (drop 6 line.text)) (cond u (with_at_line (is_in wires) s line.number (drop 6 line.text)) (Ok s)) ≡ Ok s
      go true u e = absurd (true≢false e)
      go false true e = absurd (true≢false e)
      go false false e = refl

  pub read_listed : (s : Listing) (lines : List Line) → read_on s (filter is_listed lines) ≡ read_on s lines
  unfolding with_lines
  read_listed s [] = refl
  read_listed s (line ∷ lines) = go (is_listed line) refl (λ t. read_listed t lines)
    where
      same : (r : Listed) → ((t : Listing) → read_on t (filter is_listed lines) ≡ read_on t lines) → and_then r (λ t. read_on t (filter is_listed lines)) ≡ and_then r (λ t. read_on t lines)
      same (Ok t) ih = ih t
      same (Err n) ih = refl

      go : (t : Bool) → is_listed line ≡ t → ((t : Listing) → read_on t (filter is_listed lines) ≡ read_on t lines)
          → read_on s (cond t (line ∷ filter is_listed lines) (filter is_listed lines)) ≡ and_then (one_more s line) (λ t. read_on t lines)
      go true h ih = same (one_more s line) ih
      go false h ih = ih s ∙ sym (ap (λ r. and_then r (λ t. read_on t lines)) (not_listed s line h))

  -- ---- one list of lines after another

  read_append : (s : Listing) (xs ys : List Line) → read_on s (xs ++ ys) ≡ and_then (read_on s xs) (λ t. read_on t ys)
  unfolding with_lines
  read_append s [] ys = refl
  read_append s (x ∷ xs) ys = go (one_more s x) (λ t. read_append t xs ys)
    where
      go : (r : Listed) → ((t : Listing) → read_on t (xs ++ ys) ≡ and_then (read_on t xs) (λ u. read_on u ys))
          → and_then r (λ t. read_on t (xs ++ ys)) ≡ and_then (and_then r (λ t. read_on t xs)) (λ u. read_on u ys)
      go (Ok t) ih = ih t
      go (Err n) ih = refl

  -- ---- what is read is the listing

  in_is : (done : List Line) (s t : Listing) (line : Line) → begins_with (codes "// in ") line.text ≡ true → IsListing ports wires done s
      → with_in_line (is_in ports) s line.number (drop 6 line.text) ≡ Ok t → IsListing ports wires (done ++ line ∷ []) t
  in_is done s t line b h e = go (nat_eq (length s.ats) 0) refl e
    where
      found : (entry : Entry) → s.ats ≡ [] → entry_at (is_in ports) (drop 6 line.text) ≡ Some entry → IsListing ports wires (done ++ line ∷ []) (record { ins = s.ins ++ entry ∷ []; ats = s.ats })
      found entry none f =
          let is = entry_is ports (drop 6 line.text) entry f in
          let text : line.text ≡ line_text (codes "in") entry = begins_is (codes "// in ") line.text b ∙ ap (λ z. codes "// in " ++ z) is.spelled in
          let before : texts_of done ≡ map (line_text (codes "in")) s.ins = h.spelled ∙ ap (λ z. map (line_text (codes "in")) s.ins ++ map (line_text (codes "at")) z) none ∙ append-nil (map (line_text (codes "in")) s.ins) in
          record {
            spelled =
                map-append (λ line. line.text) done (line ∷ []) ∙ ap (λ z. z ++ line.text ∷ []) before ∙ ap (λ z. map (line_text (codes "in")) s.ins ++ z ∷ []) text
                ∙ sym (map-append (line_text (codes "in")) s.ins (entry ∷ [])) ∙ sym (append-nil (map (line_text (codes "in")) (s.ins ++ entry ∷ [])))
                ∙ ap (λ z. map (line_text (codes "in")) (s.ins ++ entry ∷ []) ++ map (line_text (codes "at")) z) (sym none);
            ins = All-push (MayBeListed ports) s.ins entry h.ins is.listed;
            ats = h.ats;
          }

      by : (r : Option Entry) → s.ats ≡ [] → entry_at (is_in ports) (drop 6 line.text) ≡ r → with_in line.number s r ≡ Ok t → IsListing ports wires (done ++ line ∷ []) t
      by None none f e = absurd cc
      by (Some entry) none f e = subst (IsListing ports wires (done ++ line ∷ [])) (ok_is (record { ins = s.ins ++ entry ∷ []; ats = s.ats }) t e) (found entry none f)

      go : (u : Bool) → nat_eq (length s.ats) 0 ≡ u → cond u (with_in line.number s (entry_at (is_in ports) (drop 6 line.text))) (Err line.number) ≡ Ok t → IsListing ports wires (done ++ line ∷ []) t
      go true f e = by (entry_at (is_in ports) (drop 6 line.text)) (nil_from_length s.ats (eqb-true (length s.ats) 0 f)) refl e
      go false f e = absurd cc

  at_is : (done : List Line) (s t : Listing) (line : Line) → begins_with (codes "// at ") line.text ≡ true → IsListing ports wires done s
      → with_at_line (is_in wires) s line.number (drop 6 line.text) ≡ Ok t → IsListing ports wires (done ++ line ∷ []) t
  at_is done s t line b h e = by (entry_at (is_in wires) (drop 6 line.text)) refl e
    where
      found : (entry : Entry) → entry_at (is_in wires) (drop 6 line.text) ≡ Some entry → IsListing ports wires (done ++ line ∷ []) (record { ins = s.ins; ats = s.ats ++ entry ∷ [] })
      found entry f =
          let is = entry_is wires (drop 6 line.text) entry f in
          let text : line.text ≡ line_text (codes "at") entry = begins_is (codes "// at ") line.text b ∙ ap (λ z. codes "// at " ++ z) is.spelled in
          let front = map (line_text (codes "in")) s.ins in
          record {
            spelled =
                map-append (λ line. line.text) done (line ∷ []) ∙ ap (λ z. z ++ line.text ∷ []) h.spelled ∙ append_assoc front (map (line_text (codes "at")) s.ats) (line.text ∷ [])
                ∙ ap (λ z. front ++ (map (line_text (codes "at")) s.ats ++ z ∷ [])) text ∙ ap (λ z. front ++ z) (sym (map-append (line_text (codes "at")) s.ats (entry ∷ [])));
            ins = h.ins;
            ats = All-push (MayBeListed wires) s.ats entry h.ats is.listed;
          }

      by : (r : Option Entry) → entry_at (is_in wires) (drop 6 line.text) ≡ r → with_at line.number s r ≡ Ok t → IsListing ports wires (done ++ line ∷ []) t
      by None f e = absurd cc
      by (Some entry) f e = subst (IsListing ports wires (done ++ line ∷ [])) (ok_is (record { ins = s.ins; ats = s.ats ++ entry ∷ [] }) t e) (found entry f)

  line_is : (done : List Line) (s t : Listing) (line : Line) → is_listed line ≡ true → IsListing ports wires done s → one_more s line ≡ Ok t → IsListing ports wires (done ++ line ∷ []) t
  line_is done s t line l h e = go (begins_with (codes "// in ") line.text) (begins_with (codes "// at ") line.text) refl refl (sym (listed_begins line) ∙ l) e
    where
      go : (a b : Bool) → begins_with (codes "// in ") line.text ≡ a → begins_with (codes "// at ") line.text ≡ b → (a || b) ≡ true
          → cond a (with_in_line (is_in ports) s line.number (drop 6 line.text)) (cond b (with_at_line (is_in wires) s line.number (drop 6 line.text)) (Ok s)) ≡ Ok t
          → IsListing ports wires (done ++ line ∷ []) t
      go true b f g l e = in_is done s t line f h e
      go false true f g l e = at_is done s t line g h e
      go false false f g l e = absurd (true≢false (sym l))

  lines_are : (done : List Line) (s t : Listing) (lines : List Line) → AllByRecursion (λ line. is_listed line ≡ true) lines → IsListing ports wires done s → read_on s lines ≡ Ok t → IsListing ports wires (done ++ lines) t
  unfolding with_lines
  lines_are done s t [] l h e = subst (λ z. IsListing ports wires z t) (sym (append-nil done)) (subst (IsListing ports wires done) (ok_is s t e) h)
  lines_are done s t (line ∷ lines) l h e = go (one_more s line) refl e (λ u k f. lines_are (done ++ line ∷ []) u t lines l.1 k f)
    where
      go : (r : Listed) → one_more s line ≡ r → and_then r (λ u. read_on u lines) ≡ Ok t
          → ((u : Listing) → IsListing ports wires (done ++ line ∷ []) u → read_on u lines ≡ Ok t → IsListing ports wires ((done ++ line ∷ []) ++ lines) t) → IsListing ports wires (done ++ line ∷ lines) t
      go (Ok u) f e ih = subst (λ z. IsListing ports wires z t) (append_assoc done (line ∷ []) lines) (ih u (line_is done s u line l.0 h f) e)
      go (Err n) f e ih = absurd cc

  none_listed : IsListing ports wires [] no_lines
  none_listed = record { spelled = refl; ins = All-nil (MayBeListed ports); ats = All-nil (MayBeListed wires) }

  pub listing_is : (lines : List Line) (listing : Listing) → AllByRecursion (λ line. is_listed line ≡ true) lines → read_on no_lines lines ≡ Ok listing → IsListing ports wires lines listing
  listing_is lines listing l e = lines_are [] no_lines listing lines l none_listed e

  -- ---- the listing is read

  module _ (port_words : AreWords ports) (wire_words : AreWords wires) where
    in_read : (s : Listing) (line : Line) (entry : Entry) → s.ats ≡ [] → line.text ≡ line_text (codes "in") entry → MayBeListed ports entry → one_more s line ≡ Ok (record { ins = s.ins ++ entry ∷ []; ats = s.ats })
    in_read s line entry none text m =
        let first : begins_with (codes "// in ") line.text ≡ true = ap (begins_with (codes "// in ")) text ∙ in_begins entry in
        let rest : drop 6 line.text ≡ body entry = ap (drop 6) text in
        let read = entry_gives ports entry (record { listed = m; worded = All-contains (λ name. list_all is_word_byte name ≡ true) ports entry.wire port_words m.wire }) in
        let empty : nat_eq (length s.ats) 0 ≡ true = ap (λ z. nat_eq (length z) 0) none in
        rw (first, empty, rest, read) refl

    at_read : (s : Listing) (line : Line) (entry : Entry) → line.text ≡ line_text (codes "at") entry → MayBeListed wires entry → one_more s line ≡ Ok (record { ins = s.ins; ats = s.ats ++ entry ∷ [] })
    at_read s line entry text m =
        let other : begins_with (codes "// in ") line.text ≡ false = ap (begins_with (codes "// in ")) text ∙ at_no_in entry in
        let first : begins_with (codes "// at ") line.text ≡ true = ap (begins_with (codes "// at ")) text ∙ at_begins entry in
        let rest : drop 6 line.text ≡ body entry = ap (drop 6) text in
        let read = entry_gives wires entry (record { listed = m; worded = All-contains (λ name. list_all is_word_byte name ≡ true) wires entry.wire wire_words m.wire }) in
        rw (other, first, rest, read) refl

    ats_read : (ats : List Entry) (lines : List Line) (s : Listing) → texts_of lines ≡ map (line_text (codes "at")) ats → AllByRecursion (MayBeListed wires) ats → read_on s lines ≡ Ok (record { ins = s.ins; ats = s.ats ++ ats })
    unfolding with_lines
    ats_read [] [] s e m = ap (λ z. ok_with s.ins z) (sym (append-nil s.ats))
    ats_read [] (line ∷ lines) s e m = absurd cc
    ats_read (entry ∷ ats) [] s e m = absurd cc
    ats_read (entry ∷ ats) (line ∷ lines) s e m =
        let head : line.text ≡ line_text (codes "at") entry = cc in
        let tail : texts_of lines ≡ map (line_text (codes "at")) ats = cc in
        ap (λ r. and_then r (λ t. read_on t lines)) (at_read s line entry head m.0)
        ∙ ats_read ats lines (record { ins = s.ins; ats = s.ats ++ entry ∷ [] }) tail m.1
        ∙ ap (λ z. ok_with s.ins z) (append_assoc s.ats (entry ∷ []) ats)

    ins_read : (ins ats : List Entry) (lines : List Line) (s : Listing) → s.ats ≡ [] → texts_of lines ≡ map (line_text (codes "in")) ins ++ map (line_text (codes "at")) ats
        → AllByRecursion (MayBeListed ports) ins → AllByRecursion (MayBeListed wires) ats → read_on s lines ≡ ok_with (s.ins ++ ins) ats
    unfolding with_lines
    ins_read [] ats lines s none e m n =
        ats_read ats lines s e n ∙ ap (λ z. ok_with z (s.ats ++ ats)) (sym (append-nil s.ins)) ∙ ap (λ z. ok_with (s.ins ++ []) (z ++ ats)) none
    ins_read (entry ∷ ins) ats [] s none e m n = absurd cc
    ins_read (entry ∷ ins) ats (line ∷ lines) s none e m n =
        let head : line.text ≡ line_text (codes "in") entry = cc in
        let tail : texts_of lines ≡ map (line_text (codes "in")) ins ++ map (line_text (codes "at")) ats = cc in
        ap (λ r. and_then r (λ t. read_on t lines)) (in_read s line entry none head m.0)
        ∙ ins_read ins ats lines (record { ins = s.ins ++ entry ∷ []; ats = s.ats }) none tail m.1 n
        ∙ ap (λ z. ok_with z ats) (append_assoc s.ins (entry ∷ []) ins)

    pub listing_read : (lines : List Line) (listing : Listing) → IsListing ports wires lines listing → read_on no_lines lines ≡ Ok listing
    listing_read lines listing h =
        ins_read listing.ins listing.ats lines no_lines refl h.spelled (recursion_from_All (MayBeListed ports) listing.ins h.ins) (recursion_from_All (MayBeListed wires) listing.ats h.ats)

    pub one_listing : (lines : List Line) (a b : Listing) → IsListing ports wires lines a → IsListing ports wires lines b → a ≡ b
    one_listing lines a b h k = ok_is a b (sym (listing_read lines a h) ∙ listing_read lines b k)

    -- ---- the first bad line

    number_in : (n m : ℕ) (s : Listing) (r : Option Entry) → with_in n s r ≡ Err m → n ≡ m
    number_in n m s None e = err_is n m e
    number_in n m s (Some entry) e = absurd cc

    number_at : (n m : ℕ) (s : Listing) (r : Option Entry) → with_at n s r ≡ Err m → n ≡ m
    number_at n m s None e = err_is n m e
    number_at n m s (Some entry) e = absurd cc

    number_is : (s : Listing) (line : Line) (n : ℕ) → one_more s line ≡ Err n → line.number ≡ n
    number_is s line n e = go (begins_with (codes "// in ") line.text) (begins_with (codes "// at ") line.text) e
      where
        in_line : (t : Bool) → cond t (with_in line.number s (entry_at (is_in ports) (drop 6 line.text))) (Err line.number) ≡ Err n → line.number ≡ n
        in_line true e = number_in line.number n s (entry_at (is_in ports) (drop 6 line.text)) e
        in_line false e = err_is line.number n e

        go : (a b : Bool) → cond a (with_in_line (is_in ports) s line.number (drop 6 line.text)) (cond b (with_at_line (is_in wires) s line.number (drop 6 line.text)) (Ok s)) ≡ Err n → line.number ≡ n
        go true b e = in_line (nat_eq (length s.ats) 0) e
        go false true e = number_at line.number n s (entry_at (is_in wires) (drop 6 line.text)) e
        go false false e = absurd (ok_or_err s n e)

    -- one line alone
    alone : (s : Listing) (line : Line) → read_on s (line ∷ []) ≡ one_more s line
    unfolding with_lines
    alone s line = go (one_more s line)
      where
        go : (r : Listed) → and_then r (λ t. read_on t []) ≡ r
        go (Ok t) = refl
        go (Err n) = refl

    lines_bad : (done : List Line) (s : Listing) (lines : List Line) (n : ℕ) → AllByRecursion (λ line. is_listed line ≡ true) lines → IsListing ports wires done s → read_on s lines ≡ Err n → IsBadLine ports wires (done ++ lines) n
    unfolding with_lines
    lines_bad done s [] n l h e = absurd (ok_or_err s n e)
    lines_bad done s (line ∷ lines) n l h e = go (one_more s line) refl e (λ u k f. lines_bad (done ++ line ∷ []) u lines n l.1 k f)
      where
        worse : (m : ℕ) → one_more s line ≡ Err m → (listing : Listing) → IsListing ports wires (done ++ line ∷ []) listing → ⊥
        worse m f listing k =
            let both_read = read_append no_lines done (line ∷ []) ∙ ap (λ r. and_then r (λ t. read_on t (line ∷ []))) (listing_read done s h) ∙ alone s line ∙ f in
            ok_or_err listing m (sym (listing_read (done ++ line ∷ []) listing k) ∙ both_read)

        go : (r : Listed) → one_more s line ≡ r → and_then r (λ u. read_on u lines) ≡ Err n
            → ((u : Listing) → IsListing ports wires (done ++ line ∷ []) u → read_on u lines ≡ Err n → IsBadLine ports wires ((done ++ line ∷ []) ++ lines) n) → IsBadLine ports wires (done ++ line ∷ lines) n
        go (Ok u) f e ih = subst (λ z. IsBadLine ports wires z n) (append_assoc done (line ∷ []) lines) (ih u (line_is done s u line l.0 h f) e)
        go (Err m) f e ih = record {
          front = done;
          line = line;
          back = lines;
          whole = refl;
          good = (s, h);
          bad = worse m f;
          number_is = number_is s line m f ∙ err_is m n e;
        }

    pub bad_is : (lines : List Line) (n : ℕ) → AllByRecursion (λ line. is_listed line ≡ true) lines → read_on no_lines lines ≡ Err n → IsBadLine ports wires lines n
    bad_is lines n l e = lines_bad [] no_lines lines n l none_listed e

    pub bad_read : (lines : List Line) (n : ℕ) → AllByRecursion (λ line. is_listed line ≡ true) lines → IsBadLine ports wires lines n → read_on no_lines lines ≡ Err n
    unfolding with_lines
    bad_read lines n l b =
        let s = b.good.0 in
        ap (read_on no_lines) b.whole ∙ read_append no_lines b.front (b.line ∷ b.back) ∙ ap (λ r. and_then r (λ t. read_on t (b.line ∷ b.back))) (listing_read b.front s b.good.1) ∙ go (one_more s b.line) refl
      where
        listed : is_listed b.line ≡ true
        listed =
            All-contains (λ line. is_listed line ≡ true) (b.front ++ b.line ∷ b.back) b.line
            (subst (λ z. All (λ line. is_listed line ≡ true) z) b.whole (All-from_recursion (λ line. is_listed line ≡ true) lines l))
            (Contains-append_right b.front (b.line ∷ b.back) b.line (0, omega arith, refl))

        go : (r : Listed) → one_more b.good.0 b.line ≡ r → and_then r (λ t. read_on t b.back) ≡ Err n
        go (Ok t) f = absurd (b.bad t (line_is b.front b.good.0 t b.line listed b.good.1 f))
        go (Err m) f = ap (λ z. err_with z) (sym (number_is b.good.0 b.line m f) ∙ b.number_is)

-- the lines that are kept are listed
pub kept_listed : (lines : List Line) → AllByRecursion (λ line. is_listed line ≡ true) (filter is_listed lines)
kept_listed lines = recursion_from_All (λ line. is_listed line ≡ true) (filter is_listed lines) (filter_passes is_listed lines)
