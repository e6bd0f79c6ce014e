-- Words that are sizes, and the sizes that they give.
use Rattle.std.proofs.Common.{◌≡◌, ◌≢◌, ℕ, zero, suc, ◌<◌, ◌≤◌, ℤ, true, Bor, List, [], ◌∷◌, ◌++◌, Option, Some, None, get_or, length, drop, append_assoc, unsigned_abs, ◌+◌, All, refl, sym, ap, subst, ◌∙◌, arith}
use Rattle.std.specs.Prelude.{codes, MatchOption}
use Rattle.std.specs.List.{AllByRecursion}
use Rattle.std.proofs.lemmas.List.{append-nil, drop_all}
use Rattle.std.proofs.lemmas.List.Elements.{All-append, All-cons}
use Rattle.std.proofs.lemmas.Str.Pattern.{IsSplitOnceResult, split_after}
use Rattle.av_base.specs.declared.token_kind.TokenKind.TheVariants as kind
use Rattle.av_base.specs.Tokens.{IsSpelled, is_word_byte}
use Rattle.av_names.specs.declared.size.Size.{Size}
use Rattle.av_data.specs.Data.{SpellsWhole}
use Rattle.av_commands.specs.SizeWords.{IsSize, size_of, GiveSizes, no_more, given, passed}
use Rattle.av_commands.proofs.SizeWords.{word_bytes}
use Rattle.std.proofs.Math.Seq.{drop-cons}

-- ---- the parts of a size

no_equals : (name : List ℕ) (i : ℕ) → AllByRecursion (λ b. is_word_byte b ≡ true) name → i < length name → get_or name i 0 ≢ 61
no_equals [] i all lt = absurd (omega arith)
no_equals (b ∷ name) zero all lt = λ e. let k : is_word_byte 61 ≡ true = subst (λ (x : ℕ). is_word_byte x ≡ true) e all.0 in cc
no_equals (b ∷ name) (suc i) all lt = no_equals name i all.1 (omega (arith, lt))

size_parts : (word : List ℕ) (is : IsSize word) (r : Option (Bor (List ℕ) × Bor (List ℕ))) → IsSplitOnceResult 61 word r → MatchOption r ⊥ (λ x. (x.0.now ≡ is.name) × (x.1.now ≡ is.text))
size_parts word is r cases = split_after 61 word is.name is.text r cases (omega arith) is.parts (λ i lt. no_equals is.name i (word_bytes is.name is.named.0) lt)

pub no_parts : (word : List ℕ) → IsSplitOnceResult 61 word None → IsSize word → ⊥
no_parts word cases is = size_parts word is None cases

-- a size that is made of what its two parts say
pub size_made : (word : List ℕ) (is : IsSize word) (name text : Bor (List ℕ)) (z : ℤ) (made : Size) → IsSplitOnceResult 61 word (Some (name, text)) → SpellsWhole text.now z → unsigned_abs z ≤ 1048576
    → made.name ≡ name.now → made.value ≡ z → (read : IsSize word) × (made ≡ size_of read)
size_made word is name text z made cases spelled most named valued =
    let (same_name, same_text) = size_parts word is (Some (name, text)) cases in (
      record {
        name = made.name;
        text = text.now;
        value = made.value;
        parts = is.parts ∙ (ap (λ n. n ++ (codes "=" ++ is.text)) (sym (named ∙ same_name)) ∙ ap (λ t. made.name ++ (codes "=" ++ t)) (sym same_text));
        named = subst (IsSpelled kind.Name) (sym (named ∙ same_name)) is.named;
        valued = subst (SpellsWhole text.now) (sym valued) spelled;
        most = subst (λ (v : ℤ). unsigned_abs v ≤ 1048576) (sym valued) most;
      },
      refl,
    )

pub no_value : (word : List ℕ) (name text : Bor (List ℕ)) → IsSplitOnceResult 61 word (Some (name, text)) → ((z : ℤ) → SpellsWhole text.now z → unsigned_abs z ≤ 1048576 → ⊥) → IsSize word → ⊥
no_value word name text cases none is =
    let (same_name, same_text) = size_parts word is (Some (name, text)) cases in
    none is.value (subst (λ (t : List ℕ). SpellsWhole t is.value) (sym same_text) is.valued) is.most

-- ---- words that are read give sizes

abbrev pub Give : List (List ℕ) → Type 0
Give words = (found : List Size) × GiveSizes words found

pub past : (w : List ℕ) (ws : List (List ℕ)) → (IsSize w → ⊥) → Give ws → Give (w ∷ ws)
past w ws none (found, give) = (found, passed none give)

-- ---- reading them in order

-- the sizes of the words before a place are found; each is small
abbrev pub AreFound : List (List ℕ) → List Size → ℕ → Type 0
AreFound words found at = ((later : List Size) → GiveSizes (drop at words) later → GiveSizes words (found ++ later)) × All (λ s. unsigned_abs s.value ≤ 1048576) found

pub none_found : (words : List (List ℕ)) → AreFound words [] 0
none_found words = (λ later give. give, λ k d lt. absurd (omega (arith, lt)))

pub all_found : (words : List (List ℕ)) (found : List Size) (at : ℕ) → length words ≤ at → AreFound words found at → GiveSizes words found
all_found words found at past on =
    let none : drop at words ≡ [] = drop_all at words past in
    subst (GiveSizes words) (append-nil found) (on.0 [] (subst (λ (ws : List (List ℕ)). GiveSizes ws []) (sym none) no_more))

pub at_words : (words : List (List ℕ)) (at next : ℕ) (w : List ℕ) → at < length words → next ≡ at + 1 → w ≡ get_or words at w → drop at words ≡ w ∷ drop next words
at_words words at next w lt is_next is =
    let e : suc at ≡ next = omega (arith, is_next) in
    drop-cons words at w lt ∙ (ap (λ x. x ∷ drop (suc at) words) (sym is) ∙ ap (λ n. w ∷ drop n words) e)

pub one_found : (words : List (List ℕ)) (found : List Size) (at : ℕ) (w : List ℕ) (s : Size) → at < length words → w ≡ get_or words at w → ((is : IsSize w) × (s ≡ size_of is))
    → AreFound words found at → AreFound words (found ++ (s ∷ [])) (at + 1)
one_found words found at w s lt here (is, e) on = (more, All-append (λ x. unsigned_abs x.value ≤ 1048576) found (s ∷ []) on.1 (All-cons (λ x. unsigned_abs x.value ≤ 1048576) s [] small (λ k d none. absurd (omega (arith, none)))))
  where
    small : unsigned_abs s.value ≤ 1048576
    small = subst (λ (x : Size). unsigned_abs x.value ≤ 1048576) (sym e) is.most

    more : (later : List Size) → GiveSizes (drop (at + 1) words) later → GiveSizes words ((found ++ (s ∷ [])) ++ later)
    more later give =
        let front : drop at words ≡ w ∷ drop (at + 1) words = at_words words at (at + 1) w lt refl here in
        let all : GiveSizes (drop at words) (s ∷ later) = subst (λ (ws : List (List ℕ)). GiveSizes ws (s ∷ later)) (sym front) (subst (λ (x : Size). GiveSizes (w ∷ drop (at + 1) words) (x ∷ later)) (sym e) (given is give)) in
        subst (GiveSizes words) (sym (append_assoc found (s ∷ []) later)) (on.0 (s ∷ later) all)

pub other_found : (words : List (List ℕ)) (found : List Size) (at : ℕ) (w : List ℕ) → at < length words → w ≡ get_or words at w → (IsSize w → ⊥)
    → AreFound words found at → AreFound words found (at + 1)
other_found words found at w lt here none on = (
  (λ later give.
      let front : drop at words ≡ w ∷ drop (at + 1) words = at_words words at (at + 1) w lt refl here in
      on.0 later (subst (λ (ws : List (List ℕ)). GiveSizes ws later) (sym front) (passed none give))),
  on.1,
)
