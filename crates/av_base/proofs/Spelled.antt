-- The test of a name tells that the text is spelled as one.
use Rattle.std.proofs.Common.{◌≡◌, ℕ, Bool, true, false, not, ◌||◌, List, [], ◌∷◌, refl, sym, ap, ◌∙◌, true≢false}
use Rattle.std.specs.Prelude.{IsTrue, nat_eq}
use Rattle.std.specs.List.{list_all, AllByRecursion}
use Rattle.std.specs.Char.{is_ascii_alphabetic, is_ascii_digit}
use Rattle.std.proofs.lemmas.List.Elements.{All-from_recursion, recursion_from_All}
use Rattle.av_base.specs.declared.token_kind.TokenKind.TheVariants as kind
use Rattle.av_base.specs.Tokens.{reserved_words, is_word_byte, IsSpelled}
use Rattle.av_base.specs.Spelling.{is_reserved, is_name}
use Rattle.av_base.proofs.Tables.{is_found, not_there}
use Rattle.av_base.proofs.Truths.{and_true, both}

pub all_word : (text : List ℕ) → list_all is_word_byte text ≡ true → AllByRecursion (λ x. IsTrue (is_word_byte x)) text
all_word [] e = tt
all_word (b ∷ text) e = let z = both (is_word_byte b) (list_all is_word_byte text) e in (z.0, all_word text z.1)

pub word_all : (text : List ℕ) → AllByRecursion (λ x. IsTrue (is_word_byte x)) text → list_all is_word_byte text ≡ true
word_all [] e = refl
word_all (b ∷ text) e = and_true (is_word_byte b) (list_all is_word_byte text) e.0 (word_all text e.1)

pub name_is : (text : List ℕ) → is_name text ≡ true → IsSpelled kind.Name text
name_is [] e = absurd (true≢false (sym e))
name_is (b ∷ text) e =
    let z = both (is_ascii_alphabetic b) _ e in
    let w = both (list_all is_word_byte text) (not (is_reserved (b ∷ text))) z.1 in
    ((z.0, All-from_recursion (λ x. IsTrue (is_word_byte x)) text (all_word text w.0)), λ h. true≢false (sym w.1 ∙ ap not (is_found (b ∷ text) reserved_words h)))

pub name_gives : (text : List ℕ) → IsSpelled kind.Name text → is_name text ≡ true
name_gives [] s = absurd s.0
name_gives (b ∷ text) s =
    and_true (is_ascii_alphabetic b) _ s.0.0 (and_true (list_all is_word_byte text) _ (word_all text (recursion_from_All (λ x. IsTrue (is_word_byte x)) text s.0.1)) (ap not (not_there (b ∷ text) reserved_words s.1)))

-- a digit may stand in a name
pub digit_word : (b : ℕ) → is_ascii_digit b ≡ true → is_word_byte b ≡ true
digit_word b h = by (is_ascii_alphabetic b)
  where
    by : (t : Bool) → ((t || is_ascii_digit b) || nat_eq b 95) ≡ true
    by true = refl
    by false = rw h refl
