-- Names and the test that tells them.
use Rattle.std.proofs.Common.{◌≡◌, ℕ, Bool, true, false, not, List, [], ◌∷◌, refl, sym, ap, ◌∙◌, true≢false}
use Rattle.std.specs.Prelude.{IsTrue}
use Rattle.std.specs.List.{list_all}
use Rattle.std.proofs.lemmas.Cmp.{nat_list_eq_equiv}
use Rattle.std.proofs.lemmas.List.Elements.{All-from_recursion, recursion_from_All}
use Rattle.std.proofs.lemmas.Map.Views.{list_any-from_Contains, Contains-from_any}
use Rattle.std.proofs.lemmas.Slice.Eq.{bytes_eq-Decides}
use Rattle.av_base.specs.Tokens.{is_word_byte}
use Rattle.av_net.specs.Lexemes.{reserved_words, begins_name, IsName, IsIdentifier}
use Rattle.av_net.specs.Spelling.{is_identifier, is_reserved, is_name}
use Rattle.av_base.proofs.Spelled.{all_word, word_all}
use Rattle.av_base.proofs.Truths.{and_true, both}

identifier_from : (text : List ℕ) → is_identifier text ≡ true → IsIdentifier text
identifier_from [] h = absurd (true≢false (sym h))
identifier_from (b ∷ bytes) h = let z = both (begins_name b) (list_all is_word_byte bytes) h in (z.0, All-from_recursion (λ x. IsTrue (is_word_byte x)) bytes (all_word bytes z.1))

identifier_to : (text : List ℕ) → IsIdentifier text → is_identifier text ≡ true
identifier_to [] h = absurd h
identifier_to (b ∷ bytes) h = and_true (begins_name b) (list_all is_word_byte bytes) h.0 (word_all bytes (recursion_from_All (λ x. IsTrue (is_word_byte x)) bytes h.1))

pub not_true : (t : Bool) → not t ≡ true → t ≡ true → ⊥
not_true t e f = true≢false (sym e ∙ ap not f)

pub is_false : (t : Bool) → (t ≡ true → ⊥) → not t ≡ true
is_false true h = absurd (h refl)
is_false false h = refl

pub name_from : (text : List ℕ) → is_name text ≡ true → IsName text
name_from text h =
    let z = both (is_identifier text) (not (is_reserved text)) h in
    (identifier_from text z.0, λ there. not_true (is_reserved text) z.1 (list_any-from_Contains nat_list_eq_equiv text reserved_words there))

pub name_to : (text : List ℕ) → IsName text → is_name text ≡ true
name_to text h =
    and_true (is_identifier text) (not (is_reserved text)) (identifier_to text h.0)
    (is_false (is_reserved text) (λ found. h.1 (Contains-from_any (λ x y e. (bytes_eq-Decides x y).0 e) text reserved_words found)))
