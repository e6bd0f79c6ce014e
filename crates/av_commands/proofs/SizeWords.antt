-- Words of the form NAME=VALUE.
use Rattle.std.proofs.Common.{◌≡◌, inl, inr, ◌↔◌, ℕ, ◌-◌, ◌≤◌, ℤ, pos, Bool, true, false, List, [], ◌∷◌, ◌++◌, length, take, drop, IsTrue, unsigned_abs, refl, sym, ap, subst, ◌∙◌, arith}
use Rattle.std.specs.Prelude.{codes}
use Rattle.std.specs.List.{prefix_len, AllByRecursion}
use Rattle.std.specs.Char.{is_ascii_alphabetic}
use Rattle.std.proofs.Math.IntN.{neg_ℤ}
use Rattle.std.proofs.lemmas.List.{take-append-drop, take_rest}
use Rattle.std.proofs.lemmas.List.Elements.{recursion_from_All}
use Rattle.std.proofs.Math.Seq.{take-append_seam, drop-append_seam}
use Rattle.av_base.specs.declared.token_kind.TokenKind.TheVariants as kind
use Rattle.av_base.specs.Tokens.{IsDigits, IsSpelled, IsWord, is_word_byte, number_of}
use Rattle.av_base.specs.Spelling.{is_name}
use Rattle.av_base.proofs.Spelled.{name_gives}
use Rattle.av_data.specs.Data.{SpellsWhole}
use Rattle.av_commands.specs.SizeWords.{IsSize, size_of}

-- ---- values

no_dash : (digits : List ℕ) → IsDigits (45 ∷ digits) → ⊥
no_dash digits h = absurd cc

pub one_whole : (text : List ℕ) (y z : ℤ) → SpellsWhole text y → SpellsWhole text z → y ≡ z
one_whole text y z (inl a) (inl b) = a.1 ∙ sym b.1
one_whole text y z (inl a) (inr b) = absurd (no_dash b.0 (subst IsDigits b.1 a.0))
one_whole text y z (inr a) (inl b) = absurd (no_dash a.0 (subst IsDigits a.1 b.0))
one_whole text y z (inr a) (inr b) =
    let same : a.0 ≡ b.0 = let k = sym a.1 ∙ b.1 in cc in
    a.3 ∙ (ap (λ d. neg_ℤ (pos (number_of d))) same ∙ sym b.3)

-- ---- the two parts

no_word : is_word_byte 61 ≡ false
no_word = refl

-- letters, digits and _ up to the `=`
run_to : (name text : List ℕ) → AllByRecursion (λ b. is_word_byte b ≡ true) name → prefix_len is_word_byte (name ++ (codes "=" ++ text)) ≡ length name
run_to [] text all = refl
run_to (b ∷ name) text all = let r = run_to name text all.1 in rw (all.0, r) (omega arith)

pub word_bytes : (name : List ℕ) → IsWord name → AllByRecursion (λ b. is_word_byte b ≡ true) name
word_bytes [] word = absurd word
word_bytes (b ∷ bytes) word = (letter b word.0, recursion_from_All (λ x. is_word_byte x ≡ true) bytes word.1)
  where
    letter : (c : ℕ) → IsTrue (is_ascii_alphabetic c) → is_word_byte c ≡ true
    letter c h = rw h refl

-- a name and what is given behind it
pub size_is : (word : List ℕ) → IsSpelled kind.Name (take (prefix_len is_word_byte word) word)
    → ((value : List ℕ) × (z : ℤ) × (drop (prefix_len is_word_byte word) word ≡ codes "=" ++ value) × SpellsWhole value z × (unsigned_abs z ≤ 1048576)) → IsSize word
size_is word named (value, z, e, spelled, most) = record {
  name = take (prefix_len is_word_byte word) word;
  text = value;
  value = z;
  parts = sym (take-append-drop (prefix_len is_word_byte word) word) ∙ ap (λ t. take (prefix_len is_word_byte word) word ++ t) e;
  named = named;
  valued = spelled;
  most = most;
}

module _ (word : List ℕ) (is : IsSize word) where
  pub name_is : take (prefix_len is_word_byte word) word ≡ is.name
  name_is =
      let run : prefix_len is_word_byte word ≡ length is.name = ap (prefix_len is_word_byte) is.parts ∙ run_to is.name is.text (word_bytes is.name is.named.0) in
      ap (λ n. take n word) run ∙ (ap (take (length is.name)) is.parts ∙ take-append_seam is.name (codes "=" ++ is.text))

  pub text_is : drop (prefix_len is_word_byte word) word ≡ codes "=" ++ is.text
  text_is =
      let run : prefix_len is_word_byte word ≡ length is.name = ap (prefix_len is_word_byte) is.parts ∙ run_to is.name is.text (word_bytes is.name is.named.0) in
      ap (λ n. drop n word) run ∙ (ap (drop (length is.name)) is.parts ∙ drop-append_seam is.name (codes "=" ++ is.text))

pub is_size : (word : List ℕ) → IsSize word → IsSpelled kind.Name (take (prefix_len is_word_byte word) word)
    × ((value : List ℕ) × (z : ℤ) × (drop (prefix_len is_word_byte word) word ≡ codes "=" ++ value) × SpellsWhole value z × (unsigned_abs z ≤ 1048576))
is_size word is = (subst (IsSpelled kind.Name) (sym (name_is word is)) is.named, (is.text, is.value, text_is word is, is.valued, is.most))

-- a word is one size
pub one_size : (word : List ℕ) (a b : IsSize word) → size_of a ≡ size_of b
one_size word a b =
    let same_name : a.name ≡ b.name = sym (name_is word a) ∙ name_is word b in
    let same_text : a.text ≡ b.text = let k = sym (text_is word a) ∙ text_is word b in cc in
    let same_value : a.value ≡ b.value = one_whole b.text a.value b.value (subst (λ t. SpellsWhole t a.value) same_text a.valued) b.valued in
    ap (λ n. record { name = n; value = a.value }) same_name ∙ ap (λ z. record { name = b.name; value = z }) same_value

pub size_by : (word : List ℕ) (n : ℕ) (given : Bool) → n ≡ prefix_len is_word_byte word → IsSpelled kind.Name (take n word)
    → (IsTrue given ↔ ((value : List ℕ) × (z : ℤ) × (take (length word - n) (drop n word) ≡ codes "=" ++ value) × SpellsWhole value z × (unsigned_abs z ≤ 1048576)))
    → IsTrue given ↔ IsSize word
size_by word n given e named h = (
  (λ t. let (value, z, is, spelled, most) = h.0 t in
      size_is word (subst (λ (m : ℕ). IsSpelled kind.Name (take m word)) e named)
      (value, z, ap (λ m. drop m word) (sym e) ∙ (sym (take_rest word n) ∙ is), spelled, most)),
  (λ is. let (value, z, k, spelled, most) = (is_size word is).1 in
      h.1 (value, z, take_rest word n ∙ (ap (λ m. drop m word) e ∙ k), spelled, most)),
)

pub no_size_by : (word : List ℕ) (n : ℕ) (named : Bool) → n ≡ prefix_len is_word_byte word → named ≡ false → named ≡ is_name (take n word) → IsTrue named ↔ IsSize word
no_size_by word n named e no_name h = (
  (λ t. absurd (let k : true ≡ false = sym t ∙ no_name in cc)),
  (λ is. h ∙ name_gives (take n word) (subst (λ (m : ℕ). IsSpelled kind.Name (take m word)) (sym e) (is_size word is).0)),
)
