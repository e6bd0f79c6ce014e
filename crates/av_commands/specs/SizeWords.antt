-- How numbers and sizes are spelled in words.
use Rattle.std.specs.Prelude.{◌≡◌, ℕ, ◌≤◌, ℤ, unsigned_abs, List, [], ◌∷◌, ◌++◌, codes}
use Rattle.av_base.specs.declared.token_kind.TokenKind.TheVariants as kind
use Rattle.av_base.specs.Tokens.{IsDigits, IsSpelled, number_of}
use Rattle.av_names.specs.declared.size.Size.{Size}
use Rattle.av_data.specs.Data.{SpellsWhole}

-- ---- numbers

-- decimal digits of a number from 1 to the greatest
pub record SpellsUpTo (greatest : ℕ) (digits : List ℕ) (n : ℕ) : Type 0 where
  pub spelled : IsDigits digits
  pub value : number_of digits ≡ n
  pub least : 1 ≤ n
  pub most : n ≤ greatest

-- ---- sizes

-- NAME=VALUE, where the name is one of an Alpha text
pub record IsSize (word : List ℕ) : Type 0 where
  pub name : List ℕ
  pub text : List ℕ
  pub value : ℤ
  pub parts : word ≡ name ++ (codes "=" ++ text)
  pub named : IsSpelled kind.Name name
  pub valued : SpellsWhole text value
  pub most : unsigned_abs value ≤ 1048576

-- the size of such a word
abbrev pub size_of : {word : List ℕ} → IsSize word → Size
size_of is = record { name = is.name; value = is.value }

-- the words of this form give these sizes, in the order of the words
pub data GiveSizes : List (List ℕ) → List Size → Type 0 where
  no_more : GiveSizes [] []
  given : {word : List ℕ} {rest : List (List ℕ)} {sizes : List Size} → (is : IsSize word) → GiveSizes rest sizes → GiveSizes (word ∷ rest) (size_of is ∷ sizes)
  passed : {word : List ℕ} {rest : List (List ℕ)} {sizes : List Size} → (IsSize word → ⊥) → GiveSizes rest sizes → GiveSizes (word ∷ rest) sizes
