-- What a line of data says, read from its parts.
use Rattle.std.specs.Prelude.{◌≡◌, ℕ, ◌-◌, ◌^◌, ◌<◌, ◌≤◌, ℤ, pos, neg_ℤ, unsigned_abs, int_le, int_lt, Bool, true, false, ◌&&◌, ◌⊎◌, if◌then◌else◌, nat_eq, List, [], ◌∷◌, length, codes, Option, Some, None, Any}
use Rattle.std.specs.Str.{bytes_eq}
use Rattle.av_base.specs.Tokens.{number_of}
use Rattle.av_base.specs.Spelling.{is_name}
use Rattle.av_affine.specs.Numbers.{AtMost}
use Rattle.av_tree.specs.Points.{Point}
use Rattle.av_tree.specs.Trees.{Text}
use Rattle.av_flat.specs.Trees.{FlatSystem}
use Rattle.av_data.specs.Reading.{are_digits}
use Rattle.av_base.specs.Words.{whole_residue}
use Rattle.av_data.specs.Data.{Says, SaysIn}

-- ---- numbers

-- the number of digits, with a minus sign or without
abbrev pub signed_value : Bool → List ℕ → ℤ
signed_value negative digits = if negative then neg_ℤ (pos (number_of digits)) else pos (number_of digits)

abbrev pub digits_in : Bool → List ℕ → Option ℤ
digits_in negative digits = if are_digits digits then Some (signed_value negative digits) else None

abbrev pub whole_in : List ℕ → Option ℤ
whole_in [] = None
whole_in (b ∷ bytes) = if nat_eq b 45 then digits_in true bytes else digits_in false (b ∷ bytes)

abbrev pub is_in_range : ℕ → ℤ → Bool
is_in_range width value = int_le (neg_ℤ (pos (2 ^ (width - 1)))) value && int_lt value (pos (2 ^ width))

-- ---- points

-- the point with an entry more in front, and what follows it
abbrev pub in_front : Option ℤ → Option (Point × List (List ℕ)) → Option (Point × List (List ℕ))
in_front None found = None
in_front (Some x) None = None
in_front (Some x) (Some found) = Some (x ∷ found.0, found.1)

-- behind an entry: the later entries up to the `)`, and what follows that
abbrev pub entries_behind : List (List ℕ) → Option (Point × List (List ℕ))
entries_behind [] = None
entries_behind (t ∷ []) = if bytes_eq t (codes ")") then Some ([], []) else None
entries_behind (t ∷ u ∷ parts) =
    if bytes_eq t (codes ")") then Some ([], u ∷ parts) else (if bytes_eq t (codes ",") then in_front (whole_in u) (entries_behind parts) else None)

-- behind the `(`
abbrev pub entries_in : List (List ℕ) → Option (Point × List (List ℕ))
entries_in [] = None
entries_in (t ∷ parts) = if bytes_eq t (codes ")") then Some ([], parts) else in_front (whole_in t) (entries_behind parts)

-- no point of four coordinates of at most 4,095
abbrev pub IsFar : Point → Type 0
IsFar z = (4 < length z) ⊎ Any (λ x. 4095 < unsigned_abs x) z

-- the entries that are kept are the point, unless it is far
pub record Keeps (kept : List ℤ) (far : Bool) (z : Point) : Type 0 where
  pub near : far ≡ false → (z ≡ kept) × (length z ≤ 4) × AtMost 4095 z
  pub beyond : far ≡ true → IsFar z

-- ---- lines

pub record Binding : Type 0 where
  pub name : Text
  pub point : Point
  pub word : ℕ

abbrev pub said_value : ℕ → Text → Point → Option ℤ → Option Binding
said_value width name z None = None
said_value width name z (Some value) = if is_in_range width value then Some (record { name = name; point = z; word = whole_residue width value }) else None

abbrev pub said_behind : ℕ → Text → Point → List (List ℕ) → Option Binding
said_behind width name z [] = None
said_behind width name z (t ∷ []) = None
said_behind width name z (t ∷ u ∷ []) = if bytes_eq t (codes "=") then said_value width name z (whole_in u) else None
said_behind width name z (t ∷ u ∷ v ∷ parts) = None

abbrev pub said_of : ℕ → Text → Option (Point × List (List ℕ)) → Option Binding
said_of width name None = None
said_of width name (Some found) = said_behind width name found.0 found.1

abbrev pub said_in : ℕ → List (List ℕ) → Option Binding
said_in width [] = None
said_in width (t ∷ []) = None
said_in width (t ∷ u ∷ parts) = if is_name t && bytes_eq u (codes "(") then said_of width t (entries_in parts) else None

-- the line says this in words of the width, and nothing else
pub record SaysOnly (width : ℕ) (line : List ℕ) (name : Text) (z : Point) (w : ℕ) : Type 0 where
  pub says : Says width line name z w
  pub only : (n : Text) (y : Point) (u : ℕ) → Says width line n y u → (n ≡ name) × (y ≡ z) × (u ≡ w)

-- the line says this in a word of its name's width, and nothing else
pub record SaysOnlyIn (s : FlatSystem) (line : List ℕ) (name : Text) (z : Point) (w : ℕ) : Type 0 where
  pub says : SaysIn s line name z w
  pub only : (n : Text) (y : Point) (u : ℕ) → SaysIn s line n y u → (n ≡ name) × (y ≡ z) × (u ≡ w)
