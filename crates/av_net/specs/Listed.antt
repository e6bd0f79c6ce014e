-- The lines of a listing, which stand as comments before the module. They are this project's own.
use Rattle.std.specs.Prelude.{◌≡◌, ℕ, ◌+◌, ◌-◌, ◌≤◌, Bool, false, ◌&&◌, ◌||◌, if◌then◌else◌, nat_eq, nat_abs, List, [], ◌∷◌, ◌++◌, map, filter, take, length, codes, All, Contains}
use Rattle.std.specs.Str.{bytes_eq}
use Rattle.av_base.specs.declared.token_kind.TokenKind.TheVariants as kind
use Rattle.av_base.specs.Tokens.{IsSpelled}
use Rattle.av_net.specs.declared.design.Entry.{Entry}
use Rattle.av_net.specs.declared.design.Listing.{Listing}
use Rattle.av_net.specs.Texts.{entry_text}

-- a line of a text, counted from 1, without what ends it
pub record Line : Type 0 where
  pub number : ℕ
  pub text : List ℕ

-- the first line with this byte before it
abbrev pub longer : ℕ → List (List ℕ) → List (List ℕ)
longer b [] = (b ∷ []) ∷ []
longer b (line ∷ lines) = (b ∷ line) ∷ lines

abbrev pub begins_feed : List ℕ → Bool
begins_feed [] = false
begins_feed (b ∷ bytes) = nat_eq b 10

-- the lines: a line feed ends one, with a carriage return directly before it or without, and what follows the
-- last line feed is one too
abbrev pub lines_of : List ℕ → List (List ℕ)
lines_of [] = [] ∷ []
lines_of (b ∷ bytes) = if nat_eq b 10 then [] ∷ lines_of bytes else (if nat_eq b 13 && begins_feed bytes then lines_of bytes else longer b (lines_of bytes))

-- the lines with their numbers, from n on
abbrev pub numbered : ℕ → List (List ℕ) → List Line
numbered n [] = []
numbered n (text ∷ texts) = record { number = n; text = text } ∷ numbered (n + 1) texts

-- the line begins with `// in ` or `// at `
abbrev pub is_listed : Line → Bool
is_listed line = bytes_eq (take 6 line.text) (codes "// in ") || bytes_eq (take 6 line.text) (codes "// at ")

-- the lines of the listing, where the module begins on this line
abbrev pub listing_lines : List ℕ → ℕ → List Line
listing_lines bytes first = filter is_listed (numbered 1 (take (first - 1) (lines_of bytes)))

-- an entry that may be listed, at one of these wires: an Alpha name, at most four indices of at most
-- 4095, and a cycle of at most 4095
pub record MayBeListed (wires : List (List ℕ)) (entry : Entry) : Type 0 where
  pub variable : IsSpelled kind.Name entry.variable
  pub indices : length entry.point ≤ 4
  pub index : All (λ i. nat_abs i ≤ 4095) entry.point
  pub wire : Contains wires entry.wire
  pub cycle : entry.cycle ≤ 4095

-- the line of an entry, without what ends it
abbrev pub line_text : List ℕ → Entry → List ℕ
line_text word entry = codes "// " ++ entry_text word entry

-- these lines are the listing: the `in` lines, at input ports, and then the `at` lines, at outputs or wires
pub record IsListing (ports wires : List (List ℕ)) (lines : List Line) (listing : Listing) : Type 0 where
  pub spelled : map (λ line. line.text) lines ≡ map (line_text (codes "in")) listing.ins ++ map (line_text (codes "at")) listing.ats
  pub ins : All (MayBeListed ports) listing.ins
  pub ats : All (MayBeListed wires) listing.ats

-- the first line with which the lines up to it are no listing has this number
pub record IsBadLine (ports wires : List (List ℕ)) (lines : List Line) (number : ℕ) : Type 0 where
  pub front : List Line
  pub line : Line
  pub back : List Line
  pub whole : lines ≡ front ++ (line ∷ back)
  pub good : (listing : Listing) × IsListing ports wires front listing
  pub bad : (listing : Listing) → IsListing ports wires (front ++ line ∷ []) listing → ⊥
  pub number_is : line.number ≡ number
