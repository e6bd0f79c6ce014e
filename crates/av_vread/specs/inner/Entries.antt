-- Reading a line of the listing.
use Rattle.std.specs.Prelude.{ℕ, zero, suc, ℤ, pos, neg_ℤ, Bool, not, ◌&&◌, ◌||◌, if◌then◌else◌, nat_eq, nat_le, List, [], ◌∷◌, length, slice_index, Option, Some, None}
use Rattle.std.specs.List.{list_all}
use Rattle.av_base.specs.Tokens.{is_word_byte, number_of}
use Rattle.av_base.specs.Spelling.{is_name}
use Rattle.av_net.specs.declared.design.Entry.{Entry}
use Rattle.av_net.specs.Rows.{Among}
use Rattle.av_vread.specs.declared.entry.Parts.{Parts as Found}
use Rattle.av_vparse.specs.Digits.{are_digits}
use Rattle.av_vread.specs.inner.Lines.{cut}

-- ---- numbers

-- digits with no zero before others, of a value of at most 4095
abbrev pub is_numeral : List ℕ → Bool
is_numeral text = are_digits text && ((nat_eq (length text) 1 || not (nat_eq (slice_index text 0) 48)) && nat_le (number_of text) 4095)

abbrev pub numeral_of : List ℕ → Option ℕ
numeral_of text = if is_numeral text then Some (number_of text) else None

-- the number below 0 that is so far from it
abbrev pub below_zero : Option ℕ → Option ℤ
below_zero None = None
below_zero (Some n) = if nat_eq n 0 then None else Some (neg_ℤ (pos n))

abbrev pub not_below : Option ℕ → Option ℤ
not_below None = None
not_below (Some n) = Some (pos n)

-- with a sign before it exactly where it is below 0
abbrev pub index_of : List ℕ → Option ℤ
index_of [] = None
index_of (b ∷ text) = if nat_eq b 45 then below_zero (numeral_of text) else not_below (numeral_of (b ∷ text))

-- ---- points

abbrev pub with_index : Option ℤ → Option (List ℤ) → Option (List ℤ)
with_index None later = None
with_index (Some i) None = None
with_index (Some i) (Some is) = Some (i ∷ is)

abbrev pub indices_by : (List ℕ → Option (List ℤ)) → List ℕ → Option (List ℕ × List ℕ) → Option (List ℤ)
indices_by go text None = with_index (index_of text) (Some [])
indices_by go text (Some parts) = with_index (index_of parts.0) (go parts.1)

-- the indices between commas, where there are no more than so many
unfoldable pub indices_of : ℕ → List ℕ → Option (List ℤ)
indices_of zero text = None
indices_of (suc room) text = indices_by (λ later. indices_of room later) text (cut 44 text)

-- what stands between the brackets of a point
abbrev pub inside_of : List ℕ → Option (List ℤ)
inside_of text = if nat_eq (length text) 0 then Some [] else indices_of 4 text

abbrev pub closed_by : Option (List ℕ × List ℕ) → Option (List ℤ)
closed_by None = None
closed_by (Some parts) = if nat_eq (length parts.1) 0 then inside_of parts.0 else None

abbrev pub point_of : List ℕ → Option (List ℤ)
point_of [] = None
point_of (b ∷ text) = if nat_eq b 40 then closed_by (cut 41 text) else None

-- ---- names

-- one of these names
abbrev pub is_wire : Among → List ℕ → Bool
is_wire wires text = list_all is_word_byte text && wires text

-- ---- lines

-- the parts of a line, which have a blank between them
pub record Parts : Type 0 where
  pub variable : List ℕ
  pub point : List ℕ
  pub wire : List ℕ
  pub cycle : List ℕ

abbrev pub parts_view : Found → Parts
parts_view parts = record { variable = parts.variable.now; point = parts.point.now; wire = parts.wire.now; cycle = parts.cycle.now }

abbrev pub third_part : List ℕ → List ℕ → Option (List ℕ × List ℕ) → Option Parts
third_part variable point None = None
third_part variable point (Some parts) = Some (record { variable = variable; point = point; wire = parts.0; cycle = parts.1 })

abbrev pub second_part : List ℕ → Option (List ℕ × List ℕ) → Option Parts
second_part variable None = None
second_part variable (Some parts) = third_part variable parts.0 (cut 32 parts.1)

abbrev pub first_part : Option (List ℕ × List ℕ) → Option Parts
first_part None = None
first_part (Some parts) = second_part parts.0 (cut 32 parts.1)

abbrev pub parts_of : List ℕ → Option Parts
parts_of text = first_part (cut 32 text)

abbrev pub entry_by : Parts → Option (List ℤ) → Option ℕ → Option Entry
entry_by parts (Some point) (Some cycle) = Some (record { variable = parts.variable; point = point; wire = parts.wire; cycle = cycle })
entry_by parts (Some point) None = None
entry_by parts None cycle = None

abbrev pub entry_of : Among → Parts → Option Entry
entry_of wires parts = if is_name parts.variable && is_wire wires parts.wire then entry_by parts (point_of parts.point) (numeral_of parts.cycle) else None

abbrev pub entry_in : Among → Option Parts → Option Entry
entry_in wires None = None
entry_in wires (Some parts) = entry_of wires parts

-- the entry of a line, from its name on
abbrev pub entry_at : Among → List ℕ → Option Entry
entry_at wires text = entry_in wires (parts_of text)
