-- Reading the listing, line by line.
use Rattle.std.specs.Prelude.{◌≡◌, ℕ, ◌-◌, Bool, ◌&&◌, nat_le, if◌then◌else◌, nat_eq, List, [], ◌∷◌, ◌++◌, take, drop, length, codes, Option, Some, None, Result, Ok, Err}
use Rattle.std.specs.Str.{bytes_eq}
use Rattle.av_net.specs.declared.design.Entry.{Entry}
use Rattle.av_net.specs.declared.design.Listing.{Listing}
use Rattle.av_net.specs.Listed.{Line, lines_of, numbered}
use Rattle.av_net.specs.Rows.{Among}
use Rattle.av_vread.specs.declared.fault.VFault.{VFault}
use Rattle.av_vread.specs.declared.fault.VFault.TheVariants.{VByte, VSyntax, VListing, VTwice, VName, VUnassigned, VOrder, VWidth, Memory}
use Rattle.av_vread.specs.inner.Entries.{entry_at}

-- a listing, or the number of the first line that is none of one
abbrev pub Listed : Type 0
Listed = Result Listing ℕ

-- the text begins with these six bytes
abbrev pub begins_with : List ℕ → List ℕ → Bool
begins_with word text = nat_le 6 (length text) && bytes_eq (take 6 text) word

abbrev pub with_in : ℕ → Listing → Option Entry → Listed
with_in number listing None = Err number
with_in number listing (Some entry) = Ok (record { ins = listing.ins ++ entry ∷ []; ats = listing.ats })

abbrev pub with_at : ℕ → Listing → Option Entry → Listed
with_at number listing None = Err number
with_at number listing (Some entry) = Ok (record { ins = listing.ins; ats = listing.ats ++ entry ∷ [] })

-- with a line of an input, before all lines of what is shown
abbrev pub with_in_line : Among → Listing → ℕ → List ℕ → Listed
with_in_line ports listing number text = if nat_eq (length listing.ats) 0 then with_in number listing (entry_at ports text) else Err number

abbrev pub with_at_line : Among → Listing → ℕ → List ℕ → Listed
with_at_line wires listing number text = with_at number listing (entry_at wires text)

-- with one more line
abbrev pub with_line : Among → Among → Listing → Line → Listed
with_line ports wires listing line =
    if begins_with (codes "// in ") line.text then with_in_line ports listing line.number (drop 6 line.text)
    else (if begins_with (codes "// at ") line.text then with_at_line wires listing line.number (drop 6 line.text) else Ok listing)

abbrev pub and_then : Listed → (Listing → Listed) → Listed
and_then (Ok listing) go = go listing
and_then (Err number) go = Err number

-- with more lines
unfoldable pub with_lines : Among → Among → Listing → List Line → Listed
with_lines ports wires listing [] = Ok listing
with_lines ports wires listing (line ∷ lines) = and_then (with_line ports wires listing line) (λ more. with_lines ports wires more lines)

abbrev pub no_lines : Listing
no_lines = record { ins = []; ats = [] }

-- the listing of a text whose module begins on this line
abbrev pub listing_at : Among → Among → List ℕ → ℕ → Listed
listing_at ports wires bytes first = with_lines ports wires no_lines (numbered 1 (take (first - 1) (lines_of bytes)))

-- the fault is that of the first bad line, or out of memory
abbrev pub IsListingFault : VFault → Listed → Type 0
IsListingFault (VListing number) wanted = wanted ≡ Err number
IsListingFault Memory wanted = Unit {0}
IsListingFault (VByte p) wanted = ⊥
IsListingFault (VSyntax p) wanted = ⊥
IsListingFault (VTwice name) wanted = ⊥
IsListingFault (VName name) wanted = ⊥
IsListingFault (VUnassigned name) wanted = ⊥
IsListingFault (VOrder name) wanted = ⊥
IsListingFault (VWidth name) wanted = ⊥

-- the answer, seen by view, is this one, or out of memory
abbrev pub GivesListing : {X : Type 0} → (X → Listing) → Result X VFault → Listed → Type 0
GivesListing view (Ok x) wanted = wanted ≡ Ok (view x)
GivesListing view (Err fault) wanted = IsListingFault fault wanted
