-- The lines of a dump, part by part as they are read.
use Rattle.std.proofs.Common.{◌≡◌, ◌≢◌, ℕ, ◌+◌, ◌<◌, ◌^◌, List, ◌∷◌, ◌++◌, length, get_or, sym, ◌∙◌, ap, subst, append_assoc, false, true, true≢false, Bool, inl, inr}
use Rattle.std.specs.Prelude.{codes, decimal, slice_get, Some}
use Rattle.std.proofs.Math.Nat.{mod-lt, mod-eq_of_lt}
use Rattle.std.proofs.lemmas.Nat.{pow_pos}
use Rattle.std.proofs.lemmas.List.{append_cancel_left, append_cancel_right}
use Rattle.std.proofs.lemmas.Option.{slice_get-get_or, slice_get_within, get_or_from_slice_get}
use Rattle.av_base.specs.declared.width.Width.{Width}
use Rattle.av_base.specs.Words.{residue}
use Rattle.av_base.proofs.Lists.{same_tail}
use Rattle.av_net.specs.declared.netlist.Port.{Port}
use Rattle.av_net.specs.Lexemes.{IsName}
use Rattle.av_net.specs.Spelling.{is_name}
use Rattle.av_wave.specs.Dumps.{scope_line, port_line, binary, code}
use Rattle.av_wave.specs.inner.Stages.{Says, SaysBit, SaysVector}
use Rattle.av_wave.proofs.Codes.{code_injective}
use Rattle.av_wave.proofs.Digits.{bit_digit, binary_digits, binary_injective, decimal_digits, blank_once}
use Rattle.av_wave.proofs.Named.{name_from, name_to}
use Rattle.av_wave.proofs.OneForm.{port_rest, port_parts, small_width, small_word, says_cases, bit_first}

-- ---- a name before the end of a line

pub name_some : (text name : List ℕ) (t : Bool) → text ≡ name ++ codes " $end\n" → t ≡ is_name name → t ≡ true → IsName name × (text ≡ name ++ codes " $end\n")
name_some text name t is told holds = (name_from name (sym told ∙ holds), is)

pub name_none : (text name : List ℕ) (t : Bool) → text ≡ name ++ codes " $end\n" → t ≡ is_name name → t ≡ false → (other : List ℕ) → IsName other → text ≡ other ++ codes " $end\n" → ⊥
name_none text name t is told fails other named e =
    let same : other ≡ name = append_cancel_right other name (codes " $end\n") (sym e ∙ is) in
    true≢false (sym (name_to name (subst (λ (n : List ℕ). IsName n) same named)) ∙ sym told ∙ fails)

-- ---- the line that opens the scope

pub scope_parts : (name : List ℕ) → scope_line name ≡ codes "$scope module " ++ (name ++ codes " $end\n")
scope_parts name = append_assoc (codes "$scope module ") name (codes " $end\n")

pub scope_some : (line rest name : List ℕ) → line ≡ codes "$scope module " ++ rest → rest ≡ name ++ codes " $end\n" → line ≡ scope_line name
scope_some line rest name is more = is ∙ ap (λ (r : List ℕ). codes "$scope module " ++ r) more ∙ sym (scope_parts name)

pub scope_rest : (line rest name : List ℕ) → line ≡ codes "$scope module " ++ rest → line ≡ scope_line name → rest ≡ name ++ codes " $end\n"
scope_rest line rest name is e = append_cancel_left (codes "$scope module ") rest (name ++ codes " $end\n") (sym is ∙ e ∙ scope_parts name)

-- ---- the line of a port

-- what was read of a line: what stands behind `$var wire `, behind the width and a blank, behind the code, and behind a blank
pub record Declares (line first second third fourth : List ℕ) (number : ℕ) (width : Width) : Type 0 where
  pub wire : line ≡ codes "$var wire " ++ first
  pub bits : first ≡ decimal width.bits ++ 32 ∷ second
  pub named : second ≡ code number ++ third
  pub blank : third ≡ 32 ∷ fourth

pub declares_some : (line first second third fourth name : List ℕ) (number : ℕ) (width : Width) → Declares line first second third fourth number width → fourth ≡ name ++ codes " $end\n"
    → line ≡ port_line number (record { name = name; width = width })
declares_some line first second third fourth name number width parts ends =
    parts.wire
    ∙ ap (λ (t : List ℕ). codes "$var wire " ++ t)
    (parts.bits ∙ ap (λ (t : List ℕ). decimal width.bits ++ 32 ∷ t) (parts.named ∙ ap (λ (t : List ℕ). code number ++ t) (parts.blank ∙ ap (λ (t : List ℕ). 32 ∷ t) ends)))
    ∙ sym (port_parts number (record { name = name; width = width }))

-- a line that declares a port has these parts
pub wire_next : (line first : List ℕ) (number : ℕ) (port : Port) → line ≡ codes "$var wire " ++ first → line ≡ port_line number port → first ≡ decimal port.width.bits ++ 32 ∷ port_rest number port.name
wire_next line first number port is e = append_cancel_left (codes "$var wire ") first (decimal port.width.bits ++ 32 ∷ port_rest number port.name) (sym is ∙ e ∙ port_parts number port)

pub width_next : (first second : List ℕ) (number : ℕ) (width : Width) (port : Port) → first ≡ decimal width.bits ++ 32 ∷ second → first ≡ decimal port.width.bits ++ 32 ∷ port_rest number port.name
    → second ≡ port_rest number port.name
width_next first second number width port is e =
    (blank_once (decimal width.bits) (decimal port.width.bits) second (port_rest number port.name)
    (decimal_digits width.bits (small_width width)) (decimal_digits port.width.bits (small_width port.width)) (sym is ∙ e)).1

pub code_next : (second third : List ℕ) (number : ℕ) (port : Port) → second ≡ code number ++ third → second ≡ port_rest number port.name → third ≡ 32 ∷ (port.name ++ codes " $end\n")
code_next second third number port is e = append_cancel_left (code number) third (32 ∷ (port.name ++ codes " $end\n")) (sym is ∙ e)

pub blank_next : (third fourth : List ℕ) (port : Port) → third ≡ 32 ∷ fourth → third ≡ 32 ∷ (port.name ++ codes " $end\n") → fourth ≡ port.name ++ codes " $end\n"
blank_next third fourth port is e = same_tail 32 32 fourth (port.name ++ codes " $end\n") (sym is ∙ e)

-- ---- the line of a change of one bit

-- the port of a place
pub at_place : (ports : List Port) (number : ℕ) (port other : Port) → port ≡ get_or ports number port → number < length ports → slice_get ports number ≡ Some other → other ≡ port
at_place ports number port other is lt e = sym (get_or_from_slice_get ports number other port e) ∙ sym is

pub place_of : (ports : List Port) (number : ℕ) (port : Port) → port ≡ get_or ports number port → number < length ports → slice_get ports number ≡ Some port
place_of ports number port is lt = slice_get-get_or ports number port lt ∙ ap Some (sym is)

pub bit_some : (ports : List Port) (text behind : List ℕ) (number value : ℕ) (port : Port) → text ≡ (48 + value) ∷ behind → value < 2 → behind ≡ code number → number < length ports → port ≡ get_or ports number port → port.width.bits ≡ 1
    → SaysBit ports text number value
bit_some ports text behind number value port is small coded lt at single = record {
  port = port;
  at = place_of ports number port at lt;
  single = single;
  fits = small;
  text_is = is ∙ ap (λ (t : List ℕ). (48 + value) ∷ t) coded ∙ ap (λ (t : List ℕ). t ++ code number) (sym (bit_digit value small));
}

-- what such a text begins with
pub bit_head : {ports : List Port} {text : List ℕ} {number value : ℕ} → SaysBit ports text number value → text ≡ (48 + value) ∷ code number
bit_head {number = number} {value = value} bit = bit.text_is ∙ ap (λ (t : List ℕ). t ++ code number) (bit_digit value bit.fits)

pub bit_within : {ports : List Port} {text : List ℕ} {number value : ℕ} → SaysBit ports text number value → number < length ports
bit_within {ports = ports} {number = number} bit = slice_get_within ports number bit.port bit.at

pub bit_code : {ports : List Port} {text : List ℕ} {number value : ℕ} (first : ℕ) (behind : List ℕ) → SaysBit ports text number value → text ≡ first ∷ behind → behind ≡ code number
bit_code {number = number} {value = value} first behind bit is = same_tail first (48 + value) behind (code number) (sym is ∙ bit_head bit)

-- where the port at the place of a code is wide, nothing is said of a bit
pub bit_wide : {ports : List Port} {text : List ℕ} {number value : ℕ} (first : ℕ) (behind : List ℕ) (other : ℕ) (port : Port) → SaysBit ports text number value → text ≡ first ∷ behind → behind ≡ code other
    → other < length ports → port ≡ get_or ports other port → port.width.bits ≢ 1 → ⊥
bit_wide {ports = ports} {number = number} first behind other port bit is coded lt at wide =
    let same : number ≡ other = code_injective number other (sym (bit_code first behind bit is) ∙ coded) in
    let there : bit.port ≡ port = at_place ports other port bit.port at lt (ap (slice_get ports) (sym same) ∙ bit.at) in
    wide (ap (λ (p : Port). p.width.bits) (sym there) ∙ bit.single)

-- ---- and of more bits

pub vector_some : (ports : List Port) (text behind : List ℕ) (number value : ℕ) (port : Port) → text ≡ binary value ++ 32 ∷ behind → behind ≡ code number → number < length ports → port ≡ get_or ports number port
    → port.width.bits ≢ 1 → value < 2 ^ port.width.bits → SaysVector ports text number value
vector_some ports text behind number value port is coded lt at wide fits = record {
  port = port;
  at = place_of ports number port at lt;
  wide = wide;
  fits = fits;
  text_is = is ∙ ap (λ (t : List ℕ). binary value ++ 32 ∷ t) coded;
}

pub vector_small : {ports : List Port} {text : List ℕ} {number value : ℕ} → SaysVector ports text number value → value < 2 ^ 64
vector_small {value = value} vector = small_word vector.port.width value vector.fits

pub vector_within : {ports : List Port} {text : List ℕ} {number value : ℕ} → SaysVector ports text number value → number < length ports
vector_within {ports = ports} {number = number} vector = slice_get_within ports number vector.port vector.at

-- what was read of such a text is what it says
pub vector_parts : {ports : List Port} {text : List ℕ} {number value : ℕ} (read : ℕ) (behind : List ℕ) → SaysVector ports text number value → text ≡ binary read ++ 32 ∷ behind → read < 2 ^ 64 → (read ≡ value) × (behind ≡ code number)
vector_parts {number = number} {value = value} read behind vector is small =
    let parts = blank_once (binary read) (binary value) behind (code number) (binary_digits read) (binary_digits value) (sym is ∙ vector.text_is) in
    (binary_injective read value small (vector_small vector) parts.0, parts.1)

pub vector_code : {ports : List Port} {text : List ℕ} {number value : ℕ} (read : ℕ) (behind : List ℕ) → SaysVector ports text number value → text ≡ binary read ++ 32 ∷ behind → behind ≡ code number
vector_code {number = number} {value = value} read behind vector is = (blank_once (binary read) (binary value) behind (code number) (binary_digits read) (binary_digits value) (sym is ∙ vector.text_is)).1

pub vector_port : {ports : List Port} {text : List ℕ} {number value : ℕ} (read : ℕ) (behind : List ℕ) (other : ℕ) (port : Port) → SaysVector ports text number value → text ≡ binary read ++ 32 ∷ behind → read < 2 ^ 64
    → behind ≡ code other → other < length ports → port ≡ get_or ports other port → (port.width.bits ≢ 1) × (read < 2 ^ port.width.bits)
vector_port {ports = ports} {number = number} {value = value} read behind other port vector is small coded lt at =
    let parts = vector_parts read behind vector is small in
    let same : number ≡ other = code_injective number other (sym parts.1 ∙ coded) in
    let there : vector.port ≡ port = at_place ports other port vector.port at lt (ap (slice_get ports) (sym same) ∙ vector.at) in
    (λ e. vector.wide (ap (λ (p : Port). p.width.bits) there ∙ e), subst (λ (p : Port). read < 2 ^ p.width.bits) there (subst (λ (n : ℕ). n < 2 ^ vector.port.width.bits) (sym parts.0) vector.fits))

-- a value is its residue exactly where it fits
pub residue_fits : {r : ℕ} (bits value : ℕ) → r ≡ residue bits value → r ≡ value → value < 2 ^ bits
residue_fits bits value e same = subst (λ (n : ℕ). n < 2 ^ bits) (sym e ∙ same) (mod-lt value (pow_pos bits))

pub residue_same : {r : ℕ} (bits value : ℕ) → r ≡ residue bits value → value < 2 ^ bits → r ≡ value
residue_same bits value e fits = e ∙ mod-eq_of_lt fits

-- ---- the line of a change

pub says_line : {ports : List Port} {line : List ℕ} {number value : ℕ} → Says ports line number value → (front : List ℕ) × (line ≡ front ++ codes "\n")
says_line says = elim (says_cases says) [
  | inl one ↦ (one.0, one.1)
  | inr one ↦ (98 ∷ one.0, one.1)
]

pub says_vector : {ports : List Port} {line : List ℕ} {number value : ℕ} (text behind : List ℕ) → line ≡ text ++ codes "\n" → text ≡ 98 ∷ behind → Says ports line number value → SaysVector ports behind number value
says_vector {ports = ports} {number = number} {value = value} text behind is first says = elim (says_cases says) [
  | inl one ↦ absurd (bit_first one.2 (append_cancel_right one.0 text (codes "\n") (sym one.1 ∙ is) ∙ first))
  | inr one ↦ subst (λ (t : List ℕ). SaysVector ports t number value) (same_tail 98 98 one.0 behind (append_cancel_right (98 ∷ one.0) text (codes "\n") (sym one.1 ∙ is) ∙ first)) one.2
]

pub says_bit : {ports : List Port} {line : List ℕ} {number value : ℕ} (text : List ℕ) → line ≡ text ++ codes "\n" → ((behind : List ℕ) → text ≢ 98 ∷ behind) → Says ports line number value → SaysBit ports text number value
says_bit {ports = ports} {number = number} {value = value} text is other says = elim (says_cases says) [
  | inl one ↦ subst (λ (t : List ℕ). SaysBit ports t number value) (append_cancel_right one.0 text (codes "\n") (sym one.1 ∙ is)) one.2
  | inr one ↦ absurd (other one.0 (append_cancel_right text (98 ∷ one.0) (codes "\n") (sym is ∙ one.1)))
]
