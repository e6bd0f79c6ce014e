-- The lines of a dump: what each tells is told by no other line.
use Rattle.std.proofs.Common.{◌≡◌, ◌≢◌, ℕ, ◌+◌, ◌<◌, ◌≤◌, ◌^◌, ◌⊎◌, inl, inr, List, [], ◌∷◌, ◌++◌, true, true≢false, refl, sym, ◌∙◌, ap, arith, subst, append_assoc}
use Rattle.std.specs.Prelude.{codes, decimal, not, nat_eq, IsTrue}
use Rattle.std.specs.Char.{is_ascii_digit}
use Rattle.std.specs.List.{AllByRecursion, list_all}
use Rattle.av_base.proofs.Truths.{both, not_true}
use Rattle.std.proofs.lemmas.Bool.{eqb-false, eq-eqb, ne_eqb, cases_eq, cases_lt}
use Rattle.std.proofs.lemmas.Nat.{pow_below}
use Rattle.std.proofs.lemmas.Fmt.{decimal_injective}
use Rattle.std.proofs.lemmas.List.{append_cancel_left, append_cancel_right}
use Rattle.std.proofs.lemmas.List.Elements.{recursion_from_All}
use Rattle.av_base.specs.Tokens.{is_word_byte}
use Rattle.av_base.specs.Words.{IsWord}
use Rattle.av_base.specs.declared.width.Width.{Width}
use Rattle.av_base.proofs.Lists.{same_head, same_tail, each_append}
use Rattle.av_base.proofs.Widths.{width_is}
use Rattle.av_net.specs.declared.netlist.Port.{Port}
use Rattle.av_net.specs.Lexemes.{begins_name, IsName}
use Rattle.av_wave.specs.Dumps.{timescale_line, scope_line, port_line, upscope_line, definitions_line, time_line, value_line, binary, code}
use Rattle.av_wave.specs.inner.Codes.{AreDigits}
use Rattle.av_wave.specs.inner.Stages.{Says, SaysBit, SaysVector}
use Rattle.av_wave.proofs.Codes.{code_injective, code_plain}
use Rattle.av_wave.proofs.Digits.{binary_injective, binary_digits, bit_digit, decimal_digits, blank_once}
use Rattle.av_wave.proofs.Lines.{IsPlain, IsLine}

-- ---- names

pub scope_once : (m n : List ℕ) → scope_line m ≡ scope_line n → m ≡ n
scope_once m n e = append_cancel_left (codes "$scope module ") m n (append_cancel_right (codes "$scope module " ++ m) (codes "$scope module " ++ n) (codes " $end\n") e)

-- ---- ports

pub port_is : (p q : Port) → p.name ≡ q.name → p.width ≡ q.width → p ≡ q
port_is p q e f =
    let made : List ℕ → Width → Port = λ n w. record { name = n; width = w } in
    ap (λ (n : List ℕ). made n p.width) e ∙ ap (λ (w : Width). made q.name w) f

-- what stands behind the width
abbrev pub port_rest : ℕ → List ℕ → List ℕ
port_rest number name = code number ++ 32 ∷ (name ++ codes " $end\n")

-- a line is what comes before the width, the width, and what stands behind it
pub port_parts : (number : ℕ) (p : Port) → port_line number p ≡ codes "$var wire " ++ (decimal p.width.bits ++ 32 ∷ port_rest number p.name)
port_parts number p = regroup (codes "$var wire ") (decimal p.width.bits) (code number) p.name (codes " $end\n")
  where
    regroup : (a b c d e : List ℕ) → a ++ b ++ (32 ∷ []) ++ c ++ (32 ∷ []) ++ d ++ e ≡ a ++ (b ++ 32 ∷ (c ++ 32 ∷ (d ++ e)))
    regroup a b c d e = simp append_assoc

pub small_width : (w : Width) → w.bits < 2 ^ 64
small_width w = let most : w.bits ≤ 64 = w.most in omega arith

pub port_once : (number : ℕ) (p q : Port) → port_line number p ≡ port_line number q → p ≡ q
port_once number p q e =
    let same : codes "$var wire " ++ (decimal p.width.bits ++ 32 ∷ port_rest number p.name) ≡ codes "$var wire " ++ (decimal q.width.bits ++ 32 ∷ port_rest number q.name) =
    sym (port_parts number p) ∙ e ∙ port_parts number q in
    let parts = blank_once (decimal p.width.bits) (decimal q.width.bits) (port_rest number p.name) (port_rest number q.name)
    (decimal_digits p.width.bits (small_width p.width)) (decimal_digits q.width.bits (small_width q.width)) (append_cancel_left (codes "$var wire ") _ _ same) in
    let bits : p.width.bits ≡ q.width.bits = decimal_injective p.width.bits q.width.bits (small_width p.width) (small_width q.width) parts.0 in
    let names : 32 ∷ (p.name ++ codes " $end\n") ≡ 32 ∷ (q.name ++ codes " $end\n") = append_cancel_left (code number) _ _ parts.1 in
    port_is p q (append_cancel_right p.name q.name (codes " $end\n") (same_tail 32 32 _ _ names)) (width_is p.width q.width bits)

-- the second byte of a line
abbrev second : List ℕ → ℕ
second (a ∷ b ∷ line) = b
second _ = 0

pub port_not_upscope : (number : ℕ) (p : Port) → port_line number p ≡ upscope_line → ⊥
port_not_upscope number p e = eqb-false 118 117 refl (ap second (sym (port_parts number p) ∙ e))

-- ---- changes

pub value_bit : (port : Port) (number value : ℕ) → port.width.bits ≡ 1 → value_line port number value ≡ (binary value ++ code number) ++ codes "\n"
value_bit port number value single = rw (eq-eqb port.width.bits 1 single) refl

pub value_vector : (port : Port) (number value : ℕ) → port.width.bits ≢ 1 → value_line port number value ≡ (98 ∷ (binary value ++ 32 ∷ code number)) ++ codes "\n"
value_vector port number value wide = rw (ne_eqb port.width.bits 1 wide) (regroup (binary value) (code number))
  where
    regroup : (b c : List ℕ) → ((98 ∷ []) ++ b ++ (32 ∷ [])) ++ c ++ codes "\n" ≡ (98 ∷ (b ++ 32 ∷ c)) ++ codes "\n"
    regroup b c = ap (λ front. front ++ codes "\n") (append_assoc ((98 ∷ []) ++ b) (32 ∷ []) c ∙ append_assoc (98 ∷ []) b (32 ∷ c))

-- a line of a change is a front of one of two forms, and a line feed
pub says_cases : {ports : List Port} {line : List ℕ} {number value : ℕ} → Says ports line number value
    → ((text : List ℕ) × (line ≡ text ++ codes "\n") × SaysBit ports text number value) ⊎ ((text : List ℕ) × (line ≡ (98 ∷ text) ++ codes "\n") × SaysVector ports text number value)
says_cases {number = number} {value = value} says = elim (cases_eq says.port.width.bits 1) [
  | inl single ↦ inl (
    binary value ++ code number,
    says.line_is ∙ value_bit says.port number value single,
    record {
      port = says.port;
      at = says.at;
      single = single;
      fits = subst (λ w. value < 2 ^ w) single says.fits;
      text_is = refl;
    },
  )
  | inr wide ↦ inr (
    binary value ++ 32 ∷ code number,
    says.line_is ∙ value_vector says.port number value wide,
    record {
      port = says.port;
      at = says.at;
      wide = wide;
      fits = says.fits;
      text_is = refl;
    },
  )
]

pub from_bit : {ports : List Port} {text line : List ℕ} {number value : ℕ} → line ≡ text ++ codes "\n" → SaysBit ports text number value → Says ports line number value
from_bit {number = number} {value = value} e bit = record {
  port = bit.port;
  at = bit.at;
  fits = subst (λ w. value < 2 ^ w) (sym bit.single) bit.fits;
  line_is = e ∙ ap (λ front. front ++ codes "\n") bit.text_is ∙ sym (value_bit bit.port number value bit.single);
}

pub from_vector : {ports : List Port} {text line : List ℕ} {number value : ℕ} → line ≡ (98 ∷ text) ++ codes "\n" → SaysVector ports text number value → Says ports line number value
from_vector {number = number} {value = value} e vector = record {
  port = vector.port;
  at = vector.at;
  fits = vector.fits;
  line_is = e ∙ ap (λ front. (98 ∷ front) ++ codes "\n") vector.text_is ∙ sym (value_vector vector.port number value vector.wide);
}

-- the text of a bit does not begin as that of a vector
pub bit_first : {ports : List Port} {text rest : List ℕ} {number value : ℕ} → SaysBit ports text number value → text ≡ 98 ∷ rest → ⊥
bit_first {rest = rest} {number = number} {value = value} bit e =
    let first : 48 + value ≡ 98 = same_head (48 + value) 98 (code number) rest (sym (bit.text_is ∙ ap (λ front. front ++ code number) (bit_digit value bit.fits)) ∙ e) in
    let small : value < 2 = bit.fits in
    absurd (omega arith)

-- a word has at most 64 bits
pub small_word : (w : Width) (value : ℕ) → IsWord w.bits value → value < 2 ^ 64
small_word w value fits = elim (cases_lt w.bits 64) [
  | inl lt ↦ (let below : 2 ^ w.bits < 2 ^ 64 = pow_below w.bits 64 lt in omega arith)
  | inr ge ↦ subst (λ n. value < 2 ^ n) (let most : w.bits ≤ 64 = w.most in let is : w.bits ≡ 64 = omega arith in is) fits
]

pub bit_once : {ports : List Port} {text : List ℕ} {m n v w : ℕ} → SaysBit ports text m v → SaysBit ports text n w → (m ≡ n) × (v ≡ w)
bit_once {m = m} {n = n} {v = v} {w = w} some other =
    let e : (48 + v) ∷ code m ≡ (48 + w) ∷ code n = sym (some.text_is ∙ ap (λ front. front ++ code m) (bit_digit v some.fits)) ∙ other.text_is ∙ ap (λ front. front ++ code n) (bit_digit w other.fits) in
    let first : 48 + v ≡ 48 + w = same_head _ _ _ _ e in
    (code_injective m n (same_tail _ _ _ _ e), omega arith)

pub vector_once : {ports : List Port} {text : List ℕ} {m n v w : ℕ} → SaysVector ports text m v → SaysVector ports text n w → (m ≡ n) × (v ≡ w)
vector_once {m = m} {n = n} {v = v} {w = w} some other =
    let parts = blank_once (binary v) (binary w) (code m) (code n) (binary_digits v) (binary_digits w) (sym some.text_is ∙ other.text_is) in
    (code_injective m n parts.1, binary_injective v w (small_word some.port.width v some.fits) (small_word other.port.width w other.fits) parts.0)

pub says_once : {ports : List Port} {line : List ℕ} {m n v w : ℕ} → Says ports line m v → Says ports line n w → (m ≡ n) × (v ≡ w)
says_once {ports} {line} {m} {n} {v} {w} some other = elim (says_cases some) [
  | inl one ↦ elim (says_cases other) [
    | inl two ↦ bit_once (subst (λ t. SaysBit ports t m v) (append_cancel_right one.0 two.0 (codes "\n") (sym one.1 ∙ two.1)) one.2) two.2
    | inr two ↦ absurd (bit_first one.2 (append_cancel_right one.0 (98 ∷ two.0) (codes "\n") (sym one.1 ∙ two.1)))
  ]
  | inr one ↦ elim (says_cases other) [
    | inl two ↦ absurd (bit_first two.2 (append_cancel_right two.0 (98 ∷ one.0) (codes "\n") (sym two.1 ∙ one.1)))
    | inr two ↦ vector_once (subst (λ t. SaysVector ports t m v) (same_tail 98 98 one.0 two.0 (append_cancel_right (98 ∷ one.0) (98 ∷ two.0) (codes "\n") (sym one.1 ∙ two.1))) one.2) two.2
  ]
]

-- ---- a line of a change begins no cycle

abbrev first : List ℕ → ℕ
first (a ∷ line) = a
first [] = 0

pub says_no_time : {ports : List Port} {line : List ℕ} {number value : ℕ} (cycle : ℕ) → Says ports line number value → line ≡ time_line cycle → ⊥
says_no_time {number = number} {value = value} cycle says e = elim (says_cases says) [
  | inl one ↦
      let bit = one.2 in
      let text : one.0 ≡ (48 + value) ∷ code number = bit.text_is ∙ ap (λ front. front ++ code number) (bit_digit value bit.fits) in
      let f : 48 + value ≡ 35 = ap first (ap (λ front. front ++ codes "\n") (sym text) ∙ sym one.1 ∙ e) in
      absurd (omega arith)
  | inr one ↦ eqb-false 98 35 refl (ap first (sym one.1 ∙ e))
]

-- ---- each line ends with one line feed

not_feed : (b : ℕ) → not (nat_eq b 10) ≡ true → b ≢ 10
not_feed b h e = eqb-false b 10 (not_true (nat_eq b 10) h) e

plain_test : (text : List ℕ) → list_all (λ b. not (nat_eq b 10)) text ≡ true → IsPlain text
plain_test [] h = tt
plain_test (b ∷ text) h = let parts = both (not (nat_eq b 10)) (list_all (λ b. not (nat_eq b 10)) text) h in (not_feed b parts.0, plain_test text parts.1)

digits_plain : (text : List ℕ) → AreDigits text → IsPlain text
digits_plain [] are = tt
digits_plain (b ∷ text) are = (λ e. true≢false (sym are.0 ∙ ap is_ascii_digit e), digits_plain text are.1)

words_plain : (text : List ℕ) → AllByRecursion (λ b. IsTrue (is_word_byte b)) text → IsPlain text
words_plain [] all = tt
words_plain (b ∷ text) all = (λ e. true≢false (sym all.0 ∙ ap is_word_byte e), words_plain text all.1)

name_plain : (name : List ℕ) → IsName name → IsPlain name
name_plain [] named = absurd named.0
name_plain (b ∷ name) named = (λ e. true≢false (sym named.0.0 ∙ ap begins_name e), words_plain name (recursion_from_All (λ b. IsTrue (is_word_byte b)) name named.0.1))

append_plain : (xs ys : List ℕ) → IsPlain xs → IsPlain ys → IsPlain (xs ++ ys)
append_plain xs ys = each_append (λ b. b ≢ 10) xs ys

pub timescale_whole : IsLine timescale_line
timescale_whole = record { text = codes "$timescale 1ns $end"; plain = plain_test (codes "$timescale 1ns $end") refl; whole = refl }

pub upscope_whole : IsLine upscope_line
upscope_whole = record { text = codes "$upscope $end"; plain = plain_test (codes "$upscope $end") refl; whole = refl }

pub definitions_whole : IsLine definitions_line
definitions_whole = record { text = codes "$enddefinitions $end"; plain = plain_test (codes "$enddefinitions $end") refl; whole = refl }

-- a text before the end of a line of the head
ended : (text : List ℕ) → IsPlain text → IsLine (text ++ codes " $end\n")
ended text plain = record {
  text = text ++ codes " $end";
  plain = append_plain text (codes " $end") plain (plain_test (codes " $end") refl);
  whole = sym (append_assoc text (codes " $end") (10 ∷ []));
}

pub scope_whole : (name : List ℕ) → IsName name → IsLine (scope_line name)
scope_whole name named = ended (codes "$scope module " ++ name) (append_plain (codes "$scope module ") name (plain_test (codes "$scope module ") refl) (name_plain name named))

pub port_whole : (number : ℕ) (port : Port) → IsName port.name → IsLine (port_line number port)
port_whole number port named =
    let bits = digits_plain (decimal port.width.bits) (decimal_digits port.width.bits (small_width port.width)) in
    let blank : IsPlain (codes " ") = plain_test (codes " ") refl in
    let front : List ℕ = codes "$var wire " ++ decimal port.width.bits in
    let one : IsPlain front = append_plain (codes "$var wire ") (decimal port.width.bits) (plain_test (codes "$var wire ") refl) bits in
    let two : IsPlain (front ++ codes " ") = append_plain front (codes " ") one blank in
    let three : IsPlain (front ++ codes " " ++ code number) = append_plain (front ++ codes " ") (code number) two (code_plain number) in
    let four : IsPlain (front ++ codes " " ++ code number ++ codes " ") = append_plain (front ++ codes " " ++ code number) (codes " ") three blank in
    ended (front ++ codes " " ++ code number ++ codes " " ++ port.name) (append_plain (front ++ codes " " ++ code number ++ codes " ") port.name four (name_plain port.name named))

pub time_whole : (cycle : ℕ) → cycle < 2 ^ 64 → IsLine (time_line cycle)
time_whole cycle small = record {
  text = codes "#" ++ decimal cycle;
  plain = append_plain (codes "#") (decimal cycle) (plain_test (codes "#") refl) (digits_plain (decimal cycle) (decimal_digits cycle small));
  whole = refl;
}

pub says_whole : {ports : List Port} {line : List ℕ} {number value : ℕ} → Says ports line number value → IsLine line
says_whole {line = line} {number = number} {value = value} says = elim (says_cases says) [
  | inl one ↦ record {
    text = one.0;
    plain = subst IsPlain (sym one.2.text_is) (append_plain (binary value) (code number) (digits_plain (binary value) (binary_digits value)) (code_plain number));
    whole = one.1;
  }
  | inr one ↦ record {
    text = 98 ∷ one.0;
    plain = ((λ e. absurd (omega arith)), subst IsPlain (sym one.2.text_is) (append_plain (binary value) (32 ∷ code number) (digits_plain (binary value) (binary_digits value)) ((λ e. absurd (omega arith)), code_plain number)));
    whole = one.1;
  }
]
