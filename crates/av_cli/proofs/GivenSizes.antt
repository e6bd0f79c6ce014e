-- The sizes of words that a command was read from.
use Rattle.std.proofs.Common.{◌≡◌, inl, inr, ℕ, List, [], ◌∷◌, ◌++◌, drop, ◌+◌, IsTrue, refl, sym, ap, subst, ◌∙◌, arith}
use Rattle.std.specs.Prelude.{codes}
use Rattle.std.specs.Char.{is_ascii_alphabetic, is_ascii_digit}
use Rattle.std.specs.List.{AllByRecursion}
use Rattle.std.proofs.lemmas.Bool.Decides.{nat_tests}
use Rattle.av_base.specs.Tokens.{IsDigits}
use Rattle.av_names.specs.declared.size.Size.{Size}
use Rattle.av_commands.specs.SizeWords.{IsSize, size_of, GiveSizes, no_more, given, passed}
use Rattle.av_cli.specs.Commands.{Options, Say, nothing, width, box, size, sizes, IsOption, no_options, given_or, default_width, default_box, Asks, IsCheck}
use Rattle.av_cli.proofs.OptionWords.{head, letter_first, no_size, width_head, box_head, dashes_head, one_said}
use Rattle.av_commands.proofs.SizeWords.{text_is, one_size}
use Rattle.av_commands.proofs.GivenSizes.{Give, past}

-- ---- words that are read give sizes

no_digit : (b : ℕ) → IsTrue (is_ascii_digit b) → IsTrue (is_ascii_alphabetic b) → ⊥
no_digit b digit letter = grind (arith, nat_tests)

digit_first : (digits : List ℕ) → IsDigits digits → IsTrue (is_ascii_digit (head digits))
unfolding head
digit_first [] digits = absurd digits
digit_first (b ∷ bytes) digits = digits.0

-- the value of an option is no size
no_number : (digits : List ℕ) → IsDigits digits → IsSize digits → ⊥
no_number digits spelled is = no_digit (head digits) (digit_first digits spelled) (letter_first is.name (codes "=" ++ is.text) digits is.named.0 is.parts)

past_option : (name : List ℕ) (words : List (List ℕ)) (digits : List ℕ) (rest : List (List ℕ)) → ((w : List ℕ) (ws : List (List ℕ)) → IsOption name (w ∷ ws) digits rest → head w ≡ 45) → IsDigits digits
    → IsOption name words digits rest → Give rest → Give words
past_option name words digits rest dash spelled (inl e) give =
    subst Give (sym e) (past name (digits ∷ rest) (no_size name (dash name (digits ∷ rest) (inl refl))) (past digits rest (no_number digits spelled) give))
past_option name words digits rest dash spelled (inr e) give =
    let w : List ℕ = name ++ (codes "=" ++ digits) in
    subst Give (sym e) (past w rest (no_size w (dash w rest (inr refl))) give)

all_give : (words : List (List ℕ)) → AllByRecursion IsSize words → Give words
all_give [] all = ([], no_more)
all_give (w ∷ words) (is, all) = let (later, give) = all_give words all in (size_of is ∷ later, given is give)

-- words that options and sizes are read from give sizes
pub said_give : (o p : Options) (words : List (List ℕ)) → Say o words p → Give words
said_give o p [] nothing = ([], no_more)
said_give o p words (width {rest = rest} {digits = digits} {n = n} none option spelled say) =
    past_option (codes "--width") words digits rest (λ w ws at. width_head w ws digits rest at) spelled.spelled option (said_give _ p rest say)
said_give o p words (box {rest = rest} {digits = digits} {n = n} none option spelled say) =
    past_option (codes "--box") words digits rest (λ w ws at. box_head w ws digits rest at) spelled.spelled option (said_give _ p rest say)
said_give o p (w ∷ rest) (size is say) = let (later, give) = said_give o p rest say in (size_of is ∷ later, given is give)
said_give o p (w ∷ rest) (sizes dashes all) = past w rest (no_size w (dashes_head w dashes)) (all_give rest all)

-- ---- reading them in order

-- words give one list of sizes
pub one_list : (words : List (List ℕ)) (some others : List Size) → GiveSizes words some → GiveSizes words others → some ≡ others
one_list [] some others no_more no_more = refl
one_list (w ∷ words) some others (given {sizes = a} is give) (given {sizes = b} other give') =
    ap (λ x. x ∷ a) (one_size w is other) ∙ ap (λ xs. size_of other ∷ xs) (one_list words a b give give')
one_list (w ∷ words) some others (given is give) (passed none give') = absurd (none is)
one_list (w ∷ words) some others (passed none give) (given is give') = absurd (none is)
one_list (w ∷ words) some others (passed none give) (passed none' give') = one_list words some others give give'

-- ---- the command

-- the names of commands are no sizes
pub check_is_no_size : IsSize (codes "check") → ⊥
check_is_no_size is = let k = text_is (codes "check") is in cc

pub schedule_is_no_size : IsSize (codes "schedule") → ⊥
schedule_is_no_size is = let k = text_is (codes "schedule") is in cc

pub table_is_no_size : IsSize (codes "table") → ⊥
table_is_no_size is = let k = text_is (codes "table") is in cc

pub emit_is_no_size : IsSize (codes "emit") → ⊥
emit_is_no_size is = let k = text_is (codes "emit") is in cc

pub asked : (name : List ℕ) (words : List (List ℕ)) (bits reach : ℕ) (rest : List (List ℕ)) → (IsSize name → ⊥) → words ≡ name ∷ rest
    → ((o : Options) × Say no_options (drop 1 words) o × (bits ≡ given_or default_width o.width) × (reach ≡ given_or default_box o.box)) → (found : List Size) × Asks name words bits reach found
asked name words bits reach rest none first (o, say, bits_are, box_is) =
    let same : drop 1 words ≡ rest = ap (λ (ws : List (List ℕ)). drop 1 ws) first in
    let say_rest : Say no_options rest o = subst (λ (ws : List (List ℕ)). Say no_options ws o) same say in
    let (found, give) = past name rest none (said_give no_options o rest say_rest) in
    (found, record { rest = rest; first = first; options = o; say = say_rest; bits_are = bits_are; box_is = box_is; give = subst (λ (ws : List (List ℕ)). GiveSizes ws found) (sym first) give })

pub check_read : (words : List (List ℕ)) (bits : ℕ) (rest : List (List ℕ)) → words ≡ codes "check" ∷ rest → ((o : Options) × Say no_options (drop 1 words) o × (bits ≡ given_or default_width o.width))
    → (found : List Size) × IsCheck words bits found
check_read words bits rest first (o, say, bits_are) =
    let (found, is) = asked (codes "check") words bits (given_or default_box o.box) rest check_is_no_size first (o, say, bits_are, refl) in
    (found, (given_or default_box o.box, is))

pub one_asked : (name : List ℕ) (words : List (List ℕ)) (m n b c : ℕ) (some others : List Size) → Asks name words m b some → Asks name words n c others → (m ≡ n) × (b ≡ c) × (some ≡ others)
one_asked name words m n b c some others x y =
    let same : x.rest ≡ y.rest = let k = sym x.first ∙ y.first in cc in
    let options : x.options ≡ y.options = one_said no_options x.options y.options y.rest (subst (λ (ws : List (List ℕ)). Say no_options ws x.options) same x.say) y.say in (
      x.bits_are ∙ (ap (λ (o : Options). given_or default_width o.width) options ∙ sym y.bits_are),
      x.box_is ∙ (ap (λ (o : Options). given_or default_box o.box) options ∙ sym y.box_is),
      one_list words some others x.give y.give,
    )

pub with_sizes : (name : List ℕ) (words : List (List ℕ)) (bits reach : ℕ) (found others : List Size) → Asks name words bits reach found → GiveSizes words others → Asks name words bits reach others
with_sizes name words bits reach found others is give = record { rest = is.rest; first = is.first; options = is.options; say = is.say; bits_are = is.bits_are; box_is = is.box_is; give = give }

pub run_is_no_size : IsSize (codes "run") → ⊥
run_is_no_size is = let k = text_is (codes "run") is in cc

pub trace_is_no_size : IsSize (codes "trace") → ⊥
trace_is_no_size is = let k = text_is (codes "trace") is in cc

pub best_is_no_size : IsSize (codes "best") → ⊥
best_is_no_size is = let k = text_is (codes "best") is in cc

pub stream_is_no_size : IsSize (codes "stream") → ⊥
stream_is_no_size is = let k = text_is (codes "stream") is in cc

pub run8_is_no_size : IsSize (codes "run8") → ⊥
run8_is_no_size is = let k = text_is (codes "run8") is in cc

pub wave_is_no_size : IsSize (codes "wave") → ⊥
wave_is_no_size is = let k = text_is (codes "wave") is in cc
