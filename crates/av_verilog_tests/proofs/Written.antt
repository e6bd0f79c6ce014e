-- Facts on lists that are written out, by tests that compute.
use Rattle.std.proofs.Common.{◌≡◌, ℕ, ◌≤◌, Bool, true, false, not, ◌&&◌, List, [], ◌∷◌, get_or}
use Rattle.std.specs.Prelude.{All, Contains}
use Rattle.std.specs.List.{list_all}
use Rattle.std.proofs.lemmas.List.Elements.{All-from_recursion}
use Rattle.std.proofs.lemmas.List.Sums.{AllPass-from_list_all}
use Rattle.av_base.specs.Tokens.{is_word_byte}
use Rattle.av_base.proofs.Tables.{is_found}
use Rattle.av_base.proofs.Truths.{both}
use Rattle.av_net.specs.declared.netlist.Port.{Port}
use Rattle.av_net.specs.declared.operation.Operand.{Operand}
use Rattle.av_net.specs.declared.operation.Operand.TheVariants.{Name, Literal}
use Rattle.av_net.specs.Names.{IsAmong}
use Rattle.av_net.specs.Lexemes.{begins_name, reserved_words, IsName}
use Rattle.av_net.specs.Rows.{is_in}
use Rattle.av_net.proofs.Tested.{is_among, contains_tested}

pub all_one : {X : Type 0} (P : X → Type 0) (x : X) → P x → All P (x ∷ [])
all_one P x p = All-from_recursion P (x ∷ []) (p, tt)

pub all_two : {X : Type 0} (P : X → Type 0) (x y : X) → P x → P y → All P (x ∷ y ∷ [])
all_two P x y p q = All-from_recursion P (x ∷ y ∷ []) (p, (q, tt))

pub all_three : {X : Type 0} (P : X → Type 0) (x y z : X) → P x → P y → P z → All P (x ∷ y ∷ z ∷ [])
all_three P x y z p q r = All-from_recursion P (x ∷ y ∷ z ∷ []) (p, (q, (r, tt)))

-- what holds of each item that passes a test
each_passing : {X : Type 0} (P : X → Type 0) (test : X → Bool) → ((x : X) → test x ≡ true → P x) → (xs : List X) → list_all test xs ≡ true → All P xs
each_passing P test holds xs passed k d lt = holds (get_or xs k d) (AllPass-from_list_all test xs passed k d lt)

pub are_among : (names texts : List (List ℕ)) → list_all (is_among names) texts ≡ true → All (Contains names) texts
are_among names texts passed = each_passing (Contains names) (is_among names) (contains_tested names) texts passed

-- ---- operands

abbrev pub is_known : List (List ℕ) → Operand → Bool
is_known names (Name name) = is_among names name
is_known names (Literal width value) = true

known : (names : List (List ℕ)) (operand : Operand) → is_known names operand ≡ true → IsAmong names operand
known names (Name name) passed = contains_tested names name passed
known names (Literal width value) passed = tt

pub are_known : (names : List (List ℕ)) (operands : List Operand) → list_all (is_known names) operands ≡ true → All (IsAmong names) operands
are_known names operands passed = each_passing (IsAmong names) (is_known names) (known names) operands passed

-- ---- names of the grammar

abbrev pub is_name : List ℕ → Bool
is_name [] = false
is_name (b ∷ bytes) = (begins_name b && list_all is_word_byte bytes) && not (is_in reserved_words (b ∷ bytes))

pub named : (text : List ℕ) → is_name text ≡ true → IsName text
named [] passed = absurd cc
named (b ∷ bytes) passed =
    let parts = both (begins_name b && list_all is_word_byte bytes) (not (is_in reserved_words (b ∷ bytes))) passed in
    let spelled = both (begins_name b) (list_all is_word_byte bytes) parts.0 in
    ((spelled.0, AllPass-from_list_all is_word_byte bytes spelled.1), λ reserved. other (is_in reserved_words (b ∷ bytes)) parts.1 (is_found (b ∷ bytes) reserved_words reserved))
  where
    other : (t : Bool) → not t ≡ true → t ≡ true → ⊥
    other true n e = cc
    other false n e = cc

pub are_named : (texts : List (List ℕ)) → list_all is_name texts ≡ true → All IsName texts
are_named texts passed = each_passing IsName is_name named texts passed

-- ---- widths

pub are_wide : (ports : List Port) → All (λ port. (1 ≤ port.width.bits) × (port.width.bits ≤ 64)) ports
are_wide ports k d lt = ((get_or ports k d).width.least, (get_or ports k d).width.most)
