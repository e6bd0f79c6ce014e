-- The words of input ports and registers of a sound module settle: the drives are taken in order.
use Rattle.std.proofs.Common.{◌≡◌, ◌≢◌, ℕ, List, [], ◌∷◌, ◌++◌, refl, sym, ◌∙◌, subst, arith, Bool, true, false, if◌then◌else◌, append_assoc, inl, inr}
use Rattle.std.specs.Prelude.{Contains}
use Rattle.std.specs.List.{AllByRecursion}
use Rattle.std.specs.Str.{bytes_eq}
use Rattle.std.proofs.lemmas.Slice.Eq.{bytes_eq-Decides}
use Rattle.std.proofs.lemmas.List.Elements.{All-contains, All-from_recursion, Contains-append_left, Contains-append_right, Contains-append_cases, Contains-push}
use Rattle.av_net.specs.declared.netlist.Drive.{Drive}
use Rattle.av_net.specs.declared.netlist.Module.{Module}
use Rattle.av_net.specs.Meaning.{Words, Widths, result_of}
use Rattle.av_net.specs.Names.{AreDistinct, clk, rst, targets_of, registers_of, given_names, wire_names, all_names, width_of}
use Rattle.av_net.specs.Settled.{Holds, Settled, Agree}
use Rattle.av_net.specs.Sound.{IsSound, IsInOrder}
use Rattle.av_net.specs.Laws.{HasSettled}
use Rattle.av_net.proofs.Distinct.{apart, front_distinct, rest_distinct, append_distinct}
use Rattle.av_net.proofs.Once.{agree_by, same_result}

-- the words with one changed
pub with_word : Words → List ℕ → ℕ → Words
with_word v name word other = if bytes_eq other name then word else v other

-- at the changed name
pub with_word_same : (v : Words) (name : List ℕ) (word : ℕ) → with_word v name word name ≡ word
unfolding with_word
with_word_same v name word = let e : bytes_eq name name ≡ true = (bytes_eq-Decides name name).1 refl in rw e

-- the test of names that differ
pub not_equal : (a b : List ℕ) → a ≢ b → bytes_eq a b ≡ false
not_equal a b ne = by_cases (bytes_eq a b) (λ t. ne ((bytes_eq-Decides a b).0 t))
  where
    by_cases : (test : Bool) → (test ≡ true → ⊥) → test ≡ false
    by_cases true h = absurd (h refl)
    by_cases false h = refl

-- at another name
pub with_word_other : (v : Words) (name : List ℕ) (word : ℕ) (other : List ℕ) → other ≢ name → with_word v name word other ≡ v other
unfolding with_word
with_word_other v name word other ne = rw (not_equal other name ne)

-- each drive drives a name that is not known before
abbrev pub AreNew : List (List ℕ) → List Drive → Type 0
AreNew known [] = Unit {0}
AreNew known (drive ∷ drives) = (Contains known drive.target → ⊥) × AreNew (known ++ drive.target ∷ []) drives

-- from a list of distinct names
are_new : (known : List (List ℕ)) (drives : List Drive) → AreDistinct (known ++ targets_of drives) → AreNew known drives
are_new known [] distinct = tt
are_new known (drive ∷ drives) distinct = (
  λ at. apart known (targets_of (drive ∷ drives)) drive.target distinct at (0, omega arith, refl),
  are_new (known ++ drive.target ∷ []) drives (rw append_assoc distinct),
)

-- the names of a sound module are distinct
pub names_distinct : (m : Module) → IsSound m → AreDistinct (all_names m)
names_distinct m sound = rest_distinct (clk ∷ rst ∷ []) (all_names m) sound.declared_once

-- no name is given and driven, or given twice, or driven twice
pub given_once : (m : Module) → IsSound m → AreDistinct (given_names m ++ targets_of m.drives)
given_once m sound =
    let names = names_distinct m sound in
    let targets : AreDistinct (targets_of m.drives) = front_distinct (targets_of m.drives) (registers_of m.steps) sound.driven_once in
    append_distinct (given_names m) (targets_of m.drives) (front_distinct (given_names m) (wire_names m) names) targets
    (λ name given driven. apart (given_names m) (wire_names m) name names given (All-contains (Contains (wire_names m)) (targets_of m.drives) name sound.drives_wires driven))

-- each name is given or driven
pub given_or_driven : (m : Module) → IsSound m → (name : List ℕ) → Contains (all_names m) name → Contains (given_names m ++ targets_of m.drives) name
given_or_driven m sound name at = elim (Contains-append_cases (given_names m) (wire_names m) name at) [
  | inl given ↦ Contains-append_left (given_names m) (targets_of m.drives) name given
  | inr wire ↦ Contains-append_right (given_names m) (targets_of m.drives) name (All-contains (Contains (targets_of m.drives)) (wire_names m) name sound.wires_driven wire)
]

-- no drive drives an input port or a register, or what another one drives
pub driven_new : (m : Module) → IsSound m → AreNew (given_names m) m.drives
driven_new m sound = are_new (given_names m) m.drives (given_once m sound)

-- the words after all drives, taken in order
abbrev pub settle_from : Widths → Words → List Drive → Words
settle_from widths v [] = v
settle_from widths v (drive ∷ drives) = settle_from widths (with_word v drive.target (result_of widths v drive.operation)) drives

-- what is known keeps its word
pub kept : (widths : Widths) (known : List (List ℕ)) (drives : List Drive) (v : Words) → AreNew known drives → (name : List ℕ) → Contains known name → settle_from widths v drives name ≡ v name
kept widths known [] v new name at = refl
kept widths known (drive ∷ drives) v new name at =
    kept widths (known ++ drive.target ∷ []) drives (with_word v drive.target (result_of widths v drive.operation)) new.1 name (Contains-append_left known (drive.target ∷ []) name at)
    ∙ with_word_other v drive.target (result_of widths v drive.operation) name (λ e. new.0 (subst (Contains known) e at))

-- each drive holds in the end
pub settles : (widths : Widths) (known : List (List ℕ)) (drives : List Drive) (v : Words) → IsInOrder known drives → AreNew known drives → AllByRecursion (Holds widths (settle_from widths v drives)) drives
settles widths known [] v order new = tt
settles widths known (drive ∷ drives) v order new =
    let word = result_of widths v drive.operation in
    let next = with_word v drive.target word in
    let final = settle_from widths next drives in
    let same : Agree known v final = agree_by known v final (λ name at. sym (kept widths known (drive ∷ drives) v new name at)) in
    let given : final drive.target ≡ word = kept widths (known ++ drive.target ∷ []) drives next new.1 drive.target (Contains-push known drive.target) ∙ with_word_same v drive.target word in (
      given ∙ same_result widths known v final drive.operation same order.0,
      settles widths (known ++ drive.target ∷ []) drives next order.1 new.1,
    )

-- the words that a module's drives give
abbrev pub settled_of : Module → Words → Words
settled_of m given = settle_from (width_of m) given m.drives

-- a sound module is settled by its drives in order
pub is_settled : (m : Module) → IsSound m → (given : Words) → Settled m (settled_of m given)
is_settled m sound given = All-from_recursion (Holds (width_of m) (settled_of m given)) m.drives (settles (width_of m) (given_names m) m.drives given sound.in_order (driven_new m sound))

-- with the given words of input ports and registers
pub as_given : (m : Module) → IsSound m → (given : Words) (name : List ℕ) → Contains (given_names m) name → settled_of m given name ≡ given name
as_given m sound given name at = kept (width_of m) (given_names m) m.drives given (driven_new m sound) name at

-- so any words settle
pub has_settled : HasSettled
has_settled m sound given = (settled_of m given, is_settled m sound given, agree_by (given_names m) (settled_of m given) given (as_given m sound given))
