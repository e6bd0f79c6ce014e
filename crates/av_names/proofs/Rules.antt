-- The first of rules, where those before it find nothing.
use Rattle.std.proofs.Common.{◌≡◌, List, [], ◌∷◌, ◌++◌, Option, Some, None, option_map, ap, sym, ◌∙◌}
use Rattle.std.specs.Prelude.{find, not}
use Rattle.av_tree.specs.Rows.{is_index}
use Rattle.av_tree.specs.Trees.{Text}
use Rattle.av_names.specs.declared.fault.NameFault.{NameFault}
use Rattle.av_names.specs.declared.found.Found.{Found as FoundMade}
use Rattle.av_names.specs.Found.{Found}
use Rattle.av_names.specs.Refusals.{first_rule}
use Rattle.av_names.specs.inner.Seen.{found, SameNames}
use Rattle.av_names.proofs.Lists.{find_same}

-- the rule finds this
pub rule_found : {A : Type 0} (g : A → NameFault) (o : Option A) (rest : List (Option NameFault)) (x : A) (m : Option NameFault) → o ≡ Some x → m ≡ Some (g x) → m ≡ first_rule (option_map g o ∷ rest)
rule_found g o rest x m is em = em ∙ ap (λ p. first_rule (option_map g p ∷ rest)) (sym is)

-- the rule finds nothing
pub rule_passed : {A : Type 0} (g : A → NameFault) (o : Option A) (rest : List (Option NameFault)) (m : Option NameFault) → o ≡ None → m ≡ first_rule rest → m ≡ first_rule (option_map g o ∷ rest)
rule_passed g o rest m is em = em ∙ ap (λ p. first_rule (option_map g p ∷ rest)) (sym is)

-- the answer of a rule alone
pub rule_is : (o : Option NameFault) (rest : List (Option NameFault)) (f : NameFault) → Some f ≡ o → Some f ≡ first_rule (o ∷ rest)
rule_is o rest f is = ap (λ p. first_rule (p ∷ rest)) is

pub rule_none : (o : Option NameFault) (rest : List (Option NameFault)) (m : Option NameFault) → None ≡ o → m ≡ first_rule rest → m ≡ first_rule (o ∷ rest)
rule_none o rest m is em = em ∙ ap (λ p. first_rule (p ∷ rest)) is

pub rule_last : (o m : Option NameFault) → m ≡ o → m ≡ first_rule (o ∷ [])
rule_last None m e = e
rule_last (Some f) m e = e

-- what was found, by what the program found
pub something : (x : FoundMade) (made : Option FoundMade) (o : Option Found) → option_map found made ≡ o → made ≡ Some x → o ≡ Some (found x)
something x made o seen is = sym seen ∙ ap (option_map found) is

pub nothing : (made : Option FoundMade) (o : Option Found) → option_map found made ≡ o → made ≡ None → o ≡ None
nothing made o seen is = sym seen ∙ ap (option_map found) is

-- ---- groups of rules

-- a group that gives a fault
pub group_found : (rules rest : List (Option NameFault)) (f : NameFault) → Some f ≡ first_rule rules → Some f ≡ first_rule (rules ++ rest)
group_found [] rest f e = absurd cc
group_found (None ∷ rules) rest f e = group_found rules rest f e
group_found (Some g ∷ rules) rest f e = e

-- one that gives none
pub group_passed : (rules rest : List (Option NameFault)) (m : Option NameFault) → None ≡ first_rule rules → m ≡ first_rule rest → m ≡ first_rule (rules ++ rest)
group_passed [] rest m e em = em
group_passed (None ∷ rules) rest m e em = group_passed rules rest m e em
group_passed (Some g ∷ rules) rest m e em = absurd cc

-- ---- sizes

-- the first name that is in no set of these names
pub outside_is : (set others names : List Text) → SameNames set others → find (λ n. not (is_index set n)) names ≡ find (λ n. not (is_index others n)) names
outside_is set others names same = find_same (λ n. not (is_index set n)) (λ n. not (is_index others n)) names (λ n. ap not (same n))
