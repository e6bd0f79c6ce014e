-- Sets of names against lists of names.
use Rattle.std.proofs.Common.{◌≡◌, ℕ, ◌+◌, ◌<◌, length, get_or, take, take-suc, add-one, List, [], ◌∷◌, ◌++◌, Bool, true, false, ◌||◌, if◌then◌else◌, refl, ap, sym, ◌∙◌}
use Rattle.std.specs.Prelude.{bytes_eq}
use Rattle.std.specs.List.{list_any}
use Rattle.av_table.proofs.Entered.{any_entered}
use Rattle.av_tree.specs.Trees.{Text}
use Rattle.av_tree.specs.Rows.{is_index}
use Rattle.av_names.specs.inner.Seen.{SameNames}
use Rattle.std.proofs.lemmas.Slice.Eq.{bytes_eq-Decides}
use Rattle.av_base.proofs.Truths.{same_truth}

pub same_text : (a b : Text) → bytes_eq a b ≡ bytes_eq b a
same_text a b = same_truth (bytes_eq a b) (bytes_eq b a)
    (λ e. (bytes_eq-Decides b a).1 (sym ((bytes_eq-Decides a b).0 e)))
    (λ e. (bytes_eq-Decides a b).1 (sym ((bytes_eq-Decides b a).0 e)))

-- a name that is looked for
pub listed : (name : Text) (names : List Text) → list_any (bytes_eq name) names ≡ is_index names name
listed name [] = refl
listed name (n ∷ names) = rw (same_text name n, listed name names) refl

or_swap : (a b : Bool) → (a || b) ≡ (b || a)
or_swap true true = refl
or_swap true false = refl
or_swap false true = refl
or_swap false false = refl

-- one more name in a set
pub put_as : (names : List Text) (added name : Text) → is_index (if list_any (bytes_eq added) names then names else (names ++ added ∷ [])) name ≡ (bytes_eq added name || is_index names name)
put_as names added name =
    sym (listed name (if list_any (bytes_eq added) names then names else (names ++ added ∷ []))) ∙ any_entered names added name ∙ or_swap (list_any (bytes_eq name) names) (bytes_eq name added)
    ∙ ap (λ t. t || list_any (bytes_eq name) names) (same_text name added) ∙ ap (λ t. bytes_eq added name || t) (listed name names)

or_assoc : (a b c : Bool) → ((a || b) || c) ≡ (a || (b || c))
or_assoc true b c = refl
or_assoc false b c = refl

index_append : (names others : List Text) (name : Text) → is_index (names ++ others) name ≡ (is_index names name || is_index others name)
index_append [] others name = refl
index_append (n ∷ names) others name = rw (index_append names others name, or_assoc (bytes_eq n name) (is_index names name) (is_index others name)) refl

or_false : (b : Bool) → (b || false) ≡ b
or_false true = refl
or_false false = refl

-- one more name of a list
pub one_more : (names set set' : List Text) (i : ℕ) (item : Text) → i < length names → item ≡ get_or names i item
    → ((name : Text) → is_index set' name ≡ (bytes_eq item name || is_index set name)) → SameNames set (take i names) → SameNames set' (take (i + 1) names)
one_more names set set' i item lt at more same name =
    let split : take (i + 1) names ≡ take i names ++ item ∷ [] = rw (add-one, take-suc names i item lt, sym at) refl in
    more name ∙ ap (λ b. bytes_eq item name || b) (same name) ∙ or_swap (bytes_eq item name) (is_index (take i names) name)
    ∙ ap (λ b. is_index (take i names) name || b) (sym (or_false (bytes_eq item name)))
    ∙ sym (index_append (take i names) (item ∷ []) name) ∙ ap (λ ns. is_index ns name) (sym split)
