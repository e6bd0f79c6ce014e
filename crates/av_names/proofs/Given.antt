-- The names that the results of a map give, by sets of names.
use Rattle.std.proofs.Common.{◌≡◌, ℕ, ◌+◌, ◌<◌, List, [], ◌∷◌, length, get_or, drop, Option, Some, None, Bool, true, false, not, ◌&&◌, ◌||◌, refl, ap, sym, ◌∙◌}
use Rattle.std.specs.Prelude.{bytes_eq}
use Rattle.av_tree.specs.declared.domain.IndexExpr.{IndexExpr}
use Rattle.av_tree.specs.Trees.{Text}
use Rattle.av_tree.specs.Rows.{is_index}
use Rattle.av_names.specs.Reductions.{plain_name, gives_next, gives_names}
use Rattle.av_names.specs.inner.Seen.{SameNames}
use Rattle.av_base.proofs.Lists.{next_item}

and_false : (b : Bool) → (b && false) ≡ false
and_false true = refl
and_false false = refl

next_same : (names a b : List Text) (n : Option Text) (rest : List Text → Bool) → SameNames a b
    → ((x y : List Text) → SameNames x y → rest x ≡ rest y) → gives_next names a n rest ≡ gives_next names b n rest
next_same names a b None rest same later = refl
next_same names a b (Some n) rest same later =
    ap (λ t. is_index names n && (not t && rest (n ∷ a))) (same n)
    ∙ ap (λ t. is_index names n && (not (is_index b n) && t)) (later (n ∷ a) (n ∷ b) (λ name. ap (λ t. bytes_eq n name || t) (same name)))

gives_same : (names a b : List Text) (es : List IndexExpr) → SameNames a b → gives_names names a es ≡ gives_names names b es
gives_same names a b [] same = refl
gives_same names a b (e ∷ es) same = next_same names a b (plain_name e.terms) (λ given. gives_names names given es) same (λ x y. gives_same names x y es)

opened : (names before : List Text) (es : List IndexExpr) (i : ℕ) (e : IndexExpr) (n : Text) → i < length es → e ≡ get_or es i e → plain_name e.terms ≡ Some n
    → gives_names names before (drop i es) ≡ (is_index names n && (not (is_index before n) && gives_names names (n ∷ before) (drop (i + 1) es)))
opened names before es i e n lt at plain =
    ap (gives_names names before) (next_item es i e lt at) ∙ ap (λ p. gives_next names before p (λ given. gives_names names given (drop (i + 1) es))) plain

own_next : (names names' before : List Text) (n : Option Text) (rest rest' : List Text → Bool) → SameNames names names'
    → ((given : List Text) → rest given ≡ rest' given) → gives_next names before n rest ≡ gives_next names' before n rest'
own_next names names' before None rest rest' same later = refl
own_next names names' before (Some n) rest rest' same later =
    ap (λ t. t && (not (is_index before n) && rest (n ∷ before))) (same n)
    ∙ ap (λ t. is_index names' n && (not (is_index before n) && t)) (later (n ∷ before))

-- a result that is none of the names
pub gives_other : (names start before : List Text) (es : List IndexExpr) (i : ℕ) (e : IndexExpr) (n : Text) → i < length es → e ≡ get_or es i e → plain_name e.terms ≡ Some n
    → is_index names n ≡ false → gives_names names start es ≡ gives_names names before (drop i es) → false ≡ gives_names names start es
gives_other names start before es i e n lt at plain other so_far =
    sym (so_far ∙ opened names before es i e n lt at plain ∙ ap (λ t. t && (not (is_index before n) && gives_names names (n ∷ before) (drop (i + 1) es))) other)

-- a result that was given before
pub gives_twice : (names start before : List Text) (es : List IndexExpr) (i : ℕ) (e : IndexExpr) (n : Text) → i < length es → e ≡ get_or es i e → plain_name e.terms ≡ Some n
    → is_index before n ≡ true → gives_names names start es ≡ gives_names names before (drop i es) → false ≡ gives_names names start es
gives_twice names start before es i e n lt at plain there so_far =
    sym (so_far ∙ opened names before es i e n lt at plain ∙ ap (λ t. is_index names n && (not t && gives_names names (n ∷ before) (drop (i + 1) es))) there ∙ and_false (is_index names n))

-- one more result
pub gives_more : (names start before before' : List Text) (es : List IndexExpr) (i : ℕ) (e : IndexExpr) (n : Text) → i < length es → e ≡ get_or es i e → plain_name e.terms ≡ Some n
    → is_index names n ≡ true → is_index before n ≡ false → SameNames before' (n ∷ before) → gives_names names start es ≡ gives_names names before (drop i es)
    → gives_names names start es ≡ gives_names names before' (drop (i + 1) es)
gives_more names start before before' es i e n lt at plain own new more so_far =
    so_far ∙ opened names before es i e n lt at plain ∙ ap (λ t. t && (not (is_index before n) && gives_names names (n ∷ before) (drop (i + 1) es))) own
    ∙ ap (λ t. not t && gives_names names (n ∷ before) (drop (i + 1) es)) new ∙ gives_same names (n ∷ before) before' (drop (i + 1) es) (λ name. sym (more name))

-- the same names in another order
pub gives_own : (names names' before : List Text) (es : List IndexExpr) → SameNames names names' → gives_names names before es ≡ gives_names names' before es
gives_own names names' before [] same = refl
gives_own names names' before (e ∷ es) same = own_next names names' before (plain_name e.terms) (λ given. gives_names names given es) (λ given. gives_names names' given es) same (λ given. gives_own names names' given es same)
