-- A case of the program's tree, by the list of its branches, and its parts.
use Rattle.std.proofs.Common.{◌≡◌, List, [], ◌∷◌, ◌++◌, map, Bool, refl, ap, sym, ◌∙◌, append_assoc, append-nil, ℕ, ◌+◌, ◌<◌, length, get_or, take, take-suc, add-one}
use Rattle.std.proofs.lemmas.List.{map-append}
use Rattle.av_base.specs.declared.place.Place.{Place}
use Rattle.av_tree.specs.declared.expression.Expr.{Expr, Row_of-Expr, end_of-Expr, more_of-Expr, items-the_row-Expr, items_hidden-the_row-Expr-0}
use Rattle.av_tree.specs.declared.expression.Expr.TheBlock.{hidden-the_row-Expr-0}
use Rattle.av_tree.specs.declared.expression.Expr.TheVariants as expr
use Rattle.av_tree.specs.Trees.{cases, more, view, view_row, view_all}
use Rattle.av_names.specs.declared.part.Part.{Part as PartMade}
use Rattle.av_names.specs.Forms.{Context}
use Rattle.av_names.specs.Parts.{Part, parts_of, parts_of_all}
use Rattle.av_names.specs.inner.Seen.{part, context}

-- a row of branches, read as a list
view_row_is : (n : _) (row : Row_of-Expr n) → view_row row ≡ view_all (items-the_row-Expr n row)
view_row_is _ end_of-Expr = refl
view_row_is _ (more_of-Expr e rest) = ap (more (view e)) (view_row_is _ rest)

pub view_case : (es : List Expr) (place : Place) → view (expr.Case es place) ≡ cases (view_all es) place
view_case es place = ap (λ branches. cases branches place) (view_row_is _ (hidden-the_row-Expr-0 es) ∙ ap view_all (items_hidden-the_row-Expr-0 es))

pub parts_append : (reduced : Bool) (c : Context) (es fs : List Expr)
    → parts_of_all reduced c (view_all (es ++ fs)) ≡ parts_of_all reduced c (view_all es) ++ parts_of_all reduced c (view_all fs)
parts_append reduced c [] fs = refl
parts_append reduced c (e ∷ es) fs =
    ap (λ (ps : List Part). parts_of reduced c (view e) ++ ps) (parts_append reduced c es fs)
    ∙ sym (append_assoc (parts_of reduced c (view e)) (parts_of_all reduced c (view_all es)) (parts_of_all reduced c (view_all fs)))

-- a case that was put behind the others, and then its branches
pub case_parts : (old pushed new : List PartMade) (p : PartMade) (es : List Expr) (e : Expr) (place : Place) → e ≡ expr.Case es place → pushed ≡ old ++ p ∷ []
    → part p ≡ record { context = context p.context; reduced = p.reduced; expression = view e }
    → map part new ≡ map part pushed ++ parts_of_all p.reduced (context p.context) (view_all es) → map part new ≡ map part old ++ parts_of p.reduced (context p.context) (view e)
case_parts old pushed new p es e place is put at all =
    let seen : view e ≡ cases (view_all es) place = ap view is ∙ view_case es place in
    let first : map part pushed ≡ map part old ++ part p ∷ [] = ap (map part) put ∙ map-append part old (p ∷ []) in
    all ∙ ap (λ (ps : List Part). ps ++ parts_of_all p.reduced (context p.context) (view_all es)) first
    ∙ append_assoc (map part old) (part p ∷ []) (parts_of_all p.reduced (context p.context) (view_all es))
    ∙ ap (λ (q : Part). map part old ++ (q ∷ parts_of_all p.reduced (context p.context) (view_all es)))
    (at ∙ ap (λ x. record { context = context p.context; reduced = p.reduced; expression = x }) seen)
    ∙ ap (λ x. map part old ++ parts_of p.reduced (context p.context) x) (sym seen)

-- one more branch
pub one_more_branch : (old so_far new : List PartMade) (reduced : Bool) (c : Context) (branches : List Expr) (i : ℕ) (e : Expr) → i < length branches → e ≡ get_or branches i e
    → map part so_far ≡ map part old ++ parts_of_all reduced c (view_all (take i branches)) → map part new ≡ map part so_far ++ parts_of reduced c (view e)
    → map part new ≡ map part old ++ parts_of_all reduced c (view_all (take (i + 1) branches))
one_more_branch old so_far new reduced c branches i e lt at before now =
    let split : take (i + 1) branches ≡ take i branches ++ e ∷ [] = rw (add-one, take-suc branches i e lt, sym at) refl in
    let one : parts_of_all reduced c (view_all (e ∷ [])) ≡ parts_of reduced c (view e) = append-nil (parts_of reduced c (view e)) in
    now ∙ ap (λ (ps : List Part). ps ++ parts_of reduced c (view e)) before
    ∙ append_assoc (map part old) (parts_of_all reduced c (view_all (take i branches))) (parts_of reduced c (view e))
    ∙ ap (λ (ps : List Part). map part old ++ ps)
    (ap (λ (ps : List Part). parts_of_all reduced c (view_all (take i branches)) ++ ps) (sym one)
    ∙ sym (parts_append reduced c (take i branches) (e ∷ [])) ∙ ap (λ es. parts_of_all reduced c (view_all es)) (sym split))
