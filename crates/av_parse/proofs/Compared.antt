-- Comparisons of lists, one member after the other.
use Rattle.std.proofs.Common.{◌≡◌, ℕ, ◌+◌, ◌<◌, List, [], ◌∷◌, ◌++◌, length, take, get_or, ap, refl, ◌∙◌, append_assoc}
use Rattle.std.proofs.lemmas.List.{append-nil}
use Rattle.av_tree.specs.declared.domain.IndexExpr.{IndexExpr}
use Rattle.av_tree.specs.declared.domain.Constraint.{Constraint}
use Rattle.av_tree.specs.declared.relation.Relation.{Relation}
use Rattle.av_tree.specs.IndexGrammar.{with_each, compared}
use Rattle.av_base.proofs.Lists.{next_taken}

with_each_push : (l : IndexExpr) (r : Relation) (es : List IndexExpr) (e : IndexExpr)
    → with_each l r (es ++ e ∷ []) ≡ with_each l r es ++ record { left = l; relation = r; right = e } ∷ []
with_each_push l r [] e = refl
with_each_push l r (x ∷ es) e = ap (λ (z : List Constraint). record { left = l; relation = r; right = x } ∷ z) (with_each_push l r es e)

compared_push : (lefts : List IndexExpr) (l : IndexExpr) (r : Relation) (rights : List IndexExpr)
    → compared (lefts ++ l ∷ []) r rights ≡ compared lefts r rights ++ with_each l r rights
compared_push [] l r rights = append-nil (with_each l r rights)
compared_push (x ∷ lefts) l r rights = ap (λ (z : List Constraint). with_each x r rights ++ z) (compared_push lefts l r rights) ∙ simp append_assoc

-- one more member, as a loop over them goes on

pub with_each_step : (front found new : List Constraint) (l : IndexExpr) (r : Relation) (rights : List IndexExpr) (i : ℕ) (e : IndexExpr) → i < length rights → e ≡ get_or rights i e
    → found ≡ front ++ with_each l r (take i rights) → new ≡ found ++ record { left = l; relation = r; right = e } ∷ [] → new ≡ front ++ with_each l r (take (i + 1) rights)
with_each_step front found new l r rights i e h at is made =
    rw (made, is, next_taken rights i e h at, with_each_push l r (take i rights) e) (simp append_assoc)

pub compared_step : (front found new : List Constraint) (lefts : List IndexExpr) (r : Relation) (rights : List IndexExpr) (i : ℕ) (l : IndexExpr) → i < length lefts → l ≡ get_or lefts i l
    → found ≡ front ++ compared (take i lefts) r rights → new ≡ found ++ with_each l r rights → new ≡ front ++ compared (take (i + 1) lefts) r rights
compared_step front found new lefts r rights i l h at is made =
    rw (made, is, next_taken lefts i l h at, compared_push (take i lefts) l r rights) (simp append_assoc)
