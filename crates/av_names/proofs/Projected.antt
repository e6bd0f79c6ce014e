-- A map that gives all names but one, each once, is a projection.
use Rattle.std.proofs.Common.{◌≡◌, ◌+◌, inl, inr, Bool, true, false, not, ◌&&◌, IsTrue, List, [], ◌∷◌, length, Option, Some, None, refl, sym, ap, subst, ◌∙◌, arith, Any, AllPairs, nat_eq}
use Rattle.std.specs.Prelude.{bytes_eq}
use Rattle.std.proofs.lemmas.List.Kept.{AllPairs-cons}
use Rattle.av_tree.specs.declared.domain.IndexExpr.{IndexExpr}
use Rattle.av_tree.specs.declared.domain.MapText.{MapText}
use Rattle.av_tree.specs.declared.domain.Term.{Term}
use Rattle.av_tree.specs.Trees.{Text}
use Rattle.av_tree.specs.Points.{is_plain, is_named, is_one}
use Rattle.av_tree.specs.Rows.{is_index}
use Rattle.av_flat.proofs.Sets.{both_true}
use Rattle.av_names.specs.Reductions.{plain_name, gives_next, gives_names, is_projection}
use Rattle.av_names.specs.Regular.{AreDistinct, Projects}
use Rattle.av_names.proofs.Names.{same_names}
use Rattle.av_names.proofs.Among.{Among, all_from, any_from}
use Rattle.av_names.proofs.Accepted.{named_among, neither_is}
use Rattle.av_names.proofs.Projections.{plain_term}
use Rattle.av_flat.proofs.Sets as set

-- the name is what the terms are
plain_is : (terms : List Term) (n : Text) → plain_name terms ≡ Some n → IsTrue (is_plain n terms)
plain_is [] n h = absurd cc
plain_is (t ∷ s ∷ terms) n h = absurd cc
plain_is (t ∷ []) n h = go (is_one t.factor) refl
  where
    go : (b : Bool) → is_one t.factor ≡ b → IsTrue (is_plain n (t ∷ []))
    go true e = let p : t.name ≡ Some n = rw e at h in rw (p, e) (let q = same_names n n refl in rw q refl)
    go false e = absurd (let p : None ≡ Some n = rw e at h in cc)

name_is : (terms : List Term) (n : Text) → IsTrue (is_plain n terms) → plain_name terms ≡ Some n
name_is [] n h = absurd cc
name_is (t ∷ s ∷ terms) n h = absurd cc
name_is (t ∷ []) n h =
    let p = plain_term n t.name t.factor h in
    let one = both_true (is_named n t.name) (is_one t.factor) h in
    rw one.1 (p.1 ∙ ap Some p.2)

abbrev NamesOf : List Text → List Text → IndexExpr → Type 0
NamesOf names before e = (n : Text) × (plain_name e.terms ≡ Some n) × (is_index names n ≡ true) × (is_index before n ≡ false)

abbrev Differ : IndexExpr → IndexExpr → Type 0
Differ a b = (n : Text) → IsTrue (is_plain n a.terms) → IsTrue (is_plain n b.terms) → ⊥

not_true : (b : Bool) → IsTrue (not b) → b ≡ false
not_true true h = absurd cc
not_true false h = refl

loosened : (names : List Text) (n : Text) (before : List Text) (f : IndexExpr) → NamesOf names (n ∷ before) f → NamesOf names before f
loosened names n before f q = (q.0, q.1, q.2, (neither_is (bytes_eq n q.0) (is_index before q.0) q.3).1)

given : (names before : List Text) (es : List IndexExpr) → IsTrue (gives_names names before es) → ((e : IndexExpr) → Among e es → NamesOf names before e) × AllPairs Differ es
given names before [] h = ((λ e m. absurd m), λ i j d l m. absurd (omega (arith, m)))
given names before (e ∷ es) h = go (plain_name e.terms) refl h (λ n k. given names (n ∷ before) es k)
  where
    go : (o : Option Text) → plain_name e.terms ≡ o → IsTrue (gives_next names before o (λ g. gives_names names g es))
        → ((n : Text) → IsTrue (gives_names names (n ∷ before) es) → ((f : IndexExpr) → Among f es → NamesOf names (n ∷ before) f) × AllPairs Differ es)
        → ((f : IndexExpr) → Among f (e ∷ es) → NamesOf names before f) × AllPairs Differ (e ∷ es)
    go None p k rest = absurd cc
    go (Some n) p k rest =
        let a = both_true (is_index names n) (not (is_index before n) && gives_names names (n ∷ before) es) k in
        let b = both_true (not (is_index before n)) (gives_names names (n ∷ before) es) a.1 in
        let r = rest n b.1 in (
          (λ f m. elim m [
            | inl q ↦ subst (NamesOf names before) q (n, p, a.0, not_true (is_index before n) b.0)
            | inr m ↦ loosened names n before f (r.0 f m)
          ]),
          AllPairs-cons Differ e es (all_from (Differ e) es (λ f m x s t.
              let q = r.0 f m in
              let u : Some n ≡ Some x = sym p ∙ name_is e.terms x s in
              let v : Some q.0 ≡ Some x = sym q.1 ∙ name_is f.terms x t in
              let w : n ≡ q.0 = cc in
              let apart = (neither_is (bytes_eq n q.0) (is_index before q.0) q.3).0 in
              let same = same_names n q.0 w in
              let z : true ≡ false = sym same ∙ apart in cc)) r.1,
        )

pub projection_is : (m : MapText) → AreDistinct m.names → is_projection m ≡ true → Projects m
projection_is m d h =
    let p = both_true (nat_eq (length m.results + 1) (length m.names)) (gives_names m.names [] m.results) h in
    let size = set.equal (length m.results + 1) (length m.names) p.0 in
    let r = given m.names [] m.results p.1 in
    record {
      drops_one = omega (arith, size);
      plain = all_from (λ e. Any (λ name. IsTrue (is_plain name e.terms)) m.names) m.results (λ e n.
          let q = r.0 e n in any_from (λ name. IsTrue (is_plain name e.terms)) m.names q.0 (named_among m.names q.0 q.2) (plain_is e.terms q.0 q.1));
      once = r.1;
    }
