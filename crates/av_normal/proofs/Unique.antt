-- A system has one normal form.
use Rattle.std.proofs.Common.{◌≡◌, ℕ, List, [], ◌∷◌, refl, sym, ◌∙◌, ap, ap₂}
use Rattle.av_poly.specs.Points.{Set}
use Rattle.av_poly.proofs.Uniqueness.{normalised_once}
use Rattle.av_flat.specs.Trees.{Tree, Piece, Variable, FlatSystem, reference, constant, binary, choice, reduction}
use Rattle.av_flat.specs.Pieces.{Part, pieces_of}
use Rattle.av_flat.specs.Signatures.{Signature, signatures}
use Rattle.av_normal.specs.NormalForm.{IsNormalised, HasNormalSets, set_of, AreKeptOf, ended, dropped, kept, IsNormalVariable, AreNormalVariables, IsNormalForm}

same_set : (set a b : Set) → IsNormalised set a → IsNormalised set b → a ≡ b
same_set set a b p q =
    ap₂ (λ dim rows. let s : Set = record { dim = dim; rows = rows } in s) (p.dim ∙ sym q.dim) (normalised_once set.dim set.rows a.rows b.rows p.rows q.rows)

same_tree : (t a b : Tree) → HasNormalSets t a → HasNormalSets t b → a ≡ b
same_tree (reference place m) (reference p k) (reference q n) g h = ap₂ (λ (i : ℕ) f. reference i f) (g.0 ∙ sym h.0) (g.1 ∙ sym h.1)
same_tree (constant n) (constant j) (constant k) g h = ap (λ (i : ℕ). constant i) (g ∙ sym h)
same_tree (binary s l r) (binary t a b) (binary u c d) g h =
    rw (g.0, h.0) (ap₂ (λ x y. binary s x y) (same_tree l a c g.1 h.1) (same_tree r b d g.2 h.2))
same_tree (choice l c r x y) (choice a d b v w) (choice e f i p q) g h =
    rw (g.0, h.0, same_tree l a e g.1 h.1, same_tree r b i g.2 h.2, same_tree x v p g.3 h.3, same_tree y w q g.4 h.4) refl
same_tree (reduction o m t set) (reduction p k u inner) (reduction q n v other) g h =
    rw (g.0, g.1, h.0, h.1, same_tree t u v g.2 h.2, same_set set inner other g.3 h.3) refl
same_tree (reference place m) (reference p k) b g h = absurd h
same_tree (constant n) (constant j) b g h = absurd h
same_tree (binary s l r) (binary t a b) d g h = absurd h
same_tree (choice l c r x y) (choice a d b v w) e g h = absurd h
same_tree (reduction o m t set) (reduction p k u inner) b g h = absurd h
same_tree t a b g h = absurd g

same_pieces : (dim : ℕ) (ps : List Part) (xs ys : List Piece) → AreKeptOf dim ps xs → AreKeptOf dim ps ys → xs ≡ ys
same_pieces dim ps xs ys ended ended = refl
same_pieces dim ps xs ys (dropped n g) (dropped m h) = same_pieces dim _ xs ys g h
same_pieces dim ps xs ys (dropped n g) (kept z has normal tree h) = absurd (n z has)
same_pieces dim ps xs ys (kept z has normal tree g) (dropped n h) = absurd (n z has)
same_pieces dim ps xs ys (kept {p = p} {q = q} {ps = rest} {qs = qs} z has normal tree g) (kept {q = r} {qs = rs} y is other u h) =
    ap₂ (λ x zs. x ∷ zs)
    (ap₂ (λ domain t. let piece : Piece = record { domain = domain; tree = t } in piece) (same_set (set_of dim p) q.domain r.domain normal other) (same_tree p.tree q.tree r.tree tree u))
    (same_pieces dim rest qs rs g h)

same_variable : (vs : List Signature) (v a b : Variable) → IsNormalVariable vs v a → IsNormalVariable vs v b → a ≡ b
same_variable vs v a b g h =
    rw (g.name ∙ sym h.name, g.kind ∙ sym h.kind, g.width ∙ sym h.width, g.domain ∙ sym h.domain, same_pieces v.domain.dim (pieces_of vs v) a.pieces b.pieces g.pieces h.pieces) refl

same_variables : (vs : List Signature) (variables xs ys : List Variable) → AreNormalVariables vs variables xs → AreNormalVariables vs variables ys → xs ≡ ys
same_variables vs [] [] [] g h = refl
same_variables vs (v ∷ variables) (x ∷ xs) (y ∷ ys) g h = ap₂ (λ z zs. z ∷ zs) (same_variable vs v x y g.0 h.0) (same_variables vs variables xs ys g.1 h.1)
same_variables vs [] [] ys g h = absurd h
same_variables vs (v ∷ variables) (x ∷ xs) ys g h = absurd h
same_variables vs variables xs ys g h = absurd g

pub unique : (s t u : FlatSystem) → IsNormalForm s t → IsNormalForm s u → t ≡ u
unique s t u g h =
    ap₂ (λ (width : ℕ) variables. let system : FlatSystem = record { width = width; variables = variables } in system)
    (g.width ∙ sym h.width)
    (same_variables (signatures s) s.variables t.variables u.variables g.variables h.variables)
