-- Pieces that are kept where they have a point are those of the normal form.
use Rattle.std.proofs.Common.{◌≡◌, ◌↔◌, ℕ, ◌≤◌, ℤ, List, [], ◌∷◌, ◌++◌, map, Bool, true, false, cond, Option, Some, None, refl, sym, ap, subst, ◌∙◌, arith, append_assoc}
use Rattle.std.specs.List.{AllByRecursion}
use Rattle.std.proofs.lemmas.List.{append-nil}
use Rattle.av_poly.specs.declared.poly.Bounds.{Bounds}
use Rattle.av_poly.specs.Points.{Has, HoldsAt}
use Rattle.av_poly.proofs.Normalising.{normal_set}
use Rattle.av_flat.specs.declared.flat.Piece.{Piece as PieceMade}
use Rattle.av_flat.specs.Trees.{Piece, Variable, right_side, view_piece}
use Rattle.av_flat.specs.Signatures.{Signature}
use Rattle.av_flat.specs.Pieces.{Part, part, parts, filled, pieces_of}
use Rattle.av_normal.specs.NormalForm.{set_of, AreKeptOf, ended, dropped, kept, IsNormalVariable, AreNormalVariables}
use Rattle.av_normal.specs.inner.AllPieces.{IsPieceOfPart, ArePiecesOfParts, HasAllPieces, HaveAllPieces}
use Rattle.av_normal.specs.Pairwise.{Pairwise}
use Rattle.av_normal.specs.Extents.{SaysPoint}
use Rattle.av_normal.specs.Domains.{IsDeclaredExtent, IsSmallExtent}
use Rattle.av_normal.specs.inner.NonemptyPieces.{IsEmpty, AreNonemptyPieces, nothing, left_out, stays, HasNonemptyPieces, IsInside, IsHeld}
use Rattle.av_normal.proofs.Boxes.{greatest_append, most_at}
use Rattle.av_normal.proofs.Reaches.{no_point}
use Rattle.av_normal.proofs.DomainBoxes.{normal_point}
use Rattle.av_base.proofs.Lists.{each_first}

-- ---- one more

pub one_left_out : (q : Piece) (qs all made : List Piece) → ((rest : List Piece) → AreNonemptyPieces (q ∷ qs) rest → AreNonemptyPieces all (made ++ rest)) → IsEmpty q
    → (rest : List Piece) → AreNonemptyPieces qs rest → AreNonemptyPieces all (made ++ rest)
one_left_out q qs all made f e rest h = f rest (left_out e h)

pub one_stays : (q : Piece) (qs all made : List Piece) → ((rest : List Piece) → AreNonemptyPieces (q ∷ qs) rest → AreNonemptyPieces all (made ++ rest)) → (z : List ℤ) → Has q.domain z
    → (rest : List Piece) → AreNonemptyPieces qs rest → AreNonemptyPieces all ((made ++ q ∷ []) ++ rest)
one_stays q qs all made f z p rest h = subst (λ (rs : List Piece). AreNonemptyPieces all rs) (sym (append_assoc made (q ∷ []) rest)) (f (q ∷ rest) (stays z p h))

pub nonempty_of_all : (all made : List Piece) → ((rest : List Piece) → AreNonemptyPieces [] rest → AreNonemptyPieces all (made ++ rest)) → AreNonemptyPieces all made
nonempty_of_all all made f = subst (λ (rs : List Piece). AreNonemptyPieces all rs) (append-nil made) (f [] nothing)

pub seen_push : (pieces : List PieceMade) (p : PieceMade) → map view_piece (pieces ++ p ∷ []) ≡ map view_piece pieces ++ view_piece p ∷ []
seen_push [] p = refl
seen_push (q ∷ pieces) p = ap (λ rs. view_piece q ∷ rs) (seen_push pieces p)

-- one piece more, that is kept where it has a point
pub next_kept : (item : PieceMade) (all rest : List Piece) (held new : List PieceMade) (stays : Bool) → ((rs : List Piece) → AreNonemptyPieces (view_piece item ∷ rest) rs → AreNonemptyPieces all (map view_piece held ++ rs))
    → SaysPoint item.domain stays → new ≡ cond stays (held ++ item ∷ []) held → (rs : List Piece) → AreNonemptyPieces rest rs → AreNonemptyPieces all (map view_piece new ++ rs)
next_kept item all rest held new true made says e =
    subst (λ (now : List PieceMade). (rs : List Piece) → AreNonemptyPieces rest rs → AreNonemptyPieces all (map view_piece now ++ rs)) (sym e)
    (subst (λ (now : List Piece). (rs : List Piece) → AreNonemptyPieces rest rs → AreNonemptyPieces all (now ++ rs)) (sym (seen_push held item)) (one_stays (view_piece item) rest all (map view_piece held) made says.0 says.1))
next_kept item all rest held new false made says e =
    subst (λ (now : List PieceMade). (rs : List Piece) → AreNonemptyPieces rest rs → AreNonemptyPieces all (map view_piece now ++ rs)) (sym e) (one_left_out (view_piece item) rest all (map view_piece held) made says)

pub all_left_out : (qs : List Piece) → AllByRecursion IsEmpty qs → AreNonemptyPieces qs []
all_left_out [] h = nothing
all_left_out (q ∷ qs) h = left_out h.0 (all_left_out qs h.1)

-- ---- kept pieces

same_points : {dim : ℕ} {p : Part} {q : Piece} → IsPieceOfPart dim p q → (z : List ℤ) → Has q.domain z ↔ Has (set_of dim p) z
same_points {dim} {p} {q} s z = normal_set q.domain (set_of dim p) z s.domain.dim s.domain.rows

kept_of : (dim : ℕ) (ps : List Part) {qs rs : List Piece} → ArePiecesOfParts dim ps qs → AreNonemptyPieces qs rs → AreKeptOf dim ps rs
kept_of dim [] s nothing = ended
kept_of dim (p ∷ ps) s nothing = absurd s
kept_of dim [] s (left_out e h) = absurd s
kept_of dim (p ∷ ps) s (left_out e h) = dropped (λ z k. e z ((same_points s.0 z).1 k)) (kept_of dim ps s.1 h)
kept_of dim [] s (stays z k h) = absurd s
kept_of dim (p ∷ ps) s (stays z k h) = kept z ((same_points s.0 z).0 k) s.0.domain (s.0.tree z k) (kept_of dim ps s.1 h)

normal_variable : (vs : List Signature) (v y w : Variable) → HasAllPieces vs v y → HasNonemptyPieces y w → IsNormalVariable vs v w
normal_variable vs v y w s a = record {
  name = a.name ∙ s.name;
  kind = a.kind ∙ s.kind;
  width = a.width ∙ s.width;
  domain = a.domain ∙ s.domain;
  pieces = kept_of v.domain.dim (pieces_of vs v) s.pieces a.pieces;
}

pub normal_variables : (vs : List Signature) (xs ys zs : List Variable) → HaveAllPieces vs xs ys → Pairwise HasNonemptyPieces ys zs → AreNormalVariables vs xs zs
normal_variables vs [] [] [] s a = tt
normal_variables vs [] [] (w ∷ zs) s a = absurd a
normal_variables vs [] (y ∷ ys) zs s a = absurd s
normal_variables vs (v ∷ xs) [] zs s a = absurd s
normal_variables vs (v ∷ xs) (y ∷ ys) [] s a = absurd a
normal_variables vs (v ∷ xs) (y ∷ ys) (w ∷ zs) s a = (normal_variable vs v y w s.0 a.0, normal_variables vs xs ys zs s.1 a.1)

-- ---- pieces and the box of their domain

-- the points of a piece are points of the declared domain
declared_point : (v : Variable) (p : Part) (q : Piece) → IsPieceOfPart v.domain.dim (part (v.domain.rows ++ p.rows) (filled (v.domain.rows ++ p.rows) p.tree)) q → (z : List ℤ) → Has q.domain z → Has v.domain z
declared_point v p q s z h =
    let there = (same_points s z).0 h in
    record { dimension = there.dimension; holds = each_first (λ row. HoldsAt row z) v.domain.rows p.rows there.holds }

each_piece : (v : Variable) (P : Piece → Type 0)
    → ((p : Part) (q : Piece) → IsPieceOfPart v.domain.dim (part (v.domain.rows ++ p.rows) (filled (v.domain.rows ++ p.rows) p.tree)) q → P q)
    → (ps : List Part) (qs : List Piece) → ArePiecesOfParts v.domain.dim (map (λ (p : Part). part (v.domain.rows ++ p.rows) (filled (v.domain.rows ++ p.rows) p.tree)) ps) qs → AllByRecursion P qs
each_piece v P f [] [] s = tt
each_piece v P f [] (q ∷ qs) s = absurd s
each_piece v P f (p ∷ ps) [] s = absurd s
each_piece v P f (p ∷ ps) (q ∷ qs) s = (f p q s.0, each_piece v P f ps qs s.1)

held : (vs : List Signature) (v y : Variable) (extent : Option Bounds) → v.domain.dim ≤ 4 → HasAllPieces vs v y → IsDeclaredExtent v extent → IsSmallExtent extent → IsHeld y extent
held vs v y None few s (rows, n, none, four) small =
    each_piece v IsEmpty
    (λ p q k z h. no_point (record { dim = v.domain.dim; rows = rows }) none z (normal_point v rows n z (declared_point v p q k z h)))
    (parts vs [] (right_side v)) y.pieces s.pieces
held vs v y (Some b) few s (rows, n, e, four) small =
    let g = greatest_append b.low b.high in
    let m = small.0 in (
      most_at 4095 b.low (omega (arith, g, m)),
      most_at 4095 b.high (omega (arith, g, m)),
      each_piece v (IsInside b)
          (λ p q k. let d = k.domain.dim in record {
            dim = omega (arith, d, few);
            rows = k.small;
            between = λ z h. e.1 z (normal_point v rows n z (declared_point v p q k z h));
          })
          (parts vs [] (right_side v)) y.pieces s.pieces,
    )

pub all_held : (vs : List Signature) (xs ys : List Variable) (es : List (Option Bounds)) → AllByRecursion (λ v. v.domain.dim ≤ 4) xs → HaveAllPieces vs xs ys → Pairwise IsDeclaredExtent xs es → AllByRecursion IsSmallExtent es
    → Pairwise IsHeld ys es
all_held vs [] [] [] few s a small = tt
all_held vs [] [] (e ∷ es) few s a small = absurd a
all_held vs [] (y ∷ ys) es few s a small = absurd s
all_held vs (v ∷ xs) [] es few s a small = absurd s
all_held vs (v ∷ xs) (y ∷ ys) [] few s a small = absurd a
all_held vs (v ∷ xs) (y ∷ ys) (e ∷ es) few s a small = (held vs v y e few.0 s.0 a.0 small.0, all_held vs xs ys es few.1 s.1 a.1 small.1)
