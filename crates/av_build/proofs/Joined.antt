-- What a legal system gives to its array.
use Rattle.std.proofs.Common.{◌≡◌, ℕ, zero, suc, ◌+◌, ◌<◌, List, [], ◌∷◌, length, map, sym, subst, ◌∙◌, ap, true, false, Some, ◌⊎◌, inl, inr}
use Rattle.std.specs.Prelude.{Contains, slice_get, nat_eq}
use Rattle.av_tree.specs.Points.{Point}
use Rattle.av_poly.specs.Points.{Set}
use Rattle.av_flat.specs.Trees.{Tree, Piece, Variable, FlatSystem, reference, constant, binary, choice, restriction, cases, dependence, reduction, pick}
use Rattle.av_flat.specs.Signatures.{Signature, signature, signatures}
use Rattle.av_flat.specs.Broadcasts.{references}
use Rattle.av_flat.specs.Chained.{IsOfPartial}
use Rattle.av_flat.specs.WellFormed.{EachPart, HasWords, is_reduction}
use Rattle.av_flat.specs.Kept.{IsPlain}
use Rattle.av_flat.specs.Points.{has}
use Rattle.av_flat.specs.Nodes.{is_node, nodes, node_place}
use Rattle.av_space.specs.Coordinates.{Placing}
use Rattle.av_space.specs.Taps.{Tap, taps, IsTapRead}
use Rattle.av_space.specs.Occupancy.{Computes}
use Rattle.av_space.specs.Links.{AreLinks}
use Rattle.av_space.proofs.OneCell.{Inverts, same_point}
use Rattle.av_space.proofs.Timely.{Scheduled, some_piece_of, one_piece_of, earlier}
use Rattle.av_flat.proofs.NodeNumbers.{passing, own_place}
use Rattle.av_space.proofs.Placed.{empty}
use Rattle.av_space.proofs.Helpers.{equal}
use Rattle.av_base.proofs.Truths.{both}
use Rattle.av_base.proofs.Lists.{some_is}
use Rattle.av_kinds.specs.Programs.{site_count}
use Rattle.av_history.specs.Widths.{width_of, PicksAsWide}
use Rattle.av_history.specs.Places.{EachPlace}
use Rattle.av_history.specs.Performing.{Array}
use Rattle.av_history.specs.Arranged.{IsArranged}
use Rattle.av_build.proofs.FineLanes.{HasNumbers}

pub record Legal (a : Array) : Type 0 where
  pub scheduled : Scheduled a.system a.helpers a.times a.cells
  -- the rows of a node with indices have an inverse
  pub inverts : (n : ℕ) (v : Variable) (pl : Placing) → slice_get (nodes a.system) n ≡ Some v → slice_get a.times n ≡ Some pl → (v.domain.dim ≡ 0) ⊎ Inverts pl v.domain.dim

has_size : (set : Set) (z : Point) → has set z ≡ true → length z ≡ set.dim
has_size set z h = equal (length z) set.dim (both (nat_eq (length z) set.dim) _ h).0

point_of : (a : Array) (p c n : ℕ) (z : Point) (v : Variable) → Computes a.system a.times a.cells p c n z → slice_get (nodes a.system) n ≡ Some v → length z ≡ v.domain.dim
point_of a p c n z v h is =
    let computation = h.stands.computation in
    let same : computation.variable ≡ v = some_is computation.variable v (sym computation.is ∙ is) in
    has_size v.domain z (subst (λ (w : Variable). has w.domain z ≡ true) same computation.declared)

tapped_earlier : (a : Array) → Legal a → (p c n : ℕ) (z : Point) (v : Variable) (piece : Piece) (j : ℕ) (tap : Tap) (k : ℕ) (y : Point) → Computes a.system a.times a.cells p c n z → slice_get (nodes a.system) n ≡ Some v
    → slice_get v.pieces tap.place.piece ≡ Some piece → has piece.domain z ≡ true → slice_get (taps a.system a.helpers (node_place a.system n) v) j ≡ Some tap → IsTapRead a.system n tap.place.tree tap.way piece z k y
    → (q : ℕ) × (b : ℕ) × (d : ℕ) × (b + d ≡ c) × (0 < d) × Computes a.system a.times a.cells q b k y
tapped_earlier a g p c n z v piece j tap k y computes is_variable is_piece inside is_tap reads =
    let own = passing is_node a.system.variables n v is_variable in
    let same : node_place a.system n ≡ own.place = ap (node_place a.system) (sym own.number) ∙ own_place a.system own.place v own.is own.passes in
    earlier a.system a.helpers a.times a.cells g.scheduled p c n z own.place v own.is own.passes (sym own.number) computes piece j tap is_piece inside
    (subst (λ m. slice_get (taps a.system a.helpers m v) j ≡ Some tap) same is_tap) k y reads

-- a pick reads words as wide as those of its equation
abbrev pub HasOwnPicks : FlatSystem → Variable → Piece → Type 0
HasOwnPicks s v piece = EachPlace (λ k i t. PicksAsWide s v.width t) 0 0 piece.tree

signature_width : (vs : List Variable) (place : ℕ) (v : Signature) → slice_get (map signature vs) place ≡ Some v → width_of (slice_get vs place) ≡ v.width
signature_width [] place v e = absurd cc
signature_width (w ∷ vs) zero v e = ap (λ (x : Signature). x.width) (some_is (signature w) v e)
signature_width (w ∷ vs) (suc place) v e = signature_width vs place v e

pub own_picks : (s : FlatSystem) (w k i : ℕ) (t : Tree) → EachPart IsPlain t → EachPart (λ u. is_reduction u ≡ false) t → EachPart (IsOfPartial (signatures s) w) t → EachPlace (λ k i u. PicksAsWide s w u) k i t
own_picks s w k i (reference place m) plain free partial = tt
own_picks s w k i (constant n) plain free partial = tt
own_picks s w k i (binary g l r) plain free partial = (
  own_picks s w k i l plain.1 free.1 partial.1,
  own_picks s w (k + site_count l) (i + length (references l)) r plain.2 free.2 partial.2,
)
own_picks s w k i (choice l c r x y) plain free partial = (
  own_picks s w k i l plain.1 free.1 partial.1,
  own_picks s w (k + site_count l) (i + length (references l)) r plain.2 free.2 partial.2,
  own_picks s w (k + site_count l + site_count r) (i + length (references l) + length (references r)) x plain.3 free.3 partial.3,
  own_picks s w (k + site_count l + site_count r + site_count x) (i + length (references l) + length (references r) + length (references x)) y plain.4 free.4 partial.4,
)
own_picks s w k i (pick place choices n) plain free partial = signature_width s.variables place partial.0 partial.1 ∙ partial.3
own_picks s w k i (restriction d t) plain free partial = absurd (let k = plain.0.1 in cc)
own_picks s w k i (cases ts) plain free partial = absurd (let k = plain.0.0 in cc)
own_picks s w k i (dependence m t) plain free partial = absurd (let k = plain.0.2 in cc)
own_picks s w k i (reduction o m t set) plain free partial = absurd (let k = free.0 in cc)

pub arranged : (a : Array) → Legal a → AreLinks a.system a.helpers a.times a.cells a.links
    → ((v : Variable) (k : ℕ) (piece : Piece) → Contains a.system.variables v → slice_get v.pieces k ≡ Some piece → HasOwnPicks a.system v piece) → IsArranged a
arranged a g are_links widths = record {
  are_links = are_links;
  widths = widths;
  some_piece = some_piece_of a.system a.helpers a.times a.cells g.scheduled;
  one_piece = one_piece_of a.system a.helpers a.times a.cells g.scheduled;
  earlier = tapped_earlier a g;
}

-- the numbers of a plain tree are words
pub fits_words : (w : ℕ) (t : Tree) → EachPart IsPlain t → EachPart (HasWords w) t → HasNumbers w t
fits_words w (reference place m) plain words = tt
fits_words w (constant n) plain words = words
fits_words w (binary g l r) plain words = (fits_words w l plain.1 words.1, fits_words w r plain.2 words.2)
fits_words w (choice l c r x y) plain words =
    (fits_words w l plain.1 words.1, fits_words w r plain.2 words.2, fits_words w x plain.3 words.3, fits_words w y plain.4 words.4)
fits_words w (pick place choices n) plain words = words
fits_words w (restriction d t) plain words = tt
fits_words w (cases ts) plain words = tt
fits_words w (dependence m t) plain words = tt
fits_words w (reduction o m t set) plain words = tt

-- of one node two points on one cell in one cycle are one
pub one_point : (a : Array) → Legal a → (p c n : ℕ) (x y : Point) → Computes a.system a.times a.cells p c n x → Computes a.system a.times a.cells p c n y → x ≡ y
one_point a g p c n x y hx hy =
    let v = hx.stands.computation.variable in
    let is = hx.stands.computation.is in
    let sx = point_of a p c n x v hx is in
    let sy = point_of a p c n y v hy is in
    elim (g.inverts n v hx.stands.placing is hx.stands.is_placing) [
      | inl none ↦ empty x (sx ∙ none) ∙ sym (empty y (sy ∙ none))
      | inr i ↦ same_point a.system a.times a.cells p n hx.stands.placing v.domain.dim hx.stands.is_placing i c x y sx sy hx hy
    ]
