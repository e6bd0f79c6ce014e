-- Lists of pieces that are made one after the other.
use Rattle.std.proofs.Common.{◌≡◌, ℕ, zero, suc, ◌+◌, ◌-◌, ◌^◌, ◌<◌, ◌≤◌, min, ℤ, false, ◌||◌, List, [], ◌∷◌, ◌++◌, map, drop, length, get_or, refl, sym, ap, ap₂, subst, arith, ◌∙◌, append_assoc, add-one, All}
use Rattle.std.proofs.lemmas.List.{append-nil, length-map}
use Rattle.std.proofs.lemmas.List.Elements.{All-nil, All-cons, All-head, All-tail, All-append, All-map}
use Rattle.av_affine.specs.declared.form.Form.{Form}
use Rattle.av_poly.specs.Points.{Set, Has}
use Rattle.av_flat.specs.Trees.{Tree, Piece, trees_of, reference, constant, binary, choice, restriction, cases, dependence, reduction, pick}
use Rattle.av_flat.specs.Signatures.{Signature}
use Rattle.av_flat.specs.Pieces.{Part, parts, parts_of_all, with_rows, filled}
use Rattle.av_flat.specs.Quantities.{piece_count, body_sets}
use Rattle.av_flat.proofs.Parts.{length_parts}
use Rattle.av_normal.specs.inner.Numbered.{part_at}
use Rattle.av_normal.specs.inner.ReductionSets.{IsFillable, has_reduction}
use Rattle.av_normal.specs.NormalForm.{HasNormalSets}
use Rattle.av_normal.specs.inner.AllPieces.{IsPieceOfPart}
use Rattle.av_normal.specs.inner.Making.{held, held_parts, filled_part, bodies_measured, StandsFor, StandsIn, IsMade, AreMade, AreAdded, IsHolder, IsFilledTo, Continues}
use Rattle.av_normal.proofs.Limits.{all_sources}
use Rattle.av_base.proofs.Lists.{nothing_left, all_parts}
use Rattle.av_base.proofs.Truths.{neither}

-- ---- lists that are gone through

pub all_at : {X Y : Type 0} (P : Y → Type 0) (f : X → Y) (xs : List X) (i : ℕ) (x : X) → i < length xs → x ≡ get_or xs i x → All P (map f xs) → P (f x)
all_at P f [] i x l e h = absurd (omega (arith, l))
all_at P f (y ∷ xs) zero x l e h = subst (λ z. P (f z)) (sym e) (All-head P (f y) (map f xs) h)
all_at P f (y ∷ xs) (suc i) x l e h = all_at P f xs i x (omega (arith, l)) e (All-tail P (f y) (map f xs) h)

-- the part with this number comes next
pub held_at : (rows : List Form) (ps : List Part) (k : ℕ) → k < length ps → drop k (with_rows rows ps) ≡ held rows (part_at ps k) ∷ drop (k + 1) (with_rows rows ps)
held_at rows ps k l = go ps k l ∙ ap (λ n. held rows (part_at ps k) ∷ drop n (with_rows rows ps)) (sym (add-one k))
  where
    go : (ps : List Part) (k : ℕ) → k < length ps → drop k (with_rows rows ps) ≡ held rows (part_at ps k) ∷ drop (suc k) (with_rows rows ps)
    go [] k l = absurd (omega (arith, l))
    go (p ∷ ps) zero l = refl
    go (p ∷ ps) (suc k) l = go ps k (omega (arith, l))

module _ (vs : List Signature) (t : Tree) (number count : ℕ) (e : count ≡ min (piece_count t) (2 ^ 128 - 1)) (few : piece_count t ≤ 256) where
  pub number_below : number < count → number < length (parts vs [] t)
  number_below l = let size = length_parts vs [] t in omega (arith, l, e, few, size)

  pub numbers_end : (rows : List Form) → count ≤ number → drop number (with_rows rows (parts vs [] t)) ≡ []
  numbers_end rows l =
      let size = length_parts vs [] t in
      let same = length-map (parts vs [] t) (held rows) in
      nothing_left (with_rows rows (parts vs [] t)) number (omega (arith, l, e, few, size, same))

-- ---- lists that grow

pub one_made : {X Y : Type 0} (A : List X → List Y → Type 0) (all : List X) (made : List Y) (x : X) (rest : List X) (y : Y) → Continues A all made (x ∷ rest)
    → ((ys : List Y) → A rest ys → A (x ∷ rest) (y ∷ ys)) → Continues A all (made ++ y ∷ []) rest
one_made A all made x rest y h f = λ ys a. subst (A all) (sym (append_assoc made (y ∷ []) ys)) (h (y ∷ ys) (f ys a))

pub all_made : {X Y : Type 0} (A : List X → List Y → Type 0) (all : List X) (made : List Y) → A [] [] → Continues A all made [] → A all made
all_made A all made a h = subst (A all) (append-nil made) (h [] a)

pub both_made : (dim : ℕ) (ps qs : List Part) (xs ys : List Piece) → AreMade dim ps xs → AreMade dim qs ys → AreMade dim (ps ++ qs) (xs ++ ys)
both_made dim [] qs [] ys h k = k
both_made dim [] qs (x ∷ xs) ys h k = absurd h
both_made dim (p ∷ ps) qs [] ys h k = absurd h
both_made dim (p ∷ ps) qs (x ∷ xs) ys h k = (h.0, both_made dim ps qs xs ys h.1 k)

pub more_made : (dim : ℕ) (all ps rest : List Part) (made new : List Piece) → AreAdded dim ps made new → Continues (AreMade dim) all made (ps ++ rest) → Continues (AreMade dim) all new rest
more_made dim all ps rest made new a h = λ ys k.
    subst (AreMade dim all) (sym (append_assoc made a.added ys) ∙ ap (λ zs. zs ++ ys) (sym a.is)) (h (a.added ++ ys) (both_made dim ps rest a.added ys a.made k))

-- ---- pieces whose reductions can take their rows

pub holders : (dim : ℕ) (ps : List Part) (qs : List Piece) → AreMade dim ps qs → All (λ p. IsFillable dim p.tree) ps → All IsHolder qs
holders dim [] [] h f = All-nil IsHolder
holders dim [] (q ∷ qs) h f = absurd h
holders dim (p ∷ ps) [] h f = absurd h
holders dim (p ∷ ps) (q ∷ qs) h f =
    let P : Part → Type 0 = λ p. IsFillable dim p.tree in
    let m = h.0 in
    All-cons IsHolder q qs
    (record { fillable = m.tree.fillable q.domain.dim (subst (λ (n : ℕ). IsFillable n p.tree) (sym m.domain.dim) (All-head P p ps f)); small = m.small })
    (holders dim ps qs h.1 (All-tail P p ps f))

pub held_fillable : (vs : List Signature) (dim : ℕ) (rows : List Form) (es : List Piece) → All (λ p. IsFillable dim p.tree) (parts_of_all vs [] (trees_of (map (λ e. restriction e.domain e.tree) es)))
    → All (λ p. IsFillable dim p.tree) (held_parts vs rows es)
held_fillable vs dim rows [] h = All-nil (λ p. IsFillable dim p.tree)
held_fillable vs dim rows (e ∷ es) h =
    let P : Part → Type 0 = λ p. IsFillable dim p.tree in
    let own = parts vs [] e.tree in
    let both = all_parts P (with_rows e.domain.rows own) (parts_of_all vs [] (trees_of (map (λ (e : Piece). restriction e.domain e.tree) es))) h in
    All-append P (with_rows (rows ++ e.domain.rows) own) (held_parts vs rows es)
    (All-map P (held (rows ++ e.domain.rows)) own (all_sources P (held e.domain.rows) own both.0))
    (held_fillable vs dim rows es both.1)

-- ---- trees of pieces without a point

-- a tree without reductions has no bodies
pub no_bodies : (t : Tree) → has_reduction t ≡ false → (rows : List Form) → body_sets (filled rows t) ≡ []
no_bodies (reference place m) e rows = refl
no_bodies (constant k) e rows = refl
no_bodies (binary s l r) e rows =
    let n = neither (has_reduction l) (has_reduction r) e in
    ap₂ (λ a b. a ++ b) (no_bodies l n.0 rows) (no_bodies r n.1 rows)
no_bodies (choice l c r x y) e rows =
    let first = neither (has_reduction l) (has_reduction r || (has_reduction x || has_reduction y)) e in
    let second = neither (has_reduction r) (has_reduction x || has_reduction y) first.1 in
    let third = neither (has_reduction x) (has_reduction y) second.1 in
    ap₂ (λ a b. a ++ b)
    (ap₂ (λ a b. a ++ b) (ap₂ (λ a b. a ++ b) (no_bodies l first.0 rows) (no_bodies r second.0 rows)) (no_bodies x third.0 rows))
    (no_bodies y third.1 rows)
no_bodies (reduction o m t set) e rows = absurd cc
no_bodies (restriction d t) e rows = refl
no_bodies (cases ts) e rows = refl
no_bodies (dependence m t) e rows = refl
no_bodies (pick place choices k) e rows = refl

-- each tree stands in for itself, and a constant for a tree without reductions over a set without a point
pub itself : (d : Set) (t : Tree) → StandsIn d t t
itself d t = record { same = λ z h. refl; bodies = λ rows. refl; fillable = λ n f. f }

pub a_constant : (d : Set) (t : Tree) (k : ℕ) → ((z : List ℤ) → Has d z → ⊥) → has_reduction t ≡ false → StandsIn d t (constant k)
a_constant d t k none e = record { same = λ z h. absurd (none z h); bodies = λ rows. sym (no_bodies t e rows); fillable = λ n f. tt }

-- ---- pieces without reductions

-- a tree without reductions takes no rows
pub plain_sets : (n : ℕ) (t : Tree) → IsFillable n t → has_reduction t ≡ false → (rows : List Form) → HasNormalSets (filled rows t) t
plain_sets n (reference place m) f e rows = (refl, refl)
plain_sets n (constant k) f e rows = refl
plain_sets n (binary s l r) f e rows =
    let p = neither (has_reduction l) (has_reduction r) e in
    (refl, plain_sets n l f.0 p.0 rows, plain_sets n r f.1 p.1 rows)
plain_sets n (choice l c r x y) f e rows =
    let first = neither (has_reduction l) (has_reduction r || (has_reduction x || has_reduction y)) e in
    let second = neither (has_reduction r) (has_reduction x || has_reduction y) first.1 in
    let third = neither (has_reduction x) (has_reduction y) second.1 in
    (refl, plain_sets n l f.0 first.0 rows, plain_sets n r f.1 second.0 rows, plain_sets n x f.2 third.0 rows, plain_sets n y f.3 third.1 rows)
plain_sets n (reduction o m t set) f e rows = absurd cc
plain_sets n (restriction d t) f e rows = absurd f
plain_sets n (cases ts) f e rows = absurd f
plain_sets n (dependence m t) f e rows = absurd f
plain_sets n (pick place choices k) f e rows = absurd f

-- so the piece of a part without reductions is as it was made
pub plain_piece : (dim : ℕ) (p : Part) (q : Piece) → IsHolder q → has_reduction q.tree ≡ false → IsMade dim p q → IsPieceOfPart dim (filled_part p) q
plain_piece dim p q holder plain made = record {
  domain = made.domain;
  tree = λ z h. subst (λ (t : Tree). HasNormalSets (filled p.rows t) q.tree) (made.tree.same z h) (plain_sets q.domain.dim q.tree holder.fillable plain p.rows);
  small = made.small;
}

-- and it has no bodies
pub plain_bodies : (dim : ℕ) (p : Part) (q : Piece) → has_reduction q.tree ≡ false → IsMade dim p q → body_sets (filled p.rows p.tree) ≡ []
plain_bodies dim p q plain made = sym (made.tree.bodies p.rows) ∙ no_bodies q.tree plain p.rows

-- ---- pieces that are taken one after the other

-- the part of the next piece, and those behind it
pub record IsNextFilled (A : List Part → List Piece → Type 0) (dim : ℕ) (ps : List Part) (made : List Piece) (q : Piece) (later : List Piece) : Type 0 where
  pub part : Part
  pub rest : List Part
  pub made_is : IsMade dim part q
  pub are : AreMade dim rest later
  pub left : StandsFor (bodies_measured (part ∷ rest)) (bodies_measured ps)
  pub done : Continues A (map filled_part ps) made (filled_part part ∷ map filled_part rest)

pub next_filled : (A : List Part → List Piece → Type 0) (dim : ℕ) (ps : List Part) (made : List Piece) (q : Piece) (later : List Piece) → IsFilledTo A dim ps made (q ∷ later) → IsNextFilled A dim ps made q later
next_filled A dim ps made q later h = go h.rest h.are h.left h.done
  where
    go : (rest : List Part) → AreMade dim rest (q ∷ later) → StandsFor (bodies_measured rest) (bodies_measured ps) → Continues A (map filled_part ps) made (map filled_part rest) → IsNextFilled A dim ps made q later
    go [] a l d = absurd a
    go (p ∷ rest) a l d = record { part = p; rest = rest; made_is = a.0; are = a.1; left = l; done = d }

pub none_filled : (dim : ℕ) (ps : List Part) → AreMade dim ps [] → ps ≡ []
none_filled dim [] a = refl
none_filled dim (p ∷ ps) a = absurd a
