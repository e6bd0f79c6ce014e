-- Counts of operators, part by part.
use Rattle.std.proofs.Common.{◌≡◌, ◌≢◌, ℕ, zero, suc, ◌+◌, ◌-◌, ◌<◌, ◌≤◌, Some, List, [], ◌∷◌, ◌++◌, length, map, sum, refl, sym, ap, ap₂, subst, ◌∙◌, ◌⊎◌, inl, inr, ⊎_elim, arith}
use Rattle.std.specs.Prelude.{slice_get, Contains}
use Rattle.std.proofs.lemmas.Bool.{cases_lt}
use Rattle.std.proofs.lemmas.List.{length-append}
use Rattle.std.proofs.lemmas.List.Sums.{sum-map, sum_by-cons, sum_by-append}
use Rattle.std.proofs.lemmas.Option.{slice_get_within}
use Rattle.std.proofs.lemmas.List.Elements.{Contains-append_left, Contains-append_right}
use Rattle.av_flat.specs.Trees.{Piece, FlatSystem}
use Rattle.av_base.proofs.Among.{first_among}
use Rattle.av_depend.proofs.Listed.{pairs_joined}
use Rattle.av_space.specs.declared.cells.Cell.{Cell}
use Rattle.av_space.specs.Coordinates.{Placing}
use Rattle.av_space.specs.Quantities.{size, Use, IsUse, IsOperatorCount}
use Rattle.av_space.specs.inner.Counting.{IsCountOf, IsOnCell}
use Rattle.av_base.proofs.Lists.{get_second, some_is, there_is, place_in}

-- ---- lists side by side

get_left : {X : Type 0} (xs ys : List X) (k : ℕ) → k < length xs → slice_get (xs ++ ys) k ≡ slice_get xs k
get_left [] ys k l = absurd (omega (arith, l))
get_left (x ∷ xs) ys zero l = refl
get_left (x ∷ xs) ys (suc k) l = get_left xs ys k (omega (arith, l))

abbrev pub tree_sizes : List Piece → ℕ
tree_sizes ps = sum (map (λ (p : Piece). size p.tree) ps)

pub sizes_more : (p : Piece) (ps : List Piece) → tree_sizes (p ∷ ps) ≡ size p.tree + tree_sizes ps
sizes_more p ps =
    let f : Piece → ℕ = λ q. size q.tree in
    sum-map f (p ∷ ps) ∙ sum_by-cons f p ps ∙ ap (λ (n : ℕ). size p.tree + n) (sym (sum-map f ps))

pub sizes_joined : (ps qs : List Piece) → tree_sizes (ps ++ qs) ≡ tree_sizes ps + tree_sizes qs
sizes_joined ps qs =
    let f : Piece → ℕ = λ q. size q.tree in
    sum-map f (ps ++ qs) ∙ sum_by-append f ps qs ∙ ap₂ (λ (m n : ℕ). m + n) (sym (sum-map f ps)) (sym (sum-map f qs))

-- ---- counts

module _ (s : FlatSystem) (placings : List Placing) (cells : List Cell) where
  pub count_none : (P : Use → Type 0) → ((u : Use) (piece : Piece) → P u → IsUse s placings cells u piece → ⊥) → IsCountOf s placings cells P 0
  count_none P none = record {
    uses = [];
    pieces = [];
    paired = refl;
    each = λ k u piece e f. absurd cc;
    all = λ u piece h is. absurd (none u piece h is);
    once = λ i j d l m. absurd (omega (arith, m));
    total = refl;
  }

  pub count_one : (P : Use → Type 0) (u : Use) (piece : Piece) → IsUse s placings cells u piece → P u → ((v : Use) (q : Piece) → P v → IsUse s placings cells v q → v ≡ u) → IsCountOf s placings cells P (size piece.tree)
  count_one P u piece is h only = record {
    uses = u ∷ [];
    pieces = piece ∷ [];
    paired = refl;
    each = each;
    all = λ v q k is_use. subst (λ (w : Use). Contains (u ∷ []) w) (sym (only v q k is_use)) (first_among u []);
    once = λ i j d l m. absurd (omega (arith, l, m));
    total = omega arith;
  }
    where
      each : (k : ℕ) (v : Use) (q : Piece) → slice_get (u ∷ []) k ≡ Some v → slice_get (piece ∷ []) k ≡ Some q → P v × IsUse s placings cells v q
      each zero v q e f =
          let a : u ≡ v = some_is u v e in
          let b : piece ≡ q = some_is piece q f in
          (subst P a h, subst (λ (x : Use). IsUse s placings cells x q) a (subst (λ (y : Piece). IsUse s placings cells u y) b is))
      each (suc k) v q e f = absurd cc

  pub count_joined : (P Q R : Use → Type 0) (m n : ℕ) → IsCountOf s placings cells P m → IsCountOf s placings cells Q n → ((u : Use) → P u → R u) → ((u : Use) → Q u → R u)
      → ((u : Use) (piece : Piece) → IsUse s placings cells u piece → R u → P u ⊎ Q u) → ((u : Use) → P u → Q u → ⊥) → IsCountOf s placings cells R (m + n)
  count_joined P Q R m n a b left right cover apart = record {
    uses = a.uses ++ b.uses;
    pieces = a.pieces ++ b.pieces;
    paired = (let x = a.paired in let y = b.paired in let e = length-append a.pieces b.pieces in let f = length-append a.uses b.uses in omega (arith, x, y, e, f));
    each = λ k u piece e f. ⊎_elim (λ l. at_left k u piece e f l) (λ g. at_right k u piece e f g) (cases_lt k (length a.uses));
    all = λ u piece h is. ⊎_elim (λ p. Contains-append_left a.uses b.uses u (a.all u piece p is)) (λ q. Contains-append_right a.uses b.uses u (b.all u piece q is)) (cover u piece is h);
    once = pairs_joined (λ x y. x ≢ y) a.uses b.uses a.once b.once differ;
    total = ap₂ (λ (x y : ℕ). x + y) a.total b.total ∙ sym (sizes_joined a.pieces b.pieces);
  }
    where
      of_left : (u : Use) → Contains a.uses u → P u
      of_left u c =
          let i = place_in a.uses u c in
          let l = slice_get_within a.uses i.0 u i.1 in
          let q = there_is a.pieces i.0 (let e = a.paired in omega (arith, e, l)) in
          (a.each i.0 u q.0 i.1 q.1).0

      of_right : (u : Use) → Contains b.uses u → Q u
      of_right u c =
          let i = place_in b.uses u c in
          let l = slice_get_within b.uses i.0 u i.1 in
          let q = there_is b.pieces i.0 (let e = b.paired in omega (arith, e, l)) in
          (b.each i.0 u q.0 i.1 q.1).0

      differ : (x y : Use) → Contains a.uses x → Contains b.uses y → x ≢ y
      differ x y c d e = apart y (subst P e (of_left x c)) (of_right y d)

      at_left : (k : ℕ) (u : Use) (piece : Piece) → slice_get (a.uses ++ b.uses) k ≡ Some u → slice_get (a.pieces ++ b.pieces) k ≡ Some piece → k < length a.uses → R u × IsUse s placings cells u piece
      at_left k u piece e f l =
          let m : k < length a.pieces = (let x = a.paired in omega (arith, x, l)) in
          let h = a.each k u piece (sym (get_left a.uses b.uses k l) ∙ e) (sym (get_left a.pieces b.pieces k m) ∙ f) in
          (left u h.0, h.1)

      at_right : (k : ℕ) (u : Use) (piece : Piece) → slice_get (a.uses ++ b.uses) k ≡ Some u → slice_get (a.pieces ++ b.pieces) k ≡ Some piece → length a.uses ≤ k → R u × IsUse s placings cells u piece
      at_right k u piece e f l =
          let j : ℕ = k - length a.uses in
          let is : k ≡ length a.uses + j = omega (arith, l) in
          let other : k ≡ length a.pieces + j = (let x = a.paired in omega (arith, l, x)) in
          let g = sym (get_second a.uses b.uses j) ∙ ap (λ (n : ℕ). slice_get (a.uses ++ b.uses) n) (sym is) ∙ e in
          let i = sym (get_second a.pieces b.pieces j) ∙ ap (λ (n : ℕ). slice_get (a.pieces ++ b.pieces) n) (sym other) ∙ f in
          let h = b.each j u piece g i in
          (right u h.0, h.1)

  -- ---- counts of the pieces of a cell, and of cells

  -- the piece in hand is on the cell
  pub one_more : (p j sum : ℕ) (piece : Piece) → IsCountOf s placings cells (λ u. (u.cell ≡ p) × (u.piece < j)) sum → IsUse s placings cells (record { cell = p; piece = j }) piece
      → IsCountOf s placings cells (λ u. (u.cell ≡ p) × (u.piece < j + 1)) (sum + size piece.tree)
  one_more p j sum piece h is =
      count_joined (λ u. (u.cell ≡ p) × (u.piece < j)) (λ u. (u.cell ≡ p) × (u.piece ≡ j)) (λ u. (u.cell ≡ p) × (u.piece < j + 1)) sum (size piece.tree) h
      (count_one (λ u. (u.cell ≡ p) × (u.piece ≡ j)) (record { cell = p; piece = j }) piece is (refl, refl) (λ v q k is_use. same v k))
      (λ u k. (k.0, (let l = k.1 in omega (arith, l)))) (λ u k. (k.0, (let l = k.1 in omega (arith, l)))) (λ u q is_use k. cases u k) (λ u k l. (let a = k.1 in let b = l.1 in omega (arith, a, b)))
    where
      same : (v : Use) → (v.cell ≡ p) × (v.piece ≡ j) → v ≡ record { cell = p; piece = j }
      same v k = ap₂ (λ (a b : ℕ). let u : Use = record { cell = a; piece = b } in u) k.0 k.1

      cases : (u : Use) → (u.cell ≡ p) × (u.piece < j + 1) → ((u.cell ≡ p) × (u.piece < j)) ⊎ ((u.cell ≡ p) × (u.piece ≡ j))
      cases u k = ⊎_elim (λ l. inl (k.0, l)) (λ g. inr (k.0, (let l = k.1 in omega (arith, l, g)))) (cases_lt u.piece j)

  -- the same uses under another name
  renamed : (P R : Use → Type 0) (sum : ℕ) → IsCountOf s placings cells P sum → ((u : Use) → P u → R u) → ((u : Use) (piece : Piece) → IsUse s placings cells u piece → R u → P u) → IsCountOf s placings cells R sum
  renamed P R sum h over back = record {
    uses = h.uses;
    pieces = h.pieces;
    paired = h.paired;
    each = λ k u piece e f. (let at = h.each k u piece e f in (over u at.0, at.1));
    all = λ u piece r is. h.all u piece (back u piece is r) is;
    once = h.once;
    total = h.total;
  }

  pub not_more : (p j sum : ℕ) → IsCountOf s placings cells (λ u. (u.cell ≡ p) × (u.piece < j)) sum → ((piece : Piece) → IsUse s placings cells (record { cell = p; piece = j }) piece → ⊥)
      → IsCountOf s placings cells (λ u. (u.cell ≡ p) × (u.piece < j + 1)) sum
  not_more p j sum h none =
      renamed (λ u. (u.cell ≡ p) × (u.piece < j)) (λ u. (u.cell ≡ p) × (u.piece < j + 1)) sum h (λ u k. (k.0, (let l = k.1 in omega (arith, l)))) (λ u q is_use k. before u q is_use k)
    where
      before : (u : Use) (q : Piece) → IsUse s placings cells u q → (u.cell ≡ p) × (u.piece < j + 1) → (u.cell ≡ p) × (u.piece < j)
      before u q is_use k = ⊎_elim (λ l. (k.0, l))
          (λ g. let same : u.piece ≡ j = (let l = k.1 in omega (arith, l, g)) in
          absurd (none q (subst (λ (x : Use). IsUse s placings cells x q) (ap₂ (λ (a b : ℕ). let w : Use = record { cell = a; piece = b } in w) k.0 same) is_use)))
          (cases_lt u.piece j)

  -- all pieces of the cell
  pub whole_cell : (p n sum : ℕ) → IsCountOf s placings cells (λ u. (u.cell ≡ p) × (u.piece < n)) sum → ((u : Use) (piece : Piece) → IsUse s placings cells u piece → u.cell ≡ p → u.piece < n)
      → IsCountOf s placings cells (IsOnCell p) sum
  whole_cell p n sum h few = renamed (λ u. (u.cell ≡ p) × (u.piece < n)) (IsOnCell p) sum h (λ u k. k.0) (λ u q is_use k. (k, few u q is_use k))

  -- cell after cell
  pub next_cell : (p sum n : ℕ) → IsCountOf s placings cells (λ u. u.cell < p) sum → IsCountOf s placings cells (IsOnCell p) n → IsCountOf s placings cells (λ u. u.cell < p + 1) (sum + n)
  next_cell p sum n h k =
      count_joined (λ u. u.cell < p) (IsOnCell p) (λ u. u.cell < p + 1) sum n h k (λ u l. omega (arith, l)) (λ u e. omega (arith, e))
      (λ u q is_use l. ⊎_elim (λ a. inl a) (λ g. inr (omega (arith, l, g))) (cases_lt u.cell p)) (λ u l e. omega (arith, l, e))

  pub all_cells : (sum : ℕ) → IsCountOf s placings cells (λ u. u.cell < length cells) sum → IsOperatorCount s placings cells sum
  all_cells sum h = record {
    uses = h.uses;
    pieces = h.pieces;
    paired = h.paired;
    each = λ k u piece e f. (h.each k u piece e f).1;
    all = λ u piece is. h.all u piece (slice_get_within cells u.cell is.computes.cell is.computes.is_cell) is;
    once = h.once;
    total = h.total;
  }
