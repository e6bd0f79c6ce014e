-- The lanes of a cell have the operators of the pieces with a computation there, and no more.
use Rattle.std.proofs.Common.{◌≡◌, ◌≢◌, ℕ, zero, suc, ◌+◌, ◌-◌, ◌<◌, ◌≤◌, Some, List, [], ◌∷◌, length, map, take, get_or, refl, sym, subst, arith, ◌∙◌, ap, IsTrue}
use Rattle.std.specs.Prelude.{Contains, slice_get, sum, nat_lt}
use Rattle.std.proofs.lemmas.List.{length-map}
use Rattle.std.proofs.lemmas.List.Sums.{sum_by-cons}
use Rattle.std.proofs.lemmas.Option.{slice_get_within, get_or_from_slice_get}
use Rattle.av_base.proofs.Among.{among_at}
use Rattle.av_base.proofs.Lists.{some_is, there_is}
use Rattle.av_base.proofs.Truths.{both}
use Rattle.av_tree.specs.Points.{Point}
use Rattle.av_flat.specs.Trees.{Piece, Variable}
use Rattle.av_flat.specs.Points.{has}
use Rattle.av_flat.specs.Signatures.{is_computed}
use Rattle.av_flat.specs.Nodes.{is_node, nodes}
use Rattle.av_space.specs.Quantities.{IsUse}
use Rattle.av_space.proofs.ByPlace.{from_map, pairs_by_place}
use Rattle.av_flat.proofs.NodeNumbers.{passing}
use Rattle.av_space.proofs.OneCell.{one_node}
use Rattle.av_kinds.specs.Programs.{Work, Mode, Lane, Program, lanes_of, IsProgram, is_active}
use Rattle.av_kinds.specs.Sorts.{Sort, operators, lanes_operators}
use Rattle.av_kinds.proofs.TopInstances.{in_cell, cell_within}
use Rattle.av_history.specs.Arranged.{IsArranged}
use Rattle.av_history.specs.Performing.{Array, ComputesOn, Lanes}
use Rattle.av_build.specs.ArrayForm.{ArePiecesOn}
use Rattle.av_build.specs.inner.Programmed.{IsLaneFor, of_value, of_helper, IsProgramFor}
use Rattle.av_build.proofs.CellValues.{HasValue}

-- ---- numbers of pieces

taken_at : {X : Type 0} (n : ℕ) (xs : List X) (i : ℕ) (x : X) → slice_get (take n xs) i ≡ Some x → (i < n) × (slice_get xs i ≡ Some x)
taken_at zero xs i x e = absurd cc
taken_at (suc n) [] i x e = absurd cc
taken_at (suc n) (y ∷ xs) zero x e = (omega arith, e)
taken_at (suc n) (y ∷ xs) (suc i) x e = let r = taken_at n xs i x e in (omega (arith, r.0), r.1)

take_has : {X : Type 0} (n : ℕ) (xs : List X) (i : ℕ) (x : X) → i < n → slice_get xs i ≡ Some x → slice_get (take n xs) i ≡ Some x
take_has zero xs i x lt e = absurd (omega (arith, lt))
take_has (suc n) [] i x lt e = absurd cc
take_has (suc n) (y ∷ xs) zero x lt e = e
take_has (suc n) (y ∷ xs) (suc i) x lt e = take_has n xs i x (omega (arith, lt)) e

-- ---- operators of modes and lanes

abbrev modes_operators : Sort → List Mode → ℕ
modes_operators k modes = sum (map (λ (m : Mode). operators k m.work.tree) modes)

abbrev pieces_operators : Sort → List Piece → ℕ
pieces_operators k pieces = sum (map (λ (q : Piece). operators k q.tree) pieces)

abbrev piece_at : Variable → Piece → ℕ → Piece
piece_at v none k = get_or v.pieces k none

-- the piece that a mode works on
record IsModeOn (v : Variable) (ks : List ℕ) (i : ℕ) (m : Mode) : Type 0 where
  number : ℕ
  piece : Piece
  at : slice_get ks i ≡ Some number
  is_piece : slice_get v.pieces number ≡ Some piece
  tree : m.work.tree ≡ piece.tree

same_operators : (k : Sort) (v : Variable) (none : Piece) (modes : List Mode) (ks : List ℕ) → ((i : ℕ) (m : Mode) → slice_get modes i ≡ Some m → IsModeOn v ks i m)
    → modes_operators k modes ≡ pieces_operators k (map (piece_at v none) (take (length modes) ks))
same_operators k v none [] ks h = refl
same_operators k v none (m ∷ modes) [] h = let r = (h 0 m refl).at in absurd cc
same_operators k v none (m ∷ modes) (n ∷ ks) h =
    let r = h 0 m refl in
    let same : n ≡ r.number = some_is n r.number r.at in
    let piece : piece_at v none n ≡ r.piece = ap (λ j. get_or v.pieces j none) same ∙ get_or_from_slice_get v.pieces r.number r.piece none r.is_piece in
    let here : operators k m.work.tree ≡ operators k (piece_at v none n).tree = ap (operators k) r.tree ∙ ap (λ (q : Piece). operators k q.tree) (sym piece) in
    let later = same_operators k v none modes ks (λ i t e. (let o = h (suc i) t e in record { number = o.number; piece = o.piece; at = o.at; is_piece = o.is_piece; tree = o.tree })) in
    let pieces = map (piece_at v none) (take (length modes) ks) in
    omega (
      arith,
      here,
      later,
      sum_by-cons (λ x. x) (operators k m.work.tree) (map (λ (o : Mode). operators k o.work.tree) modes),
      sum_by-cons (λ x. x) (operators k (piece_at v none n).tree) (map (λ (q : Piece). operators k q.tree) pieces),
    )

lanes_more : (k : Sort) (lane : Lane) (lanes : List Lane) → lanes_operators k (lane ∷ lanes) ≡ modes_operators k lane.modes + lanes_operators k lanes
lanes_more k lane lanes = sum_by-cons (λ x. x) (modes_operators k lane.modes) (map (λ (l : Lane). modes_operators k l.modes) lanes)

-- lanes but one, which has at most so many, have none
have_none : (k : Sort) (lanes : List Lane) → ((i : ℕ) (lane : Lane) → slice_get lanes i ≡ Some lane → modes_operators k lane.modes ≡ 0) → lanes_operators k lanes ≡ 0
have_none k [] h = refl
have_none k (lane ∷ lanes) h = omega (arith, lanes_more k lane lanes, h 0 lane refl, have_none k lanes (λ i x e. h (suc i) x e))

have_most : (k : Sort) (one most : ℕ) (lanes : List Lane) → ((i : ℕ) (lane : Lane) → slice_get lanes i ≡ Some lane → i ≢ one → modes_operators k lane.modes ≡ 0)
    → ((lane : Lane) → slice_get lanes one ≡ Some lane → modes_operators k lane.modes ≤ most) → lanes_operators k lanes ≤ most
have_most k one most [] h own = omega arith
have_most k zero most (lane ∷ lanes) h own = omega (arith, lanes_more k lane lanes, own lane refl, have_none k lanes (λ i x e. h (suc i) x e (λ f. omega (arith, f))))
have_most k (suc one) most (lane ∷ lanes) h own =
    omega (arith, lanes_more k lane lanes, h 0 lane refl (λ f. omega (arith, f)), have_most k one most lanes (λ i x e f. h (suc i) x e (λ g. f (omega (arith, g)))) own)

-- ---- one cell

module _ (a : Array) (count : ℕ → ℕ) (lanes : Lanes) (program : Program) (g : IsProgramFor a count lanes program) (is : IsProgram program) (arranged : IsArranged a) (p : ℕ) (h : HasValue a count lanes program p) where
  abbrev v : Variable
  v = h.variable

  -- the piece that holds the point of the cell's computation
  pub some_piece : (k : ℕ) × (piece : Piece) × (slice_get v.pieces k ≡ Some piece) × IsTrue (has piece.domain h.point)
  some_piece =
      let own = passing is_node a.system.variables h.node v h.is_variable in
      let computation = h.computes.stands.computation in
      let one : computation.variable ≡ v = some_is computation.variable v (sym computation.is ∙ h.is_variable) in
      let declared : IsTrue (has v.domain h.point) = subst (λ (u : Variable). IsTrue (has u.domain h.point)) one computation.declared in
      arranged.some_piece v h.point (among_at a.system.variables own.place v own.is) (both (is_computed v.kind) (nat_lt 0 (length v.pieces)) own.passes).0 declared

  abbrev modes : List Mode
  modes = h.lane.modes

  abbrev numbers : List ℕ
  numbers = take (length modes) h.is_value.pieces

  abbrev pub pieces : List Piece
  pieces = map (piece_at v some_piece.1) numbers

  mode_on : (i : ℕ) (m : Mode) → slice_get modes i ≡ Some m → IsModeOn v h.is_value.pieces i m
  mode_on i m e = let r = h.is_value.mode i m e in record { number = r.0; piece = r.1; at = r.2; is_piece = r.3; tree = r.4.tree }

  -- a number with its piece, and the mode that is active at the computations of the piece
  record HasMode (i k : ℕ) : Type 0 where
    mode : Mode
    is_mode : slice_get modes i ≡ Some mode
    own : Piece
    is_own : slice_get v.pieces k ≡ Some own
    cycle : ℕ
    point : Point
    computes : ComputesOn a p cycle h.node point
    within : IsTrue (has own.domain point)
    active : (c : ℕ) (z : Point) → ComputesOn a p c h.node z → IsTrue (has own.domain z) → IsTrue (is_active (count c) mode)

  number_mode : (i k : ℕ) → slice_get numbers i ≡ Some k → HasMode i k
  number_mode i k e =
      let at = taken_at (length modes) h.is_value.pieces i k e in
      let m = there_is modes i at.0 in
      let r = h.is_value.mode i m.0 m.1 in
      let same : r.0 ≡ k = some_is r.0 k (sym r.2 ∙ at.1) in
      let is_own = subst (λ (n : ℕ). slice_get v.pieces n ≡ Some r.1) same r.3 in
      let b = h.is_value.busy i k r.1 at.1 is_own in
      record {
        mode = m.0;
        is_mode = m.1;
        own = r.1;
        is_own = is_own;
        cycle = b.0;
        point = b.1;
        computes = b.2;
        within = b.3;
        active = λ c z computes inside. (r.5.numbers c h.node z computes refl).1 inside;
      }

  -- the node of a computation on the cell
  same_node : (c n : ℕ) (z : Point) → ComputesOn a p c n z → n ≡ h.node
  same_node c n z computes = one_node a.system a.times a.cells p c h.cycle n h.node z h.point computes h.computes

  use_of : (i k : ℕ) (piece : Piece) → slice_get numbers i ≡ Some k → slice_get pieces i ≡ Some piece → IsUse a.system a.times a.cells (record { cell = p; piece = k }) piece
  use_of i k piece is_number is_piece =
      let r = number_mode i k is_number in
      let x = from_map (piece_at v some_piece.1) numbers i piece is_piece in
      let one : x.0 ≡ k = some_is x.0 k (sym x.1 ∙ is_number) in
      let same : piece ≡ r.own = sym x.2 ∙ ap (piece_at v some_piece.1) one ∙ get_or_from_slice_get v.pieces k r.own some_piece.1 r.is_own in
      subst (λ (q : Piece). IsUse a.system a.times a.cells (record { cell = p; piece = k }) q) (sym same)
      (record { cycle = r.cycle; node = h.node; point = r.point; computes = r.computes; variable = v; is_variable = h.is_variable; is_piece = r.is_own; within = r.within })

  used : (k : ℕ) (piece : Piece) → IsUse a.system a.times a.cells (record { cell = p; piece = k }) piece → Contains numbers k
  used k piece u =
      let node = same_node u.cycle u.node u.point u.computes in
      let one : u.variable ≡ v = some_is u.variable v (sym u.is_variable ∙ ap (slice_get (nodes a.system)) node ∙ h.is_variable) in
      let is_piece : slice_get v.pieces k ≡ Some piece = subst (λ (x : Variable). slice_get x.pieces k ≡ Some piece) one u.is_piece in
      let found = h.is_value.every k piece is_piece u.cycle u.node u.point u.computes u.within in
      among_at numbers found.0 k (take_has (length modes) h.is_value.pieces found.0 k (slice_get_within modes found.0 found.1 found.2) found.3)

  -- two modes of one piece are one
  apart : (i j x y : ℕ) → slice_get numbers i ≡ Some x → slice_get numbers j ≡ Some y → i < j → x ≢ y
  apart i j x y is_x is_y less same =
      let r = number_mode i x is_x in
      let s = number_mode j x (subst (λ (n : ℕ). slice_get numbers j ≡ Some n) (sym same) is_y) in
      let one : r.own ≡ s.own = some_is r.own s.own (sym r.is_own ∙ s.is_own) in
      let inside = subst (λ (q : Piece). IsTrue (has q.domain r.point)) one r.within in
      let e = h.is_value.alone (count r.cycle) i j r.mode s.mode r.is_mode s.is_mode (r.active r.cycle r.point r.computes r.within) (s.active r.cycle r.point r.computes inside) in
      omega (arith, e, less)

  pub are_pieces : ArePiecesOn a.system a.times a.cells p pieces
  are_pieces = record {
    numbers = numbers;
    paired = sym (length-map numbers (piece_at v some_piece.1));
    each = use_of;
    all = used;
    once = pairs_by_place (λ (x y : ℕ). x ≢ y) numbers apart;
  }

  -- ---- the lanes of the cell

  -- pipelines hand on words, and have no operator
  no_operator : (k : Sort) (q : ℕ) (lane : Lane) → IsLaneFor a count lanes h.own.first p q lane → q ≢ lanes.of_value p → modes_operators k lane.modes ≡ 0
  no_operator k q lane (of_value c n z u computes is_variable at l) other = absurd (other at)
  no_operator k q lane (of_helper j helper u piece r is c z computes inside at low high l) other =
      let entry : operators k l.entry_mode.work.tree ≡ 0 = ap (λ (w : Work). operators k w.tree) l.entry_work in
      let own : operators k l.own_mode.work.tree ≡ 0 = ap (λ (w : Work). operators k w.tree) l.own_work in
      ap (modes_operators k) l.modes_are ∙ omega (arith, entry, own)

  pub few : (k : Sort) → lanes_operators k (lanes_of program h.own) ≤ sum (map (λ (q : Piece). operators k q.tree) pieces)
  few k = have_most k (h.own.value - h.own.first) (pieces_operators k pieces) (lanes_of program h.own) others value
    where
      low : h.own.first ≤ h.own.value
      low = (cell_within 0 program.cells (length program.lanes) is.in_turn p h.own h.is_own).low

      last : h.own.value ≡ lanes.of_value p
      last = g.value_last p h.own h.is_own

      others : (i : ℕ) (lane : Lane) → slice_get (lanes_of program h.own) i ≡ Some lane → i ≢ h.own.value - h.own.first → modes_operators k lane.modes ≡ 0
      others i lane at other =
          let t = in_cell program.lanes h.own.first (suc (h.own.value - h.own.first)) i lane at in
          no_operator k (h.own.first + i) lane (g.only p (h.own.first + i) h.own lane h.is_own (omega arith) (omega (arith, t.1, low)) t.0) (λ e. other (omega (arith, e, last, low)))

      value : (lane : Lane) → slice_get (lanes_of program h.own) (h.own.value - h.own.first) ≡ Some lane → modes_operators k lane.modes ≤ pieces_operators k pieces
      value lane at =
          let t = in_cell program.lanes h.own.first (suc (h.own.value - h.own.first)) (h.own.value - h.own.first) lane at in
          let there : h.own.first + (h.own.value - h.own.first) ≡ lanes.of_value p = omega (arith, last, low) in
          let one : lane ≡ h.lane = some_is lane h.lane (sym t.0 ∙ ap (slice_get program.lanes) there ∙ h.is_lane) in
          let sums : modes_operators k modes ≡ pieces_operators k pieces = same_operators k v some_piece.1 modes h.is_value.pieces mode_on in
          omega (arith, ap (λ (l : Lane). modes_operators k l.modes) one, sums)
