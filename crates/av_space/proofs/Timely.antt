-- What a tap site reads was computed before: by the schedule.
use Rattle.std.proofs.Common.{◌≡◌, ℕ, zero, suc, ◌+◌, ◌-◌, ◌<◌, List, [], ◌∷◌, ◌++◌, length, map, refl, sym, subst, arith, ◌∙◌, ap, Bool, true, false, ◌&&◌, not, if◌then◌else◌, ℤ, pos, negsuc, ◌+ℤ◌, ◌≤ℤ◌, Option, Some, None, inl, inr}
use Rattle.std.specs.Prelude.{Contains, IsTrue, slice_get, filter, nat_lt}
use Rattle.std.specs.List.{AllByRecursion, flat_map}
use Rattle.std.proofs.lemmas.Int.{ints}
use Rattle.std.proofs.lemmas.List.{length-map}
use Rattle.std.proofs.lemmas.List.Elements.{All-contains, recursion_from_All}
use Rattle.av_affine.specs.Maps.{image}
use Rattle.av_poly.specs.Points.{Set}
use Rattle.av_tree.specs.Points.{Point}
use Rattle.av_flat.specs.declared.tree.Choice.{Choice}
use Rattle.av_flat.specs.Trees.{Tree, Piece, Variable, FlatSystem, reference, constant, binary, choice, restriction, cases, dependence, reduction, pick, right_side}
use Rattle.av_flat.specs.Counts.{count}
use Rattle.av_flat.specs.Proper.{IsProper}
use Rattle.av_flat.specs.WellFormed.{EachPart, is_reduction}
use Rattle.av_flat.specs.Kept.{IsPlain, ReadsDeclared}
use Rattle.av_space.proofs.OnePiece.{IsKept, hits, counted, some_piece, one_piece}
use Rattle.av_flat.specs.Points.{has}
use Rattle.av_flat.specs.Signatures.{Signature, signature, signatures, is_computed, is_declared_at}
use Rattle.av_flat.specs.Values.{picked}
use Rattle.av_flat.specs.declared.timed.Time.{Time}
use Rattle.av_flat.specs.declared.timed.Helper.{Helper}
use Rattle.av_space.specs.declared.cells.Cell.{Cell as CellMade}
use Rattle.av_space.specs.Coordinates.{Placing, along}
use Rattle.av_flat.specs.Nodes.{is_node, nodes, number_at, IsComputation}
use Rattle.av_flat.specs.Schedules.{cycle, IsSchedule}
use Rattle.av_space.specs.Occupancy.{IsUsed, AreCells, Computes}
use Rattle.av_flat.specs.Broadcasts.{references}
use Rattle.av_flat.specs.Reads.{IsRead, IsPair}
use Rattle.av_flat.specs.Chained.{ReadsThere}
use Rattle.av_flat.specs.Helped.{before}
use Rattle.av_space.specs.inner.SpotTaps.{IsComputedRead}
use Rattle.av_flat.specs.Sites.{Place, places_in, places_from}
use Rattle.av_space.specs.Taps.{Pipeline, helper_at, Way, each, entries, handed, Tap, taps_by, taps_at, is_own, all_taps, taps, IsReadBy, IsTapRead}
use Rattle.av_depend.specs.ComputedPlaces.{computed_at}
use Rattle.av_space.proofs.Elements.{each_at, in_range}
use Rattle.av_flat.proofs.Cycles.{node_at}
use Rattle.av_base.proofs.Among.{among_at}
use Rattle.av_base.proofs.Lists.{each_append, each_by_place, each_filtered, each_weaker, get_mapped, some_is, there_is, place_in}

-- ---- where taps come from

-- what the place reads is read by the tree
abbrev pub IsPart : Tree → Tree → Type 0
IsPart t tree = (z : Point) (place : ℕ) (y : Point) → IsReadBy t z place y → IsRead tree z place y

pub record IsPlaceIn (k : ℕ) (tree : Tree) (p : Place) : Type 0 where
  pub piece_is : p.piece ≡ k
  pub part : IsPart p.tree tree

in_larger : (k : ℕ) (small large : Tree) → ((z : Point) (place : ℕ) (y : Point) → IsRead small z place y → IsRead large z place y) → (ps : List Place) → AllByRecursion (IsPlaceIn k small) ps → AllByRecursion (IsPlaceIn k large) ps
in_larger k small large f ps h = each_weaker (IsPlaceIn k small) (IsPlaceIn k large) (λ p x. record { piece_is = x.piece_is; part = λ z place y r. f z place y (x.part z place y r) }) ps h

pub places_are : (k n : ℕ) (tree : Tree) → AllByRecursion (IsPlaceIn k tree) (places_in k n tree)
places_are k n (reference place m) = (record { piece_is = refl; part = λ z place y r. r }, tt)
places_are k n (constant w) = tt
places_are k n (binary g l r) =
    each_append (IsPlaceIn k (binary g l r)) (places_in k n l) (places_in k (n + length (references l)) r)
    (in_larger k l (binary g l r) (λ z place y h. inl h) (places_in k n l) (places_are k n l))
    (in_larger k r (binary g l r) (λ z place y h. inr h) (places_in k (n + length (references l)) r) (places_are k (n + length (references l)) r))
places_are k n (choice l c' r x v) =
    let t = choice l c' r x v in
    let nr = n + length (references l) in
    let nx = nr + length (references r) in
    let nv = nx + length (references x) in
    let ll = places_in k n l in
    let rr = places_in k nr r in
    let xx = places_in k nx x in
    let vv = places_in k nv v in
    let pl = in_larger k l t (λ z place y h. inl h) ll (places_are k n l) in
    let pr = in_larger k r t (λ z place y h. inr (inl h)) rr (places_are k nr r) in
    let px = in_larger k x t (λ z place y h. inr (inr (inl h))) xx (places_are k nx x) in
    let pv = in_larger k v t (λ z place y h. inr (inr (inr h))) vv (places_are k nv v) in
    four ll rr xx vv pl pr px pv
  where
    four : (a b c d : List Place) → AllByRecursion (IsPlaceIn k (choice l c' r x v)) a → AllByRecursion (IsPlaceIn k (choice l c' r x v)) b → AllByRecursion (IsPlaceIn k (choice l c' r x v)) c → AllByRecursion (IsPlaceIn k (choice l c' r x v)) d
        → AllByRecursion (IsPlaceIn k (choice l c' r x v)) (a ++ b ++ c ++ d)
    four a b c d pa pb pc pd =
        let P = IsPlaceIn k (choice l c' r x v) in
        each_append P (a ++ b ++ c) d (each_append P (a ++ b) c (each_append P a b pa pb) pc) pd
places_are k n (pick place choices w) = (record { piece_is = refl; part = λ z place y r. r }, tt)
places_are k n _ = tt

-- of the pieces from number k on
record IsPlaceOf (k : ℕ) (pieces : List Piece) (p : Place) : Type 0 where
  number : ℕ
  number_is : p.piece ≡ k + number
  piece : Piece
  is_piece : slice_get pieces number ≡ Some piece
  part : IsPart p.tree piece.tree

places_of : (k : ℕ) (pieces : List Piece) → AllByRecursion (IsPlaceOf k pieces) (places_from k pieces)
places_of k [] = tt
places_of k (q ∷ pieces) =
    each_append (IsPlaceOf k (q ∷ pieces)) (places_in k 0 q.tree) (places_from (suc k) pieces)
    (each_weaker (IsPlaceIn k q.tree) (IsPlaceOf k (q ∷ pieces)) (λ p x. record { number = 0; number_is = x.piece_is ∙ omega arith; piece = q; is_piece = refl; part = x.part }) (places_in k 0 q.tree) (places_are k 0 q.tree))
    (each_weaker (IsPlaceOf (suc k) pieces) (IsPlaceOf k (q ∷ pieces)) (λ p x. record { number = suc x.number; number_is = x.number_is ∙ omega arith; piece = x.piece; is_piece = x.is_piece; part = x.part }) (places_from (suc k) pieces) (places_of (suc k) pieces))

-- what is tapped is computed, and a helper's tap is of the helper of its reference
pub computed_there : (s : FlatSystem) (t : Tree) → IsComputedRead s t → (z : Point) (place : ℕ) (y : Point) → IsReadBy t z place y → computed_at (slice_get s.variables place) ≡ true
computed_there s (reference q m) c z place y r = subst (λ i. computed_at (slice_get s.variables i) ≡ true) (sym r.0) c
computed_there s (pick q choices m) c z place y r = subst (λ i. computed_at (slice_get s.variables i) ≡ true) (sym r.0) c
computed_there s _ c z place y r = absurd c

abbrev IsFair : FlatSystem → List Helper → ℕ → Place → Way → Type 0
IsFair s hs own p each = IsComputedRead s p.tree
IsFair s hs own p (entries w) = IsComputedRead s p.tree
IsFair s hs own p (handed h w) = helper_at hs own p.piece p.site ≡ Some (record { number = h; direction = w })

record IsTapOf (s : FlatSystem) (hs : List Helper) (own : ℕ) (v : Variable) (t : Tap) : Type 0 where
  of_place : IsPlaceOf 0 v.pieces t.place
  fair : IsFair s hs own t.place t.way

fair_taps : (s : FlatSystem) (hs : List Helper) (own : ℕ) (v : Variable) (p : Place) → IsPlaceOf 0 v.pieces p → (b : Bool) → (b ≡ true → IsComputedRead s p.tree)
    → (o : Option Pipeline) → ((h : Pipeline) → o ≡ Some h → helper_at hs own p.piece p.site ≡ Some h) → AllByRecursion (IsTapOf s hs own v) (taps_by b o p)
fair_taps s hs own v p is true e None f = (record { of_place = is; fair = e refl }, tt)
fair_taps s hs own v p is true e (Some h) f = (record { of_place = is; fair = e refl }, (record { of_place = is; fair = f h refl }, tt))
fair_taps s hs own v p is false e None f = tt
fair_taps s hs own v p is false e (Some h) f = (record { of_place = is; fair = f h refl }, tt)

place_taps : (s : FlatSystem) (hs : List Helper) (own : ℕ) (v : Variable) (p : Place) → IsPlaceOf 0 v.pieces p → (t : Tree) → p.tree ≡ t → AllByRecursion (IsTapOf s hs own v) (taps_at s hs own t p)
place_taps s hs own v p is (reference place m) e =
    fair_taps s hs own v p is (computed_at (slice_get s.variables place)) (λ h. subst (IsComputedRead s) (sym e) h) (helper_at hs own p.piece p.site) (λ h f. f)
place_taps s hs own v p is (pick place choices n) e = fair_taps s hs own v p is (computed_at (slice_get s.variables place)) (λ h. subst (IsComputedRead s) (sym e) h) None (λ h f. absurd cc)
place_taps s hs own v p is _ e = tt

pub all_flat : {X Y : Type 0} (P : X → Type 0) (Q : Y → Type 0) (f : X → List Y) → ((x : X) → P x → AllByRecursion Q (f x)) → (xs : List X) → AllByRecursion P xs → AllByRecursion Q (flat_map f xs)
all_flat P Q f g [] h = tt
all_flat P Q f g (x ∷ xs) h = each_append Q (f x) (flat_map f xs) (g x h.0) (all_flat P Q f g xs h.1)

taps_are : (s : FlatSystem) (hs : List Helper) (own : ℕ) (v : Variable) → AllByRecursion (IsTapOf s hs own v) (taps s hs own v)
taps_are s hs own v =
    let all = all_flat (IsPlaceOf 0 v.pieces) (IsTapOf s hs own v) (λ (p : Place). taps_at s hs own p.tree p) (λ p is. place_taps s hs own v p is p.tree refl) (places_from 0 v.pieces) (places_of 0 v.pieces) in
    let others : Tap → Bool = λ t. not (is_own own t.place.tree) in
    let mine : Tap → Bool = λ t. is_own own t.place.tree in
    each_append (IsTapOf s hs own v) (filter others (all_taps s hs own v)) (filter mine (all_taps s hs own v)) (each_filtered (IsTapOf s hs own v) others (all_taps s hs own v) all) (each_filtered (IsTapOf s hs own v) mine (all_taps s hs own v) all)

-- ---- what is read is declared

picked_there : (vs : List Signature) (set : Set) (place : ℕ) (choices : List Choice) → AllByRecursion (λ c. (z : Point) → IsTrue (has set z) → IsTrue (has c.set z) → IsTrue (is_declared_at vs place (image c.map.rows z))) choices
    → (z y : Point) → IsTrue (has set z) → picked choices z ≡ Some y → IsTrue (is_declared_at vs place y)
picked_there vs set place [] h z y inside e = absurd cc
picked_there vs set place (c ∷ choices) h z y inside e = by_test (λ f. picked_there vs set place choices h.1 z y inside f) (has c.set z) refl e
  where
    by_test : (picked choices z ≡ Some y → IsTrue (is_declared_at vs place y)) → (b : Bool) → has c.set z ≡ b → (if b then Some (image c.map.rows z) else picked choices z) ≡ Some y → IsTrue (is_declared_at vs place y)
    by_test later true t f = subst (λ (x : Point). is_declared_at vs place x ≡ true) (some_is (image c.map.rows z) y f) (h.0 z inside t)
    by_test later false t f = later f

read_there : (vs : List Signature) (set : Set) (t : Tree) → ReadsThere vs set t → (z : Point) (place : ℕ) (y : Point) → IsTrue (has set z) → IsRead t z place y → IsTrue (is_declared_at vs place y)
read_there vs set (reference p m) h z place y inside r = subst (λ k. is_declared_at vs k y ≡ true) (sym r.0) (subst (λ (x : Point). is_declared_at vs p x ≡ true) (sym r.1) (h z inside))
read_there vs set (constant n) h z place y inside r = absurd r
read_there vs set (binary g l r) h z place y inside q = elim q [
  | inl a ↦ read_there vs set l h.0 z place y inside a
  | inr a ↦ read_there vs set r h.1 z place y inside a
]
read_there vs set (choice l c r x v) h z place y inside q = elim q [
  | inl a ↦ read_there vs set l h.0 z place y inside a
  | inr b ↦ elim b [
    | inl a ↦ read_there vs set r h.1 z place y inside a
    | inr d ↦ elim d [
      | inl a ↦ read_there vs set x h.2 z place y inside a
      | inr a ↦ read_there vs set v h.3 z place y inside a
    ]
  ]
]
read_there vs set (pick p choices n) h z place y inside r =
    subst (λ k. is_declared_at vs k y ≡ true) (sym r.0)
    (picked_there vs set p choices (recursion_from_All (λ c. (z : Point) → IsTrue (has set z) → IsTrue (has c.set z) → IsTrue (is_declared_at vs p (image c.map.rows z))) choices h) z y inside r.1)
read_there vs set _ h z place y inside r = absurd r

declared_is : (vs : List Variable) (place : ℕ) (y : Point) → is_declared_at (map signature vs) place y ≡ true → (w : Variable) × (slice_get vs place ≡ Some w) × (has w.domain y ≡ true)
declared_is [] place y h = absurd cc
declared_is (v ∷ vs) zero y h = (v, refl, h)
declared_is (v ∷ vs) (suc place) y h = declared_is vs place y h

-- ---- the schedule

pub record Scheduled (s : FlatSystem) (hs : List Helper) (placings : List Placing) (cells : List CellMade) : Type 0 where
  pub schedule : IsSchedule s 4 (map (λ (p : Placing). p.time) placings)
  pub are_cells : AreCells s placings cells
  -- kept pieces of a chained system
  pub within : (v : Variable) (k : ℕ) (piece : Piece) → Contains s.variables v → slice_get v.pieces k ≡ Some piece → (z : Point) → has piece.domain z ≡ true → has v.domain z ≡ true
  pub reads : (v : Variable) (k : ℕ) (piece : Piece) → Contains s.variables v → slice_get v.pieces k ≡ Some piece → ReadsThere (signatures s) piece.domain piece.tree
  pub plain : (v : Variable) (k : ℕ) (piece : Piece) → Contains s.variables v → slice_get v.pieces k ≡ Some piece → EachPart IsPlain piece.tree
  pub no_reduction : (v : Variable) (k : ℕ) (piece : Piece) → Contains s.variables v → slice_get v.pieces k ≡ Some piece → EachPart (λ u. is_reduction u ≡ false) piece.tree
  pub proper : IsProper s
  -- the law of helpers
  pub handed_later : (own piece site : ℕ) (h : Pipeline) (v : Variable) (q : Piece) (t : Time) → slice_get s.variables own ≡ Some v → slice_get v.pieces piece ≡ Some q → helper_at hs own piece site ≡ Some h
      → slice_get (map (λ (p : Placing). p.time) placings) (number_at s own) ≡ Some t → (z : Point) → has q.domain z ≡ true → (cycle t (before z h.direction) +ℤ pos 1) ≤ℤ cycle t z

-- ---- each point is in one piece

declared_reads : (vs : List Signature) (set : Set) (t : Tree) → ReadsThere vs set t → EachPart (λ u. is_reduction u ≡ false) t → ReadsDeclared vs set t
declared_reads vs set (reference place m) h none = h
declared_reads vs set (binary g l r) h none = (declared_reads vs set l h.0 none.1, declared_reads vs set r h.1 none.2)
declared_reads vs set (choice l c r x y) h none =
    (declared_reads vs set l h.0 none.1, declared_reads vs set r h.1 none.2, declared_reads vs set x h.2 none.3, declared_reads vs set y h.3 none.4)
declared_reads vs set (reduction o m t inner) h none = absurd (cannot none.0)
  where
    cannot : true ≡ false → ⊥
    cannot e = absurd cc
declared_reads vs set (constant n) h none = tt
declared_reads vs set (restriction d t) h none = tt
declared_reads vs set (cases ts) h none = tt
declared_reads vs set (dependence m t) h none = tt
declared_reads vs set (pick place choices n) h none = tt

one_hit : (s : FlatSystem) (hs : List Helper) (placings : List Placing) (cells : List CellMade) → Scheduled s hs placings cells → (v : Variable) (z : Point) → Contains s.variables v → is_computed v.kind ≡ true → has v.domain z ≡ true → hits z v.pieces ≡ 1
one_hit s hs placings cells g v z among computed declared =
    let kept : AllByRecursion (IsKept (signatures s)) v.pieces = each_by_place (IsKept (signatures s)) v.pieces
    (λ k piece at. record { plain = g.plain v k piece among at; reads = declared_reads (signatures s) piece.domain piece.tree (g.reads v k piece among at) (g.no_reduction v k piece among at) }) in
    let P : Variable → Type 0 = λ v. IsTrue (is_computed v.kind) → (z : Point) → IsTrue (has v.domain z) → count (signatures s) (right_side v) z ≡ 1 in
    let is = All-contains P s.variables v g.proper.counted among computed z declared in
    sym (counted (signatures s) z v.pieces kept) ∙ is

pub some_piece_of : (s : FlatSystem) (hs : List Helper) (placings : List Placing) (cells : List CellMade) → Scheduled s hs placings cells → (v : Variable) (z : Point) → Contains s.variables v → is_computed v.kind ≡ true → has v.domain z ≡ true
    → (k : ℕ) × (piece : Piece) × (slice_get v.pieces k ≡ Some piece) × (has piece.domain z ≡ true)
some_piece_of s hs placings cells g v z among computed declared = some_piece z v.pieces (omega (arith, one_hit s hs placings cells g v z among computed declared))

pub one_piece_of : (s : FlatSystem) (hs : List Helper) (placings : List Placing) (cells : List CellMade) → Scheduled s hs placings cells → (v : Variable) (z : Point) → Contains s.variables v → is_computed v.kind ≡ true → has v.domain z ≡ true
    → (j k : ℕ) (p q : Piece) → slice_get v.pieces j ≡ Some p → slice_get v.pieces k ≡ Some q → has p.domain z ≡ true → has q.domain z ≡ true → j ≡ k
one_piece_of s hs placings cells g v z among computed declared j k p q at bt hp hq = one_piece z v.pieces (omega (arith, one_hit s hs placings cells g v z among computed declared)) j k p q at bt hp hq

-- ---- what a piece reads

-- a variable with its point at a place
pub record IsDeclaredRead (s : FlatSystem) (place : ℕ) (y : Point) : Type 0 where
  pub variable : Variable
  pub is : slice_get s.variables place ≡ Some variable
  pub declared : has variable.domain y ≡ true

pub read_declared : (s : FlatSystem) (hs : List Helper) (placings : List Placing) (cells : List CellMade) → Scheduled s hs placings cells → (v : Variable) → Contains s.variables v
    → (k : ℕ) (piece : Piece) → slice_get v.pieces k ≡ Some piece → (z : Point) → has piece.domain z ≡ true → (place : ℕ) (y : Point) → IsRead piece.tree z place y → IsDeclaredRead s place y
read_declared s hs placings cells g v among k piece is_piece z inside place y read =
    let w = declared_is s.variables place y (read_there (signatures s) piece.domain piece.tree (g.reads v k piece among is_piece) z place y inside read) in
    record { variable = w.0; is = w.1; declared = w.2 }

-- a computed one, which is a node
pub record IsNodeRead (s : FlatSystem) (place : ℕ) (y : Point) : Type 0 where
  pub variable : Variable
  pub is : slice_get s.variables place ≡ Some variable
  pub declared : has variable.domain y ≡ true
  pub computed : is_computed variable.kind ≡ true
  pub node : is_node variable ≡ true

pub read_node : (s : FlatSystem) (hs : List Helper) (placings : List Placing) (cells : List CellMade) → Scheduled s hs placings cells → (v : Variable) → Contains s.variables v
    → (k : ℕ) (piece : Piece) → slice_get v.pieces k ≡ Some piece → (z : Point) → has piece.domain z ≡ true → (place : ℕ) (y : Point) → IsRead piece.tree z place y
    → computed_at (slice_get s.variables place) ≡ true → IsNodeRead s place y
read_node s hs placings cells g v among k piece is_piece z inside place y read computed =
    let w = read_declared s hs placings cells g v among k piece is_piece z inside place y read in
    let is_comp : is_computed w.variable.kind ≡ true = subst (λ (o : Option Variable). computed_at o ≡ true) w.is computed in
    let some = some_piece_of s hs placings cells g w.variable y (among_at s.variables place w.variable w.is) is_comp w.declared in
    record {
      variable = w.variable;
      is = w.is;
      declared = w.declared;
      computed = is_comp;
      node = both_true (is_computed w.variable.kind) (nat_lt 0 (length w.variable.pieces)) is_comp (less 0 (length w.variable.pieces) (omega (arith, in_range w.variable.pieces some.0 some.1 some.2)));
    }
  where
    both_true : (a b : Bool) → a ≡ true → b ≡ true → (a && b) ≡ true
    both_true a b e f = rw (e, f) refl

    less : (m n : ℕ) → m < n → nat_lt m n ≡ true
    less m n h = grind arith

pub natural : (x : ℤ) → pos 0 ≤ℤ x → (n : ℕ) × (pos n ≡ x)
natural (pos n) h = (n, refl)
natural (negsuc n) h = absurd (omega (arith, ints, h))

-- a computation stands on a cell
pub stands : (s : FlatSystem) (hs : List Helper) (placings : List Placing) (cells : List CellMade) → Scheduled s hs placings cells → (k : ℕ) (y : Point) → IsComputation s k y → (pl : Placing) → slice_get placings k ≡ Some pl
    → (q : ℕ) × (b : ℕ) × (pos b ≡ cycle pl.time y) × Computes s placings cells q b k y
stands s hs placings cells g k y comp pl at =
    let start = g.schedule.starts k y pl.time comp (get_mapped (λ (p : Placing). p.time) placings k pl at) in
    let b = natural (cycle pl.time y) start in
    let cell : CellMade = record { node = k; at = along pl.rows y } in
    let used : IsUsed s placings cell = (b.0, k, y, record { computation = comp; placing = pl; is_placing = at; node = refl; at = refl; in_cycle = b.1 }) in
    let place = place_in cells cell (g.are_cells.all cell used) in
    (place.0, b.0, b.1, record { cell = cell; is_cell = place.1; stands = used.3 })

-- and where its reader is a cycle later, so many cycles before it
apart : (b c : ℕ) (x y : ℤ) → pos b ≡ x → pos c ≡ y → (x +ℤ pos 1) ≤ℤ y → (d : ℕ) × (b + d ≡ c) × (0 < d)
apart b c x y eb ec le = (c - b, omega (arith, ints, eb, ec), omega (arith, ints, eb, ec))

pub earlier : (s : FlatSystem) (hs : List Helper) (placings : List Placing) (cells : List CellMade) → Scheduled s hs placings cells
    → (p c n : ℕ) (z : Point) (own : ℕ) (v : Variable) → slice_get s.variables own ≡ Some v → is_node v ≡ true → n ≡ number_at s own → Computes s placings cells p c n z
    → (piece : Piece) (j : ℕ) (tap : Tap) → slice_get v.pieces tap.place.piece ≡ Some piece → has piece.domain z ≡ true → slice_get (taps s hs own v) j ≡ Some tap
    → (k : ℕ) (y : Point) → IsTapRead s n tap.place.tree tap.way piece z k y
    → (q : ℕ) × (b : ℕ) × (d : ℕ) × (b + d ≡ c) × (0 < d) × Computes s placings cells q b k y
earlier s hs placings cells g p c n z own v is_own node number computes piece j tap is_piece inside is_tap k y reads =
    let good = each_at (IsTapOf s hs own v) (taps s hs own v) (taps_are s hs own v) j tap is_tap in
    by_way tap.way good.fair reads (part_of good)
  where
    among : Contains s.variables v
    among = among_at s.variables own v is_own

    is_reader : slice_get (nodes s) n ≡ Some v
    is_reader = subst (λ m. slice_get (nodes s) m ≡ Some v) (sym number) (node_at is_node s.variables own v is_own node)

    -- with the placing of the computation that is read
    placed : (comp : IsComputation s k y) → ((t u : Time) → slice_get (map (λ (p : Placing). p.time) placings) n ≡ Some t → slice_get (map (λ (p : Placing). p.time) placings) k ≡ Some u → (cycle u y +ℤ pos 1) ≤ℤ cycle t z)
        → (q : ℕ) × (b : ℕ) × (d : ℕ) × (b + d ≡ c) × (0 < d) × Computes s placings cells q b k y
    placed comp later =
        let many : length placings ≡ length (nodes s) = sym (length-map placings (λ (p : Placing). p.time)) ∙ g.schedule.one_each in
        let pl = there_is placings k (omega (arith, many, in_range (nodes s) k comp.variable comp.is)) in
        let there = stands s hs placings cells g k y comp pl.0 pl.1 in
        let mine = computes.stands in
        let le = later mine.placing.time pl.0.time (get_mapped (λ (p : Placing). p.time) placings n mine.placing mine.is_placing) (get_mapped (λ (p : Placing). p.time) placings k pl.0 pl.1) in
        let d = apart there.1 c (cycle pl.0.time y) (cycle mine.placing.time z) there.2 mine.in_cycle le in
        (there.0, there.1, d.0, d.1, d.2, there.3)

    -- what the piece reads
    of_pair : (place : ℕ) (part : IsPart tap.place.tree piece.tree) → IsReadBy tap.place.tree z place y → k ≡ number_at s place → computed_at (slice_get s.variables place) ≡ true
        → (q : ℕ) × (b : ℕ) × (d : ℕ) × (b + d ≡ c) × (0 < d) × Computes s placings cells q b k y
    of_pair place part r e computed =
        let read = part z place y r in
        let w = read_node s hs placings cells g v among tap.place.piece piece is_piece z inside place y read computed in
        let comp : IsComputation s k y =
        record { variable = w.variable; is = subst (λ m. slice_get (nodes s) m ≡ Some w.variable) (sym e) (node_at is_node s.variables place w.variable w.is w.node); declared = w.declared } in
        let pair : IsPair s n z k y = record {
          reader = v;
          is_reader = is_reader;
          place = place;
          reads = record { piece = piece; among = among_at v.pieces tap.place.piece piece is_piece; within = inside; read = read };
          producer = w.variable;
          is_producer = w.is;
          computed = w.computed;
          number = e;
        } in
        placed comp (λ t u it iu. g.schedule.later n z k y t u pair it iu)

    -- the tree of a tap
    part_of : IsTapOf s hs own v tap → IsPart tap.place.tree piece.tree
    part_of good =
        let o = good.of_place in
        let e : o.piece ≡ piece = some_is o.piece piece (sym o.is_piece ∙ sym (ap (slice_get v.pieces) (o.number_is ∙ omega arith)) ∙ is_piece) in
        subst (λ (q : Piece). IsPart tap.place.tree q.tree) e o.part

    -- a helper's own word
    of_hand : (h : ℕ) (w : Point) → helper_at hs own tap.place.piece tap.place.site ≡ Some (record { number = h; direction = w }) → IsTapRead s n tap.place.tree (handed h w) piece z k y
        → (q : ℕ) × (b : ℕ) × (d : ℕ) × (b + d ≡ c) × (0 < d) × Computes s placings cells q b k y
    of_hand h w fair r =
        let comp : IsComputation s k y = record { variable = v; is = ap (slice_get (nodes s)) r.0 ∙ is_reader; declared = g.within v tap.place.piece piece among is_piece y r.2 } in
        placed comp (λ t u it iu.
        let there : slice_get (map (λ (p : Placing). p.time) placings) n ≡ Some u = ap (slice_get (map (λ (p : Placing). p.time) placings)) (sym r.0) ∙ iu in
        let same : u ≡ t = some_is u t (sym there ∙ it) in
        let late = g.handed_later own tap.place.piece tap.place.site (record { number = h; direction = w }) v piece t is_own is_piece fair (ap (slice_get (map (λ (p : Placing). p.time) placings)) (sym number) ∙ it) z inside in
        subst (λ (x : Time). (cycle x y +ℤ pos 1) ≤ℤ cycle t z) (sym same) (subst (λ (x : Point). (cycle t x +ℤ pos 1) ≤ℤ cycle t z) (sym r.1) late))

    by_way : (way : Way) → IsFair s hs own tap.place way → IsTapRead s n tap.place.tree way piece z k y → IsPart tap.place.tree piece.tree → (q : ℕ) × (b : ℕ) × (d : ℕ) × (b + d ≡ c) × (0 < d) × Computes s placings cells q b k y
    by_way each fair r part = of_pair r.0 part r.1 r.2 (computed_there s tap.place.tree fair z r.0 y r.1)
    by_way (entries w) fair r part = of_pair r.1.0 part r.1.1 r.1.2 (computed_there s tap.place.tree fair z r.1.0 y r.1.1)
    by_way (handed h w) fair r part = of_hand h w fair r
