-- Ports and their lines, one cell of a reference after another.
use Rattle.std.proofs.Common.{◌≡◌, ℕ, zero, suc, ◌+◌, ◌^◌, ◌<◌, ◌≤◌, Bool, true, false, not, IsTrue, Some, None, List, [], ◌∷◌, ◌++◌, length, map, get_or, refl, sym, ap, ap₂, subst, ◌∙◌, ◌⊎◌, inl, inr, ⊎_elim, arith}
use Rattle.std.specs.Prelude.{slice_get, Contains, AllPairs, Option, filter}
use Rattle.std.proofs.lemmas.Bool.{cases_lt}
use Rattle.std.proofs.lemmas.List.{map-append}
use Rattle.std.proofs.lemmas.Option.{slice_get_within}
use Rattle.std.proofs.lemmas.List.Elements.{All-weaker, All-push, All-append, All-map, Contains-get_or, filter_passes, Contains-append_left, Contains-append_right, Contains-push, All-contains}
use Rattle.std.proofs.lemmas.List.Quantifiers.{all_pairs_push}
use Rattle.std.proofs.lemmas.List.Kept.{AllPairs-filter}
use Rattle.av_affine.specs.declared.map.Map.{Map}
use Rattle.av_affine.specs.Maps.{image}
use Rattle.av_tree.specs.Points.{Point}
use Rattle.av_tree.specs.Trees.{Text}
use Rattle.av_flat.specs.Trees.{Piece, Variable, FlatSystem}
use Rattle.av_flat.specs.Points.{has}
use Rattle.av_flat.specs.Broadcasts.{Reference, references}
use Rattle.av_flat.specs.Signatures.{is_input}
use Rattle.av_flat.specs.Helped.{before}
use Rattle.av_flat.specs.Nodes.{nodes}
use Rattle.av_flat.specs.declared.timed.Helper.{Helper}
use Rattle.av_flat.proofs.Sets.{both_true, both_hold}
use Rattle.av_net.specs.declared.design.Entry.{Entry}
use Rattle.av_base.proofs.Among.{among_map, from_map, among_at, first_among}
use Rattle.av_depend.proofs.Adds.{among_filter}
use Rattle.av_depend.proofs.Listed.{pairs_joined}
use Rattle.av_space.specs.Coordinates.{Placing}
use Rattle.av_space.specs.declared.cells.Cell.{Cell}
use Rattle.av_space.specs.declared.cells.InPort.{InPort}
use Rattle.av_space.specs.declared.layout.Slot.{Slot}
use Rattle.av_space.specs.declared.ports.Ports.{Ports as Found}
use Rattle.av_space.specs.Occupancy.{Computes}
use Rattle.av_space.specs.Taps.{node_of, node_place, helper_at, Pipeline, IsReadAt}
use Rattle.av_space.specs.Ports.{IsFed, IsPort, IsPortBefore, ArePorts, by_node, by_piece, by_site, by_cell}
use Rattle.av_space.specs.Listings.{input_name, InLine, IsInLine, AreInLines}
use Rattle.av_space.specs.Layouts.{IsSlot, AreSlots}
use Rattle.av_space.specs.inner.Feeding.{direction_of, is_entered, line_of, lines_of, with_port, IsDone, ArePortsTo, IsFirstOf}
use Rattle.av_space.specs.inner.Feeding.{by_node as node_done, by_piece as piece_done, by_site as site_done, by_cell as cell_done}
use Rattle.av_space.proofs.ByPlace.{pair_at, place_of, pairs_by_place, from_map as got_from_map}
use Rattle.av_base.proofs.Lists.{some_is, place_in}

-- ---- entries

pub entered_reads : (h : Option Pipeline) (piece : Piece) (z : Point) → IsTrue (is_entered piece.domain (direction_of h) z) → IsTrue (has piece.domain z) × IsReadAt h piece z
entered_reads None piece z t = (t, tt)
entered_reads (Some h) piece z t =
    let p = both_true (has piece.domain z) (not (has piece.domain (before z h.direction))) t in
    (p.0, (p.0, λ u. never (has piece.domain (before z h.direction)) p.1 u))
  where
    never : (b : Bool) → IsTrue (not b) → IsTrue b → ⊥
    never true t u = absurd cc
    never false t u = absurd cc

pub reads_entered : (h : Option Pipeline) (piece : Piece) (z : Point) → IsTrue (has piece.domain z) → IsReadAt h piece z → IsTrue (is_entered piece.domain (direction_of h) z)
reads_entered None piece z t r = t
reads_entered (Some h) piece z t r = both_hold (has piece.domain z) (not (has piece.domain (before z h.direction))) t (none (has piece.domain (before z h.direction)) refl)
  where
    none : (b : Bool) → has piece.domain (before z h.direction) ≡ b → IsTrue (not b)
    none true e = absurd (r.1 e)
    none false e = refl

-- two readings of one reference
pub same_reference : (a b : ℕ) (f g : Map) → ◌≡◌ {A = Option Reference} (Some (record { place = a; map = f })) (Some (record { place = b; map = g })) → (a ≡ b) × (f ≡ g)
same_reference a b f g e =
    let r = some_is (record { place = a; map = f }) (record { place = b; map = g }) e in
    (ap (λ (x : Reference). x.place) r, ap (λ (x : Reference). x.map) r)

-- ---- a list with one more

get_left : {X : Type 0} (xs : List X) (y x : X) (k : ℕ) → slice_get xs k ≡ Some x → slice_get (xs ++ y ∷ []) k ≡ Some x
get_left [] y x k e = absurd cc
get_left (z ∷ xs) y x zero e = e
get_left (z ∷ xs) y x (suc k) e = get_left xs y x k e

get_last : {X : Type 0} (xs : List X) (y : X) → slice_get (xs ++ y ∷ []) (length xs) ≡ Some y
get_last [] y = refl
get_last (z ∷ xs) y = get_last xs y

get_cases : {X : Type 0} (xs : List X) (y x : X) (k : ℕ) → slice_get (xs ++ y ∷ []) k ≡ Some x → (slice_get xs k ≡ Some x) ⊎ ((k ≡ length xs) × (x ≡ y))
get_cases [] y x zero e = inr (refl, sym (some_is y x e))
get_cases [] y x (suc k) e = absurd cc
get_cases (z ∷ xs) y x zero e = inl e
get_cases (z ∷ xs) y x (suc k) e = ⊎_elim (λ f. inl f) (λ f. inr (ap suc f.0, f.1)) (get_cases xs y x k e)

pub from_filter : {X : Type 0} (p : X → Bool) (xs : List X) (x : X) → Contains (filter p xs) x → Contains xs x × IsTrue (p x)
from_filter p xs x c =
    let i = place_in (filter p xs) x c in
    let j = place_of p xs i.0 x i.1 in
    (among_at xs j.0 x j.1, All-contains (λ y. IsTrue (p y)) (filter p xs) x (filter_passes p xs) c)

-- ---- a reference to an input on a cell

pub record IsSiteOn (s : FlatSystem) (hs : List Helper) (placings : List Placing) (cells : List Cell) (n k j p : ℕ) (piece : Piece) (direction : Option Point) (input : Variable) (m : Map) (slots : List Slot) : Type 0 where
  pub cell : Cell
  pub is_cell : slice_get cells p ≡ Some cell
  pub node : cell.node ≡ n
  pub are_slots : AreSlots s placings cells p slots
  pub variable : Variable
  pub is_variable : slice_get (nodes s) n ≡ Some variable
  pub is_piece : slice_get variable.pieces k ≡ Some piece
  pub place : ℕ
  pub is_reference : slice_get (references piece.tree) j ≡ Some (record { place = place; map = m })
  pub is_read : slice_get s.variables place ≡ Some input
  pub kind : IsTrue (is_input input.kind)
  pub direction_is : direction ≡ direction_of (helper_at hs (node_place s n) k j)

module _ (s : FlatSystem) (hs : List Helper) (placings : List Placing) (cells : List Cell) where
  -- the same ports, as far as elsewhere
  pub done_as : (n k j p a b c d : ℕ) (ports : Found) → ArePortsTo s hs placings cells n k j p ports
      → ((port : InPort) → IsPort s hs placings cells port → IsDone cells n k j p port → IsDone cells a b c d port)
      → ((port : InPort) → IsPort s hs placings cells port → IsDone cells a b c d port → IsDone cells n k j p port) → ArePortsTo s hs placings cells a b c d ports
  done_as n k j p a b c d ports h there back = record {
    each = All-weaker (λ port. IsDone cells n k j p port × IsPort s hs placings cells port) (λ port. IsDone cells a b c d port × IsPort s hs placings cells port) (λ port r. (there port r.1 r.0, r.1)) ports.inputs h.each;
    all = λ port r is. h.all port (back port is r) is;
    order = h.order;
    lines = h.lines;
    few = h.few;
  }

  node_on : (p : ℕ) (cell : Cell) → slice_get cells p ≡ Some cell → node_of cells p ≡ Some cell.node
  node_on p cell e = rw e refl

  module _ (n k j p : ℕ) (piece : Piece) (direction : Option Point) (input : Variable) (m : Map) (slots : List Slot) (on : IsSiteOn s hs placings cells n k j p piece direction input m slots) where
    abbrev own : InPort
    own = record { cell = p; piece = k; site = j }

    abbrev passes : Slot → Bool
    passes t = is_entered piece.domain direction t.point

    own_node : node_of cells p ≡ Some n
    own_node = node_on p on.cell on.is_cell ∙ ap (λ (i : ℕ). Some i) on.node

    -- an entered slot is a read
    fed : (t : Slot) → IsSlot s placings cells p t → IsTrue (passes t) → IsFed s hs placings cells own t.cycle t.point input m
    fed t is entered =
        let same : is.node ≡ n = sym is.computes.stands.node ∙ ap (λ (c : Cell). c.node) (some_is is.computes.cell on.cell (sym is.computes.is_cell ∙ on.is_cell)) ∙ on.node in
        let r = entered_reads (helper_at hs (node_place s n) k j) piece t.point (subst (λ (o : Option Point). IsTrue (is_entered piece.domain o t.point)) on.direction_is entered) in
        record {
          node = n;
          computes = subst (λ (i : ℕ). Computes s placings cells p t.cycle i t.point) same is.computes;
          variable = on.variable;
          is_variable = on.is_variable;
          piece = piece;
          is_piece = on.is_piece;
          within = r.0;
          place = on.place;
          is_reference = on.is_reference;
          is_variable_read = on.is_read;
          input_kind = on.kind;
          entered = r.1;
        }

    record IsOwnRead (c : ℕ) (z : Point) (other : Variable) (g : Map) : Type 0 where
      among : Contains (filter passes slots) (record { cycle = c; point = z })
      same_input : other ≡ input
      same_map : g ≡ m

    -- a read is an entered slot
    from_fed : (c : ℕ) (z : Point) (other : Variable) (g : Map) → IsFed s hs placings cells own c z other g → IsOwnRead c z other g
    from_fed c z other g h =
        let same : h.node ≡ n = sym h.computes.stands.node ∙ ap (λ (x : Cell). x.node) (some_is h.computes.cell on.cell (sym h.computes.is_cell ∙ on.is_cell)) ∙ on.node in
        let v : h.variable ≡ on.variable = some_is h.variable on.variable (sym h.is_variable ∙ ap (λ (i : ℕ). slice_get (nodes s) i) same ∙ on.is_variable) in
        let q : h.piece ≡ piece = some_is h.piece piece (sym h.is_piece ∙ ap (λ (x : Variable). slice_get x.pieces k) v ∙ on.is_piece) in
        let r = same_reference h.place on.place g m (sym h.is_reference ∙ ap (λ (x : Piece). slice_get (references x.tree) j) q ∙ on.is_reference) in
        let read : IsReadAt (helper_at hs (node_place s n) k j) piece z =
        subst (λ (x : Piece). IsReadAt (helper_at hs (node_place s n) k j) x z) q (subst (λ (i : ℕ). IsReadAt (helper_at hs (node_place s i) k j) h.piece z) same h.entered) in
        let entered = reads_entered (helper_at hs (node_place s n) k j) piece z (subst (λ (x : Piece). IsTrue (has x.domain z)) q h.within) read in
        let passed : IsTrue (passes (record { cycle = c; point = z })) = subst (λ (o : Option Point). IsTrue (is_entered piece.domain o z)) (sym on.direction_is) entered in
        record {
          among = among_filter passes slots (record { cycle = c; point = z }) (on.are_slots.all c h.node z h.computes) passed;
          same_input = some_is other input (sym h.is_variable_read ∙ ap (λ (i : ℕ). slice_get s.variables i) r.0 ∙ on.is_read);
          same_map = r.1;
        }

    -- of what is kept each is a slot that passes
    kept : (t : Slot) → Contains (filter passes slots) t → IsFed s hs placings cells own t.cycle t.point input m
    kept t c = let r = from_filter passes slots t c in fed t (All-contains (IsSlot s placings cells p) slots t on.are_slots.each r.0) r.1

    one_cell : (port : InPort) → IsDone cells n k j (p + 1) port → IsDone cells n k j p port ⊎ (port ≡ own)
    one_cell port (node_done i e l) = inl (node_done i e l)
    one_cell port (piece_done e l) = inl (piece_done e l)
    one_cell port (site_done e f l) = inl (site_done e f l)
    one_cell port (cell_done e f g l) = ⊎_elim (λ lt. inl (cell_done e f g lt)) (λ le. inr (port_is port (let a = l in omega (arith, a, le)) f g)) (cases_lt port.cell p)
      where
        port_is : (port : InPort) → port.cell ≡ p → port.piece ≡ k → port.site ≡ j → port ≡ own
        port_is port a b c =
            let f : ℕ → ℕ → ℕ → InPort = λ x y z. record { cell = x; piece = y; site = z } in
            ap (λ (x : ℕ). f x port.piece port.site) a ∙ ap (λ (y : ℕ). f p y port.site) b ∙ ap (λ (z : ℕ). f p k z) c

    more_done : (port : InPort) → IsDone cells n k j p port → IsDone cells n k j (p + 1) port
    more_done port (node_done i e l) = node_done i e l
    more_done port (piece_done e l) = piece_done e l
    more_done port (site_done e f l) = site_done e f l
    more_done port (cell_done e f g l) = cell_done e f g (omega (arith, l))

    -- what is done stands before
    stands_before : (port : InPort) → IsDone cells n k j p port → IsPortBefore cells port own
    stands_before port (node_done i e l) = by_node i n e own_node l
    stands_before port (piece_done e l) = by_piece (e ∙ sym own_node) l
    stands_before port (site_done e f l) = by_site (e ∙ sym own_node) f l
    stands_before port (cell_done e f g l) = by_cell (e ∙ sym own_node) f g l

    -- no read
    no_port : (ports : Found) → filter passes slots ≡ [] → ArePortsTo s hs placings cells n k j p ports → ArePortsTo s hs placings cells n k j (p + 1) ports
    no_port ports e h = done_as n k j p n k j (p + 1) ports h (λ port is d. more_done port d) (λ port is d. ⊎_elim (λ x. x) (λ same. absurd (never port is same)) (one_cell port d))
      where
        none_in : (xs : List Slot) (x : Slot) → xs ≡ [] → Contains xs x → ⊥
        none_in [] x e c = let l = c.1 in omega (arith, l)
        none_in (y ∷ xs) x e c = absurd cc

        never : (port : InPort) → IsPort s hs placings cells port → port ≡ own → ⊥
        never port is same =
            let f = subst (λ (x : InPort). IsFed s hs placings cells x is.0 is.1 is.2 is.3) same is.4 in
            let c = (from_fed is.0 is.1 is.2 is.3 f).among in
            none_in (filter passes slots) _ e c

    -- the reads of a port with the number that is next
    abbrev in_line : ℕ → Slot → InLine
    in_line i t = record { port = i; entry = line_of i input.name m t }

    entries_of : (i : ℕ) (ts : List Slot) → lines_of i input.name m ts ≡ map (λ (l : InLine). l.entry) (map (in_line i) ts)
    entries_of i [] = refl
    entries_of i (t ∷ ts) = ap (λ (es : List Entry). line_of i input.name m t ∷ es) (entries_of i ts)

    abbrev IsLineBefore : InLine → InLine → Type 0
    IsLineBefore a b = (a.port < b.port) ⊎ ((a.port ≡ b.port) × (a.entry.cycle < b.entry.cycle))

    abbrev IsLineOf : List InPort → InLine → Type 0
    IsLineOf ports l = IsInLine s hs placings cells ports l

    old_line : (ports : List InPort) (l : InLine) → IsLineOf ports l → IsLineOf (ports ++ own ∷ []) l
    old_line ports l h = record {
      port = h.port;
      is_port = get_left ports own h.port l.port h.is_port;
      input = h.input;
      map = h.map;
      point = h.point;
      fed = h.fed;
      variable_is = h.variable_is;
      point_is = h.point_is;
      wire_is = h.wire_is;
    }

    new_line : (ports : List InPort) (t : Slot) → IsFed s hs placings cells own t.cycle t.point input m → IsLineOf (ports ++ own ∷ []) (in_line (length ports) t)
    new_line ports t h = record {
      port = own;
      is_port = get_last ports own;
      input = input;
      map = m;
      point = t.point;
      fed = h;
      variable_is = refl;
      point_is = refl;
      wire_is = refl;
    }

    line_is : (i : ℕ) (l : InLine) (z : Point) → l.port ≡ i → l.entry.variable ≡ input.name → l.entry.point ≡ image m.rows z → l.entry.wire ≡ input_name l.port → in_line i (record { cycle = l.entry.cycle; point = z }) ≡ l
    line_is i l z a b c d =
        let f : ℕ → Text → Point → Text → InLine = λ n v y w. record { port = n; entry = record { variable = v; point = y; wire = w; cycle = l.entry.cycle } } in
        let e : l.entry.wire ≡ input_name i = d ∙ ap input_name a in
        sym (ap (λ (n : ℕ). f n l.entry.variable l.entry.point l.entry.wire) a ∙ ap (λ (v : Text). f i v l.entry.point l.entry.wire) b ∙ ap (λ (y : Point). f i input.name y l.entry.wire) c ∙ ap (λ (w : Text). f i input.name (image m.rows z) w) e)

    lines_with : (ports : List InPort) (ins : List Entry) (ts : List Slot) → filter passes slots ≡ ts → AreInLines s hs placings cells ports ins
        → AreInLines s hs placings cells (ports ++ own ∷ []) (ins ++ lines_of (length ports) input.name m ts)
    lines_with ports ins ts e h = record {
      lines = h.lines ++ map (in_line (length ports)) ts;
      entries = ap₂ (λ (xs ys : List Entry). xs ++ ys) h.entries (entries_of (length ports) ts) ∙ sym (map-append (λ (l : InLine). l.entry) h.lines (map (in_line (length ports)) ts));
      each = All-append (IsLineOf (ports ++ own ∷ [])) h.lines (map (in_line (length ports)) ts) (All-weaker (IsLineOf ports) (IsLineOf (ports ++ own ∷ [])) (old_line ports) h.lines h.each)
          (All-map (IsLineOf (ports ++ own ∷ [])) (in_line (length ports)) ts (λ i d l. new_line ports (get_or ts i d) (read (get_or ts i d) (Contains-get_or ts i d l))));
      all = λ l is. ⊎_elim (λ f. Contains-append_left h.lines (map (in_line (length ports)) ts) l (before_it l is f)) (λ f. Contains-append_right h.lines (map (in_line (length ports)) ts) l (at_it l is f)) (get_cases ports own is.port l.port is.is_port);
      order = pairs_joined IsLineBefore h.lines (map (in_line (length ports)) ts) h.order
          (pairs_of_map (length ports) ts (subst (λ (xs : List Slot). AllPairs (λ (a b : Slot). a.cycle < b.cycle) xs) e (AllPairs-filter (λ (a b : Slot). a.cycle < b.cycle) passes slots on.are_slots.order)))
          (λ a b c d. apart a b c d);
    }
      where
        read : (t : Slot) → Contains ts t → IsFed s hs placings cells own t.cycle t.point input m
        read t c = kept t (subst (λ (xs : List Slot). Contains xs t) (sym e) c)

        before_it : (l : InLine) (is : IsLineOf (ports ++ own ∷ []) l) → slice_get ports l.port ≡ Some is.port → Contains h.lines l
        before_it l is f = h.all l (record { port = is.port; is_port = f; input = is.input; map = is.map; point = is.point; fed = is.fed; variable_is = is.variable_is; point_is = is.point_is; wire_is = is.wire_is })

        at_it : (l : InLine) (is : IsLineOf (ports ++ own ∷ []) l) → (l.port ≡ length ports) × (is.port ≡ own) → Contains (map (in_line (length ports)) ts) l
        at_it l is f =
            let r = from_fed l.entry.cycle is.point is.input is.map (subst (λ (x : InPort). IsFed s hs placings cells x l.entry.cycle is.point is.input is.map) f.1 is.fed) in
            let among = subst (λ (xs : List Slot). Contains xs (record { cycle = l.entry.cycle; point = is.point })) e r.among in
            let named = is.variable_is ∙ ap (λ (x : Variable). x.name) r.same_input in
            let here = is.point_is ∙ ap (λ (g : Map). image g.rows is.point) r.same_map in
            subst (Contains (map (in_line (length ports)) ts)) (line_is (length ports) l is.point f.0 named here is.wire_is) (among_map (in_line (length ports)) ts _ among)

        pairs_of_map : (i : ℕ) (xs : List Slot) → AllPairs (λ (a b : Slot). a.cycle < b.cycle) xs → AllPairs IsLineBefore (map (in_line i) xs)
        pairs_of_map i xs q = pairs_by_place IsLineBefore (map (in_line i) xs) (λ a b x y ax by lt.
            let u = got_from_map (in_line i) xs a x ax in
            let v = got_from_map (in_line i) xs b y by in
            inr (sym (ap (λ (l : InLine). l.port) u.2) ∙ ap (λ (l : InLine). l.port) v.2, cycles x y u.0 v.0 u.2 v.2 (pair_at (λ (a b : Slot). a.cycle < b.cycle) xs q a b u.0 v.0 u.1 v.1 lt)))
          where
            cycles : (x y : InLine) (t u : Slot) → in_line i t ≡ x → in_line i u ≡ y → t.cycle < u.cycle → x.entry.cycle < y.entry.cycle
            cycles x y t u a b l = let c = ap (λ (w : InLine). w.entry.cycle) a in let d = ap (λ (w : InLine). w.entry.cycle) b in omega (arith, l, c, d)

        apart : (a b : InLine) → Contains h.lines a → Contains (map (in_line (length ports)) ts) b → IsLineBefore a b
        apart a b c d =
            let is = All-contains (IsLineOf ports) h.lines a h.each c in
            let l = slice_get_within ports a.port is.port is.is_port in
            let r = from_map (in_line (length ports)) ts b d in
            let same : length ports ≡ b.port = ap (λ (w : InLine). w.port) r.2 in
            inl (omega (arith, l, same))

    some_port : (ports : Found) (t : Slot) (ts : List Slot) → filter passes slots ≡ t ∷ ts → ArePortsTo s hs placings cells n k j p ports → length (ports.inputs ++ own ∷ []) ≤ 2 ^ 64
        → ArePortsTo s hs placings cells n k j (p + 1) (with_port own input.name m ports (t ∷ ts))
    some_port ports t ts e h few = record {
      each = All-push (λ port. IsDone cells n k j (p + 1) port × IsPort s hs placings cells port) ports.inputs own
          (All-weaker (λ port. IsDone cells n k j p port × IsPort s hs placings cells port) (λ port. IsDone cells n k j (p + 1) port × IsPort s hs placings cells port) (λ port r. (more_done port r.0, r.1)) ports.inputs h.each)
          (cell_done own_node refl refl (omega arith), (t.cycle, t.point, input, m, kept t (subst (λ (xs : List Slot). Contains xs t) (sym e) (first_among t ts))));
      all = λ port d is. ⊎_elim (λ x. Contains-append_left ports.inputs (own ∷ []) port (h.all port x is)) (λ same. subst (Contains (ports.inputs ++ own ∷ [])) (sym same) (Contains-push ports.inputs own)) (one_cell port d);
      order = all_pairs_push (IsPortBefore cells) ports.inputs own h.order (λ i d l. stands_before (get_or ports.inputs i d) (h.each i d l).0);
      lines = lines_with ports.inputs ports.ins (t ∷ ts) e h.lines;
      few = few;
    }

    pub next_cell : (ports : Found) → ArePortsTo s hs placings cells n k j p ports → length (with_port own input.name m ports (filter passes slots)).inputs ≤ 2 ^ 64
        → ArePortsTo s hs placings cells n k j (p + 1) (with_port own input.name m ports (filter passes slots))
    next_cell ports h = go (filter passes slots) refl
      where
        go : (ts : List Slot) → filter passes slots ≡ ts → length (with_port own input.name m ports ts).inputs ≤ 2 ^ 64 → ArePortsTo s hs placings cells n k j (p + 1) (with_port own input.name m ports ts)
        go [] e few = no_port ports e h
        go (t ∷ ts) e few = some_port ports t ts e h few

  -- ---- from one part to the next

  -- the node of a port
  record IsPortOf (n : ℕ) (port : InPort) : Type 0 where
    cell : Cell
    is_cell : slice_get cells port.cell ≡ Some cell
    node : cell.node ≡ n

  port_of : (n : ℕ) (port : InPort) → IsPort s hs placings cells port → node_of cells port.cell ≡ Some n → IsPortOf n port
  port_of n port is e =
      let on = is.4.computes in
      record { cell = on.cell; is_cell = on.is_cell; node = some_is on.cell.node n (sym (node_on port.cell on.cell on.is_cell) ∙ e) }

  pub node_of_port : (port : InPort) (is : IsPort s hs placings cells port) (n : ℕ) → node_of cells port.cell ≡ Some n → is.4.node ≡ n
  node_of_port port is n e = let on = is.4.computes in sym on.stands.node ∙ some_is on.cell.node n (sym (node_on port.cell on.cell on.is_cell) ∙ e)

  none_before : (n first : ℕ) (port : InPort) → IsFirstOf cells n first → IsPort s hs placings cells port → node_of cells port.cell ≡ Some n → port.cell < first → ⊥
  none_before n first port f is e l = let h = port_of n port is e in let b = f.before port.cell h.cell h.is_cell l in let g = h.node in omega (arith, b, g)

  all_before : (n last : ℕ) (port : InPort) → IsFirstOf cells (n + 1) last → IsPort s hs placings cells port → node_of cells port.cell ≡ Some n → port.cell < last
  all_before n last port f is e = ⊎_elim (λ l. l) (λ le. absurd (let h = port_of n port is e in let b = f.from port.cell h.cell h.is_cell le in let g = h.node in omega (arith, b, g))) (cases_lt port.cell last)

  -- a reference is done on all cells of the node
  pub next_site : (n k j first last : ℕ) (ports : Found) → IsFirstOf cells n first → IsFirstOf cells (n + 1) last → ArePortsTo s hs placings cells n k j last ports → ArePortsTo s hs placings cells n k (j + 1) first ports
  next_site n k j first last ports f l h = done_as n k j last n k (j + 1) first ports h there back
    where
      there : (port : InPort) → IsPort s hs placings cells port → IsDone cells n k j last port → IsDone cells n k (j + 1) first port
      there port is (node_done i e a) = node_done i e a
      there port is (piece_done e a) = piece_done e a
      there port is (site_done e g a) = site_done e g (omega (arith, a))
      there port is (cell_done e g i a) = site_done e g (omega (arith, i))

      back : (port : InPort) → IsPort s hs placings cells port → IsDone cells n k (j + 1) first port → IsDone cells n k j last port
      back port is (node_done i e a) = node_done i e a
      back port is (piece_done e a) = piece_done e a
      back port is (site_done e g a) = ⊎_elim (λ lt. site_done e g lt) (λ le. cell_done e g (omega (arith, a, le)) (all_before n last port l is e)) (cases_lt port.site j)
      back port is (cell_done e g i a) = absurd (none_before n first port f is e a)

  -- a reference without ports
  pub pass_site : (n k j first : ℕ) (ports : Found) → IsFirstOf cells n first → ((port : InPort) → IsPort s hs placings cells port → node_of cells port.cell ≡ Some n → port.piece ≡ k → port.site ≡ j → ⊥)
      → ArePortsTo s hs placings cells n k j first ports → ArePortsTo s hs placings cells n k (j + 1) first ports
  pass_site n k j first ports f never h = done_as n k j first n k (j + 1) first ports h there back
    where
      there : (port : InPort) → IsPort s hs placings cells port → IsDone cells n k j first port → IsDone cells n k (j + 1) first port
      there port is (node_done i e a) = node_done i e a
      there port is (piece_done e a) = piece_done e a
      there port is (site_done e g a) = site_done e g (omega (arith, a))
      there port is (cell_done e g i a) = absurd (none_before n first port f is e a)

      back : (port : InPort) → IsPort s hs placings cells port → IsDone cells n k (j + 1) first port → IsDone cells n k j first port
      back port is (node_done i e a) = node_done i e a
      back port is (piece_done e a) = piece_done e a
      back port is (site_done e g a) = ⊎_elim (λ lt. site_done e g lt) (λ le. absurd (never port is e g (omega (arith, a, le)))) (cases_lt port.site j)
      back port is (cell_done e g i a) = absurd (none_before n first port f is e a)

  -- all references of a piece are done
  pub next_piece : (n k j first : ℕ) (ports : Found) → IsFirstOf cells n first → ((port : InPort) → IsPort s hs placings cells port → node_of cells port.cell ≡ Some n → port.piece ≡ k → port.site < j)
      → ArePortsTo s hs placings cells n k j first ports → ArePortsTo s hs placings cells n (k + 1) 0 first ports
  next_piece n k j first ports f few h = done_as n k j first n (k + 1) 0 first ports h there back
    where
      there : (port : InPort) → IsPort s hs placings cells port → IsDone cells n k j first port → IsDone cells n (k + 1) 0 first port
      there port is (node_done i e a) = node_done i e a
      there port is (piece_done e a) = piece_done e (omega (arith, a))
      there port is (site_done e g a) = piece_done e (omega (arith, g))
      there port is (cell_done e g i a) = piece_done e (omega (arith, g))

      back : (port : InPort) → IsPort s hs placings cells port → IsDone cells n (k + 1) 0 first port → IsDone cells n k j first port
      back port is (node_done i e a) = node_done i e a
      back port is (piece_done e a) = ⊎_elim (λ lt. piece_done e lt) (λ le. let same : port.piece ≡ k = omega (arith, a, le) in site_done e same (few port is e same)) (cases_lt port.piece k)
      back port is (site_done e g a) = absurd (omega (arith, a))
      back port is (cell_done e g i a) = absurd (none_before n first port f is e a)

  -- all pieces of a node are done
  pub next_node : (n k first last : ℕ) (ports : Found) → IsFirstOf cells (n + 1) last → ((port : InPort) → IsPort s hs placings cells port → node_of cells port.cell ≡ Some n → port.piece < k)
      → ArePortsTo s hs placings cells n k 0 first ports → ArePortsTo s hs placings cells (n + 1) 0 0 last ports
  next_node n k first last ports l few h = done_as n k 0 first (n + 1) 0 0 last ports h there back
    where
      there : (port : InPort) → IsPort s hs placings cells port → IsDone cells n k 0 first port → IsDone cells (n + 1) 0 0 last port
      there port is (node_done i e a) = node_done i e (omega (arith, a))
      there port is (piece_done e a) = node_done n e (omega arith)
      there port is (site_done e g a) = node_done n e (omega arith)
      there port is (cell_done e g i a) = node_done n e (omega arith)

      back : (port : InPort) → IsPort s hs placings cells port → IsDone cells (n + 1) 0 0 last port → IsDone cells n k 0 first port
      back port is (node_done i e a) = ⊎_elim (λ lt. node_done i e lt) (λ le. let f : node_of cells port.cell ≡ Some n = e ∙ ap (λ (x : ℕ). Some x) (omega (arith, a, le)) in piece_done f (few port is f)) (cases_lt i n)
      back port is (piece_done e a) = absurd (omega (arith, a))
      back port is (site_done e g a) = absurd (omega (arith, a))
      back port is (cell_done e g i a) = absurd (none_before (n + 1) last port l is e a)

  pub first_ports : ArePortsTo s hs placings cells 0 0 0 0 (record { inputs = []; ins = [] })
  first_ports = record {
    each = λ i d l. absurd (omega (arith, l));
    all = λ port d is. absurd (never port d);
    order = λ i j d l q. absurd (omega (arith, q));
    lines = record {
      lines = [];
      entries = refl;
      each = λ i d l. absurd (omega (arith, l));
      all = λ l is. absurd (none l is.port is.is_port);
      order = λ i j d l q. absurd (omega (arith, q));
    };
    few = omega arith;
  }
    where
      never : (port : InPort) → IsDone cells 0 0 0 0 port → ⊥
      never port (node_done i e l) = omega (arith, l)
      never port (piece_done e l) = omega (arith, l)
      never port (site_done e f l) = omega (arith, l)
      never port (cell_done e f g l) = omega (arith, l)

      none : (l : InLine) (port : InPort) → ◌≡◌ {A = Option InPort} None (Some port) → ⊥
      none l port e = cc

  pub all_ports : (n p : ℕ) (ports : Found) → ((port : InPort) (is : IsPort s hs placings cells port) → is.4.node < n) → ArePortsTo s hs placings cells n 0 0 p ports → ArePorts s hs placings cells ports.inputs
  all_ports n p ports few h = record {
    each = All-weaker (λ port. IsDone cells n 0 0 p port × IsPort s hs placings cells port) (IsPort s hs placings cells) (λ port r. r.1) ports.inputs h.each;
    all = λ port is. h.all port (node_done is.4.node (node_on port.cell is.4.computes.cell is.4.computes.is_cell ∙ ap (λ (i : ℕ). Some i) is.4.computes.stands.node) (few port is)) is;
    order = h.order;
  }
