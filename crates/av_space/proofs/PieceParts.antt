-- Pieces of nodes, their parts and their references to inputs.
use Rattle.std.proofs.Common.{◌≡◌, ℕ, zero, suc, ◌+◌, ◌^◌, ◌<◌, ◌≤◌, Bool, true, false, not, IsTrue, Some, None, List, [], ◌∷◌, ◌++◌, length, get_or, refl, sym, ap, subst, ◌∙◌, arith}
use Rattle.std.specs.Prelude.{slice_get, filter, All, Option, IfSome}
use Rattle.std.proofs.lemmas.List.{length-map}
use Rattle.std.proofs.lemmas.List.Elements.{All-filter}
use Rattle.std.proofs.lemmas.Option.{slice_get_within}
use Rattle.av_affine.specs.declared.map.Map.{Map}
use Rattle.av_affine.specs.Forms.{IsWithinLimits}
use Rattle.av_affine.specs.Numbers.{AtMost}
use Rattle.av_tree.specs.Points.{Point}
use Rattle.av_flat.specs.declared.flat.Var.{Var}
use Rattle.av_flat.specs.Trees.{Tree, Piece, Variable, view_piece, view_variable, view_system, reference}
use Rattle.av_flat.specs.Broadcasts.{Reference, references}
use Rattle.av_flat.specs.Nodes.{nodes, node_place}
use Rattle.av_flat.specs.Points.{has}
use Rattle.av_flat.specs.Legal.{IsMoving}
use Rattle.av_flat.specs.Signatures.{Signature, signatures, signature, is_input, is_computed}
use Rattle.av_flat.specs.WellFormed.{EachPart, Fits, HasSmallRows, dimension_of}
use Rattle.av_poly.specs.Points.{Set}
use Rattle.av_depend.specs.SetPoints.{IsPointOf}
use Rattle.av_flat.proofs.Reading.{each_reference}
use Rattle.av_flat.proofs.NodeNumbers.{variable_at, node_variable}
use Rattle.av_space.specs.declared.cells.InPort.{InPort}
use Rattle.av_space.specs.declared.layout.Slot.{Slot}
use Rattle.av_space.specs.declared.input_site.InputSite.{InputSite}
use Rattle.av_space.specs.declared.ports.NodePiece.{NodePiece}
use Rattle.av_space.specs.declared.ports.Ports.{Ports as Found}
use Rattle.av_space.specs.Ports.{IsPort}
use Rattle.av_space.specs.Taps.{node_of, helper_at, Pipeline}
use Rattle.av_space.specs.inner.Feeding.{direction_of, is_entered, with_port, StandAt}
use Rattle.av_space.specs.inner.NodePieces.{IsNodePiece, IsPart, IsInputSite, ArePortsAt}
use Rattle.av_space.proofs.OwnSlots.{entered_twice}
use Rattle.av_space.proofs.Directions.{first_step}
use Rattle.av_space.proofs.Fed.{IsSiteOn, next_cell, node_of_port, same_reference}
use Rattle.av_space.proofs.FirstCells.{node_between}
use Rattle.av_space.proofs.Helpers.{found_helper}
use Rattle.av_space.proofs.OnCells.{IsCellOf, slot_points}
use Rattle.av_base.proofs.Lists.{all_at, each_at, some_is, there_is}

-- ---- parts

pub stand_left : {X : Type 0} (j : ℕ) (xs ys whole : List X) → StandAt j (xs ++ ys) whole → StandAt j xs whole
stand_left {X} j xs ys whole h i x e = h i x (left xs i e)
  where
    left : (xs : List X) (i : ℕ) → slice_get xs i ≡ Some x → slice_get (xs ++ ys) i ≡ Some x
    left [] i e = absurd cc
    left (y ∷ xs) zero e = e
    left (y ∷ xs) (suc i) e = left xs i e

pub stand_right : {X : Type 0} (j : ℕ) (xs ys whole : List X) → StandAt j (xs ++ ys) whole → StandAt (j + length xs) ys whole
stand_right {X} j xs ys whole h i x e =
    let a : j + (length xs + i) ≡ j + length xs + i = omega arith in
    subst (λ (n : ℕ). slice_get whole n ≡ Some x) a (h (length xs + i) x (right xs i e))
  where
    right : (xs : List X) (i : ℕ) → slice_get ys i ≡ Some x → slice_get (xs ++ ys) (length xs + i) ≡ Some x
    right [] i e = let a : i ≡ 0 + i = omega arith in subst (λ (n : ℕ). slice_get ys n ≡ Some x) a e
    right (y ∷ xs) i e = let a : suc (length xs + i) ≡ suc (length xs) + i = omega arith in subst (λ (n : ℕ). slice_get (y ∷ (xs ++ ys)) n ≡ Some x) a (right xs i e)

-- each reference of a part that begins with the first one
pub part_at : (at : NodePiece) (t : Tree) (j : ℕ) (r : Reference) → IsPart at 0 t → slice_get (references t) j ≡ Some r → IsPart at j (reference r.place r.map)
part_at at t j r h e =
    let Q = Fits (signatures (view_system at.scheduled.now.timed.flat)) at.piece.now.domain.dim in
    record {
      stand = one;
      fits = each_at (λ (q : Reference). Q (reference q.place q.map)) (references t) j r (each_reference Q (λ g a b k. k) (λ a o b x y k. k) t h.fits) e;
      rows = each_at (λ (q : Reference). EachPart HasSmallRows (reference q.place q.map)) (references t) j r (each_reference (EachPart HasSmallRows) (λ g a b k. (k.1, k.2)) (λ a o b x y k. (k.1, k.2, k.3, k.4)) t h.rows) e;
    }
  where
    one : (i : ℕ) (x : Reference) → slice_get (r ∷ []) i ≡ Some x → slice_get (references (view_piece at.piece.now).tree) (j + i) ≡ Some x
    one zero x f = let first : 0 + j ≡ j + 0 = omega arith in subst (λ (n : ℕ). slice_get (references (view_piece at.piece.now).tree) n ≡ Some x) first (h.stand j r e ∙ f)
    one (suc i) x f = absurd cc

-- the whole piece
pub whole_part : (at : NodePiece) → Fits (signatures (view_system at.scheduled.now.timed.flat)) at.piece.now.domain.dim (view_piece at.piece.now).tree → EachPart HasSmallRows (view_piece at.piece.now).tree
    → IsPart at 0 (view_piece at.piece.now).tree
whole_part at fits rows = record {
  stand = λ i x e. (let a : i ≡ 0 + i = omega arith in subst (λ (n : ℕ). slice_get (references (view_piece at.piece.now).tree) n ≡ Some x) a e);
  fits = fits;
  rows = rows;
}

pub reference_there : (at : NodePiece) (j place : ℕ) (m : Map) → IsPart at j (reference place m) → slice_get (references (view_piece at.piece.now).tree) j ≡ Some (record { place = place; map = m })
reference_there at j place m h =
    let e = h.stand 0 (record { place = place; map = m }) refl in
    let a : j + 0 ≡ j = omega arith in
    subst (λ (n : ℕ). slice_get (references (view_piece at.piece.now).tree) n ≡ Some (record { place = place; map = m })) a e

-- ---- the cells of the node

pub cell_between : (at : NodePiece) (is : IsNodePiece at) (p : ℕ) (slots : List Slot) → at.first ≤ p → p < at.last → slice_get at.scheduled.now.layout.slots p ≡ Some slots
    → (on : IsCellOf (view_system at.scheduled.now.timed.flat) at.scheduled.now.layout.placements at.scheduled.now.layout.cells p is.variable slots) × (on.cell.node ≡ at.node.0)
cell_between at is p slots low high e =
    let cells = at.scheduled.now.layout.cells in
    let w = is.within in
    let x = there_is cells p (omega (arith, high, w)) in
    let node = node_between cells at.node.0 at.first at.last p x.0 is.first is.last low high x.1 in
    let var = ap (λ (n : ℕ). slice_get (nodes (view_system at.scheduled.now.timed.flat)) n) node ∙ is.is_variable in
    (record { cell = x.0; is_cell = x.1; is_variable = var; are_slots = is.scheduled.layout.are_slots p slots e }, node)

row_there : (at : NodePiece) → IsNodePiece at → (p : ℕ) → p < at.last → (slots : List Slot) × (slice_get at.scheduled.now.layout.slots p ≡ Some slots)
row_there at is p high = let w = is.within in let o = is.scheduled.layout.one_each in there_is at.scheduled.now.layout.slots p (omega (arith, high, w, o))

-- points of slots as the site asks for them
pub points_between : (at : NodePiece) (is : IsNodePiece at) (j : ℕ) (site : InputSite) → IsInputSite at j site → (p : ℕ) (slots : List Slot) → at.first ≤ p → p < at.last → slice_get at.scheduled.now.layout.slots p ≡ Some slots
    → All (λ (t : Slot). IsPointOf site.domain.now t.point) slots
points_between at is j site own p slots low high e =
    let on = (cell_between at is p slots low high e).0 in
    let h = slot_points at.scheduled.now.timed at.scheduled.now.layout p is.variable slots is.scheduled.legal on at.number (view_piece at.piece.now) is.is_piece in
    subst (λ (set : _). All (λ (t : Slot). IsPointOf set t.point) slots) (sym own.domain) h

-- one cell more
pub one_cell_more : (at : NodePiece) (is : IsNodePiece at) (j : ℕ) (site : InputSite) → IsInputSite at j site → (p : ℕ) (slots : List Slot) → at.first ≤ p → p < at.last → slice_get at.scheduled.now.layout.slots p ≡ Some slots
    → (old new : Found) → ArePortsAt at j p old
    → new ≡ with_port (record { cell = p; piece = at.number; site = j }) site.input.now.name site.map.now old (filter (λ (t : Slot). is_entered site.domain.now site.direction t.point) slots)
    → length new.inputs ≤ 2 ^ 64 → ArePortsAt at j (p + 1) new
one_cell_more at is j site own p slots low high e old new h f few =
    let s = view_system at.scheduled.now.timed.flat in
    let r = cell_between at is p slots low high e in
    let on : IsSiteOn s at.scheduled.now.timed.helpers at.scheduled.now.layout.placements at.scheduled.now.layout.cells at.node.0 at.number j p (view_piece at.piece.now) site.direction (view_variable site.input.now) site.map.now slots = record {
      cell = r.0.cell;
      is_cell = r.0.is_cell;
      node = r.1;
      are_slots = r.0.are_slots;
      variable = is.variable;
      is_variable = is.is_variable;
      is_piece = is.is_piece;
      place = own.place;
      is_reference = own.is_reference;
      is_read = own.is_read;
      kind = own.kind;
      direction_is = own.direction;
    } in
    let more = next_cell s at.scheduled.now.timed.helpers at.scheduled.now.layout.placements at.scheduled.now.layout.cells at.node.0 at.number j p (view_piece at.piece.now) site.direction (view_variable site.input.now) site.map.now slots on old h in
    let same = f ∙ ap (λ (set : _). with_port (record { cell = p; piece = at.number; site = j }) site.input.now.name site.map.now old (filter (λ (t : Slot). is_entered set site.direction t.point) slots)) own.domain in
    subst (ArePortsAt at j (p + 1)) (sym same) (more (subst (λ (ports : Found). length ports.inputs ≤ 2 ^ 64) same few))

-- the same where only the points of the piece were looked at
pub one_cell_of_own : (at : NodePiece) (is : IsNodePiece at) (j : ℕ) (site : InputSite) → IsInputSite at j site → (p : ℕ) → at.first ≤ p → p < at.last → (own : List Slot)
    → ((slots : List Slot) → slice_get at.scheduled.now.layout.slots p ≡ Some slots → own ≡ filter (λ t. has at.piece.now.domain t.point) slots) → (old new : Found) → ArePortsAt at j p old
    → new ≡ with_port (record { cell = p; piece = at.number; site = j }) site.input.now.name site.map.now old (filter (λ (t : Slot). is_entered site.domain.now site.direction t.point) own)
    → length new.inputs ≤ 2 ^ 64 → ArePortsAt at j (p + 1) new
one_cell_of_own at is j site fits p low high own is_own old new h f few =
    let there = row_there at is p high in
    let slots = there.0 in
    let port : InPort = record { cell = p; piece = at.number; site = j } in
    let mine : own ≡ filter (λ t. has site.domain.now t.point) slots = is_own slots there.1 ∙ ap (λ (set : Set). filter (λ (t : Slot). has set t.point) slots) (sym fits.domain) in
    let twice = ap (λ (ts : List Slot). filter (λ (t : Slot). is_entered site.domain.now site.direction t.point) ts) mine ∙ entered_twice site.domain.now site.direction slots in
    one_cell_more at is j site fits p slots low high there.1 old new h (f ∙ ap (λ (ts : List Slot). with_port port site.input.now.name site.map.now old ts) twice) few

-- points of the piece as the site asks for them
pub own_points : (at : NodePiece) (is : IsNodePiece at) (j : ℕ) (site : InputSite) → IsInputSite at j site → (p : ℕ) → at.first ≤ p → p < at.last → (own : List Slot)
    → ((slots : List Slot) → slice_get at.scheduled.now.layout.slots p ≡ Some slots → own ≡ filter (λ t. has at.piece.now.domain t.point) slots) → All (λ (t : Slot). IsPointOf site.domain.now t.point) own
own_points at is j site fits p low high own is_own =
    let there = row_there at is p high in
    let slots = there.0 in
    let all = points_between at is j site fits p slots low high there.1 in
    subst (λ (ts : List Slot). All (λ (t : Slot). IsPointOf site.domain.now t.point) ts) (sym (is_own slots there.1))
    (All-filter (λ (t : Slot). has at.piece.now.domain t.point) (λ (t : Slot). IsPointOf site.domain.now t.point) slots all)

-- ---- references

-- the port of a reference reads the variable of the reference
pub reads_other : (at : NodePiece) (is : IsNodePiece at) (j place : ℕ) (m : Map) (v : Variable) → slice_get (references (view_piece at.piece.now).tree) j ≡ Some (record { place = place; map = m })
    → slice_get (view_system at.scheduled.now.timed.flat).variables place ≡ Some v → (IsTrue (is_input v.kind) → ⊥)
    → (port : InPort) → IsPort (view_system at.scheduled.now.timed.flat) at.scheduled.now.timed.helpers at.scheduled.now.layout.placements at.scheduled.now.layout.cells port
    → node_of at.scheduled.now.layout.cells port.cell ≡ Some at.node.0 → port.piece ≡ at.number → port.site ≡ j → ⊥
reads_other at is j place m v is_reference is_variable other port h node number site =
    let s = view_system at.scheduled.now.timed.flat in
    let f = h.4 in
    let n = node_of_port s at.scheduled.now.timed.helpers at.scheduled.now.layout.placements at.scheduled.now.layout.cells port h at.node.0 node in
    let same : f.variable ≡ is.variable = some_is f.variable is.variable (sym f.is_variable ∙ ap (λ (i : ℕ). slice_get (nodes s) i) n ∙ is.is_variable) in
    let piece : f.piece ≡ view_piece at.piece.now = some_is f.piece (view_piece at.piece.now)
    (sym f.is_piece ∙ ap (λ (i : ℕ). slice_get f.variable.pieces i) number ∙ ap (λ (w : Variable). slice_get w.pieces at.number) same ∙ is.is_piece) in
    let r = same_reference f.place place h.3 m (sym f.is_reference ∙ ap (λ (i : ℕ). slice_get (references f.piece.tree) i) site ∙ ap (λ (q : Piece). slice_get (references q.tree) j) piece ∙ is_reference) in
    let read : h.2 ≡ v = some_is h.2 v (sym f.is_variable_read ∙ ap (λ (i : ℕ). slice_get s.variables i) r.0 ∙ is_variable) in
    other (subst (λ (w : Variable). IsTrue (is_input w.kind)) read f.input_kind)

pub not_input : (v : Variable) → IsTrue (is_computed v.kind) → IsTrue (is_input v.kind) → ⊥
not_input v t u = go (is_input v.kind) t u
  where
    go : (b : Bool) → IsTrue (not b) → IsTrue b → ⊥
    go true t u = absurd cc
    go false t u = absurd cc

-- the direction of a reference's helper
pub fine_direction : (at : NodePiece) (is : IsNodePiece at) (j place : ℕ) (m : Map) → slice_get (references (view_piece at.piece.now).tree) j ≡ Some (record { place = place; map = m })
    → (o : Option Pipeline) → helper_at at.scheduled.now.timed.helpers (node_place (view_system at.scheduled.now.timed.flat) at.node.0) at.number j ≡ o
    → IfSome (direction_of o) (λ w. length w ≡ m.from) × IfSome (direction_of o) (AtMost 4095)
fine_direction at is j place m e None f = (tt, tt)
fine_direction at is j place m e (Some h) f =
    let s = view_system at.scheduled.now.timed.flat in
    let hs = at.scheduled.now.timed.helpers in
    let own = node_place s at.node.0 in
    let r = found_helper hs 0 own at.number j h f in
    let moving = all_at (IsMoving s at.scheduled.now.timed.times) hs r.at r.helper is.scheduled.legal.helpers r.is_helper in
    let var : moving.variable ≡ is.variable = some_is moving.variable is.variable (sym moving.is ∙ ap (λ (i : ℕ). slice_get s.variables i) r.var_is ∙ node_variable s at.node.0 is.variable is.is_variable) in
    let piece : moving.piece ≡ view_piece at.piece.now = some_is moving.piece (view_piece at.piece.now)
    (sym moving.is_piece ∙ ap (λ (i : ℕ). slice_get moving.variable.pieces i) r.piece_is ∙ ap (λ (w : Variable). slice_get w.pieces at.number) var ∙ is.is_piece) in
    let same : moving.reference ≡ record { place = place; map = m } = some_is moving.reference (record { place = place; map = m })
    (sym moving.is_reference ∙ ap (λ (i : ℕ). slice_get (references moving.piece.tree) i) r.site_is ∙ ap (λ (q : Piece). slice_get (references q.tree) j) piece ∙ e) in
    let step = first_step moving.time.linear r.helper.direction moving.reference.map moving.direction in
    let from : moving.reference.map.from ≡ m.from = ap (λ (x : Reference). x.map.from) same in
    (subst (λ (w : Point). length w ≡ m.from) r.direction_is (step.size ∙ from), subst (AtMost 4095) r.direction_is step.small)

-- ---- what the code reads

-- the variable that a reference reads
pub var_there : (at : NodePiece) (j var : ℕ) (m : Map) → IsPart at j (reference var m) → var < length at.scheduled.now.timed.flat.vars
var_there at j var m part =
    let vs = signatures (view_system at.scheduled.now.timed.flat) in
    let l : var < length vs = go (slice_get vs var) refl part.fits.results in
    let a : length vs ≡ length (view_system at.scheduled.now.timed.flat).variables = length-map (view_system at.scheduled.now.timed.flat).variables signature in
    let b : length (view_system at.scheduled.now.timed.flat).variables ≡ length at.scheduled.now.timed.flat.vars = length-map at.scheduled.now.timed.flat.vars view_variable in
    omega (arith, l, a, b)
  where
    go : (o : Option Signature) → slice_get (signatures (view_system at.scheduled.now.timed.flat)) var ≡ o → dimension_of o ≡ Some (length m.rows) → var < length (signatures (view_system at.scheduled.now.timed.flat))
    go None e f = absurd cc
    go (Some v) e f = slice_get_within (signatures (view_system at.scheduled.now.timed.flat)) var v e

pub var_is : (at : NodePiece) (var : ℕ) (x : Var) (vars : List Var) → var < length at.scheduled.now.timed.flat.vars → vars ≡ at.scheduled.now.timed.flat.vars → x ≡ get_or vars var x
    → slice_get (view_system at.scheduled.now.timed.flat).variables var ≡ Some (view_variable x)
var_is at var x vars l e f = variable_at at.scheduled.now.timed.flat.vars var x l (subst (λ (xs : List Var). x ≡ get_or xs var x) e f)

-- a reference to an input as the code has it
pub site_is : (at : NodePiece) (is : IsNodePiece at) (j var : ℕ) (m : Map) (x : Var) (site : InputSite) → IsPart at j (reference var m) → slice_get (view_system at.scheduled.now.timed.flat).variables var ≡ Some (view_variable x) → is_computed x.kind ≡ false
    → site.domain.now ≡ at.piece.now.domain → site.input.now ≡ x → site.map.now ≡ m → site.direction ≡ direction_of (helper_at at.scheduled.now.timed.helpers (node_place (view_system at.scheduled.now.timed.flat) at.node.0) at.number j)
    → IsInputSite at j site
site_is at is j var m x site part read computed a b c d =
    let there = reference_there at j var m part in
    let fine = fine_direction at is j var m there (helper_at at.scheduled.now.timed.helpers (node_place (view_system at.scheduled.now.timed.flat) at.node.0) at.number j) refl in
    let from = part.fits.from in
    record {
      domain = a;
      direction = d;
      place = var;
      is_reference = there ∙ ap (λ (g : Map). let r : Reference = record { place = var; map = g } in Some r) (sym c);
      is_read = read ∙ ap (λ (y : Var). Some (view_variable y)) (sym b);
      kind = subst (λ (y : Var). IsTrue (is_input y.kind)) (sym b) (input_kind (is_input x.kind) computed);
      readable = record {
        size = subst (λ (o : Option Point). IfSome o (λ w. length w ≡ site.domain.now.dim)) (sym d) (subst (λ (n : ℕ). IfSome (direction_of (helper_at at.scheduled.now.timed.helpers (node_place (view_system at.scheduled.now.timed.flat) at.node.0) at.number j)) (λ w. length w ≡ n)) (from ∙ ap (λ (set : Set). set.dim) (sym a)) fine.0);
        small = subst (λ (o : Option Point). IfSome o (AtMost 4095)) (sym d) fine.1;
        from = ap (λ (g : Map). g.from) c ∙ from ∙ ap (λ (set : Set). set.dim) (sym a);
        rows = subst (λ (g : Map). All IsWithinLimits g.rows) (sym c) part.rows;
      };
    }
  where
    input_kind : (b : Bool) → not b ≡ false → IsTrue b
    input_kind true e = refl
    input_kind false e = absurd cc
