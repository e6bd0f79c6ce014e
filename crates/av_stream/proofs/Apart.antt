-- Problems that begin a period apart never meet: not on a cell, and so not at a port.
use Rattle.std.proofs.Common.{◌≡◌, ◌≢◌, ℕ, ◌+◌, ◌*◌, ◌<◌, List, length, map, Some, inl, inr, sym, subst, ap, ◌∙◌, arith, suc-mul, mul-le-mul_right}
use Rattle.std.specs.Prelude.{slice_get}
use Rattle.std.specs.List.{range_with_len}
use Rattle.std.proofs.lemmas.Bool.{cases_lt}
use Rattle.std.proofs.lemmas.Option.{slice_get-get_or, slice_get_within}
use Rattle.std.proofs.lemmas.List.FromFn.{length-map-range_with_len, get_or-map-range_with_len}
use Rattle.av_base.proofs.Lists.{all_at, some_is}
use Rattle.av_tree.specs.Points.{Point}
use Rattle.av_flat.specs.Trees.{FlatSystem, view_system}
use Rattle.av_flat.specs.declared.timed.Helper.{Helper}
use Rattle.av_flat.specs.declared.timed.Timed.{Timed}
use Rattle.av_net.specs.declared.design.Entry.{Entry}
use Rattle.av_net.specs.declared.plan.Plan.{Plan}
use Rattle.av_net.specs.Designs.{IsSoundPlan}
use Rattle.av_net.specs.Flat.{flat_of, flat_module}
use Rattle.av_net.specs.Names.{names_of, given_names, wire_names, AreDistinct}
use Rattle.av_net.proofs.Distinct.{front_distinct}
use Rattle.av_net.proofs.FlatDesigns.{flat_is_sound_design}
use Rattle.av_net.proofs.Settles.{names_distinct}
use Rattle.av_space.specs.declared.cells.Cell.{Cell}
use Rattle.av_space.specs.declared.cells.Cells.{Cells}
use Rattle.av_space.specs.declared.cells.InPort.{InPort}
use Rattle.av_space.specs.Coordinates.{Placing}
use Rattle.av_space.specs.Listings.{input_name, InLine, IsInLine}
use Rattle.av_space.specs.Occupancy.{Computes}
use Rattle.av_space.specs.Whole.{HasWholeListing}
use Rattle.av_space.proofs.ByPlace.{from_map, pair_at}
use Rattle.av_space.proofs.OnePlacing.{one_placings}
use Rattle.av_stream.specs.Periods.{IsPeriod, HasPeriod}
use Rattle.av_stream.specs.Streams.{AreApartEach}

-- of numbers less than the period apart, each in its own problem, two are one where their cycles are, and so are the problems
apart : (c d a b period : ℕ) → c < d + period → d < c + period → c + a * period ≡ d + b * period → (a ≡ b) × (c ≡ d)
apart c d a b period near_c near_d same = elim (cases_lt a b) [
  | inl less ↦ (let more = mul-le-mul_right period less in absurd (omega (arith, near_c, same, more, suc-mul a period)))
  | inr rest ↦ elim (cases_lt b a) [
    | inl less ↦ (let more = mul-le-mul_right period less in absurd (omega (arith, near_d, same, more, suc-mul b period)))
    | inr ge ↦ (let e : a ≡ b = omega (arith, rest, ge) in (e, (let f : a * period ≡ b * period = ap (λ k. k * period) e in omega (arith, same, f))))
  ]
]

module _ (s : FlatSystem) (times : List Placing) (cells : List Cell) (period : ℕ) (is : IsPeriod s times cells period) where
  -- on a cell two computations of two problems are not in one cycle
  pub one_problem : (p c d m n a b : ℕ) (y z : Point) → Computes s times cells p c m y → Computes s times cells p d n z → c + a * period ≡ d + b * period → (a ≡ b) × (c ≡ d)
  one_problem p c d m n a b y z hy hz same = apart c d a b period (is.enough p d c n m z y hz hy) (is.enough p c d m n y z hy hz) same

  -- at a port two lines of two problems are not in one cycle
  pub one_line : (hs : List Helper) (ports : List InPort) (a b : ℕ) (l k : InLine) → IsInLine s hs times cells ports l → IsInLine s hs times cells ports k → l.port ≡ k.port
      → l.entry.cycle + a * period ≡ k.entry.cycle + b * period → (a ≡ b) × (l.entry.cycle ≡ k.entry.cycle)
  one_line hs ports a b l k hl hk port same =
      let e : hl.port ≡ hk.port = some_is hl.port hk.port (sym hl.is_port ∙ ap (slice_get ports) port ∙ hk.is_port) in
      let cell : hl.port.cell ≡ hk.port.cell = ap (λ (p : InPort). p.cell) e in
      let computes = subst (λ p. Computes s times cells p l.entry.cycle hl.fed.node hl.point) cell hl.fed.computes in
      one_problem hk.port.cell l.entry.cycle k.entry.cycle hl.fed.node hk.fed.node a b hl.point hk.point computes hk.fed.computes same

-- ---- ports

-- names that differ are told by their numbers
named_once : (names : List (List ℕ)) (n : ℕ) → names ≡ map input_name (range_with_len 0 n) → AreDistinct names → (i j : ℕ) → i < n → j < n → input_name i ≡ input_name j → i ≡ j
named_once names n are distinct i j li lj e = elim (cases_lt i j) [
  | inl less ↦ absurd (pair_at (λ (a b : List ℕ). a ≢ b) names distinct i j (input_name i) (input_name j) (at i li) (at j lj) less e)
  | inr rest ↦ elim (cases_lt j i) [
    | inl less ↦ absurd (pair_at (λ (a b : List ℕ). a ≢ b) names distinct j i (input_name j) (input_name i) (at j lj) (at i li) less (sym e))
    | inr ge ↦ omega (arith, rest, ge)
  ]
]
  where
    at : (k : ℕ) → k < n → slice_get names k ≡ Some (input_name k)
    at k lt =
        ap (λ (ns : List (List ℕ)). slice_get ns k) are ∙ slice_get-get_or (map input_name (range_with_len 0 n)) k (input_name k) (omega (arith, lt, length-map-range_with_len input_name 0 n))
        ∙ ap Some (get_or-map-range_with_len input_name 0 n k k (input_name k) lt (omega arith))

-- in a sound plan a port has one number
pub one_port : (t : Timed) (a : Cells) (p : Plan) → IsSoundPlan p → HasWholeListing t a (flat_of p) → (i j : ℕ) → i < length a.inputs → j < length a.inputs → input_name i ≡ input_name j → i ≡ j
one_port t a p sound carries i j li lj e =
    let m = flat_module p in
    let all = names_distinct m (flat_is_sound_design p sound).sound in
    let inputs = front_distinct (names_of m.inputs) (names_of m.registers) (front_distinct (given_names m) (wire_names m) all) in
    named_once (names_of m.inputs) (length a.inputs) carries.inputs.names inputs i j li lj e

-- ---- lines of all problems

pub lines_apart : (t : Timed) (a : Cells) (p : Plan) (period : ℕ) → IsSoundPlan p → HasWholeListing t a (flat_of p) → HasPeriod t a period → AreApartEach a.listing.ins period
lines_apart t a p period sound carries has_period = λ b d i j line other ix jy wires cycles.
    let s = view_system t.flat in
    let list = carries.whole.list in
    let pls = list.placings in
    let is : IsPeriod s pls a.cells period = subst (λ (q : List Placing). IsPeriod s q a.cells period) (one_placings t.times has_period.placings pls has_period.are_placings list.are_placings) has_period.is_period in
    let f : InLine → Entry = λ (l : InLine). l.entry in
    let x = from_map f list.ins.lines i line (sym (ap (λ (es : List Entry). slice_get es i) list.ins.entries) ∙ ix) in
    let y = from_map f list.ins.lines j other (sym (ap (λ (es : List Entry). slice_get es j) list.ins.entries) ∙ jy) in
    let k = all_at (IsInLine s t.helpers pls a.cells a.inputs) list.ins.lines i x.0 list.ins.each x.1 in
    let l = all_at (IsInLine s t.helpers pls a.cells a.inputs) list.ins.lines j y.0 list.ins.each y.1 in
    let kp = slice_get_within a.inputs x.0.port k.port k.is_port in
    let lp = slice_get_within a.inputs y.0.port l.port l.is_port in
    let wire : input_name x.0.port ≡ input_name y.0.port = sym k.wire_is ∙ ap (λ (e : Entry). e.wire) x.2 ∙ wires ∙ sym (ap (λ (e : Entry). e.wire) y.2) ∙ l.wire_is in
    let port : x.0.port ≡ y.0.port = one_port t a p sound carries x.0.port y.0.port kp lp wire in
    let cx : x.0.entry.cycle ≡ line.cycle = ap (λ (e : Entry). e.cycle) x.2 in
    let cy : y.0.entry.cycle ≡ other.cycle = ap (λ (e : Entry). e.cycle) y.2 in
    let one = one_line s pls a.cells period is t.helpers a.inputs b d x.0 y.0 k l port (omega (arith, cx, cy, cycles)) in
    (one.0, one_place i j line other ix jy wires (sym cx ∙ one.1 ∙ cy))
  where
    one_place : (i j : ℕ) (line other : Entry) → slice_get a.listing.ins i ≡ Some line → slice_get a.listing.ins j ≡ Some other → line.wire ≡ other.wire → line.cycle ≡ other.cycle → i ≡ j
    one_place i j line other ix jy wires cycles = elim (cases_lt i j) [
      | inl less ↦ absurd (pair_at (λ (line later : Entry). line.wire ≡ later.wire → line.cycle ≢ later.cycle) a.listing.ins carries.whole.apart i j line other ix jy less wires cycles)
      | inr rest ↦ elim (cases_lt j i) [
        | inl less ↦ absurd (pair_at (λ (line later : Entry). line.wire ≡ later.wire → line.cycle ≢ later.cycle) a.listing.ins carries.whole.apart j i other line jy ix less (sym wires) (sym cycles))
        | inr ge ↦ omega (arith, rest, ge)
      ]
    ]
