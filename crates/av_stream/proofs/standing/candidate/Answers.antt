use Rattle.std.proofs.Common.{◌≡◌, ℤ, List, [], Option, None, length, sym, subst, ap, ◌∙◌, arith, pos, of_z, w64}
use Rattle.std.specs.Prelude.{IfSome, IfNone}
use Rattle.av_affine.specs.declared.completion.Placed.{Placed}
use Rattle.av_affine.specs.Numbers.{AtMost}
use Rattle.av_flat.specs.declared.timed.Time.{Time}
use Rattle.av_stream.specs.inner.Standing.{IsMatrixFor, space_rows, placing_by, StandsAt}
use Rattle.av_stream.proofs.StandingPoints.{rows_below, only_point, no_other_point}
use Rattle.av_stream.proofs.Quotients.{cycle_is}
use Rattle.av_stream.proofs.standing.candidate.Goals as goal

pub point_at-requires-clause-matrix : goal.point_at-requires-clause-matrix
point_at-requires-clause-matrix c = subst (IsMatrixFor c.args.time.now) c.in-Some.is c.requires.matrix

pub point_at-requires-clause-size : goal.point_at-requires-clause-size
point_at-requires-clause-size c =
    let rows = ap (λ (m : Option Placed). length (space_rows m)) c.in-Some.is in
    let below = rows_below c.args.time.now c.in-Some.placed (subst (IsMatrixFor c.args.time.now) c.in-Some.is c.requires.matrix) in
    omega (arith, c.requires.size, rows, below)

pub returns-in-Some-clause-some : goal.returns-in-Some-clause-some
returns-in-Some-clause-some c = subst (λ (m : Option Placed). IfSome c.point_at.result (StandsAt (placing_by c.args.time.now m) c.args.at.now c.args.cycle)) (sym c.in-Some.is) c.point_at.ensures.some

pub returns-in-Some-clause-only : goal.returns-in-Some-clause-only
returns-in-Some-clause-only c =
    subst (λ (m : Option Placed). IfSome c.point_at.result (λ z. (y : List ℤ) → StandsAt (placing_by c.args.time.now m) c.args.at.now c.args.cycle y → y ≡ z)) (sym c.in-Some.is) c.point_at.ensures.only

pub returns-in-Some-clause-none : goal.returns-in-Some-clause-none
returns-in-Some-clause-none c =
    subst (λ (m : Option Placed). IfNone c.point_at.result ((z : List ℤ) → AtMost 4095 z → StandsAt (placing_by c.args.time.now m) c.args.at.now c.args.cycle z → ⊥)) (sym c.in-Some.is) c.point_at.ensures.none

-- a node without indices has no row
none_here : (time : Time) (at : List ℤ) (m : Option Placed) → m ≡ None → IsMatrixFor time m → length at ≡ length (space_rows m) → (length time.linear ≡ 0) × (length at ≡ 0)
none_here time at m e is size = (subst (IsMatrixFor time) e is, size ∙ ap (λ (n : Option Placed). length (space_rows n)) e)

pub returns-in-None-clause-some : goal.returns-in-None-clause-some
returns-in-None-clause-some c =
    let time = c.args.time.now in
    let none = none_here time c.args.at.now c.args.matrix.now c.in-None.is c.requires.matrix c.requires.size in
    let in_cycle : pos c.args.cycle ≡ time.offset = cycle_is c.args.cycle c.from.result time.offset c.from.ensures c.requires.near c.requires.timely c.if-from-time.true in
    subst (StandsAt (placing_by time c.args.matrix.now) c.args.at.now c.args.cycle) (sym c.from_slice.ensures)
    (subst (λ (m : Option Placed). StandsAt (placing_by time m) c.args.at.now c.args.cycle []) (sym c.in-None.is) (only_point time c.args.at.now c.args.cycle none.0 none.1 in_cycle))

pub returns-in-None-clause-only : goal.returns-in-None-clause-only
returns-in-None-clause-only c = λ y stands.
    let time = c.args.time.now in
    let none = none_here time c.args.at.now c.args.matrix.now c.in-None.is c.requires.matrix c.requires.size in
    (no_other_point time c.args.at.now c.args.cycle y none.0 (subst (λ (m : Option Placed). StandsAt (placing_by time m) c.args.at.now c.args.cycle y) c.in-None.is stands)).0 ∙ sym c.from_slice.ensures

pub returns-in-None-2-clause-none : goal.returns-in-None-2-clause-none
returns-in-None-2-clause-none c = λ z small stands.
    let time = c.args.time.now in
    let none = none_here time c.args.at.now c.args.matrix.now c.in-None.is c.requires.matrix c.requires.size in
    let other = no_other_point time c.args.at.now c.args.cycle z none.0 (subst (λ (m : Option Placed). StandsAt (placing_by time m) c.args.at.now c.args.cycle z) c.in-None.is stands) in
    c.if-from-time.false (ap (of_z w64) (c.from.ensures ∙ other.1))
