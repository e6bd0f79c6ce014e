-- A kind that does not count has the same wires whatever has the number of the counter.
use Rattle.std.proofs.Common.{◌≡◌, ℕ, zero, suc, ◌+◌, List, [], ◌∷◌, length, refl, arith, ap, false}
use Rattle.std.specs.Prelude.{nat_lt}
use Rattle.std.specs.List.{list_any}
use Rattle.av_base.specs.declared.width.Width.{Width}
use Rattle.av_base.proofs.Truths.{neither}
use Rattle.av_net.specs.declared.operation.Operand.{Operand}
use Rattle.av_flat.specs.Trees.{Tree, reference, pick}
use Rattle.av_kinds.specs.declared.program.Inlet.{Inlet}
use Rattle.av_kinds.specs.declared.program.Inlet.TheVariants.{Inputs, Taps, Pipe}
use Rattle.av_kinds.specs.Names.{Naming, inner_name, input_name, tap_name}
use Rattle.av_kinds.specs.inner.Gates.{named}
use Rattle.av_kinds.specs.declared.choice.Tap.{Tap}
use Rattle.av_kinds.specs.inner.Choices.{fit_built}
use Rattle.av_kinds.specs.inner.Cells.{taps_built, over_taps, place_built, piece_built, datapaths_built, Taken}
use Rattle.av_kinds.specs.declared.shape.SiteShape.{SiteShape}
use Rattle.av_kinds.specs.inner.Shapes.{ModeShape, LaneShape}
use Rattle.av_kinds.specs.inner.Interfaces.{PortCounts, tap_in, tap_of, past_site, taps_of, datapaths_of, past_modes, options_by}
use Rattle.av_kinds.specs.inner.Kinds.{selects, lane_counts, counts, lane_built, lanes_wires, lanes_drives}

-- a place without selections
fit_same : (name : Naming) (w : Width) (a b : Operand) (n : ℕ) (tap : Tap) → tap.arms ≡ [] → fit_built name w a n tap ≡ fit_built name w b n tap
fit_same name w a b n tap none = rw none refl

none_there : (n : ℕ) → nat_lt 0 n ≡ false → n ≡ 0
none_there zero h = refl
none_there (suc n) h = absurd (grind arith)

no_options : (at : PortCounts) (shape : SiteShape) → nat_lt 0 shape.selections ≡ false → (tap_of at shape).arms ≡ []
no_options at shape h = by_inlet shape.inlet (none_there shape.selections h)
  where
    by_inlet : (i : Inlet) → shape.selections ≡ 0 → (tap_in at i shape.width shape.selections).arms ≡ []
    by_inlet Inputs e = ap (λ n. options_by input_name at.inputs at.bounds n) e
    by_inlet Taps e = ap (λ n. options_by tap_name at.taps at.bounds n) e
    by_inlet (Pipe h) e = refl

taps_same : (name : Naming) (w : Width) (a b : Operand) (n : ℕ) (at : PortCounts) (sites : List SiteShape) → list_any (λ (site : SiteShape). nat_lt 0 site.selections) sites ≡ false → taps_built name w a n (taps_of at sites) ≡ taps_built name w b n (taps_of at sites)
taps_same name w a b n at [] h = refl
taps_same name w a b n at (site ∷ sites) h =
    let two = neither (nat_lt 0 site.selections) (list_any (λ (x : SiteShape). nat_lt 0 x.selections) sites) h in
    let e = fit_same name w a b n (tap_of at site) (no_options at site two.0) in
    let m = n + length (named name n w (fit_built name w b n (tap_of at site))).gates in
    let f = taps_same name w a b m (past_site at site) sites two.1 in
    rw (e, f) refl

piece_same : (name : Naming) (w : Width) (a b : Operand) (n : ℕ) (at : PortCounts) (sites : List SiteShape) (tree : Tree) → list_any (λ (site : SiteShape). nat_lt 0 site.selections) sites ≡ false
    → piece_built name w a n (taps_of at sites) tree ≡ piece_built name w b n (taps_of at sites) tree
piece_same name w a b n at sites (reference place m) h = place_same sites h
  where
    place_same : (sites : List SiteShape) → list_any (λ (site : SiteShape). nat_lt 0 site.selections) sites ≡ false → place_built name w a n (taps_of at sites) ≡ place_built name w b n (taps_of at sites)
    place_same [] h = refl
    place_same (site ∷ sites) h = fit_same name w a b n (tap_of at site) (no_options at site (neither (nat_lt 0 site.selections) (list_any (λ (x : SiteShape). nat_lt 0 x.selections) sites) h).0)
piece_same name w a b n at sites (pick place choices k) h = place_same sites h
  where
    place_same : (sites : List SiteShape) → list_any (λ (site : SiteShape). nat_lt 0 site.selections) sites ≡ false → place_built name w a n (taps_of at sites) ≡ place_built name w b n (taps_of at sites)
    place_same [] h = refl
    place_same (site ∷ sites) h = fit_same name w a b n (tap_of at site) (no_options at site (neither (nat_lt 0 site.selections) (list_any (λ (x : SiteShape). nat_lt 0 x.selections) sites) h).0)
piece_same name w a b n at sites tree h = ap (λ (t : Taken). over_taps name w n t tree) (taps_same name w a b n at sites h)

lane_same : (a b : Operand) (at : PortCounts) (n : ℕ) (lane : LaneShape) → lane_counts lane ≡ false → lane_built a at n lane ≡ lane_built b at n lane
lane_same a b at n lane h = by_modes lane.modes (neither (nat_lt 1 (length lane.modes)) (list_any selects lane.modes) h)
  where
    by_modes : (modes : List ModeShape) → (nat_lt 1 (length modes) ≡ false) × (list_any selects modes ≡ false) → datapaths_built (inner_name n) lane.width a 0 (datapaths_of at modes) ≡ datapaths_built (inner_name n) lane.width b 0 (datapaths_of at modes)
    by_modes [] e = refl
    by_modes (t ∷ []) e = piece_same (inner_name n) lane.width a b 0 at t.sites t.tree (neither (selects t) false e.1).0
    by_modes (t ∷ u ∷ modes) e = absurd (grind arith)

pub wires_same : (a b : Operand) (at : PortCounts) (n : ℕ) (shape : List LaneShape) → counts shape ≡ false → lanes_wires a at n shape ≡ lanes_wires b at n shape
wires_same a b at n [] h = refl
wires_same a b at n (lane ∷ lanes) h =
    let two = neither (lane_counts lane) (list_any lane_counts lanes) h in
    let e = lane_same a b at n lane two.0 in
    let m = n + length (lane_built b at n lane).gates in
    rw (e, wires_same a b (past_modes at lane.modes) m lanes two.1) refl

pub drives_same : (a b : Operand) (at : PortCounts) (n k : ℕ) (shape : List LaneShape) → counts shape ≡ false → lanes_drives a at n k shape ≡ lanes_drives b at n k shape
drives_same a b at n k [] h = refl
drives_same a b at n k (lane ∷ lanes) h =
    let two = neither (lane_counts lane) (list_any lane_counts lanes) h in
    let e = lane_same a b at n lane two.0 in
    let m = n + length (lane_built b at n lane).gates in
    rw (e, drives_same a b (past_modes at lane.modes) m (k + 1) lanes two.1) refl
