use Rattle.std.proofs.Common.{◌≡◌, ◌+◌, ◌<◌, ℕ, List, length, sym, subst, ap, arith}
use Rattle.std.proofs.lemmas.List.{length-map}
use Rattle.av_flat.specs.Trees.{view_system}
use Rattle.av_space.specs.declared.stretch.TapReading.{TapReading}
use Rattle.av_space.specs.Taps.{Tap, IsTapped}
use Rattle.av_space.specs.inner.Readings.{AreReadAt, taps_of_reader}
use Rattle.av_space.specs.inner.Sites.{tap_of}
use Rattle.av_space.specs.inner.Stretches.{HasLinks, IsAt, IsBetween, Told, AreByCycle}
use Rattle.av_space.proofs.JoinedLinks.{between_more, at_between, none_between}
use Rattle.av_space.proofs.SiteLinks.{links_of_reader}
use Rattle.av_space.proofs.linking.run_links.Goals as goal

pub loop-number-init : goal.loop-number-init
loop-number-init c =
    let at = c.args.scheduled.now in
    let some = c.requires.run.some in (
      none_between (IsTapped (view_system at.timed.flat) at.timed.helpers at.layout.placements at.layout.cells) c.args.consumer.now.number.0 c.args.run.first c.args.links.now,
      tt,
      omega arith,
      omega (arith, some),
    )

pub next_readings-requires-clause-number : goal.next_readings-requires-clause-number
next_readings-requires-clause-number c =
    let many = ap (λ (ts : List Tap). length ts) c.requires.sites in
    let size = length-map c.args.sites.now tap_of in
    let more = c.loop-number-test.true in
    let within = c.requires.run.within in
    omega (arith, many, size, more, within)

pub next_readings-requires-clause-last : goal.next_readings-requires-clause-last
next_readings-requires-clause-last c = c.loop-number.invariant.1

pub site_links-requires : goal.site_links-requires
site_links-requires c =
    let at = c.args.scheduled.now in
    let reader = c.args.consumer.now in
    let more = c.loop-number-test.true in
    let within = c.requires.run.within in
    let low : c.loop-number.number < length (taps_of_reader at reader) = omega (arith, more, within) in
    subst AreByCycle (sym c.as_slice.ensures) (links_of_reader at reader c.requires.consumer c.loop-number.number c.in_ok-readings.readings low c.in_ok-readings.ensures).0

pub loop-number-preserved : goal.loop-number-preserved
loop-number-preserved c =
    let at = c.args.scheduled.now in
    let reader = c.args.consumer.now in
    let T = IsTapped (view_system at.timed.flat) at.timed.helpers at.layout.placements at.layout.cells in
    let k = c.loop-number.number in
    let p = reader.number.0 in
    let readings = c.in_ok-readings.readings in
    let more = c.loop-number-test.true in
    let within = c.requires.run.within in
    let low : k < length (taps_of_reader at reader) = omega (arith, more, within) in
    let own = (links_of_reader at reader c.requires.consumer k readings low c.in_ok-readings.ensures).1 in
    let mid = c.loop-number.links in
    let new = c.site_links.new.links in
    let above = c.loop-number.invariant.2 in (
      between_more T p c.args.run.first k (k + 1) c.args.links.now mid new above (omega arith) c.loop-number.invariant.0
          (at_between T p k mid new (own mid new (subst (λ (rs : List TapReading). HasLinks (Told rs) (IsAt p k) mid new) c.as_slice.ensures c.in_ok-site_links.ensures))),
      (λ j e. subst (λ (i : ℕ). AreReadAt at reader i readings) (omega (arith, e)) c.in_ok-readings.ensures),
      omega (arith, above),
      omega (arith, more),
    )

pub returns : goal.returns
returns c =
    let at = c.args.scheduled.now in
    let done = c.loop-number-test.false in
    let most = c.loop-number.invariant.3 in
    let same : c.loop-number.number ≡ c.args.run.end = omega (arith, done, most) in
    subst (λ (n : ℕ). HasLinks (IsTapped (view_system at.timed.flat) at.timed.helpers at.layout.placements at.layout.cells) (IsBetween c.args.consumer.now.number.0 c.args.run.first n) c.args.links.now c.loop-number.links) same c.loop-number.invariant.0
