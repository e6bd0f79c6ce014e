use Rattle.std.proofs.Common.{◌≡◌, ℕ, ◌+◌, List, Option, length, sym, ap, subst, ◌∙◌, arith}
use Rattle.std.specs.Prelude.{slice_get, IfSome}
use Rattle.std.proofs.lemmas.List.{length-map}
use Rattle.std.proofs.lemmas.Result.{IfOk-weaker}
use Rattle.av_space.specs.declared.stretch.TapReading.{TapReading}
use Rattle.av_space.specs.Taps.{Tap}
use Rattle.av_space.specs.inner.Readings.{AreReadAt, AreReadBy, taps_of_reader}
use Rattle.av_space.specs.inner.Sites.{tap_of}
use Rattle.av_space.proofs.LikeReadings.{alike_readings}
use Rattle.av_space.proofs.linking.next_readings.Goals as goal
use Rattle.av_base.proofs.Lists.{get_mapped, some_is, there_is}

pub returns-then-is_like_the_last : goal.returns-then-is_like_the_last
returns-then-is_like_the_last c = λ u is_u.
    let at = c.args.scheduled.now in
    let reader = c.args.consumer.now in
    let taps = taps_of_reader at reader in
    let like = c.is_like_the_last.ensures c.if-is_like_the_last.true in
    let many = ap (λ (ts : List Tap). length ts) c.requires.sites in
    let size = length-map c.args.sites.now tap_of in
    let low = c.requires.number in
    let had = subst (λ (o : Option (List TapReading)). IfSome o (λ readings. (j : ℕ) → j + 1 ≡ c.args.number → AreReadAt at reader j readings)) c.in-Some.is c.requires.last in
    let next = like.1 in
    let last = there_is taps like.0 (omega (arith, many, size, low, next)) in
    alike_readings at reader last.0 u (like.2 last.0 u (ap (λ (ts : List Tap). slice_get ts like.0) c.requires.sites ∙ last.1) (ap (λ (ts : List Tap). slice_get ts c.args.number) c.requires.sites ∙ is_u)) c.in-Some.readings
    (had like.0 like.1 last.0 last.1)

pub tap_readings-requires-clause-site : goal.tap_readings-requires-clause-site
tap_readings-requires-clause-site c =
    let site = c.site_at.result.now in
    (c.args.number, ap (λ (ts : List Tap). slice_get ts c.args.number) (sym c.requires.sites) ∙ get_mapped tap_of c.args.sites.now c.args.number site c.site_at.ensures)

pub returns : goal.returns
returns c =
    let at = c.args.scheduled.now in
    let reader = c.args.consumer.now in
    let site = c.site_at.result.now in
    IfOk-weaker c.tap_readings.result (AreReadBy at reader (tap_of site)) (AreReadAt at reader c.args.number)
    (λ rs h t is_t.
    let same : tap_of site ≡ t = some_is (tap_of site) t (sym (ap (λ (ts : List Tap). slice_get ts c.args.number) (sym c.requires.sites) ∙ get_mapped tap_of c.args.sites.now c.args.number site c.site_at.ensures) ∙ is_t) in
    subst (λ (x : Tap). AreReadBy at reader x rs) same h)
    c.tap_readings.ensures
