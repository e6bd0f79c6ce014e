-- Runs of tap sites: as they are made, one behind the other, and as they are gone through.
use Rattle.std.proofs.Common.{◌≡◌, ◌∙◌, ℕ, ◌+◌, ◌<◌, ⊎_elim, zero, suc, List, [], ◌∷◌, ◌++◌, length, length-append, map, drop, get_or, Some, refl, sym, ap, subst, arith, append_assoc, append-nil}
use Rattle.std.specs.Prelude.{slice_get}
use Rattle.std.proofs.lemmas.Option.{slice_get_within}
use Rattle.av_space.specs.declared.runs.SiteRun.{SiteRun}
use Rattle.av_space.specs.Taps.{Tap}
use Rattle.av_space.specs.inner.Runs.{IsSiteRun, AreRunsFrom, AreRuns, AreNodeRunsTo}
use Rattle.av_space.specs.inner.Sites.{TapMade, tap_of}
use Rattle.av_base.proofs.Lists.{get_cases, next_item, same_default, some_is}

-- ---- of one node

-- the runs of the sites before this number: with any that go on from there they are all runs
abbrev pub AreRunsTo : List Tap → ℕ → List SiteRun → Type 0
AreRunsTo taps end runs = (rest : List SiteRun) → AreRunsFrom taps end rest → AreRuns taps (runs ++ rest)

pub one_more_run : (taps : List Tap) (runs : List SiteRun) (run : SiteRun) → IsSiteRun taps run.first run.end → AreRunsTo taps run.first runs → AreRunsTo taps run.end (runs ++ run ∷ [])
one_more_run taps runs run is h rest more = subst (AreRuns taps) (sym (append_assoc runs (run ∷ []) rest)) (h (run ∷ rest) (refl, is, more))

pub all_runs : (taps : List Tap) (end : ℕ) (runs : List SiteRun) → end ≡ length taps → AreRunsTo taps end runs → AreRuns taps runs
all_runs taps end runs e h = subst (AreRuns taps) (append-nil runs) (h [] e)

-- the run that comes next
pub next_run : (taps : List Tap) (end k : ℕ) (runs : List SiteRun) (d : SiteRun) → k < length runs → AreRunsFrom taps end (drop k runs)
    → ((get_or runs k d).first ≡ end) × IsSiteRun taps (get_or runs k d).first (get_or runs k d).end × AreRunsFrom taps (get_or runs k d).end (drop (k + 1) runs)
next_run taps end k runs d low h = subst (AreRunsFrom taps end) (next_item runs k (get_or runs k d) low (same_default runs k d (get_or runs k d) low)) h

-- ---- of each node

last_run : (b c : List SiteRun) (j : ℕ) → slice_get (b ∷ []) j ≡ Some c → (j ≡ 0) × (b ≡ c)
last_run b c zero e = (refl, some_is b c e)
last_run b c (suc j) e = absurd cc

pub no_node : (sites : List (List TapMade)) → AreNodeRunsTo sites 0 []
no_node sites = record { number = refl; within = omega arith; each = λ k own some is e. absurd cc }

pub one_more_node : (sites : List (List TapMade)) (n : ℕ) (runs : List (List SiteRun)) (own : List TapMade) (some : List SiteRun) → slice_get sites n ≡ Some own → AreRuns (map tap_of own) some → AreNodeRunsTo sites n runs
    → AreNodeRunsTo sites (n + 1) (runs ++ some ∷ [])
one_more_node sites n runs own some is_own are h =
    let many = h.number in
    let longer : length (runs ++ some ∷ []) ≡ length runs + 1 = length-append runs (some ∷ []) in
    record {
      number = omega (arith, many, longer);
      within = (let there = slice_get_within sites n own is_own in omega (arith, there));
      each = λ k other these is e. ⊎_elim
          (λ before. h.each k other these is before)
          (λ behind.
          let last = last_run some these behind.0 behind.2 in
          let zero_is = last.0 in
          let at = behind.1 in
          let same : k ≡ n = omega (arith, zero_is, at, many) in
          let here : own ≡ other = some_is own other (sym is_own ∙ ap (slice_get sites) (sym same) ∙ is) in
          subst (AreRuns (map tap_of other)) last.1 (subst (λ (ts : List TapMade). AreRuns (map tap_of ts) some) here are))
          (get_cases runs (some ∷ []) k these e);
    }
