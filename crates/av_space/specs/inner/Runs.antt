-- Runs of tap sites: sites of one piece that follow each other, so that all of them read nothing on a cell where the piece has no computation.
use Rattle.std.specs.Prelude.{◌≡◌, ℕ, ◌<◌, ◌≤◌, List, [], ◌∷◌, Some, slice_get, length, map}
use Rattle.av_space.specs.declared.runs.SiteRun.{SiteRun}
use Rattle.av_space.specs.Taps.{Tap}
use Rattle.av_space.specs.inner.Sites.{TapMade, tap_of}

-- the sites from one number on, up to another
pub record IsSiteRun (taps : List Tap) (first end : ℕ) : Type 0 where
  pub some : first < end
  pub within : end ≤ length taps
  pub one_piece : (j : ℕ) (t u : Tap) → first ≤ j → j < end → slice_get taps first ≡ Some t → slice_get taps j ≡ Some u → u.place.piece ≡ t.place.piece

-- the sites from this number on
abbrev pub AreRunsFrom : List Tap → ℕ → List SiteRun → Type 0
AreRunsFrom taps first [] = first ≡ length taps
AreRunsFrom taps first (r ∷ rs) = (r.first ≡ first) × IsSiteRun taps r.first r.end × AreRunsFrom taps r.end rs

-- all sites
abbrev pub AreRuns : List Tap → List SiteRun → Type 0
AreRuns taps runs = AreRunsFrom taps 0 runs

-- those of each of the first nodes
pub record AreNodeRunsTo (sites : List (List TapMade)) (n : ℕ) (runs : List (List SiteRun)) : Type 0 where
  pub number : length runs ≡ n
  pub within : n ≤ length sites
  pub each : (k : ℕ) (own : List TapMade) (some : List SiteRun) → slice_get sites k ≡ Some own → slice_get runs k ≡ Some some → AreRuns (map tap_of own) some

abbrev pub AreNodeRuns : List (List TapMade) → List (List SiteRun) → Type 0
AreNodeRuns sites runs = AreNodeRunsTo sites (length sites) runs
