-- Lists of vectors, lane by lane.
use Rattle.std.proofs.Common.{◌≡◌, ℕ, zero, suc, ◌<◌, List, [], ◌∷◌, length, get_or, set, replicate, refl, sym, ◌∙◌, ap}
use Rattle.std.proofs.lemmas.List.{length-map, get_or-map}
use Rattle.av_clock.specs.Merged.{resolved}
use Rattle.av_lanes.specs.Seen.{lane}
use Rattle.av_lanes.specs.inner.Engine.{at_sources}

-- a vector at a place
pub lane_set : (k : ℕ) (words : List (List ℕ)) (place : ℕ) (word : List ℕ) → lane k (set words place word) ≡ set (lane k words) place (get_or word k 0)
lane_set k [] place word = refl
lane_set k (w ∷ words) zero word = refl
lane_set k (w ∷ words) (suc place) word = ap (λ rest. get_or w k 0 ∷ rest) (lane_set k words place word)

-- past the end there is 0 in each lane
lane_none : (k place : ℕ) → get_or (lane k []) place 0 ≡ get_or (get_or [] place []) k 0
lane_none zero place = refl
lane_none (suc k) place = refl

-- the word at a place
pub lane_at : (k : ℕ) (words : List (List ℕ)) (place : ℕ) → get_or (lane k words) place 0 ≡ get_or (get_or words place []) k 0
lane_at k [] place = lane_none k place
lane_at k (w ∷ words) zero = refl
lane_at k (w ∷ words) (suc place) = lane_at k words place

pub lane_size : (k : ℕ) (words : List (List ℕ)) → length (lane k words) ≡ length words
lane_size k words = length-map words (λ word. get_or word k 0)

-- the words at their sources
pub lane_sources : (k : ℕ) (sources : List ℕ) (words : List (List ℕ)) → lane k (at_sources sources words) ≡ resolved sources (lane k words)
lane_sources k [] words = refl
lane_sources k (source ∷ sources) words =
    let rest = lane_sources k sources words in
    ap (λ word. word ∷ lane k (at_sources sources words)) (sym (lane_at k words source)) ∙ ap (λ others. get_or (lane k words) source 0 ∷ others) rest

-- one vector in all places
pub lane_replicate : (k n : ℕ) (word : List ℕ) → lane k (replicate n word) ≡ replicate n (get_or word k 0)
lane_replicate k zero word = refl
lane_replicate k (suc n) word = ap (λ rest. get_or word k 0 ∷ rest) (lane_replicate k n word)

-- the same, of a vector that was read with another default
pub lane_in : (k : ℕ) (words : List (List ℕ)) (place : ℕ) (d : List ℕ) → place < length words → get_or (lane k words) place 0 ≡ get_or (get_or words place d) k 0
lane_in k words place d lt = get_or-map (λ word. get_or word k 0) words place d 0 lt
