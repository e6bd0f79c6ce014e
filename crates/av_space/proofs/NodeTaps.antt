-- The tap sites of nodes, in turn.
use Rattle.std.proofs.Common.{◌≡◌, ℕ, ◌+◌, ◌<◌, List, [], ◌∷◌, ◌++◌, length, map, get_or, sym, ap, ap₂, ◌∙◌, arith, zero-add, Some}
use Rattle.std.specs.Prelude.{slice_get}
use Rattle.std.proofs.lemmas.List.{map-append, length-map}
use Rattle.std.proofs.lemmas.Option.{slice_get_within}
use Rattle.std.proofs.Math.ListN.{get_or-map}
use Rattle.std.proofs.lemmas.List.FromFn.{map-range_with_len_more, get_or-map-range_with_len, length-map-range_with_len}
use Rattle.av_flat.specs.declared.timed.Helper.{Helper}
use Rattle.av_flat.specs.Trees.{Variable, FlatSystem}
use Rattle.av_flat.specs.Nodes.{nodes, node_place}
use Rattle.av_space.specs.Taps.{Tap, taps, taps_of}
use Rattle.av_space.specs.inner.Sites.{TapMade, tap_of, AreTapsTo, AreNodeTaps}

pub taps_step : (s : FlatSystem) (hs : List Helper) (k place : ℕ) (v : Variable) → place ≡ node_place s k → slice_get (nodes s) k ≡ Some v → (ts : List TapMade) → map tap_of ts ≡ taps s hs place v → (sites : List (List TapMade))
    → AreTapsTo s hs k sites → AreTapsTo s hs (k + 1) (sites ++ ts ∷ [])
taps_step s hs k place v here is ts e sites h =
    let f : ℕ → List Tap = λ n. taps_of s hs n (slice_get (nodes s) n) in
    let own : map tap_of ts ≡ f k = e ∙ ap (λ (m : ℕ). taps s hs m v) here ∙ ap (taps_of s hs k) (sym is) in
    map-append (λ (l : List TapMade). map tap_of l) sites (ts ∷ []) ∙ ap₂ (λ (a : List (List Tap)) b. a ++ b ∷ []) h own ∙ sym (map-range_with_len_more f 0 k k (zero-add k))

-- those of one node
pub taps_at_node : (s : FlatSystem) (hs : List Helper) (sites : List (List TapMade)) → AreNodeTaps s hs sites → (n : ℕ) (v : Variable) → slice_get (nodes s) n ≡ Some v → (d : List TapMade)
    → (n < length sites) × (map tap_of (get_or sites n d) ≡ taps s hs (node_place s n) v)
taps_at_node s hs sites h n v is d =
    let f : ℕ → List Tap = λ k. taps_of s hs k (slice_get (nodes s) k) in
    let g : List TapMade → List Tap = λ ts. map tap_of ts in
    let low = slice_get_within (nodes s) n v is in
    let size : length sites ≡ length (nodes s) = sym (length-map sites g) ∙ ap (λ (l : List (List Tap)). length l) h ∙ length-map-range_with_len f 0 (length (nodes s)) in
    let at : g (get_or sites n d) ≡ f n = sym (get_or-map g sites n d) ∙ ap (λ (l : List (List Tap)). get_or l n (g d)) h ∙ get_or-map-range_with_len f 0 (length (nodes s)) n n (g d) low (omega arith) in
    (omega (arith, size, low), at ∙ ap (taps_of s hs n) is)
