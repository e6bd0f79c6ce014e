-- Helpers variable after variable, and what legal systems grant the code.
use Rattle.std.proofs.Common.{◌≡◌, ℕ, suc, pos, negsuc, ◌+◌, Some, List, [], ◌∷◌, ◌++◌, length, slice_get, refl, sym, ap, ◌∙◌, arith, add-one, append_assoc, All}
use Rattle.std.specs.List.{AllByRecursion}
use Rattle.std.proofs.lemmas.List.Elements.{All-from_recursion, recursion_from_All}
use Rattle.av_affine.specs.Numbers.{AtMost}
use Rattle.av_tree.specs.Points.{Point}
use Rattle.av_flat.specs.Broadcasts.{lists_of}
use Rattle.av_flat.specs.Trees.{Tree, Piece, Variable, FlatSystem, reference, constant, binary, choice, restriction, cases, dependence, reduction, pick}
use Rattle.av_flat.specs.Signatures.{Signature, signatures}
use Rattle.av_flat.specs.WellFormed.{Fits}
use Rattle.av_flat.specs.declared.timed.Time.{Time}
use Rattle.av_flat.specs.declared.timed.Helper.{Helper}
use Rattle.av_pipe.specs.Pipelines.{of_variable, of_variables}
use Rattle.av_flat.specs.Nodes.{nodes, number_at}
use Rattle.av_flat.specs.Chained.{IsChained, IsChainedVariable, IsChainedPiece}
use Rattle.av_flat.specs.Schedules.{IsSchedule, IsLinearPart}
use Rattle.av_pipe.specs.inner.Helping.{HasFineMaps, HasFinePieces}

-- ---- maps

abbrev points_of : ℕ → List Point
points_of n = lists_of (pos 0 ∷ pos 1 ∷ negsuc 0 ∷ []) n

fine_maps : (vs : List Signature) (n : ℕ) (t : Tree) → Fits vs n t → HasFineMaps (points_of n) t
fine_maps vs n (reference p m) f = ap (λ (k : ℕ). points_of k) (sym f.from)
fine_maps vs n (constant w) f = tt
fine_maps vs n (binary s a b) f = (fine_maps vs n a f.0, fine_maps vs n b f.1)
fine_maps vs n (choice a c b x y) f = (fine_maps vs n a f.0, fine_maps vs n b f.1, fine_maps vs n x f.2, fine_maps vs n y f.3)
fine_maps vs n (restriction d t) f = tt
fine_maps vs n (cases ts) f = tt
fine_maps vs n (dependence m t) f = tt
fine_maps vs n (reduction o m t set) f = tt
fine_maps vs n (pick place cs w) f = tt

fine_pieces : (vs : List Signature) (v : Variable) (ps : List Piece) → AllByRecursion (IsChainedPiece vs v) ps → AllByRecursion (λ (p : Piece). HasFineMaps (points_of v.domain.dim) p.tree) ps
fine_pieces vs v [] h = tt
fine_pieces vs v (p ∷ ps) h = (fine_maps vs v.domain.dim p.tree h.0.tree.fits, fine_pieces vs v ps h.1)

fine_all : (s : FlatSystem) (vs : List Variable) → AllByRecursion (IsChainedVariable s) vs → AllByRecursion HasFinePieces vs
fine_all s [] h = tt
fine_all s (v ∷ vs) h = ((h.0.indices, fine_pieces (signatures s) v v.pieces (recursion_from_All (IsChainedPiece (signatures s) v) v.pieces h.0.pieces)), fine_all s vs h.1)

pub fine_variables : (s : FlatSystem) → IsChained s → AllByRecursion HasFinePieces s.variables
fine_variables s h = fine_all s s.variables (recursion_from_All (IsChainedVariable s) s.variables h.each)

-- ---- linear parts

small_all : (ns : List Variable) (ts : List Time) → length ts ≡ length ns
    → ((n : ℕ) (v : Variable) (t : Time) → slice_get ns n ≡ Some v → slice_get ts n ≡ Some t → IsLinearPart 4 v.domain.dim t.linear) → AllByRecursion (λ (t : Time). AtMost 4 t.linear) ts
small_all ns [] e h = tt
small_all [] (t ∷ ts) e h = absurd (omega (arith, e))
small_all (v ∷ ns) (t ∷ ts) e h = ((h 0 v t refl refl).entries, small_all ns ts (omega (arith, e)) (λ n w u p q. h (suc n) w u p q))

pub small_times : (s : FlatSystem) (times : List Time) → IsSchedule s 4 times → All (λ (t : Time). AtMost 4 t.linear) times
small_times s times h = All-from_recursion (λ (t : Time). AtMost 4 t.linear) times (small_all (nodes s) times h.one_each h.linear)

-- ---- variables that are gone through

pub made_more : (s : FlatSystem) (times : List Time) (place : ℕ) (x : Variable) (xs : List Variable) (old new all : List Helper) (number : ℕ) → number ≡ number_at s place
    → old ++ of_variables s times place (x ∷ xs) ≡ all → new ≡ old ++ of_variable place (slice_get times number) x → new ++ of_variables s times (place + 1) xs ≡ all
made_more s times place x xs old new all number e f g =
    ap (λ (k : ℕ). new ++ of_variables s times k xs) (add-one place)
    ∙ ap (λ (hs : List Helper). hs ++ of_variables s times (suc place) xs) (g ∙ ap (λ (n : ℕ). old ++ of_variable place (slice_get times n) x) e)
    ∙ append_assoc old (of_variable place (slice_get times (number_at s place)) x) (of_variables s times (suc place) xs) ∙ f
