-- The helpers of a scheduled system name moved references, each with the first direction that moves it, and each moved reference
-- has one.
use Rattle.std.proofs.Common.{◌≡◌, ℕ, suc, ◌+◌, Option, Some, None, List, [], ◌∷◌, slice_get, refl, subst, arith}
use Rattle.std.specs.List.{AllByRecursion}
use Rattle.av_tree.specs.Points.{Point}
use Rattle.av_flat.specs.Trees.{Piece, Variable, FlatSystem}
use Rattle.av_flat.specs.declared.timed.Time.{Time}
use Rattle.av_flat.specs.Nodes.{number_at}
use Rattle.av_flat.specs.Broadcasts.{Reference, references, first_moving}
use Rattle.av_flat.specs.Legal.{IsMoving}
use Rattle.av_pipe.specs.Pipelines.{helper_of, of_references, of_pieces, of_variable, of_variables, pipelines}
use Rattle.av_base.proofs.Lists.{each_append}

module _ (s : FlatSystem) (times : List Time) where
  module _ (place : ℕ) (v : Variable) (ev : slice_get s.variables place ≡ Some v) (t : Time) (et : slice_get times (number_at s place) ≡ Some t) where
    moving_references : (i : ℕ) (p : Piece) → slice_get v.pieces i ≡ Some p → (n : ℕ) (rs : List Reference) → ((k : ℕ) (r : Reference) → slice_get rs k ≡ Some r → slice_get (references p.tree) (n + k) ≡ Some r)
        → AllByRecursion (IsMoving s times) (of_references place i t.linear n rs)
    moving_references i p ep n [] at = tt
    moving_references i p ep n (r ∷ rs) at =
        each_append (IsMoving s times) (helper_of place i n (first_moving t.linear r.map)) (of_references place i t.linear (suc n) rs)
        (first (first_moving t.linear r.map) refl)
        (moving_references i p ep (suc n) rs (λ k q e. subst (λ (j : ℕ). slice_get (references p.tree) j ≡ Some q) (omega arith) (at (suc k) q e)))
      where
        first : (o : Option Point) → first_moving t.linear r.map ≡ o → AllByRecursion (IsMoving s times) (helper_of place i n o)
        first None e = tt
        first (Some w) e = (
          record {
            variable = v;
            is = ev;
            piece = p;
            is_piece = ep;
            reference = r;
            is_reference = subst (λ (j : ℕ). slice_get (references p.tree) j ≡ Some r) (omega arith) (at 0 r refl);
            time = t;
            is_time = et;
            direction = e;
          },
          tt,
        )

    moving_pieces : (i : ℕ) (ps : List Piece) → ((k : ℕ) (p : Piece) → slice_get ps k ≡ Some p → slice_get v.pieces (i + k) ≡ Some p) → AllByRecursion (IsMoving s times) (of_pieces place t.linear i ps)
    moving_pieces i [] at = tt
    moving_pieces i (p ∷ ps) at =
        each_append (IsMoving s times) (of_references place i t.linear 0 (references p.tree)) (of_pieces place t.linear (suc i) ps)
        (moving_references i p (subst (λ (j : ℕ). slice_get v.pieces j ≡ Some p) (omega arith) (at 0 p refl)) 0 (references p.tree) (λ k r e. subst (λ (j : ℕ). slice_get (references p.tree) j ≡ Some r) (omega arith) e))
        (moving_pieces (suc i) ps (λ k q e. subst (λ (j : ℕ). slice_get v.pieces j ≡ Some q) (omega arith) (at (suc k) q e)))

  moving_variable : (place : ℕ) (v : Variable) → slice_get s.variables place ≡ Some v → (o : Option Time) → slice_get times (number_at s place) ≡ o → AllByRecursion (IsMoving s times) (of_variable place o v)
  moving_variable place v ev None e = tt
  moving_variable place v ev (Some t) e = moving_pieces place v ev t e 0 v.pieces (λ k p h. subst (λ (j : ℕ). slice_get v.pieces j ≡ Some p) (omega arith) h)

  moving_variables : (place : ℕ) (vs : List Variable) → ((k : ℕ) (v : Variable) → slice_get vs k ≡ Some v → slice_get s.variables (place + k) ≡ Some v) → AllByRecursion (IsMoving s times) (of_variables s times place vs)
  moving_variables place [] at = tt
  moving_variables place (v ∷ vs) at =
      each_append (IsMoving s times) (of_variable place (slice_get times (number_at s place)) v) (of_variables s times (suc place) vs)
      (moving_variable place v (subst (λ (j : ℕ). slice_get s.variables j ≡ Some v) (omega arith) (at 0 v refl)) (slice_get times (number_at s place)) refl)
      (moving_variables (suc place) vs (λ k q e. subst (λ (j : ℕ). slice_get s.variables j ≡ Some q) (omega arith) (at (suc k) q e)))

  pub all_moving : AllByRecursion (IsMoving s times) (pipelines s times)
  all_moving = moving_variables 0 s.variables (λ k v e. subst (λ (j : ℕ). slice_get s.variables j ≡ Some v) (omega arith) e)
