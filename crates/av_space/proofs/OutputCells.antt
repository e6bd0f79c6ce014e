-- Cells of outputs, one after another.
use Rattle.std.proofs.Common.{◌≡◌, ℕ, ◌+◌, Bool, true, false, cond, Some, List, [], ◌∷◌, ◌++◌, refl, sym, ap, ◌∙◌, arith}
use Rattle.std.specs.Prelude.{slice_get, filter}
use Rattle.std.specs.List.{range_with_len}
use Rattle.std.proofs.lemmas.List.{map-id, append-nil}
use Rattle.std.proofs.lemmas.List.FromFn.{filter_of_map_range_with_len_more}
use Rattle.av_flat.specs.declared.flat.Kind.TheVariants as kind
use Rattle.av_flat.specs.Trees.{Variable, FlatSystem}
use Rattle.av_flat.specs.Nodes.{nodes}
use Rattle.av_flat.specs.Signatures.{is_kind}
use Rattle.av_space.specs.declared.cells.Cell.{Cell}
use Rattle.av_space.specs.Ports.{is_output_cell}

is_output_at : (s : FlatSystem) (cells : List Cell) (k : ℕ) (x : Cell) (v : Variable) → slice_get cells k ≡ Some x → slice_get (nodes s) x.node ≡ Some v → is_output_cell s cells k ≡ is_kind v.kind kind.Output
is_output_at s cells k x v e f = rw e (rw f refl)

range_more : (p : ℕ → Bool) (k : ℕ) → filter p (range_with_len 0 (k + 1)) ≡ filter p (range_with_len 0 k) ++ cond (p k) (k ∷ []) []
range_more p k =
    let same : ℕ → ℕ = λ i. i in
    sym (ap (filter p) (map-id (range_with_len 0 (k + 1)))) ∙ filter_of_map_range_with_len_more p same 0 k k (omega arith) ∙ ap (λ (xs : List ℕ). filter p xs ++ cond (p k) (k ∷ []) []) (map-id (range_with_len 0 k))

pub one_output_more : (s : FlatSystem) (cells : List Cell) (k : ℕ) (x : Cell) (v : Variable) → slice_get cells k ≡ Some x → slice_get (nodes s) x.node ≡ Some v → is_kind v.kind kind.Output ≡ true
    → filter (is_output_cell s cells) (range_with_len 0 (k + 1)) ≡ filter (is_output_cell s cells) (range_with_len 0 k) ++ k ∷ []
one_output_more s cells k x v e f t = range_more (is_output_cell s cells) k ∙ ap (λ (b : Bool). filter (is_output_cell s cells) (range_with_len 0 k) ++ cond b (k ∷ []) []) (is_output_at s cells k x v e f ∙ t)

pub no_output_more : (s : FlatSystem) (cells : List Cell) (k : ℕ) (x : Cell) (v : Variable) → slice_get cells k ≡ Some x → slice_get (nodes s) x.node ≡ Some v → is_kind v.kind kind.Output ≡ false
    → filter (is_output_cell s cells) (range_with_len 0 (k + 1)) ≡ filter (is_output_cell s cells) (range_with_len 0 k)
no_output_more s cells k x v e f t =
    range_more (is_output_cell s cells) k ∙ ap (λ (b : Bool). filter (is_output_cell s cells) (range_with_len 0 k) ++ cond b (k ∷ []) []) (is_output_at s cells k x v e f ∙ t) ∙ append-nil (filter (is_output_cell s cells) (range_with_len 0 k))
