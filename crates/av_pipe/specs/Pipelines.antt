-- The helpers of a scheduled system: one for each reference of a piece that is moved, with the first direction that moves it, in
-- the order of variables, pieces and references (own order).
use Rattle.std.specs.Prelude.{ℕ, suc, Option, Some, None, List, [], ◌∷◌, ◌++◌, slice_get}
use Rattle.av_tree.specs.Points.{Point}
use Rattle.av_flat.specs.Trees.{Piece, Variable, FlatSystem}
use Rattle.av_flat.specs.declared.timed.Time.{Time}
use Rattle.av_flat.specs.declared.timed.Helper.{Helper}
use Rattle.av_flat.specs.Nodes.{number_at}
use Rattle.av_flat.specs.Broadcasts.{Reference, references, first_moving}

abbrev pub helper_of : ℕ → ℕ → ℕ → Option Point → List Helper
helper_of place piece site None = []
helper_of place piece site (Some w) = record { var = place; piece = piece; site = site; direction = w } ∷ []

-- those of references, which have the numbers from site on
abbrev pub of_references : ℕ → ℕ → Point → ℕ → List Reference → List Helper
of_references place piece linear site [] = []
of_references place piece linear site (r ∷ rs) = helper_of place piece site (first_moving linear r.map) ++ of_references place piece linear (suc site) rs

abbrev pub of_pieces : ℕ → Point → ℕ → List Piece → List Helper
of_pieces place linear piece [] = []
of_pieces place linear piece (p ∷ ps) = of_references place piece linear 0 (references p.tree) ++ of_pieces place linear (suc piece) ps

abbrev pub of_variable : ℕ → Option Time → Variable → List Helper
of_variable place None v = []
of_variable place (Some t) v = of_pieces place t.linear 0 v.pieces

abbrev pub of_variables : FlatSystem → List Time → ℕ → List Variable → List Helper
of_variables s times place [] = []
of_variables s times place (v ∷ vs) = of_variable place (slice_get times (number_at s place)) v ++ of_variables s times (suc place) vs

abbrev pub pipelines : FlatSystem → List Time → List Helper
pipelines s times = of_variables s times 0 s.variables
