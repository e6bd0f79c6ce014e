-- What building takes for granted: no reduction is refused, and all chains find room. Only private contracts cite this.
use Rattle.std.specs.Prelude.{ℕ, ◌+◌, ◌≤◌, List}
use Rattle.std.specs.List.{AllByRecursion, flat_map}
use Rattle.av_tree.specs.Trees.{Text}
use Rattle.av_flat.specs.Trees.{Tree, Piece, Variable}
use Rattle.av_serial.specs.SerialFaults.{reductions_in, HasNodes, HaveNodes, HasNodesIn}
use Rattle.av_serial.specs.inner.Tries.{IsClean, CanTry, CanTryPieces, CanTryAll}

-- the reductions of a tree of this equation can be tried, none is refused, and behind so many chains there is room for theirs
pub record HasPremises (name : Text) (count : ℕ) (t : Tree) : Type 0 where
  pub can : CanTry t
  pub clean : AllByRecursion IsClean (reductions_in name t)
  pub number : ℕ
  pub nodes : HasNodes t number
  pub room : count + number ≤ 16

pub record PiecesHavePremises (name : Text) (count : ℕ) (ps : List Piece) : Type 0 where
  pub can : CanTryPieces ps
  pub clean : AllByRecursion IsClean (flat_map (λ p. reductions_in name p.tree) ps)
  pub number : ℕ
  pub nodes : HaveNodes (λ p. HasNodes p.tree) ps number
  pub room : count + number ≤ 16

pub record VariablesHavePremises (count : ℕ) (vs : List Variable) : Type 0 where
  pub can : CanTryAll vs
  pub clean : AllByRecursion IsClean (flat_map (λ v. flat_map (λ p. reductions_in v.name p.tree) v.pieces) vs)
  pub number : ℕ
  pub nodes : HaveNodes HasNodesIn vs number
  pub room : count + number ≤ 16
