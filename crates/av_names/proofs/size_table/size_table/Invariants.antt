use Rattle.std.proofs.Common.{◌≡◌, drop}
use Rattle.av_tree.specs.Trees.{Text}
use Rattle.av_names.specs.Sizes.{sizes_of}
use Rattle.av_names.proofs.Entered.{found_or}
use Rattle.av_names.proofs.size_table.size_table.Given as goal

abbrev pub invariant-loop-size : goal.invariant-loop-size
invariant-loop-size l = (name : Text) → found_or (λ v. v) (λ ws. sizes_of ws name) l.sizes name l.table (drop l.size-index l.sizes) ≡ sizes_of l.sizes name
