use Rattle.std.proofs.Common.{◌≡◌, Bool, take}
use Rattle.std.specs.Prelude.{option_map}
use Rattle.av_tree.specs.Trees.{view_all}
use Rattle.av_names.specs.Forms.{Context}
use Rattle.av_names.specs.Found.{first_found}
use Rattle.av_names.specs.Parts as list
use Rattle.av_names.specs.inner.Seen.{found, SameNames}
use Rattle.av_names.specs.Unknowns as rules
use Rattle.av_names.specs.Written.{written_at}
use Rattle.av_names.proofs.in_reach.+inside.Given as goal

abbrev pub invariant-unknown_inside_all-loop-branch : goal.invariant-unknown_inside_all-loop-branch
invariant-unknown_inside_all-loop-branch l =
    (c : Context) (reduced : Bool) → SameNames l.context c.names
    → option_map found l.first ≡ first_found (λ p. rules.unknown_written l.sizes (written_at p)) (list.parts_of_all reduced c (view_all (take l.branch-index l.branches)))
