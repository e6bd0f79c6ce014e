-- The first of several named things whose name came before.
use Rattle.std.specs.Prelude.{List, [], ◌∷◌, Option, Some, None, if◌then◌else◌}
use Rattle.av_tree.specs.Trees.{Text}
use Rattle.av_tree.specs.Rows.{is_index}

-- the first one whose name is among these, or that of one before it
abbrev pub first_again : {A : Type 0} → (A → Text) → List Text → List A → Option A
first_again name before [] = None
first_again name before (x ∷ xs) = if is_index before (name x) then Some x else first_again name (name x ∷ before) xs
