-- What index expressions, maps and references say at a point of named indices, with the sizes put in
-- (Mauras 1989; Wilde's reports on Alpha).
use Rattle.std.specs.Prelude.{ℤ, pos, ◌+ℤ◌, ◌*ℤ◌, Bool, false, ◌&&◌, int_le, nat_eq, List, [], ◌∷◌, length, Option, Some, None, if◌then◌else◌, bytes_eq}
use Rattle.av_tree.specs.declared.domain.Term.{Term}
use Rattle.av_tree.specs.declared.domain.IndexExpr.{IndexExpr}
use Rattle.av_tree.specs.declared.domain.MapText.{MapText}
use Rattle.av_tree.specs.declared.expression.Access.{Access}
use Rattle.av_tree.specs.declared.expression.Access.TheVariants as access
use Rattle.av_tree.specs.Trees.{Text}

abbrev pub Point : Type 0
Point = List ℤ

-- ---- names in reach

-- the number that each name in reach has
abbrev pub Reach : Type 0
Reach = Text → Option ℤ

-- the sizes, which are in reach everywhere
abbrev pub Sizes : Type 0
Sizes = Reach

abbrev pub no_sizes : Sizes
no_sizes name = None

-- the entry of a point at the index of this name
abbrev pub entry_at : List Text → Point → Text → Option ℤ
entry_at [] z name = None
entry_at (n ∷ names) [] name = None
entry_at (n ∷ names) (k ∷ z) name = if bytes_eq n name then Some k else entry_at names z name

abbrev pub or_else : Option ℤ → Option ℤ → Option ℤ
or_else None other = other
or_else (Some k) other = Some k

-- at a point of named indices, their names are in reach, and the sizes
abbrev pub in_reach : Sizes → List Text → Point → Reach
in_reach sizes names z name = or_else (entry_at names z name) (sizes name)

-- ---- index expressions

abbrev pub plus : Option ℤ → Option ℤ → Option ℤ
plus None k = None
plus (Some j) None = None
plus (Some j) (Some k) = Some (j +ℤ k)

abbrev pub times : ℤ → Option ℤ → Option ℤ
times factor None = None
times factor (Some k) = Some (factor *ℤ k)

-- what a term takes its factor of: the number of its name, or 1
abbrev pub unit_at : Reach → Option Text → Option ℤ
unit_at reach None = Some (pos 1)
unit_at reach (Some name) = reach name

-- the sum of the terms, or none where a name is not in reach
abbrev pub sum_at : Reach → List Term → Option ℤ
sum_at reach [] = Some (pos 0)
sum_at reach (t ∷ terms) = plus (times t.factor (unit_at reach t.name)) (sum_at reach terms)

abbrev pub index_at : Reach → IndexExpr → Option ℤ
index_at reach e = sum_at reach e.terms

abbrev pub with_entry : Option ℤ → Option Point → Option Point
with_entry None z = None
with_entry (Some k) None = None
with_entry (Some k) (Some z) = Some (k ∷ z)

-- the point that a list of index expressions names
abbrev pub point_at : Reach → List IndexExpr → Option Point
point_at reach [] = Some []
point_at reach (e ∷ es) = with_entry (index_at reach e) (point_at reach es)

-- ---- maps and references

abbrev pub have_length : List Text → Point → Bool
have_length names z = nat_eq (length names) (length z)

-- the image of a point, where the map has a name for each of its entries
abbrev pub image : Sizes → MapText → Point → Option Point
image sizes m z = if have_length m.names z then point_at (in_reach sizes m.names z) m.results else None

-- the point that a reference reads, where the context has these index names
abbrev pub read_at : Sizes → List Text → Access → Point → Option Point
read_at sizes names access.Here z = Some z
read_at sizes names (access.Indices es) z = point_at (in_reach sizes names z) es
read_at sizes names (access.Mapped m) z = image sizes m z

-- ---- the points that a reduction's map sends to one point

abbrev pub is_named : Text → Option Text → Bool
is_named name None = false
is_named name (Some other) = bytes_eq other name

abbrev pub is_one : ℤ → Bool
is_one k = int_le (pos 1) k && int_le k (pos 1)

-- the terms are the index of this name, and nothing more
abbrev pub is_plain : Text → List Term → Bool
is_plain name [] = false
is_plain name (t ∷ []) = is_named name t.name && is_one t.factor
is_plain name (t ∷ s ∷ terms) = false

-- the entry that z has at the result that is this index, or k where no result is
abbrev pub entry_over : List IndexExpr → Point → ℤ → Text → ℤ
entry_over [] z k name = k
entry_over (e ∷ es) [] k name = k
entry_over (e ∷ es) (j ∷ z) k name = if is_plain name e.terms then j else entry_over es z k name

abbrev pub entries_over : List IndexExpr → Point → ℤ → List Text → Point
entries_over es z k [] = []
entries_over es z k (name ∷ names) = entry_over es z k name ∷ entries_over es z k names

-- the point that the map sends to z and that has k at the index which the map drops
abbrev pub point_over : MapText → Point → ℤ → Point
point_over m z k = entries_over m.results z k m.names
