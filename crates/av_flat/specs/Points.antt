-- Points of sets, and the points that a projection sends to one point (Mauras 1989; Wilde's reports on Alpha).
use Rattle.std.specs.Prelude.{ℕ, ℤ, pos, Bool, ◌&&◌, int_le, nat_eq, List, [], ◌∷◌, length, map, slice_index_or, if◌then◌else◌}
use Rattle.std.specs.List.{list_all, range_with_len}
use Rattle.av_affine.specs.declared.form.Form.{Form}
use Rattle.av_affine.specs.declared.map.Map.{Map}
use Rattle.av_affine.specs.Forms.{value_at}
use Rattle.av_poly.specs.Points.{Set}
use Rattle.av_tree.specs.Points.{Point, is_one}

-- the row is at least 0 at the point
abbrev pub holds : Point → Form → Bool
holds z row = int_le (pos 0) (value_at row z)

-- z is a point of the set: one entry for each index, and each row holds
abbrev pub has : Set → Point → Bool
has set z = nat_eq (length z) set.dim && list_all (holds z) set.rows

-- ---- projections

-- the form of a projection is the index at this place
abbrev pub is_index : ℕ → Form → Bool
is_index place f = is_one (slice_index_or f.coef place (pos 0))

-- the entry that z has at the form that is this index, or k where no form is
abbrev pub entry_over : List Form → Point → ℤ → ℕ → ℤ
entry_over [] z k place = k
entry_over (f ∷ forms) [] k place = k
entry_over (f ∷ forms) (x ∷ z) k place = if is_index place f then x else entry_over forms z k place

-- the point that the projection sends to z and that has k at the index which it drops
abbrev pub point_over : Map → Point → ℤ → Point
point_over m z k = map (entry_over m.rows z k) (range_with_len 0 m.from)
