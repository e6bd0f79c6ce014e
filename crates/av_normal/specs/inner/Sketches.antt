-- What is known of the parts of a tree without their trees. Only private contracts cite this.
use Rattle.std.specs.Prelude.{Bool, false, ◌||◌, List, [], ◌∷◌, ◌++◌, map, All}
use Rattle.std.specs.List.{flat_map}
use Rattle.av_affine.specs.declared.form.Form.{Form}
use Rattle.av_affine.specs.declared.map.Map.{Map}
use Rattle.av_poly.specs.Points.{IsSmall}
use Rattle.av_flat.specs.Trees.{Tree, view}
use Rattle.av_flat.specs.Signatures.{Signature}
use Rattle.av_flat.specs.Pieces.{Part, parts}
use Rattle.av_normal.specs.declared.sketch.Sketch.{Sketch}
use Rattle.av_normal.specs.declared.sketch.Sketch.TheVariants as made
use Rattle.av_normal.specs.inner.ReductionSets.{has_reduction}
use Rattle.av_normal.specs.inner.UnderMaps.{IsReadable}

-- the rows of a part, and whether a reduction is in its tree
abbrev pub sketched : Part → List Form × Bool
sketched p = (p.rows, has_reduction p.tree)

-- those of the parts of a tree
abbrev pub sketches : List Signature → List Map → Tree → List (List Form × Bool)
sketches vs ds t = map sketched (parts vs ds t)

-- each of the first with each of the second, the first one slowest
abbrev pub beside : List Form × Bool → List Form × Bool → List Form × Bool
beside x y = (x.0 ++ y.0, x.1 || y.1)

abbrev pub side_by_side : List (List Form × Bool) → List (List Form × Bool) → List (List Form × Bool)
side_by_side xs ys = flat_map (λ x. map (beside x) ys) xs

-- one part with these rows, or the parts of this tree
abbrev pub sketches_of : Sketch → List (List Form × Bool)
sketches_of (made.One rows) = (rows, false) ∷ []
sketches_of (made.Many t) = sketches [] [] (view t)

abbrev pub IsSketch : Sketch → Type 0
IsSketch (made.One rows) = All IsSmall rows
IsSketch (made.Many t) = IsReadable [] [] (view t)
