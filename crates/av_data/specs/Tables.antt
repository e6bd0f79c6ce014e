-- The table of an array in words: its cells, its listing, and its totals (the form is this project's).
use Rattle.std.specs.Prelude.{List, [], ◌∷◌, ◌++◌, ℕ, suc, length, codes, decimal, Option, Some, None, slice_get}
use Rattle.std.specs.List.{flat_map}
use Rattle.av_net.specs.declared.design.Entry.{Entry}
use Rattle.av_net.specs.Texts.{point_text, entry_text}
use Rattle.av_flat.specs.declared.timed.Timed.{Timed}
use Rattle.av_flat.specs.Trees.{Variable, view_system}
use Rattle.av_flat.specs.Nodes.{nodes}
use Rattle.av_space.specs.declared.cells.Cell.{Cell}
use Rattle.av_space.specs.declared.cells.Cells.{Cells}

abbrev pub name_of : Option Variable → List ℕ
name_of None = []
name_of (Some v) = v.name

-- `cell 1 s (1)`: its number, the name of its node, its coordinates
abbrev pub named_cell_line : List ℕ → ℕ → Cell → List ℕ
named_cell_line name p c = codes "cell " ++ decimal p ++ codes " " ++ name ++ codes " " ++ point_text c.at ++ codes "\n"

abbrev pub cell_line : List Variable → ℕ → Cell → List ℕ
cell_line vs p c = named_cell_line (name_of (slice_get vs c.node)) p c

-- of cells that have the numbers from p on
abbrev pub cell_lines : List Variable → ℕ → List Cell → List ℕ
cell_lines vs p [] = []
cell_lines vs p (c ∷ cells) = cell_line vs p c ++ cell_lines vs (suc p) cells

-- a line of the listing
abbrev pub listed_line : List ℕ → Entry → List ℕ
listed_line word entry = entry_text word entry ++ codes "\n"

abbrev pub totals_line : Cells → List ℕ
totals_line a =
    codes "cycles " ++ decimal a.cycles ++ codes " cells " ++ decimal (length a.cells) ++ codes " delays " ++ decimal a.delays ++ codes " links " ++ decimal (length a.links) ++ codes "\n"

abbrev pub table_text : Timed → Cells → List ℕ
table_text t a =
    cell_lines (nodes (view_system t.flat)) 0 a.cells ++ flat_map (listed_line (codes "in")) a.listing.ins ++ flat_map (listed_line (codes "at")) a.listing.ats ++ totals_line a
