-- Lines of cells that are written one after another.
use Rattle.std.proofs.Common.{◌≡◌, ℕ, zero, suc, ◌+◌, ◌<◌, List, [], ◌∷◌, ◌++◌, length, get_or, take, Option, Some, sym, ap, subst, ◌∙◌, append_assoc, arith, All}
use Rattle.std.specs.Prelude.{slice_get}
use Rattle.std.proofs.lemmas.List.{append-nil, get_or_default}
use Rattle.std.proofs.lemmas.Option.{slice_get_within}
use Rattle.std.proofs.lemmas.List.Elements.{All-weaker}
use Rattle.av_flat.specs.Trees.{FlatSystem}
use Rattle.av_flat.specs.Nodes.{nodes}
use Rattle.av_space.specs.Coordinates.{Placing}
use Rattle.av_space.specs.Occupancy.{IsUsed, AreCells}
use Rattle.av_flat.specs.Trees.{Variable}
use Rattle.av_space.specs.declared.cells.Cell.{Cell}
use Rattle.av_data.specs.Tables.{name_of, named_cell_line, cell_line, cell_lines}

pub cells_more : (vs : List Variable) (p : ℕ) (cells : List Cell) (k : ℕ) (d : Cell) → k < length cells
    → cell_lines vs p (take (k + 1) cells) ≡ cell_lines vs p (take k cells) ++ cell_line vs (p + k) (get_or cells k d)
cells_more vs p [] k d l = absurd (omega (arith, l))
cells_more vs p (c ∷ cells) zero d l = let same : p ≡ p + 0 = omega arith in append-nil (cell_line vs p c) ∙ ap (λ n. cell_line vs n c) same
cells_more vs p (c ∷ cells) (suc k) d l =
    let next : suc k + 1 ≡ suc (k + 1) = omega arith in
    let number : suc p + k ≡ p + suc k = omega arith in
    ap (λ n. cell_lines vs p (take n (c ∷ cells))) next
    ∙ ap (λ rest. cell_line vs p c ++ rest) (cells_more vs (suc p) cells k d (omega (arith, l)))
    ∙ sym (append_assoc (cell_line vs p c) (cell_lines vs (suc p) (take k cells)) (cell_line vs (suc p + k) (get_or cells k d)))
    ∙ ap (λ n. (cell_line vs p c ++ cell_lines vs (suc p) (take k cells)) ++ cell_line vs n (get_or cells k d)) number

-- each cell is of a node
pub of_nodes : (s : FlatSystem) (placings : List Placing) (cells : List Cell) → AreCells s placings cells → All (λ (c : Cell). c.node < length (nodes s)) cells
of_nodes s placings cells are = All-weaker (IsUsed s placings) (λ (c : Cell). c.node < length (nodes s)) (λ c used.
    let stands = used.3 in
    let within = slice_get_within (nodes s) used.1 stands.computation.variable stands.computation.is in
    subst (λ n. n < length (nodes s)) (sym stands.node) within) cells are.each

pub joined : (a b c d e f g h i : List ℕ) → ((((a ++ b) ++ (c ++ d)) ++ (e ++ f)) ++ (g ++ h)) ++ i ≡ a ++ b ++ c ++ d ++ e ++ f ++ g ++ h ++ i
joined a b c d e f g h i =
    ap (λ x. x ++ (e ++ f) ++ (g ++ h) ++ i) (sym (append_assoc (a ++ b) c d))
    ∙ ap (λ x. x ++ (g ++ h) ++ i) (sym (append_assoc (a ++ b ++ c ++ d) e f))
    ∙ ap (λ x. x ++ i) (sym (append_assoc (a ++ b ++ c ++ d ++ e ++ f) g h))

pub cell_more : (vs : List Variable) (cells : List Cell) (k : ℕ) (cell other : Cell) (v : Variable) → k < length cells → cell ≡ get_or cells k cell → slice_get vs (get_or cells k other).node ≡ Some v
    → cell_lines vs 0 (take k cells) ++ named_cell_line v.name k cell ≡ cell_lines vs 0 (take (k + 1) cells)
cell_more vs cells k cell other v l is named =
    let lines = cell_lines vs 0 (take k cells) in
    let number : k ≡ 0 + k = omega arith in
    let same : get_or cells k other ≡ cell = get_or_default cells k other cell l ∙ sym is in
    let name : slice_get vs cell.node ≡ Some v = ap (λ (x : Cell). slice_get vs x.node) (sym same) ∙ named in
    ap (λ (o : Option Variable). lines ++ named_cell_line (name_of o) k cell) (sym name)
    ∙ ap (λ (x : Cell). lines ++ cell_line vs k x) is
    ∙ ap (λ n. lines ++ cell_line vs n (get_or cells k cell)) number
    ∙ sym (cells_more vs 0 cells k cell l)
