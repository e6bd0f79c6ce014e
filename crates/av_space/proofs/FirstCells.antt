-- Where the cells of a node begin and end among all cells.
use Rattle.std.proofs.Common.{◌≡◌, ◌≢◌, ℕ, ◌+◌, ◌<◌, ◌≤◌, ⊎_elim, Some, List, length, get_or, sym, ap, subst, ◌∙◌, arith}
use Rattle.std.specs.Prelude.{slice_get, AllPairs}
use Rattle.std.proofs.lemmas.Bool.{cases_lt}
use Rattle.std.proofs.lemmas.Option.{slice_get_within, get_or_from_slice_get}
use Rattle.av_space.specs.declared.cells.Cell.{Cell}
use Rattle.av_space.specs.Occupancy.{IsCellBefore}
use Rattle.av_space.specs.inner.Feeding.{IsFirstOf}
use Rattle.av_space.proofs.ByPlace.{pair_at}
use Rattle.av_base.proofs.Lists.{some_is}

-- from the first cell of the node on, up to k, each is of the node
abbrev pub IsOfNode : List Cell → ℕ → ℕ → ℕ → Type 0
IsOfNode cells n first k = (i : ℕ) (d : Cell) → first ≤ i → i < k → (get_or cells i d).node ≡ n

node_before : (cells : List Cell) (n first k : ℕ) → IsFirstOf cells n first → IsOfNode cells n first k → (p : ℕ) (cell : Cell) → slice_get cells p ≡ Some cell → p < k → cell.node < n + 1
node_before cells n first k f own p cell e l = ⊎_elim (λ lt. let a = f.before p cell e lt in omega (arith, a))
    (λ le. let a = own p cell le l in let same : (get_or cells p cell).node ≡ n = a in
    subst (λ (c : Cell). c.node < n + 1) (get_or_from_slice_get cells p cell cell e) (omega (arith, same)))
    (cases_lt p first)

pub ends_at : (cells : List Cell) (n first k : ℕ) (x : Cell) → AllPairs IsCellBefore cells → IsFirstOf cells n first → IsOfNode cells n first k → first ≤ k → slice_get cells k ≡ Some x → x.node ≢ n → IsFirstOf cells (n + 1) k
ends_at cells n first k x order f own le is other =
    let least = f.from k x is le in
    let above : n + 1 ≤ x.node = ⊎_elim (λ lt. omega (arith, lt)) (λ ge. absurd (other (omega (arith, least, ge)))) (cases_lt n x.node) in
    record { before = node_before cells n first k f own; from = λ p cell e l. from above p cell e l }
  where
    from : n + 1 ≤ x.node → (p : ℕ) (cell : Cell) → slice_get cells p ≡ Some cell → k ≤ p → n + 1 ≤ cell.node
    from above p cell e l = ⊎_elim
        (λ lt. ⊎_elim (λ a. omega (arith, a, above)) (λ a. let c = a.0 in omega (arith, above, c)) (pair_at IsCellBefore cells order k p x cell is e lt))
        (λ ge. let same : k ≡ p = omega (arith, l, ge) in
        let one : x ≡ cell = some_is x cell (sym is ∙ ap (λ (i : ℕ). slice_get cells i) same ∙ e) in
        subst (λ (c : Cell). n + 1 ≤ c.node) one above)
        (cases_lt k p)

pub ends_all : (cells : List Cell) (n first k : ℕ) → IsFirstOf cells n first → IsOfNode cells n first k → k ≡ length cells → IsFirstOf cells (n + 1) (length cells)
ends_all cells n first k f own same = record {
  before = λ p cell e l. node_before cells n first k f own p cell e (omega (arith, l, same));
  from = λ p cell e l. absurd (let w = slice_get_within cells p cell e in omega (arith, w, l));
}

-- a cell between is of the node
pub node_between : (cells : List Cell) (n first last p : ℕ) (x : Cell) → IsFirstOf cells n first → IsFirstOf cells (n + 1) last → first ≤ p → p < last → slice_get cells p ≡ Some x → x.node ≡ n
node_between cells n first last p x f l a b e =
    let low = f.from p x e a in
    let high = l.before p x e b in
    omega (arith, low, high)
