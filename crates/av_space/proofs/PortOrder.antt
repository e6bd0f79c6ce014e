-- Ports by node, piece, reference and cell.
use Rattle.std.proofs.Common.{◌≡◌, ◌≢◌, ℕ, ◌<◌, List, refl, sym, ap, ◌∙◌, arith, IsTrue, Some, ◌↔◌, true}
use Rattle.std.specs.Prelude.{slice_get, nat_lt}
use Rattle.av_space.specs.declared.cells.Cell.{Cell}
use Rattle.av_space.specs.declared.cells.InPort.{InPort}
use Rattle.av_space.specs.Taps.{node_of}
use Rattle.av_space.specs.Ports.{IsPortBefore, by_node, by_piece, by_site, by_cell}
use Rattle.av_base.proofs.Lists.{some_is}

-- no port is before and after another
pub ports_in_turn : (cells : List Cell) (a b : InPort) → IsPortBefore cells a b → IsPortBefore cells b a → ⊥
ports_in_turn cells a b (by_node m n ea eb l) (by_node k j eb' ea' l') = (let e = some_is m j (sym ea ∙ ea') in let f = some_is n k (sym eb ∙ eb') in omega (arith, e, f, l, l'))
ports_in_turn cells a b (by_node m n ea eb l) (by_piece e l') = (let f = some_is m n (sym ea ∙ sym e ∙ eb) in omega (arith, f, l))
ports_in_turn cells a b (by_node m n ea eb l) (by_site e p l') = (let f = some_is m n (sym ea ∙ sym e ∙ eb) in omega (arith, f, l))
ports_in_turn cells a b (by_node m n ea eb l) (by_cell e p q l') = (let f = some_is m n (sym ea ∙ sym e ∙ eb) in omega (arith, f, l))
ports_in_turn cells a b (by_piece e l) (by_node m n eb ea l') = (let f = some_is m n (sym eb ∙ sym e ∙ ea) in omega (arith, f, l'))
ports_in_turn cells a b (by_piece e l) (by_piece f l') = omega (arith, l, l')
ports_in_turn cells a b (by_piece e l) (by_site f p l') = omega (arith, l, p)
ports_in_turn cells a b (by_piece e l) (by_cell f p q l') = omega (arith, l, p)
ports_in_turn cells a b (by_site e p l) (by_node m n eb ea l') = (let f = some_is m n (sym eb ∙ sym e ∙ ea) in omega (arith, f, l'))
ports_in_turn cells a b (by_site e p l) (by_piece f l') = omega (arith, p, l')
ports_in_turn cells a b (by_site e p l) (by_site f q l') = omega (arith, l, l')
ports_in_turn cells a b (by_site e p l) (by_cell f q r l') = omega (arith, l, r)
ports_in_turn cells a b (by_cell e p q l) (by_node m n eb ea l') = (let f = some_is m n (sym eb ∙ sym e ∙ ea) in omega (arith, f, l'))
ports_in_turn cells a b (by_cell e p q l) (by_piece f l') = omega (arith, p, l')
ports_in_turn cells a b (by_cell e p q l) (by_site f r l') = omega (arith, q, l')
ports_in_turn cells a b (by_cell e p q l) (by_cell f r k l') = omega (arith, l, l')

-- a test of an order
pub as_test : (m n : ℕ) (P : Type 0) → P ↔ (m < n) → IsTrue (nat_lt m n) ↔ P
as_test m n P h = (λ t. h.1 (below t), λ p. test (h.0 p))
  where
    below : nat_lt m n ≡ true → m < n
    below t = grind (arith, t)

    test : m < n → nat_lt m n ≡ true
    test l = grind (arith, l)

-- the order by numbers, where the cells are known
module _ (cells : List Cell) (a b : InPort) (x y : Cell) (is_a : slice_get cells a.cell ≡ Some x) (is_b : slice_get cells b.cell ≡ Some y) where
  node_a : node_of cells a.cell ≡ Some x.node
  node_a = rw is_a refl

  node_b : node_of cells b.cell ≡ Some y.node
  node_b = rw is_b refl

  same_nodes : x.node ≡ y.node → node_of cells a.cell ≡ node_of cells b.cell
  same_nodes e = node_a ∙ ap (λ n. Some n) e ∙ sym node_b

  -- the nodes of two ports that are told apart later
  one_node : node_of cells a.cell ≡ node_of cells b.cell → x.node ≡ y.node
  one_node e = some_is x.node y.node (sym node_a ∙ e ∙ node_b)

  pub by_nodes : x.node ≢ y.node → IsPortBefore cells a b ↔ (x.node < y.node)
  by_nodes ne = (one_way, λ l. by_node x.node y.node node_a node_b l)
    where
      one_way : IsPortBefore cells a b → x.node < y.node
      one_way (by_node m n ea eb l) = (let e = some_is m x.node (sym ea ∙ node_a) in let f = some_is n y.node (sym eb ∙ node_b) in omega (arith, e, f, l))
      one_way (by_piece e l) = absurd (ne (one_node e))
      one_way (by_site e p l) = absurd (ne (one_node e))
      one_way (by_cell e p q l) = absurd (ne (one_node e))

  pub by_pieces : x.node ≡ y.node → a.piece ≢ b.piece → IsPortBefore cells a b ↔ (a.piece < b.piece)
  by_pieces same ne = (one_way, λ l. by_piece (same_nodes same) l)
    where
      one_way : IsPortBefore cells a b → a.piece < b.piece
      one_way (by_node m n ea eb l) = (let e = some_is m x.node (sym ea ∙ node_a) in let f = some_is n y.node (sym eb ∙ node_b) in absurd (omega (arith, e, f, l, same)))
      one_way (by_piece e l) = l
      one_way (by_site e p l) = absurd (ne p)
      one_way (by_cell e p q l) = absurd (ne p)

  pub by_sites : x.node ≡ y.node → a.piece ≡ b.piece → a.site ≢ b.site → IsPortBefore cells a b ↔ (a.site < b.site)
  by_sites same piece ne = (one_way, λ l. by_site (same_nodes same) piece l)
    where
      one_way : IsPortBefore cells a b → a.site < b.site
      one_way (by_node m n ea eb l) = (let e = some_is m x.node (sym ea ∙ node_a) in let f = some_is n y.node (sym eb ∙ node_b) in absurd (omega (arith, e, f, l, same)))
      one_way (by_piece e l) = absurd (omega (arith, l, piece))
      one_way (by_site e p l) = l
      one_way (by_cell e p q l) = absurd (ne q)

  pub by_cells : x.node ≡ y.node → a.piece ≡ b.piece → a.site ≡ b.site → IsPortBefore cells a b ↔ (a.cell < b.cell)
  by_cells same piece site = (one_way, λ l. by_cell (same_nodes same) piece site l)
    where
      one_way : IsPortBefore cells a b → a.cell < b.cell
      one_way (by_node m n ea eb l) = (let e = some_is m x.node (sym ea ∙ node_a) in let f = some_is n y.node (sym eb ∙ node_b) in absurd (omega (arith, e, f, l, same)))
      one_way (by_piece e l) = absurd (omega (arith, l, piece))
      one_way (by_site e p l) = absurd (omega (arith, l, site))
      one_way (by_cell e p q l) = l
