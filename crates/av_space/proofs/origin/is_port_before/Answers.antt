use Rattle.std.proofs.Common.{get_or}
use Rattle.std.proofs.lemmas.Option.{slice_get-get_or}
use Rattle.av_space.specs.Ports.{IsPortBefore}
use Rattle.av_space.proofs.PortOrder.{by_nodes, by_pieces, by_sites, by_cells, as_test}
use Rattle.av_space.proofs.origin.is_port_before.Goals as goal

pub returns-then-node-other : goal.returns-then-node-other
returns-then-node-other c =
    let cells = c.args.cells.now in
    let a = c.args.a.now in
    let b = c.args.b.now in
    let x = get_or cells a.cell c.index-cells-a.result in
    let y = get_or cells b.cell c.index-cells-b.result in
    as_test x.node y.node (IsPortBefore cells a b)
    (by_nodes cells a b x y (slice_get-get_or cells a.cell c.index-cells-a.result c.requires.first) (slice_get-get_or cells b.cell c.index-cells-b.result c.requires.second) c.if-node-other.true)

pub returns-then-a-b : goal.returns-then-a-b
returns-then-a-b c =
    let cells = c.args.cells.now in
    let a = c.args.a.now in
    let b = c.args.b.now in
    let x = get_or cells a.cell c.index-cells-a.result in
    let y = get_or cells b.cell c.index-cells-b.result in
    as_test a.piece b.piece (IsPortBefore cells a b)
    (by_pieces cells a b x y (slice_get-get_or cells a.cell c.index-cells-a.result c.requires.first) (slice_get-get_or cells b.cell c.index-cells-b.result c.requires.second) c.if-node-other.false c.if-a-b.true)

pub returns-then-a-b-2 : goal.returns-then-a-b-2
returns-then-a-b-2 c =
    let cells = c.args.cells.now in
    let a = c.args.a.now in
    let b = c.args.b.now in
    let x = get_or cells a.cell c.index-cells-a.result in
    let y = get_or cells b.cell c.index-cells-b.result in
    as_test a.site b.site (IsPortBefore cells a b)
    (by_sites cells a b x y (slice_get-get_or cells a.cell c.index-cells-a.result c.requires.first) (slice_get-get_or cells b.cell c.index-cells-b.result c.requires.second) c.if-node-other.false c.if-a-b.false c.if-a-b-2.true)

pub returns : goal.returns
returns c =
    let cells = c.args.cells.now in
    let a = c.args.a.now in
    let b = c.args.b.now in
    let x = get_or cells a.cell c.index-cells-a.result in
    let y = get_or cells b.cell c.index-cells-b.result in
    as_test a.cell b.cell (IsPortBefore cells a b)
    (by_cells cells a b x y (slice_get-get_or cells a.cell c.index-cells-a.result c.requires.first) (slice_get-get_or cells b.cell c.index-cells-b.result c.requires.second) c.if-node-other.false c.if-a-b.false c.if-a-b-2.false)
