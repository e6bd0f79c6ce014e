use Rattle.std.proofs.Common.{◌∙◌, List, sym, ap, subst}
use Rattle.av_flat.specs.declared.timed.Timed.{Timed}
use Rattle.av_flat.specs.Legal.{IsLegal}
use Rattle.av_flat.specs.Trees.{view_system}
use Rattle.av_space.specs.declared.cells.Link.{Link}
use Rattle.av_space.specs.Layouts.{IsLayout}
use Rattle.av_space.specs.Lengths.{AreLengths}
use Rattle.av_space.specs.inner.Quantified.{LinksOf}
use Rattle.av_space.specs.inner.Scheduled.{Scheduled, system_of, helpers_of, cells_of}
use Rattle.av_space.proofs.ArrayParts.{same_placings, same_cells, own_links, own_ports}
use Rattle.av_space.proofs.array.Array.with_layout.Goals as goal

pub new-scheduled-requires-clause-legal : goal.new-scheduled-requires-clause-legal
new-scheduled-requires-clause-legal c = subst IsLegal (sym c.in_ok-nodes.ensures) c.requires.legal

pub new-scheduled-requires-clause-layout : goal.new-scheduled-requires-clause-layout
new-scheduled-requires-clause-layout c = subst (λ (t : Timed). IsLayout t c.args.layout) (sym c.in_ok-nodes.ensures) c.requires.layout

pub line_lengths-requires : goal.line_lengths-requires
line_lengths-requires c =
    let l = c.args.layout in
    let same = c.new-scheduled.ensures ∙ ap (λ (t : Timed). record { timed = t; layout = l }) c.in_ok-nodes.ensures in
    let are = own_links c.args.timed.now c.args.cells.now l c.requires.whole c.requires.layout in
    let own : LinksOf (record { timed = c.args.timed.now; layout = l }) c.args.cells.now.links = record { scheduled = record { legal = c.requires.legal; layout = c.requires.layout }; are = are } in
    subst (LinksOf c.new-scheduled.result) (sym c.as_slice.ensures) (subst (λ (of : Scheduled). LinksOf of c.args.cells.now.links) (sym same) own)

pub returns-clause-array : goal.returns-clause-array
returns-clause-array c =
    let t = c.args.timed.now in
    let a = c.args.cells.now in
    let l = c.args.layout in
    let lengths = c.in_ok-lengths.lengths in
    let same = c.new-scheduled.ensures ∙ ap (λ (u : Timed). record { timed = u; layout = l }) c.in_ok-nodes.ensures in
    let own = subst (λ (of : Scheduled). AreLengths (system_of of) (helpers_of of) (cells_of of) c.as_slice.result.now lengths) same c.in_ok-lengths.ensures in
    record {
      legal = c.requires.legal;
      whole = c.requires.whole;
      layout = c.requires.layout;
      nodes = c.in_ok-nodes.ensures;
      same_placings = same_placings t a l c.requires.whole c.requires.layout;
      same_cells = same_cells t a l c.requires.whole c.requires.layout;
      links = own_links t a l c.requires.whole c.requires.layout;
      ports = own_ports t a l c.requires.whole c.requires.layout;
      lengths = subst (λ (links : List Link). AreLengths (view_system t.flat) t.helpers l.cells links lengths) c.as_slice.ensures own;
    }
