use Rattle.std.proofs.Common.{◌≡◌, ◌++◌, true, false, length, List, refl, sym, ap, ◌∙◌, arith}
use Rattle.std.proofs.lemmas.List.{length-append}
use Rattle.av_flat.specs.declared.timed.Time.{Time}
use Rattle.av_flat.specs.Trees.{Variable, view_variable}
use Rattle.av_flat.specs.Nodes.{is_node}
use Rattle.av_page.proofs.Putting.{Puts-none, Puts-more, Puts-is}
use Rattle.av_data.specs.Schedules.{time_line, time_lines}
use Rattle.av_data.proofs.Timeds.{first_nodes, node_more, other_more, node_line, has_time, all_nodes}
use Rattle.av_data.proofs.schedule.write_times.Goals as goal
use Rattle.av_data.proofs.schedule.write_times.Goals.{then-is_node, else-is_node}

pub loop-var-init : goal.loop-var-init
loop-var-init g c = record { count = refl; put = Puts-none _ _ }

pub bounds-times-next : goal.bounds-times-next
bounds-times-next g c =
    let node : is_node (view_variable c.var-item.result) ≡ true = sym c.is_node.ensures ∙ c.if-is_node.true in
    has_time c.args.vars.now c.args.times.now c.loop-var.var-index c.loop-var.next c.var-item.result c.var-item.result c.requires c.loop-var-test.true (sym c.var-item.is) node c.loop-var.invariant.count

pub offset_bounds-times-next : goal.offset_bounds-times-next
offset_bounds-times-next g c =
    let node : is_node (view_variable c.var-item.result) ≡ true = sym c.is_node.ensures ∙ c.if-is_node.true in
    let within = has_time c.args.vars.now c.args.times.now c.loop-var.var-index c.loop-var.next c.var-item.result c.var-item.result c.requires c.loop-var-test.true (sym c.var-item.is) node c.loop-var.invariant.count in
    omega (arith, within)

pub overflow_add-next : goal.overflow_add-next
overflow_add-next g c =
    let node : is_node (view_variable c.var-item.result) ≡ true = sym c.is_node.ensures ∙ c.if-is_node.true in
    let within = has_time c.args.vars.now c.args.times.now c.loop-var.var-index c.loop-var.next c.var-item.result c.var-item.result c.requires c.loop-var-test.true (sym c.var-item.is) node c.loop-var.invariant.count in
    omega (arith, within)

pub loop-var-preserved : goal.loop-var-preserved
loop-var-preserved g c =
    let vars = c.args.vars.now in
    let times = c.args.times.now in
    let i = c.loop-var.var-index in
    let v = c.var-item.result in
    elim c.if-is_node.branch [
      | then-is_node w ↦ (
          let node : is_node (view_variable v) ≡ true = sym c.is_node.ensures ∙ w.if-is_node.true in
          let count = c.loop-var.invariant.count in
          let within = has_time vars times i c.loop-var.next v v c.requires c.loop-var-test.true (sym c.var-item.is) node count in
          let t = w.index-times-next.result in
          let line =
          node_line vars times i c.loop-var.next v v t c.loop-var-test.true (sym c.var-item.is) node count within
          ∙ ap (λ (x : Time). time_lines (first_nodes vars i) times ++ time_line (view_variable v) x) (sym w.index-times-next.is)
          in
          let more = ap length (node_more vars i v v c.loop-var-test.true (sym c.var-item.is) node) ∙ length-append (first_nodes vars i) _ in
          record {
            count = (let e = w.next-is in omega (arith, e, count, more));
            put = rw (w.page-is, w.sink-is) (Puts-is (Puts-more c.loop-var.invariant.put w.write_time.ensures) (sym line));
          })
      | else-is_node w ↦ (
          let other : is_node (view_variable v) ≡ false = sym c.is_node.ensures ∙ w.if-is_node.false in
          let same = other_more vars i v v c.loop-var-test.true (sym c.var-item.is) other in
          record {
            count = w.next-is ∙ c.loop-var.invariant.count ∙ sym (ap length same);
            put = rw (w.page-is, w.sink-is) (Puts-is c.loop-var.invariant.put (sym (ap (λ (xs : List Variable). time_lines xs times) same)));
          })
    ]

pub returns : goal.returns
returns g c = Puts-is c.loop-var.invariant.put (ap (λ (xs : List Variable). time_lines xs c.args.times.now) (all_nodes c.args.vars.now c.loop-var.var-index c.loop-var-test.false))
