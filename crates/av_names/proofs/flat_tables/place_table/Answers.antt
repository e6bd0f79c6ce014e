use Rattle.std.proofs.Common.{arith, ◌∙◌}
use Rattle.av_names.proofs.Entered.{one_place_later, all_places}
use Rattle.av_names.proofs.flat_tables.place_table.Goals as goal

pub loop-variable-preserved : goal.loop-variable-preserved
loop-variable-preserved c = (
  omega (arith, c.loop-variable.invariant.0),
  omega (arith, c.loop-variable-test.true),
  λ name. one_place_later c.args.variables.now c.loop-variable.table c.insert.new.self c.loop-variable.variable-index c.loop-variable.place c.variable-item.result c.as_bytes.result.now name c.loop-variable-test.true
      c.variable-item.is (c.as_bytes.ensures.value ∙ c.as_str.ensures) c.loop-variable.invariant.0 c.in_ok-insert.ensures.all (c.loop-variable.invariant.2 name),
)

pub returns : goal.returns
returns c name = all_places c.args.variables.now c.loop-variable.table c.loop-variable.variable-index name c.loop-variable-test.false c.loop-variable.invariant.1 (c.loop-variable.invariant.2 name)
