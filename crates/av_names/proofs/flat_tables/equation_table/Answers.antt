use Rattle.std.proofs.Common.{List, Option, Bor, refl, sym, ap, ◌∙◌, drop, ◌+◌, Some}
use Rattle.std.specs.Prelude.{bytes_eq, if◌then◌else◌}
use Rattle.av_tree.specs.declared.system.Equation.{Equation as EquationMade}
use Rattle.av_tree.specs.Trees.{Text, Equation, view_equation, view_equations}
use Rattle.av_names.specs.Flattened.{equation_of}
use Rattle.av_names.proofs.Entered.{one_later, all_found}
use Rattle.av_names.proofs.flat_tables.equation_table.Goals as goal

abbrev rule : Text → List EquationMade → Option Equation
rule name es = equation_of (view_equations es) name

pub loop-equation-preserved : goal.loop-equation-preserved
loop-equation-preserved c name =
    let x = c.equation-item.result in
    let rest = drop (c.loop-equation.equation-index + 1) c.args.equations.now in
    one_later (λ (e : Bor EquationMade). view_equation e.now) (rule name) c.args.equations.now c.loop-equation.table c.insert.new.self c.loop-equation.equation-index x c.as_bytes.result.now _ name c.loop-equation-test.true
    c.equation-item.is (ap (λ t. if bytes_eq t name then Some (view_equation x) else rule name rest) (sym (c.as_bytes.ensures.value ∙ c.as_str.ensures))) c.in_ok-insert.ensures.all (c.loop-equation.invariant name)

pub returns : goal.returns
returns c name = all_found (λ (e : Bor EquationMade). view_equation e.now) (rule name) c.args.equations.now c.loop-equation.table c.loop-equation.equation-index name c.loop-equation-test.false refl (c.loop-equation.invariant name)
