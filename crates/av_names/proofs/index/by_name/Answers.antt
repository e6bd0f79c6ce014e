use Rattle.std.proofs.Common.{List, Option, Bor, map, refl, sym, ap, ◌∙◌, drop, ◌+◌, Some}
use Rattle.std.specs.Prelude.{find, bytes_eq, if◌then◌else◌}
use Rattle.av_tree.specs.declared.system.Declaration.{Declaration}
use Rattle.av_tree.specs.Trees.{Text}
use Rattle.av_names.proofs.Entered.{one_later, all_found}
use Rattle.av_names.proofs.index.by_name.Goals as goal

abbrev rule : Text → List (Bor Declaration) → Option Declaration
rule name ds = find (λ d. bytes_eq d.name name) (map (λ d. d.now) ds)

pub loop-variable-preserved : goal.loop-variable-preserved
loop-variable-preserved c name =
    let x = c.variable-item.result in
    let rest = drop (c.loop-variable.variable-index + 1) c.args.variables.now in
    one_later (λ (d : Bor Declaration). d.now) (rule name) c.args.variables.now c.loop-variable.table c.insert.new.self c.loop-variable.variable-index x c.as_bytes.result.now x name c.loop-variable-test.true c.variable-item.is
    (ap (λ t. if bytes_eq t name then Some x.now else rule name rest) (sym (c.as_bytes.ensures.value ∙ c.as_str.ensures))) c.in_ok-insert.ensures.all (c.loop-variable.invariant name)

pub returns : goal.returns
returns c name = all_found (λ (d : Bor Declaration). d.now) (rule name) c.args.variables.now c.loop-variable.table c.loop-variable.variable-index name c.loop-variable-test.false refl (c.loop-variable.invariant name)
