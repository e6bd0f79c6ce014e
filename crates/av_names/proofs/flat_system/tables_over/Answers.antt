use Rattle.std.proofs.Common.{rules, ◌≤◌, ◌∙◌, ap, arith, length, Bor}
use Rattle.std.proofs.lemmas.List.{length-map}
use Rattle.av_tree.specs.declared.system.Declaration.{Declaration}
use Rattle.av_tree.specs.Trees.{view_system}
use Rattle.av_names.specs.Flattened.{place_of}
use Rattle.av_names.proofs.FlatSystem.{few_variables}
use Rattle.av_names.proofs.Summed.{small_values}
use Rattle.av_names.proofs.flat_system.tables_over.Goals as goal

pub place_table-requires : goal.place_table-requires
place_table-requires c =
    let e = ap length c.requires.variables in
    let m = length-map c.args.variables.now (λ (d : Bor Declaration). d.now) in
    let k = few_variables (view_system c.args.system.now) c.args.sizes.now c.requires.accepted in
    omega (arith, e, m, k)

pub overflow_cast-result : goal.overflow_cast-result
overflow_cast-result c =
    let e = ap length c.requires.variables in
    let m = length-map c.args.variables.now (λ (d : Bor Declaration). d.now) in
    let k = few_variables (view_system c.args.system.now) c.args.sizes.now c.requires.accepted in
    let l : length c.args.variables.now ≤ 32 = omega (arith, e, m, k) in
    search rules

pub returns-clause-tables : goal.returns-clause-tables
returns-clause-tables c =
    record {
      places = λ name. c.in_ok-places.ensures name ∙ ap (λ ds. place_of ds name) c.requires.variables;
      small = λ name. rw (c.in_ok-values.ensures name) (small_values c.args.sizes.now c.requires.small name);
    }
