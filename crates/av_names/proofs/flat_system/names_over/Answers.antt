use Rattle.std.proofs.Common.{◌∙◌, ap, arith}
use Rattle.std.specs.Prelude.{bytes_eq, find}
use Rattle.std.proofs.Math.Path.{fun_ext}
use Rattle.std.proofs.lemmas.Grind.{common_steps}
use Rattle.av_tree.specs.Trees.{view_equations, view_system}
use Rattle.av_names.specs.Flattened.{equation_of}
use Rattle.av_names.specs.inner.Sums.{sizes_in}
use Rattle.av_names.proofs.FlatSystem.{rights_fit}
use Rattle.av_names.proofs.flat_system.names_over.Goals as goal

pub returns-clause-names : goal.returns-clause-names
returns-clause-names c =
    let s = view_system c.args.system.now in
    let tables = c.in_ok-tables.tables in
    record {
      tables = c.in_ok-tables.ensures.tables;
      declared = λ name. rw c.in_ok-tables.ensures.system (c.in_ok-declared.ensures name ∙ ap (find (λ d. bytes_eq d.name name)) c.requires.variables);
      equations = λ name. rw c.in_ok-tables.ensures.system (c.in_ok-equations.ensures name ∙ ap (λ es. equation_of (view_equations es) name) c.as_slice.ensures);
      rights = rw c.in_ok-tables.ensures.system (rights_fit s c.args.sizes.now c.args.width.bits c.requires.text c.requires.accepted (sizes_in tables.sizes) (fun_ext c.in_ok-tables.ensures.sizes));
    }

pub returns-clause-system : goal.returns-clause-system
returns-clause-system c = grind (arith, common_steps)
