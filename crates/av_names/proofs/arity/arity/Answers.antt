use Rattle.std.proofs.Common.{refl, sym, ◌∙◌, length, option_map}
use Rattle.std.specs.Prelude.{bytes_eq}
use Rattle.std.specs.Map.{lookup}
use Rattle.std.proofs.lemmas.Iterator.Adapters.{option_map_id}
use Rattle.av_tree.specs.Trees.{Text, view_system}
use Rattle.av_names.specs.Arities.{listed_arity, expression_arity}
use Rattle.av_names.specs.inner.Seen.{part, names_at}
use Rattle.av_names.proofs.Lookups.{arity_is}
use Rattle.av_names.proofs.arity.arity.Goals as goal

pub returns : goal.returns
returns c =
    let look = λ (name : Text). option_map (λ d. d.now) (lookup (bytes_eq name) c.in_ok-table.table) in
    let count = λ (name : Text). length (names_at (look name)) in
    let equation = option_map (λ place. place) c.first_of-equation.result in
    let part_fault = option_map (λ place. place) c.first_of-part.result in
    sym (option_map_id c.sooner.result) ∙ c.sooner.ensures
    ∙ arity_is (view_system c.args.system.now) c.args.variables.now c.args.system.now.equations c.args.parts.now look equation part_fault
    c.requires.variables refl c.requires.parts c.in_ok-table.ensures
    (rw c.as_slice.ensures at c.first_of-equation.ensures (λ e. listed_arity e.place (count e.name) e.indices) (λ e fault is. option_map_id fault ∙ is))
    (c.first_of-part.ensures (λ p. expression_arity count (part p).context (part p).expression) (λ p fault is. option_map_id fault ∙ is))
