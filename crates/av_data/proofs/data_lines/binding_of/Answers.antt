use Rattle.std.proofs.lemmas.Option.{IfSome_then}
use Rattle.av_flat.specs.Trees.{view_system}
use Rattle.av_poly.proofs.Searching.{none_weaker}
use Rattle.av_data.proofs.ValueWidths.{only_in, none_in}
use Rattle.av_data.proofs.data_lines.binding_of.Goals as goal

pub returns-clause-some : goal.returns-clause-some
returns-clause-some c =
    IfSome_then c.binding_in.result c.binding_in.ensures.some (λ x e. (
      e.0,
      e.1,
      only_in (view_system c.args.flat.now) c.args.text.now x.name.now e.0 x.word.bits c.value_width.result.bits c.value_width.ensures e.2,
    ))

pub returns-clause-none : goal.returns-clause-none
returns-clause-none c =
    none_weaker _ _ (λ none. none_in (view_system c.args.flat.now) c.args.text.now c.value_width.result.bits c.value_width.ensures none) c.binding_in.result c.binding_in.ensures.none
