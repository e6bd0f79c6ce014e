use Rattle.std.proofs.Common.{refl, ap, ◌∙◌, ◌++◌, map, option_map, false}
use Rattle.std.specs.Prelude.{bytes_eq}
use Rattle.std.specs.Map.{lookup}
use Rattle.av_tree.specs.Trees.{view, view_system}
use Rattle.av_names.specs.Parts.{parts_of}
use Rattle.av_names.specs.inner.Seen.{part}
use Rattle.av_names.proofs.Lookups.{context_found, parts_more, parts_all}
use Rattle.av_names.proofs.index.parts_over.Goals as goal

pub loop-equation-preserved : goal.loop-equation-preserved
loop-equation-preserved c =
    let s = view_system c.args.system.now in
    let e = c.equation-item.result in
    let found = option_map (λ d. d.now) (lookup (bytes_eq e.name) c.args.table.now) in
    parts_more s c.args.system.now.equations c.loop-equation.parts.items c.gather.new.parts.items c.loop-equation.equation-index e c.context-names.result.now
    (rw c.as_slice-equation-items.ensures at c.loop-equation-test.true) (rw c.as_slice-equation-items.ensures at c.equation-item.is)
    (context_found s e found c.context-names.result.now (c.requires e.name) c.context-names.ensures)
    c.loop-equation.invariant
    (c.in_ok-gather.ensures ∙ ap (λ k. map part c.loop-equation.parts.items ++ parts_of false k (view e.right)) c.over.ensures)

pub returns : goal.returns
returns c =
    parts_all (view_system c.args.system.now) c.args.system.now.equations c.loop-equation.parts.items c.loop-equation.equation-index refl
    (rw c.as_slice-equation-items.ensures at c.loop-equation-test.false) c.loop-equation.invariant
