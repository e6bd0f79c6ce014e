use Rattle.std.proofs.Common.{rules, ◌∙◌, ◌<◌, ◌≤◌, ◌∷◌, ◌++◌, [], List, length, take, append_assoc, sym, ap, subst}
use Rattle.std.specs.List.{AllByRecursion}
use Rattle.std.proofs.lemmas.List.Elements.{All-from_recursion}
use Rattle.av_tree.specs.Points.{Point}
use Rattle.av_flat.specs.Broadcasts.{Reference}
use Rattle.av_flat.specs.Trees.{view, reference}
use Rattle.av_flat.proofs.Reading.{each_reference}
use Rattle.av_sched.specs.inner.Ways.{HasSmallReferences, ways_of}
use Rattle.av_sched.proofs.Ways.{ways_append}
use Rattle.av_sched.proofs.cost.add_ways.Goals as goal
use Rattle.av_base.proofs.Lists.{next_taken, take_whole}

pub add_way-requires : goal.add_way-requires
add_way-requires c =
    let P = λ (r : Reference). HasSmallReferences (reference r.place r.map) in
    let items = c.as_slice-reference-items.result.now in
    let i = c.loop-reference.reference-index in
    let x = c.reference-item.result in
    let l : i < length items = search rules in
    let each = subst (AllByRecursion P) (sym (c.as_slice-reference-items.ensures ∙ c.in_ok-found.ensures)) (each_reference HasSmallReferences (λ g l r h. h) (λ l o r x y h. h) (view c.args.tree.now) c.requires) in
    let own : P x = subst P (sym c.reference-item.is) (All-from_recursion P items each i x l) in
    subst P (sym c.reference.view_is) own

pub loop-reference-preserved : goal.loop-reference-preserved
loop-reference-preserved c =
    let items = c.as_slice-reference-items.result.now in
    let i = c.loop-reference.reference-index in
    let x = c.reference-item.result in
    let old = c.args.to.now in
    let l : i < length items = search rules in
    c.in_ok-add_way.ensures c.reference.inside.var.0 ∙ ap (λ (r : Reference). c.loop-reference.to ++ ways_of (r ∷ [])) c.reference.view_is
    ∙ ap (λ (ws : List (List Point)). ws ++ ways_of (x ∷ [])) c.loop-reference.invariant ∙ append_assoc old (ways_of (take i items)) (ways_of (x ∷ []))
    ∙ ap (λ (ws : List (List Point)). old ++ ws) (sym (ap ways_of (next_taken items i x l c.reference-item.is) ∙ ways_append (take i items) (x ∷ [])))

pub returns : goal.returns
returns c =
    let items = c.as_slice-reference-items.result.now in
    let over : length items ≤ c.loop-reference.reference-index = search rules in
    c.loop-reference.invariant
    ∙ ap (λ (rs : List Reference). c.args.to.now ++ ways_of rs) (take_whole items c.loop-reference.reference-index over ∙ c.as_slice-reference-items.ensures ∙ c.in_ok-found.ensures)
