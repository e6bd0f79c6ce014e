use Rattle.std.proofs.Common.{rules, ◌≡◌, ◌∙◌, sym, subst, ℕ, List, Option, Some, get_or, IfOk}
use Rattle.std.proofs.lemmas.Option.{slice_get-get_or}
use Rattle.std.specs.Prelude.{slice_get}
use Rattle.av_tree.specs.Trees.{Text}
use Rattle.av_flat.specs.Trees.{view_system, view_variable}
use Rattle.av_flat.specs.Nodes.{nodes}
use Rattle.av_depend.specs.Components.{first_node}
use Rattle.av_sched.specs.SchedFaults.{HasNoSchedule}
use Rattle.av_sched.specs.inner.FirstChoices.{IsStuck}
use Rattle.std.proofs.lemmas.Result.{IfOk-weaker}
use Rattle.av_sched.proofs.Faulting.{stuck_fault}
use Rattle.av_sched.proofs.searching.stuck_at.Goals as goal

pub returns : goal.returns
returns c =
    let s = view_system c.args.flat.now in
    let a = c.variable_of-var.result.now in
    let list = c.as_slice.result.now in
    let components = c.args.components.now in
    let item = c.index-components-k.result in
    let got = slice_get-get_or components c.args.k item c.requires.within in
    let text : IfOk c.new.result (λ name. name ≡ a.name) = search rules in
    IfOk-weaker c.new.result (λ (name : Text). name ≡ a.name) (λ (name : Text). (size : ℕ) → IsStuck s size components c.args.k → HasNoSchedule s size name)
    (λ name e size stuck.
    let r = stuck.infeasible in
    let both : ◌≡◌ {A = Option (List ℕ)} (Some (get_or components c.args.k item)) (Some r.component) = sym got ∙ r.is in
    let same : get_or components c.args.k item ≡ r.component = cc in
    let own : list ≡ r.component = c.as_slice.ensures ∙ c.index-components-k.is ∙ same in
    let node : slice_get (nodes s) (first_node r.component) ≡ Some (view_variable a) = subst (λ (d : List ℕ). slice_get (nodes s) (first_node d) ≡ Some (view_variable a)) own c.variable_of-var.ensures in
    subst (HasNoSchedule s size) (sym e) (stuck_fault s size components c.args.k (view_variable a) c.requires.chained stuck.small c.requires.components stuck.few r node)) text
