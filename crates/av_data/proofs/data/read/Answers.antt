use Rattle.std.proofs.Common.{List, Option, length, sym, subst}
use Rattle.std.specs.Prelude.{IfSome, IfNone}
use Rattle.std.proofs.lemmas.List.{length-map}
use Rattle.av_tree.specs.Points.{Point}
use Rattle.av_tree.specs.Trees.{Text}
use Rattle.av_flat.specs.declared.numbers.VariablePlace.{VariablePlace}
use Rattle.av_flat.specs.Trees.{view_system, view_variable}
use Rattle.av_data.specs.Inputs.{words_of}
use Rattle.av_data.specs.Data.{SpellsInputs}
use Rattle.av_data.specs.inner.ReadData.{IsMissingAt, AreWhole}
use Rattle.av_data.proofs.Outcome.{missing_outcome, spells}
use Rattle.av_data.proofs.data.read.Goals as goal

pub returns-in-Some : goal.returns-in-Some
returns-in-Some c =
    let s = view_system c.args.flat.now in
    let ws = c.take_lines-2.new.words in
    let here : IsMissingAt s ws c.in-Some.place.0 c.in-Some.point = subst (λ (o : Option (VariablePlace × Point)). IfSome o (λ found. IsMissingAt s ws found.0.0 found.1)) c.in-Some.is c.in_ok-place.ensures.missing in
    missing_outcome s c.requires.readable c.args.bytes.now c.args.first c.in-Some.place.0 c.in-Some.point ws c.missing.result c.in_ok-take_lines.ensures.ok here c.missing.ensures

pub returns-in_ok-kept_names-in-None : goal.returns-in_ok-kept_names-in-None
returns-in_ok-kept_names-in-None c =
    let s = view_system c.args.flat.now in
    let ws = c.take_lines-2.new.words in
    let all : AreWhole s ws (length c.args.flat.now.vars) = subst (λ (o : Option (VariablePlace × Point)). IfNone o (AreWhole s ws (length c.args.flat.now.vars))) c.in-None.is c.in_ok-place.ensures.none in
    subst (λ (ns : List Text). SpellsInputs s c.args.bytes.now (words_of (record { names = ns; words = ws }))) (sym c.in_ok-kept_names-in-None.ensures)
    (spells s c.requires.readable c.args.bytes.now ws c.in_ok-take_lines.ensures.ok (subst (AreWhole s ws) (sym (length-map c.args.flat.now.vars view_variable)) all))
