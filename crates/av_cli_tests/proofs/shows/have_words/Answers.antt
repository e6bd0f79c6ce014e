use Rattle.std.proofs.Common.{◌≡◌, ◌<◌, ◌≤◌, ◌∙◌, All, List, length, get_or, take, refl, sym, ap, subst}
use Rattle.std.proofs.lemmas.List.{take_all}
use Rattle.std.proofs.lemmas.List.Elements.{All-more}
use Rattle.av_net.specs.declared.netlist.Port.{Port}
use Rattle.av_net.specs.declared.design.Entry.{Entry}
use Rattle.av_net.specs.Presented.{HasFittingWord}
use Rattle.av_data.specs.Inputs.{words_of}
use Rattle.av_cli_tests.proofs.shows.have_words.Goals as goal

pub loop-line-preserved : goal.loop-line-preserved
loop-line-preserved c =
    let design = c.args.design.now in
    let x = words_of c.args.inputs.now in
    let P : Entry → Type 0 = HasFittingWord design.module.inputs x in
    let e = c.as_slice-line-items.ensures in
    let k = c.loop-line.line-index in
    let line = c.line-item.result in
    let has : P line = subst (λ (ps : List Port). HasFittingWord ps x line) c.as_slice.ensures (c.if-not-has_word.ensures refl) in
    All-more P design.listing.ins k line (subst (λ (ls : List Entry). k < length ls) e c.loop-line-test.true) c.loop-line.invariant (subst P (c.line-item.is ∙ ap (λ (ls : List Entry). get_or ls k line) e) has)

pub returns : goal.returns
returns c =
    let design = c.args.design.now in
    let P : Entry → Type 0 = HasFittingWord design.module.inputs (words_of c.args.inputs.now) in
    λ _. subst (λ (ls : List Entry). All P ls) (take_all c.loop-line.line-index design.listing.ins (subst (λ (ls : List Entry). length ls ≤ c.loop-line.line-index) c.as_slice-line-items.ensures c.loop-line-test.false)) c.loop-line.invariant
