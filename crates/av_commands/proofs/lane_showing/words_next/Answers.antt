use Rattle.std.proofs.Common.{◌≡◌, ◌≤◌, List, length, drop, sym, subst, arith}
use Rattle.std.specs.Prelude.{slice_index}
use Rattle.std.proofs.lemmas.Option.{slice_get_within}
use Rattle.av_data.specs.declared.stimulus.Given.{Given}
use Rattle.av_wave.specs.Clocking.{word_next, rest_next}
use Rattle.av_commands.proofs.Fed.{at_index}
use Rattle.av_commands.proofs.LanesPresented.{none_read, read_more}
use Rattle.av_commands.proofs.lane_showing.words_next.Goals as goal

pub word_next-word-requires : goal.word_next-word-requires
word_next-word-requires c =
    let k = c.loop-k.k in
    let s = c.index-stimuli-k.result in
    let at = at_index c.args.stimuli.now k s c.loop-k-test.true c.index-stimuli-k.is in
    let inside = c.requires.within k s at in
    let same = c.loop-k.invariant.same k (omega arith) in
    subst (λ (given : List Given). slice_index c.loop-k.next k ≤ length given) (sym c.as_slice.ensures) (subst (λ n. n ≤ length s.values) (sym same) inside)

pub loop-k-init : goal.loop-k-init
loop-k-init c = none_read c.args.stimuli.now c.args.cycle c.args.port c.args.next.now c.told-next

pub loop-k-preserved : goal.loop-k-preserved
loop-k-preserved c =
    let k = c.loop-k.k in
    let s = c.index-stimuli-k.result in
    let at = at_index c.args.stimuli.now k s c.loop-k-test.true c.index-stimuli-k.is in
    let next = slice_index c.loop-k.next k in
    let given = c.as_slice.ensures in
    let word = c.word_next-word.result.0 in
    let rest = c.word_next-word.result.1 in
    read_more c.args.stimuli.now c.args.cycle c.args.port c.args.next.now k c.loop-k.next c.loop-k.words word rest s c.loop-k.invariant at
    (subst (λ (values : List Given). word ≡ word_next (drop next values) c.args.cycle c.args.port) given c.word_next-word.ensures.word)
    (subst (λ (values : List Given). drop rest values ≡ rest_next (drop next values) c.args.cycle c.args.port) given c.word_next-word.ensures.rest)
    (subst (λ (values : List Given). rest ≤ length values) given c.word_next-word.ensures.within)
    (let lt = c.loop-k-test.true in let few = c.requires.few in omega (arith, lt, few))

pub returns-clause-words : goal.returns-clause-words
returns-clause-words c = λ k s at. (let lt = slice_get_within c.args.stimuli.now k s at in let test = c.loop-k-test.false in c.loop-k.invariant.word k s (omega (arith, lt, test)) at)

pub returns-clause-rest : goal.returns-clause-rest
returns-clause-rest c = λ k s at. (let lt = slice_get_within c.args.stimuli.now k s at in let test = c.loop-k-test.false in c.loop-k.invariant.rest k s (omega (arith, lt, test)) at)

pub returns-clause-within : goal.returns-clause-within
returns-clause-within c = λ k s at. (let lt = slice_get_within c.args.stimuli.now k s at in let test = c.loop-k-test.false in c.loop-k.invariant.within k s (omega (arith, lt, test)) at)

pub returns-clause-others : goal.returns-clause-others
returns-clause-others c = λ k le. (let end = c.loop-k.auto.k-end in c.loop-k.invariant.zero k (omega (arith, le, end)))
