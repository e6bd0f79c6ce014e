use Rattle.std.proofs.Common.{◌≡◌, ◌++◌, ◌∷◌, [], length, sym, ap, ◌∙◌, append_assoc, append-nil, arith}
use Rattle.std.specs.Vec.Iter.{into_iter_items}
use Rattle.std.proofs.lemmas.List.{nil_from_length}
use Rattle.av_serial.proofs.with_chains.append.Goals as goal

pub loop-var-preserved : goal.loop-var-preserved
loop-var-preserved c =
    let item = c.in-Some.var in
    let later = into_iter_items c.next.new.self in
    let vars = c.loop-var.vars in
    let next : into_iter_items c.loop-var.var-iterator ≡ item ∷ later = c.in-Some.ensures.steps.0 in
    let was = c.loop-var.invariant.left in
    let gone = c.in-Some.ensures.steps.1 in
    let short : length (into_iter_items c.loop-var.var-iterator) ≡ length (item ∷ later) = ap length next in
    record {
      all = ap (λ xs. xs ++ later) c.in_ok-push.ensures.ok ∙ append_assoc vars (item ∷ []) later ∙ rw (← next) c.loop-var.invariant.all;
      left = omega (arith, was, gone, short);
    }

pub returns : goal.returns
returns c =
    let items = into_iter_items c.loop-var.var-iterator in
    let gone : items ≡ [] = nil_from_length items (sym c.loop-var.invariant.left ∙ c.in-None.ensures.steps.0) in
    sym (append-nil c.loop-var.vars) ∙ ap (λ xs. c.loop-var.vars ++ xs) (sym gone) ∙ c.loop-var.invariant.all
