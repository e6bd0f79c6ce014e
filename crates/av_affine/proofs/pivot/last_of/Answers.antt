use Rattle.std.proofs.Common.{rules, arith, ◌-◌, length, subst, sym, ◌∙◌, true≢false, FitsSigned, to_z-of_z, w64}
use Rattle.std.specs.List.{Contains}
use Rattle.std.specs.Int.RustNames.{unsigned_abs}
use Rattle.av_affine.specs.Completion.{entry}
use Rattle.av_affine.proofs.Pivots.{contains_answer, one_below}
use Rattle.av_affine.proofs.pivot.last_of.Goals as goal

pub returns-then-contains-clause-some : goal.returns-then-contains-clause-some
returns-then-contains-clause-some c =
    let x = entry c.args.numbers.now (c.loop-k.k - 1) in
    let f : FitsSigned w64 x = search rules in
    let e = simp to_z-of_z at c.unsigned_abs.ensures.value in
    let found = (contains_answer c.args.sizes.now c.unsigned_abs.result c.contains.result c.contains.ensures.cases).0 c.if-contains.true in
    record {
      within = search rules;
      here = subst (Contains c.args.sizes.now) e found;
      after = λ l beyond within. c.loop-k.invariant l (omega arith) within;
    }

pub loop-k-preserved : goal.loop-k-preserved
loop-k-preserved c =
    let x = entry c.args.numbers.now (c.loop-k.k - 1) in
    let f : FitsSigned w64 x = search rules in
    let e = simp to_z-of_z at c.unsigned_abs.ensures.value in
    let answer = contains_answer c.args.sizes.now c.unsigned_abs.result c.contains.result c.contains.ensures.cases in
    one_below (λ j. Contains c.args.sizes.now (unsigned_abs (entry c.args.numbers.now j)) → ⊥) c.loop-k.k (length c.args.numbers.now) c.loop-k.invariant
    (λ holds. true≢false (sym (answer.1 (subst (Contains c.args.sizes.now) (sym e) holds)) ∙ c.if-contains.false))

pub returns-clause-none : goal.returns-clause-none
returns-clause-none c = λ l within. c.loop-k.invariant l (omega arith) within
