use Rattle.std.proofs.Common.{◌+◌, ◌-◌, ◌<◌, List, length, All, refl, sym, subst, arith}
use Rattle.std.proofs.lemmas.List.Elements.{All-push}
use Rattle.av_data.specs.declared.sets.DataSet.{DataSet}
use Rattle.av_data.specs.Sets.{AreSets}
use Rattle.av_data.proofs.SetLines.{Begins, one_more, all_sets}
use Rattle.av_data.proofs.sets.data_sets.Goals as goal

fits : DataSet → Type 0
fits set = set.first_line + length set.bytes.now < 4294967295

pub loop-parts-preserved : goal.loop-parts-preserved
unfolding fits
loop-parts-preserved c =
    let p = c.in-Some.parts in
    let inv = c.loop-parts.invariant in
    let set : DataSet = record { bytes = p.text; first_line = c.loop-parts.line } in
    let pushed = c.in_ok-push.ensures.ok in
    record {
      so_far = subst (λ (xs : List DataSet). Begins c.args.bytes.now c.args.first_line xs p.rest.now (c.loop-parts.line + (p.first_line - 1))) (sym pushed)
          (one_more c.args.bytes.now c.args.first_line c.loop-parts.sets c.loop-parts.rest.now c.loop-parts.line inv.so_far set refl p.rest.now p.first_line c.in-Some.ensures.some);
      within = subst (All fits) (sym pushed) (All-push fits c.loop-parts.sets set inv.within (omega (arith, inv.room, c.in-Some.ensures.within)));
      room = omega (arith, inv.room, c.in-Some.ensures.within, c.in-Some.ensures.some.number);
    }

pub returns-clause-sets : goal.returns-clause-sets
returns-clause-sets c =
    let inv = c.loop-parts.invariant in
    let set : DataSet = record { bytes = c.loop-parts.rest; first_line = c.loop-parts.line } in
    subst (AreSets c.args.bytes.now c.args.first_line) (sym c.in_ok-push-2.ensures.ok)
    (all_sets c.args.bytes.now c.args.first_line c.loop-parts.sets c.loop-parts.rest.now c.loop-parts.line inv.so_far set refl c.in_default.ensures.none refl)

pub returns-clause-within : goal.returns-clause-within
unfolding fits
returns-clause-within c =
    let inv = c.loop-parts.invariant in
    let set : DataSet = record { bytes = c.loop-parts.rest; first_line = c.loop-parts.line } in
    subst (All fits) (sym c.in_ok-push-2.ensures.ok) (All-push fits c.loop-parts.sets set inv.within (omega (arith, inv.room)))
