use Rattle.std.proofs.Common.{◌∙◌, ◌<◌, ◌++◌, ◌∷◌, [], List, length, map, take, get_or, sym, ap, arith, subst, All}
use Rattle.std.proofs.lemmas.List.{map_push, take_more, take_all}
use Rattle.std.proofs.lemmas.List.Elements.{All-push}
use Rattle.av_flat.specs.declared.timed.Time.{Time}
use Rattle.av_space.specs.Coordinates.{Placing, IsPlacing}
use Rattle.av_space.proofs.Nodes.{time_of}
use Rattle.av_space.proofs.placing.placements.Goals as goal

pub placement_of-requires-clause-not_zero : goal.placement_of-requires-clause-not_zero
placement_of-requires-clause-not_zero c = λ some.
    let l : c.loop-time.time-index < length c.args.timed.now.times = (let t = c.loop-time-test.true in let e = ap (λ (xs : List Time). length xs) c.times-time-items.ensures.is in omega (arith, t, e)) in
    let is = c.time-item.is ∙ ap (λ (xs : List Time). get_or xs c.loop-time.time-index c.time-item.result) c.times-time-items.ensures.is in
    (time_of c.args.timed.now c.loop-time.time-index c.time-item.result c.times-time-items.ensures.legal l is).not_zero some

pub placement_of-requires-clause-small : goal.placement_of-requires-clause-small
placement_of-requires-clause-small c =
    let l : c.loop-time.time-index < length c.args.timed.now.times = (let t = c.loop-time-test.true in let e = ap (λ (xs : List Time). length xs) c.times-time-items.ensures.is in omega (arith, t, e)) in
    let is = c.time-item.is ∙ ap (λ (xs : List Time). get_or xs c.loop-time.time-index c.time-item.result) c.times-time-items.ensures.is in
    (time_of c.args.timed.now c.loop-time.time-index c.time-item.result c.times-time-items.ensures.legal l is).small

pub loop-time-preserved : goal.loop-time-preserved
loop-time-preserved c =
    let items = c.times-time-items.result.now in
    let k = c.loop-time.time-index in
    let t = c.time-item.result in
    let list = c.loop-time.list in
    let p = c.in_ok-placement_of.field-0 in
    let new = c.in_ok-push.ensures.ok in
    record {
      times = ap (map (λ (p : Placing). p.time)) new ∙ map_push (λ (p : Placing). p.time) list p ∙ ap (λ (ts : List Time). ts ++ p.time ∷ []) c.loop-time.invariant.times
          ∙ ap (λ (u : Time). take k items ++ u ∷ []) (c.in_ok-placement_of.ensures.time ∙ c.time-item.is) ∙ sym (take_more items k t c.loop-time-test.true);
      each = subst (All IsPlacing) (sym new) (All-push IsPlacing list p c.loop-time.invariant.each c.in_ok-placement_of.ensures.rule);
    }

pub returns : goal.returns
returns c =
    record {
      times_are = c.loop-time.invariant.times ∙ take_all c.loop-time.time-index c.times-time-items.result.now c.loop-time-test.false ∙ c.times-time-items.ensures.is;
      each = c.loop-time.invariant.each;
    }
