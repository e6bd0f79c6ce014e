use Rattle.std.proofs.Common.{◌≡◌, ◌∙◌, [], ℤ, List, length, sym, arith, subst, to_z, of_z, w64}
use Rattle.std.proofs.lemmas.List.{nil_from_length}
use Rattle.av_space.specs.Coordinates.{AreSpaceRows, IsPlacing, point, space}
use Rattle.av_space.proofs.placing.placement_of.Goals as goal

pub returns-then-is_empty-clause-rule : goal.returns-then-is_empty-clause-rule
returns-then-is_empty-clause-rule c =
    let none : length c.as_slice-2.result.now ≡ 0 = (let t = c.if-is_empty.true in let e = c.is_empty.ensures in grind (arith, t, e)) in
    let e : c.from_slice.result ≡ [] = c.from_slice.ensures ∙ c.as_slice.ensures.value ∙ sym c.as_slice-2.ensures.value ∙ nil_from_length c.as_slice-2.result.now none in
    subst (λ (rows : List (List ℤ)). IsPlacing (record { time = record { linear = c.from_slice.result; offset = to_z w64 (of_z w64 c.args.time.now.offset) }; rows = rows })) (sym c.new.ensures) (point e)

pub returns-clause-rule : goal.returns-clause-rule
returns-clause-rule c = space c.in_ok-rows.rows (subst (λ (l : List ℤ). AreSpaceRows l c.in_ok-rows.rows) (sym (c.from_slice.ensures ∙ c.as_slice.ensures.value)) c.in_ok-rows.ensures)
