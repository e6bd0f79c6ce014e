use Rattle.std.proofs.Common.{◌++◌, ◌∷◌, [], ap, ◌∙◌}
use Rattle.av_vread.proofs.Indices.{no_room, bad_last, good_last, bad_first, good_first, index_kept}
use Rattle.av_vread.proofs.entry.+push_indices.Goals as goal

pub returns-then-room-eq0 : goal.returns-then-room-eq0
returns-then-room-eq0 t c = no_room c.args.room c.args.text.now c.args.entries.now.items c.if-room-eq0.true

pub returns-in_err-index_of-in-None : goal.returns-in_err-index_of-in-None
returns-in_err-index_of-in-None t c =
    rw c.from_residual.ensures (bad_last c.args.room c.args.text.now c.args.entries.now.items c.if-room-eq0.false c.in-None.ensures c.in_err-index_of-in-None.ensures)

pub returns-in_err-index_of-in-Some : goal.returns-in_err-index_of-in-Some
returns-in_err-index_of-in-Some t c =
    rw c.from_residual-in_err-index_of-in-Some.ensures
    (bad_first c.args.room c.args.text.now c.args.entries.now.items c.if-room-eq0.false c.in-Some.first.now c.in-Some.later.now c.in-Some.ensures c.in_err-index_of-in-Some.ensures)

pub returns-in_ok-index_of-in-None : goal.returns-in_ok-index_of-in-None
returns-in_ok-index_of-in-None t c =
    rw (c.push.ensures.items, index_kept c.args.text.now c.in_ok-index_of-in-None.field-0 c.in_ok-index_of-in-None.ensures)
    (good_last c.args.room c.args.text.now c.args.entries.now.items c.if-room-eq0.false c.in_ok-index_of-in-None.field-0 c.in-None.ensures c.in_ok-index_of-in-None.ensures)

pub returns-in_ok-index_of-in-Some : goal.returns-in_ok-index_of-in-Some
returns-in_ok-index_of-in-Some t c =
    c.push_indices.ensures
    ∙ good_first c.args.room c.args.text.now c.args.entries.now.items c.if-room-eq0.false c.in-Some.first.now c.in-Some.later.now c.in_ok-index_of-in-Some.field-0 c.push-in-Some.new.self.items
    c.in-Some.ensures c.in_ok-index_of-in-Some.ensures (c.push-in-Some.ensures.items ∙ ap (λ i. c.args.entries.now.items ++ i ∷ []) (index_kept c.in-Some.first.now c.in_ok-index_of-in-Some.field-0 c.in_ok-index_of-in-Some.ensures))
