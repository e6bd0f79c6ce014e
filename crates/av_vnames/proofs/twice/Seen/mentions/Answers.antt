use Rattle.std.proofs.Common.{map, subst}
use Rattle.std.specs.Prelude.{option_map}
use Rattle.std.specs.List.{flat_map}
use Rattle.std.proofs.lemmas.Result.{IfOk-weaker}
use Rattle.av_net.specs.Rows.{declares, item_mentions}
use Rattle.av_vparse.specs.Said.{said_item, said_module}
use Rattle.av_vnames.specs.inner.Seen.{Stands, Tells, own_declared, own_mentions}
use Rattle.av_vnames.proofs.SeenMentions.{told_some, told_none, tells_some, tells_more}
use Rattle.av_vnames.proofs.twice.Seen.mentions.Goals as goal

pub returns-in-Some : goal.returns-in-Some
returns-in-Some c =
    let x = said_module c.args.of.now in
    tells_some Stands c.args.self.now c.declarations.new.self c.declarations.new.self (map declares (own_declared x)) (flat_map (item_mentions c.args.kinds.now) x.items) c.in-Some.name.now
    (told_some Stands _ _ _ c.in_ok-name.field-0 c.in_ok-name.ensures c.in-Some.name c.in-Some.is)

pub returns : goal.returns
returns c =
    let x = said_module c.args.of.now in
    let kinds = c.args.kinds.now in
    let first = told_none Stands _ _ _ c.in_ok-name.field-0 c.in_ok-name.ensures c.in_default.not-Some in
    IfOk-weaker c.items.result (λ r. Tells Stands c.declarations.new.self c.items.new.self (flat_map (item_mentions kinds) (map said_item c.as_slice.result.now)) (option_map (λ name. name.now) r))
    (λ r. Tells Stands c.args.self.now c.items.new.self (own_mentions kinds x) (option_map (λ name. name.now) r))
    (λ r tells.
    let later = subst (λ items. Tells Stands c.declarations.new.self c.items.new.self (flat_map (item_mentions kinds) (map said_item items)) (option_map (λ name. name.now) r)) c.as_slice.ensures tells in
    tells_more Stands c.args.self.now c.declarations.new.self c.items.new.self (map declares (own_declared x)) (flat_map (item_mentions kinds) x.items) (option_map (λ name. name.now) r) first later) c.items.ensures
