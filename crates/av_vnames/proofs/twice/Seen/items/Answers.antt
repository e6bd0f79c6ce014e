use Rattle.std.proofs.Common.{map, refl}
use Rattle.std.specs.List.{flat_map}
use Rattle.av_net.specs.Rows.{item_mentions}
use Rattle.av_vparse.specs.declared.parsed.Item.{Item}
use Rattle.av_vparse.specs.Said.{said_item}
use Rattle.av_vnames.specs.inner.Seen.{Stands}
use Rattle.av_vnames.proofs.SeenMentions.{told_some, told_none, goes_more, goes_found, goes_over}
use Rattle.av_vnames.proofs.twice.Seen.items.Goals as goal

pub returns-in-Some : goal.returns-in-Some
returns-in-Some c =
    let kinds = c.args.kinds.now in
    goes_found Stands (λ (x : Item). item_mentions kinds (said_item x)) (λ xs. flat_map (item_mentions kinds) (map said_item xs)) (λ x xs. refl) c.args.self.now c.loop-item.self c.item.new.self
    (flat_map (item_mentions kinds) (map said_item c.args.items.now)) c.args.items.now c.loop-item.item-index c.item-item.result c.in-Some.name.now c.loop-item.invariant c.loop-item-test.true c.item-item.is
    (told_some Stands _ _ _ c.in_ok-name.field-0 c.in_ok-name.ensures c.in-Some.name c.in-Some.is)

pub loop-item-preserved : goal.loop-item-preserved
loop-item-preserved c =
    let kinds = c.args.kinds.now in
    goes_more Stands (λ (x : Item). item_mentions kinds (said_item x)) (λ xs. flat_map (item_mentions kinds) (map said_item xs)) (λ x xs. refl) c.args.self.now c.loop-item.self c.item.new.self
    (flat_map (item_mentions kinds) (map said_item c.args.items.now)) c.args.items.now c.loop-item.item-index c.item-item.result c.loop-item.invariant c.loop-item-test.true c.item-item.is
    (told_none Stands _ _ _ c.in_ok-name.field-0 c.in_ok-name.ensures c.in_default.not-Some)

pub returns : goal.returns
returns c =
    let kinds = c.args.kinds.now in
    goes_over Stands (λ (x : Item). item_mentions kinds (said_item x)) (λ xs. flat_map (item_mentions kinds) (map said_item xs)) (λ x xs. refl) c.args.self.now c.loop-item.self
    (flat_map (item_mentions kinds) (map said_item c.args.items.now)) c.args.items.now c.loop-item.item-index refl c.loop-item.invariant c.loop-item-test.false
