use Rattle.std.proofs.Common.{map, refl}
use Rattle.std.specs.Prelude.{option_map}
use Rattle.std.specs.List.{flat_map}
use Rattle.av_net.specs.Rows.{kind_or, link_mentions}
use Rattle.av_vparse.specs.declared.parsed.PortLink.{PortLink}
use Rattle.av_vparse.specs.Said.{said_link}
use Rattle.av_vnames.specs.inner.Seen.{StandsIn}
use Rattle.av_vnames.proofs.SeenMentions.{told_some, told_none, goes_more, goes_found, goes_over}
use Rattle.av_vnames.proofs.twice.Seen.all_links.Goals as goal

pub returns-in-Some : goal.returns-in-Some
returns-in-Some c = λ u.
    let kind = kind_or (option_map (λ kind. kind.now) c.args.kind) in
    goes_found (StandsIn u) (λ (x : PortLink). link_mentions kind u (said_link x)) (λ xs. flat_map (link_mentions kind u) (map said_link xs)) (λ x xs. refl) (c.args.self.now, c.args.linked.now)
    (c.loop-link.self, c.loop-link.linked) (c.links.new.self, c.links.new.linked) (flat_map (link_mentions kind u) (map said_link c.args.links.now)) c.args.links.now c.loop-link.link-index c.link-item.result
    c.in-Some.name.now (c.loop-link.invariant u) c.loop-link-test.true c.link-item.is (told_some (StandsIn u) _ _ _ c.in_ok-name.field-0 (c.in_ok-name.ensures u) c.in-Some.name c.in-Some.is)

pub loop-link-preserved : goal.loop-link-preserved
loop-link-preserved c = λ u.
    let kind = kind_or (option_map (λ kind. kind.now) c.args.kind) in
    goes_more (StandsIn u) (λ (x : PortLink). link_mentions kind u (said_link x)) (λ xs. flat_map (link_mentions kind u) (map said_link xs)) (λ x xs. refl) (c.args.self.now, c.args.linked.now)
    (c.loop-link.self, c.loop-link.linked) (c.links.new.self, c.links.new.linked) (flat_map (link_mentions kind u) (map said_link c.args.links.now)) c.args.links.now c.loop-link.link-index c.link-item.result
    (c.loop-link.invariant u) c.loop-link-test.true c.link-item.is (told_none (StandsIn u) _ _ _ c.in_ok-name.field-0 (c.in_ok-name.ensures u) c.in_default.not-Some)

pub returns : goal.returns
returns c = λ u.
    let kind = kind_or (option_map (λ kind. kind.now) c.args.kind) in
    goes_over (StandsIn u) (λ (x : PortLink). link_mentions kind u (said_link x)) (λ xs. flat_map (link_mentions kind u) (map said_link xs)) (λ x xs. refl) (c.args.self.now, c.args.linked.now)
    (c.loop-link.self, c.loop-link.linked) (flat_map (link_mentions kind u) (map said_link c.args.links.now)) c.args.links.now c.loop-link.link-index refl (c.loop-link.invariant u) c.loop-link-test.false
