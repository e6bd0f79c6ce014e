use Rattle.av_vnames.specs.inner.Seen.{Stands}
use Rattle.av_vnames.proofs.SeenMentions.{told_some, told_none, names_more, names_found, goes_over}
use Rattle.std.proofs.Common.{◌∷◌, [], map, refl}
use Rattle.av_net.specs.Rows.{declares}
use Rattle.av_vnames.specs.Scoped.{texts, Bytes}
use denote.Ref.{Bor}
use Rattle.av_vnames.proofs.twice.Seen.declares_all.Goals as goal

pub returns-in-Some : goal.returns-in-Some
returns-in-Some c =
    names_found c.args.self.now c.loop-name.self c.declares.new.self c.args.names.now c.loop-name.name-index _ c.loop-name.invariant c.in-Some.name.now c.loop-name-test.true
    (told_some Stands _ _ _ c.in_ok-name.field-0 c.in_ok-name.ensures c.in-Some.name c.in-Some.is)

pub loop-name-preserved : goal.loop-name-preserved
loop-name-preserved c =
    names_more c.args.self.now c.loop-name.self c.declares.new.self c.args.names.now c.loop-name.name-index _ c.loop-name.invariant c.loop-name-test.true
    (told_none Stands _ _ _ c.in_ok-name.field-0 c.in_ok-name.ensures c.in_default.not-Some)

pub returns : goal.returns
returns c =
    goes_over Stands (λ (x : Bor Bytes). declares x.now ∷ []) (λ xs. map declares (texts xs)) (λ x xs. refl) c.args.self.now c.loop-name.self (map declares (texts c.args.names.now)) c.args.names.now c.loop-name.name-index refl c.loop-name.invariant
    c.loop-name-test.false
