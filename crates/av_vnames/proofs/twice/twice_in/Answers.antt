use Rattle.std.proofs.Common.{◌≡◌, arith}
use Rattle.std.specs.Prelude.{option_map}
use Rattle.std.proofs.lemmas.Result.{IfOk-weaker}
use Rattle.std.proofs.lemmas.Grind.{elements}
use Rattle.av_net.specs.Rows.{first_again, mentions_of}
use Rattle.av_vparse.specs.Said.{said_module}
use Rattle.av_vnames.specs.inner.Seen.{Stands, Tells, standing, own_mentions}
use Rattle.av_vnames.proofs.SeenMentions.{put_some, put_none, module_told, within_told}
use Rattle.av_vnames.proofs.twice.twice_in.Goals as goal

pub returns-in-Some-clause-again : goal.returns-in-Some-clause-again
returns-in-Some-clause-again c =
    let x = said_module c.args.of.now in
    module_told c.args.modules.now c.put.new.names x.name (own_mentions c.args.kinds.now x) c.in-Some.name.now
    (put_some c.args.modules.now c.put.new.names c.as_str.result.now x.name c.in_ok-name.field-0 c.in_ok-name.ensures c.as_str.ensures c.in-Some.name c.in-Some.is)

pub returns-clause-again : goal.returns-clause-again
returns-clause-again c =
    let x = said_module c.args.of.now in
    let kinds = c.args.kinds.now in
    let put = put_none c.args.modules.now c.put.new.names c.as_str.result.now x.name c.in_ok-name.field-0 c.in_ok-name.ensures c.as_str.ensures c.in_default.not-Some in
    IfOk-weaker c.mentions.result (λ r. Tells Stands c.in_ok-seen.seen c.mentions.new.self (own_mentions kinds x) (option_map (λ name. name.now) r))
    (λ r. option_map (λ name. name.now) r ≡ first_again (standing c.args.modules.now) (mentions_of kinds x))
    (λ r tells. within_told c.args.modules.now c.put.new.names x.name c.in_ok-seen.seen c.mentions.new.self (own_mentions kinds x) (option_map (λ name. name.now) r) put c.in_ok-seen.ensures tells) c.mentions.ensures

pub returns-clause-modules : goal.returns-clause-modules
returns-clause-modules c = grind (arith, elements)
