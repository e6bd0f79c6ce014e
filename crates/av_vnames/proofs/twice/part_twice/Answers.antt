use Rattle.std.proofs.Common.{◌≡◌, ap, ◌∙◌}
use Rattle.std.specs.Prelude.{option_map}
use Rattle.std.proofs.lemmas.Result.{IfOk-weaker}
use Rattle.av_net.specs.Names.{names_of}
use Rattle.av_net.specs.Rows.{first_repeated, top_names, part_twice}
use Rattle.av_vparse.specs.Said.{said}
use Rattle.av_vnames.proofs.RepeatedParts.{repeated_same, own_same}
use Rattle.av_vnames.proofs.twice.part_twice.Goals as goal

pub returns : goal.returns
returns c =
    let x = said c.args.text.now in
    IfOk-weaker c.repeated.result (λ r. option_map (λ name. name.now) r ≡ first_repeated c.in_ok-seen.seen (names_of c.args.parts.now)) (λ r. option_map (λ name. name.now) r ≡ part_twice x)
    (λ r e. e ∙ repeated_same c.in_ok-seen.seen (top_names x) (names_of c.args.parts.now) (λ q. c.in_ok-seen.ensures q ∙ own_same x q) ∙ ap (λ z. first_repeated (top_names x) (names_of z)) c.requires)
    c.repeated.ensures
