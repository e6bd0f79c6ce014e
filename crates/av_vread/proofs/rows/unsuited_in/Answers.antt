use Rattle.std.proofs.Common.{◌≡◌, ap, ◌∙◌, map, not}
use Rattle.std.specs.Prelude.{find, option_map}
use Rattle.av_net.specs.Names.{width_in, width_of}
use Rattle.av_net.specs.Rows.{module_of, suits, target_of}
use Rattle.av_vparse.specs.Said.{said_item, said_module}
use Rattle.av_vread.proofs.RowWalks.{widths_test}
use Rattle.av_vread.proofs.rows.unsuited_in.Goals as goal

pub returns : goal.returns
returns c =
    let widths : width_in c.in_ok-widths.widths ≡ width_of (module_of (said_module c.args.of.now)) = widths_test c.in_ok-widths.widths _ c.in_ok-widths.ensures in
    c.first_unsuited.ensures ∙ ap (λ z. option_map target_of (find (λ item. not (suits c.args.kinds.now (width_in c.in_ok-widths.widths) item)) (map said_item z))) c.as_slice.ensures
    ∙ ap (λ w. option_map target_of (find (λ item. not (suits c.args.kinds.now w item)) (map said_item c.args.of.now.items))) widths
