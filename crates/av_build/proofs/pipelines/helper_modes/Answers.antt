use Rattle.std.proofs.Common.{map, ap, ◌∙◌, ◌∷◌, []}
use Rattle.av_kinds.specs.Programs.{Mode}
use Rattle.av_kinds.specs.Written.{mode_of}
use Rattle.av_kinds.proofs.Added.{if_ok_map}
use Rattle.av_build.proofs.pipelines.helper_modes.Goals as goal

pub returns : goal.returns
returns c =
    let entry = mode_of c.in_ok-entries.entries in
    if_ok_map _ _ (λ modes is. record { entry = entry; is_entry = c.in_ok-entries.ensures; are = ap (map mode_of) is ∙ ap (λ (m : Mode). entry ∷ m ∷ []) c.in_ok-others.ensures })
    c.two_modes.result c.two_modes.ensures
