use Rattle.std.proofs.Common.{◌∙◌, ap, not}
use Rattle.std.specs.Prelude.{find}
use Rattle.av_tree.specs.Rows.{is_index}
use Rattle.av_names.specs.SizeWords.{names_of}
use Rattle.av_names.proofs.Lists.{find_same}
use Rattle.av_names.proofs.size_words.size_missing.Goals as goal

pub returns : goal.returns
returns c =
    let set = c.in_ok-given.given in
    c.first_outside.ensures ∙ ap (find (λ n. not (is_index set n))) c.as_slice.ensures
    ∙ find_same (λ n. not (is_index set n)) (λ n. not (is_index (names_of c.args.sizes.now) n)) c.args.system.now.sizes.names (λ n. ap not (c.in_ok-given.ensures n))
