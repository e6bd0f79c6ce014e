use Rattle.std.proofs.Common.{◌∙◌, ap, not}
use Rattle.std.specs.Prelude.{find}
use Rattle.av_tree.specs.Rows.{is_index}
use Rattle.av_names.specs.declared.size.Size.{Size}
use Rattle.av_names.specs.SizeWords.{names_of}
use Rattle.av_names.proofs.Lists.{find_same}
use Rattle.av_names.proofs.Repeats.{told, find_seen}
use Rattle.av_names.proofs.size_words.size_unknown.Goals as goal

pub returns : goal.returns
returns c =
    let sizes = c.args.sizes.now in
    let name = λ (s : Size). s.name in
    let set = c.in_ok-named.named in
    let names = c.args.system.now.sizes.names in
    told name c.first_outside.result (find (λ s. not (is_index set s.name)) sizes) c.first_outside.ensures ∙ find_seen name (λ n. not (is_index set n)) sizes
    ∙ find_same (λ n. not (is_index set n)) (λ n. not (is_index names n)) (names_of sizes) (λ n. ap not ((rw c.as_slice.ensures at c.in_ok-named.ensures) n))
