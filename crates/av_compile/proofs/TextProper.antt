-- The equations of a text are proper where those of its flat system are.
use Rattle.std.proofs.Common.{ℕ, ◌<◌, List, length, subst}
use Rattle.av_tree.specs.Proper as text
use Rattle.av_flat.specs.Proper.{IsProper}
use Rattle.av_flat.specs.Trees.{FlatSystem}
use Rattle.av_names.specs.declared.size.Size.{Size}
use Rattle.av_names.specs.Sizes.{instance_of}
use Rattle.av_names.specs.Texts.{IsOfText}
use Rattle.av_names.proofs.Resolved.{is_the_same}
use Rattle.av_compile.specs.Checked.{Flattens}

pub text_is_proper : (bytes : List ℕ) (words : List Size) (width : ℕ) (s : FlatSystem) → length bytes < 4294967295 → (h : Flattens bytes words width s) → IsProper s
    → text.IsProper (instance_of h.system words width)
text_is_proper bytes words width s short h proper =
    let of_text : IsOfText h.system = record { bytes = bytes; short = short; text = h.text } in
    (is_the_same h.system words width of_text h.accepted).proper.1 (subst IsProper h.flat proper)
