use Rattle.std.proofs.Common.{◌≡◌, ℕ, List, true, false, Option, Some, None, refl}
use Rattle.std.specs.Prelude.{IfSome, IfNone}
use Rattle.av_base.specs.Tokens.{number_of}
use Rattle.av_vparse.specs.inner.Reading.{size_digits, value_digits, is_literal, GivesOption, sized_view, literal_in}
use Rattle.av_vparse.specs.declared.literal.Literal.{Literal}
use Rattle.av_vparse.proofs.BitsOf.{is_width_of}
use Rattle.av_vparse.proofs.literal.literal_of.Goals as goal

gives : (text : List ℕ) (r : Option Literal)
    → IfSome r (λ x. (is_literal text ≡ true) × (x.width.bits ≡ number_of (size_digits text)) × (x.value ≡ number_of (value_digits text)))
    → IfNone r (is_literal text ≡ false) → GivesOption sized_view r (literal_in text)
gives text None h k = rw k refl
gives text (Some x) h k = rw (h.0, is_width_of x.width (number_of (size_digits text)) h.1, h.2) refl

pub returns : goal.returns
returns c = gives c.args.text.now c.checked_literal.result c.checked_literal.ensures.some c.checked_literal.ensures.none
