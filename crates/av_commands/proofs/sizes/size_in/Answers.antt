use Rattle.std.proofs.Common.{FitsSigned, to_z-of_z, w64, refl, sym, subst, arith}
use Rattle.std.proofs.lemmas.Int.{fits_signed_from_abs}
use Rattle.av_data.specs.Data.{SpellsWhole}
use Rattle.av_commands.specs.SizeWords.{IsSize}
use Rattle.av_commands.proofs.GivenSizes.{no_parts, size_made, no_value}
use Rattle.av_commands.proofs.sizes.size_in.Goals as goal

pub returns-in_default : goal.returns-in_default
returns-in_default c = no_parts c.args.word.now c.in_default.ensures.cases

pub returns-in_default-size_value : goal.returns-in_default-size_value
returns-in_default-size_value c =
    no_value c.args.word.now c.in-Some.name c.in-Some.text c.in-Some.ensures.cases
    (λ z spelled most. c.in_default-size_value.ensures.none z (subst (λ t. SpellsWhole t z) (sym c.as_bytes-2.ensures.value) spelled) most)

pub returns : goal.returns
returns c =
    let is : IsSize c.args.word.now = subst IsSize c.as_bytes.ensures.value (c.if-not-is_size.ensures.0 refl) in
    let z = c.in-Some-size_value.value in
    let most = c.in-Some-size_value.ensures.value.1 in
    let f : FitsSigned w64 z = fits_signed_from_abs w64 z (omega (arith, most)) in
    size_made c.args.word.now is c.in-Some.name c.in-Some.text z _ c.in-Some.ensures.cases (subst (λ t. SpellsWhole t z) c.as_bytes-2.ensures.value c.in-Some-size_value.ensures.value.0) most c.in_ok-new.ensures (to_z-of_z f)
