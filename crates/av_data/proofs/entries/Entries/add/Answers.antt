use Rattle.std.proofs.Common.{◌≡◌, ℤ, List, [], ◌∷◌, ◌++◌, sym, ap, subst, ◌∙◌, arith, FitsSigned, to_z, of_z, to_z-of_z, w64}
use Rattle.std.proofs.lemmas.Int.{ints, fits_signed_from_abs}
use Rattle.av_data.specs.inner.Bindings.{Keeps, signed_value}
use Rattle.av_data.proofs.Entered.{kept_more, far_full, far_great}
use Rattle.av_data.proofs.entries.Entries.add.Goals as goal

pub returns-in-Some : goal.returns-in-Some
returns-in-Some c = λ z k.
    let e = c.in-Some.ensures.some in
    let small = e.1 in
    let x = c.in-Some.number in
    let fits : FitsSigned w64 x = fits_signed_from_abs w64 x (omega (arith, ints, small)) in
    let same : to_z w64 (of_z w64 x) ≡ x = simp to_z-of_z in
    let kept = c.args.self.now.kept.items in
    let v = signed_value c.args.entry.now.negative c.args.entry.now.digits.now in
    let more = kept_more kept z c.args.self.now.far x (omega (arith, c.len.ensures.value, c.if-len-lt-MOST_INDICES.true)) e.1 k in
    subst (λ (items : List ℤ). Keeps items c.args.self.now.far (z ++ v ∷ [])) (sym (c.push.ensures.items ∙ ap (λ (y : ℤ). kept ++ y ∷ []) same))
    (subst (λ (y : ℤ). Keeps (kept ++ x ∷ []) c.args.self.now.far (z ++ y ∷ [])) e.0 more)

pub returns-in-Some-2 : goal.returns-in-Some-2
returns-in-Some-2 c = λ z k.
    let v = signed_value c.args.entry.now.negative c.args.entry.now.digits.now in
    far_full c.args.self.now.kept.items z c.args.self.now.far v (omega (arith, c.len.ensures.value, c.if-len-lt-MOST_INDICES.false)) k

pub returns-in-None : goal.returns-in-None
returns-in-None c = λ z k.
    let v = signed_value c.args.entry.now.negative c.args.entry.now.digits.now in
    far_great c.args.self.now.kept.items z c.args.self.now.far v c.in-None.ensures.none k
