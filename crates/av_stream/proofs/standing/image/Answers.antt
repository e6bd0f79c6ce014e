use Rattle.std.proofs.Common.{◌≡◌, ◌≤◌, ◌++◌, ◌∷◌, [], ℤ, List, take, get_or, arith, to_z, of_z, w64, sym, ap, subst, ◌∙◌, pos}
use Rattle.std.specs.Int.{w128}
use Rattle.std.specs.Prelude.{unsigned_abs}
use Rattle.std.proofs.lemmas.List.Elements.{All-push}
use Rattle.av_affine.specs.Numbers.{dot, AtMost}
use Rattle.av_stream.proofs.Images.{along_more, along_at, length_along, as_wide, as_narrow}
use Rattle.av_stream.proofs.standing.image.Goals as goal

pub loop-row-preserved : goal.loop-row-preserved
loop-row-preserved c =
    let m = c.args.matrix.now in
    let rows = take m.size m.cells in
    let k = c.loop-row.row-index in
    let xs = c.args.entries.now in
    let r = c.dot-entry.result in
    let wide = as_wide r c.dot-entry.ensures.small in
    let small : unsigned_abs r ≤ 4095 = omega (arith, ap unsigned_abs wide, c.unsigned_abs.ensures.value, c.if-unsigned_abs-gt-MOST_COORDINATE.false) in
    let same : to_z w64 (of_z w64 (to_z w128 (of_z w128 r))) ≡ r = ap (λ (n : ℤ). to_z w64 (of_z w64 n)) wide ∙ as_narrow r (omega (arith, small)) in
    let pushed : c.push.new.self.items ≡ c.loop-row.point.items ++ r ∷ [] = c.push.ensures.items ∙ ap (λ (n : ℤ). c.loop-row.point.items ++ n ∷ []) same in
    record {
      so_far = pushed ∙ ap (λ (n : ℤ). c.loop-row.point.items ++ n ∷ []) c.dot-entry.ensures.value ∙ ap (λ (ys : List ℤ). ys ++ dot (take m.size (get_or rows k [])) xs ∷ []) c.loop-row.invariant.so_far
          ∙ sym (along_more m.size k rows xs c.loop-row-test.true);
      small = subst (AtMost 4095) (sym pushed) (All-push (λ (n : ℤ). unsigned_abs n ≤ 4095) c.loop-row.point.items r c.loop-row.invariant.small small);
    }

pub returns-then-unsigned_abs-gt-MOST_COORDINATE-clause-none : goal.returns-then-unsigned_abs-gt-MOST_COORDINATE-clause-none
returns-then-unsigned_abs-gt-MOST_COORDINATE-clause-none c = λ fits.
    let m = c.args.matrix.now in
    let rows = take m.size m.cells in
    let k = c.loop-row.row-index in
    let xs = c.args.entries.now in
    let wide = as_wide c.dot-entry.result c.dot-entry.ensures.small in
    let at = along_at m.size k rows xs (pos 0) c.loop-row-test.true in
    let most = fits k (pos 0) (rw (length_along m.size rows xs) c.loop-row-test.true) in
    omega (arith, most, ap unsigned_abs at, ap unsigned_abs c.dot-entry.ensures.value, ap unsigned_abs wide, c.unsigned_abs.ensures.value, c.if-unsigned_abs-gt-MOST_COORDINATE.true)
