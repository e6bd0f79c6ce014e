use Rattle.std.proofs.Common.{rules, ◌≡◌, ◌∙◌, ◌<◌, ◌≤◌, ◌^◌, sym, ap, ap₂, length, unsigned_abs, FitsSigned, w64, to_z-of_z, ℤ, pos, arith}
use Rattle.std.specs.Prelude.{slice_index_or}
use Rattle.std.proofs.lemmas.List.Elements.{All-push}
use Rattle.std.proofs.lemmas.Grind.{common_steps}
use Rattle.av_depend.specs.inner.Generating.{mirrored}
use Rattle.av_depend.proofs.Mirrors.{mirrored_more, mirrored_size}
use Rattle.av_depend.proofs.generator.mirror.Goals as goal
use Rattle.av_base.proofs.Lists.{take_whole}

pub loop-k-preserved : goal.loop-k-preserved
loop-k-preserved c =
    let z = c.as_slice-a.result.now in
    let x = c.as_slice-b.result.now in
    let size : length x ≡ length z = ap length c.as_slice-b.ensures.value ∙ c.requires.size ∙ ap length (sym c.as_slice-a.ensures.value) in
    let l : c.loop-k.k < length z = search rules in
    let y = c.across.result in
    let f : FitsSigned w64 y = search rules in
    let fa : FitsSigned w64 (slice_index_or z c.loop-k.k (pos 0)) = search rules in
    let fb : FitsSigned w64 (slice_index_or x c.loop-k.k (pos 0)) = search rules in
    let v = simp to_z-of_z at c.across.ensures.value in
    let e = simp to_z-of_z at c.push.ensures.items in
    let more = mirrored_more z x c.loop-k.entries.items c.loop-k.k y size l c.loop-k.invariant.0 v in
    rw e ((more, All-push (λ (a : ℤ). unsigned_abs a ≤ 2 ^ 25) c.loop-k.entries.items y c.loop-k.invariant.1 c.across.ensures.small))

pub returns-clause-value : goal.returns-clause-value
returns-clause-value c =
    let z = c.as_slice-a.result.now in
    let x = c.as_slice-b.result.now in
    let size : length x ≡ length z = ap length c.as_slice-b.ensures.value ∙ c.requires.size ∙ ap length (sym c.as_slice-a.ensures.value) in
    let over : length (mirrored z x) ≤ c.loop-k.k = (let s = mirrored_size z x size in search rules) in
    c.from_slice.ensures ∙ search rules ∙ take_whole (mirrored z x) c.loop-k.k over ∙ ap₂ mirrored c.as_slice-a.ensures.value c.as_slice-b.ensures.value

pub push-requires : goal.push-requires
push-requires c = grind (arith, common_steps)

pub across-requires-clause-first : goal.across-requires-clause-first
across-requires-clause-first c = grind (arith, common_steps)

pub across-requires-clause-second : goal.across-requires-clause-second
across-requires-clause-second c = grind (arith, common_steps)
