use Rattle.std.proofs.Common.{rules, ℤ, List, Option, refl, sym, ap, ◌≡◌, ◌∙◌, drop, ◌+◌, Some, None, w64, FitsSigned, to_z-of_z, option_map}
use mir.Val.{to_z, of_z}
use Rattle.std.specs.Prelude.{bytes_eq, if◌then◌else◌}
use Rattle.av_tree.specs.Trees.{Text}
use Rattle.av_names.specs.declared.size.Size.{Size}
use Rattle.av_names.specs.inner.Sums.{sizes_in}
use Rattle.av_names.specs.Sizes.{sizes_of}
use Rattle.av_names.proofs.Entered.{one_later, all_found}
use Rattle.av_names.proofs.size_table.size_table.Goals as goal

abbrev rule : Text → List Size → Option ℤ
rule name ws = sizes_of ws name

same : (o : Option ℤ) → o ≡ option_map (λ v. v) o
same None = refl
same (Some v) = refl

pub loop-size-preserved : goal.loop-size-preserved
loop-size-preserved c name =
    let x = c.size-item.result in
    let rest = drop (c.loop-size.size-index + 1) c.args.sizes.now in
    let f : FitsSigned w64 x.value = search rules in
    let e : to_z w64 (of_z w64 x.value) ≡ x.value = simp to_z-of_z in
    one_later (λ v. v) (rule name) c.args.sizes.now c.loop-size.table c.insert.new.self c.loop-size.size-index x c.as_bytes.result.now (to_z w64 (of_z w64 x.value)) name c.loop-size-test.true c.size-item.is
    (ap (λ t. if bytes_eq t name then Some x.value else rule name rest) (sym (c.as_bytes.ensures.value ∙ c.as_str.ensures)) ∙ ap (λ v. if bytes_eq c.as_bytes.result.now name then Some v else rule name rest) (sym e))
    c.in_ok-insert.ensures.all (c.loop-size.invariant name)

pub returns : goal.returns
returns c name =
    same (sizes_in c.loop-size.table name) ∙ all_found (λ v. v) (rule name) c.args.sizes.now c.loop-size.table c.loop-size.size-index name c.loop-size-test.false refl (c.loop-size.invariant name)
