use Rattle.std.proofs.Common.{◌≡◌, false, sym, subst, ◌++◌, map, All}
use Rattle.std.proofs.lemmas.Result.{on_ok_weaker}
use Rattle.av_flat.specs.declared.flat.Kind.TheVariants as kind
use Rattle.av_flat.specs.Trees.{view_variable}
use Rattle.av_tree.specs.declared.system.Declaration.{Declaration}
use Rattle.av_names.specs.inner.Building.{FitsDomain, instance_in}
use Rattle.av_names.specs.Flattened.{input_of, computed_of}
use Rattle.av_names.specs.Widths.{is_out_of_range}
use Rattle.av_names.specs.inner.Sums.{sizes_in}
use Rattle.av_names.proofs.Among.{among_first, among_second, all_within}
use Rattle.av_names.proofs.FlatSystem.{three_behind}
use Rattle.av_names.proofs.flat_system.push_variables.Goals as goal

pub push_inputs-requires-clause-domains : goal.push_inputs-requires-clause-domains
push_inputs-requires-clause-domains c =
    let s = c.args.names.now.tables.system.now in
    let fits = λ (d : Declaration). FitsDomain (sizes_in c.args.names.now.tables.sizes) d.domain in
    subst (All fits) (sym c.as_slice.ensures)
    (all_within fits s.inputs (s.inputs ++ (s.outputs ++ s.locals)) c.requires.domains (λ d m. among_first s.inputs (s.outputs ++ s.locals) d m))

pub push_computed-requires-clause-domains : goal.push_computed-requires-clause-domains
push_computed-requires-clause-domains c =
    let s = c.args.names.now.tables.system.now in
    let fits = λ (d : Declaration). FitsDomain (sizes_in c.args.names.now.tables.sizes) d.domain in
    subst (All fits) (sym c.as_slice-2.ensures)
    (all_within fits s.outputs (s.inputs ++ (s.outputs ++ s.locals)) c.requires.domains
    (λ d m. among_second s.inputs (s.outputs ++ s.locals) d (among_first s.outputs s.locals d m)))

pub push_computed-requires-2-clause-domains : goal.push_computed-requires-2-clause-domains
push_computed-requires-2-clause-domains c =
    let s = c.args.names.now.tables.system.now in
    let fits = λ (d : Declaration). FitsDomain (sizes_in c.args.names.now.tables.sizes) d.domain in
    subst (All fits) (sym c.as_slice-3.ensures)
    (all_within fits s.locals (s.inputs ++ (s.outputs ++ s.locals)) c.requires.domains
    (λ d m. among_second s.inputs (s.outputs ++ s.locals) d (among_second s.outputs s.locals d m)))

pub push_inputs-requires-clause-widths : goal.push_inputs-requires-clause-widths
push_inputs-requires-clause-widths c =
    let s = c.args.names.now.tables.system.now in
    let fits = λ (d : Declaration). is_out_of_range d.width ≡ false in
    subst (All fits) (sym c.as_slice.ensures)
    (all_within fits s.inputs (s.inputs ++ (s.outputs ++ s.locals)) c.requires.widths (λ d m. among_first s.inputs (s.outputs ++ s.locals) d m))

pub push_computed-requires-clause-widths : goal.push_computed-requires-clause-widths
push_computed-requires-clause-widths c =
    let s = c.args.names.now.tables.system.now in
    let fits = λ (d : Declaration). is_out_of_range d.width ≡ false in
    subst (All fits) (sym c.as_slice-2.ensures)
    (all_within fits s.outputs (s.inputs ++ (s.outputs ++ s.locals)) c.requires.widths
    (λ d m. among_second s.inputs (s.outputs ++ s.locals) d (among_first s.outputs s.locals d m)))

pub push_computed-requires-2-clause-widths : goal.push_computed-requires-2-clause-widths
push_computed-requires-2-clause-widths c =
    let s = c.args.names.now.tables.system.now in
    let fits = λ (d : Declaration). is_out_of_range d.width ≡ false in
    subst (All fits) (sym c.as_slice-3.ensures)
    (all_within fits s.locals (s.inputs ++ (s.outputs ++ s.locals)) c.requires.widths
    (λ d m. among_second s.inputs (s.outputs ++ s.locals) d (among_second s.outputs s.locals d m)))

pub returns : goal.returns
returns c =
    let t = c.args.names.now.tables in
    let s = t.system.now in
    let i = instance_in t in
    let first = rw c.as_slice.ensures at c.in_ok-push_inputs.ensures in
    let second = rw c.as_slice-2.ensures at c.in_ok-push_computed.ensures in
    on_ok_weaker c.push_computed-2.result
    (λ last. three_behind (map view_variable c.args.to.now) (map view_variable c.push_inputs.new.to) (map view_variable c.push_computed.new.to) (map view_variable c.push_computed-2.new.to)
    (map (input_of i) s.inputs) (map (computed_of i kind.Output) s.outputs) (map (computed_of i kind.Local) s.locals) first second (rw c.as_slice-3.ensures at last)) c.push_computed-2.ensures
