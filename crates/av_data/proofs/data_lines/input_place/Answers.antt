use Rattle.std.proofs.Common.{List, map, sym, ap, ◌∙◌}
use Rattle.std.specs.Prelude.{slice_get}
use Rattle.std.specs.List.{position}
use Rattle.std.specs.Str.{bytes_eq}
use Rattle.av_flat.specs.declared.flat.Var.{Var}
use Rattle.av_flat.specs.Trees.{view_system, view_variable}
use Rattle.av_data.proofs.Entered.{gives_none}
use Rattle.av_data.proofs.Gathered.{no_name, no_input, input_found}
use Rattle.av_data.proofs.data_lines.input_place.Goals as goal

pub returns-in_err-place-clause-none : goal.returns-in_err-place-clause-none
returns-in_err-place-clause-none c =
    let s = view_system c.args.flat.now in
    gives_none c.from_residual.result (no_name s c.requires.readable c.args.name.now (ap (position (bytes_eq c.args.name.now)) (sym c.requires.names) ∙ sym c.find.ensures.place ∙ c.in_err-place.was))

pub returns-then-is_computed-clause-none : goal.returns-then-is_computed-clause-none
returns-then-is_computed-clause-none c =
    let s = view_system c.args.flat.now in
    let v = view_variable c.variable_at.result.now in
    no_input s c.requires.readable c.args.name.now c.in_ok-place.place v
    (ap (position (bytes_eq c.args.name.now)) (sym c.requires.names) ∙ sym c.find.ensures.place ∙ c.in_ok-place.was)
    (ap (λ (vs : List Var). slice_get (map view_variable vs) c.in_ok-place.place) (sym c.as_slice.ensures) ∙ c.variable_at.ensures) (sym c.is_computed.ensures ∙ c.if-is_computed.true)

pub returns-else-is_computed-clause-some : goal.returns-else-is_computed-clause-some
returns-else-is_computed-clause-some c =
    let s = view_system c.args.flat.now in
    let v = view_variable c.variable_at.result.now in (
      v,
      input_found s c.requires.readable c.args.name.now c.in_ok-place.place v
          (ap (position (bytes_eq c.args.name.now)) (sym c.requires.names) ∙ sym c.find.ensures.place ∙ c.in_ok-place.was)
          (ap (λ (vs : List Var). slice_get (map view_variable vs) c.in_ok-place.place) (sym c.as_slice.ensures) ∙ c.variable_at.ensures) (sym c.is_computed.ensures ∙ c.if-is_computed.false),
    )
