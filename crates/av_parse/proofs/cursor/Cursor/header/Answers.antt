use Rattle.std.proofs.lemmas.Result.{err_from_is_err_and}
use Rattle.av_lex.specs.Lexing.{view, views}
use Rattle.av_parse.specs.inner.Views.{view_header}
use Rattle.av_parse.proofs.InParts.{system_stop, system_name_stop, sizes_stop, inputs_stop, outputs_stop, header_done}
use Rattle.av_parse.proofs.cursor.Cursor.header.Goals as goal

pub returns-in_err-word : goal.returns-in_err-word
returns-in_err-word c =
    let p = err_from_is_err_and c.from_residual.result c.from_residual.ensures.1 in
    rw (p.1, p.2) (system_stop (views c.args.self.now.rest.now) c.in_err-word.field-0.0 c.in_err-word.ensures)

pub returns-in_err-name : goal.returns-in_err-name
returns-in_err-name c =
    let p = err_from_is_err_and c.from_residual-in_err-name.result c.from_residual-in_err-name.ensures.1 in
    rw (p.1, p.2) (system_name_stop (views c.args.self.now.rest.now) c.in_err-name.field-0.0 (view c.in_ok-word.field-0) (views c.word.new.self.rest.now) c.in_ok-word.ensures c.in_err-name.ensures.gives)

pub returns-in_err-sizes : goal.returns-in_err-sizes
returns-in_err-sizes c =
    let p = err_from_is_err_and c.from_residual-in_err-sizes.result c.from_residual-in_err-sizes.ensures.1 in
    rw (p.1, p.2) (sizes_stop (views c.args.self.now.rest.now) c.in_err-sizes.field-0.0 (view c.in_ok-word.field-0) (view c.in_ok-name.name) (views c.word.new.self.rest.now) (views c.expect.new.self.rest.now)
    c.in_ok-word.ensures c.in_ok-name.ensures.gives c.in_err-sizes.ensures)

pub returns-in_err-inputs : goal.returns-in_err-inputs
returns-in_err-inputs c =
    let p = err_from_is_err_and c.from_residual-in_err-inputs.result c.from_residual-in_err-inputs.ensures.1 in
    rw (p.1, p.2) (inputs_stop (views c.args.self.now.rest.now) (views c.word.new.self.rest.now) (views c.expect.new.self.rest.now) (views c.sizes.new.self.rest.now)
    (view c.in_ok-word.field-0) (view c.in_ok-name.name) c.in_ok-sizes.sizes c.in_ok-word.ensures c.in_ok-name.ensures.gives c.in_ok-sizes.ensures c.in_err-inputs.field-0.0 c.in_err-inputs.ensures)

pub returns-in_err-outputs : goal.returns-in_err-outputs
returns-in_err-outputs c =
    let p = err_from_is_err_and c.from_residual-in_err-outputs.result c.from_residual-in_err-outputs.ensures.1 in
    rw (p.1, p.2) (outputs_stop (views c.args.self.now.rest.now) (views c.word.new.self.rest.now) (views c.expect.new.self.rest.now) (views c.sizes.new.self.rest.now)
    (view c.in_ok-word.field-0) (view c.in_ok-name.name) c.in_ok-sizes.sizes c.in_ok-word.ensures c.in_ok-name.ensures.gives c.in_ok-sizes.ensures c.in_err-outputs.field-0.0
    c.in_ok-inputs.inputs (views c.input_list.new.self.rest.now) c.in_ok-inputs.ensures c.in_err-outputs.ensures)

pub returns : goal.returns
returns c =
    header_done (views c.args.self.now.rest.now) (views c.word.new.self.rest.now) (views c.expect.new.self.rest.now) (views c.sizes.new.self.rest.now)
    (view c.in_ok-word.field-0) (view c.in_ok-name.name) c.in_ok-sizes.sizes c.in_ok-word.ensures c.in_ok-name.ensures.gives c.in_ok-sizes.ensures
    c.in_ok-inputs.inputs c.in_ok-outputs.outputs (views c.input_list.new.self.rest.now) (views c.output_list.new.self.rest.now) (view_header c.in_ok-headed.field-0) c.in_ok-inputs.ensures c.in_ok-outputs.ensures c.in_ok-headed.ensures
