use Rattle.std.proofs.Common.{◌≡◌, ◌∙◌, subst, sym, ap}
use Rattle.std.specs.Prelude.{string_bytes}
use Rattle.std.proofs.lemmas.Result.{IfOk-weaker}
use Rattle.av_space.specs.Listings.{output_name, value_name, IsWireOf}
use Rattle.av_space.proofs.ShownLines.{port_found, no_port}
use Rattle.av_space.proofs.shown.wire_of.Goals as goal
use Rattle.av_space.proofs.shown.wire_of.Goals.{in-Ok+in_ok-wire-in-Ok, in-Err+in_ok-wire-in-Err}

pub returns : goal.returns
returns c =
    let outputs = c.args.outputs.now in
    let p = c.args.cell.0 in
    let found = c.binary_search.ensures.position in
    elim c.match-binary_search.branch [
      | in-Ok+in_ok-wire-in-Ok w ↦
          let text : c.as_str.result.now ≡ output_name w.in-Ok.port = c.as_str.ensures.value ∙ ap string_bytes w.wire-is ∙ w.in_ok-wire-in-Ok.ensures.ok in
          IfOk-weaker c.new.result (λ name. name ≡ c.as_str.result.now) (IsWireOf outputs p)
          (λ name e. subst (IsWireOf outputs p) (sym (e ∙ text)) (port_found outputs p w.in-Ok.port c.binary_search.result c.requires.order found w.in-Ok.is)) c.new.ensures
      | in-Err+in_ok-wire-in-Err w ↦
          let text : c.as_str.result.now ≡ value_name p = c.as_str.ensures.value ∙ ap string_bytes w.wire-is ∙ w.in_ok-wire-in-Err.ensures.ok in
          IfOk-weaker c.new.result (λ name. name ≡ c.as_str.result.now) (IsWireOf outputs p)
          (λ name e. subst (IsWireOf outputs p) (sym (e ∙ text)) (no_port outputs p w.in-Err.field-0 c.binary_search.result c.requires.order found w.in-Err.is)) c.new.ensures
    ]
