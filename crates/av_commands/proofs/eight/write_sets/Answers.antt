use Rattle.std.proofs.Common.{◌≡◌, ◌∙◌, ℕ, List, length, map, ap, subst, arith}
use Rattle.std.proofs.lemmas.List.{length-map}
use Rattle.av_base.specs.declared.word.Word.{Word}
use Rattle.av_base.specs.Outside.{Adds, AddsPrefix}
use Rattle.av_base.proofs.Lists.{all_at, get_mapped, take_whole}
use Rattle.av_base.proofs.Moves.{on_err}
use Rattle.av_flat.specs.Trees.{view_system}
use Rattle.av_commands.specs.Eights.{set_lines}
use Rattle.av_commands.specs.Runs.{results}
use Rattle.av_commands.specs.inner.Eighting.{result_texts}
use Rattle.av_commands.specs.inner.Reported.{names_output}
use Rattle.av_commands.specs.inner.Watching.{bits_of}
use Rattle.av_commands.proofs.Fed.{at_index}
use Rattle.av_commands.proofs.SetTexts.{set_told, line_failed, out_failed}
use Rattle.av_commands.proofs.eight.write_sets.Goals as goal

pub write_results-requires : goal.write_results-requires
write_results-requires g c =
    let columns = c.args.columns.now in
    let k = c.loop-k.k in
    let words = c.index-columns-k.result in
    ap length c.as_slice.ensures ∙ all_at (λ (ws : List Word). length ws ≡ length c.args.lines.now) columns k words c.requires (at_index columns k words c.loop-k-test.true c.index-columns-k.is)

pub returns-in_err-write_set_line-clause-front : goal.returns-in_err-write_set_line-clause-front
returns-in_err-write_set_line-clause-front g c =
    let S = g.K.Sink.state in
    let columns = c.args.columns.now in
    let k = c.loop-k.k in
    let words = c.index-columns-k.result in
    let text : List Word → List ℕ = λ (ws : List Word). results (λ line. names_output (view_system c.args.flat.now) line.variable) c.args.lines.now (bits_of ws) in
    on_err c.from_residual.result
    (line_failed k (map text columns) (text words) (get_mapped text columns k words (at_index columns k words c.loop-k-test.true c.index-columns-k.is)) (S c.args.sink.now).held (S c.loop-k.sink).held c.loop-k.invariant.0
    (S c.write_set_line.new.sink).held c.in_err-write_set_line.ensures.front)

pub returns-in_err-write_results-clause-front : goal.returns-in_err-write_results-clause-front
returns-in_err-write_results-clause-front g c =
    let S = g.K.Sink.state in
    let columns = c.args.columns.now in
    let k = c.loop-k.k in
    let words = c.index-columns-k.result in
    let text : List Word → List ℕ = λ (ws : List Word). results (λ line. names_output (view_system c.args.flat.now) line.variable) c.args.lines.now (bits_of ws) in
    on_err c.from_residual-in_err-write_results.result
    (out_failed k (map text columns) (text words) (get_mapped text columns k words (at_index columns k words c.loop-k-test.true c.index-columns-k.is)) (S c.args.sink.now).held (S c.loop-k.sink).held c.loop-k.invariant.0
    (S c.write_set_line.new.sink).held (S c.write_results.new.sink).held c.in_ok-write_set_line.ensures.added
    (subst (λ (ws : List Word). AddsPrefix (S c.write_set_line.new.sink).held (S c.write_results.new.sink).held (text ws)) c.as_slice.ensures c.in_err-write_results.ensures.front))

pub loop-k-preserved : goal.loop-k-preserved
loop-k-preserved g c =
    let S = g.K.Sink.state in
    let columns = c.args.columns.now in
    let k = c.loop-k.k in
    let words = c.index-columns-k.result in
    let text : List Word → List ℕ = λ (ws : List Word). results (λ line. names_output (view_system c.args.flat.now) line.variable) c.args.lines.now (bits_of ws) in (
      set_told k (map text columns) (text words) (get_mapped text columns k words (at_index columns k words c.loop-k-test.true c.index-columns-k.is)) (S c.args.sink.now).held (S c.loop-k.sink).held c.loop-k.invariant.0
          (S c.write_set_line.new.sink).held (S c.write_results.new.sink).held c.in_ok-write_set_line.ensures.added
          (subst (λ (ws : List Word). Adds (S c.write_set_line.new.sink).held (S c.write_results.new.sink).held (text ws)) c.as_slice.ensures c.in_ok-write_results.ensures.added),
      (let first = c.loop-k.invariant.1 in let line = c.write_set_line.ensures.later in let later = c.write_results.ensures.later in omega (arith, first, line, later)),
    )

pub returns-clause-added : goal.returns-clause-added
returns-clause-added g c =
    let S = g.K.Sink.state in
    let texts = result_texts (view_system c.args.flat.now) c.args.lines.now c.args.columns.now in
    let many = length-map c.args.columns.now (λ (ws : List Word). results (λ line. names_output (view_system c.args.flat.now) line.variable) c.args.lines.now (bits_of ws)) in
    let test = c.loop-k-test.false in
    subst (λ (outs : List (List ℕ)). Adds (S c.args.sink.now).held (S c.loop-k.sink).held (set_lines 1 outs)) (take_whole texts c.loop-k.k (omega (arith, many, test))) c.loop-k.invariant.0
