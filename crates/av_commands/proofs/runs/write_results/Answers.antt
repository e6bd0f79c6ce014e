use Rattle.std.proofs.Common.{◌≡◌, ◌<◌, ◌≤◌, ◌+◌, ◌∙◌, Bool, length, get_or, sym, subst, arith}
use Rattle.std.proofs.lemmas.List.{length-map}
use Rattle.av_base.specs.declared.word.Word.{Word}
use Rattle.av_base.specs.Outside.{Adds}
use Rattle.av_base.proofs.Moves.{on_err}
use Rattle.av_net.specs.declared.design.Entry.{Entry}
use Rattle.av_flat.specs.Trees.{view_system}
use Rattle.av_commands.specs.inner.Reported.{names_output}
use Rattle.av_commands.specs.inner.Watching.{bits_of}
use Rattle.av_commands.proofs.ResultLines.{first_results, line_told, line_passed, line_failed, word_at}
use Rattle.av_commands.proofs.runs.write_results.Goals as goal
use Rattle.av_commands.proofs.runs.write_results.Goals.{then-names_output+in_ok-write_result, else-names_output}

pub returns-in_err-write_result-clause-front : goal.returns-in_err-write_result-clause-front
returns-in_err-write_result-clause-front g c =
    let S = g.K.Sink.state in
    let lines = c.args.lines.now in
    let words = c.args.words.now in
    let k = c.loop-k.k in
    let line = c.index-lines-k.result in
    let lt : k < length words = omega (arith, c.loop-k-test.true, c.requires) in
    on_err c.from_residual.result
    (line_failed (λ (l : Entry). names_output (view_system c.args.flat.now) l.variable) k lines (bits_of words) line _ c.loop-k-test.true (length-map words (λ (w : Word). w.bits) ∙ c.requires) c.index-lines-k.is (word_at words k _ lt)
    (S c.args.sink.now).held (S c.loop-k.sink).held (S c.write_result.new.sink).held c.loop-k.invariant.0 (sym c.names_output.ensures ∙ c.if-names_output.true) (rw c.as_str.ensures at c.in_err-write_result.ensures.front))

pub loop-k-preserved : goal.loop-k-preserved
loop-k-preserved g c =
    let S = g.K.Sink.state in
    let is : Entry → Bool = λ l. names_output (view_system c.args.flat.now) l.variable in
    let lines = c.args.lines.now in
    let words = c.args.words.now in
    let k = c.loop-k.k in
    let line = c.index-lines-k.result in
    let long : length (bits_of words) ≡ length lines = length-map words (λ (w : Word). w.bits) ∙ c.requires in
    let lt : k < length words = omega (arith, c.loop-k-test.true, c.requires) in
    let before = c.loop-k.invariant in
    elim c.if-names_output.branch [
      | then-names_output+in_ok-write_result b ↦ (
        subst (λ x. Adds (S c.args.sink.now).held (S x).held (first_results is (k + 1) lines (bits_of words))) (sym b.sink-is)
            (line_told is k lines (bits_of words) line _ c.loop-k-test.true long c.index-lines-k.is (word_at words k _ lt) (S c.args.sink.now).held (S c.loop-k.sink).held (S b.write_result.new.sink).held before.0
            (sym c.names_output.ensures ∙ b.if-names_output.true) (rw b.as_str.ensures at b.in_ok-write_result.ensures.added)),
        subst (λ x. (S c.args.sink.now).faults ≤ (S x).faults) (sym b.sink-is) (let later = b.in_ok-write_result.ensures.later in let first = before.1 in omega (arith, first, later)),
      )
      | else-names_output b ↦ (
        subst (λ x. Adds (S c.args.sink.now).held (S x).held (first_results is (k + 1) lines (bits_of words))) (sym b.sink-is)
            (line_passed is k lines (bits_of words) line ((get_or words k (record { bits = 0 })).bits) c.loop-k-test.true long c.index-lines-k.is (word_at words k (record { bits = 0 }) lt) (S c.args.sink.now).held (S c.loop-k.sink).held (S c.loop-k.sink).held before.0
            (sym c.names_output.ensures ∙ b.if-names_output.false)),
        subst (λ x. (S c.args.sink.now).faults ≤ (S x).faults) (sym b.sink-is) before.1,
      )
    ]
