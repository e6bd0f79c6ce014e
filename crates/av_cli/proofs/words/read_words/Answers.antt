use Rattle.std.proofs.Common.{◌≡◌, ◌∷◌, ◌∙◌, drop, ap, refl, sym}
use Rattle.std.specs.Prelude.{codes}
use Rattle.av_commands.proofs.GivenSizes.{at_words}
use Rattle.av_cli.proofs.GivenSizes.{check_read, asked, schedule_is_no_size, table_is_no_size, emit_is_no_size, run_is_no_size, trace_is_no_size, best_is_no_size, stream_is_no_size, wave_is_no_size, run8_is_no_size}
use Rattle.av_cli.proofs.words.read_words.Goals as goal

pub returns-in_ok-read_width-in-check-clause-read : goal.returns-in_ok-read_width-in-check-clause-read
returns-in_ok-read_width-in-check-clause-read c =
    let words = c.args.words.now in
    let item = c.in_ok-first.ensures.item in
    let first : words ≡ c.in_ok-first.first.now ∷ drop 1 words = at_words words 0 1 c.in_ok-first.first.now item.3.0 refl item.1 in
    check_read words c.in_ok-read_width-in-check.field-0.bits (drop 1 words) (first ∙ ap (λ w. w ∷ drop 1 words) (sym c.as_str.ensures ∙ c.in-check.is)) c.in_ok-read_width-in-check.ensures.read

pub returns-in_ok-width-in-schedule-clause-read : goal.returns-in_ok-width-in-schedule-clause-read
returns-in_ok-width-in-schedule-clause-read c =
    let words = c.args.words.now in
    let item = c.in_ok-first.ensures.item in
    let first : words ≡ c.in_ok-first.first.now ∷ drop 1 words = at_words words 0 1 c.in_ok-first.first.now item.3.0 refl item.1 in
    let said = c.in_ok-width-in-schedule in
    asked (codes "schedule") words said.width.bits said.reach.size (drop 1 words) schedule_is_no_size (first ∙ ap (λ w. w ∷ drop 1 words) (sym c.as_str.ensures ∙ c.in-schedule.is)) said.ensures.read

pub returns-in_ok-width-in-table-clause-read : goal.returns-in_ok-width-in-table-clause-read
returns-in_ok-width-in-table-clause-read c =
    let words = c.args.words.now in
    let item = c.in_ok-first.ensures.item in
    let first : words ≡ c.in_ok-first.first.now ∷ drop 1 words = at_words words 0 1 c.in_ok-first.first.now item.3.0 refl item.1 in
    let said = c.in_ok-width-in-table in
    asked (codes "table") words said.width.bits said.reach.size (drop 1 words) table_is_no_size (first ∙ ap (λ w. w ∷ drop 1 words) (sym c.as_str.ensures ∙ c.in-table.is)) said.ensures.read

pub returns-in_ok-width-in-emit-clause-read : goal.returns-in_ok-width-in-emit-clause-read
returns-in_ok-width-in-emit-clause-read c =
    let words = c.args.words.now in
    let item = c.in_ok-first.ensures.item in
    let first : words ≡ c.in_ok-first.first.now ∷ drop 1 words = at_words words 0 1 c.in_ok-first.first.now item.3.0 refl item.1 in
    let said = c.in_ok-width-in-emit in
    asked (codes "emit") words said.width.bits said.reach.size (drop 1 words) emit_is_no_size (first ∙ ap (λ w. w ∷ drop 1 words) (sym c.as_str.ensures ∙ c.in-emit.is)) said.ensures.read

pub returns-in_ok-width-in-run-clause-read : goal.returns-in_ok-width-in-run-clause-read
returns-in_ok-width-in-run-clause-read c =
    let words = c.args.words.now in
    let item = c.in_ok-first.ensures.item in
    let first : words ≡ c.in_ok-first.first.now ∷ drop 1 words = at_words words 0 1 c.in_ok-first.first.now item.3.0 refl item.1 in
    let said = c.in_ok-width-in-run in
    asked (codes "run") words said.width.bits said.reach.size (drop 1 words) run_is_no_size (first ∙ ap (λ w. w ∷ drop 1 words) (sym c.as_str.ensures ∙ c.in-run.is)) said.ensures.read

pub returns-in_ok-width-in-trace-clause-read : goal.returns-in_ok-width-in-trace-clause-read
returns-in_ok-width-in-trace-clause-read c =
    let words = c.args.words.now in
    let item = c.in_ok-first.ensures.item in
    let first : words ≡ c.in_ok-first.first.now ∷ drop 1 words = at_words words 0 1 c.in_ok-first.first.now item.3.0 refl item.1 in
    let said = c.in_ok-width-in-trace in
    asked (codes "trace") words said.width.bits said.reach.size (drop 1 words) trace_is_no_size (first ∙ ap (λ w. w ∷ drop 1 words) (sym c.as_str.ensures ∙ c.in-trace.is)) said.ensures.read

pub returns-in_ok-width-in-best-clause-read : goal.returns-in_ok-width-in-best-clause-read
returns-in_ok-width-in-best-clause-read c =
    let words = c.args.words.now in
    let item = c.in_ok-first.ensures.item in
    let first : words ≡ c.in_ok-first.first.now ∷ drop 1 words = at_words words 0 1 c.in_ok-first.first.now item.3.0 refl item.1 in
    let said = c.in_ok-width-in-best in
    asked (codes "best") words said.width.bits said.reach.size (drop 1 words) best_is_no_size (first ∙ ap (λ w. w ∷ drop 1 words) (sym c.as_str.ensures ∙ c.in-best.is)) said.ensures.read

pub returns-in_ok-width-in-stream-clause-read : goal.returns-in_ok-width-in-stream-clause-read
returns-in_ok-width-in-stream-clause-read c =
    let words = c.args.words.now in
    let item = c.in_ok-first.ensures.item in
    let first : words ≡ c.in_ok-first.first.now ∷ drop 1 words = at_words words 0 1 c.in_ok-first.first.now item.3.0 refl item.1 in
    let said = c.in_ok-width-in-stream in
    asked (codes "stream") words said.width.bits said.reach.size (drop 1 words) stream_is_no_size (first ∙ ap (λ w. w ∷ drop 1 words) (sym c.as_str.ensures ∙ c.in-stream.is)) said.ensures.read

pub returns-in_ok-width-in-wave-clause-read : goal.returns-in_ok-width-in-wave-clause-read
returns-in_ok-width-in-wave-clause-read c =
    let words = c.args.words.now in
    let item = c.in_ok-first.ensures.item in
    let first : words ≡ c.in_ok-first.first.now ∷ drop 1 words = at_words words 0 1 c.in_ok-first.first.now item.3.0 refl item.1 in
    let said = c.in_ok-width-in-wave in
    asked (codes "wave") words said.width.bits said.reach.size (drop 1 words) wave_is_no_size (first ∙ ap (λ w. w ∷ drop 1 words) (sym c.as_str.ensures ∙ c.in-wave.is)) said.ensures.read

pub returns-in_ok-width-in-run8-clause-read : goal.returns-in_ok-width-in-run8-clause-read
returns-in_ok-width-in-run8-clause-read c =
    let words = c.args.words.now in
    let item = c.in_ok-first.ensures.item in
    let first : words ≡ c.in_ok-first.first.now ∷ drop 1 words = at_words words 0 1 c.in_ok-first.first.now item.3.0 refl item.1 in
    let said = c.in_ok-width-in-run8 in
    asked (codes "run8") words said.width.bits said.reach.size (drop 1 words) run8_is_no_size (first ∙ ap (λ w. w ∷ drop 1 words) (sym c.as_str.ensures ∙ c.in-run8.is)) said.ensures.read
