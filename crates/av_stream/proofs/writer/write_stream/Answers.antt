use Rattle.std.proofs.Common.{◌≡◌, ℕ, List, ◌++◌, ap, append_assoc, Result, Ok, Err, OnOk}
use Rattle.std.specs.List.{flat_map}
use Rattle.av_base.proofs.Moves.{on_err}
use Rattle.av_net.specs.Texts.{listing_text}
use Rattle.av_net.specs.PlanTexts.{second_version_line, kind_text, top_text}
use Rattle.av_page.specs.Pages.{Draft}
use Rattle.av_page.proofs.Putting.{Puts-is, Puts-more, Puts-then_sent, whole, front}
use Rattle.av_stream.specs.StreamTexts.{period_line}
use Rattle.av_stream.proofs.writer.write_stream.Goals as goal

chain : (a b c d : List ℕ) → a ++ (b ++ c ++ d) ≡ a ++ b ++ c ++ d
chain a b c d = simp append_assoc

pub returns-clause-front : goal.returns-clause-front
returns-clause-front g c =
    let s = c.args.streamed.now in
    let head = Puts-more c.write_second_version.ensures c.write_period.ensures in
    let text = Puts-is (Puts-more head c.write_plan_body.ensures) (chain (second_version_line ++ period_line s.period) (listing_text s.plan.listing) (flat_map kind_text s.plan.kinds) (top_text s.plan)) in
    on_err c.finish.result (front (Puts-then_sent text c.finish.ensures.put) c.new-page.ensures)

pub returns-clause-added : goal.returns-clause-added
returns-clause-added g c =
    let s = c.args.streamed.now in
    let head = Puts-more c.write_second_version.ensures c.write_period.ensures in
    let text = Puts-is (Puts-more head c.write_plan_body.ensures) (chain (second_version_line ++ period_line s.period) (listing_text s.plan.listing) (flat_map kind_text s.plan.kinds) (top_text s.plan)) in
    on_ok c.finish.result (λ sent. whole (Puts-then_sent text c.finish.ensures.put) c.new-page.ensures (ap (λ (page : Draft). page.waiting) sent) (ap (λ (page : Draft). page.failed) sent)) c.finish.ensures.sent
  where
    on_ok : {A E P Q : Type 0} (r : Result A E) → (P → Q) → OnOk r P → OnOk r Q
    on_ok (Ok x) f h = f h
    on_ok (Err e) f h = tt
