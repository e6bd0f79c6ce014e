-- A text that was sent whole.
use Rattle.std.proofs.Common.{◌≡◌, ℕ, false, List, [], ap}
use Rattle.std.specs.Prelude.{Result, Ok, Err, OnOk}
use Rattle.av_base.specs.Outside.{SinkState, Adds}
use Rattle.av_page.specs.Pages.{Draft, Puts}
use Rattle.av_page.proofs.Putting.{whole}

pub on_ok_added : {T E : Type 0} (r : Result T E) {s s' : SinkState} {a b : Draft} {t : List ℕ} → Puts s s' a b t → a ≡ record { waiting = []; failed = false }
    → OnOk r (b ≡ record { waiting = []; failed = false }) → OnOk r (Adds s.held s'.held t)
on_ok_added (Ok x) p start sent = whole p start (ap (λ (d : Draft). d.waiting) sent) (ap (λ (d : Draft). d.failed) sent)
on_ok_added (Err e) p start sent = tt
