-- What it comes to when texts are put on a page before a sink.
use Rattle.std.specs.Prelude.{◌≡◌, ◌⊎◌, ℕ, ◌≤◌, Bool, true, false, List, [], ◌++◌}
use Rattle.av_base.specs.Outside.{SinkState, Adds, HasRisen}

-- A page as it is seen: the bytes that wait for the sink, and whether the sink failed before. From then on
-- what is put on the page is dropped.
pub record Draft : Type 0 where
  pub waiting : List ℕ
  pub failed : Bool

-- A text was put on a page: the sink got a front of what waited and of the text, and the rest waits. Or the
-- sink failed, and the rest is lost.
pub record Puts (sink sink' : SinkState) (old new : Draft) (text : List ℕ) : Type 0 where
  pub sent : List ℕ
  pub added : Adds sink.held sink'.held sent
  pub rest : List ℕ
  pub split : old.failed ≡ false → sent ++ rest ≡ old.waiting ++ text
  pub waits : new.failed ≡ false → new.waiting ≡ rest
  pub stopped : old.failed ≡ true → (sent ≡ []) × (new.failed ≡ true)
  pub cause : new.failed ≡ true → (old.failed ≡ true) ⊎ HasRisen sink.faults sink'.faults
  pub later : sink.faults ≤ sink'.faults
