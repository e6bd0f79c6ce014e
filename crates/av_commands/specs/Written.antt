-- What it comes to when a command puts a text into a sink.
use Rattle.std.specs.Prelude.{◌≡◌, ◌⊎◌, ℕ, List}
use Rattle.av_base.specs.Outside.{SinkState, Adds, AddsPrefix, HasRisen}
use Rattle.av_commands.specs.declared.status.Status.{Status}
use Rattle.av_commands.specs.declared.status.Status.TheVariants.{Done, Refused, WriteFault, Memory}
use Rattle.av_commands.specs.Refusals.{refusal_line}

-- the text was added and the status is the one wanted, or the sink failed and a prefix of the text was added
pub record IsPut (sink sink' : SinkState) (out : List ℕ) (wanted status : Status) : Type 0 where
  pub ends : ((status ≡ wanted) × Adds sink.held sink'.held out) ⊎ ((status ≡ WriteFault) × HasRisen sink.faults sink'.faults × AddsPrefix sink.held sink'.held out)

-- a refusal or an output was put, or memory ran out and nothing was added
pub data IsAnswered (Refuses Gives : List ℕ → Type 0) (sink sink' : SinkState) (status : Status) : Type 0 where
  refused : {reason : List ℕ} → Refuses reason → IsPut sink sink' (refusal_line reason) Refused status → IsAnswered Refuses Gives sink sink' status
  given : {out : List ℕ} → Gives out → IsPut sink sink' out Done status → IsAnswered Refuses Gives sink sink' status
  no_memory : status ≡ Memory → sink'.held ≡ sink.held → IsAnswered Refuses Gives sink sink' status

-- one of these outputs was put, or memory ran out and nothing was added
pub data PutsOneOf (Gives : List ℕ → Type 0) (sink sink' : SinkState) (status : Status) : Type 0 where
  puts : {out : List ℕ} → Gives out → IsPut sink sink' out Done status → PutsOneOf Gives sink sink' status
  nothing_put : status ≡ Memory → sink'.held ≡ sink.held → PutsOneOf Gives sink sink' status
