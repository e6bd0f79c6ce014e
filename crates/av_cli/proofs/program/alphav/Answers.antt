use Rattle.std.proofs.Common.{◌≡◌, ℕ, List, Option, Err, true, false, ap, refl, sym, inr}
use Rattle.av_cli.specs.Commands.{AreRead, TakeInput}
use Rattle.av_cli.specs.declared.words.Command.{Command}
use Rattle.av_cli.specs.inner.CommandsSeen.{Are, takes_input}
use Rattle.av_cli.specs.Program.{IsComplete}
use Rattle.av_commands.specs.declared.status.Status.{Status}
use Rattle.av_commands.specs.declared.status.Status.TheVariants.{Refused, Words}
use Rattle.av_cli.proofs.Answered.{input_of, read_of, whole, front, as_wanted, too_long_left, writes_too_long, complete_refused, complete_memory, answered_refused, answered_done, answered_fault, answered_complete, demo_refused, demo_done, demo_fault, demo_complete}
use Rattle.av_cli.proofs.program.alphav.Goals as goal

-- ---- no command

complete_words : (words : List (List ℕ)) (left : Option (List ℕ)) (status : Status) → (AreRead words → ⊥) → status ≡ Words → IsComplete words left status
complete_words words left status none is = record {
  unread = λ _. is;
  refused = λ read. absurd (none read);
  done = λ read. absurd (none read);
  demo = λ demo. absurd (none (inr demo));
}

pub returns-in_default-clause-complete : goal.returns-in_default-clause-complete
returns-in_default-clause-complete g c = λ _ no_fault. complete_words _ _ _ c.in_default.ensures.unread (as_wanted c.put.ensures no_fault)

-- ---- a source is read

-- only words that take an input are answered from one
taking : (command : Command) (words : List (List ℕ)) (X : Type 0) → Are command words → takes_input command ≡ true → (TakeInput words → ⊥) → X
taking command words X are takes none = absurd (none (input_of command words are takes))

pub returns-in-Err-ReadFault-clause-untouched : goal.returns-in-Err-ReadFault-clause-untouched
returns-in-Err-ReadFault-clause-untouched g c = taking c.in-Some.command _ _ c.in-Some.ensures.read (sym c.if-not-takes_input.ensures)

pub returns-in-Err-Memory-clause-untouched : goal.returns-in-Err-Memory-clause-untouched
returns-in-Err-Memory-clause-untouched g c = taking c.in-Some.command _ _ c.in-Some.ensures.read (sym c.if-not-takes_input.ensures)

pub returns-in-Err-TooLong-clause-untouched : goal.returns-in-Err-TooLong-clause-untouched
returns-in-Err-TooLong-clause-untouched g c = taking c.in-Some.command _ _ c.in-Some.ensures.read (sym c.if-not-takes_input.ensures)

pub returns-in-Ok-clause-untouched : goal.returns-in-Ok-clause-untouched
returns-in-Ok-clause-untouched g c = taking c.in-Some.command _ _ c.in-Some.ensures.read (sym c.if-not-takes_input.ensures)

-- ---- no source is read

pub returns-then-not-takes_input-clause-refused : goal.returns-then-not-takes_input-clause-refused
returns-then-not-takes_input-clause-refused g c =
    let t : takes_input c.in-Some.command ≡ false = sym c.if-not-takes_input.ensures in
    demo_refused c.in-Some.command _ _ _ c.in-Some.ensures.read t c.answer.ensures

pub returns-then-not-takes_input-clause-done : goal.returns-then-not-takes_input-clause-done
returns-then-not-takes_input-clause-done g c =
    let t : takes_input c.in-Some.command ≡ false = sym c.if-not-takes_input.ensures in
    demo_done c.in-Some.command _ _ _ c.in-Some.ensures.read t c.answer.ensures

pub returns-then-not-takes_input-clause-write_fault : goal.returns-then-not-takes_input-clause-write_fault
returns-then-not-takes_input-clause-write_fault g c =
    let t : takes_input c.in-Some.command ≡ false = sym c.if-not-takes_input.ensures in
    demo_fault c.in-Some.command _ _ _ c.in-Some.ensures.read t c.answer.ensures

pub returns-then-not-takes_input-clause-complete : goal.returns-then-not-takes_input-clause-complete
returns-then-not-takes_input-clause-complete g c =
    λ _ no_fault.
    let t : takes_input c.in-Some.command ≡ false = sym c.if-not-takes_input.ensures in
    demo_complete c.in-Some.command _ _ _ c.in-Some.ensures.read t c.answer.ensures no_fault

-- ---- too long

pub returns-in-Err-TooLong-clause-refused : goal.returns-in-Err-TooLong-clause-refused
returns-in-Err-TooLong-clause-refused g c =
    let more = c.in-Err-TooLong.ensures.too_long (ap Err c.in-Err-TooLong.field-0-is) in
    let t : takes_input c.in-Some.command ≡ true = sym c.if-not-takes_input.ensures in
    whole Refused _ _ _ (writes_too_long _ _ _ (input_of c.in-Some.command _ c.in-Some.ensures.read t) more) c.put-in-Err-TooLong.ensures (λ e. cc)

pub returns-in-Err-TooLong-clause-write_fault : goal.returns-in-Err-TooLong-clause-write_fault
returns-in-Err-TooLong-clause-write_fault g c =
    let more = c.in-Err-TooLong.ensures.too_long (ap Err c.in-Err-TooLong.field-0-is) in
    let t : takes_input c.in-Some.command ≡ true = sym c.if-not-takes_input.ensures in
    front Refused _ _ _ (writes_too_long _ _ _ (input_of c.in-Some.command _ c.in-Some.ensures.read t) more) c.put-in-Err-TooLong.ensures (λ e. cc)

pub returns-in-Err-TooLong-clause-complete : goal.returns-in-Err-TooLong-clause-complete
returns-in-Err-TooLong-clause-complete g c =
    λ _ no_fault.
    let more = c.in-Err-TooLong.ensures.too_long (ap Err c.in-Err-TooLong.field-0-is) in
    let t : takes_input c.in-Some.command ≡ true = sym c.if-not-takes_input.ensures in
    let input = input_of c.in-Some.command _ c.in-Some.ensures.read t in
    complete_refused _ _ _ input (too_long_left _ _ _ input more) (as_wanted c.put-in-Err-TooLong.ensures no_fault)

-- ---- an answer to all bytes

pub returns-in-Ok-clause-refused : goal.returns-in-Ok-clause-refused
returns-in-Ok-clause-refused g c =
    let answered = rw c.as_slice.ensures at c.answer-in-Ok.ensures in
    answered_refused c.in-Some.command _ _ _ _ c.in-Some.ensures.read (sym c.if-not-takes_input.ensures) c.in-Ok.ensures.bytes c.in-Ok.ensures.end c.in-Ok.ensures.within answered

pub returns-in-Ok-clause-done : goal.returns-in-Ok-clause-done
returns-in-Ok-clause-done g c =
    let answered = rw c.as_slice.ensures at c.answer-in-Ok.ensures in
    answered_done c.in-Some.command _ _ _ _ c.in-Some.ensures.read (sym c.if-not-takes_input.ensures) c.in-Ok.ensures.bytes c.in-Ok.ensures.end c.in-Ok.ensures.within answered

pub returns-in-Ok-clause-write_fault : goal.returns-in-Ok-clause-write_fault
returns-in-Ok-clause-write_fault g c =
    let answered = rw c.as_slice.ensures at c.answer-in-Ok.ensures in
    answered_fault c.in-Some.command _ _ _ _ c.in-Some.ensures.read (sym c.if-not-takes_input.ensures) c.in-Ok.ensures.bytes c.in-Ok.ensures.end c.in-Ok.ensures.within answered

pub returns-in-Ok-clause-complete : goal.returns-in-Ok-clause-complete
returns-in-Ok-clause-complete g c =
    λ _ no_fault.
    let answered = rw c.as_slice.ensures at c.answer-in-Ok.ensures in
    answered_complete c.in-Some.command _ _ _ _ c.in-Some.ensures.read (sym c.if-not-takes_input.ensures) c.in-Ok.ensures.bytes c.in-Ok.ensures.end c.in-Ok.ensures.within answered no_fault

-- ---- no memory for the bytes

pub returns-in-Err-Memory-clause-complete : goal.returns-in-Err-Memory-clause-complete
returns-in-Err-Memory-clause-complete g c = λ _ _. complete_memory _ _ _ (read_of c.in-Some.command _ c.in-Some.ensures.read) refl
