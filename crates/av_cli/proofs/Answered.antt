-- How the program's clauses follow from what its steps did.
use Rattle.std.proofs.Common.{◌≡◌, ◌≢◌, ℕ, ◌<◌, ◌≤◌, true, false, List, ◌∷◌, ◌++◌, length, length-append, codes, Option, Some, None, refl, sym, ◌∙◌, ap, subst, inl, inr, arith, true≢false}
use Rattle.std.specs.Prelude.{IfSome, slice_index_or}
use Rattle.std.proofs.lemmas.List.{append-nil}
use Rattle.av_base.specs.Outside.{SinkState, Takes, TakesMore, IsAtEnd, HasRisen}
use Rattle.av_names.specs.declared.size.Size.{Size}
use Rattle.av_commands.specs.declared.status.Status.{Status}
use Rattle.av_commands.specs.declared.status.Status.TheVariants.{Done, Refused, Words, ReadFault, WriteFault, Memory}
use Rattle.av_cli.specs.declared.words.Command.{Command}
use Rattle.av_cli.specs.declared.words.Command.TheVariants.{Check, Schedule, Table, Emit, Run, Trace, Best, Stream, Wave, Run8, Sim, Unwave, Demo}
use Rattle.av_cli.specs.Commands.{Asks, IsCheck, IsSchedule, IsTable, IsEmit, IsRun, IsTrace, IsBest, IsStream, AsksWave, IsRun8, IsSim, IsUnwave, IsDemo, TakeInput, AskDemo, AreRead}
use Rattle.av_commands.specs.WithWords.{GivesMapped}
use Rattle.av_cli.specs.inner.CommandsSeen.{Are, takes_input}
use Rattle.av_commands.specs.Refusals.{refusal_line}
use Rattle.av_commands.specs.Sims.{RefusesSim, GivesSim}
use Rattle.av_cli.specs.inner.Asked.{Refuses, Gives}
use Rattle.av_cli.specs.Program.{Writes, WritesRefusal, IsRefused, HasRefusal, AddsWhole, AddsFront, IsComplete}
use Rattle.av_commands.specs.Written.{IsPut, IsAnswered, refused, given, no_memory}
use Rattle.av_commands.specs.Checks.{RefusesCheck, GivesCheck}
use Rattle.av_commands.specs.Schedules.{RefusesSchedule, GivesSchedule}
use Rattle.av_commands.specs.Tables.{RefusesTable, GivesTable}
use Rattle.av_commands.specs.Runs.{RefusesRun, GivesResults, GivesTrace}
use Rattle.av_commands.specs.Bests.{RefusesBest, GivesBest}
use Rattle.av_commands.specs.Streams.{RefusesStream, GivesStream}
use Rattle.av_commands.specs.Eights.{RefusesEight, GivesEight}
use Rattle.av_commands.specs.Waves.{GivesDump, RefusesUnwave, GivesUnwave}
use Rattle.av_commands.proofs.Checking.{exclusive_check}
use Rattle.av_commands.proofs.Scheduling.{exclusive_schedule}
use Rattle.av_commands.proofs.Tabling.{exclusive_table}
use Rattle.av_commands.proofs.Emitting.{exclusive_emit}
use Rattle.av_commands.proofs.Reporting.{exclusive_run}
use Rattle.av_commands.proofs.LeastSchedules.{exclusive_best}
use Rattle.av_commands.proofs.EightAnswers.{exclusive_eight}
use Rattle.av_commands.proofs.StreamAnswers.{exclusive_stream}
use Rattle.av_cli.proofs.GivenSizes.{one_asked}
use Rattle.av_commands.proofs.Simulating.{exclusive_sim}
use Rattle.av_commands.proofs.Unwaving.{exclusive_unwave}

pub input_of : (command : Command) (words : List (List ℕ)) → Are command words → takes_input command ≡ true → TakeInput words
input_of (Check width) words (sizes, are) t = inr (inr (inl (width.bits, sizes, are)))
input_of (Schedule width reach) words (sizes, are) t = inr (inr (inr (inl (width.bits, reach.size, sizes, are))))
input_of (Table width reach) words (sizes, are) t = inr (inr (inr (inr (inl (width.bits, reach.size, sizes, are)))))
input_of (Run width reach) words (sizes, are) t = inr (inr (inr (inr (inr (inl (width.bits, reach.size, sizes, are))))))
input_of (Trace width reach) words (sizes, are) t = inr (inr (inr (inr (inr (inr (inl (width.bits, reach.size, sizes, are)))))))
input_of (Best width reach) words (sizes, are) t = inr (inr (inr (inr (inr (inr (inr (inl (width.bits, reach.size, sizes, are))))))))
input_of (Stream width reach) words (sizes, are) t = inr (inr (inr (inr (inr (inr (inr (inr (inl (width.bits, reach.size, sizes, are)))))))))
input_of (Wave width reach) words (sizes, are) t = inr (inr (inr (inr (inr (inr (inr (inr (inr (inl (width.bits, reach.size, sizes, are))))))))))
input_of (Run8 width reach) words (sizes, are) t = inr (inr (inr (inr (inr (inr (inr (inr (inr (inr (inl (width.bits, reach.size, sizes, are)))))))))))
input_of Unwave words are t = inr (inr (inr (inr (inr (inr (inr (inr (inr (inr (inr are))))))))))
input_of (Emit width reach) words (sizes, are) t = inl (width.bits, reach.size, sizes, are)
input_of Sim words are t = inr (inl are)
input_of (Demo width reach k) words are t = absurd (true≢false (sym t))

pub read_of : (command : Command) (words : List (List ℕ)) → Are command words → AreRead words
read_of (Check width) words are = inl (input_of (Check width) words are refl)
read_of (Schedule width reach) words are = inl (input_of (Schedule width reach) words are refl)
read_of (Table width reach) words are = inl (input_of (Table width reach) words are refl)
read_of (Run width reach) words are = inl (input_of (Run width reach) words are refl)
read_of (Trace width reach) words are = inl (input_of (Trace width reach) words are refl)
read_of (Best width reach) words are = inl (input_of (Best width reach) words are refl)
read_of (Stream width reach) words are = inl (input_of (Stream width reach) words are refl)
read_of (Emit width reach) words are = inl (input_of (Emit width reach) words are refl)
read_of (Wave width reach) words are = inl (input_of (Wave width reach) words are refl)
read_of (Run8 width reach) words are = inl (input_of (Run8 width reach) words are refl)
read_of Sim words are = inl (input_of Sim words are refl)
read_of Unwave words are = inl (input_of Unwave words are refl)
read_of (Demo width reach k) words are = inr (width.bits, reach.size, k, are)

refusal_of : (command : Command) (words : List (List ℕ)) (bytes reason : List ℕ) → Are command words → length bytes ≤ 1048576 → Refuses command words bytes reason → IsRefused words bytes reason
refusal_of (Check width) words bytes reason are within (sizes, is, r) = inr (inr (inr (inl (within, (width.bits, sizes, is, r)))))
refusal_of (Schedule width reach) words bytes reason are within (sizes, is, r) = inr (inr (inr (inr (inl (within, (width.bits, reach.size, sizes, is, r))))))
refusal_of (Table width reach) words bytes reason are within (sizes, is, r) = inr (inr (inr (inr (inr (inl (within, (width.bits, reach.size, sizes, is, r)))))))
refusal_of (Run width reach) words bytes reason are within (sizes, is, r) = inr (inr (inr (inr (inr (inr (inl (within, (width.bits, reach.size, sizes, is, r))))))))
refusal_of (Trace width reach) words bytes reason are within (sizes, is, r) = inr (inr (inr (inr (inr (inr (inr (inl (within, (width.bits, reach.size, sizes, is, r)))))))))
refusal_of (Best width reach) words bytes reason are within (sizes, is, r) = inr (inr (inr (inr (inr (inr (inr (inr (inl (within, (width.bits, reach.size, sizes, is, r))))))))))
refusal_of (Stream width reach) words bytes reason are within (sizes, is, r) = inr (inr (inr (inr (inr (inr (inr (inr (inr (inl (within, (width.bits, reach.size, sizes, is, r)))))))))))
refusal_of (Wave width reach) words bytes reason are within (sizes, is, r) = inr (inr (inr (inr (inr (inr (inr (inr (inr (inr (inl (within, (width.bits, reach.size, sizes, is, r))))))))))))
refusal_of (Run8 width reach) words bytes reason are within (sizes, is, r) = inr (inr (inr (inr (inr (inr (inr (inr (inr (inr (inr (inl (within, (width.bits, reach.size, sizes, is, r)))))))))))))
refusal_of Unwave words bytes reason are within r = inr (inr (inr (inr (inr (inr (inr (inr (inr (inr (inr (inr (within, are, r))))))))))))
refusal_of (Emit width reach) words bytes reason are within (sizes, is, r) = inr (inl (within, (width.bits, reach.size, sizes, is, r)))
refusal_of Sim words bytes reason are within r = inr (inr (inl (within, are, r)))
refusal_of (Demo width reach k) words bytes reason are within r = absurd r

writes_output : (command : Command) (words : List (List ℕ)) (left left' : Option (List ℕ)) (bytes out : List ℕ) → Are command words → takes_input command ≡ true → Takes left left' bytes → IsAtEnd left' → length bytes ≤ 1048576
    → Gives command words bytes out → Writes Done words left left' out
writes_output (Check w) words left left' bytes out are t takes end within (sizes, is, g) =
    inr (inr (inl (record { bits = w.bits; sizes = sizes; read = is; taken = bytes; takes = takes; whole = end; within = within; gives = g })))
writes_output (Schedule w r) words left left' bytes out are t takes end within (sizes, is, g) =
    inr (inr (inr (inl (record { bits = w.bits; box = r.size; sizes = sizes; read = is; taken = bytes; takes = takes; whole = end; within = within; gives = g }))))
writes_output (Table w r) words left left' bytes out are t takes end within (sizes, is, g) =
    inr (inr (inr (inr (inl (record { bits = w.bits; box = r.size; sizes = sizes; read = is; taken = bytes; takes = takes; whole = end; within = within; gives = g })))))
writes_output (Run w r) words left left' bytes out are t takes end within (sizes, is, g) =
    inr (inr (inr (inr (inr (inl (record { bits = w.bits; box = r.size; sizes = sizes; read = is; taken = bytes; takes = takes; whole = end; within = within; gives = g }))))))
writes_output (Trace w r) words left left' bytes out are t takes end within (sizes, is, g) =
    inr (inr (inr (inr (inr (inr (inl (record { bits = w.bits; box = r.size; sizes = sizes; read = is; taken = bytes; takes = takes; whole = end; within = within; gives = g })))))))
writes_output (Best w r) words left left' bytes out are t takes end within (sizes, is, g) =
    inr (inr (inr (inr (inr (inr (inr (inl (record { bits = w.bits; box = r.size; sizes = sizes; read = is; taken = bytes; takes = takes; whole = end; within = within; gives = g }))))))))
writes_output (Stream w r) words left left' bytes out are t takes end within (sizes, is, g) =
    inr (inr (inr (inr (inr (inr (inr (inr (inl (record { bits = w.bits; box = r.size; sizes = sizes; read = is; taken = bytes; takes = takes; whole = end; within = within; gives = g })))))))))
writes_output (Emit w r) words left left' bytes out are t takes end within (sizes, is, g) =
    inl (record { bits = w.bits; box = r.size; sizes = sizes; read = is; taken = bytes; takes = takes; whole = end; within = within; gives = g.gives; mapped = g.mapped })
writes_output (Wave w r) words left left' bytes out are t takes end within (sizes, is, g) =
    inr (inr (inr (inr (inr (inr (inr (inr (inr (inl (record { bits = w.bits; box = r.size; sizes = sizes; read = is; taken = bytes; takes = takes; whole = end; within = within; gives = g }))))))))))
writes_output (Run8 w r) words left left' bytes out are t takes end within (sizes, is, g) =
    inr (inr (inr (inr (inr (inr (inr (inr (inr (inr (inl (record { bits = w.bits; box = r.size; sizes = sizes; read = is; taken = bytes; takes = takes; whole = end; within = within; gives = g })))))))))))
writes_output Unwave words left left' bytes out are t takes end within g = inr (inr (inr (inr (inr (inr (inr (inr (inr (inr (inr (inl (record { read = are; taken = bytes; takes = takes; whole = end; within = within; gives = g }))))))))))))
writes_output Sim words left left' bytes out are t takes end within g = inr (inl (record { read = are; taken = bytes; takes = takes; whole = end; within = within; gives = g }))
writes_output (Demo w r k) words left left' bytes out are t takes end within g = absurd (true≢false (sym t))

-- ---- refused or given, and not both

-- words begin with one name
abbrev Begins : List ℕ → List (List ℕ) → Type 0
Begins name words = (rest : List (List ℕ)) × (words ≡ name ∷ rest)

begins : (name : List ℕ) (words : List (List ℕ)) (bits box : ℕ) (sizes : List Size) → Asks name words bits box sizes → Begins name words
begins name words bits box sizes is = (is.rest, is.first)

begins_sim : (words : List (List ℕ)) → IsSim words → Begins (codes "sim") words
begins_sim words is = (is.rest, is.first)

begins_unwave : (words : List (List ℕ)) → IsUnwave words → Begins (codes "unwave") words
begins_unwave words is = (is.rest, is.first)

begins_demo : (words : List (List ℕ)) (bits box k : ℕ) → IsDemo words bits box k → Begins (codes "demo") words
begins_demo words bits box k is = (is.before ++ (is.word ∷ is.after), is.parts)

same_name : (a b : List ℕ) (words : List (List ℕ)) → Begins a words → Begins b words → a ≡ b
same_name a b words (rest, p) (more, q) =
    let same : a ∷ rest ≡ b ∷ more = sym p ∙ q in
    cc

-- what words of a command refuse, each command by its name
exclude : (name : List ℕ) (words : List (List ℕ)) (bytes : List ℕ) → Begins name words → length bytes ≤ 1048576
    → (codes "emit" ≡ name → (bits box : ℕ) (sizes : List Size) → IsEmit words bits box sizes → (reason : List ℕ) → RefusesTable sizes bits box bytes reason → ⊥)
    → (codes "sim" ≡ name → (reason : List ℕ) → RefusesSim bytes reason → ⊥)
    → (codes "check" ≡ name → (bits : ℕ) (sizes : List Size) → IsCheck words bits sizes → (reason : List ℕ) → RefusesCheck sizes bits bytes reason → ⊥)
    → (codes "schedule" ≡ name → (bits box : ℕ) (sizes : List Size) → IsSchedule words bits box sizes → (reason : List ℕ) → RefusesSchedule sizes bits box bytes reason → ⊥)
    → (codes "table" ≡ name → (bits box : ℕ) (sizes : List Size) → IsTable words bits box sizes → (reason : List ℕ) → RefusesTable sizes bits box bytes reason → ⊥)
    → (codes "run" ≡ name → (bits box : ℕ) (sizes : List Size) → IsRun words bits box sizes → (reason : List ℕ) → RefusesRun sizes bits box bytes reason → ⊥)
    → (codes "trace" ≡ name → (bits box : ℕ) (sizes : List Size) → IsTrace words bits box sizes → (reason : List ℕ) → RefusesRun sizes bits box bytes reason → ⊥)
    → (codes "best" ≡ name → (bits box : ℕ) (sizes : List Size) → IsBest words bits box sizes → (reason : List ℕ) → RefusesBest sizes bits box bytes reason → ⊥)
    → (codes "stream" ≡ name → (bits box : ℕ) (sizes : List Size) → IsStream words bits box sizes → (reason : List ℕ) → RefusesStream sizes bits box bytes reason → ⊥)
    → (codes "wave" ≡ name → (bits box : ℕ) (sizes : List Size) → AsksWave words bits box sizes → (reason : List ℕ) → RefusesRun sizes bits box bytes reason → ⊥)
    → (codes "run8" ≡ name → (bits box : ℕ) (sizes : List Size) → IsRun8 words bits box sizes → (reason : List ℕ) → RefusesEight sizes bits box bytes reason → ⊥)
    → (codes "unwave" ≡ name → (reason : List ℕ) → RefusesUnwave bytes reason → ⊥)
    → HasRefusal words bytes → ⊥
exclude name words bytes is within emit sim check schedule table run trace best stream wave eight unwave (reason, inl (long, input, e)) = absurd (omega (arith, long, within))
exclude name words bytes is within emit sim check schedule table run trace best stream wave eight unwave (reason, inr (inl (short, (bits, box, sizes, other, r)))) =
    emit (same_name (codes "emit") name words (begins (codes "emit") words bits box sizes other) is) bits box sizes other reason r
exclude name words bytes is within emit sim check schedule table run trace best stream wave eight unwave (reason, inr (inr (inl (short, other, r)))) = sim (same_name (codes "sim") name words (begins_sim words other) is) reason r
exclude name words bytes is within emit sim check schedule table run trace best stream wave eight unwave (reason, inr (inr (inr (inl (short, (bits, sizes, other, r)))))) =
    check (same_name (codes "check") name words (begins (codes "check") words bits other.0 sizes other.1) is) bits sizes other reason r
exclude name words bytes is within emit sim check schedule table run trace best stream wave eight unwave (reason, inr (inr (inr (inr (inl (short, (bits, box, sizes, other, r))))))) =
    schedule (same_name (codes "schedule") name words (begins (codes "schedule") words bits box sizes other) is) bits box sizes other reason r
exclude name words bytes is within emit sim check schedule table run trace best stream wave eight unwave (reason, inr (inr (inr (inr (inr (inl (short, (bits, box, sizes, other, r)))))))) =
    table (same_name (codes "table") name words (begins (codes "table") words bits box sizes other) is) bits box sizes other reason r
exclude name words bytes is within emit sim check schedule table run trace best stream wave eight unwave (reason, inr (inr (inr (inr (inr (inr (inl (short, (bits, box, sizes, other, r))))))))) =
    run (same_name (codes "run") name words (begins (codes "run") words bits box sizes other) is) bits box sizes other reason r
exclude name words bytes is within emit sim check schedule table run trace best stream wave eight unwave (reason, inr (inr (inr (inr (inr (inr (inr (inl (short, (bits, box, sizes, other, r)))))))))) =
    trace (same_name (codes "trace") name words (begins (codes "trace") words bits box sizes other) is) bits box sizes other reason r
exclude name words bytes is within emit sim check schedule table run trace best stream wave eight unwave (reason, inr (inr (inr (inr (inr (inr (inr (inr (inl (short, (bits, box, sizes, other, r))))))))))) =
    best (same_name (codes "best") name words (begins (codes "best") words bits box sizes other) is) bits box sizes other reason r
exclude name words bytes is within emit sim check schedule table run trace best stream wave eight unwave (reason, inr (inr (inr (inr (inr (inr (inr (inr (inr (inl (short, (bits, box, sizes, other, r)))))))))))) =
    stream (same_name (codes "stream") name words (begins (codes "stream") words bits box sizes other) is) bits box sizes other reason r
exclude name words bytes is within emit sim check schedule table run trace best stream wave eight unwave (reason, inr (inr (inr (inr (inr (inr (inr (inr (inr (inr (inl (short, (bits, box, sizes, other, r))))))))))))) =
    wave (same_name (codes "wave") name words (begins (codes "wave") words bits box sizes other) is) bits box sizes other reason r
exclude name words bytes is within emit sim check schedule table run trace best stream wave eight unwave (reason, inr (inr (inr (inr (inr (inr (inr (inr (inr (inr (inr (inl (short, (bits, box, sizes, other, r)))))))))))))) =
    eight (same_name (codes "run8") name words (begins (codes "run8") words bits box sizes other) is) bits box sizes other reason r
exclude name words bytes is within emit sim check schedule table run trace best stream wave eight unwave (reason, inr (inr (inr (inr (inr (inr (inr (inr (inr (inr (inr (inr (short, other, r))))))))))))) = unwave (same_name (codes "unwave") name words (begins_unwave words other) is) reason r

-- names that differ in a letter differ
letter : (k : ℕ) (a b : List ℕ) → (slice_index_or a k 0 ≡ slice_index_or b k 0 → ⊥) → a ≡ b → ⊥
letter k a b differ e = differ (ap (λ (l : List ℕ). slice_index_or l k 0) e)

exclude_check : (words : List (List ℕ)) (bits : ℕ) (bytes out : List ℕ) (sizes : List Size) → IsCheck words bits sizes → length bytes ≤ 1048576 → GivesCheck sizes bits bytes out → HasRefusal words bytes → ⊥
exclude_check words bits bytes out sizes is within g refusal =
    exclude (codes "check") words bytes (begins (codes "check") words bits is.0 sizes is.1) within
    (λ e. absurd (letter 0 (codes "emit") (codes "check") (λ (f : 101 ≡ 99). omega (arith, f)) e))
    (λ e. absurd (letter 0 (codes "sim") (codes "check") (λ (f : 115 ≡ 99). omega (arith, f)) e))
    (λ _ n others other reason r.
    let (same_bits, _, same_sizes) = one_asked (codes "check") words bits n is.0 other.0 sizes others is.1 other.1 in
    exclusive_check others n bytes reason out r (subst (λ (m : ℕ). GivesCheck others m bytes out) same_bits (subst (λ (xs : List Size). GivesCheck xs bits bytes out) same_sizes g)))
    (λ e. absurd (letter 0 (codes "schedule") (codes "check") (λ (f : 115 ≡ 99). omega (arith, f)) e))
    (λ e. absurd (letter 0 (codes "table") (codes "check") (λ (f : 116 ≡ 99). omega (arith, f)) e))
    (λ e. absurd (letter 0 (codes "run") (codes "check") (λ (f : 114 ≡ 99). omega (arith, f)) e))
    (λ e. absurd (letter 0 (codes "trace") (codes "check") (λ (f : 116 ≡ 99). omega (arith, f)) e))
    (λ e. absurd (letter 0 (codes "best") (codes "check") (λ (f : 98 ≡ 99). omega (arith, f)) e))
    (λ e. absurd (letter 0 (codes "stream") (codes "check") (λ (f : 115 ≡ 99). omega (arith, f)) e))
    (λ e. absurd (letter 0 (codes "wave") (codes "check") (λ (f : 119 ≡ 99). omega (arith, f)) e))
    (λ e. absurd (letter 0 (codes "run8") (codes "check") (λ (f : 114 ≡ 99). omega (arith, f)) e))
    (λ e. absurd (letter 0 (codes "unwave") (codes "check") (λ (f : 117 ≡ 99). omega (arith, f)) e))
    refusal

exclude_schedule : (words : List (List ℕ)) (bits box : ℕ) (bytes out : List ℕ) (sizes : List Size) → IsSchedule words bits box sizes → length bytes ≤ 1048576 → GivesSchedule sizes bits box bytes out → HasRefusal words bytes → ⊥
exclude_schedule words bits box bytes out sizes is within g refusal =
    exclude (codes "schedule") words bytes (begins (codes "schedule") words bits box sizes is) within
    (λ e. absurd (letter 0 (codes "emit") (codes "schedule") (λ (f : 101 ≡ 115). omega (arith, f)) e))
    (λ e. absurd (letter 1 (codes "sim") (codes "schedule") (λ (f : 105 ≡ 99). omega (arith, f)) e))
    (λ e. absurd (letter 0 (codes "check") (codes "schedule") (λ (f : 99 ≡ 115). omega (arith, f)) e))
    (λ _ n c others other reason r.
    let (same_bits, same_box, same_sizes) = one_asked (codes "schedule") words bits n box c sizes others is other in
    exclusive_schedule others n c bytes reason out r (subst (λ (m : ℕ). GivesSchedule others m c bytes out) same_bits (subst (λ (m : ℕ). GivesSchedule others bits m bytes out) same_box (subst (λ (xs : List Size). GivesSchedule xs bits box bytes out) same_sizes g))))
    (λ e. absurd (letter 0 (codes "table") (codes "schedule") (λ (f : 116 ≡ 115). omega (arith, f)) e))
    (λ e. absurd (letter 0 (codes "run") (codes "schedule") (λ (f : 114 ≡ 115). omega (arith, f)) e))
    (λ e. absurd (letter 0 (codes "trace") (codes "schedule") (λ (f : 116 ≡ 115). omega (arith, f)) e))
    (λ e. absurd (letter 0 (codes "best") (codes "schedule") (λ (f : 98 ≡ 115). omega (arith, f)) e))
    (λ e. absurd (letter 1 (codes "stream") (codes "schedule") (λ (f : 116 ≡ 99). omega (arith, f)) e))
    (λ e. absurd (letter 0 (codes "wave") (codes "schedule") (λ (f : 119 ≡ 115). omega (arith, f)) e))
    (λ e. absurd (letter 0 (codes "run8") (codes "schedule") (λ (f : 114 ≡ 115). omega (arith, f)) e))
    (λ e. absurd (letter 0 (codes "unwave") (codes "schedule") (λ (f : 117 ≡ 115). omega (arith, f)) e))
    refusal

exclude_table : (words : List (List ℕ)) (bits box : ℕ) (bytes out : List ℕ) (sizes : List Size) → IsTable words bits box sizes → length bytes ≤ 1048576 → GivesTable sizes bits box bytes out → HasRefusal words bytes → ⊥
exclude_table words bits box bytes out sizes is within g refusal =
    exclude (codes "table") words bytes (begins (codes "table") words bits box sizes is) within
    (λ e. absurd (letter 0 (codes "emit") (codes "table") (λ (f : 101 ≡ 116). omega (arith, f)) e))
    (λ e. absurd (letter 0 (codes "sim") (codes "table") (λ (f : 115 ≡ 116). omega (arith, f)) e))
    (λ e. absurd (letter 0 (codes "check") (codes "table") (λ (f : 99 ≡ 116). omega (arith, f)) e))
    (λ e. absurd (letter 0 (codes "schedule") (codes "table") (λ (f : 115 ≡ 116). omega (arith, f)) e))
    (λ _ n c others other reason r.
    let (same_bits, same_box, same_sizes) = one_asked (codes "table") words bits n box c sizes others is other in
    exclusive_table others n c bytes reason out r (subst (λ (m : ℕ). GivesTable others m c bytes out) same_bits (subst (λ (m : ℕ). GivesTable others bits m bytes out) same_box (subst (λ (xs : List Size). GivesTable xs bits box bytes out) same_sizes g))))
    (λ e. absurd (letter 0 (codes "run") (codes "table") (λ (f : 114 ≡ 116). omega (arith, f)) e))
    (λ e. absurd (letter 1 (codes "trace") (codes "table") (λ (f : 114 ≡ 97). omega (arith, f)) e))
    (λ e. absurd (letter 0 (codes "best") (codes "table") (λ (f : 98 ≡ 116). omega (arith, f)) e))
    (λ e. absurd (letter 0 (codes "stream") (codes "table") (λ (f : 115 ≡ 116). omega (arith, f)) e))
    (λ e. absurd (letter 0 (codes "wave") (codes "table") (λ (f : 119 ≡ 116). omega (arith, f)) e))
    (λ e. absurd (letter 0 (codes "run8") (codes "table") (λ (f : 114 ≡ 116). omega (arith, f)) e))
    (λ e. absurd (letter 0 (codes "unwave") (codes "table") (λ (f : 117 ≡ 116). omega (arith, f)) e))
    refusal

exclude_emit : (words : List (List ℕ)) (bits box : ℕ) (bytes out : List ℕ) (sizes : List Size) → IsEmit words bits box sizes → length bytes ≤ 1048576 → GivesMapped sizes bits box bytes out → HasRefusal words bytes → ⊥
exclude_emit words bits box bytes out sizes is within g refusal =
    exclude (codes "emit") words bytes (begins (codes "emit") words bits box sizes is) within
    (λ _ n c others other reason r.
    let (same_bits, same_box, same_sizes) = one_asked (codes "emit") words bits n box c sizes others is other in
    exclusive_emit others n c bytes reason out r (subst (λ (m : ℕ). GivesMapped others m c bytes out) same_bits (subst (λ (m : ℕ). GivesMapped others bits m bytes out) same_box (subst (λ (xs : List Size). GivesMapped xs bits box bytes out) same_sizes g))))
    (λ e. absurd (letter 0 (codes "sim") (codes "emit") (λ (f : 115 ≡ 101). omega (arith, f)) e))
    (λ e. absurd (letter 0 (codes "check") (codes "emit") (λ (f : 99 ≡ 101). omega (arith, f)) e))
    (λ e. absurd (letter 0 (codes "schedule") (codes "emit") (λ (f : 115 ≡ 101). omega (arith, f)) e))
    (λ e. absurd (letter 0 (codes "table") (codes "emit") (λ (f : 116 ≡ 101). omega (arith, f)) e))
    (λ e. absurd (letter 0 (codes "run") (codes "emit") (λ (f : 114 ≡ 101). omega (arith, f)) e))
    (λ e. absurd (letter 0 (codes "trace") (codes "emit") (λ (f : 116 ≡ 101). omega (arith, f)) e))
    (λ e. absurd (letter 0 (codes "best") (codes "emit") (λ (f : 98 ≡ 101). omega (arith, f)) e))
    (λ e. absurd (letter 0 (codes "stream") (codes "emit") (λ (f : 115 ≡ 101). omega (arith, f)) e))
    (λ e. absurd (letter 0 (codes "wave") (codes "emit") (λ (f : 119 ≡ 101). omega (arith, f)) e))
    (λ e. absurd (letter 0 (codes "run8") (codes "emit") (λ (f : 114 ≡ 101). omega (arith, f)) e))
    (λ e. absurd (letter 0 (codes "unwave") (codes "emit") (λ (f : 117 ≡ 101). omega (arith, f)) e))
    refusal

exclude_run : (words : List (List ℕ)) (bits box : ℕ) (bytes out : List ℕ) (sizes : List Size) → IsRun words bits box sizes → length bytes ≤ 1048576 → GivesResults sizes bits box bytes out → HasRefusal words bytes → ⊥
exclude_run words bits box bytes out sizes is within g refusal =
    exclude (codes "run") words bytes (begins (codes "run") words bits box sizes is) within
    (λ e. absurd (letter 0 (codes "emit") (codes "run") (λ (f : 101 ≡ 114). omega (arith, f)) e))
    (λ e. absurd (letter 0 (codes "sim") (codes "run") (λ (f : 115 ≡ 114). omega (arith, f)) e))
    (λ e. absurd (letter 0 (codes "check") (codes "run") (λ (f : 99 ≡ 114). omega (arith, f)) e))
    (λ e. absurd (letter 0 (codes "schedule") (codes "run") (λ (f : 115 ≡ 114). omega (arith, f)) e))
    (λ e. absurd (letter 0 (codes "table") (codes "run") (λ (f : 116 ≡ 114). omega (arith, f)) e))
    (λ _ n c others other reason r.
    let (same_bits, same_box, same_sizes) = one_asked (codes "run") words bits n box c sizes others is other in
    (let h = (subst (λ (m : ℕ). GivesResults others m c bytes out) same_bits (subst (λ (m : ℕ). GivesResults others bits m bytes out) same_box (subst (λ (xs : List Size). GivesResults xs bits box bytes out) same_sizes g))) in exclusive_run others n c bytes reason h.timed h.cells h.plan h.inputs r h.has))
    (λ e. absurd (letter 0 (codes "trace") (codes "run") (λ (f : 116 ≡ 114). omega (arith, f)) e))
    (λ e. absurd (letter 0 (codes "best") (codes "run") (λ (f : 98 ≡ 114). omega (arith, f)) e))
    (λ e. absurd (letter 0 (codes "stream") (codes "run") (λ (f : 115 ≡ 114). omega (arith, f)) e))
    (λ e. absurd (letter 0 (codes "wave") (codes "run") (λ (f : 119 ≡ 114). omega (arith, f)) e))
    (λ e. absurd (letter 3 (codes "run8") (codes "run") (λ (f : 56 ≡ 0). omega (arith, f)) e))
    (λ e. absurd (letter 0 (codes "unwave") (codes "run") (λ (f : 117 ≡ 114). omega (arith, f)) e))
    refusal

exclude_trace : (words : List (List ℕ)) (bits box : ℕ) (bytes out : List ℕ) (sizes : List Size) → IsTrace words bits box sizes → length bytes ≤ 1048576 → GivesTrace sizes bits box bytes out → HasRefusal words bytes → ⊥
exclude_trace words bits box bytes out sizes is within g refusal =
    exclude (codes "trace") words bytes (begins (codes "trace") words bits box sizes is) within
    (λ e. absurd (letter 0 (codes "emit") (codes "trace") (λ (f : 101 ≡ 116). omega (arith, f)) e))
    (λ e. absurd (letter 0 (codes "sim") (codes "trace") (λ (f : 115 ≡ 116). omega (arith, f)) e))
    (λ e. absurd (letter 0 (codes "check") (codes "trace") (λ (f : 99 ≡ 116). omega (arith, f)) e))
    (λ e. absurd (letter 0 (codes "schedule") (codes "trace") (λ (f : 115 ≡ 116). omega (arith, f)) e))
    (λ e. absurd (letter 1 (codes "table") (codes "trace") (λ (f : 97 ≡ 114). omega (arith, f)) e))
    (λ e. absurd (letter 0 (codes "run") (codes "trace") (λ (f : 114 ≡ 116). omega (arith, f)) e))
    (λ _ n c others other reason r.
    let (same_bits, same_box, same_sizes) = one_asked (codes "trace") words bits n box c sizes others is other in
    (let h = (subst (λ (m : ℕ). GivesTrace others m c bytes out) same_bits (subst (λ (m : ℕ). GivesTrace others bits m bytes out) same_box (subst (λ (xs : List Size). GivesTrace xs bits box bytes out) same_sizes g))) in exclusive_run others n c bytes reason h.timed h.cells h.plan h.inputs r h.has))
    (λ e. absurd (letter 0 (codes "best") (codes "trace") (λ (f : 98 ≡ 116). omega (arith, f)) e))
    (λ e. absurd (letter 0 (codes "stream") (codes "trace") (λ (f : 115 ≡ 116). omega (arith, f)) e))
    (λ e. absurd (letter 0 (codes "wave") (codes "trace") (λ (f : 119 ≡ 116). omega (arith, f)) e))
    (λ e. absurd (letter 0 (codes "run8") (codes "trace") (λ (f : 114 ≡ 116). omega (arith, f)) e))
    (λ e. absurd (letter 0 (codes "unwave") (codes "trace") (λ (f : 117 ≡ 116). omega (arith, f)) e))
    refusal

exclude_best : (words : List (List ℕ)) (bits box : ℕ) (bytes out : List ℕ) (sizes : List Size) → IsBest words bits box sizes → length bytes ≤ 1048576 → GivesBest sizes bits box bytes out → HasRefusal words bytes → ⊥
exclude_best words bits box bytes out sizes is within g refusal =
    exclude (codes "best") words bytes (begins (codes "best") words bits box sizes is) within
    (λ e. absurd (letter 0 (codes "emit") (codes "best") (λ (f : 101 ≡ 98). omega (arith, f)) e))
    (λ e. absurd (letter 0 (codes "sim") (codes "best") (λ (f : 115 ≡ 98). omega (arith, f)) e))
    (λ e. absurd (letter 0 (codes "check") (codes "best") (λ (f : 99 ≡ 98). omega (arith, f)) e))
    (λ e. absurd (letter 0 (codes "schedule") (codes "best") (λ (f : 115 ≡ 98). omega (arith, f)) e))
    (λ e. absurd (letter 0 (codes "table") (codes "best") (λ (f : 116 ≡ 98). omega (arith, f)) e))
    (λ e. absurd (letter 0 (codes "run") (codes "best") (λ (f : 114 ≡ 98). omega (arith, f)) e))
    (λ e. absurd (letter 0 (codes "trace") (codes "best") (λ (f : 116 ≡ 98). omega (arith, f)) e))
    (λ _ n c others other reason r.
    let (same_bits, same_box, same_sizes) = one_asked (codes "best") words bits n box c sizes others is other in
    exclusive_best others n c bytes reason out r (subst (λ (m : ℕ). GivesBest others m c bytes out) same_bits (subst (λ (m : ℕ). GivesBest others bits m bytes out) same_box (subst (λ (xs : List Size). GivesBest xs bits box bytes out) same_sizes g))))
    (λ e. absurd (letter 0 (codes "stream") (codes "best") (λ (f : 115 ≡ 98). omega (arith, f)) e))
    (λ e. absurd (letter 0 (codes "wave") (codes "best") (λ (f : 119 ≡ 98). omega (arith, f)) e))
    (λ e. absurd (letter 0 (codes "run8") (codes "best") (λ (f : 114 ≡ 98). omega (arith, f)) e))
    (λ e. absurd (letter 0 (codes "unwave") (codes "best") (λ (f : 117 ≡ 98). omega (arith, f)) e))
    refusal

exclude_stream : (words : List (List ℕ)) (bits box : ℕ) (bytes out : List ℕ) (sizes : List Size) → IsStream words bits box sizes → length bytes ≤ 1048576 → GivesStream sizes bits box bytes out → HasRefusal words bytes → ⊥
exclude_stream words bits box bytes out sizes is within g refusal =
    exclude (codes "stream") words bytes (begins (codes "stream") words bits box sizes is) within
    (λ e. absurd (letter 0 (codes "emit") (codes "stream") (λ (f : 101 ≡ 115). omega (arith, f)) e))
    (λ e. absurd (letter 1 (codes "sim") (codes "stream") (λ (f : 105 ≡ 116). omega (arith, f)) e))
    (λ e. absurd (letter 0 (codes "check") (codes "stream") (λ (f : 99 ≡ 115). omega (arith, f)) e))
    (λ e. absurd (letter 1 (codes "schedule") (codes "stream") (λ (f : 99 ≡ 116). omega (arith, f)) e))
    (λ e. absurd (letter 0 (codes "table") (codes "stream") (λ (f : 116 ≡ 115). omega (arith, f)) e))
    (λ e. absurd (letter 0 (codes "run") (codes "stream") (λ (f : 114 ≡ 115). omega (arith, f)) e))
    (λ e. absurd (letter 0 (codes "trace") (codes "stream") (λ (f : 116 ≡ 115). omega (arith, f)) e))
    (λ e. absurd (letter 0 (codes "best") (codes "stream") (λ (f : 98 ≡ 115). omega (arith, f)) e))
    (λ _ n c others other reason r.
    let (same_bits, same_box, same_sizes) = one_asked (codes "stream") words bits n box c sizes others is other in
    exclusive_stream others n c bytes reason out r (subst (λ (m : ℕ). GivesStream others m c bytes out) same_bits (subst (λ (m : ℕ). GivesStream others bits m bytes out) same_box (subst (λ (xs : List Size). GivesStream xs bits box bytes out) same_sizes g))))
    (λ e. absurd (letter 0 (codes "wave") (codes "stream") (λ (f : 119 ≡ 115). omega (arith, f)) e))
    (λ e. absurd (letter 0 (codes "run8") (codes "stream") (λ (f : 114 ≡ 115). omega (arith, f)) e))
    (λ e. absurd (letter 0 (codes "unwave") (codes "stream") (λ (f : 117 ≡ 115). omega (arith, f)) e))
    refusal

exclude_sim : (words : List (List ℕ)) (bytes out : List ℕ) → IsSim words → length bytes ≤ 1048576 → GivesSim bytes out → HasRefusal words bytes → ⊥
exclude_sim words bytes out is within g refusal =
    exclude (codes "sim") words bytes (begins_sim words is) within
    (λ e. absurd (letter 0 (codes "emit") (codes "sim") (λ (f : 101 ≡ 115). omega (arith, f)) e))
    (λ _ reason r. exclusive_sim bytes reason out r g)
    (λ e. absurd (letter 0 (codes "check") (codes "sim") (λ (f : 99 ≡ 115). omega (arith, f)) e))
    (λ e. absurd (letter 1 (codes "schedule") (codes "sim") (λ (f : 99 ≡ 105). omega (arith, f)) e))
    (λ e. absurd (letter 0 (codes "table") (codes "sim") (λ (f : 116 ≡ 115). omega (arith, f)) e))
    (λ e. absurd (letter 0 (codes "run") (codes "sim") (λ (f : 114 ≡ 115). omega (arith, f)) e))
    (λ e. absurd (letter 0 (codes "trace") (codes "sim") (λ (f : 116 ≡ 115). omega (arith, f)) e))
    (λ e. absurd (letter 0 (codes "best") (codes "sim") (λ (f : 98 ≡ 115). omega (arith, f)) e))
    (λ e. absurd (letter 1 (codes "stream") (codes "sim") (λ (f : 116 ≡ 105). omega (arith, f)) e))
    (λ e. absurd (letter 0 (codes "wave") (codes "sim") (λ (f : 119 ≡ 115). omega (arith, f)) e))
    (λ e. absurd (letter 0 (codes "run8") (codes "sim") (λ (f : 114 ≡ 115). omega (arith, f)) e))
    (λ e. absurd (letter 0 (codes "unwave") (codes "sim") (λ (f : 117 ≡ 115). omega (arith, f)) e))
    refusal

exclude_wave : (words : List (List ℕ)) (bits box : ℕ) (bytes out : List ℕ) (sizes : List Size) → AsksWave words bits box sizes → length bytes ≤ 1048576 → GivesDump sizes bits box bytes out → HasRefusal words bytes → ⊥
exclude_wave words bits box bytes out sizes is within g refusal =
    exclude (codes "wave") words bytes (begins (codes "wave") words bits box sizes is) within
    (λ e. absurd (letter 0 (codes "emit") (codes "wave") (λ (f : 101 ≡ 119). omega (arith, f)) e))
    (λ e. absurd (letter 0 (codes "sim") (codes "wave") (λ (f : 115 ≡ 119). omega (arith, f)) e))
    (λ e. absurd (letter 0 (codes "check") (codes "wave") (λ (f : 99 ≡ 119). omega (arith, f)) e))
    (λ e. absurd (letter 0 (codes "schedule") (codes "wave") (λ (f : 115 ≡ 119). omega (arith, f)) e))
    (λ e. absurd (letter 0 (codes "table") (codes "wave") (λ (f : 116 ≡ 119). omega (arith, f)) e))
    (λ e. absurd (letter 0 (codes "run") (codes "wave") (λ (f : 114 ≡ 119). omega (arith, f)) e))
    (λ e. absurd (letter 0 (codes "trace") (codes "wave") (λ (f : 116 ≡ 119). omega (arith, f)) e))
    (λ e. absurd (letter 0 (codes "best") (codes "wave") (λ (f : 98 ≡ 119). omega (arith, f)) e))
    (λ e. absurd (letter 0 (codes "stream") (codes "wave") (λ (f : 115 ≡ 119). omega (arith, f)) e))
    (λ _ n c others other reason r.
    let (same_bits, same_box, same_sizes) = one_asked (codes "wave") words bits n box c sizes others is other in
    (let h = (subst (λ (m : ℕ). GivesDump others m c bytes out) same_bits (subst (λ (m : ℕ). GivesDump others bits m bytes out) same_box (subst (λ (xs : List Size). GivesDump xs bits box bytes out) same_sizes g))) in exclusive_run others n c bytes reason h.timed h.cells h.plan h.inputs r h.has))
    (λ e. absurd (letter 0 (codes "run8") (codes "wave") (λ (f : 114 ≡ 119). omega (arith, f)) e))
    (λ e. absurd (letter 0 (codes "unwave") (codes "wave") (λ (f : 117 ≡ 119). omega (arith, f)) e))
    refusal

exclude_eight : (words : List (List ℕ)) (bits box : ℕ) (bytes out : List ℕ) (sizes : List Size) → IsRun8 words bits box sizes → length bytes ≤ 1048576 → GivesEight sizes bits box bytes out → HasRefusal words bytes → ⊥
exclude_eight words bits box bytes out sizes is within g refusal =
    exclude (codes "run8") words bytes (begins (codes "run8") words bits box sizes is) within
    (λ e. absurd (letter 0 (codes "emit") (codes "run8") (λ (f : 101 ≡ 114). omega (arith, f)) e))
    (λ e. absurd (letter 0 (codes "sim") (codes "run8") (λ (f : 115 ≡ 114). omega (arith, f)) e))
    (λ e. absurd (letter 0 (codes "check") (codes "run8") (λ (f : 99 ≡ 114). omega (arith, f)) e))
    (λ e. absurd (letter 0 (codes "schedule") (codes "run8") (λ (f : 115 ≡ 114). omega (arith, f)) e))
    (λ e. absurd (letter 0 (codes "table") (codes "run8") (λ (f : 116 ≡ 114). omega (arith, f)) e))
    (λ e. absurd (letter 3 (codes "run") (codes "run8") (λ (f : 0 ≡ 56). omega (arith, f)) e))
    (λ e. absurd (letter 0 (codes "trace") (codes "run8") (λ (f : 116 ≡ 114). omega (arith, f)) e))
    (λ e. absurd (letter 0 (codes "best") (codes "run8") (λ (f : 98 ≡ 114). omega (arith, f)) e))
    (λ e. absurd (letter 0 (codes "stream") (codes "run8") (λ (f : 115 ≡ 114). omega (arith, f)) e))
    (λ e. absurd (letter 0 (codes "wave") (codes "run8") (λ (f : 119 ≡ 114). omega (arith, f)) e))
    (λ _ n c others other reason r.
    let (same_bits, same_box, same_sizes) = one_asked (codes "run8") words bits n box c sizes others is other in
    exclusive_eight others n c bytes reason out r (subst (λ (m : ℕ). GivesEight others m c bytes out) same_bits (subst (λ (m : ℕ). GivesEight others bits m bytes out) same_box (subst (λ (xs : List Size). GivesEight xs bits box bytes out) same_sizes g))))
    (λ e. absurd (letter 0 (codes "unwave") (codes "run8") (λ (f : 117 ≡ 114). omega (arith, f)) e))
    refusal

exclude_unwave : (words : List (List ℕ)) (bytes out : List ℕ) → IsUnwave words → length bytes ≤ 1048576 → GivesUnwave bytes out → HasRefusal words bytes → ⊥
exclude_unwave words bytes out is within g refusal =
    exclude (codes "unwave") words bytes (begins_unwave words is) within
    (λ e. absurd (letter 0 (codes "emit") (codes "unwave") (λ (f : 101 ≡ 117). omega (arith, f)) e))
    (λ e. absurd (letter 0 (codes "sim") (codes "unwave") (λ (f : 115 ≡ 117). omega (arith, f)) e))
    (λ e. absurd (letter 0 (codes "check") (codes "unwave") (λ (f : 99 ≡ 117). omega (arith, f)) e))
    (λ e. absurd (letter 0 (codes "schedule") (codes "unwave") (λ (f : 115 ≡ 117). omega (arith, f)) e))
    (λ e. absurd (letter 0 (codes "table") (codes "unwave") (λ (f : 116 ≡ 117). omega (arith, f)) e))
    (λ e. absurd (letter 0 (codes "run") (codes "unwave") (λ (f : 114 ≡ 117). omega (arith, f)) e))
    (λ e. absurd (letter 0 (codes "trace") (codes "unwave") (λ (f : 116 ≡ 117). omega (arith, f)) e))
    (λ e. absurd (letter 0 (codes "best") (codes "unwave") (λ (f : 98 ≡ 117). omega (arith, f)) e))
    (λ e. absurd (letter 0 (codes "stream") (codes "unwave") (λ (f : 115 ≡ 117). omega (arith, f)) e))
    (λ e. absurd (letter 0 (codes "wave") (codes "unwave") (λ (f : 119 ≡ 117). omega (arith, f)) e))
    (λ e. absurd (letter 0 (codes "run8") (codes "unwave") (λ (f : 114 ≡ 117). omega (arith, f)) e))
    (λ _ reason r. exclusive_unwave bytes reason out r g)
    refusal

-- words that ask for a demo ask for nothing else
pub demo_alone : (words : List (List ℕ)) → TakeInput words → AskDemo words → ⊥
demo_alone words input (m, b, k, demo) = by input
  where
    is : Begins (codes "demo") words
    is = begins_demo words m b k demo

    by : TakeInput words → ⊥
    by (inl (bits, box, sizes, other)) = letter 0 (codes "emit") (codes "demo") (λ (f : 101 ≡ 100). omega (arith, f)) (same_name (codes "emit") (codes "demo") words (begins (codes "emit") words bits box sizes other) is)
    by (inr (inl other)) = letter 0 (codes "sim") (codes "demo") (λ (f : 115 ≡ 100). omega (arith, f)) (same_name (codes "sim") (codes "demo") words (begins_sim words other) is)
    by (inr (inr (inl (bits, sizes, other)))) = letter 0 (codes "check") (codes "demo") (λ (f : 99 ≡ 100). omega (arith, f)) (same_name (codes "check") (codes "demo") words (begins (codes "check") words bits other.0 sizes other.1) is)
    by (inr (inr (inr (inl (bits, box, sizes, other))))) = letter 0 (codes "schedule") (codes "demo") (λ (f : 115 ≡ 100). omega (arith, f)) (same_name (codes "schedule") (codes "demo") words (begins (codes "schedule") words bits box sizes other) is)
    by (inr (inr (inr (inr (inl (bits, box, sizes, other)))))) = letter 0 (codes "table") (codes "demo") (λ (f : 116 ≡ 100). omega (arith, f)) (same_name (codes "table") (codes "demo") words (begins (codes "table") words bits box sizes other) is)
    by (inr (inr (inr (inr (inr (inl (bits, box, sizes, other))))))) = letter 0 (codes "run") (codes "demo") (λ (f : 114 ≡ 100). omega (arith, f)) (same_name (codes "run") (codes "demo") words (begins (codes "run") words bits box sizes other) is)
    by (inr (inr (inr (inr (inr (inr (inl (bits, box, sizes, other)))))))) = letter 0 (codes "trace") (codes "demo") (λ (f : 116 ≡ 100). omega (arith, f)) (same_name (codes "trace") (codes "demo") words (begins (codes "trace") words bits box sizes other) is)
    by (inr (inr (inr (inr (inr (inr (inr (inl (bits, box, sizes, other))))))))) = letter 0 (codes "best") (codes "demo") (λ (f : 98 ≡ 100). omega (arith, f)) (same_name (codes "best") (codes "demo") words (begins (codes "best") words bits box sizes other) is)
    by (inr (inr (inr (inr (inr (inr (inr (inr (inl (bits, box, sizes, other)))))))))) = letter 0 (codes "stream") (codes "demo") (λ (f : 115 ≡ 100). omega (arith, f)) (same_name (codes "stream") (codes "demo") words (begins (codes "stream") words bits box sizes other) is)
    by (inr (inr (inr (inr (inr (inr (inr (inr (inr (inl (bits, box, sizes, other))))))))))) = letter 0 (codes "wave") (codes "demo") (λ (f : 119 ≡ 100). omega (arith, f)) (same_name (codes "wave") (codes "demo") words (begins (codes "wave") words bits box sizes other) is)
    by (inr (inr (inr (inr (inr (inr (inr (inr (inr (inr (inl (bits, box, sizes, other)))))))))))) = letter 0 (codes "run8") (codes "demo") (λ (f : 114 ≡ 100). omega (arith, f)) (same_name (codes "run8") (codes "demo") words (begins (codes "run8") words bits box sizes other) is)
    by (inr (inr (inr (inr (inr (inr (inr (inr (inr (inr (inr other))))))))))) = letter 0 (codes "unwave") (codes "demo") (λ (f : 117 ≡ 100). omega (arith, f)) (same_name (codes "unwave") (codes "demo") words (begins_unwave words other) is)

pub exclude_demo : (words : List (List ℕ)) (bytes : List ℕ) → AskDemo words → HasRefusal words bytes → ⊥
exclude_demo words bytes demo (reason, inl (long, input, e)) = demo_alone words input demo
exclude_demo words bytes demo (reason, inr (inl (short, (bits, box, sizes, other, r)))) = demo_alone words (inl (bits, box, sizes, other)) demo
exclude_demo words bytes demo (reason, inr (inr (inl (short, other, r)))) = demo_alone words (inr (inl other)) demo
exclude_demo words bytes demo (reason, inr (inr (inr (inl (short, (bits, sizes, other, r)))))) = demo_alone words (inr (inr (inl (bits, sizes, other)))) demo
exclude_demo words bytes demo (reason, inr (inr (inr (inr (inl (short, (bits, box, sizes, other, r))))))) = demo_alone words (inr (inr (inr (inl (bits, box, sizes, other))))) demo
exclude_demo words bytes demo (reason, inr (inr (inr (inr (inr (inl (short, (bits, box, sizes, other, r)))))))) = demo_alone words (inr (inr (inr (inr (inl (bits, box, sizes, other)))))) demo
exclude_demo words bytes demo (reason, inr (inr (inr (inr (inr (inr (inl (short, (bits, box, sizes, other, r))))))))) = demo_alone words (inr (inr (inr (inr (inr (inl (bits, box, sizes, other))))))) demo
exclude_demo words bytes demo (reason, inr (inr (inr (inr (inr (inr (inr (inl (short, (bits, box, sizes, other, r)))))))))) = demo_alone words (inr (inr (inr (inr (inr (inr (inl (bits, box, sizes, other)))))))) demo
exclude_demo words bytes demo (reason, inr (inr (inr (inr (inr (inr (inr (inr (inl (short, (bits, box, sizes, other, r))))))))))) = demo_alone words (inr (inr (inr (inr (inr (inr (inr (inl (bits, box, sizes, other))))))))) demo
exclude_demo words bytes demo (reason, inr (inr (inr (inr (inr (inr (inr (inr (inr (inl (short, (bits, box, sizes, other, r)))))))))))) = demo_alone words (inr (inr (inr (inr (inr (inr (inr (inr (inl (bits, box, sizes, other)))))))))) demo
exclude_demo words bytes demo (reason, inr (inr (inr (inr (inr (inr (inr (inr (inr (inr (inl (short, (bits, box, sizes, other, r))))))))))))) = demo_alone words (inr (inr (inr (inr (inr (inr (inr (inr (inr (inl (bits, box, sizes, other))))))))))) demo
exclude_demo words bytes demo (reason, inr (inr (inr (inr (inr (inr (inr (inr (inr (inr (inr (inl (short, (bits, box, sizes, other, r)))))))))))))) = demo_alone words (inr (inr (inr (inr (inr (inr (inr (inr (inr (inr (inl (bits, box, sizes, other)))))))))))) demo
exclude_demo words bytes demo (reason, inr (inr (inr (inr (inr (inr (inr (inr (inr (inr (inr (inr (short, other, r))))))))))))) = demo_alone words (inr (inr (inr (inr (inr (inr (inr (inr (inr (inr (inr other))))))))))) demo

exclusive : (command : Command) (words : List (List ℕ)) (bytes out : List ℕ) → Are command words → length bytes ≤ 1048576 → Gives command words bytes out → HasRefusal words bytes → ⊥
exclusive (Check width) words bytes out are within g refusal = exclude_check words width.bits bytes out g.0 g.1 within g.2 refusal
exclusive (Schedule width reach) words bytes out are within g refusal = exclude_schedule words width.bits reach.size bytes out g.0 g.1 within g.2 refusal
exclusive (Table width reach) words bytes out are within g refusal = exclude_table words width.bits reach.size bytes out g.0 g.1 within g.2 refusal
exclusive (Emit width reach) words bytes out are within g refusal = exclude_emit words width.bits reach.size bytes out g.0 g.1 within g.2 refusal
exclusive (Run width reach) words bytes out are within g refusal = exclude_run words width.bits reach.size bytes out g.0 g.1 within g.2 refusal
exclusive (Trace width reach) words bytes out are within g refusal = exclude_trace words width.bits reach.size bytes out g.0 g.1 within g.2 refusal
exclusive (Best width reach) words bytes out are within g refusal = exclude_best words width.bits reach.size bytes out g.0 g.1 within g.2 refusal
exclusive (Stream width reach) words bytes out are within g refusal = exclude_stream words width.bits reach.size bytes out g.0 g.1 within g.2 refusal
exclusive (Wave width reach) words bytes out are within g refusal = exclude_wave words width.bits reach.size bytes out g.0 g.1 within g.2 refusal
exclusive (Run8 width reach) words bytes out are within g refusal = exclude_eight words width.bits reach.size bytes out g.0 g.1 within g.2 refusal
exclusive Sim words bytes out are within g refusal = exclude_sim words bytes out are within g refusal
exclusive Unwave words bytes out are within g refusal = exclude_unwave words bytes out are within g refusal
exclusive (Demo width reach k) words bytes out are within g refusal = exclude_demo words bytes (width.bits, reach.size, k, are) refusal

-- ---- what was put

-- the status wanted: all of it was added
pub whole : (wanted : Status) (words : List (List ℕ)) (left left' : Option (List ℕ)) {status : Status} {sink sink' : SinkState} {out : List ℕ}
    → Writes wanted words left left' out → IsPut sink sink' out wanted status → wanted ≢ WriteFault → status ≡ wanted
    → AddsWhole wanted words left left' sink.held sink'.held
whole wanted words left left' {out = out} writes put no_fault e =
    elim put.ends [
      | inl all ↦ (out, writes, all.1)
      | inr some ↦ absurd (no_fault (sym e ∙ some.0))
    ]

-- a fault: a prefix of it was added
pub front : (wanted : Status) (words : List (List ℕ)) (left left' : Option (List ℕ)) {status : Status} {sink sink' : SinkState} {out : List ℕ}
    → Writes wanted words left left' out → IsPut sink sink' out wanted status → wanted ≢ WriteFault → status ≡ WriteFault
    → HasRisen sink.faults sink'.faults × AddsFront words left left' sink.held sink'.held
front wanted words left left' {out = out} writes put no_fault e =
    elim put.ends [
      | inl all ↦ absurd (no_fault (sym all.0 ∙ e))
      | inr some ↦ (some.1, (wanted, out, writes, some.2))
    ]

-- with no fault the status is the one wanted
pub as_wanted : {wanted status : Status} {sink sink' : SinkState} {out : List ℕ}
    → IsPut sink sink' out wanted status → (HasRisen sink.faults sink'.faults → ⊥) → status ≡ wanted
as_wanted put none = elim put.ends [ inl all ↦ all.0 | inr some ↦ absurd (none some.1) ]

-- the status is the one wanted, or that of a fault
no_other : {wanted status : Status} {sink sink' : SinkState} {out : List ℕ} (other : Status)
    → IsPut sink sink' out wanted status → other ≢ wanted → other ≢ WriteFault → status ≡ other → ⊥
no_other other put a b e = elim put.ends [ inl all ↦ a (sym e ∙ all.0) | inr some ↦ b (sym e ∙ some.0) ]

-- ---- what was taken

-- all that was left was taken
all_taken : (left left' : Option (List ℕ)) (bytes : List ℕ) (P : List ℕ → Type 0) → Takes left left' bytes → IsAtEnd left' → P bytes → IfSome left P
all_taken (Some old) (Some rest) bytes P takes end h =
    let same : bytes ≡ old = sym (append-nil bytes) ∙ ap (λ t. bytes ++ t) (sym end) ∙ sym takes in
    subst P same h
all_taken (Some old) None bytes P takes end h = absurd takes
all_taken None left' bytes P takes end h = tt

longer : (old rest taken : List ℕ) → old ≡ taken ++ rest → 1048576 < length taken → 1048576 < length old
longer old rest taken takes long = omega (arith, length-append taken rest, ap length takes)

-- more was left than the limit
pub too_long_left : (words : List (List ℕ)) (left left' : Option (List ℕ)) → TakeInput words → TakesMore left left' 1048576 → IfSome left (HasRefusal words)
too_long_left words (Some old) (Some rest) input (taken, takes, long) = (codes "too long", inl (longer old rest taken takes long, input, refl))
too_long_left words (Some old) None input (taken, takes, long) = absurd takes
too_long_left words None left' input more = tt

-- ---- what is due

pub writes_too_long : (words : List (List ℕ)) (left left' : Option (List ℕ)) → TakeInput words → TakesMore left left' 1048576
    → WritesRefusal words left left' (refusal_line (codes "too long"))
writes_too_long words left left' input (taken, takes, long) = record {
  read = input;
  taken = taken;
  takes = takes;
  whole = λ within. absurd (omega arith);
  reason = codes "too long";
  refused = inl (long, input, refl);
  line = refl;
}

writes_refusal : (command : Command) (words : List (List ℕ)) (left left' : Option (List ℕ)) (bytes reason : List ℕ) → Are command words → takes_input command ≡ true → Takes left left' bytes → IsAtEnd left' → length bytes ≤ 1048576
    → Refuses command words bytes reason → WritesRefusal words left left' (refusal_line reason)
writes_refusal command words left left' bytes reason are input takes end within r = record {
  read = input_of command words are input;
  taken = bytes;
  takes = takes;
  whole = λ _. end;
  reason = reason;
  refused = refusal_of command words bytes reason are within r;
  line = refl;
}

-- ---- completeness

if_some_weaker : (o : Option (List ℕ)) (P Q : List ℕ → Type 0) → ((x : List ℕ) → P x → Q x) → IfSome o P → IfSome o Q
if_some_weaker (Some x) P Q f h = f x h
if_some_weaker None P Q f h = tt

if_some_all : (o : Option (List ℕ)) (Q : List ℕ → Type 0) → ((x : List ℕ) → Q x) → IfSome o Q
if_some_all (Some x) Q f = f x
if_some_all None Q f = tt

pub complete_refused : (words : List (List ℕ)) (left : Option (List ℕ)) (status : Status) → TakeInput words → IfSome left (HasRefusal words)
    → status ≡ Refused → IsComplete words left status
complete_refused words left status input refusal is = record {
  unread = λ unread. absurd (unread (inl input));
  refused = λ _. if_some_weaker left (HasRefusal words) _ (λ bytes h. λ _. inl is) refusal;
  done = λ _. if_some_weaker left (HasRefusal words) _ (λ bytes h. λ none. absurd (none h)) refusal;
  demo = λ demo. absurd (demo_alone words input demo);
}

complete_done : (words : List (List ℕ)) (left : Option (List ℕ)) (status : Status) → AreRead words → IfSome left (λ bytes. HasRefusal words bytes → ⊥)
    → status ≡ Done → IsComplete words left status
complete_done words left status read unrefused is = record {
  unread = λ unread. absurd (unread read);
  refused = λ _. if_some_weaker left (λ bytes. HasRefusal words bytes → ⊥) _ (λ bytes h. λ refusal. absurd (h refusal)) unrefused;
  done = λ _. if_some_weaker left (λ bytes. HasRefusal words bytes → ⊥) _ (λ bytes h. λ _. inl is) unrefused;
  demo = λ _. inl is;
}

pub complete_memory : (words : List (List ℕ)) (left : Option (List ℕ)) (status : Status) → AreRead words → status ≡ Memory → IsComplete words left status
complete_memory words left status read is = record {
  unread = λ unread. absurd (unread read);
  refused = λ _. if_some_all left _ (λ bytes. λ _. inr is);
  done = λ _. if_some_all left _ (λ bytes. λ _. inr is);
  demo = λ _. inr is;
}

-- ---- the answer of a command to the bytes of the source

pub by_command : (command other : Command) (words : List (List ℕ)) (bytes : List ℕ) {sink sink' : SinkState} {status : Status} → command ≡ other
    → IsAnswered (Refuses other words bytes) (Gives other words bytes) sink sink' status → IsAnswered (Refuses command words bytes) (Gives command words bytes) sink sink' status
by_command command other words bytes {sink} {sink'} {status} e answered =
    subst (λ x. IsAnswered (Refuses x words bytes) (Gives x words bytes) sink sink' status) (sym e) answered

pub answered_refused : (command : Command) (words : List (List ℕ)) (left left' : Option (List ℕ)) (bytes : List ℕ) {sink sink' : SinkState} {status : Status}
    → Are command words → takes_input command ≡ true → Takes left left' bytes → IsAtEnd left' → length bytes ≤ 1048576
    → IsAnswered (Refuses command words bytes) (Gives command words bytes) sink sink' status → status ≡ Refused → AddsWhole Refused words left left' sink.held sink'.held
answered_refused command words left left' bytes are input takes end within (refused {reason} r put) e =
    whole Refused words left left' (writes_refusal command words left left' bytes reason are input takes end within r) put (λ x. cc) e
answered_refused command words left left' bytes are input takes end within (given g put) e = absurd (no_other Refused put (λ x. cc) (λ x. cc) e)
answered_refused command words left left' bytes are input takes end within (no_memory a b) e = absurd cc

pub answered_done : (command : Command) (words : List (List ℕ)) (left left' : Option (List ℕ)) (bytes : List ℕ) {sink sink' : SinkState} {status : Status}
    → Are command words → takes_input command ≡ true → Takes left left' bytes → IsAtEnd left' → length bytes ≤ 1048576
    → IsAnswered (Refuses command words bytes) (Gives command words bytes) sink sink' status → status ≡ Done → AddsWhole Done words left left' sink.held sink'.held
answered_done command words left left' bytes are input takes end within (refused r put) e = absurd (no_other Done put (λ x. cc) (λ x. cc) e)
answered_done command words left left' bytes are input takes end within (given {out} g put) e =
    whole Done words left left' (writes_output command words left left' bytes out are input takes end within g) put (λ x. cc) e
answered_done command words left left' bytes are input takes end within (no_memory a b) e = absurd cc

pub answered_fault : (command : Command) (words : List (List ℕ)) (left left' : Option (List ℕ)) (bytes : List ℕ) {sink sink' : SinkState} {status : Status}
    → Are command words → takes_input command ≡ true → Takes left left' bytes → IsAtEnd left' → length bytes ≤ 1048576
    → IsAnswered (Refuses command words bytes) (Gives command words bytes) sink sink' status → status ≡ WriteFault
    → HasRisen sink.faults sink'.faults × AddsFront words left left' sink.held sink'.held
answered_fault command words left left' bytes are input takes end within (refused {reason} r put) e =
    front Refused words left left' (writes_refusal command words left left' bytes reason are input takes end within r) put (λ x. cc) e
answered_fault command words left left' bytes are input takes end within (given {out} g put) e =
    front Done words left left' (writes_output command words left left' bytes out are input takes end within g) put (λ x. cc) e
answered_fault command words left left' bytes are input takes end within (no_memory a b) e = absurd cc

pub answered_memory : {R G : List ℕ → Type 0} {sink sink' : SinkState} {status : Status} → IsAnswered R G sink sink' status → status ≡ Memory → sink'.held ≡ sink.held
answered_memory (refused r put) e = absurd (no_other Memory put (λ x. cc) (λ x. cc) e)
answered_memory (given g put) e = absurd (no_other Memory put (λ x. cc) (λ x. cc) e)
answered_memory (no_memory a b) e = b

-- no answer is the usage line or a fault of the source
pub never_words : {R G : List ℕ → Type 0} {sink sink' : SinkState} {status : Status} → IsAnswered R G sink sink' status → status ≡ Words → ⊥
never_words (refused r put) e = no_other Words put (λ x. cc) (λ x. cc) e
never_words (given g put) e = no_other Words put (λ x. cc) (λ x. cc) e
never_words (no_memory a b) e = cc

pub never_read_fault : {R G : List ℕ → Type 0} {sink sink' : SinkState} {status : Status} → IsAnswered R G sink sink' status → status ≡ ReadFault → ⊥
never_read_fault (refused r put) e = no_other ReadFault put (λ x. cc) (λ x. cc) e
never_read_fault (given g put) e = no_other ReadFault put (λ x. cc) (λ x. cc) e
never_read_fault (no_memory a b) e = cc

pub answered_complete : (command : Command) (words : List (List ℕ)) (left left' : Option (List ℕ)) (bytes : List ℕ) {sink sink' : SinkState} {status : Status}
    → Are command words → takes_input command ≡ true → Takes left left' bytes → IsAtEnd left' → length bytes ≤ 1048576
    → IsAnswered (Refuses command words bytes) (Gives command words bytes) sink sink' status → (HasRisen sink.faults sink'.faults → ⊥) → IsComplete words left status
answered_complete command words left left' bytes {status = status} are input takes end within (refused {reason} r put) none =
    complete_refused words left status (input_of command words are input)
    (all_taken left left' bytes (HasRefusal words) takes end (reason, refusal_of command words bytes reason are within r)) (as_wanted put none)
answered_complete command words left left' bytes {status = status} are input takes end within (given {out} g put) none =
    complete_done words left status (read_of command words are)
    (all_taken left left' bytes (λ bytes. HasRefusal words bytes → ⊥) takes end (exclusive command words bytes out are within g)) (as_wanted put none)
answered_complete command words left left' bytes {status = status} are input takes end within (no_memory a b) none = complete_memory words left status (read_of command words are) a

-- ---- the answer of a demo, which takes nothing from the source

pub is_demo : (command : Command) (words : List (List ℕ)) → Are command words → takes_input command ≡ false → AskDemo words
is_demo (Check width) words are t = absurd (true≢false t)
is_demo (Schedule width reach) words are t = absurd (true≢false t)
is_demo (Table width reach) words are t = absurd (true≢false t)
is_demo (Run width reach) words are t = absurd (true≢false t)
is_demo (Trace width reach) words are t = absurd (true≢false t)
is_demo (Best width reach) words are t = absurd (true≢false t)
is_demo (Stream width reach) words are t = absurd (true≢false t)
is_demo (Emit width reach) words are t = absurd (true≢false t)
is_demo (Wave width reach) words are t = absurd (true≢false t)
is_demo (Run8 width reach) words are t = absurd (true≢false t)
is_demo Sim words are t = absurd (true≢false t)
is_demo Unwave words are t = absurd (true≢false t)
is_demo (Demo width reach k) words are t = (width.bits, reach.size, k, are)

demo_writes : (command : Command) (words : List (List ℕ)) (left : Option (List ℕ)) (bytes out : List ℕ) → Are command words → takes_input command ≡ false → Gives command words bytes out → Writes Done words left left out
demo_writes (Check width) words left bytes out are t g = absurd (true≢false t)
demo_writes (Schedule width reach) words left bytes out are t g = absurd (true≢false t)
demo_writes (Table width reach) words left bytes out are t g = absurd (true≢false t)
demo_writes (Run width reach) words left bytes out are t g = absurd (true≢false t)
demo_writes (Trace width reach) words left bytes out are t g = absurd (true≢false t)
demo_writes (Best width reach) words left bytes out are t g = absurd (true≢false t)
demo_writes (Stream width reach) words left bytes out are t g = absurd (true≢false t)
demo_writes (Emit width reach) words left bytes out are t g = absurd (true≢false t)
demo_writes (Wave width reach) words left bytes out are t g = absurd (true≢false t)
demo_writes (Run8 width reach) words left bytes out are t g = absurd (true≢false t)
demo_writes Sim words left bytes out are t g = absurd (true≢false t)
demo_writes Unwave words left bytes out are t g = absurd (true≢false t)
demo_writes (Demo width reach k) words left bytes out are t g =
    inr (inr (inr (inr (inr (inr (inr (inr (inr (inr (inr (inr (record { bits = width.bits; box = reach.size; k = k; read = are; untouched = refl; gives = g }))))))))))))

demo_unrefused : (command : Command) (words : List (List ℕ)) (bytes reason : List ℕ) → takes_input command ≡ false → Refuses command words bytes reason → ⊥
demo_unrefused (Check width) words bytes reason t r = true≢false t
demo_unrefused (Schedule width reach) words bytes reason t r = true≢false t
demo_unrefused (Table width reach) words bytes reason t r = true≢false t
demo_unrefused (Run width reach) words bytes reason t r = true≢false t
demo_unrefused (Trace width reach) words bytes reason t r = true≢false t
demo_unrefused (Best width reach) words bytes reason t r = true≢false t
demo_unrefused (Stream width reach) words bytes reason t r = true≢false t
demo_unrefused (Emit width reach) words bytes reason t r = true≢false t
demo_unrefused (Wave width reach) words bytes reason t r = true≢false t
demo_unrefused (Run8 width reach) words bytes reason t r = true≢false t
demo_unrefused Sim words bytes reason t r = true≢false t
demo_unrefused Unwave words bytes reason t r = true≢false t
demo_unrefused (Demo width reach k) words bytes reason t r = r

module _ (command : Command) (words : List (List ℕ)) (left : Option (List ℕ)) (bytes : List ℕ) {sink sink' : SinkState} {status : Status} (are : Are command words) (t : takes_input command ≡ false) where
  pub demo_refused : IsAnswered (Refuses command words bytes) (Gives command words bytes) sink sink' status → status ≡ Refused → AddsWhole Refused words left left sink.held sink'.held
  demo_refused (refused {reason} r put) e = absurd (demo_unrefused command words bytes reason t r)
  demo_refused (given g put) e = absurd (no_other Refused put (λ x. cc) (λ x. cc) e)
  demo_refused (no_memory a b) e = absurd cc

  pub demo_done : IsAnswered (Refuses command words bytes) (Gives command words bytes) sink sink' status → status ≡ Done → AddsWhole Done words left left sink.held sink'.held
  demo_done (refused {reason} r put) e = absurd (demo_unrefused command words bytes reason t r)
  demo_done (given {out} g put) e = whole Done words left left (demo_writes command words left bytes out are t g) put (λ x. cc) e
  demo_done (no_memory a b) e = absurd cc

  pub demo_fault : IsAnswered (Refuses command words bytes) (Gives command words bytes) sink sink' status → status ≡ WriteFault → HasRisen sink.faults sink'.faults × AddsFront words left left sink.held sink'.held
  demo_fault (refused {reason} r put) e = absurd (demo_unrefused command words bytes reason t r)
  demo_fault (given {out} g put) e = front Done words left left (demo_writes command words left bytes out are t g) put (λ x. cc) e
  demo_fault (no_memory a b) e = absurd cc

  pub demo_complete : IsAnswered (Refuses command words bytes) (Gives command words bytes) sink sink' status → (HasRisen sink.faults sink'.faults → ⊥) → IsComplete words left status
  demo_complete (refused {reason} r put) none = absurd (demo_unrefused command words bytes reason t r)
  demo_complete (given {out} g put) none =
      complete_done words left status (read_of command words are) (if_some_all left (λ bytes. HasRefusal words bytes → ⊥) (λ bytes. exclude_demo words bytes (is_demo command words are t))) (as_wanted put none)
  demo_complete (no_memory a b) none = complete_memory words left status (read_of command words are) a
