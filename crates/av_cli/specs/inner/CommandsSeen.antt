-- What the program keeps of the words.
use Rattle.std.specs.Prelude.{List, ℕ, Bool, true, false, option_map}
use Rattle.av_cli.specs.declared.options.Options.{Options as Kept}
use Rattle.av_cli.specs.declared.words.Command.{Command}
use Rattle.av_cli.specs.declared.words.Command.TheVariants.{Check, Schedule, Table, Emit, Run, Trace, Best, Stream, Wave, Run8, Sim, Unwave, Demo}
use Rattle.av_names.specs.declared.size.Size.{Size}
use Rattle.av_cli.specs.Commands.{Options, IsCheck, IsSchedule, IsTable, IsEmit, IsRun, IsTrace, IsBest, IsStream, AsksWave, IsRun8, IsSim, IsUnwave, IsDemo}

abbrev pub seen : Kept → Options
seen o = record { width = option_map (λ w. w.bits) o.width; box = option_map (λ r. r.size) o.reach }

-- the words are this command
abbrev pub Are : Command → List (List ℕ) → Type 0
Are (Check w) words = (sizes : List Size) × IsCheck words w.bits sizes
Are (Schedule w r) words = (sizes : List Size) × IsSchedule words w.bits r.size sizes
Are (Table w r) words = (sizes : List Size) × IsTable words w.bits r.size sizes
Are (Emit w r) words = (sizes : List Size) × IsEmit words w.bits r.size sizes
Are (Run w r) words = (sizes : List Size) × IsRun words w.bits r.size sizes
Are (Trace w r) words = (sizes : List Size) × IsTrace words w.bits r.size sizes
Are (Best w r) words = (sizes : List Size) × IsBest words w.bits r.size sizes
Are (Stream w r) words = (sizes : List Size) × IsStream words w.bits r.size sizes
Are (Wave w r) words = (sizes : List Size) × AsksWave words w.bits r.size sizes
Are Sim words = IsSim words
Are (Run8 w r) words = (sizes : List Size) × IsRun8 words w.bits r.size sizes
Are Unwave words = IsUnwave words
Are (Demo w r k) words = IsDemo words w.bits r.size k

-- whether the command reads an input
abbrev pub takes_input : Command → Bool
takes_input (Check w) = true
takes_input (Schedule w r) = true
takes_input (Table w r) = true
takes_input (Emit w r) = true
takes_input (Run w r) = true
takes_input (Trace w r) = true
takes_input (Best w r) = true
takes_input (Stream w r) = true
takes_input (Wave w r) = true
takes_input Sim = true
takes_input (Run8 w r) = true
takes_input Unwave = true
takes_input (Demo w r k) = false
