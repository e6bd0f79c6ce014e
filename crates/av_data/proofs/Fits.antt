-- The values of a stimulus are for its cycles and the ports of its module, and fit these.
use Rattle.std.proofs.Common.{◌≡◌, ℕ, ◌<◌, List, [], ◌∷◌, Some, slice_get}
use Rattle.std.specs.Prelude.{All}
use Rattle.std.proofs.lemmas.List.Elements.{All-nil, All-cons, All-contains}
use Rattle.av_base.specs.Words.{IsWord}
use Rattle.av_net.specs.declared.netlist.Port.{Port}
use Rattle.av_data.specs.declared.stimulus.Given.{Given}
use Rattle.av_data.specs.declared.stimulus.Stimulus.{Stimulus}
use Rattle.av_data.specs.Stimuli.{AreGiven, no_line, empty_line, value_line, AreSaid, empty_first, cycles_first, SpellsStimulus}
use Rattle.av_data.proofs.Sorting.{all_of}

pub record IsFor (inputs : List Port) (n : ℕ) (g : Given) : Type 0 where
  pub port : Port
  pub declared : slice_get inputs g.port ≡ Some port
  pub within : g.cycle < n
  pub fits : IsWord port.width.bits g.value

given_fit : (inputs : List Port) (n : ℕ) (earlier : List Given) (lines : List (List ℕ)) (given : List Given) → AreGiven inputs n earlier lines given → All (IsFor inputs n) earlier → All (IsFor inputs n) given
given_fit inputs n earlier [] given no_line all = all
given_fit inputs n earlier (line ∷ lines) given (empty_line e rest) all = given_fit inputs n earlier lines given rest all
given_fit inputs n earlier (line ∷ lines) given (value_line {g = g} gives apart rest) all =
    let one : IsFor inputs n g = record { port = gives.port; declared = gives.declared; within = gives.within; fits = gives.fits } in
    given_fit inputs n (g ∷ earlier) lines given rest (All-cons (IsFor inputs n) g earlier one all)

said_fit : (inputs : List Port) (n : ℕ) (given : List Given) (lines : List (List ℕ)) → AreSaid inputs n given lines → All (IsFor inputs n) given
said_fit inputs n given [] x = elim x [ ]
said_fit inputs n given (line ∷ lines) (empty_first e rest) = said_fit inputs n given lines rest
said_fit inputs n given (line ∷ lines) (cycles_first c rest) = given_fit inputs n [] lines given rest (All-nil (IsFor inputs n))

pub values_fit : (inputs : List Port) (bytes : List ℕ) (s : Stimulus) → SpellsStimulus inputs bytes s → All (IsFor inputs s.cycles) s.values
values_fit inputs bytes s is = all_of (IsFor inputs s.cycles) s.values (λ g c. All-contains (IsFor inputs s.cycles) is.given g (said_fit inputs s.cycles is.given _ is.said) ((is.same g).1 c))
