-- A marked drive that is computed.
use Rattle.std.specs.Prelude.{◌≡◌, ◌≢◌, ℕ, ◌+◌, ◌<◌, List, Bool, slice_index_or}
use Rattle.av_net.specs.declared.netlist.Drive.{Drive}
use Rattle.av_net.specs.declared.netlist.Module.{Module}
use Rattle.av_net.specs.Names.{given_names}
use Rattle.av_net.specs.Settled.{Agree}
use Rattle.av_clock.specs.Named.{named, AllFit}
use Rattle.av_clock.specs.Marked.{IsClear, AreHeld}

-- its mark is cleared, and no word but its target's is another; what is not marked holds then too, and no drive before it is marked anew
pub record IsComputed (m : Module) (drive : ℕ) (words words' : List ℕ) (stale stale' due' : List Bool) : Type 0 where
  pub fit : AllFit m words'
  pub held : AreHeld m words' stale' due'
  pub given : Agree (given_names m) (named m words) (named m words')
  pub clear : ((k : ℕ) → k < drive → IsClear stale k) → (k : ℕ) → k < drive + 1 → IsClear stale' k
  pub others : (d : Drive) (name : List ℕ) → name ≢ (slice_index_or m.drives drive d).target → named m words' name ≡ named m words name
