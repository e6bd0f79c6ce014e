-- What stands before in a module, as far as its names are looked for a second time.
use Rattle.std.specs.Prelude.{◌≡◌, List, [], ◌∷◌, ◌++◌, map, true, false, Option, Some, None, if◌then◌else◌}
use Rattle.std.specs.List.{list_any, flat_map}
use Rattle.av_net.specs.declared.plan.CellKind.{CellKind}
use Rattle.av_net.specs.Names.{clk, rst, names_of}
use Rattle.av_net.specs.Grammar.{ModuleText}
use Rattle.av_net.specs.Rows.{is_in, Mention, of_module, declares, drives, links, is_same, first_again, declared_names, item_mentions}
use Rattle.av_vnames.specs.declared.twice.Seen.{Seen as FoundSeen}
use Rattle.av_vnames.specs.Scoped.{Bytes}

-- a name put among others is told if it was there
pub record IsPut (old new : List Bytes) (name : Bytes) (found : Option Bytes) : Type 0 where
  pub told : found ≡ (if is_in old name then Some name else None)
  pub names : new ≡ (if is_in old name then old else (old ++ name ∷ []))

-- the sets have the names that these mentions declare and drive, and an instance links only where its name is declared
pub record Stands (earlier : List Mention) (seen : FoundSeen) : Type 0 where
  pub declared : (q : Bytes) → is_in seen.declared q ≡ list_any (is_same (declares q)) earlier
  pub driven : (q : Bytes) → is_in seen.driven q ≡ list_any (is_same (drives q)) earlier
  pub linked : (u q : Bytes) → is_in seen.declared u ≡ false → list_any (is_same (links u q)) earlier ≡ false

-- and the last set has the ports that the instance u links, whose name is declared
pub record StandsIn (u : Bytes) (earlier : List Mention) (both : FoundSeen × List Bytes) : Type 0 where
  pub names : Stands earlier both.0
  pub declared : is_in both.0.declared u ≡ true
  pub ports : (q : Bytes) → is_in both.1 q ≡ list_any (is_same (links u q)) earlier

-- behind what stands before, the first of these mentions that stands again is found; where none does, they stand before too
abbrev pub Tells : {S : Type 0} → (List Mention → S → Type 0) → S → S → List Mention → Option Bytes → Type 0
Tells Stand old new mentions found = (earlier : List Mention) → Stand earlier old → (found ≡ first_again earlier mentions) × (found ≡ None → Stand (earlier ++ mentions) new)

-- what stands before a module, behind others with these names; `clk` and `rst` count as declared
abbrev pub standing : List Bytes → List Mention
standing modules = map of_module modules ++ declares clk ∷ declares rst ∷ []

-- what a module declares
abbrev pub own_declared : ModuleText → List Bytes
own_declared x = names_of x.inputs ++ names_of x.outputs ++ declared_names x.declarations

-- what is mentioned behind the name of a module
abbrev pub own_mentions : List CellKind → ModuleText → List Mention
own_mentions kinds x = map declares (own_declared x) ++ flat_map (item_mentions kinds) x.items
