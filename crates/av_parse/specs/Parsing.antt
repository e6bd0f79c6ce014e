-- What the call of the parser shows of tokens.
use Rattle.std.specs.Prelude.{◌≡◌, ◌⊎◌, List, Result, Ok, Err}
use Rattle.av_base.specs.Tokens.{Token}
use Rattle.av_tree.specs.declared.system.System.{System as SystemMade}
use Rattle.av_tree.specs.Trees.{System, view_system}
use Rattle.av_tree.specs.Fronts.{IsSyntaxPlace, IsDepthPlace}
use Rattle.av_parse.specs.declared.fault.ParseFault.{ParseFault}
use Rattle.av_parse.specs.declared.fault.ParseFault.TheVariants.{Syntax, Depth, Memory}

-- the answer is this tree, or out of memory
abbrev pub Answers : Result SystemMade ParseFault → System → Type 0
Answers (Ok found) tree = view_system found ≡ tree
Answers (Err Memory) tree = Unit {0}
Answers (Err _) tree = ⊥

-- this is the first fault of the tokens
abbrev pub IsFault : List Token → ParseFault → Type 0
IsFault tokens (Syntax place) = IsSyntaxPlace tokens place
IsFault tokens (Depth place) = IsDepthPlace tokens place
IsFault tokens Memory = ⊥

-- the answer is this fault, or out of memory
abbrev pub Refuses : Result SystemMade ParseFault → ParseFault → Type 0
Refuses (Ok found) fault = ⊥
Refuses (Err found) fault = (found ≡ Memory) ⊎ (found ≡ fault)
