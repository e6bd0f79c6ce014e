-- What is answered of the bytes of a text, with sizes, in words of a width: five steps, of which the first that finds a fault answers.
use Rattle.std.specs.Prelude.{◌≡◌, ℕ, List}
use Rattle.av_base.specs.Tokens.{Token, IsText, start}
use Rattle.av_tree.specs.Trees.{System}
use Rattle.av_tree.specs.Grammar.{IsProgramText}
use Rattle.av_tree.specs.Proper as text
use Rattle.av_flat.specs.Trees.{FlatSystem}
use Rattle.av_flat.specs.Proper.{IsProper}
use Rattle.av_lex.specs.declared.fault.LexFault.{LexFault}
use Rattle.av_lex.specs.Faults as lexed
use Rattle.av_parse.specs.declared.fault.ParseFault.{ParseFault}
use Rattle.av_parse.specs.Parsing as parsed
use Rattle.av_names.specs.declared.size.Size.{Size}
use Rattle.av_names.specs.declared.fault.NameFault.{NameFault}
use Rattle.av_names.specs.Sizes.{instance_of}
use Rattle.av_names.specs.Refusals.{IsRefusal}
use Rattle.av_normal.specs.declared.fault.NormalFault.{NormalFault}
use Rattle.av_normal.specs.declared.fault.NormalFault.TheVariants as normal
use Rattle.av_normal.specs.NormalFaults as normalised
use Rattle.av_normal.specs.NormalFaults.{IsGiven}
use Rattle.av_check.specs.declared.fault.CheckFault.{CheckFault}
use Rattle.av_check.specs.CheckFaults as checked
use Rattle.av_compile.specs.declared.refusal.Refusal.{Refusal}
use Rattle.av_compile.specs.Refusals.{of_lex, of_parse, of_names, of_normal, of_check}
pub use Rattle.av_compile.specs.Steps.{Flattens}

-- nothing keeps the system from having a normal form
abbrev pub HasNormalForm : FlatSystem → Type 0
HasNormalForm s = (f : NormalFault) → normalised.IsFault s f → f ≡ normal.Memory

-- the bytes spell a system whose equations are proper with these sizes, as they stand in the text and as they stand in its flat
-- system, and t is the normal form of that
pub record IsChecked (bytes : List ℕ) (words : List Size) (width : ℕ) (t : FlatSystem) : Type 0 where
  pub flat : FlatSystem
  pub flattens : Flattens bytes words width flat
  pub given : IsGiven flat t
  pub proper : IsProper flat
  pub text_proper : text.IsProper (instance_of flattens.system words width)

-- the first fault, each behind the steps that found none: of the bytes, of the tokens, with its place, of the names, of the
-- pieces, of the points
pub data IsRefused (bytes : List ℕ) (words : List Size) (width : ℕ) (r : Refusal) : Type 0 where
  in_bytes : (f : LexFault) → r ≡ of_lex f → lexed.IsFault start bytes f → IsRefused bytes words width r
  in_tokens : (f : ParseFault) → r ≡ of_parse f → (tokens : List Token) → IsText start bytes tokens → parsed.IsFault tokens f → IsRefused bytes words width r
  in_names : (f : NameFault) → r ≡ of_names f → (s : System) → IsProgramText bytes s → IsRefusal s words f → IsRefused bytes words width r
  in_pieces : (f : NormalFault) → r ≡ of_normal f → (s : FlatSystem) → Flattens bytes words width s → normalised.IsFault s f → IsRefused bytes words width r
  in_points : (f : CheckFault) → r ≡ of_check f → (s : FlatSystem) → Flattens bytes words width s → HasNormalForm s → checked.IsFault s f
      → IsRefused bytes words width r
