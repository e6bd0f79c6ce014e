-- What `check` refuses, and what it writes.
use Rattle.std.specs.Prelude.{◌≡◌, ◌≢◌, ℕ, List, codes}
use Rattle.av_tree.specs.Proper as text
use Rattle.av_flat.specs.Trees.{FlatSystem}
use Rattle.av_flat.specs.Proper.{IsProper}
use Rattle.av_names.specs.declared.size.Size.{Size}
use Rattle.av_names.specs.Sizes.{instance_of}
use Rattle.av_compile.specs.declared.refusal.Refusal.{Refusal}
use Rattle.av_compile.specs.declared.refusal.Refusal.TheVariants as refusal
use Rattle.av_compile.specs.Checked.{Flattens, HasNormalForm, IsRefused}
use Rattle.av_commands.specs.AlphaRefusals.{alpha_reason}

-- the first fault of the bytes with these sizes
pub record RefusesCheck (sizes : List Size) (bits : ℕ) (bytes reason : List ℕ) : Type 0 where
  pub cause : Refusal
  pub first : IsRefused bytes sizes bits cause
  pub some : cause ≢ refusal.Memory
  pub told : reason ≡ alpha_reason cause

-- the bytes spell a system whose equations, with these sizes, give each declared point just one word: those of the text itself, and
-- those of its flat system
pub record GivesCheck (sizes : List Size) (bits : ℕ) (bytes out : List ℕ) : Type 0 where
  pub flat : FlatSystem
  pub flattens : Flattens bytes sizes bits flat
  pub normal : HasNormalForm flat
  pub proper : IsProper flat
  pub text_proper : text.IsProper (instance_of flattens.system sizes bits)
  pub line : out ≡ codes "ok\n"
