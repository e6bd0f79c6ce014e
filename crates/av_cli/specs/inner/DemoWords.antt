-- The words of a demo, read at the place of its size.
use Rattle.std.specs.Prelude.{◌≡◌, ℕ, ◌+◌, ◌-◌, List, [], take, drop, codes, slice_index_or, Contains}
use Rattle.av_cli.specs.Commands.{Options, Say, no_options, given_or, default_width, default_box}
use Rattle.av_commands.specs.SizeWords.{SpellsUpTo}

-- behind the name of the command, the words before this place and those after it are whole options, and the word there is the size
pub record IsDemoAt (words : List (List ℕ)) (at bits box k : ℕ) : Type 0 where
  pub size : SpellsUpTo 16 (slice_index_or words at []) k
  pub middle : Options
  pub options : Options
  pub say_before : Say no_options (take (at - 1) (drop 1 words)) middle
  pub say_after : Say middle (drop (at + 1) words) options
  pub last : Contains (take (at - 1) (drop 1 words)) (codes "--") → drop (at + 1) words ≡ []
  pub bits_are : bits ≡ given_or default_width options.width
  pub box_is : box ≡ given_or default_box options.box
