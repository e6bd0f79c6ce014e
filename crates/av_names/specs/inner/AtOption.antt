-- Rules at what may not be there.
use Rattle.std.specs.Prelude.{Option, Some, None}

-- what a rule finds at something that may not be there
abbrev pub at_option : {A B : Type 0} → (B → Option A) → Option B → Option A
at_option rule None = None
at_option rule (Some x) = rule x
