-- The text of a plan with its period.
use Rattle.std.specs.Prelude.{ℕ, List, ◌++◌, codes, decimal}
use Rattle.std.specs.List.{flat_map}
use Rattle.av_net.specs.Texts.{listing_text}
use Rattle.av_net.specs.PlanTexts.{second_version_line, kind_text, top_text}
use Rattle.av_stream.specs.declared.building.Streamed.{Streamed}

-- as `// period 3`
unfoldable pub period_line : ℕ → List ℕ
period_line period = codes "// period " ++ decimal period ++ codes "\n"

-- the text of the plan, with this line behind its first one
abbrev pub stream_text : Streamed → List ℕ
stream_text s = second_version_line ++ period_line s.period ++ listing_text s.plan.listing ++ flat_map kind_text s.plan.kinds ++ top_text s.plan
