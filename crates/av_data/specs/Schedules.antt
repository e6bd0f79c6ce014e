-- A schedule in words: a line for each node in order, as `s (1,1) -1`: its name, its linear part as a point, its offset (the form
-- is this project's).
use Rattle.std.specs.Prelude.{List, [], ◌∷◌, ◌++◌, ℕ, codes}
use Rattle.std.specs.Fmt.{signed_decimal}
use Rattle.av_net.specs.Texts.{point_text}
use Rattle.av_flat.specs.declared.timed.Time.{Time}
use Rattle.av_flat.specs.declared.timed.Timed.{Timed}
use Rattle.av_flat.specs.Trees.{Variable, view_system}
use Rattle.av_flat.specs.Nodes.{nodes}

abbrev pub time_line : Variable → Time → List ℕ
time_line v t = v.name ++ codes " " ++ point_text t.linear ++ codes " " ++ signed_decimal t.offset ++ codes "\n"

-- each variable with the time at its place
abbrev pub time_lines : List Variable → List Time → List ℕ
time_lines (v ∷ vs) (t ∷ ts) = time_line v t ++ time_lines vs ts
time_lines _ _ = []

abbrev pub schedule_text : Timed → List ℕ
schedule_text timed = time_lines (nodes (view_system timed.flat)) timed.times
