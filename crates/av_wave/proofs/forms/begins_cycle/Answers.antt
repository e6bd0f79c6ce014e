use Rattle.std.proofs.Common.{ℕ, List, ◌++◌, sym, ap, ◌∙◌, true≢false}
use Rattle.std.specs.Prelude.{codes, decimal}
use Rattle.av_wave.proofs.forms.begins_cycle.Goals as goal

pub returns-in-None : goal.returns-in-None
returns-in-None c =
    let rest : List ℕ = decimal c.args.cycle ++ codes "\n" in
    (λ yes. absurd (true≢false (sym yes)), λ e. absurd (c.in-None.ensures rest (e ∙ ap (λ piece. piece ++ rest) (sym c.as_slice.ensures))))
