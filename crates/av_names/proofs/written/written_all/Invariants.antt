use Rattle.std.proofs.Common.{◌≡◌, ◌∷◌, ◌++◌, map, take}
use Rattle.av_names.specs.inner.Seen.{part}
use Rattle.av_names.specs.inner.Sums.{written}
use Rattle.av_names.specs.Written.{written_at, written_sizes, written_declaration}
use Rattle.av_names.proofs.written.written_all.Given as goal

abbrev pub invariant-loop-variable : goal.invariant-loop-variable
invariant-loop-variable l =
    map written l.all.items ≡ written_sizes l.system.sizes ∷ map (λ d. written_declaration d.now) (take l.variable-index l.variables)

abbrev pub invariant-loop-part : goal.invariant-loop-part
invariant-loop-part l =
    map written l.all.items
    ≡ written_sizes l.system.sizes ∷ (map (λ d. written_declaration d.now) l.variables ++ map (λ p. written_at (part p)) (take l.part-index l.parts))
