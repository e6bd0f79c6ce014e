use Rattle.std.proofs.Common.{List, ℕ, length, ◌∙◌, ap, sym, subst, replicate, false, arith}
use Rattle.std.proofs.lemmas.List.{length-replicate}
use Rattle.std.proofs.lemmas.Grind.{common_steps}
use Rattle.av_net.specs.Names.{all_names}
use Rattle.av_clock.specs.Named.{AllFit}
use Rattle.av_clock.proofs.Views.{zeros_fit}
use Rattle.av_clock.proofs.state.State.new.Goals as goal

pub invariant_of-result : goal.invariant_of-result
invariant_of-result c =
    let size : ℕ = length (all_names c.in_ok-circuit.circuit) in
    let words = c.in_ok-words.ensures.items_if_clones_equal (λ y same. same) ∙ ap (λ (n : ℕ). replicate n 0) c.size.ensures in
    record {
      size = ap length words ∙ length-replicate size 0;
      fit = subst (λ (ws : List ℕ). AllFit c.in_ok-circuit.circuit ws) (sym words) (zeros_fit c.in_ok-circuit.circuit size);
      next_size = sym c.in_ok-next.next.ok.0 ∙ c.in_ok-next.ensures.len ∙ c.steps.ensures;
      taken_size = sym c.in_ok-taken.taken.ok.0 ∙ c.in_ok-taken.ensures.len ∙ c.steps-2.ensures;
      stale_size = ap length c.in_ok-stale.ensures ∙ length-replicate c.drives.result false ∙ c.drives.ensures;
      due_size = ap length c.in_ok-due.ensures ∙ length-replicate c.steps-3.result false ∙ c.steps-3.ensures;
    }

pub returns-clause-circuit : goal.returns-clause-circuit
returns-clause-circuit c = grind (arith, common_steps)

pub same-circuit : goal.same-circuit
same-circuit c = grind (arith, common_steps)
