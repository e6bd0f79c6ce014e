use Rattle.std.proofs.Common.{◌≡◌, ◌∙◌, ℕ, ◌^◌, ◌<◌, true, false, All, List, refl, sym, ap, subst, arith, true≢false}
use Rattle.std.proofs.Math.Nat.{mod-lt, one-le-pow}
use Rattle.std.proofs.lemmas.List.{take_all}
use Rattle.std.proofs.lemmas.List.Elements.{All-more}
use Rattle.std.proofs.lemmas.Slice.Eq.{bytes_eq-Decides}
use Rattle.av_base.specs.Words.{IsWord, residue}
use Rattle.av_net.specs.declared.netlist.Port.{Port}
use Rattle.av_cli_tests.proofs.shows.fits_all.Goals as goal
use Rattle.av_cli_tests.proofs.shows.fits_all.Goals.{else-eq-via-then-eq+else-own-word, else-eq-via-else-eq}

-- what is its own residue is a word
own_residue : (bits a b : ℕ) → b ≡ residue bits a → b ≡ a → IsWord bits a
own_residue bits a b is same = subst (λ (n : ℕ). n < 2 ^ bits) (sym is ∙ same) (mod-lt a (one-le-pow bits 2 (omega arith)))

pub loop-port-preserved : goal.loop-port-preserved
loop-port-preserved c =
    let P : Port → Type 0 = λ port. c.args.line.now.wire ≡ port.name → IsWord port.width.bits c.args.word.bits in
    let port = c.port-item.result in
    let here : P port = elim c.else-eq.branch [
      | else-eq-via-then-eq+else-own-word w ↦ λ named. own_residue port.width.bits c.args.word.bits c.of-own.result.bits c.of-own.ensures w.if-own-word.false
      | else-eq-via-else-eq w ↦ λ named.
          let found = (bytes_eq-Decides c.as_str.result.now c.as_str-in-loop-port.result.now).1 (c.as_str.ensures ∙ sym named ∙ sym c.as_str-in-loop-port.ensures) in
          absurd (true≢false (sym found ∙ sym c.eq.ensures ∙ w.if-eq.false))
    ] in
    All-more P c.args.ports.now c.loop-port.port-index port c.loop-port-test.true c.loop-port.invariant (subst P c.port-item.is here)

pub returns : goal.returns
returns c =
    let P : Port → Type 0 = λ port. c.args.line.now.wire ≡ port.name → IsWord port.width.bits c.args.word.bits in
    λ _. subst (λ (ps : List Port). All P ps) (take_all c.loop-port.port-index c.args.ports.now c.loop-port-test.false) c.loop-port.invariant
