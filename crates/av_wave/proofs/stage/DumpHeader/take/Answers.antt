use Rattle.std.proofs.Common.{inr, refl, sym, ◌∙◌, true, false, true≢false}
use Rattle.std.proofs.lemmas.Bool.Decides.{Decides-eqb}
use Rattle.std.proofs.lemmas.Slice.Eq.{slice_eq-Decides}
use Rattle.av_wave.proofs.stage.DumpHeader.take.Goals as goal

pub declare-requires-clause-other : goal.declare-requires-clause-other
declare-requires-clause-other c = λ e. true≢false (sym ((slice_eq-Decides Decides-eqb c.args.line.now c.as_slice.result.now false c.if-eq.ensures).1 (e ∙ sym c.as_slice.ensures)))

pub returns-then-eq-clause-turns : goal.returns-then-eq-clause-turns
returns-then-eq-clause-turns c = inr ((slice_eq-Decides Decides-eqb c.args.line.now c.as_slice.result.now true c.if-eq.ensures).0 refl ∙ c.as_slice.ensures, refl)
