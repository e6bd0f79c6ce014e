use Rattle.std.proofs.Common.{ℕ, ◌<◌, ◌^◌, subst, sym, pow_pos}
use Rattle.std.proofs.lemmas.Nat.{mod_below}
use Rattle.av_testing.proofs.beside.word.Goals as goal

pub returns : goal.returns
returns c =
    let bits = c.args.width.bits in
    subst (λ n. n < 2 ^ bits) (sym c.of.ensures) (mod_below c.number.result (2 ^ bits) (pow_pos bits))
