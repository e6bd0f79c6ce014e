use Rattle.std.proofs.Common.{◌≡◌, ◌∙◌, ℕ, Some, List, map, refl, sym, ap, arith, inl, inr}
use Rattle.std.specs.Prelude.{slice_get}
use Rattle.std.proofs.lemmas.Bool.{cases_lt}
use Rattle.std.proofs.lemmas.List.{length-map}
use Rattle.av_space.specs.Taps.{Tap}
use Rattle.av_space.specs.inner.Sites.{TapMade, tap_of}
use Rattle.av_space.proofs.ByPlace.{read_at}
use Rattle.av_space.proofs.runs.run_end.Goals as goal
use Rattle.av_base.proofs.Lists.{get_mapped, some_is}

-- the piece of the tap of a site that is read by its number
piece_at : (sites : List TapMade) (k : ℕ) (site : TapMade) (t : Tap) → slice_get sites k ≡ Some site → slice_get (map tap_of sites) k ≡ Some t → t.place.piece ≡ site.place.piece
piece_at sites k site t is e = ap (λ (u : Tap). u.place.piece) (some_is t (tap_of site) (sym e ∙ get_mapped tap_of sites k site is))

pub loop-number-init : goal.loop-number-init
loop-number-init c = λ j t u above below et eu.
    let same : j ≡ c.args.first = omega (arith, above, below) in
    ap (λ (x : Tap). x.place.piece) (some_is u t (sym eu ∙ ap (slice_get (map tap_of c.args.sites.now)) same ∙ et))

pub loop-number-preserved : goal.loop-number-preserved
loop-number-preserved c = λ j t u above below et eu.
    let sites = c.args.sites.now in
    let k = c.loop-number.number in
    elim (cases_lt j k) [
      | inl lt ↦ c.loop-number.invariant j t u above lt et eu
      | inr ge ↦ (
          let same : j ≡ k = omega (arith, below, ge) in
          let first = read_at sites sites c.args.first c.index-sites-first.result refl c.requires c.index-sites-first.is in
          let here = read_at sites sites k c.index-sites-number.result refl c.loop-number-test.true c.index-sites-number.is in
          let one = piece_at sites c.args.first c.index-sites-first.result t first et in
          let two = piece_at sites k c.index-sites-number.result u here (ap (slice_get (map tap_of sites)) (sym same) ∙ eu) in
          two ∙ sym c.piece.ensures ∙ c.if-piece.false ∙ c.piece-piece.ensures ∙ sym one)
    ]

pub returns-then-piece : goal.returns-then-piece
returns-then-piece c = record {
  some = omega arith;
  within = (let size = length-map c.args.sites.now tap_of in let t = c.loop-number-test.true in omega (arith, size, t));
  one_piece = λ j t u above below et eu. c.loop-number.invariant j t u above below et eu;
}

pub returns : goal.returns
returns c = record {
  some = c.requires;
  within = (let size = length-map c.args.sites.now tap_of in omega (arith, size));
  one_piece = λ j t u above below et eu. c.loop-number.invariant j t u above (let t = c.loop-number-test.false in omega (arith, below, t)) et eu;
}
