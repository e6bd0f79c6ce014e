use Rattle.std.proofs.Common.{◌≡◌, IsTrue, ap, subst, sym}
use Rattle.std.proofs.lemmas.Bool.Decides.{Decides-at}
use Rattle.av_flat.specs.Trees.{Tree, view, reference}
use Rattle.av_space.specs.inner.Alike.{AreOneReference}
use Rattle.av_space.proofs.EqualMaps.{equal_maps, same_map}
use Rattle.av_space.proofs.alike.are_one_reference.Goals as goal

pub returns-then-var-other : goal.returns-then-var-other
returns-then-var-other c =
    let r = c.eq.result in
    let m = c.in-Ref.map in
    let n = c.in-Ref-b.image in
    let d = Decides-at r (equal_maps m n) c.eq.ensures (same_map m n) in
    let place = c.if-var-other.true in
    let first : view c.args.a.now ≡ reference c.in-Ref.var m = ap view c.in-Ref.is in
    let second : view c.args.b.now ≡ reference c.in-Ref-b.other n = ap view c.in-Ref-b.is in
    subst (λ (x : Tree). (IsTrue r → AreOneReference x (view c.args.b.now)) × (AreOneReference x (view c.args.b.now) → IsTrue r)) (sym first)
    (subst (λ (y : Tree). (IsTrue r → AreOneReference (reference c.in-Ref.var m) y) × (AreOneReference (reference c.in-Ref.var m) y → IsTrue r)) (sym second)
    (λ e. (place, d.0 e), λ e. d.1 e.1))
