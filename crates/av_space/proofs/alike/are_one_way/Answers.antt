use Rattle.std.proofs.Common.{IsTrue, sym, subst}
use Rattle.std.proofs.lemmas.Slice.Eq.{slice_eq-Decides}
use Rattle.std.proofs.lemmas.Bool.Decides.{Decides-int_eq}
use Rattle.av_space.specs.declared.tap.Way.{Way}
use Rattle.av_space.specs.inner.Alike.{AreOneWay}
use Rattle.av_space.specs.inner.Sites.{way_of}
use Rattle.av_space.proofs.alike.are_one_way.Goals as goal

pub returns-in-Entries-b : goal.returns-in-Entries-b
returns-in-Entries-b c =
    let r = c.eq.result in
    subst (λ (x : Way). (IsTrue r → AreOneWay (way_of x) (way_of c.args.b.now)) × (AreOneWay (way_of x) (way_of c.args.b.now) → IsTrue r)) (sym c.in-Entries.is)
    (subst (λ (y : Way). (IsTrue r → AreOneWay (way_of (Way.Entries c.in-Entries.direction)) (way_of y)) × (AreOneWay (way_of (Way.Entries c.in-Entries.direction)) (way_of y) → IsTrue r)) (sym c.in-Entries-b.is)
    (slice_eq-Decides Decides-int_eq c.in-Entries.direction c.in-Entries-b.other r c.eq.ensures))

pub returns-in-Handed-b : goal.returns-in-Handed-b
returns-in-Handed-b c =
    let r = c.eq-in-Handed-b.result in
    subst (λ (x : Way). (IsTrue r → AreOneWay (way_of x) (way_of c.args.b.now)) × (AreOneWay (way_of x) (way_of c.args.b.now) → IsTrue r)) (sym c.in-Handed.is)
    (subst (λ (y : Way). (IsTrue r → AreOneWay (way_of (Way.Handed c.in-Handed.field-0 c.in-Handed.direction)) (way_of y)) × (AreOneWay (way_of (Way.Handed c.in-Handed.field-0 c.in-Handed.direction)) (way_of y) → IsTrue r)) (sym c.in-Handed-b.is)
    (slice_eq-Decides Decides-int_eq c.in-Handed.direction c.in-Handed-b.other r c.eq-in-Handed-b.ensures))
