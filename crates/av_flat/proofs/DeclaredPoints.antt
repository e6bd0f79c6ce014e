-- A point of the domain of a signature at a place is declared under its name.
use Rattle.std.proofs.Common.{◌≡◌, ℕ, zero, suc, Bool, true, false, ◌&&◌, ◌||◌, IsTrue, Some, List, [], ◌∷◌, slice_get, refl, sym, subst}
use Rattle.std.specs.Str.{bytes_eq}
use Rattle.std.proofs.lemmas.Slice.Eq.{bytes_eq-Decides}
use Rattle.av_tree.specs.Trees.{Text}
use Rattle.av_tree.specs.Points.{Point}
use Rattle.av_flat.specs.declared.flat.Kind.{Kind}
use Rattle.av_flat.specs.Points.{has}
use Rattle.av_flat.specs.Signatures.{Signature, is_declared}

or_true : (a b : Bool) → IsTrue a → IsTrue (a || b)
or_true true b h = refl
or_true false b h = absurd cc

pub or_later : (a b : Bool) → IsTrue b → IsTrue (a || b)
or_later true b h = refl
or_later false b h = h

and_true : (a b c : Bool) → IsTrue a → IsTrue b → IsTrue c → IsTrue (a && b && c)
and_true true true true p q r = refl
and_true true true false p q r = absurd cc
and_true true false c p q r = absurd cc
and_true false b c p q r = absurd cc

same_name : (name : Text) → IsTrue (bytes_eq name name)
same_name name = (bytes_eq-Decides name name).1 refl

pub declared_at : (test : Kind → Bool) (sigs : List Signature) (place : ℕ) (v : Signature) (z : Point) → slice_get sigs place ≡ Some v → IsTrue (test v.kind) → IsTrue (has v.domain z)
    → IsTrue (is_declared test sigs v.name z)
declared_at test [] place v z e t h = absurd cc
declared_at test (x ∷ sigs) zero v z e t h =
    let same : x ≡ v = cc in
    or_true _ (is_declared test sigs v.name z) (subst (λ (y : Signature). IsTrue (test y.kind && bytes_eq y.name v.name && has y.domain z)) (sym same) (and_true _ _ _ t (same_name v.name) h))
declared_at test (x ∷ sigs) (suc place) v z e t h = or_later _ _ (declared_at test sigs place v z e t h)
