-- Tap sites that read the same at each point: of one piece, in one way, at references that are equal.
use Rattle.std.specs.Prelude.{◌≡◌, ℕ}
use Rattle.av_affine.specs.declared.map.Map.{Map}
use Rattle.av_tree.specs.Points.{Point}
use Rattle.av_flat.specs.Trees.{Tree, reference}
use Rattle.av_space.specs.Taps.{Way, each, entries, handed, Tap}

abbrev pub IsReferenceBy : ℕ → Map → Tree → Type 0
IsReferenceBy place m (reference q n) = (place ≡ q) × (m ≡ n)
IsReferenceBy place m _ = ⊥

abbrev pub AreOneReference : Tree → Tree → Type 0
AreOneReference (reference place m) t = IsReferenceBy place m t
AreOneReference _ t = ⊥

abbrev pub IsEach : Way → Type 0
IsEach each = Unit {0}
IsEach _ = ⊥

abbrev pub IsEntriesBy : Point → Way → Type 0
IsEntriesBy w (entries u) = w ≡ u
IsEntriesBy w _ = ⊥

-- a helper's word, of whichever helper
abbrev pub IsHandedBy : Point → Way → Type 0
IsHandedBy w (handed h u) = w ≡ u
IsHandedBy w _ = ⊥

abbrev pub AreOneWay : Way → Way → Type 0
AreOneWay each b = IsEach b
AreOneWay (entries w) b = IsEntriesBy w b
AreOneWay (handed h w) b = IsHandedBy w b

abbrev pub AreAlike : Tap → Tap → Type 0
AreAlike t u = (t.place.piece ≡ u.place.piece) × AreOneWay t.way u.way × AreOneReference t.place.tree u.place.tree
