-- What systems show, and when two of them show the same.
use Rattle.std.specs.Prelude.{◌↔◌, ℕ, IsTrue}
use Rattle.av_tree.specs.Trees.{Text}
use Rattle.av_tree.specs.Points.{Point}
use Rattle.av_tree.specs.Values.{Assignment}
use Rattle.av_flat.specs.declared.flat.Kind.{Kind}
use Rattle.av_flat.specs.Signatures.{is_shown}

-- for these words of the inputs, this point of the variable has this word
abbrev pub Showing : Type 1
Showing = Assignment → Text → Point → ℕ → Type 0

-- a variable of this kind and name has this declared point
abbrev pub Declaring : Type 1
Declaring = Kind → Text → Point → Type 0

-- what the one shows the other shows, and nothing else, and their declared points of inputs, outputs and locals are the same
pub record SameMeaning (shows_a : Showing) (declares_a : Declaring) (shows_b : Showing) (declares_b : Declaring) : Type 0 where
  pub shown : (x : Assignment) (name : Text) (z : Point) (w : ℕ) → shows_a x name z w ↔ shows_b x name z w
  pub declared : (k : Kind) → IsTrue (is_shown k) → (name : Text) (z : Point) → declares_a k name z ↔ declares_b k name z

-- ---- what passes are put together by

both : {A B C : Type 0} → A ↔ B → B ↔ C → A ↔ C
both p q = (λ a. q.0 (p.0 a), λ c. p.1 (q.1 c))

pub same_meaning_refl : (s : Showing) (d : Declaring) → SameMeaning s d s d
same_meaning_refl s d = record { shown = λ x name z w. (λ h. h, λ h. h); declared = λ k h name z. (λ p. p, λ p. p) }

pub same_meaning_trans : (s : Showing) (d : Declaring) (t : Showing) (e : Declaring) (u : Showing) (f : Declaring)
    → SameMeaning s d t e → SameMeaning t e u f → SameMeaning s d u f
same_meaning_trans s d t e u f p q = record {
  shown = λ x name z w. both (p.shown x name z w) (q.shown x name z w);
  declared = λ k h name z. both (p.declared k h name z) (q.declared k h name z);
}
