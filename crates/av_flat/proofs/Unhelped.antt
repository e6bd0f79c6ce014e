-- Without helpers a timed system has the solutions of its flat system.
use Rattle.std.proofs.Common.{◌↔◌, ℕ, suc, ◌+◌, IsTrue, inl, inr, None, List, [], ◌∷◌, map, length, refl}
use Rattle.std.proofs.lemmas.List.Elements.{All-from_recursion, recursion_from_All}
use Rattle.av_tree.specs.Points.{Point}
use Rattle.av_tree.specs.Values.{Assignment}
use Rattle.av_tree.proofs.SameParts.{combined_same, chosen_same}
use Rattle.av_flat.specs.Trees.{Tree, Piece, Variable, FlatSystem, reference, constant, binary, choice, restriction, cases, dependence, reduction, pick, trees_of}
use Rattle.av_flat.specs.Points.{has}
use Rattle.av_flat.specs.Signatures.{is_computed}
use Rattle.av_flat.specs.Values.{Scene, HasValue, IsOfBranch}
use Rattle.av_flat.specs.Shown.{SameMeaning}
use Rattle.av_flat.specs.Solutions.{scene, Satisfies, IsSolution, shows_of, declares_of}
use Rattle.av_flat.specs.Broadcasts.{references}
use Rattle.av_flat.specs.Helped.{HelperWords, HasHelped, IsOfPiece, helped_at, HelpedSatisfies, IsHelpedSolution, helped_shows_of}
use Rattle.av_base.proofs.Lists.{each_at, each_by_place}

unhelped_tree : (s : Scene) (n : ℕ) (t : Tree) (z : Point) (w : ℕ) → HasValue s t z w ↔ HasHelped s (λ i. None) n t z w
unhelped_tree s n (reference place m) z w = ((λ p. p), (λ p. p))
unhelped_tree s n (constant k) z w = ((λ p. p), (λ p. p))
unhelped_tree s n (binary g l q) z w =
    combined_same _ _ _ _ _ w (λ v. unhelped_tree s n l z v) (λ v. unhelped_tree s (n + length (references l)) q z v)
unhelped_tree s n (choice l c q x y) z w =
    chosen_same _ _ _ _ _ _ _ _ _ w
    (λ v. unhelped_tree s n l z v)
    (λ v. unhelped_tree s (n + length (references l)) q z v)
    (λ v. unhelped_tree s (n + length (references l) + length (references q)) x z v)
    (λ v. unhelped_tree s (n + length (references l) + length (references q) + length (references x)) y z v)
unhelped_tree s n (restriction d t) z w = ((λ p. p), (λ p. p))
unhelped_tree s n (cases ts) z w = ((λ p. p), (λ p. p))
unhelped_tree s n (dependence m t) z w = ((λ p. p), (λ p. p))
unhelped_tree s n (reduction o m t inner) z w = ((λ p. p), (λ p. p))
unhelped_tree s n (pick place choices k) z w = ((λ p. p), (λ p. p))

unhelped_pieces : (s : Scene) (g : HelperWords) (place i : ℕ) (ps : List Piece) (z : Point) (w : ℕ)
    → IsOfBranch s (trees_of (map (λ p. restriction p.domain p.tree) ps)) z w ↔ IsOfPiece s (helped_at [] g 0 place) i ps z w
unhelped_pieces s g place i [] z w = ((λ p. p), (λ p. p))
unhelped_pieces s g place i (p ∷ ps) z w =
    let here = unhelped_tree s 0 p.tree z w in
    let rest = unhelped_pieces s g place (suc i) ps z w in (
      (λ h. elim h [ inl a ↦ inl (a.0, here.0 a.1) | inr b ↦ inr (rest.0 b) ]),
      (λ h. elim h [ inl a ↦ inl (a.0, here.1 a.1) | inr b ↦ inr (rest.1 b) ]),
    )

satisfied : (s : FlatSystem) (u : Assignment) (g : HelperWords) (place : ℕ) (v : Variable) (z : Point) → Satisfies s u v z ↔ HelpedSatisfies s [] u g place v z
satisfied s u g place v z = (
  (λ h. (h.0, h.1, h.2.0, (unhelped_pieces (scene s u v) g place 0 v.pieces z h.0).0 h.2.1)),
  (λ h. (h.0, h.1, (h.2, (unhelped_pieces (scene s u v) g place 0 v.pieces z h.0).1 h.3))),
)

pub helped : (s : FlatSystem) (x u : Assignment) (g : HelperWords) → IsSolution s x u → IsHelpedSolution s [] x u (λ j z. None)
helped s x u g p = record {
  declared = p.declared;
  words = p.words;
  inputs = p.inputs;
  equations = λ place v e c z here.
      (satisfied s u (λ j y. None) place v z).0
      (each_at (λ y. IsTrue (is_computed y.kind) → (k : Point) → IsTrue (has y.domain k) → Satisfies s u y k) s.variables place v
      (recursion_from_All (λ y. IsTrue (is_computed y.kind) → (k : Point) → IsTrue (has y.domain k) → Satisfies s u y k) s.variables p.equations) e c z here);
  helpers = λ j h e. absurd cc;
  others = λ j l z. refl;
}

pub unhelped : (s : FlatSystem) (x u : Assignment) (g : HelperWords) → IsHelpedSolution s [] x u g → IsSolution s x u
unhelped s x u g p = record {
  declared = p.declared;
  words = p.words;
  inputs = p.inputs;
  equations = All-from_recursion (λ v. IsTrue (is_computed v.kind) → (z : Point) → IsTrue (has v.domain z) → Satisfies s u v z) s.variables
      (each_by_place (λ v. IsTrue (is_computed v.kind) → (z : Point) → IsTrue (has v.domain z) → Satisfies s u v z) s.variables
      (λ place v e c z here. (satisfied s u g place v z).1 (p.equations place v e c z here)));
}

pub same_meaning : (s : FlatSystem) → SameMeaning (shows_of s) (declares_of s) (helped_shows_of s []) (declares_of s)
same_meaning s = record {
  shown = λ x name z w. (
    (λ p. record { solution = p.solution; helper_words = _; solves = helped s x p.solution (λ j y. None) p.solves; shown = p.shown; word = p.word }),
    (λ p. record { solution = p.solution; solves = unhelped s x p.solution p.helper_words p.solves; shown = p.shown; word = p.word }),
  );
  declared = λ k h name z. ((λ q. q), (λ q. q));
}
