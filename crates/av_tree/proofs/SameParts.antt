-- What is made of parts has the same words as what is made of parts with the same words.
use Rattle.std.proofs.Common.{◌≡◌, ◌↔◌, ℕ, Bool, ℤ, List, [], ◌∷◌, inl, inr, refl, sym, ◌∙◌}
use Rattle.av_tree.specs.Folds.{IsAmong, ArePaired, IsFolded}
use Rattle.av_tree.specs.Values.{IsCombined, IsChosen}

pub combined_same : (R S X Y : ℕ → Type 0) (f : ℕ → ℕ → ℕ) (w : ℕ) → ((a : ℕ) → R a ↔ X a) → ((a : ℕ) → S a ↔ Y a) → IsCombined R S f w ↔ IsCombined X Y f w
combined_same R S X Y f w p q = (
  (λ v. record { left = v.left; right = v.right; left_has = (p v.left).0 v.left_has; right_has = (q v.right).0 v.right_has; is = v.is }),
  (λ v. record { left = v.left; right = v.right; left_has = (p v.left).1 v.left_has; right_has = (q v.right).1 v.right_has; is = v.is }),
)

pub chosen_same : (A B C D E F G H : ℕ → Type 0) (test : ℕ → ℕ → Bool) (w : ℕ) → ((a : ℕ) → A a ↔ E a) → ((a : ℕ) → B a ↔ F a) → ((a : ℕ) → C a ↔ G a) → ((a : ℕ) → D a ↔ H a)
    → IsChosen A B C D test w ↔ IsChosen E F G H test w
chosen_same A B C D E F G H test w p q r s = (
  (λ v. record {
    left = v.left;
    right = v.right;
    first = v.first;
    second = v.second;
    left_has = (p v.left).0 v.left_has;
    right_has = (q v.right).0 v.right_has;
    first_has = (r v.first).0 v.first_has;
    second_has = (s v.second).0 v.second_has;
    is = v.is;
  }),
  (λ v. record {
    left = v.left;
    right = v.right;
    first = v.first;
    second = v.second;
    left_has = (p v.left).1 v.left_has;
    right_has = (q v.right).1 v.right_has;
    first_has = (r v.first).1 v.first_has;
    second_has = (s v.second).1 v.second_has;
    is = v.is;
  }),
)

paired_too : (C : ℤ → ℕ) (V W : ℤ → ℕ → Type 0) → ((k : ℤ) (v : ℕ) → C k ≡ 1 → V k v → W k v) → (ks : List ℤ) (vs : List ℕ)
    → ((k : ℤ) → IsAmong k ks → C k ≡ 1) → ArePaired V ks vs → ArePaired W ks vs
paired_too C V W f [] [] each p = tt
paired_too C V W f [] (v ∷ vs) each p = absurd p
paired_too C V W f (k ∷ ks) [] each p = absurd p
paired_too C V W f (k ∷ ks) (v ∷ vs) each p = (f k v (each k (inl refl)) p.0, paired_too C V W f ks vs (λ j m. each j (inr m)) p.1)

pub folded_too : (C D : ℤ → ℕ) (V W : ℤ → ℕ → Type 0) (F : List ℕ → ℕ) (w : ℕ) → ((k : ℤ) → C k ≡ D k) → ((k : ℤ) (v : ℕ) → C k ≡ 1 → V k v → W k v)
    → IsFolded C V F w → IsFolded D W F w
folded_too C D V W F w same f p = record {
  fibre = p.fibre;
  words = p.words;
  is_fibre = record { ascending = p.is_fibre.ascending; each = λ k m. sym (same k) ∙ p.is_fibre.each k m; all = λ k e. p.is_fibre.all k (same k ∙ e) };
  paired = paired_too C V W f p.fibre p.words p.is_fibre.each p.paired;
  is = p.is;
}

pub folded_same : (C D : ℤ → ℕ) (V W : ℤ → ℕ → Type 0) (F : List ℕ → ℕ) (w : ℕ) → ((k : ℤ) → C k ≡ D k) → ((k : ℤ) (v : ℕ) → C k ≡ 1 → V k v ↔ W k v)
    → IsFolded C V F w ↔ IsFolded D W F w
folded_same C D V W F w same f = (
  (λ p. folded_too C D V W F w same (λ k v e. (f k v e).0) p),
  (λ p. folded_too D C W V F w (λ k. sym (same k)) (λ k v e. (f k v (same k ∙ e)).1) p),
)
