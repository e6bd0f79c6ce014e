-- The starts of the first nodes.
use Rattle.std.proofs.Common.{◌≡◌, ℕ, zero, suc, ◌+◌, ◌<◌, ◌≤◌, ℤ, IsTrue, Option, Some, List, [], ◌∷◌, ◌++◌, length, refl, sym, subst, ◌∙◌, arith, unsigned_abs, ⊎_elim, length-append}
use Rattle.std.proofs.Math.IntN.{neg_ℤ}
use Rattle.std.specs.Prelude.{slice_get}
use Rattle.std.proofs.lemmas.Int.{ints}
use Rattle.std.proofs.lemmas.Bool.{cases_eq}
use Rattle.std.proofs.lemmas.List.Elements.{All-push}
use Rattle.av_tree.specs.Points.{Point}
use Rattle.av_flat.specs.Trees.{Variable, FlatSystem}
use Rattle.av_flat.specs.Points.{has}
use Rattle.av_flat.specs.Nodes.{nodes}
use Rattle.av_flat.proofs.Sets.{has_is}
use Rattle.av_sched.specs.Arcs.{at, AreSmall}
use Rattle.av_sched.specs.Leads.{IsStart, AreStarts}
use Rattle.av_sched.specs.Offsets.{part}
use Rattle.av_sched.specs.inner.Starts.{IsSpanned}

pub record IsStarted (s : FlatSystem) (linear : List Point) (k : ℕ) (low : List ℤ) : Type 0 where
  pub size : length low ≡ k
  pub each : (n : ℕ) → n < length low → IsStart s linear n (at low n)
  pub small : AreSmall 1073741824 low

pub none_started : (s : FlatSystem) (linear : List Point) → IsStarted s linear 0 []
none_started s linear = record { size = refl; each = λ n h. absurd (omega (arith, h)); small = λ k d h. absurd (omega (arith, h)) }

same_variable : (a b : Variable) → ◌≡◌ {A = Option Variable} (Some a) (Some b) → a ≡ b
same_variable a b h = cc

start_of : (s : FlatSystem) (linear : List Point) (n : ℕ) (v : Variable) (a : Point) (x : ℤ) → slice_get (nodes s) n ≡ Some v → a ≡ part linear n → IsSpanned v.domain a x x → IsStart s linear n (neg_ℤ x)
start_of s linear n v a x e is h =
    let h' = subst (λ (b : Point). IsSpanned v.domain b x x) is h in
    record {
      none_below = λ z c.
          let same : c.variable ≡ v = same_variable c.variable v (sym c.is ∙ e) in
          let own : IsTrue (has v.domain z) = subst (λ (w : Variable). IsTrue (has w.domain z)) same c.declared in
          let b = h'.none_below z ((has_is v.domain z).0 own) in
          omega (arith, ints, b);
      point = h'.point;
      is_point = record { variable = v; is = e; declared = (has_is v.domain h'.point).1 h'.is_point };
      taken = (let t = h'.taken in omega (arith, ints, t));
    }

at_push : (low : List ℤ) (x : ℤ) (n : ℕ) → n < length low → at (low ++ x ∷ []) n ≡ at low n
at_push [] x n h = absurd (omega (arith, h))
at_push (y ∷ low) x zero h = refl
at_push (y ∷ low) x (suc n) h = at_push low x n (omega (arith, h))

at_last : (low : List ℤ) (x : ℤ) → at (low ++ x ∷ []) (length low) ≡ x
at_last [] x = refl
at_last (y ∷ low) x = at_last low x

pub started_node : (s : FlatSystem) (linear : List Point) (n : ℕ) (low : List ℤ) (v : Variable) (a : Point) (x : ℤ) → slice_get (nodes s) n ≡ Some v → a ≡ part linear n → IsSpanned v.domain a x x → IsStarted s linear n low
    → IsStarted s linear (n + 1) (low ++ neg_ℤ x ∷ [])
started_node s linear n low v a x there is span h =
    let new = low ++ neg_ℤ x ∷ [] in
    let size = length-append low (neg_ℤ x ∷ []) in
    let here : IsStart s linear (length low) (neg_ℤ x) = subst (λ (k : ℕ). IsStart s linear k (neg_ℤ x)) (sym h.size) (start_of s linear n v a x there is span) in
    record {
      size = (let z = h.size in omega (arith, z, size));
      each = λ k l. ⊎_elim
          (λ q. subst (λ (i : ℕ). IsStart s linear i (at new i)) (sym q) (subst (IsStart s linear (length low)) (sym (at_last low (neg_ℤ x))) here))
          (λ d. let m : k < length low = omega (arith, l, size, d) in subst (IsStart s linear k) (sym (at_push low (neg_ℤ x) k m)) (h.each k m)) (cases_eq k (length low));
      small = All-push (λ y. unsigned_abs y ≤ 1073741824) low (neg_ℤ x) h.small (let w = span.value_small in omega (arith, ints, w));
    }

pub all_started : (s : FlatSystem) (linear : List Point) (k : ℕ) (low : List ℤ) → k ≡ length (nodes s) → IsStarted s linear k low → AreStarts s linear low
all_started s linear k low e h = record { one_each = h.size ∙ e; each = λ n m. h.each n (let z = h.size in omega (arith, m, z, e)) }
