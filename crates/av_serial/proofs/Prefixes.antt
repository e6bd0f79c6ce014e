-- Folds over the numbers of a fibre up to one of them, step by step.
use Rattle.std.proofs.Common.{◌≡◌, ◌↔◌, ℕ, zero, suc, ◌+◌, ℤ, pos, ◌+ℤ◌, ◌-ℤ◌, ◌<ℤ◌, ◌≤ℤ◌, Bool, true, false, if◌then◌else◌, IsTrue, int_le, nat_eq, unsigned_abs, ◌⊎◌, inl, inr, List, [], ◌∷◌, ◌++◌, refl, sym, ap, subst, ◌∙◌, arith}
use Rattle.std.specs.List.{AllByRecursion, fold}
use Rattle.std.proofs.lemmas.Int.{ints}
use Rattle.av_tree.specs.Folds.{IsAscending, IsAmong, ArePaired, IsFolded}
use Rattle.av_tree.proofs.Fibres.{IsOnce, folded_once}
use Rattle.av_flat.proofs.Sets.{equal, is_equal, at_most, is_at_most}
use Rattle.av_flat.proofs.Examples.{both_are}

-- ---- numbers up to k

-- what is counted at j, where j is not above k
abbrev pub upto : (ℤ → ℕ) → ℤ → ℤ → ℕ
upto C k j = if int_le j k then C j else 0

up_true : (b : Bool) (n : ℕ) → IsTrue b → (if b then n else 0) ≡ n
up_true true n h = refl
up_true false n h = absurd cc

pub within : (C : ℤ → ℕ) (k j : ℤ) → j ≤ℤ k → C j ≡ 1 → upto C k j ≡ 1
within C k j h e = up_true (int_le j k) (C j) (is_at_most j k h) ∙ e

pub of_upto : (C : ℤ → ℕ) (k j : ℤ) → upto C k j ≡ 1 → (j ≤ℤ k) × (C j ≡ 1)
of_upto C k j h = let r = both_are (int_le j k) (C j) h in (at_most j k r.0, r.1)

pub is_one : (n : ℕ) → (n ≡ 1) ⊎ (n ≡ 1 → ⊥)
is_one n = go (nat_eq n 1) refl
  where
    go : (t : Bool) → nat_eq n 1 ≡ t → (n ≡ 1) ⊎ (n ≡ 1 → ⊥)
    go true e = inl (equal n 1 e)
    go false e = inr (λ h. let k = is_equal n 1 h in cc)

-- ---- lists with one number more at their end

among_front : (x k : ℤ) (ks : List ℤ) → IsAmong x ks → IsAmong x (ks ++ k ∷ [])
among_front x k [] m = absurd m
among_front x k (j ∷ ks) (inl e) = inl e
among_front x k (j ∷ ks) (inr m) = inr (among_front x k ks m)

among_end : (k : ℤ) (ks : List ℤ) → IsAmong k (ks ++ k ∷ [])
among_end k [] = inl refl
among_end k (j ∷ ks) = inr (among_end k ks)

among_either : (x k : ℤ) (ks : List ℤ) → IsAmong x (ks ++ k ∷ []) → IsAmong x ks ⊎ (x ≡ k)
among_either x k [] (inl e) = inr e
among_either x k [] (inr m) = absurd m
among_either x k (j ∷ ks) (inl e) = inl (inl e)
among_either x k (j ∷ ks) (inr m) = elim (among_either x k ks m) [ inl n ↦ inl (inr n) | inr e ↦ inr e ]

all_end : (j k : ℤ) (ks : List ℤ) → AllByRecursion (λ x. j <ℤ x) ks → j <ℤ k → AllByRecursion (λ x. j <ℤ x) (ks ++ k ∷ [])
all_end j k [] a l = (l, tt)
all_end j k (x ∷ ks) a l = (a.0, all_end j k ks a.1 l)

ascending_end : (k : ℤ) (ks : List ℤ) → IsAscending ks → ((x : ℤ) → IsAmong x ks → x <ℤ k) → IsAscending (ks ++ k ∷ [])
ascending_end k [] a h = (tt, tt)
ascending_end k (j ∷ ks) a h = (all_end j k ks a.0 (h j (inl refl)), ascending_end k ks a.1 (λ x m. h x (inr m)))

paired_end : (R : ℤ → ℕ → Type 0) (k : ℤ) (b : ℕ) (ks : List ℤ) (ws : List ℕ) → ArePaired R ks ws → R k b → ArePaired R (ks ++ k ∷ []) (ws ++ b ∷ [])
paired_end R k b [] [] p r = (r, tt)
paired_end R k b [] (w ∷ ws) p r = absurd p
paired_end R k b (j ∷ ks) [] p r = absurd p
paired_end R k b (j ∷ ks) (w ∷ ws) p r = (p.0, paired_end R k b ks ws p.1 r)

pub fold_end : (f : ℕ → ℕ → ℕ) (e b : ℕ) (ws : List ℕ) → fold f e (ws ++ b ∷ []) ≡ f (fold f e ws) b
fold_end f e b [] = refl
fold_end f e b (w ∷ ws) = fold_end f (f e w) b ws

near : (low k : ℤ) → k <ℤ (low +ℤ pos (unsigned_abs (k -ℤ low) + 1))
near low k = omega (arith, ints)

-- the word at k is the word before, joined with the number's own
pub record IsStep (C : ℤ → ℕ) (R : ℤ → ℕ → Type 0) (f : ℕ → ℕ → ℕ) (e : ℕ) (B : ℤ → ℕ → Type 0) (k : ℤ) (w : ℕ) : Type 0 where
  pub before : ℕ
  pub own : ℕ
  pub before_is : B (k -ℤ pos 1) before
  pub own_is : R k own
  pub is : w ≡ f before own

-- ---- folds up to a number

module _ (C : ℤ → ℕ) (R : ℤ → ℕ → Type 0) (f : ℕ → ℕ → ℕ) (e : ℕ) where
  abbrev pub Up : ℤ → ℕ → Type 0
  Up k w = IsFolded (upto C k) R (fold f e) w

  pub nothing : (k : ℤ) → ((j : ℤ) → j ≤ℤ k → C j ≡ 1 → ⊥) → Up k e
  nothing k h = record {
    fibre = [];
    words = [];
    is_fibre = record { ascending = tt; each = λ j m. absurd m; all = λ j c. let r = of_upto C k j c in absurd (h j r.0 r.1) };
    paired = tt;
    is = refl;
  }

  pub one_more : (k : ℤ) (a b : ℕ) → C k ≡ 1 → Up (k -ℤ pos 1) a → R k b → Up k (f a b)
  one_more k a b c p r =
      let below : (x : ℤ) → IsAmong x p.fibre → x <ℤ k = λ x m. let q = (of_upto C (k -ℤ pos 1) x (p.is_fibre.each x m)).0 in omega (arith, ints, q) in
      record {
        fibre = p.fibre ++ k ∷ [];
        words = p.words ++ b ∷ [];
        is_fibre = record {
          ascending = ascending_end k p.fibre p.is_fibre.ascending below;
          each = λ x m. elim (among_either x k p.fibre m) [
            | inl n ↦ let q = of_upto C (k -ℤ pos 1) x (p.is_fibre.each x n) in let l = q.0 in within C k x (omega (arith, ints, l)) q.1
            | inr same ↦ within C k x (omega (arith, ints, same)) (ap C same ∙ c)
          ];
          all = λ x h. let q = of_upto C k x h in split x q.0 q.1;
        };
        paired = paired_end R k b p.fibre p.words p.paired r;
        is = ap (λ v. f v b) p.is ∙ sym (fold_end f e b p.words);
      }
    where
      split : (x : ℤ) → x ≤ℤ k → C x ≡ 1 → IsAmong x (p.fibre ++ k ∷ [])
      split x l h = go (int_le k x) refl
        where
          go : (t : Bool) → int_le k x ≡ t → IsAmong x (p.fibre ++ k ∷ [])
          go true q = let same : x ≡ k = omega (arith, ints, l, q) in subst (λ (y : ℤ). IsAmong y (p.fibre ++ k ∷ [])) (sym same) (among_end k p.fibre)
          go false q = among_front x k p.fibre (p.is_fibre.all x (within C (k -ℤ pos 1) x (omega (arith, ints, l, q)) h))

  pub same_up : (j k : ℤ) (w : ℕ) → ((x : ℤ) → C x ≡ 1 → x ≤ℤ j → x ≤ℤ k) → ((x : ℤ) → C x ≡ 1 → x ≤ℤ k → x ≤ℤ j) → Up j w → Up k w
  same_up j k w h g p = record {
    fibre = p.fibre;
    words = p.words;
    is_fibre = record {
      ascending = p.is_fibre.ascending;
      each = λ x m. let q = of_upto C j x (p.is_fibre.each x m) in within C k x (h x q.1 q.0) q.1;
      all = λ x c. let q = of_upto C k x c in p.is_fibre.all x (within C j x (g x q.1 q.0) q.1);
    };
    paired = p.paired;
    is = p.is;
  }

  -- a number that is not counted adds nothing
  pub one_less : (k : ℤ) (w : ℕ) → (C k ≡ 1 → ⊥) → Up (k -ℤ pos 1) w → Up k w
  one_less k w n p = same_up (k -ℤ pos 1) k w (λ x c l. omega (arith, ints, l)) (λ x c l. apart x c l) p
    where
      apart : (x : ℤ) → C x ≡ 1 → x ≤ℤ k → x ≤ℤ (k -ℤ pos 1)
      apart x c l = go (int_le k x) refl
        where
          go : (t : Bool) → int_le k x ≡ t → x ≤ℤ (k -ℤ pos 1)
          go true q = let same : x ≡ k = omega (arith, ints, l, q) in absurd (n (ap C (sym same) ∙ c))
          go false q = omega (arith, ints, l, q)

  -- up to a number that none is above, the fold is the whole
  pub whole : (k : ℤ) (w : ℕ) → ((j : ℤ) → C j ≡ 1 → j ≤ℤ k) → Up k w ↔ IsFolded C R (fold f e) w
  whole k w top = (
    (λ p. record {
      fibre = p.fibre;
      words = p.words;
      is_fibre = record { ascending = p.is_fibre.ascending; each = λ x m. (of_upto C k x (p.is_fibre.each x m)).1; all = λ x c. p.is_fibre.all x (within C k x (top x c) c) };
      paired = p.paired;
      is = p.is;
    }),
    (λ p. record {
      fibre = p.fibre;
      words = p.words;
      is_fibre = record {
        ascending = p.is_fibre.ascending;
        each = λ x m. let c = p.is_fibre.each x m in within C k x (top x c) c;
        all = λ x h. p.is_fibre.all x (of_upto C k x h).1;
      };
      paired = p.paired;
      is = p.is;
    }),
  )

  pub empty : (w : ℕ) → ((j : ℤ) → C j ≡ 1 → ⊥) → (w ≡ e) ↔ IsFolded C R (fold f e) w
  empty w none = (
    (λ p. record { fibre = []; words = []; is_fibre = record { ascending = tt; each = λ j m. absurd m; all = λ j c. absurd (none j c) }; paired = tt; is = p }),
    (λ p. p.is ∙ emptied p.fibre p.words p.is_fibre.each p.paired),
  )
    where
      emptied : (ks : List ℤ) (ws : List ℕ) → ((j : ℤ) → IsAmong j ks → C j ≡ 1) → ArePaired R ks ws → fold f e ws ≡ e
      emptied [] [] h p = refl
      emptied [] (w ∷ ws) h p = absurd p
      emptied (k ∷ ks) ws h p = absurd (none k (h k (inl refl)))

  module _ (low : ℤ) (lowest : (j : ℤ) → C j ≡ 1 → low ≤ℤ j) (words : (k : ℤ) → C k ≡ 1 → (b : ℕ) × R k b) where
    found_within : (n : ℕ) (k : ℤ) → k <ℤ (low +ℤ pos n) → (w : ℕ) × Up k w
    found_within zero k l = (e, nothing k (λ j m c. let q = lowest j c in absurd (omega (arith, ints, l, m, q))))
    found_within (suc n) k l =
        let p = found_within n (k -ℤ pos 1) (omega (arith, ints, l)) in
        elim (is_one (C k)) [
          | inl c ↦ let b = words k c in (f p.0 b.0, one_more k p.0 b.0 c p.1 b.1)
          | inr c ↦ (p.0, one_less k p.0 c p.1)
        ]

    pub found : (k : ℤ) → (w : ℕ) × Up k w
    found k = found_within (unsigned_abs (k -ℤ low) + 1) k (near low k)

    pub is_found : ((k : ℤ) → IsOnce (R k)) → (k : ℤ) (w : ℕ) → C k ≡ 1 → Up k w → IsStep C R f e (λ j a. Up j a) k w
    is_found once k w c p =
        let a = found (k -ℤ pos 1) in
        let b = words k c in
        record {
          before = a.0;
          own = b.0;
          before_is = a.1;
          own_is = b.1;
          is = folded_once (upto C k) R (fold f e) once w (f a.0 b.0) p (one_more k a.0 b.0 c a.1 b.1);
        }

  -- ---- chains: W is a word for each number, made from that of the number before

  abbrev pub Before : (ℤ → ℕ → Type 0) → ℤ → ℕ → Type 0
  Before W k a = ((C k ≡ 1) × W k a) ⊎ ((C k ≡ 1 → ⊥) × (a ≡ e))

  -- below a gap nothing is counted
  abbrev pub Joined : Type 0
  Joined = (k : ℤ) → C k ≡ 1 → (C (k -ℤ pos 1) ≡ 1 → ⊥) → (j : ℤ) → j ≤ℤ (k -ℤ pos 1) → C j ≡ 1 → ⊥

  module _ (low : ℤ) (lowest : (j : ℤ) → C j ≡ 1 → low ≤ℤ j) (joined : Joined) (W : ℤ → ℕ → Type 0) where
    -- what is made step by step is the fold
    chained_within : ((k : ℤ) (w : ℕ) → C k ≡ 1 → W k w → IsStep C R f e (Before W) k w)
        → (n : ℕ) (k : ℤ) (w : ℕ) → k <ℤ (low +ℤ pos n) → C k ≡ 1 → W k w → Up k w
    chained_within step zero k w l c p = absurd (let q = lowest k c in omega (arith, ints, l, q))
    chained_within step (suc n) k w l c p =
        let s = step k w c p in
        let before : Up (k -ℤ pos 1) s.before = elim s.before_is [
          | inl h ↦ chained_within step n (k -ℤ pos 1) s.before (omega (arith, ints, l)) h.0 h.1
          | inr h ↦ subst (λ (a : ℕ). Up (k -ℤ pos 1) a) (sym h.1) (nothing (k -ℤ pos 1) (joined k c h.0))
        ] in
        subst (λ (v : ℕ). Up k v) (sym s.is) (one_more k s.before s.own c before s.own_is)

    pub chained : ((k : ℤ) (w : ℕ) → C k ≡ 1 → W k w → IsStep C R f e (Before W) k w) → (k : ℤ) (w : ℕ) → C k ≡ 1 → W k w → Up k w
    chained step k w c p = chained_within step (unsigned_abs (k -ℤ low) + 1) k w (near low k) c p

    -- and the folds are made step by step
    pub unchained : ((k : ℤ) → IsOnce (R k)) → ((k : ℤ) → C k ≡ 1 → (b : ℕ) × R k b) → ((k : ℤ) (a : ℕ) → C k ≡ 1 → Up k a → W k a)
        → (k : ℤ) (w : ℕ) → C k ≡ 1 → Up k w → IsStep C R f e (Before W) k w
    unchained once words forth k w c p =
        let s = is_found low lowest words once k w c p in
        record {
          before = s.before;
          own = s.own;
          before_is = elim (is_one (C (k -ℤ pos 1))) [
            | inl h ↦ inl (h, forth (k -ℤ pos 1) s.before h s.before_is)
            | inr h ↦ inr (h, folded_once (upto C (k -ℤ pos 1)) R (fold f e) once s.before e s.before_is (nothing (k -ℤ pos 1) (joined k c h)))
          ];
          own_is = s.own_is;
          is = s.is;
        }
