-- Marks that are set and cleared.
use Rattle.std.proofs.Common.{◌≡◌, ◌≢◌, ℕ, suc, ◌+◌, ◌<◌, ◌≤◌, List, [], ◌∷◌, length, get_or, set, replicate, refl, sym, ◌∙◌, ap, arith, Bool, true, false, inl, inr}
use Rattle.std.specs.Prelude.{Contains}
use Rattle.std.proofs.Math.ListN.{length-set}
use Rattle.std.proofs.lemmas.Bool.{cases_eq, cases_lt}
use Rattle.std.proofs.lemmas.List.{get_or-set_same, get_or-set_other, get_or-replicate, length-replicate, get_or_past, get_or_default}
use Rattle.av_clock.specs.Marked.{IsClear}
use Rattle.av_clock.specs.Marking.{IsSet}

pub never : true ≡ false → ⊥
never e = cc

-- a clear mark is one of the marks
pub clear_within : (marks : List Bool) (k : ℕ) → IsClear marks k → k < length marks
clear_within marks k clear = elim (cases_lt k (length marks)) [
  | inl lt ↦ lt
  | inr past ↦ absurd (never (sym (get_or_past marks k true past) ∙ clear))
]

-- so is a set one
pub set_within : (marks : List Bool) (k : ℕ) → IsSet marks k → k < length marks
set_within marks k set = elim (cases_lt k (length marks)) [
  | inl lt ↦ lt
  | inr past ↦ absurd (never (sym set ∙ get_or_past marks k false past))
]

-- a mark that is clear after one was set is another, and was clear
pub clear_before : (marks : List Bool) (i k : ℕ) → i < length marks → IsClear (set marks i true) k → IsClear marks k × (k ≢ i)
clear_before marks i k lt clear = elim (cases_eq k i) [
  | inl same ↦ absurd (never (sym (ap (λ j. get_or (set marks i true) j true) same ∙ get_or-set_same marks i true true lt) ∙ clear))
  | inr other ↦ (sym (get_or-set_other marks i k true true other) ∙ clear, other)
]

-- another mark stays
pub clear_after : (marks : List Bool) (i k : ℕ) (mark : Bool) → k ≢ i → IsClear marks k → IsClear (set marks i mark) k
clear_after marks i k mark other clear = get_or-set_other marks i k mark true other ∙ clear

-- a mark that was cleared
pub cleared : (marks : List Bool) (i : ℕ) → i < length marks → IsClear (set marks i false) i
cleared marks i lt = get_or-set_same marks i false true lt

-- a mark that is set after another was set or cleared
pub set_before : (marks : List Bool) (i k : ℕ) (mark : Bool) → k ≢ i → IsSet (set marks i mark) k → IsSet marks k
set_before marks i k mark other is = sym (get_or-set_other marks i k mark false other) ∙ is

-- none of many clear marks is set
pub none_set : (n k : ℕ) → IsSet (replicate n false) k → ⊥
none_set n k is = elim (cases_lt k n) [
  | inl lt ↦ never (sym is ∙ get_or-replicate n k false false lt)
  | inr past ↦ never (sym is ∙ get_or_past (replicate n false) k false (rw length-replicate past))
]

-- nor is one of many set marks clear
pub none_clear : (n k : ℕ) → IsClear (replicate n true) k → ⊥
none_clear n k is = elim (cases_lt k n) [
  | inl lt ↦ never (sym (get_or-replicate n k true true lt) ∙ is)
  | inr past ↦ never (sym (get_or_past (replicate n true) k true (rw length-replicate past)) ∙ is)
]

-- the first n of these are set, and no other is set that was clear
pub record SetsFirst (list : List ℕ) (before marks : List Bool) (n : ℕ) : Type 0 where
  pub size : length marks ≡ length before
  pub marked : (k : ℕ) → IsClear marks k → IsClear before k × ((j : ℕ) → j < n → get_or list j 0 ≢ k)
  pub others : (k : ℕ) → IsClear before k → ((j : ℕ) → j < n → get_or list j 0 ≢ k) → IsClear marks k

pub sets_none : (list : List ℕ) (marks : List Bool) → SetsFirst list marks marks 0
sets_none list marks = record { size = refl; marked = λ k clear. (clear, λ j lt. absurd (omega arith)); others = λ k clear none. clear }

pub sets_more : (list : List ℕ) (before marks : List Bool) (n index : ℕ) → n < length list → index ≡ get_or list n index → index < length marks → SetsFirst list before marks n → SetsFirst list before (set marks index true) (n + 1)
sets_more list before marks n index lt at within so_far =
    let here : get_or list n 0 ≡ index = get_or_default list n 0 index lt ∙ sym at in
    record {
      size = length-set marks index true ∙ so_far.size;
      marked = λ k clear.
          let was = clear_before marks index k within clear in
          let earlier = so_far.marked k was.0 in (
            earlier.0,
            λ j below. elim (cases_lt j n) [
              | inl before ↦ earlier.1 j before
              | inr now ↦ λ same. was.1 (sym same ∙ ap (λ i. get_or list i 0) (omega arith) ∙ here)
            ],
          );
      others = λ k clear none. clear_after marks index k true (λ same. none n (omega arith) (here ∙ sym same)) (so_far.others k clear (λ j below. none j (omega arith)));
    }

-- the number at a place is not one of the others
pub not_at : (list : List ℕ) (n k : ℕ) → length list ≤ n → ((j : ℕ) → j < n → get_or list j 0 ≢ k) → Contains list k → ⊥
not_at list n k past none (j, lt, at) = none j (omega arith) (get_or_default list j 0 k lt ∙ at)

-- and back
pub at_none : (list : List ℕ) (n k : ℕ) → n ≤ length list → (Contains list k → ⊥) → (j : ℕ) → j < n → get_or list j 0 ≢ k
at_none list n k all none j lt same =
    let within : j < length list = omega arith in
    none (j, within, get_or_default list j k 0 within ∙ same)

-- what is at a place of a list is in it
pub contains_read : (list : List ℕ) (j d : ℕ) → j < length list → Contains list (get_or list j d)
contains_read list j d lt = (j, lt, get_or_default list j (get_or list j d) d lt)

-- marks that are all the same
pub all_same : {X : Type 0} (xs : List X) (x : X) → ((k : ℕ) → k < length xs → get_or xs k x ≡ x) → xs ≡ replicate (length xs) x
all_same [] x h = refl
all_same (y ∷ xs) x h =
    let first : y ≡ x = h 0 (omega arith) in
    let rest : xs ≡ replicate (length xs) x = all_same xs x (λ k lt. h (suc k) (omega arith)) in
    ap (λ z. z ∷ xs) first ∙ ap (λ zs. x ∷ zs) rest

-- one more
pub same_more : {X : Type 0} (xs : List X) (i : ℕ) (x : X) → i < length xs → ((k : ℕ) → k < i → get_or xs k x ≡ x) → (k : ℕ) → k < i + 1 → get_or (set xs i x) k x ≡ x
same_more xs i x lt h k below = elim (cases_eq k i) [
  | inl e ↦ ap (λ j. get_or (set xs i x) j x) e ∙ get_or-set_same xs i x x lt
  | inr other ↦ get_or-set_other xs i k x x other ∙ h k (omega arith)
]

-- a mark that is there and not set is clear
pub clear_not_set : (marks : List Bool) (k : ℕ) → k < length marks → (IsSet marks k → ⊥) → IsClear marks k
clear_not_set marks k lt unset = either (get_or marks k false) refl
  where
    either : (mark : Bool) → get_or marks k false ≡ mark → IsClear marks k
    either false is = get_or_default marks k true false lt ∙ is
    either true is = absurd (unset is)
