-- The readings of a site at the computations of its cell, in turn.
use Rattle.std.proofs.Common.{◌≡◌, ℕ, ◌+◌, ◌<◌, ◌⊎◌, inl, inr, List, [], ◌∷◌, ◌++◌, length, take, get_or, sym, ap, subst, ◌∙◌, arith, Option, Some, None, ◌↔◌, append-nil}
use Rattle.std.specs.Prelude.{All, AllPairs, Contains, IfSome}
use Rattle.std.proofs.lemmas.List.{take_more}
use Rattle.std.proofs.lemmas.List.Elements.{All-contains, All-push, All-weaker, Contains-append_left, Contains-push, Contains-push_cases}
use Rattle.std.proofs.lemmas.List.Quantifiers.{all_pairs_push}
use Rattle.av_tree.specs.Points.{Point}
use Rattle.av_flat.specs.Trees.{Piece, FlatSystem}
use Rattle.av_space.specs.declared.cells.Cell.{Cell}
use Rattle.av_space.specs.declared.layout.Slot.{Slot}
use Rattle.av_space.specs.declared.stretch.TapReading.{TapReading}
use Rattle.av_space.specs.Coordinates.{Placing}
use Rattle.av_space.specs.Taps.{Tap}
use Rattle.av_space.specs.inner.Readings.{IsReadingAt, IsReadingOf, AreReadings}
use Rattle.av_space.specs.inner.Stretches.{tap_reading}
use Rattle.av_space.proofs.Stretching.{earlier_ones}
use Rattle.av_base.proofs.Lists.{some_is}

abbrev pub listed : Option TapReading → List TapReading
listed None = []
listed (Some r) = r ∷ []

module _ (s : FlatSystem) (placings : List Placing) (cells : List Cell) (n : ℕ) (t : Tap) (piece : Piece) where
  abbrev Of : List Slot → ℕ → ℕ → ℕ → Type 0
  Of slots = IsReadingOf s placings cells n t piece slots

  abbrev At : Point → ℕ → ℕ → ℕ → Type 0
  At z c q d = IsReadingAt s placings cells n t piece z c q d

  among : (slots more : List Slot) (c q d : ℕ) → Of slots c q d → Of (slots ++ more) c q d
  among slots more c q d r = record { point = r.point; is_slot = Contains-append_left slots more (record { cycle = c; point = r.point }) r.is_slot; is = r.is }

  cases_of : (slots : List Slot) (x : Slot) (c q d : ℕ) → Of (slots ++ x ∷ []) c q d → Of slots c q d ⊎ ((x.cycle ≡ c) × At x.point x.cycle q d)
  cases_of slots x c q d r = elim (Contains-push_cases slots x (record { cycle = c; point = r.point }) r.is_slot) [
    | inl old ↦ inl (record { point = r.point; is_slot = old; is = r.is })
    | inr e ↦
        let same : x.cycle ≡ c = ap (λ (y : Slot). y.cycle) e in
        inr (same, subst (λ (z : Point). At z x.cycle q d) (sym (ap (λ (y : Slot). y.point) e)) (subst (λ (k : ℕ). At r.point k q d) (sym same) r.is))
  ]

  pub one_slot_more : (slots : List Slot) (x : Slot) (rs : List TapReading) → All (λ y. y.cycle < x.cycle) slots → AreReadings (Of slots) rs → (o : Option TapReading) → IfSome o (λ r. r.cycle ≡ x.cycle)
      → ((q d : ℕ) → At x.point x.cycle q d ↔ (◌≡◌ {A = Option TapReading} o (Some (tap_reading x.cycle q d)))) → AreReadings (Of (slots ++ x ∷ [])) (rs ++ listed o)
  one_slot_more slots x rs later h None when only = subst (AreReadings (Of (slots ++ x ∷ []))) (sym (append-nil rs)) (record {
    each = All-weaker (λ r. Of slots r.cycle r.producer.0 r.delay) (λ r. Of (slots ++ x ∷ []) r.cycle r.producer.0 r.delay) (λ r i. among slots (x ∷ []) r.cycle r.producer.0 r.delay i) rs h.each;
    all = λ c q d r. elim (cases_of slots x c q d r) [
      | inl old ↦ h.all c q d old
      | inr new ↦ let e = (only q d).0 new.1 in absurd cc
    ];
    order = h.order;
  })
  one_slot_more slots x rs later h (Some r) when only = record {
    each = All-push (λ r. Of (slots ++ x ∷ []) r.cycle r.producer.0 r.delay) rs r
        (All-weaker (λ r. Of slots r.cycle r.producer.0 r.delay) (λ r. Of (slots ++ x ∷ []) r.cycle r.producer.0 r.delay) (λ r i. among slots (x ∷ []) r.cycle r.producer.0 r.delay i) rs h.each)
        (subst (λ (k : ℕ). Of (slots ++ x ∷ []) k r.producer.0 r.delay) (sym when) (record { point = x.point; is_slot = Contains-push slots x; is = here }));
    all = λ c q d i. elim (cases_of slots x c q d i) [
      | inl old ↦ Contains-append_left rs (r ∷ []) (tap_reading c q d) (h.all c q d old)
      | inr new ↦
          let e : r ≡ tap_reading x.cycle q d = some_is r (tap_reading x.cycle q d) ((only q d).0 new.1) in
          subst (λ (k : ℕ). Contains (rs ++ r ∷ []) (tap_reading k q d)) new.0 (subst (λ (y : TapReading). Contains (rs ++ r ∷ []) y) e (Contains-push rs r))
    ];
    order = all_pairs_push (λ a b. a.cycle < b.cycle) rs r h.order (λ k d low. let i = h.each k d low in
        let l = All-contains (λ y. y.cycle < x.cycle) slots (record { cycle = (get_or rs k d).cycle; point = i.point }) later i.is_slot in omega (arith, l, when));
  }
    where
      here : At x.point x.cycle r.producer.0 r.delay
      here = (only r.producer.0 r.delay).1 (ap (λ k. Some (tap_reading k r.producer.0 r.delay)) when)

  pub next_slot : (slots : List Slot) (k : ℕ) (x : Slot) → k < length slots → x ≡ get_or slots k x → AllPairs (λ a b. a.cycle < b.cycle) slots → (rs : List TapReading) → AreReadings (Of (take k slots)) rs → (o : Option TapReading)
      → IfSome o (λ r. r.cycle ≡ x.cycle) → ((q d : ℕ) → At x.point x.cycle q d ↔ (◌≡◌ {A = Option TapReading} o (Some (tap_reading x.cycle q d))))
      → AreReadings (Of (take (k + 1) slots)) (rs ++ listed o)
  next_slot slots k x lt is order rs h o when only =
      let one : take (k + 1) slots ≡ take k slots ++ x ∷ [] = take_more slots k x lt ∙ ap (λ (y : Slot). take k slots ++ y ∷ []) (sym is) in
      let later : All (λ y. y.cycle < x.cycle) (take k slots) = subst (λ (z : Slot). All (λ y. y.cycle < z.cycle) (take k slots)) (sym is) (earlier_ones (λ a b. a.cycle < b.cycle) slots k x lt order) in
      subst (λ (l : List Slot). AreReadings (Of l) (rs ++ listed o)) (sym one) (one_slot_more (take k slots) x rs later h o when only)
