-- The moments of a place, one computation after another in the order of the counter's numbers, and the site that they make.
use Rattle.std.proofs.Common.{◌≡◌, ℕ, zero, suc, ◌+◌, ◌<◌, ◌⊎◌, inl, inr, List, [], ◌∷◌, ◌++◌, length, refl, sym, ap, subst, ◌∙◌, arith, IsTrue, Some}
use Rattle.std.specs.Prelude.{slice_get, Contains}
use Rattle.std.specs.List.{AllByRecursion}
use Rattle.std.proofs.lemmas.Bool.{cases_lt}
use Rattle.av_base.specs.declared.width.Width.{Width}
use Rattle.av_base.proofs.Lists.{get_cases, get_first, each_by_place, each_weaker, some_is, place_in}
use Rattle.av_tree.specs.Points.{Point}
use Rattle.av_flat.specs.Points.{has}
use Rattle.av_space.specs.declared.layout.Slot.{Slot}
use Rattle.av_space.proofs.Elements.{in_range}
use Rattle.av_kinds.specs.declared.program.WordSource.{WordSource}
use Rattle.av_kinds.specs.declared.program.WordSource.TheVariants.{Word}
use Rattle.av_kinds.specs.declared.program.Selection.{Selection}
use Rattle.av_kinds.specs.declared.program.Inlet.{Inlet}
use Rattle.av_kinds.specs.Programs.{source_by}
use Rattle.av_history.specs.Performing.{Array, ComputesOn, Spot}
use Rattle.av_build.specs.declared.moments.Moment.{Moment}
use Rattle.av_build.specs.inner.Moments.{selections_from, last_from, site_by}
use Rattle.av_build.specs.inner.Orders.{IsInOrder, IsAt, IsMoment, AreMomentsTo, AreMoments}
use Rattle.av_build.specs.inner.Programmed.{IsRight, IsSiteFor}
use Rattle.av_build.proofs.Appended.{get_right}
use Rattle.av_build.proofs.SiteLemmas.{AreAscending, moment_taken, selections_are, last_is}

-- ---- one computation after another

module _ (count : ℕ → ℕ) (slots : List Slot) (order : List ℕ) (R : Point → Type 0) (P : Point → ℕ → WordSource → Type 0) where
  pub no_moments : AreMomentsTo count slots order R P 0 []
  no_moments = record {
    each = λ k t is. absurd cc;
    all = λ i slot low at read. absurd (omega (arith, low));
    rises = λ j k t u lt is_t is_u. absurd cc;
  }

  module _ (n : ℕ) (moments : List Moment) (h : AreMomentsTo count slots order R P n moments) (slot : Slot) (at : IsAt slots order n slot) where
    longer : (t : Moment) → IsMoment count slots order R P n t → IsMoment count slots order R P (n + 1) t
    longer t m = record { index = m.index; low = (let l = m.low in omega (arith, l)); slot = m.slot; is_at = m.is_at; read = m.read; number = m.number; source = m.source }

    one_slot : (s : Slot) → IsAt slots order n s → slot ≡ s
    one_slot s other = some_is slot s (sym at.is_slot ∙ ap (λ (k : ℕ). slice_get slots k) (some_is at.place other.place (sym at.is_place ∙ other.is_place)) ∙ other.is_slot)

    -- none for one that is not read
    pub none_more : (R slot.point → ⊥) → AreMomentsTo count slots order R P (n + 1) moments
    none_more never = record {
      each = λ k t is. longer t (h.each k t is);
      all = λ i s low other read. (elim (cases_lt i n) [
        | inl l ↦ h.all i s l other read
        | inr ge ↦ absurd (let e : i ≡ n = omega (arith, low, ge) in never (subst (λ (x : Slot). R x.point) (sym (one_slot s (subst (λ (k : ℕ). IsAt slots order k s) e other))) read))
      ]);
      rises = h.rises;
    }

    -- one for one that is
    pub one_more : IsInOrder count slots order → R slot.point → (t : Moment) → t.number ≡ count slot.cycle → P slot.point slot.cycle t.source → AreMomentsTo count slots order R P (n + 1) (moments ++ t ∷ [])
    one_more in_order read t number source = record {
      each = λ k u is. each k u is;
      all = λ i s low other is_read. all i s low other is_read;
      rises = λ j k u v lt is_u is_v. rises j k u v lt is_u is_v;
    }
      where
        own : IsMoment count slots order R P (n + 1) t
        own = record { index = n; low = omega arith; slot = slot; is_at = at; read = read; number = number; source = source }

        -- one before, or the last one
        by_place : (k : ℕ) (u : Moment) → slice_get (moments ++ t ∷ []) k ≡ Some u → (slice_get moments k ≡ Some u) ⊎ ((k ≡ length moments) × (t ≡ u))
        by_place k u is = elim (get_cases moments (t ∷ []) k u is) [
          | inl l ↦ inl l
          | inr b ↦ inr (last b.0 b.1 b.2)
        ]
          where
            last : (j : ℕ) → k ≡ length moments + j → slice_get (t ∷ []) j ≡ Some u → (k ≡ length moments) × (t ≡ u)
            last zero e f = (omega (arith, e), some_is t u f)
            last (suc j) e f = absurd cc

        each : (k : ℕ) (u : Moment) → slice_get (moments ++ t ∷ []) k ≡ Some u → IsMoment count slots order R P (n + 1) u
        each k u is = elim (by_place k u is) [
          | inl l ↦ longer u (h.each k u l)
          | inr b ↦ subst (λ (v : Moment). IsMoment count slots order R P (n + 1) v) b.1 own
        ]

        behind : slice_get (moments ++ t ∷ []) (length moments) ≡ Some t
        behind = let e : length moments + 0 ≡ length moments = omega arith in subst (λ (k : ℕ). slice_get (moments ++ t ∷ []) k ≡ Some t) e (get_right moments (t ∷ []) 0 t refl)

        all : (i : ℕ) (s : Slot) → i < n + 1 → IsAt slots order i s → R s.point → (k : ℕ) × (u : Moment) × (slice_get (moments ++ t ∷ []) k ≡ Some u) × (u.number ≡ count s.cycle) × P s.point s.cycle u.source
        all i s low other is_read = elim (cases_lt i n) [
          | inl l ↦ (let m = h.all i s l other is_read in (m.0, m.1, get_first moments (t ∷ []) m.0 m.1 m.2, m.3, m.4))
          | inr ge ↦ (
              let e : i ≡ n = omega (arith, low, ge) in
              let same = one_slot s (subst (λ (k : ℕ). IsAt slots order k s) e other) in
              (length moments, t, behind, number ∙ ap (λ (x : Slot). count x.cycle) same, subst (λ (x : Slot). P x.point x.cycle t.source) same source))
        ]

        rises : (j k : ℕ) (u v : Moment) → j < k → slice_get (moments ++ t ∷ []) j ≡ Some u → slice_get (moments ++ t ∷ []) k ≡ Some v → u.number < v.number
        rises j k u v lt is_u is_v = elim (by_place j u is_u) [
          | inl a ↦ elim (by_place k v is_v) [
            | inl b ↦ h.rises j k u v lt a b
            | inr b ↦ (
                let m = h.each j u a in
                let l = in_order.rises m.index n m.is_at.place at.place m.slot slot m.low m.is_at.is_place at.is_place m.is_at.is_slot at.is_slot in
                let e = m.number in
                let f = number in
                let g = ap (λ (x : Moment). x.number) b.1 in
                omega (arith, l, e, f, g))
          ]
          | inr a ↦ elim (by_place k v is_v) [
            | inl b ↦ absurd (let r = in_range moments k v b in let e = a.0 in omega (arith, r, e, lt))
            | inr b ↦ absurd (let e = a.0 in let f = b.0 in omega (arith, e, f, lt))
          ]
        ]

-- ---- their site

ascending : (moments : List Moment) → ((j k : ℕ) (t u : Moment) → j < k → slice_get moments j ≡ Some t → slice_get moments k ≡ Some u → t.number < u.number) → AreAscending moments
ascending [] h = tt
ascending (t ∷ moments) h = (each_by_place (λ (u : Moment). t.number < u.number) moments (λ k u e. h 0 (suc k) t u (omega arith) refl e), ascending moments (λ i j x y l a b. h (suc i) (suc j) x y (omega (arith, l)) a b))

-- the computations of a spot
pub record AreSpotSlots (a : Array) (at : Spot) (slots : List Slot) : Type 0 where
  pub each : (k : ℕ) (slot : Slot) → slice_get slots k ≡ Some slot → ComputesOn a at.cell slot.cycle at.node slot.point × IsTrue (has at.piece.domain slot.point)
  pub all : (c : ℕ) (z : Point) → ComputesOn a at.cell c at.node z → IsTrue (has at.piece.domain z) → Contains slots (record { cycle = c; point = z })

module _ (a : Array) (count : ℕ → ℕ) (at : Spot) (slots : List Slot) (are_slots : AreSpotSlots a at slots) (order : List ℕ) (in_order : IsInOrder count slots order) (R : Point → Type 0) (P : Point → ℕ → WordSource → Type 0) where
  -- a number with a source that is right at a computation with this number
  abbrev Tells : ℕ → WordSource → Type 0
  Tells n source = (c : ℕ) × (z : Point) × ComputesOn a at.cell c at.node z × IsTrue (has at.piece.domain z) × R z × P z c source × (n ≡ count c)

  told : (n : ℕ) (t : Moment) → IsMoment count slots order R P n t → Tells t.number t.source
  told n t m = let s = are_slots.each m.is_at.place m.slot m.is_at.is_slot in (m.slot.cycle, m.slot.point, s.0, s.1, m.read, m.source, m.number)

  right : (n : ℕ) (source : WordSource) → Tells n source → (source ≡ Word 0) ⊎ IsRight a at R P source
  right n source (c, z, computes, inside, read, is, number) = inr (c, z, computes, inside, read, is)

  ending : (n : ℕ) (source : WordSource) → Tells n source → (c : ℕ) × (z : Point) × ComputesOn a at.cell c at.node z × (n ≡ count c)
  ending n source (c, z, computes, inside, read, is, number) = (c, z, computes, number)

  -- the moment of a computation that is read
  moment_of : (moments : List Moment) → AreMoments count slots order R P moments → (c : ℕ) (z : Point) → ComputesOn a at.cell c at.node z → IsTrue (has at.piece.domain z) → R z
      → (k : ℕ) × (t : Moment) × (slice_get moments k ≡ Some t) × (t.number ≡ count c) × P z c t.source
  moment_of moments h c z computes inside read =
      let slot : Slot = record { cycle = c; point = z } in
      let k = place_in slots slot (are_slots.all c z computes inside) in
      let i = in_order.all k.0 (in_range slots k.0 slot k.1) in
      h.all i.0 slot (in_range order i.0 k.0 i.1) (record { place = k.0; is_place = i.1; is_slot = k.1 }) read

  pub site_for : (inlet : Inlet) (width : Width) (moments : List Moment) → AreMoments count slots order R P moments → IsSiteFor a count at R P (site_by inlet width moments)
  site_for inlet width [] h = record {
    each = (tt, inl refl);
    lasts = tt;
    all = λ c z computes inside read. (let m = moment_of [] h c z computes inside read in absurd (none m.0 m.1 m.2));
  }
    where
      none : (k : ℕ) (t : Moment) → slice_get [] k ≡ Some t → ⊥
      none k t e = absurd cc
  site_for inlet width (t ∷ moments) h =
      let up = ascending (t ∷ moments) h.rises in
      let here : Tells t.number t.source = told (length order) t (h.each 0 t refl) in
      let later : AllByRecursion (λ (u : Moment). Tells u.number u.source) moments = each_by_place (λ (u : Moment). Tells u.number u.source) moments (λ k u is. told (length order) u (h.each (suc k) u is)) in
      let selections = selections_are Tells t moments here later in
      let last = last_is Tells t moments here later in
      record {
        each = (
          each_weaker (λ (l : Selection). Tells l.last l.source) (λ (l : Selection). (l.source ≡ Word 0) ⊎ IsRight a at R P l.source) (λ l told. right l.last l.source told) (selections_from t moments) selections,
          right last.0 (last_from t moments) last.1,
        );
        lasts = each_weaker (λ (l : Selection). Tells l.last l.source) (λ (l : Selection). (c : ℕ) × (z : Point) × ComputesOn a at.cell c at.node z × (l.last ≡ count c)) (λ l told. ending l.last l.source told) (selections_from t moments) selections;
        all = λ c z computes inside read.
            let m = moment_of (t ∷ moments) h c z computes inside read in
            let taken = moment_taken t moments up m.0 m.1 m.2 in
            let at_number : source_by (count c) (last_from t moments) (selections_from t moments) ≡ m.1.source = subst (λ (n : ℕ). source_by n (last_from t moments) (selections_from t moments) ≡ m.1.source) m.3 taken in
            subst (P z c) (sym at_number) m.4;
      }
