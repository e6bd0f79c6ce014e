-- One more reading: the last stretch goes on, or ends and another begins.
use Rattle.std.proofs.Common.{◌≡◌, ℕ, suc, ◌+◌, ◌<◌, ◌≤◌, inl, inr, List, [], ◌∷◌, ◌++◌, length, take, get_or, refl, sym, subst, ap, ◌∙◌, arith, append_assoc}
use Rattle.std.proofs.lemmas.List.{get_or-take, get_or_default, length-take, take_more, take_all, append-nil}
use Rattle.std.specs.Prelude.{All, AllPairs, Contains}
use Rattle.std.proofs.lemmas.List.Elements.{All-contains, All-nil, All-push, All-weaker, Contains-append_left, Contains-push, Contains-push_cases}
use Rattle.std.proofs.lemmas.List.Quantifiers.{all_pairs_push}
use Rattle.av_space.specs.declared.cells.Link.{Link}
use Rattle.av_space.specs.declared.stretch.TapReading.{TapReading}
use Rattle.av_space.specs.Links.{IsLinkBefore}
use Rattle.av_space.specs.inner.Stretches.{IsStretchOf, AreApartBy, AreLinksIn, HasLinks, IsAt, Told, AreByCycle, IsOpen, HasOpen, tap_reading}

-- the stretch that begins with a reading
abbrev pub begun : ℕ → ℕ → TapReading → Link
begun p j r = record { consumer = p; producer = r.producer.0; site = j; delay = r.delay; first = r.cycle; last = r.cycle }

-- a reading as it is told
-- the readings so far, and one in a later cycle
module _ (rs : List TapReading) (r : TapReading) (later : All (λ x. x.cycle < r.cycle) rs) where
  more : List TapReading
  more = rs ++ r ∷ []

  is_before : (c q d : ℕ) → Contains rs (tap_reading c q d) → c < r.cycle
  is_before c q d t = All-contains (λ x. x.cycle < r.cycle) rs (tap_reading c q d) later t

  among : (c q d : ℕ) → Contains rs (tap_reading c q d) → Contains (rs ++ r ∷ []) (tap_reading c q d)
  among c q d t = Contains-append_left rs (r ∷ []) (tap_reading c q d) t

  stretch_kept : (l : Link) → IsStretchOf (Told rs) l → IsStretchOf (Told (rs ++ r ∷ [])) l
  stretch_kept l s = record {
    ordered = s.ordered;
    begins = among l.first l.producer l.delay s.begins;
    ends = among l.last l.producer l.delay s.ends;
    between = λ c q d low high t. elim (Contains-push_cases rs r (tap_reading c q d) t) [
      | inl old ↦ s.between c q d low high old
      | inr e ↦ absurd (omega (arith, is_before l.last l.producer l.delay s.ends, ap (λ (x : TapReading). x.cycle) e))
    ];
  }

  apart_kept : (a b : Link) → AreApartBy (Told rs) a b → AreApartBy (Told (rs ++ r ∷ [])) a b
  apart_kept a b h n same = h (n.0, n.1, λ c q d low high t. n.2 c q d low high (among c q d t)) same

  module _ (p j : ℕ) (ended : List Link) (last : Link) (o : IsOpen p j rs ended last) where
    last_before : last.last < r.cycle
    last_before = is_before last.last last.producer last.delay o.last_is.ends

    -- the reading goes on with the last stretch
    pub prolonged : (r.producer.0 ≡ last.producer) × (r.delay ≡ last.delay) → IsOpen p j (rs ++ r ∷ []) ended (record last { last = r.cycle })
    prolonged same = record {
      within = o.within;
      last_within = o.last_within;
      each = All-weaker (IsStretchOf (Told rs)) (IsStretchOf (Told (rs ++ r ∷ []))) stretch_kept ended o.each;
      last_is = record {
        ordered = omega (arith, o.last_is.ordered, last_before);
        begins = among last.first last.producer last.delay o.last_is.begins;
        ends = rw (sym same.0, sym same.1) (Contains-push rs r);
        between = λ c q d low high t. elim (Contains-push_cases rs r (tap_reading c q d) t) [
          | inl old ↦ o.last_is.between c q d low (All-contains (λ x. x.cycle ≤ last.last) rs (tap_reading c q d) o.latest old) old
          | inr e ↦ (sym (ap (λ (x : TapReading). x.producer.0) e) ∙ same.0, sym (ap (λ (x : TapReading). x.delay) e) ∙ same.1)
        ];
      };
      all = λ c q d t. elim (Contains-push_cases rs r (tap_reading c q d) t) [
        | inl old ↦ elim (o.all c q d old) [ inl x ↦ inl x | inr y ↦ inr (y.0, omega (arith, y.1, last_before)) ]
        | inr e ↦ let f = ap (λ (x : TapReading). x.cycle) e in inr (omega (arith, f, o.last_is.ordered, last_before), omega (arith, f))
      ];
      maximal = λ i k d lt le. apart_kept (get_or ended i d) (get_or ended k d) (o.maximal i k d lt le);
      last_maximal = λ k d lt n same'. apart_kept (get_or ended k d) last (o.last_maximal k d lt) n same';
      order = o.order;
      last_order = o.last_order;
      latest = All-push (λ x. x.cycle ≤ r.cycle) rs r (All-weaker (λ x. x.cycle < r.cycle) (λ x. x.cycle ≤ r.cycle) (λ x h. omega arith) rs later) (omega arith);
    }

    -- the last stretch has ended, and the reading begins another
    pub renewed : ((r.producer.0 ≡ last.producer) × (r.delay ≡ last.delay) → ⊥) → IsOpen p j (rs ++ r ∷ []) (ended ++ last ∷ []) (begun p j r)
    renewed differs = record {
      within = All-push (λ l. IsAt p j l.consumer l.site) ended last o.within o.last_within;
      last_within = (refl, refl);
      each = All-push (IsStretchOf (Told (rs ++ r ∷ []))) ended last (All-weaker (IsStretchOf (Told rs)) (IsStretchOf (Told (rs ++ r ∷ []))) stretch_kept ended o.each) (stretch_kept last o.last_is);
      last_is = record {
        ordered = omega arith;
        begins = Contains-push rs r;
        ends = Contains-push rs r;
        between = λ c q d low high t. elim (Contains-push_cases rs r (tap_reading c q d) t) [
          | inl old ↦ absurd (omega (arith, is_before c q d old))
          | inr e ↦ (sym (ap (λ (x : TapReading). x.producer.0) e), sym (ap (λ (x : TapReading). x.delay) e))
        ];
      };
      all = λ c q d t. elim (Contains-push_cases rs r (tap_reading c q d) t) [
        | inl old ↦ inl (elim (o.all c q d old) [ inl x ↦ (x.0, Contains-append_left ended (last ∷ []) x.0 x.1, x.2, x.3) | inr y ↦ (last, Contains-push ended last, y.0, y.1) ])
        | inr e ↦ let f = ap (λ (x : TapReading). x.cycle) e in inr (omega (arith, f), omega (arith, f))
      ];
      maximal = all_pairs_push (AreApartBy (Told (rs ++ r ∷ []))) ended last (λ i k d lt le. apart_kept (get_or ended i d) (get_or ended k d) (o.maximal i k d lt le)) (λ k d lt. apart_kept (get_or ended k d) last (o.last_maximal k d lt));
      last_maximal = All-push (λ l. AreApartBy (Told (rs ++ r ∷ [])) l (begun p j r)) ended last
          (λ k d lt n same. n.2 last.first last.producer last.delay (o.last_order k d lt) (omega (arith, o.last_is.ordered, last_before)) (among last.first last.producer last.delay o.last_is.begins))
          (λ n same. differs (sym same.0, sym same.1));
      order = all_pairs_push (λ a b. a.last < b.first) ended last o.order o.last_order;
      last_order = All-push (λ l. l.last < r.cycle) ended last (All-weaker (λ l. l.last < last.first) (λ l. l.last < r.cycle) (λ l h. omega (arith, h, o.last_is.ordered, last_before)) ended o.last_order) last_before;
      latest = All-push (λ x. x.cycle ≤ r.cycle) rs r (All-weaker (λ x. x.cycle < r.cycle) (λ x. x.cycle ≤ r.cycle) (λ x h. omega arith) rs later) (omega arith);
    }

-- the first reading
pub started : (p j : ℕ) (r : TapReading) → IsOpen p j (r ∷ []) [] (begun p j r)
started p j r = record {
  within = All-nil (λ l. IsAt p j l.consumer l.site);
  last_within = (refl, refl);
  each = All-nil (IsStretchOf (Told (r ∷ [])));
  last_is = record {
    ordered = omega arith;
    begins = Contains-push [] r;
    ends = Contains-push [] r;
    between = λ c q d low high t. elim (Contains-push_cases [] r (tap_reading c q d) t) [
      | inl old ↦ absurd (omega (arith, old.1))
      | inr e ↦ (sym (ap (λ (x : TapReading). x.producer.0) e), sym (ap (λ (x : TapReading). x.delay) e))
    ];
  };
  all = λ c q d t. elim (Contains-push_cases [] r (tap_reading c q d) t) [
    | inl old ↦ absurd (omega (arith, old.1))
    | inr e ↦ let f = ap (λ (x : TapReading). x.cycle) e in inr (omega (arith, f), omega (arith, f))
  ];
  maximal = λ i k d lt le. absurd (omega (arith, lt, le));
  last_maximal = All-nil (λ l. AreApartBy (Told (r ∷ [])) l (begun p j r));
  order = λ i k d lt le. absurd (omega (arith, lt, le));
  last_order = All-nil (λ l. l.last < r.cycle);
  latest = All-push (λ x. x.cycle ≤ r.cycle) [] r (All-nil (λ x. x.cycle ≤ r.cycle)) (omega arith);
}

-- after the last reading
pub ended_all : (p j : ℕ) (rs : List TapReading) (ended : List Link) (last : Link) → IsOpen p j rs ended last → AreLinksIn (Told rs) (IsAt p j) (ended ++ last ∷ [])
ended_all p j rs ended last o = record {
  within = All-push (λ l. IsAt p j l.consumer l.site) ended last o.within o.last_within;
  each = All-push (IsStretchOf (Told rs)) ended last o.each o.last_is;
  all = λ k i c q d at t. elim (o.all c q d t) [
    | inl x ↦ let w = All-contains (λ l. IsAt p j l.consumer l.site) ended x.0 o.within x.1 in (x.0, Contains-append_left ended (last ∷ []) x.0 x.1, (w.0 ∙ sym at.0, w.1 ∙ sym at.1, x.2, x.3))
    | inr y ↦ (last, Contains-push ended last, (o.last_within.0 ∙ sym at.0, o.last_within.1 ∙ sym at.1, y.0, y.1))
  ];
  maximal = all_pairs_push (AreApartBy (Told rs)) ended last o.maximal o.last_maximal;
  order = all_pairs_push IsLinkBefore ended last
      (λ i k d lt le. in_order (get_or ended i d) (get_or ended k d) (o.within i d (omega (arith, lt, le))) (o.within k d le) (o.order i k d lt le))
      (λ k d lt. in_order (get_or ended k d) last (o.within k d lt) o.last_within (o.last_order k d lt));
}
  where
    in_order : (a b : Link) → IsAt p j a.consumer a.site → IsAt p j b.consumer b.site → a.last < b.first → IsLinkBefore a b
    in_order a b wa wb lt = inr (inr (wa.0 ∙ sym wb.0, wa.1 ∙ sym wb.1, lt))

-- ---- the readings in turn

pub earlier_ones : {X : Type 0} (R : X → X → Type 0) (xs : List X) (n : ℕ) (d : X) → n < length xs → AllPairs R xs → All (λ x. R x (get_or xs n d)) (take n xs)
earlier_ones R xs n d lt order k e low =
    let short : k < n = omega (arith, low, length-take n xs) in
    subst (λ (x : _). R x (get_or xs n d)) (sym (get_or-take n xs k e short))
    (subst (λ (y : _). R (get_or xs k e) y) (get_or_default xs n e d lt) (order k n e short lt))

module _ (p j : ℕ) (rs rest : List TapReading) (first : TapReading) (is : rs ≡ first ∷ rest) (i : ℕ) (d : TapReading) (lt : i < length rest) (order : AreByCycle rs) (old new : List Link) (last : Link) (o : HasOpen p j (take (suc i) rs) old new last) where
  within : suc i < length rs
  within = omega (arith, ap (length {A = TapReading}) is, lt)

  next_is : get_or rs (suc i) d ≡ get_or rest i d
  next_is = ap (λ (l : List TapReading). get_or l (suc i) d) is

  one_more : take (suc (i + 1)) rs ≡ take (suc i) rs ++ get_or rest i d ∷ []
  one_more = (let e : suc (i + 1) ≡ suc i + 1 = omega arith in ap (λ (n : ℕ). take n rs) e) ∙ take_more rs (suc i) d within ∙ ap (λ (r : TapReading). take (suc i) rs ++ r ∷ []) next_is

  before_it : All (λ x. x.cycle < (get_or rest i d).cycle) (take (suc i) rs)
  before_it = subst (λ (r : TapReading). All (λ x. x.cycle < r.cycle) (take (suc i) rs)) next_is (earlier_ones (λ a b. a.cycle < b.cycle) rs (suc i) d within order)

  pub went_on : ((get_or rest i d).producer.0 ≡ last.producer) × ((get_or rest i d).delay ≡ last.delay) → HasOpen p j (take (suc (i + 1)) rs) old new (record last { last = (get_or rest i d).cycle })
  went_on same = subst (λ (l : List TapReading). HasOpen p j l old new (record last { last = (get_or rest i d).cycle })) (sym one_more)
      (record { ended = o.ended; new_is = o.new_is; are = prolonged (take (suc i) rs) (get_or rest i d) before_it p j o.ended last o.are same })

  pub went_anew : (((get_or rest i d).producer.0 ≡ last.producer) × ((get_or rest i d).delay ≡ last.delay) → ⊥) → HasOpen p j (take (suc (i + 1)) rs) old (new ++ last ∷ []) (begun p j (get_or rest i d))
  went_anew differs = subst (λ (l : List TapReading). HasOpen p j l old (new ++ last ∷ []) (begun p j (get_or rest i d))) (sym one_more)
      (record {
        ended = o.ended ++ last ∷ [];
        new_is = ap (λ (l : List Link). l ++ last ∷ []) o.new_is ∙ append_assoc old o.ended (last ∷ []);
        are = renewed (take (suc i) rs) (get_or rest i d) before_it p j o.ended last o.are differs;
      })

-- the first reading alone
pub begins : (p j : ℕ) (rs rest : List TapReading) (first : TapReading) → rs ≡ first ∷ rest → (old : List Link) → HasOpen p j (take 1 rs) old old (begun p j first)
begins p j rs rest first is old = record { ended = []; new_is = sym (append-nil old); are = subst (λ (l : List TapReading). IsOpen p j (take 1 l) [] (begun p j first)) (sym is) (started p j first) }

-- all of them
pub concluded : (p j : ℕ) (rs rest : List TapReading) (first : TapReading) → rs ≡ first ∷ rest → (i : ℕ) → length rest ≤ i → (old new newest : List Link) (last : Link) → HasOpen p j (take (suc i) rs) old new last
    → newest ≡ new ++ last ∷ [] → HasLinks (Told rs) (IsAt p j) old newest
concluded p j rs rest first is i le old new newest last o e =
    let whole : take (suc i) rs ≡ rs = take_all (suc i) rs (omega (arith, le, ap (length {A = TapReading}) is)) in
    record {
      added = o.ended ++ last ∷ [];
      new_is = e ∙ ap (λ (l : List Link). l ++ last ∷ []) o.new_is ∙ append_assoc old o.ended (last ∷ []);
      are = ended_all p j rs o.ended last (subst (λ (l : List TapReading). IsOpen p j l o.ended last) whole o.are);
    }
