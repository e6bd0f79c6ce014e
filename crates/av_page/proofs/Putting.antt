-- What it comes to when texts are put on a page, one after another.
use Rattle.std.proofs.Common.{◌≡◌, ◌⊎◌, ℕ, ◌+◌, ◌<◌, ◌≤◌, Bool, true, false, List, [], ◌∷◌, ◌++◌, length, get_or, take, drop, refl, sym, ◌∙◌, ap, append_assoc, arith, inl, inr, subst}
use Rattle.std.proofs.lemmas.List.{append-nil, take-append-drop, take_more}
use Rattle.std.proofs.Math.Seq.{take-append_seam}
use Rattle.std.specs.List.{flat_map}
use Rattle.std.proofs.lemmas.Bool.{cases_lt}
use Rattle.std.proofs.lemmas.Grind.{flat_map-append}
use Rattle.av_base.specs.Outside.{SinkState, Adds, AddsPrefix, HasRisen}
use Rattle.av_base.proofs.Moves.{Adds-more, Adds-none, risen_since}
use Rattle.av_page.specs.Pages.{Draft, Puts}

pub either : (b : Bool) → (b ≡ true) ⊎ (b ≡ false)
either true = inl refl
either false = inr refl

-- ---- one after another

-- a fault stays told
risen_before : (a b c : ℕ) → a ≤ b → b ≤ c → HasRisen a b → HasRisen a c
risen_before a b c first second (inl lt) = inl (omega arith)
risen_before a b c first second (inr last) = elim (cases_lt a c) [ inl lt ↦ inl lt | inr not ↦ inr (omega (arith, last)) ]

more_goes : {s0 s1 s2 : SinkState} {a b c : Draft} {s t : List ℕ}
    → Puts s0 s1 a b s → Puts s1 s2 b c t → b.failed ≡ false → Puts s0 s2 a c (s ++ t)
more_goes {s0} {s1} {s2} {a} {b} {c} {s} {t} p q goes = record {
  sent = p.sent ++ q.sent;
  added = Adds-more s0.held s1.held s2.held p.sent q.sent p.added q.added;
  rest = q.rest;
  split = λ start.
      append_assoc p.sent q.sent q.rest ∙ ap (λ x. p.sent ++ x) (q.split goes) ∙ ap (λ x. p.sent ++ (x ++ t)) (p.waits goes)
      ∙ sym (append_assoc p.sent p.rest t) ∙ ap (λ x. x ++ t) (p.split start) ∙ append_assoc a.waiting s t;
  waits = q.waits;
  stopped = λ before. absurd (let e = (p.stopped before).1 in cc);
  cause = λ after. elim (q.cause after) [ inl before ↦ absurd (cc) | inr risen ↦ inr (risen_since s0.faults s1.faults s2.faults p.later risen) ];
  later = omega (arith, p.later, q.later);
}

more_stopped : {s0 s1 s2 : SinkState} {a b c : Draft} {s t : List ℕ}
    → Puts s0 s1 a b s → Puts s1 s2 b c t → b.failed ≡ true → Puts s0 s2 a c (s ++ t)
more_stopped {s0} {s1} {s2} {a} {b} {c} {s} {t} p q stops =
    let none : q.sent ≡ [] = (q.stopped stops).0 in
    let end : c.failed ≡ true = (q.stopped stops).1 in
    let same : p.sent ++ q.sent ≡ p.sent = ap (λ x. p.sent ++ x) none ∙ append-nil p.sent in
    record {
      sent = p.sent ++ q.sent;
      added = Adds-more s0.held s1.held s2.held p.sent q.sent p.added q.added;
      rest = p.rest ++ t;
      split = λ start.
          ap (λ x. x ++ (p.rest ++ t)) same ∙ sym (append_assoc p.sent p.rest t) ∙ ap (λ x. x ++ t) (p.split start) ∙ append_assoc a.waiting s t;
      waits = λ goes. absurd (let e = end in cc);
      stopped = λ before. (same ∙ (p.stopped before).0, end);
      cause = λ after. elim (p.cause stops) [ inl before ↦ inl before | inr risen ↦ inr (risen_before s0.faults s1.faults s2.faults p.later q.later risen) ];
      later = omega (arith, p.later, q.later);
    }

-- one text, and then another
pub Puts-more : {s0 s1 s2 : SinkState} {a b c : Draft} {s t : List ℕ}
    → Puts s0 s1 a b s → Puts s1 s2 b c t → Puts s0 s2 a c (s ++ t)
Puts-more {b = b} p q = elim (either b.failed) [ inl stops ↦ more_stopped p q stops | inr goes ↦ more_goes p q goes ]

-- nothing
pub Puts-none : (sink : SinkState) (a : Draft) → Puts sink sink a a []
Puts-none sink a = record {
  sent = [];
  added = Adds-none sink.held sink.held refl;
  rest = a.waiting;
  split = λ _. sym (append-nil a.waiting);
  waits = λ _. refl;
  stopped = λ before. (refl, before);
  cause = λ before. inl before;
  later = omega arith;
}

-- a text, and then a sending
pub Puts-then_sent : {s0 s1 s2 : SinkState} {a b c : Draft} {s : List ℕ}
    → Puts s0 s1 a b s → Puts s1 s2 b c [] → Puts s0 s2 a c s
Puts-then_sent {s0} {s1} {s2} {a} {b} {c} {s} p q = subst (Puts s0 s2 a c) (append-nil s) (Puts-more p q)

-- the text, in another spelling
pub Puts-is : {s0 s1 : SinkState} {a b : Draft} {s t : List ℕ} → Puts s0 s1 a b s → s ≡ t → Puts s0 s1 a b t
Puts-is {s0} {s1} {a} {b} p e = subst (Puts s0 s1 a b) e p

-- the texts of some items, and that of the next one
pub Puts-next : {X : Type 0} {s0 s1 s2 : SinkState} {a b c : Draft} (text : X → List ℕ) (items : List X) (i : ℕ) (x : X) → i < length items
    → x ≡ get_or items i x → Puts s0 s1 a b (flat_map text (take i items)) → Puts s1 s2 b c (text x)
    → Puts s0 s2 a c (flat_map text (take (i + 1) items))
Puts-next {X} text items i x lt is p q =
    let more : take (i + 1) items ≡ take i items ++ x ∷ [] = take_more items i x lt ∙ ap (λ y. take i items ++ y ∷ []) (sym is) in
    let e : flat_map text (take (i + 1) items) ≡ flat_map text (take i items) ++ text x =
    ap (flat_map text) more ∙ flat_map-append text (take i items) (x ∷ []) ∙ ap (λ t. flat_map text (take i items) ++ t) (append-nil (text x)) in
    Puts-is (Puts-more p q) (sym e)

-- ---- on one page

-- a text that waits
pub Puts-kept : (sink : SinkState) (a b : Draft) (t : List ℕ) → b ≡ record { waiting = a.waiting ++ t; failed = a.failed } → Puts sink sink a b t
Puts-kept sink a b t e = record {
  sent = [];
  added = Adds-none sink.held sink.held refl;
  rest = a.waiting ++ t;
  split = λ _. refl;
  waits = λ _. ap (λ d. d.waiting) e;
  stopped = λ before. (refl, ap (λ d. d.failed) e ∙ before);
  cause = λ after. inl (sym (ap (λ d. d.failed) e) ∙ after);
  later = omega arith;
}

-- what waits is sent as bytes are
pub Puts-sent : {sink sink' : SinkState} (before after : Bool) (t : List ℕ)
    → Puts sink sink' (record { waiting = []; failed = before }) (record { waiting = []; failed = after }) t
    → Puts sink sink' (record { waiting = t; failed = before }) (record { waiting = []; failed = after }) []
Puts-sent before after t p = record {
  sent = p.sent;
  added = p.added;
  rest = p.rest;
  split = λ start. p.split start ∙ sym (append-nil t);
  waits = p.waits;
  stopped = p.stopped;
  cause = p.cause;
  later = p.later;
}

-- ---- one write

pub dropped : (sink : SinkState) (before : Bool) (t : List ℕ) → before ≡ true
    → Puts sink sink (record { waiting = []; failed = before }) (record { waiting = []; failed = true }) t
dropped sink before t stops = record {
  sent = [];
  added = Adds-none sink.held sink.held refl;
  rest = [];
  split = λ start. absurd (let e = stops in cc);
  waits = λ _. refl;
  stopped = λ _. (refl, refl);
  cause = λ _. inl stops;
  later = omega arith;
}

pub all_sent : (sink sink' : SinkState) (before : Bool) (t : List ℕ) → before ≡ false → Adds sink.held sink'.held t → sink.faults ≤ sink'.faults
    → Puts sink sink' (record { waiting = []; failed = before }) (record { waiting = []; failed = false }) t
all_sent sink sink' before t goes adds later = record {
  sent = t;
  added = adds;
  rest = [];
  split = λ _. append-nil t;
  waits = λ _. refl;
  stopped = λ stops. absurd (cc);
  cause = λ stops. absurd (cc);
  later = later;
}

pub front_sent : (sink sink' : SinkState) (before : Bool) (t : List ℕ) → before ≡ false → AddsPrefix sink.held sink'.held t → HasRisen sink.faults sink'.faults → sink.faults ≤ sink'.faults
    → Puts sink sink' (record { waiting = []; failed = before }) (record { waiting = []; failed = true }) t
front_sent sink sink' before t goes (n, adds) risen later = record {
  sent = take n t;
  added = adds;
  rest = drop n t;
  split = λ _. take-append-drop n t;
  waits = λ goes. absurd (cc);
  stopped = λ stops. absurd (cc);
  cause = λ _. inr risen;
  later = later;
}

-- ---- a whole text

-- all of it was added
pub whole : {sink sink' : SinkState} {a b : Draft} {t : List ℕ} → Puts sink sink' a b t → a ≡ record { waiting = []; failed = false }
    → b.waiting ≡ [] → b.failed ≡ false → Adds sink.held sink'.held t
whole {sink} {sink'} {a} {b} {t} p start empty goes =
    let none : p.rest ≡ [] = sym (p.waits goes) ∙ empty in
    let split : p.sent ++ p.rest ≡ a.waiting ++ t = p.split (ap (λ d. d.failed) start) in
    let same : p.sent ≡ t = sym (append-nil p.sent) ∙ sym (ap (λ x. p.sent ++ x) none) ∙ split ∙ ap (λ d. d.waiting ++ t) start in
    subst (Adds sink.held sink'.held) same p.added

-- a prefix of it was added
pub front : {sink sink' : SinkState} {a b : Draft} {t : List ℕ} → Puts sink sink' a b t → a ≡ record { waiting = []; failed = false }
    → AddsPrefix sink.held sink'.held t
front {sink} {sink'} {a} {b} {t} p start =
    let split : p.sent ++ p.rest ≡ t = p.split (ap (λ d. d.failed) start) ∙ ap (λ d. d.waiting ++ t) start in
    let same : p.sent ≡ take (length p.sent) t = sym (take-append_seam p.sent p.rest) ∙ ap (take (length p.sent)) split in
    (length p.sent, subst (Adds sink.held sink'.held) same p.added)
