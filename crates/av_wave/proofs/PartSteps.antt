-- A wave in the making, change by change and cycle by cycle.
use Rattle.std.proofs.Common.{◌≡◌, ℕ, ◌+◌, ◌<◌, ◌≤◌, inl, inr, List, [], ◌∷◌, ◌++◌, length, get_or, set, eqb, true, false, Bool, refl, sym, ◌∙◌, ap, arith, All}
use Rattle.std.specs.Prelude.{slice_index}
use Rattle.std.specs.List.{range_with_len}
use Rattle.std.proofs.lemmas.Bool.{eqb-true, eqb-false, cases_eq}
use Rattle.std.proofs.lemmas.List.{append-nil, map-append, length-set, get_or-set_same, get_or-set_other}
use Rattle.std.proofs.lemmas.List.Elements.{All-push}
use Rattle.std.proofs.lemmas.List.Quantifiers.{all_pairs_push}
use Rattle.std.proofs.lemmas.Option.{slice_get_within}
use Rattle.av_net.specs.declared.netlist.Port.{Port}
use Rattle.av_net.specs.Lexemes.{IsName}
use Rattle.av_net.specs.Names.{names_of, AreDistinct}
use Rattle.av_wave.specs.declared.wave.Change.{Change}
use Rattle.av_wave.specs.Waves.{zeros, changed, changes_in, ports_of, IsBefore, IsOf, IsWave}
use Rattle.av_wave.specs.inner.Parts.{Part, values_now, at_first, told_of, next_cycle, wave_of, IsNext, FitsPort, MayEnd, IsPast, IsPart, HasWords}
use Rattle.av_wave.proofs.Values.{changed_on, news_on, in_on, in_here, in_other, range_on}

-- ---- at first

pub first_part : (name : List ℕ) (ports : List Port) → IsName name → All IsName (names_of ports) → AreDistinct (names_of ports) → IsPart (at_first name ports)
first_part name ports named all apart = record {
  named = named;
  ports_named = all;
  apart = apart;
  most = omega arith;
  room = λ some. absurd (omega arith);
  told = omega arith;
  changes = λ k d lt. absurd (omega arith);
  past = λ k d lt. absurd (omega arith);
  ascending = λ i j d lt within. absurd (omega arith);
  first = λ _. refl;
  later = λ some. absurd (omega arith);
  news = tt;
}

-- ---- one change more

pub told_before : (p : Part) (port value : ℕ) → IsNext p port value → p.told ≤ port
told_before p port value next = elim (cases_eq p.cycle 0) [
  | inl first ↦ let e : port ≡ p.told = next.first first in omega arith
  | inr later ↦ next.order (omega (arith, later))
]

past_on : (p : Part) (g h : Change) → g.cycle ≡ p.cycle → p.told ≤ g.port → IsPast p h → IsPast (told_of p g) h
past_on p g h here order (inl before) = inl before
past_on p g h here order (inr (same, below)) = inr (same, omega arith)

past_before : (p : Part) (g h : Change) → g.cycle ≡ p.cycle → p.told ≤ g.port → IsPast p h → IsBefore h g
past_before p g h here order (inl before) = inl (omega arith)
past_before p g h here order (inr (same, below)) = inr (omega arith, omega arith)

pub part_told : (p : Part) (g : Change) → IsPart p → IsNext p g.port g.value → g.cycle ≡ p.cycle → FitsPort p.ports g.port g.value → IsPart (told_of p g)
part_told p g part next here fit =
    let order : p.told ≤ g.port = told_before p g.port g.value next in
    let within : g.port < length p.ports = slice_get_within p.ports g.port fit.port fit.at in
    record {
      named = part.named;
      ports_named = part.ports_named;
      apart = part.apart;
      most = part.most;
      room = λ some. next.most;
      told = omega arith;
      changes = All-push (IsOf p.ports (p.cycle + 1)) p.changes g part.changes (record { port = fit.port; at = fit.at; fits = fit.fits; within = omega arith });
      past = All-push (IsPast (told_of p g)) p.changes g (λ k d lt. past_on p g (get_or p.changes k d) here order (part.past k d lt)) (inr (here, omega arith));
      ascending = all_pairs_push IsBefore p.changes g part.ascending (λ k d lt. past_before p g (get_or p.changes k d) here order (part.past k d lt));
      first = λ zeroth. told_first zeroth (part.first zeroth) (next.first zeroth);
      later = λ some. ap ports_of (in_on 0 p.changes (g ∷ []) ∙ ap (λ more. changes_in 0 p.changes ++ more) (in_other 0 g [] (λ e. absurd (omega arith))) ∙ append-nil (changes_in 0 p.changes)) ∙ part.later some;
      news = news_on zeros p.changes (g ∷ []) part.news ((λ some. next.news (omega arith)), tt);
    }
  where
    told_first : p.cycle ≡ 0 → ports_of (changes_in 0 p.changes) ≡ range_with_len 0 p.told → g.port ≡ p.told → ports_of (changes_in 0 (p.changes ++ g ∷ [])) ≡ range_with_len 0 (g.port + 1)
    told_first zeroth so_far is =
        ap ports_of (in_on 0 p.changes (g ∷ []) ∙ ap (λ more. changes_in 0 p.changes ++ more) (in_here 0 g [] (here ∙ zeroth)))
        ∙ map-append (λ (h : Change). h.port) (changes_in 0 p.changes) (g ∷ [])
        ∙ ap (λ front. front ++ g.port ∷ []) so_far
        ∙ ap (λ k. range_with_len 0 p.told ++ k ∷ []) (let e : g.port ≡ 0 + p.told = omega arith in e)
        ∙ sym (range_on 0 p.told)
        ∙ ap (λ k. range_with_len 0 (k + 1)) (sym is)

-- ---- the next cycle

sooner : (ports : List Port) (n : ℕ) (g : Change) → IsOf ports n g → IsOf ports (n + 1) g
sooner ports n g of = record { port = of.port; at = of.at; fits = of.fits; within = let lt : g.cycle < n = of.within in omega arith }

past_next : (p : Part) (g : Change) → IsPast p g → IsPast (next_cycle p) g
past_next p g (inl before) = inl (omega arith)
past_next p g (inr (same, below)) = inl (omega arith)

pub part_next : (p : Part) → IsPart p → MayEnd p → IsPart (next_cycle p)
part_next p part may = record {
  named = part.named;
  ports_named = part.ports_named;
  apart = part.apart;
  most = let m : p.cycle < 4096 = may.most in omega arith;
  room = λ some. absurd (omega arith);
  told = omega arith;
  changes = λ k d lt. sooner p.ports (p.cycle + 1) (get_or p.changes k d) (part.changes k d lt);
  past = λ k d lt. past_next p (get_or p.changes k d) (part.past k d lt);
  ascending = part.ascending;
  first = λ zeroth. absurd (omega arith);
  later = λ _. elim (cases_eq p.cycle 0) [
    | inl zeroth ↦ part.first zeroth ∙ ap (range_with_len 0) (may.whole zeroth)
    | inr some ↦ part.later (omega (arith, some))
  ];
  news = part.news;
}

-- ---- a whole wave

in_time : (p : Part) (g : Change) → p.told ≡ 0 → IsPast p g → IsOf p.ports (p.cycle + 1) g → IsOf p.ports p.cycle g
in_time p g none (inl before) of = record { port = of.port; at = of.at; fits = of.fits; within = before }
in_time p g none (inr (same, below)) of = absurd (omega arith)

pub part_wave : (p : Part) → IsPart p → p.told ≡ 0 → IsWave (wave_of p)
part_wave p part none = record {
  most = part.most;
  named = part.named;
  ports_named = part.ports_named;
  apart = part.apart;
  changes = λ k d lt. in_time p (get_or p.changes k d) none (part.past k d lt) (part.changes k d lt);
  ascending = part.ascending;
  first = part.later;
  news = part.news;
}

-- ---- the words of a recorder

pub words_first : (name : List ℕ) (ports : List Port) (words : List ℕ) → length words ≡ length ports → ((k : ℕ) → k < length ports → slice_index words k ≡ 0) → HasWords (at_first name ports) words
words_first name ports words count each = record { count = count; each = each }

pub words_told : (p : Part) (g : Change) (words : List ℕ) → g.port < length p.ports → HasWords p words → HasWords (told_of p g) (set words g.port g.value)
words_told p g words lt has = record {
  count = length-set words g.port g.value ∙ has.count;
  each = λ k within. told_at k within ∙ sym (ap (λ (v : ℕ → ℕ). v k) (changed_on zeros p.changes (g ∷ [])));
}
  where
    told_at : (k : ℕ) → k < length p.ports → get_or (set words g.port g.value) k 0 ≡ changed (values_now p) g k
    told_at k within = by_test (eqb g.port k) refl
      where
        by_test : (b : Bool) → eqb g.port k ≡ b → get_or (set words g.port g.value) k 0 ≡ changed (values_now p) g k
        by_test true e =
            let is : g.port ≡ k = eqb-true g.port k e in
            let room : length words ≡ length p.ports = has.count in
            rw e (ap (λ (j : ℕ). get_or (set words g.port g.value) j 0) (sym is) ∙ get_or-set_same words g.port g.value 0 (omega arith))
        by_test false e = rw e (get_or-set_other words g.port k g.value 0 (λ same. eqb-false g.port k e (sym same)) ∙ has.each k within)
