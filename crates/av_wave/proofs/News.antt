-- The changes of a cycle, by the words of the ports before it and in it.
use Rattle.std.proofs.Common.{◌≡◌, ◌≢◌, ℕ, zero, suc, ◌+◌, ◌<◌, ◌≤◌, List, [], ◌∷◌, ◌++◌, map, length, Bool, true, false, true≢false, not, ◌||◌, refl, sym, ◌∙◌, ap, arith, subst, append_assoc, Option}
use Rattle.std.specs.Prelude.{if◌then◌else◌, nat_eq, filter, slice_index, slice_get}
use Rattle.std.specs.List.{range_with_len}
use Rattle.std.proofs.lemmas.Bool.{eq-eqb, ne_eqb, eqb-true, eqb-false}
use Rattle.std.proofs.lemmas.List.{append-nil, map-append}
use Rattle.av_net.specs.declared.netlist.Port.{Port}
use Rattle.av_wave.specs.declared.wave.Change.{Change}
use Rattle.av_wave.specs.Dumps.{time_line, value_line_at, change_line, joined}
use Rattle.av_wave.specs.inner.Parts.{Part, values_now, told_of, next_cycle, IsNext, FitsPort, HasWords, IsTold, AreTold, Records}
use Rattle.av_wave.specs.inner.Stages.{Says}
use Rattle.av_wave.specs.inner.Written.{is_news, change_at, news}
use Rattle.av_wave.proofs.Values.{filter_on, range_on}
use Rattle.av_wave.proofs.Telling.{told_is, not_told, none_told, tell_more, tell_room, tell_first, told_ends, told_records}
use Rattle.av_wave.proofs.Written.{joined_on, joined_one}
use Rattle.av_wave.proofs.Reached.{Tells, change_tells, time_tells}

-- ---- one port more

picked : (t : Bool) (f : ℕ → Change) (n : ℕ) → map f (if t then n ∷ [] else []) ≡ (if t then f n ∷ [] else [])
picked true f n = refl
picked false f n = refl

news_more : (c : ℕ) (before words : List ℕ) (n : ℕ)
    → news c before words (n + 1) ≡ news c before words n ++ (if is_news c (slice_index before n) (slice_index words n) then change_at c words n ∷ [] else [])
news_more c before words n =
    let test : ℕ → Bool = λ k. is_news c (slice_index before k) (slice_index words k) in
    let last : 0 + n ≡ n = omega arith in
    ap (λ (ks : List ℕ). map (change_at c words) (filter test ks)) (range_on 0 n)
    ∙ ap (λ (k : ℕ). map (change_at c words) (filter test (range_with_len 0 n ++ k ∷ []))) last
    ∙ ap (λ (ks : List ℕ). map (change_at c words) ks) (filter_on test (range_with_len 0 n) (n ∷ []))
    ∙ map-append (change_at c words) (filter test (range_with_len 0 n)) (filter test (n ∷ []))
    ∙ ap (λ (gs : List Change). news c before words n ++ gs) (picked (test n) (change_at c words) n)

-- the lines of these changes
abbrev pub news_lines : List Port → ℕ → List ℕ → List ℕ → ℕ → List (List ℕ)
news_lines ports c before words n = map (change_line ports) (news c before words n)

lines_if : (t : Bool) (ports : List Port) (g : Change) → map (change_line ports) (if t then g ∷ [] else []) ≡ (if t then change_line ports g ∷ [] else [])
lines_if true ports g = refl
lines_if false ports g = refl

lines_more : (ports : List Port) (c : ℕ) (before words : List ℕ) (n : ℕ)
    → news_lines ports c before words (n + 1) ≡ news_lines ports c before words n ++ (if is_news c (slice_index before n) (slice_index words n) then change_line ports (change_at c words n) ∷ [] else [])
lines_more ports c before words n =
    let t : Bool = is_news c (slice_index before n) (slice_index words n) in
    ap (λ (gs : List Change). map (change_line ports) gs) (news_more c before words n)
    ∙ map-append (change_line ports) (news c before words n) (if t then change_at c words n ∷ [] else [])
    ∙ ap (λ (lines : List (List ℕ)). news_lines ports c before words n ++ lines) (lines_if t ports (change_at c words n))

joined_if : (t : Bool) (line : List ℕ) → joined (if t then line ∷ [] else []) ≡ (if t then line else [])
joined_if true line = append-nil line
joined_if false line = refl

-- and their bytes
pub text_more : (xs ports : List Port) (c : ℕ) (before words : List ℕ) (n : ℕ) → xs ≡ ports
    → joined (news_lines ports c before words n) ++ (if is_news c (slice_index before n) (slice_index words n) then change_line xs (change_at c words n) else []) ≡ joined (news_lines ports c before words (n + 1))
text_more xs ports c before words n e =
    let t : Bool = is_news c (slice_index before n) (slice_index words n) in
    let line : List ℕ = change_line ports (change_at c words n) in
    ap (λ (ps : List Port). joined (news_lines ports c before words n) ++ (if t then change_line ps (change_at c words n) else [])) e
    ∙ ap (λ (rest : List ℕ). joined (news_lines ports c before words n) ++ rest) (sym (joined_if t line))
    ∙ sym (joined_on (news_lines ports c before words n) (if t then line ∷ [] else []))
    ∙ ap joined (sym (lines_more ports c before words n))

-- what is put of one port
pub if_news : (t : Bool) (line : List ℕ) → t ≡ true → line ≡ (if t then line else [])
if_news true line e = refl
if_news false line e = absurd (true≢false (sym e))

pub if_no_news : (t : Bool) (line : List ℕ) → t ≡ false → [] ≡ (if t then line else [])
if_no_news false line e = refl
if_no_news true line e = absurd (true≢false e)

-- ---- what is news

or_no : (a b : Bool) → a ≡ false → b ≡ true → (a || not b) ≡ false
or_no false true e f = refl
or_no false false e f = absurd (true≢false (sym f))
or_no true b e f = absurd (true≢false e)

no_or : (a b : Bool) → (a || not b) ≡ false → (a ≡ false) × (b ≡ true)
no_or false true e = (refl, refl)
no_or false false e = absurd (true≢false e)
no_or true b e = absurd (true≢false e)

-- a change behind the first cycle is to another value
news_differ : (c before word : ℕ) → is_news c before word ≡ true → 0 < c → word ≢ before
news_differ c before word e some same =
    let later : nat_eq c 0 ≡ false = ne_eqb c 0 (λ zeroth. absurd (omega arith)) in
    let is : nat_eq word before ≡ true = eq-eqb word before same in
    true≢false (sym e ∙ or_no (nat_eq c 0) (nat_eq word before) later is)

-- where there is none
news_same : (c before word : ℕ) → is_news c before word ≡ false → (0 < c) × (word ≡ before)
news_same c before word e =
    let parts = no_or (nat_eq c 0) (nat_eq word before) e in
    let later : c ≢ 0 = eqb-false c 0 parts.0 in
    (omega (arith, later), eqb-true word before parts.1)

-- ---- a cycle is told of, port by port

-- the next cycle may be told of, in which the ports have these words, where they had those before
pub record MayTell (p : Part) (before words : List ℕ) : Type 0 where
  pub fresh : p.told ≡ 0
  pub most : p.cycle < 4096
  pub count : length words ≡ length p.ports
  pub has : HasWords p before
  pub fits : (k : ℕ) → k < length words → FitsPort p.ports k (slice_index words k)

-- the first n ports were told of, behind lines that tell of the part before the cycle
pub record TellsOn (p : Part) (front : List (List ℕ)) (before words : List ℕ) (n : ℕ) : Type 0 where
  pub now : Part
  pub tells : Tells now (front ++ news_lines p.ports p.cycle before words n)
  pub told : AreTold p n words now
  pub rest : (k : ℕ) → n ≤ k → values_now now k ≡ values_now p k

none_tells : (p : Part) (front : List (List ℕ)) (before words : List ℕ) → MayTell p before words → Tells p front → TellsOn p front before words 0
none_tells p front before words may tells = record {
  now = p;
  tells = subst (λ (lines : List (List ℕ)). Tells p lines) (sym (append-nil front)) tells;
  told = none_told p words may.fresh;
  rest = λ k le. refl;
}

-- a port that changes
news_tells : (p : Part) (front : List (List ℕ)) (before words : List ℕ) (n : ℕ) → MayTell p before words → n < length words → is_news p.cycle (slice_index before n) (slice_index words n) ≡ true
    → TellsOn p front before words n → TellsOn p front before words (n + 1)
news_tells p front before words n may lt e so_far =
    let q : Part = so_far.now in
    let word : ℕ = slice_index words n in
    let fit : FitsPort p.ports n word = may.fits n lt in
    let count : length words ≡ length p.ports = may.count in
    let cycle : q.cycle ≡ p.cycle = so_far.told.cycle in
    let was : values_now q n ≡ slice_index before n = so_far.rest n (omega arith) ∙ sym (may.has.each n (omega arith)) in
    let next : IsNext q n word = record {
      most = tell_room may.most so_far.told;
      first = λ zeroth. sym (tell_first so_far.told zeroth);
      order = λ some. so_far.told.later;
      news = λ some same. news_differ p.cycle (slice_index before n) word e (omega arith) (same ∙ was);
    } in
    let line : List ℕ = change_line p.ports (change_at p.cycle words n) in
    let says : Says q.ports line n word = record {
      port = fit.port;
      at = ap (λ (ports : List Port). slice_get ports n) so_far.told.ports ∙ fit.at;
      fits = fit.fits;
      line_is = ap (λ (o : Option Port). value_line_at o n word) fit.at;
    } in
    let more : news_lines p.ports p.cycle before words (n + 1) ≡ news_lines p.ports p.cycle before words n ++ line ∷ [] =
    lines_more p.ports p.cycle before words n ∙ ap (λ (t : Bool). news_lines p.ports p.cycle before words n ++ (if t then line ∷ [] else [])) e in
    let r : Part = told_of q (record { cycle = q.cycle; port = n; value = word }) in
    let one : IsTold q n word r = told_is q r n word refl in
    record {
      now = r;
      tells = subst (λ (lines : List (List ℕ)). Tells r lines) (append_assoc front (news_lines p.ports p.cycle before words n) (line ∷ []) ∙ ap (λ (lines : List (List ℕ)). front ++ lines) (sym more))
          (change_tells q (front ++ news_lines p.ports p.cycle before words n) line n word so_far.tells says next);
      told = tell_more p q r n word words refl so_far.told one;
      rest = λ k le. one.others k (λ same. absurd (omega arith)) ∙ so_far.rest k (omega arith);
    }

-- a port that does not
same_tells : (p : Part) (front : List (List ℕ)) (before words : List ℕ) (n : ℕ) → MayTell p before words → n < length words → is_news p.cycle (slice_index before n) (slice_index words n) ≡ false
    → TellsOn p front before words n → TellsOn p front before words (n + 1)
same_tells p front before words n may lt e so_far =
    let q : Part = so_far.now in
    let word : ℕ = slice_index words n in
    let count : length words ≡ length p.ports = may.count in
    let cycle : q.cycle ≡ p.cycle = so_far.told.cycle in
    let same = news_same p.cycle (slice_index before n) word e in
    let some : 0 < p.cycle = same.0 in
    let is : word ≡ values_now q n = same.1 ∙ may.has.each n (omega arith) ∙ sym (so_far.rest n (omega arith)) in
    let none : IsNext q n word → ⊥ = λ next. next.news (omega arith) is in
    let one : IsTold q n word q = not_told q q n word refl (tell_room may.most so_far.told) so_far.told.later (tell_first so_far.told) none in
    let more : news_lines p.ports p.cycle before words (n + 1) ≡ news_lines p.ports p.cycle before words n =
    lines_more p.ports p.cycle before words n
    ∙ ap (λ (t : Bool). news_lines p.ports p.cycle before words n ++ (if t then change_line p.ports (change_at p.cycle words n) ∷ [] else [])) e ∙ append-nil (news_lines p.ports p.cycle before words n) in
    record {
      now = q;
      tells = subst (λ (lines : List (List ℕ)). Tells q lines) (ap (λ (lines : List (List ℕ)). front ++ lines) (sym more)) so_far.tells;
      told = tell_more p q q n word words refl so_far.told one;
      rest = λ k le. so_far.rest k (omega arith);
    }

port_tells : (p : Part) (front : List (List ℕ)) (before words : List ℕ) (n : ℕ) → MayTell p before words → n < length words → TellsOn p front before words n → TellsOn p front before words (n + 1)
port_tells p front before words n may lt so_far = by_test (is_news p.cycle (slice_index before n) (slice_index words n)) refl
  where
    by_test : (t : Bool) → is_news p.cycle (slice_index before n) (slice_index words n) ≡ t → TellsOn p front before words (n + 1)
    by_test true e = news_tells p front before words n may lt e so_far
    by_test false e = same_tells p front before words n may lt e so_far

ports_tell : (p : Part) (front : List (List ℕ)) (before words : List ℕ) → MayTell p before words → Tells p front → (n : ℕ) → n ≤ length words → TellsOn p front before words n
ports_tell p front before words may tells zero le = none_tells p front before words may tells
ports_tell p front before words may tells (suc n) le =
    let more : n + 1 ≡ suc n = omega arith in
    subst (λ (k : ℕ). TellsOn p front before words k) more (port_tells p front before words n may (omega arith) (ports_tell p front before words may tells n (omega arith)))

-- ---- a whole cycle

-- the lines of a cycle, and the one that begins the next
abbrev pub cycle_news : Part → List ℕ → List ℕ → List (List ℕ)
cycle_news p before words = news_lines p.ports p.cycle before words (length words) ++ time_line (p.cycle + 1) ∷ []

-- all ports were told of, and the next cycle begins
pub record TellsCycle (p : Part) (front : List (List ℕ)) (before words : List ℕ) : Type 0 where
  pub now : Part
  pub records : Records p words now
  pub tells : Tells now (front ++ cycle_news p before words)
  pub has : HasWords now words

pub cycle_tells : (p : Part) (front : List (List ℕ)) (before words : List ℕ) → MayTell p before words → Tells p front → TellsCycle p front before words
cycle_tells p front before words may tells =
    let lines : List (List ℕ) = news_lines p.ports p.cycle before words (length words) in
    let so_far = ports_tell p front before words may tells (length words) (omega arith) in
    let q : Part = so_far.now in
    let count : length words ≡ length q.ports = may.count ∙ ap (λ (ports : List Port). length ports) (sym so_far.told.ports) in
    let end : Tells (next_cycle q) ((front ++ lines) ++ time_line (q.cycle + 1) ∷ []) = time_tells q (front ++ lines) so_far.tells (told_ends may.most so_far.told may.count) in
    record {
      now = next_cycle q;
      records = told_records p q (next_cycle q) (length words) words so_far.told may.count refl;
      tells = subst (λ (all : List (List ℕ)). Tells (next_cycle q) all)
          (append_assoc front lines (time_line (q.cycle + 1) ∷ []) ∙ ap (λ (c : ℕ). front ++ (lines ++ time_line (c + 1) ∷ [])) so_far.told.cycle) end;
      has = record { count = count; each = λ k lt. sym (so_far.told.values k (omega arith)) };
    }

-- its bytes
pub cycle_text : (p : Part) (front : List (List ℕ)) (before words : List ℕ)
    → joined front ++ joined (news_lines p.ports p.cycle before words (length words)) ++ time_line (p.cycle + 1) ≡ joined (front ++ cycle_news p before words)
cycle_text p front before words =
    let lines : List (List ℕ) = news_lines p.ports p.cycle before words (length words) in
    append_assoc (joined front) (joined lines) (time_line (p.cycle + 1))
    ∙ ap (λ (rest : List ℕ). joined front ++ rest) (sym (joined_one lines (time_line (p.cycle + 1))))
    ∙ sym (joined_on front (cycle_news p before words))
