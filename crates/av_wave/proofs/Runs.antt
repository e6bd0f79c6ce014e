-- A dump that is read line by line: where it leads, and that it leads nowhere else.
use Rattle.std.proofs.Common.{◌≡◌, ℕ, zero, suc, ◌+◌, ◌<◌, ◌≤◌, inl, inr, List, [], ◌∷◌, ◌++◌, length, refl, sym, ◌∙◌, ap, arith, subst, append_assoc}
use Rattle.std.specs.Prelude.{AllPairs, Contains}
use Rattle.std.specs.List.{AllByRecursion, range_with_len}
use Rattle.std.proofs.lemmas.List.{append-nil, map-append, length_push}
use Rattle.std.proofs.lemmas.List.Elements.{recursion_from_All}
use Rattle.av_base.proofs.Among.{first_among}
use Rattle.av_base.proofs.Lists.{same_head, same_tail, each_weaker, pairs_rest}
use Rattle.av_net.specs.declared.netlist.Port.{Port}
use Rattle.av_net.specs.Lexemes.{IsName}
use Rattle.av_net.specs.Names.{names_of, AreDistinct}
use Rattle.av_net.proofs.Distinct.{apart}
use Rattle.av_wave.specs.declared.wave.Change.{Change}
use Rattle.av_wave.specs.declared.stage.Stage.{Stage}
use Rattle.av_wave.specs.declared.stage.Stage.TheVariants.{Timescale, Scope, Ports, Definitions, Start, Cycles}
use Rattle.av_wave.specs.Waves.{Recording, zeros, changes_in, ports_of, IsBefore, IsOf, AreNews, IsWave}
use Rattle.av_wave.specs.Dumps.{port_line, port_lines, upscope_line, definitions_line, time_line, value_line_at, change_line, head_lines, dump_lines}
use Rattle.av_wave.specs.inner.Heads.{Head}
use Rattle.av_wave.specs.inner.Parts.{Part, values_now, at_first, told_of, next_cycle, wave_of, IsNext, FitsPort, MayEnd}
use Rattle.av_wave.specs.inner.Stages.{Takes, Says}
use Rattle.av_wave.proofs.OneForm.{scope_once, port_once, port_not_upscope, says_once, says_no_time}
use Rattle.av_wave.proofs.Rests.{AreLeft, end_left, change_left, cycle_left, left_later, wave_rest, wave_left, dump_rest}
use Rattle.av_wave.proofs.Values.{changed_on, in_here, in_none, behind_first}

-- ---- one line

pub takes_once : (s : Stage) (line : List ℕ) (a b : Stage) → Takes s line a → Takes s line b → a ≡ b
takes_once Timescale line a b one two = one.1 ∙ sym two.1
takes_once Scope line a b (m, named, is, next) (n, named', is', next') =
    next ∙ ap (λ (name : List ℕ). Ports (record { name = name; ports = [] })) (scope_once m n (sym is ∙ is')) ∙ sym next'
takes_once (Ports head) line a b (inl one) (inl two) =
    one.next_is ∙ ap (λ (p : Port). Ports (record { name = head.name; ports = head.ports ++ p ∷ [] })) (port_once (length head.ports) one.port two.port (sym one.line_is ∙ two.line_is)) ∙ sym two.next_is
takes_once (Ports head) line a b (inl one) (inr two) = absurd (port_not_upscope (length head.ports) one.port (sym one.line_is ∙ two.0))
takes_once (Ports head) line a b (inr one) (inl two) = absurd (port_not_upscope (length head.ports) two.port (sym two.line_is ∙ one.0))
takes_once (Ports head) line a b (inr one) (inr two) = one.1 ∙ sym two.1
takes_once (Definitions head) line a b one two = one.1 ∙ sym two.1
takes_once (Start head) line a b one two = one.1 ∙ sym two.1
takes_once (Cycles part) line a b (inl one) (inl two) =
    let same = says_once one.says two.says in
    let next : ℕ → ℕ → Stage = λ n v. Cycles (told_of part (record { cycle = part.cycle; port = n; value = v })) in
    one.next_is ∙ ap (λ (n : ℕ). next n one.value) same.0 ∙ ap (λ (v : ℕ). next two.number v) same.1 ∙ sym two.next_is
takes_once (Cycles part) line a b (inl one) (inr two) = absurd (says_no_time (part.cycle + 1) one.says two.line_is)
takes_once (Cycles part) line a b (inr one) (inl two) = absurd (says_no_time (part.cycle + 1) two.says one.line_is)
takes_once (Cycles part) line a b (inr one) (inr two) = one.next_is ∙ sym two.next_is

-- ---- lines

-- the lines lead from one stage to another
abbrev pub Leads : Stage → List (List ℕ) → Stage → Type 0
Leads s [] t = s ≡ t
Leads s (line ∷ lines) t = (next : Stage) × Takes s line next × Leads next lines t

pub leads_on : (s m t : Stage) (xs ys : List (List ℕ)) → Leads s xs m → Leads m ys t → Leads s (xs ++ ys) t
leads_on s m t [] ys e rest = subst (λ a. Leads a ys t) (sym e) rest
leads_on s m t (line ∷ xs) ys (next, takes, goes) rest = (next, takes, leads_on next m t xs ys goes rest)

pub leads_apart : (s t : Stage) (xs ys : List (List ℕ)) → Leads s (xs ++ ys) t → (m : Stage) × Leads s xs m × Leads m ys t
leads_apart s t [] ys goes = (s, refl, goes)
leads_apart s t (line ∷ xs) ys (next, takes, goes) = let parts = leads_apart next t xs ys goes in (parts.0, (next, takes, parts.1), parts.2)

pub leads_once : (s a b : Stage) (xs : List (List ℕ)) → Leads s xs a → Leads s xs b → a ≡ b
leads_once s a b [] one two = sym one ∙ two
leads_once s a b (line ∷ xs) (m, takes, goes) (n, takes', goes') =
    leads_once m a b xs goes (subst (λ k. Leads k xs b) (takes_once s line n m takes' takes) goes')

-- ---- a wave's lines lead to the wave

-- what is to come fits what is told so far
pub record Come (p : Part) (m : ℕ) (gs : List Change) : Type 0 where
  bound : p.cycle + m ≤ 4096
  closed : m ≡ 0 → p.told ≡ 0
  fit : AllByRecursion (λ g. FitsPort p.ports g.port g.value) gs
  pairs : AllPairs IsBefore gs
  floor : AllByRecursion (λ g. g.cycle ≡ p.cycle → p.told ≤ g.port) gs
  news : AreNews (values_now p) gs
  first : p.cycle ≡ 0 → 0 < m → (j : ℕ) × (p.told + j ≡ length p.ports) × (ports_of (changes_in 0 gs) ≡ range_with_len p.told j)

-- where so many cycles and these changes lead
record Arrives (p : Part) (m : ℕ) (gs : List Change) (lines : List (List ℕ)) : Type 0 where
  last : Part
  goes : Leads (Cycles p) lines (Cycles last)
  open_is : last.told ≡ 0
  name : last.name ≡ p.name
  ports : last.ports ≡ p.ports
  cycle : last.cycle ≡ p.cycle + m
  changes : last.changes ≡ p.changes ++ gs

-- the first of the changes in the first cycle
record HasFirst (told j : ℕ) (g : Change) (gs : List Change) : Type 0 where
  port : g.port ≡ told
  left : ℕ
  count : told + j ≡ (told + 1) + left
  rest : ports_of (changes_in 0 gs) ≡ range_with_len (g.port + 1) left

first_of_all : (told j : ℕ) (g : Change) (gs : List Change) → g.cycle ≡ 0 → ports_of (changes_in 0 (g ∷ gs)) ≡ range_with_len told j → HasFirst told j g gs
first_of_all told zero g gs here e = absurd (let f : g.port ∷ ports_of (changes_in 0 gs) ≡ [] = ap ports_of (sym (in_here 0 g gs here)) ∙ e in cc)
first_of_all told (suc j) g gs here e =
    let f : g.port ∷ ports_of (changes_in 0 gs) ≡ told ∷ range_with_len (told + 1) j = ap ports_of (sym (in_here 0 g gs here)) ∙ e in
    let port : g.port ≡ told = same_head _ _ _ _ f in
    record { port = port; left = j; count = omega arith; rest = same_tail _ _ _ _ f ∙ ap (λ k. range_with_len (k + 1) j) (sym port) }

none_of_all : (told j : ℕ) (gs : List Change) → changes_in 0 gs ≡ [] → ports_of (changes_in 0 gs) ≡ range_with_len told j → j ≡ 0
none_of_all told zero gs none e = refl
none_of_all told (suc j) gs none e = absurd (let f : [] ≡ told ∷ range_with_len (told + 1) j = ap ports_of (sym none) ∙ e in cc)

-- a change in the same cycle is of a later port
floor_on : (p : Part) (g : Change) (gs : List Change) → g.cycle ≡ p.cycle → AllByRecursion (IsBefore g) gs → AllByRecursion (λ h. h.cycle ≡ p.cycle → g.port + 1 ≤ h.port) gs
floor_on p g gs here = each_weaker (IsBefore g) (λ (h : Change). h.cycle ≡ p.cycle → g.port + 1 ≤ h.port) by gs
  where
    by : (h : Change) → IsBefore g h → h.cycle ≡ p.cycle → g.port + 1 ≤ h.port
    by h (inl lt) same = absurd (omega arith)
    by h (inr (e, lt)) same = omega arith

next_change : (p : Part) (m : ℕ) (g : Change) (gs : List Change) → g.cycle ≡ p.cycle → Come p (suc m) (g ∷ gs) → IsNext p g.port g.value
next_change p m g gs here come = record {
  most = let b : p.cycle + suc m ≤ 4096 = come.bound in omega arith;
  first = λ zeroth. let f = come.first zeroth (omega arith) in (first_of_all p.told f.0 g gs (here ∙ zeroth) f.2).port;
  order = λ some. come.floor.0 here;
  news = λ some. come.news.0 (omega arith);
}

-- the change with the cycle's number
abbrev again : Part → Change → Change
again p g = record { cycle = p.cycle; port = g.port; value = g.value }

come_on : (p : Part) (m : ℕ) (g : Change) (gs : List Change) → g.cycle ≡ p.cycle → Come p (suc m) (g ∷ gs) → Come (told_of p (again p g)) (suc m) gs
come_on p m g gs here come = record {
  bound = come.bound;
  closed = λ none. absurd (omega arith);
  fit = come.fit.1;
  pairs = pairs_rest IsBefore g gs come.pairs;
  floor = floor_on p g gs here (behind_first IsBefore g gs come.pairs);
  news = subst (λ values. AreNews values gs) (sym (changed_on zeros p.changes (again p g ∷ []))) come.news.1;
  first = λ zeroth some.
      let f = come.first zeroth (omega arith) in
      let h = first_of_all p.told f.0 g gs (here ∙ zeroth) f.2 in
      let whole : p.told + f.0 ≡ length p.ports = f.1 in
      let count : p.told + f.0 ≡ (p.told + 1) + h.left = h.count in
      let port : g.port ≡ p.told = h.port in
      (h.left, omega arith, h.rest);
}

no_change : {ports : List Port} {m c : ℕ} {gs : List Change} {lines : List (List ℕ)} → AreLeft ports m (c + 1) gs lines → c ≡ 0 → changes_in 0 gs ≡ []
no_change {c = c} {gs = gs} left zeroth = in_none 0 gs (each_weaker (λ (g : Change). c + 1 ≤ g.cycle) (λ (g : Change). 0 < g.cycle) (λ g le. omega arith) gs (left_later left))

any_floor : (c : ℕ) (gs : List Change) → AllByRecursion (λ g. g.cycle ≡ c → 0 ≤ g.port) gs
any_floor c [] = tt
any_floor c (g ∷ gs) = ((λ _. omega arith), any_floor c gs)

come_next : (p : Part) (m : ℕ) (gs : List Change) → Come p (suc m) gs → Come (next_cycle p) m gs
come_next p m gs come = record {
  bound = let b : p.cycle + suc m ≤ 4096 = come.bound in omega arith;
  closed = λ _. refl;
  fit = come.fit;
  pairs = come.pairs;
  floor = any_floor (p.cycle + 1) gs;
  news = come.news;
  first = λ zeroth. absurd (omega arith);
}

may_end : (p : Part) (m : ℕ) (gs : List Change) → Come p (suc m) gs → (p.cycle ≡ 0 → changes_in 0 gs ≡ []) → MayEnd p
may_end p m gs come none = record {
  most = let b : p.cycle + suc m ≤ 4096 = come.bound in omega arith;
  whole = λ zeroth.
      let f = come.first zeroth (omega arith) in
      let whole : p.told + f.0 ≡ length p.ports = f.1 in
      let all : f.0 ≡ 0 = none_of_all p.told f.0 gs (none zeroth) f.2 in
      omega arith;
}

pub says_change : (ports : List Port) (g : Change) → FitsPort ports g.port g.value → Says ports (change_line ports g) g.port g.value
says_change ports g fit = record { port = fit.port; at = fit.at; fits = fit.fits; line_is = ap (λ o. value_line_at o g.port g.value) fit.at }

change_again : (p : Part) (g : Change) → g.cycle ≡ p.cycle → again p g ≡ g
change_again p g here = let made : ℕ → Change = λ c. record { cycle = c; port = g.port; value = g.value } in ap made (sym here)

left_arrives : {ports : List Port} {m c : ℕ} {gs : List Change} {lines : List (List ℕ)} → AreLeft ports m c gs lines → (p : Part) → ports ≡ p.ports → c ≡ p.cycle → Come p m gs → Arrives p m gs lines
left_arrives end_left p same here come = record {
  last = p;
  goes = refl;
  open_is = come.closed refl;
  name = refl;
  ports = refl;
  cycle = omega arith;
  changes = sym (append-nil p.changes);
}
left_arrives {ports} (change_left {m} {c} {g} {gs} {lines} is left) p same here come =
    let cycle : g.cycle ≡ p.cycle = is ∙ here in
    let rest = left_arrives left (told_of p (again p g)) same here (come_on p m g gs cycle come) in
    let says : Says p.ports (change_line ports g) g.port g.value = subst (λ list. Says p.ports (change_line list g) g.port g.value) (sym same) (says_change p.ports g come.fit.0) in
    record {
      last = rest.last;
      goes = (Cycles (told_of p (again p g)), inl (record { number = g.port; value = g.value; says = says; may = next_change p m g gs cycle come; next_is = refl }), rest.goes);
      open_is = rest.open_is;
      name = rest.name;
      ports = rest.ports;
      cycle = rest.cycle;
      changes = rest.changes ∙ append_assoc p.changes (again p g ∷ []) gs ∙ ap (λ (h : Change). p.changes ++ h ∷ gs) (change_again p g cycle);
    }
left_arrives (cycle_left {m} {c} {gs} {lines} left) p same here come =
    let rest = left_arrives left (next_cycle p) same (ap (λ k. k + 1) here) (come_next p m gs come) in
    record {
      last = rest.last;
      goes = (Cycles (next_cycle p), inr (record { line_is = ap (λ k. time_line (k + 1)) here; may = may_end p m gs come (λ zeroth. no_change left (here ∙ zeroth)); next_is = refl }), rest.goes);
      open_is = rest.open_is;
      name = rest.name;
      ports = rest.ports;
      cycle = let e : rest.last.cycle ≡ (p.cycle + 1) + m = rest.cycle in omega arith;
      changes = rest.changes;
    }

fit_of : (ports : List Port) (n : ℕ) (g : Change) → IsOf ports n g → FitsPort ports g.port g.value
fit_of ports n g of = record { port = of.port; at = of.at; fits = of.fits }

pub all_fit : (w : Recording) → IsWave w → AllByRecursion (λ g. FitsPort w.ports g.port g.value) w.changes
all_fit w is = each_weaker (IsOf w.ports w.cycles) (λ (g : Change). FitsPort w.ports g.port g.value) (fit_of w.ports w.cycles) w.changes (recursion_from_All (IsOf w.ports w.cycles) w.changes is.changes)

wave_comes : (w : Recording) → IsWave w → Come (at_first w.name w.ports) w.cycles w.changes
wave_comes w is = record {
  bound = let m : w.cycles ≤ 4096 = is.most in omega arith;
  closed = λ _. refl;
  fit = all_fit w is;
  pairs = is.ascending;
  floor = any_floor 0 w.changes;
  news = is.news;
  first = λ _ some. (length w.ports, omega arith, is.first some);
}

-- ---- and those of its head

heads_lead : (name : List ℕ) (done ports : List Port) (n : ℕ) → n ≡ length done → AllByRecursion IsName (names_of ports) → AreDistinct (names_of (done ++ ports))
    → Leads (Ports (record { name = name; ports = done })) (port_lines n ports) (Ports (record { name = name; ports = done ++ ports }))
heads_lead name done [] n count named distinct = ap (λ (ports : List Port). Ports (record { name = name; ports = ports })) (sym (append-nil done))
heads_lead name done (port ∷ ports) n count named distinct =
    let whole : (done ++ port ∷ []) ++ ports ≡ done ++ port ∷ ports = append_assoc done (port ∷ []) ports in
    let goes = heads_lead name (done ++ port ∷ []) ports (n + 1) (omega (arith, length_push done port)) named.1 (subst (λ list. AreDistinct (names_of list)) (sym whole) distinct) in
    let unknown : Contains (names_of done) port.name → ⊥ = λ there. apart (names_of done) (names_of (port ∷ ports)) port.name (subst AreDistinct (map-append (λ (p : Port). p.name) done (port ∷ ports)) distinct) there (first_among port.name (names_of ports)) in (
      Ports (record { name = name; ports = done ++ port ∷ [] }),
      inl (record { port = port; line_is = ap (λ k. port_line k port) count; named = named.0; unknown = unknown; next_is = refl }),
      subst (λ list. Leads (Ports (record { name = name; ports = done ++ port ∷ [] })) (port_lines (n + 1) ports) (Ports (record { name = name; ports = list }))) whole goes,
    )

head_leads : (w : Recording) → IsWave w → Leads Timescale (head_lines w.name w.ports) (Start (record { name = w.name; ports = w.ports }))
head_leads w is =
    let head : Head = record { name = w.name; ports = w.ports } in
    let ports = heads_lead w.name [] w.ports 0 refl (recursion_from_All IsName (names_of w.ports) is.ports_named) is.apart in (
      Scope,
      (refl, refl),
      (
        Ports (record { name = w.name; ports = [] }),
        (w.name, is.named, refl, refl),
        leads_on (Ports (record { name = w.name; ports = [] })) (Ports head) (Start head) (port_lines 0 w.ports) (upscope_line ∷ definitions_line ∷ []) ports
            (Definitions head, inr (refl, refl), (Start head, (refl, refl), refl)),
      ),
    )

-- where a wave's lines lead
pub record Told (w : Recording) : Type 0 where
  pub last : Part
  pub goes : Leads Timescale (dump_lines w) (Cycles last)
  pub open_is : last.told ≡ 0
  pub wave_is : wave_of last ≡ w

pub dump_leads : (w : Recording) → IsWave w → Told w
dump_leads w is =
    let head : Head = record { name = w.name; ports = w.ports } in
    let rest = left_arrives (wave_left w is) (at_first w.name w.ports) refl refl (wave_comes w is) in
    let goes : Leads (Start head) (time_line 0 ∷ wave_rest w) (Cycles rest.last) = (Cycles (at_first w.name w.ports), (refl, refl), rest.goes) in
    let made : List ℕ → List Port → ℕ → List Change → Recording = λ n p c g. record { name = n; ports = p; cycles = c; changes = g } in
    let cycle : rest.last.cycle ≡ w.cycles = omega (arith, rest.cycle) in
    record {
      last = rest.last;
      goes = subst (λ lines. Leads Timescale lines (Cycles rest.last)) (sym (dump_rest w is)) (leads_on Timescale (Start head) (Cycles rest.last) (head_lines w.name w.ports) (time_line 0 ∷ wave_rest w) (head_leads w is) goes);
      open_is = rest.open_is;
      wave_is = ap (λ n. made n rest.last.ports rest.last.cycle rest.last.changes) rest.name ∙ ap (λ p. made w.name p rest.last.cycle rest.last.changes) rest.ports
          ∙ ap (λ c. made w.name w.ports c rest.last.changes) cycle ∙ ap (λ g. made w.name w.ports w.cycles g) rest.changes;
    }

-- no lines are those of two waves
pub lines_once : (v w : Recording) → IsWave v → IsWave w → dump_lines v ≡ dump_lines w → v ≡ w
lines_once v w one two e =
    let a = dump_leads v one in
    let b = dump_leads w two in
    let same : Cycles a.last ≡ Cycles b.last = leads_once Timescale (Cycles a.last) (Cycles b.last) (dump_lines w) (subst (λ lines. Leads Timescale lines (Cycles a.last)) e a.goes) b.goes in
    sym a.wave_is ∙ ap last_wave same ∙ b.wave_is
  where
    last_wave : Stage → Recording
    last_wave (Cycles p) = wave_of p
    last_wave _ = v
