-- The values of a cycle, told port by port.
use Rattle.std.proofs.Common.{◌≡◌, ℕ, ◌+◌, ◌<◌, ◌≤◌, inl, inr, List, [], ◌∷◌, ◌++◌, length, eqb, true, false, refl, sym, ◌∙◌, ap, arith, subst, append_assoc}
use Rattle.std.specs.Prelude.{slice_index}
use Rattle.std.proofs.lemmas.Bool.{eq-eqb, ne_eqb, cases_eq}
use Rattle.std.proofs.lemmas.List.{append-nil}
use Rattle.av_base.proofs.Lists.{each_append, each_weaker}
use Rattle.av_net.specs.declared.netlist.Port.{Port}
use Rattle.av_wave.specs.declared.wave.Change.{Change}
use Rattle.av_wave.specs.Waves.{zeros, changed}
use Rattle.av_wave.specs.inner.Parts.{Part, values_now, told_of, next_cycle, IsNext, FitsPort, MayEnd, IsTold, AreTold, Records}
use Rattle.av_wave.proofs.Values.{changed_on}

-- ---- one port

abbrev told_here : Part → ℕ → ℕ → Change
told_here p port word = record { cycle = p.cycle; port = port; value = word }

value_told : (p : Part) (port word k : ℕ) → values_now (told_of p (told_here p port word)) k ≡ changed (values_now p) (told_here p port word) k
value_told p port word k = ap (λ (v : ℕ → ℕ). v k) (changed_on zeros p.changes (told_here p port word ∷ []))

pub told_is : (p q : Part) (port word : ℕ) → q ≡ told_of p (told_here p port word) → IsTold p port word q
told_is p q port word e = subst (IsTold p port word) (sym e) (record {
  name = refl;
  ports = refl;
  cycle = refl;
  first = λ _. refl;
  later = omega arith;
  more = told_here p port word ∷ [];
  changes = refl;
  here = (refl, tt);
  value = value_told p port word port ∙ (let same : eqb port port ≡ true = eq-eqb port port refl in rw same refl);
  others = λ k differ. value_told p port word k ∙ (let other : eqb port k ≡ false = ne_eqb port k (λ is. differ (sym is)) in rw other refl);
})

-- a port that does not change has its value
pub not_told : (p q : Part) (port word : ℕ) → q ≡ p → p.cycle < 4096 → p.told ≤ port → (p.cycle ≡ 0 → p.told ≡ port) → (IsNext p port word → ⊥) → IsTold p port word q
not_told p q port word e most order first none = subst (IsTold p port word) (sym e) (record {
  name = refl;
  ports = refl;
  cycle = refl;
  first = λ zeroth. absurd (none (record { most = most; first = λ _. sym (first zeroth); order = λ some. absurd (omega arith); news = λ some. absurd (omega arith) }));
  later = omega arith;
  more = [];
  changes = sym (append-nil p.changes);
  here = tt;
  value = elim (cases_eq word (values_now p port)) [
    | inl same ↦ sym same
    | inr differ ↦ absurd (none (record { most = most; first = λ zeroth. sym (first zeroth); order = λ some. order; news = λ some. differ }))
  ];
  others = λ k differ. refl;
})

-- ---- one port after another

pub none_told : (p : Part) (words : List ℕ) → p.told ≡ 0 → AreTold p 0 words p
none_told p words none = record {
  name = refl;
  ports = refl;
  cycle = refl;
  first = λ _. none;
  later = omega arith;
  more = [];
  changes = sym (append-nil p.changes);
  here = tt;
  values = λ k lt. absurd (omega arith);
}

pub tell_more : (p q r : Part) (n word : ℕ) (words : List ℕ) → word ≡ slice_index words n → AreTold p n words q → IsTold q n word r → AreTold p (n + 1) words r
tell_more p q r n word words is so_far told = record {
  name = told.name ∙ so_far.name;
  ports = told.ports ∙ so_far.ports;
  cycle = told.cycle ∙ so_far.cycle;
  first = λ zeroth. told.first (so_far.cycle ∙ zeroth);
  later = told.later;
  more = so_far.more ++ told.more;
  changes = told.changes ∙ ap (λ (gs : List Change). gs ++ told.more) so_far.changes ∙ append_assoc p.changes so_far.more told.more;
  here = each_append (λ (g : Change). g.cycle ≡ p.cycle) so_far.more told.more so_far.here (each_weaker (λ (g : Change). g.cycle ≡ q.cycle) (λ (g : Change). g.cycle ≡ p.cycle) (λ g e. e ∙ so_far.cycle) told.more told.here);
  values = λ k lt. elim (cases_eq k n) [
    | inl last ↦ ap (values_now r) last ∙ told.value ∙ is ∙ ap (slice_index words) (sym last)
    | inr before ↦ told.others k before ∙ so_far.values k (omega (arith, before))
  ];
}

-- what may be told next
pub tell_room : {p q : Part} {n : ℕ} {words : List ℕ} → p.cycle < 4096 → AreTold p n words q → q.cycle < 4096
tell_room most so_far = omega (arith, most, so_far.cycle)

pub tell_first : {p q : Part} {n : ℕ} {words : List ℕ} → AreTold p n words q → q.cycle ≡ 0 → q.told ≡ n
tell_first so_far zeroth = so_far.first (sym so_far.cycle ∙ zeroth)

pub tell_fits : {p q : Part} {n : ℕ} {words : List ℕ} (word : ℕ) → AreTold p n words q → FitsPort p.ports n (slice_index words n) → word ≡ slice_index words n → FitsPort q.ports n word
tell_fits {p = p} {n = n} word so_far fits is = subst (λ (ports : List Port). FitsPort ports n word) (sym so_far.ports) (subst (λ (w : ℕ). FitsPort p.ports n w) (sym is) fits)

-- ---- a whole cycle

pub told_ends : {p q : Part} {n : ℕ} {words : List ℕ} → p.cycle < 4096 → AreTold p n words q → n ≡ length p.ports → MayEnd q
told_ends {p = p} {q = q} most so_far all = record {
  most = tell_room most so_far;
  whole = λ zeroth. tell_first so_far zeroth ∙ all ∙ ap (λ (ports : List Port). length ports) (sym so_far.ports);
}

pub told_records : (p q r : Part) (n : ℕ) (words : List ℕ) → AreTold p n words q → n ≡ length p.ports → r ≡ next_cycle q → Records p words r
told_records p q r n words so_far all e = subst (Records p words) (sym e) (record {
  name = so_far.name;
  ports = so_far.ports;
  cycle = ap (λ c. c + 1) so_far.cycle;
  told = refl;
  more = so_far.more;
  changes = so_far.changes;
  here = so_far.here;
  values = λ k lt. so_far.values k (omega arith);
})
