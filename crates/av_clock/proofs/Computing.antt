-- All drives in order, but those of the constant 0, whose words stand already.
use Rattle.std.proofs.Common.{◌≡◌, ◌≢◌, ℕ, suc, ◌+◌, ◌<◌, ◌≤◌, List, [], ◌∷◌, length, get_or, set, drop, refl, sym, ◌∙◌, ap, subst, arith, inl, inr, Bool, true, false, not, cond, replicate}
use Rattle.std.specs.Prelude.{All, Contains, filter}
use Rattle.std.proofs.Math.Path.{fun_ext}
use Rattle.std.proofs.Math.ListN.{length-set}
use Rattle.std.proofs.lemmas.Bool.{eqb-true, cases_lt}
use Rattle.std.proofs.lemmas.List.{drop_more, drop_all, length-map, get_or-map, get_or_default, get_or-replicate, get_or_past, length-replicate}
use Rattle.std.proofs.lemmas.List.Elements.{All-filter, Contains-append_right}
use Rattle.av_base.specs.Words.{IsWord}
use Rattle.av_net.specs.declared.operation.Operand.TheVariants.{Name, Literal}
use Rattle.av_net.specs.declared.operation.Operation.{Operation}
use Rattle.av_net.specs.declared.operation.Operation.TheVariants.{Plain, Binary, Signed, Choose, Part, Widen}
use Rattle.av_net.specs.declared.netlist.Drive.{Drive}
use Rattle.av_net.specs.declared.netlist.Module.{Module}
use Rattle.av_net.specs.Meaning.{Words, Widths, result_of, EachOperand}
use Rattle.av_net.specs.Names.{AreDistinct, names_of, given_names, all_names, targets_of, registers_of, width_of}
use Rattle.av_net.specs.Settled.{Settled, Agree, FitAt}
use Rattle.av_net.specs.Sound.{IsSound, IsFitting}
use Rattle.av_net.proofs.Cycles.{is_declared}
use Rattle.av_net.proofs.Distinct.{apart, front_distinct, rest_distinct}
use Rattle.av_net.proofs.Fits.{result_fits}
use Rattle.av_net.proofs.Once.{agree_by}
use Rattle.av_net.proofs.Settles.{with_word, with_word_same, with_word_other, names_distinct, settle_from, settled_of, is_settled, as_given}
use Rattle.av_clock.specs.declared.gate.Reading.TheVariants.{At, Constant}
use Rattle.av_clock.specs.declared.gate.Gate.{Gate}
use Rattle.av_clock.specs.declared.gate.Gate.TheVariants.{Buffer, Operator, Comparator, Multiplexer, Slice, Extender}
use Rattle.av_clock.specs.declared.gate.Assignment.{Assignment}
use Rattle.av_clock.specs.Named.{named, AllFit}
use Rattle.av_clock.specs.Gates.{gate_word, is_zero, IsResolved, IsAssigned, AreAssigned}
use Rattle.av_clock.specs.Kept.{computes, AreComputed, IsZero, AreZero}
use Rattle.av_clock.proofs.Held.{given_apart}
use Rattle.av_clock.proofs.Lookup.{look_set, look_zero, same_or_not}
use Rattle.av_clock.proofs.Resolved.{at_item, drive_reads, drive_suits}
use Rattle.av_clock.proofs.Settling.{IsFor, is_for, gate_gives, fit_with}

-- ---- what stands for drives

-- these stand for those, one for each
pub record AreFor (m : Module) (drives : List Drive) (assignments : List Assignment) : Type 0 where
  pub count : length assignments ≡ length drives
  pub each : (k : ℕ) (d : Drive) (e : Assignment) → k < length drives → IsAssigned m (get_or drives k d) (get_or assignments k e)

behind_first : (m : Module) (drive : Drive) (drives : List Drive) (assignment : Assignment) (assignments : List Assignment) → AreFor m (drive ∷ drives) (assignment ∷ assignments) → AreFor m drives assignments
behind_first m drive drives assignment assignments are = record {
  count = (let e = are.count in omega arith);
  each = λ k d e lt. are.each (suc k) d e (omega arith);
}

-- a gate of the constant 0 stands for such an operation
zero_operation : (widths : Widths) (names : List (List ℕ)) (operation : Operation) (gate : Gate) → IsResolved widths names operation gate → is_zero gate ≡ true → IsZero operation
zero_operation widths names (Plain (Literal width value)) (Buffer (Constant word)) is e = sym is ∙ eqb-true word 0 e
zero_operation widths names (Plain (Name name)) (Buffer (At place)) is e = absurd cc
zero_operation widths names (Plain (Name name)) (Buffer (Constant word)) is e = absurd is
zero_operation widths names (Plain (Literal width value)) (Buffer (At place)) is e = absurd is
zero_operation widths names (Binary a symbol b) (Operator first symbol' second width) is e = absurd cc
zero_operation widths names (Signed a symbol b) (Comparator first symbol' second width) is e = absurd cc
zero_operation widths names (Choose c a b) (Multiplexer condition first second) is e = absurd cc
zero_operation widths names (Part name high low) (Slice input from width) is e = absurd cc
zero_operation widths names (Widen name by) (Extender input width more) is e = absurd cc
zero_operation widths names operation gate is e = absurd is

-- such an operation gives 0
zero_result : (widths : Widths) (v : Words) (operation : Operation) → IsZero operation → result_of widths v operation ≡ 0
zero_result widths v (Plain (Literal width value)) is = is
zero_result widths v (Plain (Name name)) is = absurd is
zero_result widths v (Binary a symbol b) is = absurd is
zero_result widths v (Signed a symbol b) is = absurd is
zero_result widths v (Choose c a b) is = absurd is
zero_result widths v (Part name high low) is = absurd is
zero_result widths v (Widen name by) is = absurd is

-- a word that is there already
same_words : (v : Words) (name : List ℕ) (word : ℕ) → v name ≡ word → with_word v name word ≡ v
same_words v name word is = fun_ext (λ other. elim (same_or_not other name) [
  | inl e ↦ rw e (with_word_same v name word ∙ sym is)
  | inr ne ↦ with_word_other v name word other ne
])

-- ---- all of them

-- the words after these assignments, one after another
abbrev pub run : List Assignment → List ℕ → List ℕ
run [] words = words
run (assignment ∷ assignments) words = run assignments (set words assignment.target (gate_word words assignment.gate))

-- of these drives, those of the constant 0 have their words
abbrev HaveZeros : List Drive → Words → Type 0
HaveZeros drives v = (k : ℕ) (d : Drive) → k < length drives → IsZero (get_or drives k d).operation → v (get_or drives k d).target ≡ 0

-- without those of the constant 0 they leave what all drives leave
ran : (m : Module) (drives : List Drive) (assignments : List Assignment) (words : List ℕ) → AreDistinct (all_names m) → AreDistinct (targets_of drives) → length words ≡ length (all_names m) → AreFor m drives assignments
    → HaveZeros drives (named m words) → named m (run (filter computes assignments) words) ≡ settle_from (width_of m) (named m words) drives
ran m [] [] words names distinct long are zeros = refl
ran m [] (assignment ∷ assignments) words names distinct long are zeros = absurd (let e = are.count in omega arith)
ran m (drive ∷ drives) [] words names distinct long are zeros = absurd (let e = are.count in omega arith)
ran m (drive ∷ drives) (assignment ∷ assignments) words names distinct long are zeros =
    by_test (is_zero assignment.gate) refl (λ words' long' zeros'. ran m drives assignments words' names rest long' (behind_first m drive drives assignment assignments are) zeros')
  where
    here : IsAssigned m drive assignment
    here = are.each 0 drive assignment (omega arith)

    rest : AreDistinct (targets_of drives)
    rest = rest_distinct (drive.target ∷ []) (targets_of drives) distinct

    wrote : named m (set words assignment.target (gate_word words assignment.gate)) ≡ with_word (named m words) drive.target (result_of (width_of m) (named m words) drive.operation)
    wrote =
        look_set (all_names m) words assignment.target (gate_word words assignment.gate) drive.target names long here.target
        ∙ ap (with_word (named m words) drive.target) (gate_gives (width_of m) (all_names m) words drive.operation assignment.gate names long here.gate)

    other : (k : ℕ) (d : Drive) → k < length drives → (get_or drives k d).target ≢ drive.target
    other k d lt same =
        let target = (get_or drives k d).target in
        let count : length (targets_of drives) ≡ length drives = length-map drives (λ (x : Drive). x.target) in
        let there : get_or (targets_of drives) k target ≡ target = get_or-map (λ (x : Drive). x.target) drives k d target lt in
        apart (drive.target ∷ []) (targets_of drives) target distinct (0, omega arith, sym same) (k, omega arith, there)

    by_test : (test : Bool) → is_zero assignment.gate ≡ test
        → ((words' : List ℕ) → length words' ≡ length (all_names m) → HaveZeros drives (named m words') → named m (run (filter computes assignments) words') ≡ settle_from (width_of m) (named m words') drives)
        → named m (run (cond (not test) (assignment ∷ filter computes assignments) (filter computes assignments)) words) ≡ settle_from (width_of m) (with_word (named m words) drive.target (result_of (width_of m) (named m words) drive.operation)) drives
    by_test true e later =
        let result = result_of (width_of m) (named m words) drive.operation in
        let is : IsZero drive.operation = zero_operation (width_of m) (all_names m) drive.operation assignment.gate here.gate e in
        let stands : named m words drive.target ≡ result = zeros 0 drive (omega arith) is ∙ sym (zero_result (width_of m) (named m words) drive.operation is) in
        later words long (λ k d lt. zeros (suc k) d (omega arith)) ∙ ap (λ (w : Words). settle_from (width_of m) w drives) (sym (same_words (named m words) drive.target result stands))
    by_test false e later =
        later (set words assignment.target (gate_word words assignment.gate)) (length-set words assignment.target (gate_word words assignment.gate) ∙ long)
        (λ k d lt is. ap (λ (w : Words). w (get_or drives k d).target) wrote
        ∙ with_word_other (named m words) drive.target (result_of (width_of m) (named m words) drive.operation) (get_or drives k d).target (other k d lt) ∙ zeros (suc k) d (omega arith) is)
        ∙ ap (λ (w : Words). settle_from (width_of m) w drives) wrote

-- ---- one after another

-- an assignment of one of the drives
pub record IsOne (m : Module) (assignment : Assignment) : Type 0 where
  pub place : ℕ
  pub for : IsFor m place assignment

-- each of those that compute is
pub each_one : (m : Module) (assignments computed : List Assignment) → AreAssigned m (length m.drives) assignments → computed ≡ filter computes assignments → All (IsOne m) computed
each_one m assignments computed are same = subst (All (IsOne m)) (sym same) (All-filter computes (IsOne m) assignments (λ k d lt. record {
  place = k;
  for = is_for m k assignments (get_or assignments k d) are lt (get_or_default assignments k d (get_or assignments k d) lt);
}))

pub one_of : (m : Module) (computed : List Assignment) (n : ℕ) (assignment : Assignment) → AreComputed m computed → n < length computed → assignment ≡ get_or computed n assignment → IsOne m assignment
one_of m computed n assignment are lt at = at_item (IsOne m) computed n assignment lt at (each_one m are.assignments computed are.assigned are.filtered)

-- a word of one of them fits
word_fitting : (m : Module) (words : List ℕ) (n : ℕ) (assignment : Assignment) → IsSound m → length words ≡ length (all_names m) → IsFor m n assignment → AllFit m words → AllFit m (set words assignment.target (gate_word words assignment.gate))
word_fitting m words n assignment sound long for fit =
    let drive = for.drive in
    let names = names_distinct m sound in
    let word = gate_word words assignment.gate in
    let given : word ≡ result_of (width_of m) (named m words) drive.operation = gate_gives (width_of m) (all_names m) words drive.operation assignment.gate names long for.assigned.gate in
    let fits : IsWord (width_of m drive.target) word = subst (IsWord (width_of m drive.target)) (sym given) (result_fits (width_of m) (all_names m) (named m words) (width_of m drive.target) drive.operation fit
    (drive_reads m n drive sound for.within for.at)
    (at_item (λ (x : Drive). EachOperand IsFitting x.operation) m.drives n drive for.within for.at sound.drives_fit)
    (drive_suits m n drive sound for.within for.at)) in
    subst (FitAt (width_of m) (all_names m)) (sym (look_set (all_names m) words assignment.target word drive.target names long for.assigned.target))
    (fit_with (width_of m) (all_names m) (named m words) drive.target word fit fits)

-- the words after the first of them, from which the others lead to the same end
pub record Computes (m : Module) (computed : List Assignment) (before words : List ℕ) (n : ℕ) : Type 0 where
  pub fit : AllFit m words
  pub rest : run (drop n computed) words ≡ run computed before

pub computes_none : (m : Module) (computed : List Assignment) (words : List ℕ) → AllFit m words → Computes m computed words words 0
computes_none m computed words fit = record { fit = fit; rest = refl }

pub computes_more : (m : Module) (computed : List Assignment) (before words : List ℕ) (n : ℕ) (assignment : Assignment) (word : ℕ) → IsSound m → length words ≡ length (all_names m) → n < length computed → assignment ≡ get_or computed n assignment
    → IsOne m assignment → word ≡ gate_word words assignment.gate → Computes m computed before words n → Computes m computed before (set words assignment.target word) (n + 1)
computes_more m computed before words n assignment word sound long lt at one is so_far =
    let next : set words assignment.target word ≡ set words assignment.target (gate_word words assignment.gate) = ap (set words assignment.target) is in
    subst (λ ws. Computes m computed before ws (n + 1)) (sym next) (record {
      fit = word_fitting m words one.place assignment sound long one.for so_far.fit;
      rest =
          let first : drop n computed ≡ assignment ∷ drop (n + 1) computed = drop_more computed n assignment lt ∙ ap (λ (x : Assignment). x ∷ drop (n + 1) computed) (sym at) in
          sym (ap (λ (xs : List Assignment). run xs words) first) ∙ so_far.rest;
    })

-- after all of them
pub record HaveSettled (m : Module) (before words : List ℕ) : Type 0 where
  pub settled : Settled m (named m words)
  pub given : Agree (given_names m) (named m before) (named m words)

pub have_settled : (m : Module) (assignments computed : List Assignment) (before words : List ℕ) (n : ℕ) → IsSound m → length before ≡ length (all_names m) → AreAssigned m (length m.drives) assignments → computed ≡ filter computes assignments
    → AreZero m before → length computed ≤ n → Computes m computed before words n → HaveSettled m before words
have_settled m assignments computed before words n sound long are same zeros past so_far =
    let end : words ≡ run computed before = sym (ap (λ (xs : List Assignment). run xs words) (drop_all n computed past)) ∙ so_far.rest in
    let all : named m (run computed before) ≡ settled_of m (named m before) =
    ap (λ (xs : List Assignment). named m (run xs before)) same
    ∙ ran m m.drives assignments before (names_distinct m sound) (front_distinct (targets_of m.drives) (registers_of m.steps) sound.driven_once) long (record { count = are.count; each = are.each }) zeros in
    let whole : named m words ≡ settled_of m (named m before) = ap (named m) end ∙ all in
    record {
      settled = subst (Settled m) (sym whole) (is_settled m sound (named m before));
      given = agree_by (given_names m) (named m before) (named m words) (λ name at. sym (ap (λ (v : Words). v name) whole ∙ as_given m sound (named m before) name at));
    }

-- ---- the words of the constant 0

-- of words that are all 0
pub zeros_zero : (m : Module) (n : ℕ) → AreZero m (replicate n 0)
zeros_zero m n k d lt is = look_zero (all_names m) (replicate n 0) (get_or m.drives k d).target (λ i. elim (cases_lt i n) [
  | inl within ↦ get_or-replicate n i 0 0 within
  | inr past ↦ get_or_past (replicate n 0) i 0 (rw length-replicate past)
])

-- of settled words
pub settled_zero : (m : Module) (words : List ℕ) → Settled m (named m words) → AreZero m words
settled_zero m words settled k d lt is = settled k d lt ∙ zero_result (width_of m) (named m words) (get_or m.drives k d).operation is

-- where registers alone change
pub edge_zero : (m : Module) (words words' : List ℕ) → IsSound m → ((name : List ℕ) → (Contains (registers_of m.steps) name → ⊥) → named m words' name ≡ named m words name) → AreZero m words → AreZero m words'
edge_zero m words words' sound others zeros k d lt is =
    others (get_or m.drives k d).target (λ at. given_apart m k d (get_or m.drives k d).target sound lt
    (Contains-append_right (names_of m.inputs) (names_of m.registers) (get_or m.drives k d).target (is_declared m sound (get_or m.drives k d).target at)) refl) ∙ zeros k d lt is
