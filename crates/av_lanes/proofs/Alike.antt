-- A lane and a clock that are alike stay so under the same calls.
use Rattle.std.proofs.Common.{◌≡◌, ◌≢◌, ◌⊎◌, ℕ, List, true, false, Bool, get_or, Some, refl, sym, ◌∙◌, ap, inl, inr}
use Rattle.std.specs.Prelude.{All, IsTrue}
use Rattle.std.specs.Str.{bytes_eq}
use Rattle.std.proofs.lemmas.List.Elements.{All-append, All-map, All-contains, Contains-append_left}
use Rattle.std.proofs.lemmas.Slice.Eq.{bytes_eq-Decides}
use Rattle.av_net.specs.declared.netlist.Port.{Port}
use Rattle.av_net.specs.declared.netlist.Step.{Step}
use Rattle.av_net.specs.declared.netlist.Module.{Module}
use Rattle.av_net.specs.Meaning.{Words}
use Rattle.av_net.specs.Names.{names_of, given_names, wire_names, all_names, registers_of}
use Rattle.av_net.specs.Settled.{Settled, Agree}
use Rattle.av_net.specs.Clocked.{Edge}
use Rattle.av_net.specs.Sound.{IsSound}
use Rattle.av_net.proofs.Once.{agree_by, agree_within, same_word, one_settled}
use Rattle.av_lanes.specs.Calls.{Call, State, Takes, AreAlike, LanesFollow, clock_state, lane_state, in_lane}
use Rattle.av_lanes.specs.Calls.Takes.{by_set, by_settle, by_tick, by_reset}
use Rattle.av_lanes.specs.Calls.ClockTakes.{clock_done, clock_call}
use Rattle.av_lanes.specs.Calls.LanesTake.{lanes_done, lanes_call}

-- a state that is not settled says nothing of the other names
unsettled : (m : Module) (s t : State) → Agree (given_names m) s.words t.words → s.settled ≡ false → t.settled ≡ false → AreAlike m s t
unsettled m s t given sf tf = record {
  given = given;
  flag = sf ∙ sym tf;
  all = λ flag. absurd (let e : false ≡ true = sym sf ∙ flag in cc);
}

-- ports that agree, and registers that the steps gave the same words
given_by : (m : Module) (v w : Words) → IsSound m → Agree (names_of m.inputs) v w → All (λ step. v step.register ≡ w step.register) m.steps → Agree (given_names m) v w
given_by m v w sound inputs steps =
    let stepped : Agree (registers_of m.steps) v w = All-map (λ name. v name ≡ w name) (λ (step : Step). step.register) m.steps steps in
    All-append (λ name. v name ≡ w name) (names_of m.inputs) (names_of m.registers) inputs (agree_within (registers_of m.steps) (names_of m.registers) v w stepped sound.registers_stepped)

-- ports that two calls left as they were
inputs_by : (m : Module) (s t s' t' : State) → AreAlike m s t → Agree (names_of m.inputs) s.words s'.words → Agree (names_of m.inputs) t.words t'.words → Agree (names_of m.inputs) s'.words t'.words
inputs_by m s t s' t' alike sp tp =
    let before : Agree (names_of m.inputs) s.words t.words = agree_by (names_of m.inputs) s.words t.words (λ name at.
    All-contains (λ name. s.words name ≡ t.words name) (given_names m) name alike.given (Contains-append_left (names_of m.inputs) (names_of m.registers) name at)) in
    λ k d lt. sym (sp k d lt) ∙ before k d lt ∙ tp k d lt

same_or_not : (a b : List ℕ) → (a ≡ b) ⊎ (a ≢ b)
same_or_not a b = by_test (bytes_eq a b) (bytes_eq-Decides a b).0 (λ e. (bytes_eq-Decides a b).1 e)
  where
    never : false ≡ true → ⊥
    never e = cc

    by_test : (test : Bool) → (test ≡ true → a ≡ b) → (a ≡ b → test ≡ true) → (a ≡ b) ⊎ (a ≢ b)
    by_test true f g = inl (f refl)
    by_test false f g = inr (λ e. never (g e))

-- the same word at one port
alike_set : (m : Module) (s t s' t' : State) (name : List ℕ) (value : ℕ) → AreAlike m s t → s'.words name ≡ value → ((other : List ℕ) → other ≢ name → s'.words other ≡ s.words other) → s'.settled ≡ false
    → t'.words name ≡ value → ((other : List ℕ) → other ≢ name → t'.words other ≡ t.words other) → t'.settled ≡ false → AreAlike m s' t'
alike_set m s t s' t' name value alike sv so sf tv to tf =
    unsettled m s' t' (agree_by (given_names m) s'.words t'.words (λ other at. elim (same_or_not other name) [
      | inl e ↦ ap s'.words e ∙ sv ∙ sym tv ∙ ap t'.words (sym e)
      | inr ne ↦ so other ne ∙ All-contains (λ name. s.words name ≡ t.words name) (given_names m) other alike.given at ∙ sym (to other ne)
    ])) sf tf

alike_settled : (m : Module) (s t s' t' : State) → IsSound m → AreAlike m s t → Settled m s'.words → Agree (given_names m) s.words s'.words → s'.settled ≡ true → Settled m t'.words → Agree (given_names m) t.words t'.words → t'.settled ≡ true → AreAlike m s' t'
alike_settled m s t s' t' sound alike ss sg sf ts tg tf =
    let given : Agree (given_names m) s'.words t'.words = λ k d lt. sym (sg k d lt) ∙ alike.given k d lt ∙ tg k d lt in
    record {
      given = given;
      flag = sf ∙ sym tf;
      all = λ flag. All-append (λ name. s'.words name ≡ t'.words name) (given_names m) (wire_names m) given (one_settled m sound s'.words t'.words given ss ts);
    }

alike_tick : (m : Module) (s t s' t' : State) → IsSound m → AreAlike m s t → IsTrue s.settled → Edge m false s.words s'.words → Agree (names_of m.inputs) s.words s'.words → s'.settled ≡ false
    → Edge m false t.words t'.words → Agree (names_of m.inputs) t.words t'.words → t'.settled ≡ false → AreAlike m s' t'
alike_tick m s t s' t' sound alike flag se sp sf te tp tf =
    let all = alike.all flag in
    unsettled m s' t' (given_by m s'.words t'.words sound (inputs_by m s t s' t' alike sp tp)
    (λ k d lt. se k d lt ∙ same_word (all_names m) s.words t.words (get_or m.steps k d).next all (sound.steps_read k d lt) ∙ sym (te k d lt))) sf tf

alike_reset : (m : Module) (s t s' t' : State) → IsSound m → AreAlike m s t → Edge m true s.words s'.words → Agree (names_of m.inputs) s.words s'.words → s'.settled ≡ false
    → Edge m true t.words t'.words → Agree (names_of m.inputs) t.words t'.words → t'.settled ≡ false → AreAlike m s' t'
alike_reset m s t s' t' sound alike se sp sf te tp tf =
    unsettled m s' t' (given_by m s'.words t'.words sound (inputs_by m s t s' t' alike sp tp) (λ k d lt. se k d lt ∙ sym (te k d lt))) sf tf

-- one call
alike_call : (m : Module) (call : Call) (s t s' t' : State) → IsSound m → AreAlike m s t → Takes m call s s' → Takes m call t t' → AreAlike m s' t'
alike_call m call s t s' t' sound alike (by_set {port = p} sp sv so sf) (by_set {port = q} tp tv to tf) =
    let same : p ≡ q = let e : Some p ≡ Some q = sym sp ∙ tp in cc in
    alike_set m s t s' t' q.name _ alike (ap (λ (p : Port). s'.words p.name) (sym same) ∙ sv) (λ other ne. so other (λ e. ne (e ∙ ap (λ (p : Port). p.name) same))) sf tv to tf
alike_call m call s t s' t' sound alike (by_settle ss sg sf) (by_settle ts tg tf) = alike_settled m s t s' t' sound alike ss sg sf ts tg tf
alike_call m call s t s' t' sound alike (by_tick flag se sp sf) (by_tick flag' te tp tf) = alike_tick m s t s' t' sound alike flag se sp sf te tp tf
alike_call m call s t s' t' sound alike (by_reset se sp sf) (by_reset te tp tf) = alike_reset m s t s' t' sound alike se sp sf te tp tf

-- any list of calls
pub follow : LanesFollow
follow m sound calls lanes lanes' lanes_done k lt one one' clock_done alike = alike
follow m sound calls lanes lanes' (lanes_call {call = call} {t = between} first later) k lt one one' (clock_call {t = other} taken others) alike =
    follow m sound _ between lanes' later k lt other one' others (alike_call m (in_lane k call) (lane_state k lanes) (clock_state one) (lane_state k between) (clock_state other) sound alike (first k lt) taken)
