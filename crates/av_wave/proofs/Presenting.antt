-- Words of ports: what is set, noted and shown.
use Rattle.std.proofs.Common.{◌≡◌, ◌≢◌, ℕ, zero, suc, ◌+◌, ◌<◌, ◌≤◌, List, [], ◌∷◌, ◌++◌, length, get_or, take, map, Option, Some, None, slice_get, option_map, refl, sym, ap, ◌∙◌, subst, arith, inl, inr, add-one, append_assoc, take-suc, length-append, Bool, true, false, true≢false}
use Rattle.std.specs.Prelude.{slice_index, slice_set, IfSome}
use Rattle.std.specs.Option.{ForSome}
use Rattle.std.proofs.lemmas.Bool.{cases_lt}
use Rattle.std.proofs.lemmas.List.{get_or-set_same, get_or-set_other, length-map, map-append, take_all, take_more_set}
use Rattle.std.proofs.lemmas.Option.{slice_get-get_or, slice_get-map, slice_get_within, get_or_from_slice_get}
use Rattle.av_net.specs.declared.netlist.Port.{Port}
use Rattle.av_net.specs.declared.netlist.Drive.{Drive}
use Rattle.av_net.specs.declared.netlist.Module.{Module}
use Rattle.av_net.specs.Meaning.{Words}
use Rattle.av_net.specs.Names.{AreDistinct, clk, rst, names_of, given_names, wire_names, all_names, targets_of}
use Rattle.av_net.specs.Settled.{Agree}
use Rattle.av_net.specs.Sound.{IsSound}
use Rattle.av_net.proofs.Distinct.{apart, front_distinct, rest_distinct}
use Rattle.av_clock.specs.Seen.{Seen, carried}
use Rattle.av_data.specs.declared.stimulus.Given.{Given}
use Rattle.av_wave.specs.Simulated.{given_word, port_words}
use Rattle.av_wave.specs.Clocking.{ArePresented, AreWires}
use Rattle.av_data.proofs.Lined.{name_there}

abbrev name_in : Port → List ℕ
name_in port = port.name

pub given_distinct : (m : Module) → IsSound m → AreDistinct (given_names m)
given_distinct m sound = front_distinct (given_names m) (wire_names m) (rest_distinct (clk ∷ rst ∷ []) (all_names m) sound.declared_once)

pub name_at : (ports : List Port) (k : ℕ) (port : Port) → slice_get ports k ≡ Some port → (k < length (names_of ports)) × (get_or (names_of ports) k port.name ≡ port.name)
name_at ports k port e =
    let there : slice_get (names_of ports) k ≡ Some port.name = slice_get-map name_in ports k ∙ ap (option_map name_in) e in
    (slice_get_within (names_of ports) k port.name there, get_or_from_slice_get (names_of ports) k port.name port.name there)

-- other ports have other names
other_name : (names : List (List ℕ)) (j k : ℕ) (a b : List ℕ) → AreDistinct names → j < length names → k < length names → get_or names j a ≡ a → get_or names k b ≡ b → j ≢ k → a ≢ b
other_name names j k a b distinct lj lk ea eb differ same =
    let at : get_or names k a ≡ a = ap (get_or names k) same ∙ eb ∙ sym same in
    elim (cases_lt j k) [
      | inl lt ↦ distinct j k a lt lk (ea ∙ sym at)
      | inr ge ↦ elim (cases_lt k j) [
        | inl lt ↦ distinct k j a lt lj (at ∙ sym ea)
        | inr le ↦ differ (omega (arith, ge, le))
      ]
    ]

pub presents_more : (m : Module) (given : List Given) (c k : ℕ) (v v' : Words) (words : List ℕ) (word : ℕ) (port : Port) → IsSound m → slice_get m.inputs k ≡ Some port → k < length words
    → ArePresented m given c k v words → given_word given c k ≡ word → v' port.name ≡ word → ((name : List ℕ) → name ≢ port.name → v' name ≡ v name)
    → ArePresented m given c (k + 1) v' (slice_set words k word)
presents_more m given c k v v' words word port sound there room so is here others j p lt e =
    elim (cases_lt j k) [
      | inl before ↦
          let differ : j ≢ k = λ same. omega (arith, before, same) in
          let old = so j p before e in
          let a = name_at m.inputs j p e in
          let b = name_at m.inputs k port there in
          let distinct = front_distinct (names_of m.inputs) (names_of m.registers) (given_distinct m sound) in
          (others p.name (other_name (names_of m.inputs) j k p.name port.name distinct a.0 b.0 a.1 b.1 differ) ∙ old.0, get_or-set_other words k j word 0 differ ∙ old.1)
      | inr now ↦
          let same : j ≡ k = omega (arith, now, lt) in
          let one : p ≡ port = some_one (sym e ∙ ap (slice_get m.inputs) same ∙ there) in
          let value : given_word given c j ≡ word = ap (given_word given c) same ∙ is in
          (ap v' (ap name_in one) ∙ here ∙ sym value, ap (slice_index (slice_set words k word)) same ∙ get_or-set_same words k word 0 room ∙ sym value)
    ]
  where
    some_one : {x y : Port} → Some x ≡ Some y → x ≡ y
    some_one {x = x} e = ap (value x) e
      where
        value : Port → Option Port → Port
        value x None = x
        value x (Some z) = z

-- registers keep their words
pub registers_kept : (m : Module) (k : ℕ) (v v' w : Words) (port : Port) → IsSound m → slice_get m.inputs k ≡ Some port → ((name : List ℕ) → name ≢ port.name → v' name ≡ v name)
    → Agree (names_of m.registers) w v → Agree (names_of m.registers) w v'
registers_kept m k v v' w port sound there others agree = λ i d lt.
    let name = get_or (names_of m.registers) i d in
    let differ : name ≢ port.name = λ same.
    apart (names_of m.inputs) (names_of m.registers) port.name (given_distinct m sound) (name_there m.inputs k port there) (i, lt, at i d lt (sym same)) in
    agree i d lt ∙ sym (others name differ)
  where
    at : (i : ℕ) (d : List ℕ) → i < length (names_of m.registers) → port.name ≡ get_or (names_of m.registers) i d → get_or (names_of m.registers) i port.name ≡ port.name
    at i d lt same =
        let some = slice_get-get_or (names_of m.registers) i d lt in
        get_or_from_slice_get (names_of m.registers) i (get_or (names_of m.registers) i d) port.name some ∙ sym same

-- a port is there
pub port_there : (ports : List Port) (k : ℕ) → k < length ports → (port : Port) × (slice_get ports k ≡ Some port)
port_there [] k lt = absurd (omega arith)
port_there (p ∷ ports) zero lt = (p, refl)
port_there (p ∷ ports) (suc k) lt = port_there ports k (omega arith)

pub for_some : (inputs : List Port) (k : ℕ) (P : Port → Type 0) → ((port : Port) → slice_get inputs k ≡ Some port → P port) → k < length inputs → ForSome (slice_get inputs k) P
for_some inputs k P h lt = λ port e. h port e

if_some : (o : Option Port) (P : Port → Type 0) (port : Port) → IfSome o P → o ≡ Some port → P port
if_some o P port h e = subst (λ z. IfSome z P) e h

-- one port more is set
pub turn : (m : Module) (given : List Given) (c k : ℕ) (clock clock' : Seen) (start : Words) (words : List ℕ) (word : ℕ) → IsSound m → clock.of ≡ m → k < length m.inputs → k < length words
    → ArePresented m given c k (carried clock) words → Agree (names_of m.registers) start (carried clock) → given_word given c k ≡ word
    → IfSome (slice_get clock.of.inputs k) (λ p. carried clock' p.name ≡ word)
    → IfSome (slice_get clock.of.inputs k) (λ p. (name : List ℕ) → name ≢ p.name → carried clock' name ≡ carried clock name)
    → ArePresented m given c (k + 1) (carried clock') (slice_set words k word) × Agree (names_of m.registers) start (carried clock')
turn m given c k clock clock' start words word sound of lt room presented agree is here others =
    let (port, there) = port_there m.inputs k lt in
    let seen : slice_get clock.of.inputs k ≡ Some port = ap (λ (x : Module). slice_get x.inputs k) of ∙ there in
    let set = if_some (slice_get clock.of.inputs k) (λ p. carried clock' p.name ≡ word) port here seen in
    let kept = if_some (slice_get clock.of.inputs k) (λ p. (name : List ℕ) → name ≢ p.name → carried clock' name ≡ carried clock name) port others seen in
    (presents_more m given c k (carried clock) (carried clock') words word port sound there room presented is set kept, registers_kept m k (carried clock) (carried clock') start port sound there kept agree)

-- ---- outputs

abbrev target_in : Drive → List ℕ
target_in drive = drive.target

-- the drive of a target
pub drive_there : (drives : List Drive) (w : ℕ) (name : List ℕ) → slice_get (targets_of drives) w ≡ Some name → (drive : Drive) × (slice_get drives w ≡ Some drive) × (drive.target ≡ name)
drive_there drives w name e = by (slice_get drives w) refl (sym (slice_get-map target_in drives w) ∙ e)
  where
    text : Option (List ℕ) → List ℕ
    text None = []
    text (Some n) = n

    flag : Option (List ℕ) → Bool
    flag None = false
    flag (Some n) = true

    by : (o : Option Drive) → slice_get drives w ≡ o → option_map target_in o ≡ Some name → (drive : Drive) × (slice_get drives w ≡ Some drive) × (drive.target ≡ name)
    by None f h = absurd (true≢false (sym (ap flag h)))
    by (Some drive) f h = (drive, f, ap text h)

pub wire_within : (m : Module) (wires : List ℕ) (i : ℕ) → AreWires m (length m.outputs) wires → i < length wires → slice_index wires i < length m.drives
wire_within m wires i are lt =
    let within : i < length m.outputs = (let c = are.count in omega (arith, c, lt)) in
    let (port, there) = port_there m.outputs i within in
    omega (arith, slice_get_within (targets_of m.drives) (slice_index wires i) port.name (are.drives i port within there), length-map m.drives target_in)

-- one output more is noted
pub shows_more : (m : Module) (v : Words) (wires words : List ℕ) (inputs i word : ℕ) → AreWires m (length m.outputs) wires → i < length wires → inputs ≡ length m.inputs → length words ≡ length (m.inputs ++ m.outputs)
    → take (inputs + i) words ≡ port_words v (m.inputs ++ take i m.outputs) → ((d : Drive) → word ≡ v (get_or m.drives (slice_index wires i) d).target)
    → take (inputs + (i + 1)) (slice_set words (inputs + i) word) ≡ port_words v (m.inputs ++ take (i + 1) m.outputs)
shows_more m v wires words inputs i word are lt count room so is =
    let within : i < length m.outputs = (let c = are.count in omega (arith, c, lt)) in
    let (port, there) = port_there m.outputs i within in
    let (drive, here, target) = drive_there m.drives (slice_index wires i) port.name (are.drives i port within there) in
    let value : word ≡ v port.name = is drive ∙ ap (λ (x : Drive). v x.target) (get_or_from_slice_get m.drives (slice_index wires i) drive drive here) ∙ ap v target in
    let next : inputs + (i + 1) ≡ (inputs + i) + 1 = omega arith in
    let inside : inputs + i < length words = omega (arith, room, count, within, length-append m.inputs m.outputs) in
    let outputs : take (i + 1) m.outputs ≡ take i m.outputs ++ port ∷ [] = rw add-one (take-suc m.outputs i port within ∙ ap (λ (p : Port). take i m.outputs ++ p ∷ []) (get_or_from_slice_get m.outputs i port port there)) in
    ap (λ n. take n (slice_set words (inputs + i) word)) next ∙ take_more_set words (inputs + i) word inside ∙ ap (λ z. z ++ word ∷ []) so ∙ ap (λ w. port_words v (m.inputs ++ take i m.outputs) ++ w ∷ []) value
    ∙ sym (map-append (λ (p : Port). v p.name) (m.inputs ++ take i m.outputs) (port ∷ [])) ∙ ap (port_words v) (append_assoc m.inputs (take i m.outputs) (port ∷ []) ∙ ap (λ (ps : List Port). m.inputs ++ ps) (sym outputs))

pub all_shown : (m : Module) (v : Words) (words : List ℕ) (inputs i : ℕ) → length m.outputs ≤ i → inputs ≡ length m.inputs → length words ≡ length (m.inputs ++ m.outputs)
    → take (inputs + i) words ≡ port_words v (m.inputs ++ take i m.outputs) → words ≡ port_words v (m.inputs ++ m.outputs)
all_shown m v words inputs i le count room so =
    sym (take_all (inputs + i) words (omega (arith, room, count, le, length-append m.inputs m.outputs))) ∙ so ∙ ap (λ (ps : List Port). port_words v (m.inputs ++ ps)) (take_all i m.outputs le)

-- ---- lists of words

pub words_noted : (ports : List Port) (f : Port → ℕ) (words : List ℕ) → length ports ≤ length words → ((k : ℕ) (port : Port) → slice_get ports k ≡ Some port → slice_index words k ≡ f port) → take (length ports) words ≡ map f ports
words_noted [] f words le h = refl
words_noted (p ∷ ports) f [] le h = absurd (omega arith)
words_noted (p ∷ ports) f (w ∷ words) le h = ap (λ z. z ∷ take (length ports) words) (h 0 p refl) ∙ ap (λ (z : List ℕ). f p ∷ z) (words_noted ports f words (omega arith) (λ k port e. h (suc k) port e))

-- the input ports have different names
pub inputs_apart : (m : Module) → IsSound m → AreDistinct (names_of m.inputs)
inputs_apart m sound = front_distinct (names_of m.inputs) (names_of m.registers) (given_distinct m sound)
