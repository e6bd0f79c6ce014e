-- Drives that are merged one after another: what the sources of the first ones say, whatever the later ones get.
use Rattle.std.proofs.Common.{◌≡◌, ◌≢◌, ◌⊎◌, ℕ, ◌+◌, ◌<◌, ◌≤◌, List, [], ◌∷◌, ◌++◌, map, length, get_or, set, take, slice_get, Some, None, Vec, refl, sym, ◌∙◌, ap, subst, arith, inl, inr, append_assoc, length-append}
use Rattle.std.specs.Prelude.{All, Contains}
use Rattle.std.specs.declared.alloc.Global.{Global}
use Rattle.std.proofs.Math.ListN.{length-set, get_or-append}
use Rattle.std.proofs.lemmas.Bool.{cases_eq, cases_lt}
use Rattle.std.proofs.lemmas.List.{get_or-set_same, get_or-set_other, get_or-map, get_or_default, get_or-take, length-map, length-take-le, map_more, length_push}
use Rattle.std.proofs.lemmas.List.Elements.{Contains-append_left, Contains-append_right, Contains-push, Contains-push_cases}
use Rattle.std.proofs.lemmas.Option.{slice_get_within, slice_get_cases, get_or_from_slice_get, slice_get-get_or}
use Rattle.av_net.specs.declared.operation.Operand.{Operand}
use Rattle.av_net.specs.declared.operation.Operand.TheVariants.{Name, Literal}
use Rattle.av_net.specs.declared.operation.Operation.{Operation}
use Rattle.av_net.specs.declared.operation.Operation.TheVariants.{Plain, Binary, Signed, Choose, Part, Widen}
use Rattle.av_net.specs.declared.netlist.Port.{Port}
use Rattle.av_net.specs.declared.netlist.Drive.{Drive}
use Rattle.av_net.specs.declared.netlist.Step.{Step}
use Rattle.av_net.specs.declared.netlist.Module.{Module}
use Rattle.av_net.specs.Meaning.{Widths, operand_width, result_of, EachOperand}
use Rattle.av_net.specs.Names.{AreDistinct, IsAmong, names_of, given_names, wire_names, all_names, targets_of, width_of}
use Rattle.av_net.specs.Settled.{Holds}
use Rattle.av_net.specs.Sound.{IsSound, SuitsWidth}
use Rattle.av_net.proofs.Settles.{names_distinct}
use Rattle.av_clock.specs.declared.gate.Reading.{Reading}
use Rattle.av_clock.specs.declared.gate.Reading.TheVariants.{At, Constant}
use Rattle.av_clock.specs.declared.gate.Gate.{Gate}
use Rattle.av_clock.specs.declared.gate.Gate.TheVariants.{Buffer, Operator, Comparator, Multiplexer, Slice, Extender}
use Rattle.av_clock.specs.declared.gate.Assignment.{Assignment}
use Rattle.av_clock.specs.declared.gate.FlipFlop.{FlipFlop}
use Rattle.av_clock.specs.Named.{named}
use Rattle.av_clock.specs.Gates.{gate_word, IsWithin, IsRead, IsResolved, IsAssigned, AreAssigned, IsStepped, AreStepped}
use Rattle.av_clock.specs.inner.Keys.{key_of}
use Rattle.av_clock.specs.inner.Sources.{at_source, gate_at_sources, flip_flop_at_source}
use Rattle.av_clock.specs.Merged.{source_of, sourced, sourced_operation, merged_drive, merged_step, merged, known_before, IsGiven, AreMerged, IsMerging}
use Rattle.av_clock.specs.inner.Choices.{IsEqual, IsSource}
use Rattle.av_clock.proofs.Held.{given_apart}
use Rattle.av_clock.proofs.Keys.{same_key, same_width}
use Rattle.av_clock.proofs.Lookup.{contains_at}
use Rattle.av_clock.proofs.MergedModules.{place_of, source_at, source_found, own_drive, other_drive, merged_at, target_zero, all_known, known_all, merged_sound}
use Rattle.av_clock.proofs.Readings.{in_order_at, not_known, one_place}
use Rattle.av_clock.proofs.Resolved.{drive_suits, both_more}
use Rattle.av_clock.proofs.Settling.{IsFor, gate_gives, reading_within}

-- ---- names that are known

-- two names at one place are one
same_name : (names : List (List ℕ)) (i : ℕ) (a b : List ℕ) → slice_get names i ≡ Some a → slice_get names i ≡ Some b → a ≡ b
same_name names i a b first second = sym (get_or_from_slice_get names i a a first) ∙ get_or_from_slice_get names i b a second

-- one more
known_more : (m : Module) (n : ℕ) (drive : Drive) → n < length m.drives → drive ≡ get_or m.drives n drive → known_before m (n + 1) ≡ known_before m n ++ drive.target ∷ []
known_more m n drive lt at =
    ap (λ names. given_names m ++ names) (map_more (λ (d : Drive). d.target) m.drives n drive lt ∙ ap (λ (d : Drive). targets_of (take n m.drives) ++ d.target ∷ []) (sym at))
    ∙ sym (append_assoc (given_names m) (targets_of (take n m.drives)) (drive.target ∷ []))

known_keeps : (m : Module) (n : ℕ) (drive : Drive) (name : List ℕ) → n < length m.drives → drive ≡ get_or m.drives n drive → Contains (known_before m n) name → Contains (known_before m (n + 1)) name
known_keeps m n drive name lt at known = subst (λ names. Contains names name) (sym (known_more m n drive lt at)) (Contains-append_left (known_before m n) (drive.target ∷ []) name known)

known_now : (m : Module) (n : ℕ) (drive : Drive) → n < length m.drives → drive ≡ get_or m.drives n drive → Contains (known_before m (n + 1)) drive.target
known_now m n drive lt at = subst (λ names. Contains names drive.target) (sym (known_more m n drive lt at)) (Contains-push (known_before m n) drive.target)

known_cases : (m : Module) (n : ℕ) (drive : Drive) (name : List ℕ) → n < length m.drives → drive ≡ get_or m.drives n drive → Contains (known_before m (n + 1)) name → Contains (known_before m n) name ⊎ (drive.target ≡ name)
known_cases m n drive name lt at known = Contains-push_cases (known_before m n) drive.target name (subst (λ names. Contains names name) (known_more m n drive lt at) known)

-- the target of an earlier drive
known_target : (m : Module) (k n : ℕ) (d : Drive) → k < n → n ≤ length m.drives → Contains (known_before m n) (get_or m.drives k d).target
known_target m k n d lt le =
    let target = (get_or m.drives k d).target in
    let count : length (targets_of (take n m.drives)) ≡ length (take n m.drives) = length-map (take n m.drives) (λ (x : Drive). x.target) in
    let few : length (take n m.drives) ≡ n = length-take-le n m.drives le in
    let here : get_or (targets_of (take n m.drives)) k target ≡ target =
    get_or-map (λ (x : Drive). x.target) (take n m.drives) k d target (omega arith) ∙ ap (λ (x : Drive). x.target) (get_or-take n m.drives k d lt) in
    Contains-append_right (given_names m) (targets_of (take n m.drives)) target (k, omega arith, here)

-- an input port's place
port_place : (m : Module) (place : ℕ) (name : List ℕ) → AreDistinct (all_names m) → slice_get (all_names m) place ≡ Some name → Contains (names_of m.inputs) name → place < length m.inputs
port_place m place name distinct at (k, lt, is) =
    let inputs = names_of m.inputs in
    let registers = names_of m.registers in
    let count : length inputs ≡ length m.inputs = length-map m.inputs (λ (port : Port). port.name) in
    let lt' : k < length (inputs ++ registers) = omega (arith, length-append inputs registers) in
    let lt'' : k < length (all_names m) = omega (arith, length-append (inputs ++ registers) (wire_names m)) in
    let there : slice_get (all_names m) k ≡ Some name =
    slice_get-get_or (all_names m) k name lt'' ∙ ap Some (get_or-append (inputs ++ registers) (wire_names m) name k lt' ∙ get_or-append inputs registers name k lt ∙ is) in
    let same : place ≡ k = one_place (all_names m) place k name distinct at there in
    omega arith

-- ---- gates at sources

-- these sources are the same where a name is known
abbrev pub AgreeOn : Module → ℕ → List ℕ → List ℕ → Type 0
AgreeOn m n sources sources' = (place : ℕ) (name : List ℕ) → slice_get (all_names m) place ≡ Some name → Contains (known_before m n) name → get_or sources' place 0 ≡ get_or sources place 0

-- what reads known names alone reads the same at both
same_reading : (m : Module) (n : ℕ) (sources sources' : List ℕ) (operand : Operand) (reading : Reading) → AgreeOn m n sources sources' → IsAmong (known_before m n) operand → IsRead (all_names m) operand reading
    → at_source sources reading ≡ at_source sources' reading
same_reading m n sources sources' (Name name) (At place) agree among is = ap At (sym (agree place name is among))
same_reading m n sources sources' (Literal width value) (Constant word) agree among is = refl
same_reading m n sources sources' (Name name) (Constant word) agree among is = absurd is
same_reading m n sources sources' (Literal width value) (At place) agree among is = absurd is

same_gate : (m : Module) (n : ℕ) (sources sources' : List ℕ) (operation : Operation) (gate : Gate) → AgreeOn m n sources sources' → EachOperand (IsAmong (known_before m n)) operation → IsResolved (width_of m) (all_names m) operation gate
    → gate_at_sources sources gate ≡ gate_at_sources sources' gate
same_gate m n sources sources' (Plain operand) (Buffer input) agree among is = ap Buffer (same_reading m n sources sources' operand input agree among is)
same_gate m n sources sources' (Binary a symbol b) (Operator first symbol' second width) agree among is =
    let l : at_source sources first ≡ at_source sources' first = same_reading m n sources sources' a first agree among.0 is.1.left in
    let r : at_source sources second ≡ at_source sources' second = same_reading m n sources sources' b second agree among.1 is.1.right in
    ap (λ reading. Operator reading symbol' (at_source sources second) width) l ∙ ap (λ reading. Operator (at_source sources' first) symbol' reading width) r
same_gate m n sources sources' (Signed a symbol b) (Comparator first symbol' second width) agree among is =
    let l : at_source sources first ≡ at_source sources' first = same_reading m n sources sources' a first agree among.0 is.1.left in
    let r : at_source sources second ≡ at_source sources' second = same_reading m n sources sources' b second agree among.1 is.1.right in
    ap (λ reading. Comparator reading symbol' (at_source sources second) width) l ∙ ap (λ reading. Comparator (at_source sources' first) symbol' reading width) r
same_gate m n sources sources' (Choose c a b) (Multiplexer condition first second) agree among is =
    let t : at_source sources condition ≡ at_source sources' condition = same_reading m n sources sources' c condition agree among.0 is.0 in
    let l : at_source sources first ≡ at_source sources' first = same_reading m n sources sources' a first agree among.1 is.1 in
    let r : at_source sources second ≡ at_source sources' second = same_reading m n sources sources' b second agree among.2 is.2 in
    ap (λ reading. Multiplexer reading (at_source sources first) (at_source sources second)) t
    ∙ ap (λ reading. Multiplexer (at_source sources' condition) reading (at_source sources second)) l
    ∙ ap (λ reading. Multiplexer (at_source sources' condition) (at_source sources' first) reading) r
same_gate m n sources sources' (Part name high low) (Slice input from width) agree among is = ap (λ reading. Slice reading from width) (same_reading m n sources sources' (Name name) input agree among is.0)
same_gate m n sources sources' (Widen name by) (Extender input width more) agree among is = ap (λ reading. Extender reading width more) (same_reading m n sources sources' (Name name) input agree among is.0)
same_gate m n sources sources' operation gate agree among is = absurd is

-- the sources of known names are places of their width
pub record HaveSources (m : Module) (known : List (List ℕ)) (sources : List ℕ) : Type 0 where
  pub size : length sources ≡ length (all_names m)
  pub within : (place : ℕ) (name : List ℕ) → slice_get (all_names m) place ≡ Some name → Contains known name → get_or sources place 0 < length (all_names m)
  pub widths : (name : List ℕ) → Contains known name → width_of m (source_of m sources name) ≡ width_of m name

-- a reading at sources is one of the operand's source
read_at_source : (m : Module) (known : List (List ℕ)) (sources : List ℕ) (operand : Operand) (reading : Reading) → AreDistinct (all_names m) → HaveSources m known sources → IsAmong known operand → IsRead (all_names m) operand reading
    → IsRead (all_names m) (sourced m sources operand) (at_source sources reading)
read_at_source m known sources (Name name) (At place) distinct have among is = source_found m sources place name distinct have.size is (have.within place name is among)
read_at_source m known sources (Literal width value) (Constant word) distinct have among is = is
read_at_source m known sources (Name name) (Constant word) distinct have among is = absurd is
read_at_source m known sources (Literal width value) (At place) distinct have among is = absurd is

known_width : (m : Module) (known : List (List ℕ)) (sources : List ℕ) (operand : Operand) → HaveSources m known sources → IsAmong known operand → operand_width (width_of m) (sourced m sources operand) ≡ operand_width (width_of m) operand
known_width m known sources (Name name) have among = have.widths name among
known_width m known sources (Literal width value) have among = refl

-- and a gate one of the operation at sources
gate_at : (m : Module) (known : List (List ℕ)) (sources : List ℕ) (operation : Operation) (gate : Gate) → AreDistinct (all_names m) → HaveSources m known sources → EachOperand (IsAmong known) operation
    → IsResolved (width_of m) (all_names m) operation gate → IsResolved (width_of m) (all_names m) (sourced_operation m sources operation) (gate_at_sources sources gate)
gate_at m known sources (Plain operand) (Buffer input) distinct have among is = read_at_source m known sources operand input distinct have among is
gate_at m known sources (Binary a symbol b) (Operator first symbol' second width) distinct have among is = (
  is.0,
  record {
    left = read_at_source m known sources a first distinct have among.0 is.1.left;
    right = read_at_source m known sources b second distinct have among.1 is.1.right;
    width = is.1.width ∙ sym (known_width m known sources a have among.0);
  },
)
gate_at m known sources (Signed a symbol b) (Comparator first symbol' second width) distinct have among is = (
  is.0,
  record {
    left = read_at_source m known sources a first distinct have among.0 is.1.left;
    right = read_at_source m known sources b second distinct have among.1 is.1.right;
    width = is.1.width ∙ sym (known_width m known sources a have among.0);
  },
)
gate_at m known sources (Choose c a b) (Multiplexer condition first second) distinct have among is = (
  read_at_source m known sources c condition distinct have among.0 is.0,
  read_at_source m known sources a first distinct have among.1 is.1,
  read_at_source m known sources b second distinct have among.2 is.2,
)
gate_at m known sources (Part name high low) (Slice input from width) distinct have among is = (read_at_source m known sources (Name name) input distinct have among is.0, is.1, is.2)
gate_at m known sources (Widen name by) (Extender input width more) distinct have among is =
    (read_at_source m known sources (Name name) input distinct have among is.0, is.1 ∙ sym (have.widths name among), is.2)
gate_at m known sources operation gate distinct have among is = absurd is

-- a gate at sources that copies a place
record Copies (names : List (List ℕ)) (sources : List ℕ) (operation : Operation) (place : ℕ) : Type 0 where
  pub name : List ℕ
  pub from : ℕ
  pub copies : operation ≡ Plain (Name name)
  pub at : slice_get names from ≡ Some name
  pub source : get_or sources from 0 ≡ place

copy_of : (widths : Widths) (names : List (List ℕ)) (sources : List ℕ) (operation : Operation) (gate : Gate) (place : ℕ) → IsResolved widths names operation gate → gate_at_sources sources gate ≡ Buffer (At place) → Copies names sources operation place
copy_of widths names sources (Plain (Name name)) (Buffer (At from)) place is e = record { name = name; from = from; copies = refl; at = is; source = cc }
copy_of widths names sources (Plain (Literal width value)) (Buffer (Constant word)) place is e = absurd cc
copy_of widths names sources (Plain (Name name)) (Buffer (Constant word)) place is e = absurd is
copy_of widths names sources (Plain (Literal width value)) (Buffer (At from)) place is e = absurd is
copy_of widths names sources (Binary a symbol b) (Operator first symbol' second width) place is e = absurd cc
copy_of widths names sources (Signed a symbol b) (Comparator first symbol' second width) place is e = absurd cc
copy_of widths names sources (Choose c a b) (Multiplexer condition first second) place is e = absurd cc
copy_of widths names sources (Part name high low) (Slice input from width) place is e = absurd cc
copy_of widths names sources (Widen name by) (Extender input width more) place is e = absurd cc
copy_of widths names sources operation gate place is e = absurd is

-- ---- the first drives

-- with these sources the assignments stand for the first n merged drives, and each of those is given
pub record MergesTo (m : Module) (n : ℕ) (assignments : List Assignment) (sources : List ℕ) : Type 0 where
  pub have : HaveSources m (known_before m n) sources
  pub given : (name : List ℕ) → Contains (given_names m) name → source_of m sources name ≡ name
  pub ports : (name : List ℕ) → Contains (known_before m n) name → Contains (names_of m.inputs) (source_of m sources name) → source_of m sources name ≡ name
  pub ahead : (k : ℕ) (name : List ℕ) → k ≤ n → Contains (known_before m k) name → Contains (known_before m k) (source_of m sources name)
  pub assigned : (k : ℕ) (d : Drive) (e : Assignment) → k < n → IsAssigned m (merged_drive m sources (get_or m.drives k d)) (get_or assignments k e)
  pub drives : (k : ℕ) (d : Drive) → k < n → IsGiven m sources (get_or m.drives k d)

-- and so they do with any that agree on what is known
pub record SoFar (m : Module) (n : ℕ) (sources : List ℕ) (assignments : List Assignment) : Type 0 where
  pub size : length sources ≡ length (all_names m)
  pub count : length assignments ≡ n
  pub within : n ≤ length m.drives
  pub each : (sources' : List ℕ) → length sources' ≡ length (all_names m) → AgreeOn m n sources sources' → MergesTo m n assignments sources'

-- before the first
pub none_yet : (m : Module) (sources : List ℕ) → IsSound m → length sources ≡ length (all_names m) → ((place : ℕ) → place < length (all_names m) → get_or sources place 0 ≡ place) → SoFar m 0 sources []
none_yet m sources sound size own = record {
  size = size;
  count = refl;
  within = omega arith;
  each = λ sources' size' agree.
      let here : (place : ℕ) (name : List ℕ) → slice_get (all_names m) place ≡ Some name → Contains (known_before m 0) name → get_or sources' place 0 ≡ place =
      λ place name at known. agree place name at known ∙ own place (slice_get_within (all_names m) place name at) in
      let same : (name : List ℕ) → Contains (known_before m 0) name → source_of m sources' name ≡ name = λ name known.
      let (k, lt, at) = place_of (all_names m) name (known_all m 0 sound name known) in
      source_at m sources' k name (names_distinct m sound) size' at ∙ ap (λ i. get_or (all_names m) i name) (here k name at known) ∙ get_or_from_slice_get (all_names m) k name name at in
      record {
        have = record {
          size = size';
          within = λ place name at known. subst (λ i. i < length (all_names m)) (sym (here place name at known)) (slice_get_within (all_names m) place name at);
          widths = λ name known. ap (width_of m) (same name known);
        };
        given = λ name at. same name (Contains-append_left (given_names m) (targets_of (take 0 m.drives)) name at);
        ports = λ name known port. same name known;
        ahead = λ k name le known.
            let e : k ≡ 0 = omega arith in
            let first : Contains (known_before m 0) name = subst (λ i. Contains (known_before m i) name) e known in
            subst (Contains (known_before m k)) (sym (same name first)) known;
        assigned = λ k d e lt. absurd (omega arith);
        drives = λ k d lt. absurd (omega arith);
      };
}

-- what the source of one more target says
record IsTurn (m : Module) (n : ℕ) (sources : List ℕ) (drive : Drive) : Type 0 where
  pub width : width_of m (source_of m sources drive.target) ≡ width_of m drive.target
  pub known : Contains (known_before m (n + 1)) (source_of m sources drive.target)
  pub port : Contains (names_of m.inputs) (source_of m sources drive.target) → source_of m sources drive.target ≡ drive.target
  pub given : IsGiven m sources drive

-- its own target
own_turn : (m : Module) (n : ℕ) (sources : List ℕ) (drive : Drive) → n < length m.drives → drive ≡ get_or m.drives n drive → source_of m sources drive.target ≡ drive.target → IsTurn m n sources drive
own_turn m n sources drive lt at own = record {
  width = ap (width_of m) own;
  known = subst (Contains (known_before m (n + 1))) (sym own) (known_now m n drive lt at);
  port = λ port. own;
  given = λ words long each.
      let here : (get_or m.drives n drive).target ≡ source_of m sources drive.target = ap (λ (x : Drive). x.target) (sym at) ∙ sym own in
      let holds : Holds (width_of m) (named m words) (merged_drive m sources drive) = subst (λ (x : Drive). Holds (width_of m) (named m words) (merged_drive m sources x)) (sym at) (each n drive lt here) in
      ap (named m words) own ∙ holds ∙ ap (result_of (width_of m) (named m words)) (own_drive m sources drive own);
}

-- what it copies
copy_turn : (m : Module) (n : ℕ) (sources : List ℕ) (assignments : List Assignment) (drive : Drive) (place : ℕ) → IsSound m → n < length m.drives → drive ≡ get_or m.drives n drive → MergesTo m n assignments sources
    → Copies (all_names m) sources drive.operation place → length m.inputs ≤ place → slice_get (all_names m) place ≡ Some (source_of m sources drive.target) → IsTurn m n sources drive
copy_turn m n sources assignments drive place sound lt at before copy past found =
    let name = copy.name in
    let distinct = names_distinct m sound in
    let known : Contains (known_before m n) name = subst (EachOperand (IsAmong (known_before m n))) copy.copies (in_order_at (given_names m) m.drives n drive sound.in_order lt at) in
    let read = source_found m sources copy.from name distinct before.have.size copy.at (before.have.within copy.from name copy.at known) in
    let there : slice_get (all_names m) place ≡ Some (source_of m sources name) = subst (λ i. slice_get (all_names m) i ≡ Some (source_of m sources name)) copy.source read in
    let same : source_of m sources drive.target ≡ source_of m sources name = same_name (all_names m) place (source_of m sources drive.target) (source_of m sources name) found there in
    let suits : width_of m name ≡ width_of m drive.target = subst (SuitsWidth (width_of m) (width_of m drive.target)) copy.copies (drive_suits m n drive sound lt at) in
    record {
      width = ap (width_of m) same ∙ before.have.widths name known ∙ suits;
      known = subst (Contains (known_before m (n + 1))) (sym same) (known_keeps m n drive (source_of m sources name) lt at (before.ahead n name (omega arith) known));
      port = λ port. let below : place < length m.inputs = port_place m place (source_of m sources drive.target) distinct found port in absurd (omega arith);
      given = λ words long each. ap (named m words) same ∙ ap (λ operation. result_of (width_of m) (named m words) (sourced_operation m sources operation)) (sym copy.copies);
    }

-- what another gives
equal_turn : (m : Module) (n : ℕ) (sources : List ℕ) (assignments : List Assignment) (drive : Drive) (read : Assignment) (source : ℕ) → IsSound m → n < length m.drives → drive ≡ get_or m.drives n drive → length assignments ≡ n
    → MergesTo m n assignments sources → read.width.bits ≡ width_of m drive.target → IsResolved (width_of m) (all_names m) (sourced_operation m sources drive.operation) read.gate
    → IsEqual assignments read source → slice_get (all_names m) source ≡ Some (source_of m sources drive.target) → IsTurn m n sources drive
equal_turn m n sources assignments drive read source sound lt at count before wide resolved equal found =
    let first = equal.first in
    let other = get_or m.drives first drive in
    let earlier : first < n = (let within = equal.within in omega arith) in
    let assigned : IsAssigned m (merged_drive m sources other) (get_or assignments first read) = before.assigned first drive read earlier in
    let there : slice_get (all_names m) source ≡ Some other.target = subst (λ i. slice_get (all_names m) i ≡ Some other.target) (sym equal.target) assigned.target in
    let same : source_of m sources drive.target ≡ other.target = same_name (all_names m) source (source_of m sources drive.target) other.target found there in
    let distinct = names_distinct m sound in
    record {
      width = ap (width_of m) same ∙ sym assigned.width ∙ same_width (get_or assignments first read) read equal.key ∙ wide;
      known = subst (Contains (known_before m (n + 1))) (sym same) (known_target m first (n + 1) drive (omega arith) (omega arith));
      port = λ port. absurd (given_apart m first drive (source_of m sources drive.target) sound (omega arith)
          (Contains-append_left (names_of m.inputs) (names_of m.registers) (source_of m sources drive.target) port) (sym same));
      given = λ words long each.
          let holds : named m words other.target ≡ result_of (width_of m) (named m words) (merged_drive m sources other).operation = each first drive (omega arith) (sym same) in
          let gives : gate_word words (get_or assignments first read).gate ≡ result_of (width_of m) (named m words) (merged_drive m sources other).operation =
          gate_gives (width_of m) (all_names m) words (merged_drive m sources other).operation (get_or assignments first read).gate distinct long assigned.gate in
          let gives' : gate_word words read.gate ≡ result_of (width_of m) (named m words) (sourced_operation m sources drive.operation) =
          gate_gives (width_of m) (all_names m) words (sourced_operation m sources drive.operation) read.gate distinct long resolved in
          ap (named m words) same ∙ holds ∙ sym gives ∙ same_key words (get_or assignments first read) read equal.key ∙ gives';
    }

-- the source of one more target, of three kinds
turn : (m : Module) (n : ℕ) (sources : List ℕ) (assignments : List Assignment) (assignment read : Assignment) (source : ℕ) → IsSound m → (for : IsFor m n assignment) → length assignments ≡ n → MergesTo m n assignments sources
    → read ≡ record assignment { gate = gate_at_sources sources assignment.gate } → IsResolved (width_of m) (all_names m) (sourced_operation m sources for.drive.operation) read.gate
    → IsSource (length m.inputs) assignments read source → slice_get (all_names m) source ≡ Some (source_of m sources for.drive.target) → IsTurn m n sources for.drive
turn m n sources assignments assignment read source sound for count before is resolved choice found = elim choice [
  | inl own ↦
      let at : slice_get (all_names m) source ≡ Some for.drive.target = subst (λ i. slice_get (all_names m) i ≡ Some for.drive.target) (sym (own ∙ ap (λ (x : Assignment). x.target) is)) for.assigned.target in
      own_turn m n sources for.drive for.within for.at (same_name (all_names m) source (source_of m sources for.drive.target) for.drive.target found at)
  | inr (inl copy) ↦
      copy_turn m n sources assignments for.drive source sound for.within for.at before
      (copy_of (width_of m) (all_names m) sources for.drive.operation assignment.gate source for.assigned.gate (sym (ap (λ (x : Assignment). x.gate) is) ∙ copy.0)) copy.1 found
  | inr (inr equal) ↦ equal_turn m n sources assignments for.drive read source sound for.within for.at count before (ap (λ (x : Assignment). x.width.bits) is ∙ for.assigned.width) resolved equal found
]

-- the assignment stands for the merged drive
after_turn : (m : Module) (n : ℕ) (sources : List ℕ) (assignment read after : Assignment) (source : ℕ) → IsSound m → (for : IsFor m n assignment)
    → read ≡ record assignment { gate = gate_at_sources sources assignment.gate } → IsResolved (width_of m) (all_names m) (sourced_operation m sources for.drive.operation) read.gate
    → (source ≡ read.target → after ≡ read) → (source ≢ read.target → after ≡ record read { gate = Buffer (Constant 0) })
    → slice_get (all_names m) source ≡ Some (source_of m sources for.drive.target) → IsAssigned m (merged_drive m sources for.drive) after
after_turn m n sources assignment read after source sound for is resolved own other found =
    let drive = for.drive in
    let target : read.target ≡ assignment.target = ap (λ (x : Assignment). x.target) is in
    let width : read.width.bits ≡ width_of m drive.target = ap (λ (x : Assignment). x.width.bits) is ∙ for.assigned.width in
    let at : slice_get (all_names m) read.target ≡ Some drive.target = subst (λ i. slice_get (all_names m) i ≡ Some drive.target) (sym target) for.assigned.target in
    elim (cases_eq source read.target) [
      | inl e ↦
          let same : source_of m sources drive.target ≡ drive.target = same_name (all_names m) source (source_of m sources drive.target) drive.target found (subst (λ i. slice_get (all_names m) i ≡ Some drive.target) (sym e) at) in
          subst (IsAssigned m (merged_drive m sources drive)) (sym (own e)) (record {
            target = at;
            width = width;
            gate = subst (λ operation. IsResolved (width_of m) (all_names m) operation read.gate) (sym (own_drive m sources drive same)) resolved;
          })
      | inr ne ↦
          let differs : source_of m sources drive.target ≢ drive.target =
          λ e. ne (one_place (all_names m) source read.target drive.target (names_distinct m sound) (found ∙ ap Some e) at) in
          let (w, gives, wide) = target_zero m n drive sound for.within for.at in
          subst (IsAssigned m (merged_drive m sources drive)) (sym (other ne)) (record {
            target = at;
            width = width;
            gate = subst (λ operation. IsResolved (width_of m) (all_names m) operation (Buffer (Constant 0))) (sym (other_drive m sources drive differs ∙ ap Plain gives)) refl;
          })
    ]

-- one more drive
pub merges_more : (m : Module) (n : ℕ) (sources : List ℕ) (assignments : List Assignment) (assignment read after : Assignment) (source : ℕ) → IsSound m → IsFor m n assignment
    → read ≡ record assignment { gate = gate_at_sources sources assignment.gate } → IsSource (length m.inputs) assignments read source
    → (source ≡ read.target → after ≡ read) → (source ≢ read.target → after ≡ record read { gate = Buffer (Constant 0) })
    → source < length (all_names m) → SoFar m n sources assignments → SoFar m (n + 1) (set sources read.target source) (assignments ++ after ∷ [])
merges_more m n sources assignments assignment read after source sound for is choice own other inside so_far = record {
  size = length-set sources read.target source ∙ so_far.size;
  count = length_push assignments after ∙ ap (λ k. k + 1) so_far.count;
  within = (let lt = for.within in omega arith);
  each = λ sources' size' agree.
      let drive = for.drive in
      let distinct = names_distinct m sound in
      let at : slice_get (all_names m) read.target ≡ Some drive.target = subst (λ i. slice_get (all_names m) i ≡ Some drive.target) (sym (ap (λ (x : Assignment). x.target) is)) for.assigned.target in
      let within : read.target < length sources = subst (λ size. read.target < size) (sym so_far.size) (slice_get_within (all_names m) read.target drive.target at) in
      let agree' : AgreeOn m n sources sources' = λ place name there known.
      agree place name there (known_keeps m n drive name for.within for.at known)
      ∙ get_or-set_other sources read.target place source 0 (λ e. not_known m n n drive sound for.within for.at (omega arith)
      (subst (Contains (known_before m n)) (same_name (all_names m) place name drive.target there (subst (λ i. slice_get (all_names m) i ≡ Some drive.target) (sym e) at)) known)) in
      let here : get_or sources' read.target 0 ≡ source = agree read.target drive.target at (known_now m n drive for.within for.at) ∙ get_or-set_same sources read.target source 0 within in
      let before = so_far.each sources' size' agree' in
      let reads = in_order_at (given_names m) m.drives n drive sound.in_order for.within for.at in
      let gate : read.gate ≡ gate_at_sources sources' assignment.gate = ap (λ (x : Assignment). x.gate) is ∙ same_gate m n sources sources' drive.operation assignment.gate agree' reads for.assigned.gate in
      let is' : read ≡ record assignment { gate = gate_at_sources sources' assignment.gate } = is ∙ ap (λ (g : Gate). record assignment { gate = g }) (sym (ap (λ (x : Assignment). x.gate) is) ∙ gate) in
      let resolved : IsResolved (width_of m) (all_names m) (sourced_operation m sources' drive.operation) read.gate =
      subst (IsResolved (width_of m) (all_names m) (sourced_operation m sources' drive.operation)) (sym gate) (gate_at m (known_before m n) sources' drive.operation assignment.gate distinct before.have reads for.assigned.gate) in
      let found : slice_get (all_names m) source ≡ Some (source_of m sources' drive.target) = subst (λ i. slice_get (all_names m) i ≡ Some (source_of m sources' drive.target)) here
      (source_found m sources' read.target drive.target distinct size' at (subst (λ i. i < length (all_names m)) (sym here) inside)) in
      let now = turn m n sources' assignments assignment read source sound for so_far.count before is' resolved choice found in
      let stands = after_turn m n sources' assignment read after source sound for is' resolved own other found in
      record {
        have = record {
          size = size';
          within = λ place name there known. elim (known_cases m n drive name for.within for.at known) [
            | inl earlier ↦ before.have.within place name there earlier
            | inr e ↦
                let same : place ≡ read.target = one_place (all_names m) place read.target drive.target distinct (there ∙ ap Some (sym e)) at in
                subst (λ i. i < length (all_names m)) (sym (ap (λ i. get_or sources' i 0) same ∙ here)) inside
          ];
          widths = λ name known. elim (known_cases m n drive name for.within for.at known) [
            | inl earlier ↦ before.have.widths name earlier
            | inr e ↦ subst (λ x. width_of m (source_of m sources' x) ≡ width_of m x) e now.width
          ];
        };
        given = before.given;
        ports = λ name known port. elim (known_cases m n drive name for.within for.at known) [
          | inl earlier ↦ before.ports name earlier port
          | inr e ↦ subst (λ x. Contains (names_of m.inputs) (source_of m sources' x) → source_of m sources' x ≡ x) e now.port port
        ];
        ahead = λ k name le known. elim (cases_lt k (n + 1)) [
          | inl below ↦ before.ahead k name (omega arith) known
          | inr past ↦
              let last : k ≡ n + 1 = omega arith in
              subst (λ i. Contains (known_before m i) (source_of m sources' name)) (sym last) (elim (known_cases m n drive name for.within for.at (subst (λ i. Contains (known_before m i) name) last known)) [
                | inl earlier ↦ known_keeps m n drive (source_of m sources' name) for.within for.at (before.ahead n name (omega arith) earlier)
                | inr e ↦ subst (λ x. Contains (known_before m (n + 1)) (source_of m sources' x)) e now.known
              ])
        ];
        assigned = both_more (λ (x : Drive) (a : Assignment). IsAssigned m (merged_drive m sources' x) a) m.drives assignments n drive after so_far.count for.within for.at stands before.assigned;
        drives = λ k d lt. elim (cases_lt k n) [
          | inl earlier ↦ before.drives k d earlier
          | inr past ↦
              let e : k ≡ n = omega arith in
              let same : drive ≡ get_or m.drives k d = for.at ∙ get_or_default m.drives n drive d for.within ∙ ap (λ i. get_or m.drives i d) (sym e) in
              subst (IsGiven m sources') same now.given
        ];
      };
}

-- the source that was chosen is a place
pub source_within : (m : Module) (n : ℕ) (sources : List ℕ) (assignments : List Assignment) (assignment read : Assignment) (source : ℕ) → IsSound m → IsFor m n assignment
    → read ≡ record assignment { gate = gate_at_sources sources assignment.gate } → IsSource (length m.inputs) assignments read source → SoFar m n sources assignments → source < length (all_names m)
source_within m n sources assignments assignment read source sound for is choice so_far =
    let before = so_far.each sources so_far.size (λ place name at known. refl) in
    let drive = for.drive in
    elim choice [
      | inl own ↦ subst (λ i. i < length (all_names m)) (sym (own ∙ ap (λ (x : Assignment). x.target) is)) (slice_get_within (all_names m) assignment.target drive.target for.assigned.target)
      | inr (inl copy) ↦
          let from = copy_of (width_of m) (all_names m) sources drive.operation assignment.gate source for.assigned.gate (sym (ap (λ (x : Assignment). x.gate) is) ∙ copy.0) in
          let known : Contains (known_before m n) from.name = subst (EachOperand (IsAmong (known_before m n))) from.copies (in_order_at (given_names m) m.drives n drive sound.in_order for.within for.at) in
          subst (λ i. i < length (all_names m)) from.source (before.have.within from.from from.name from.at known)
      | inr (inr equal) ↦
          let earlier : equal.first < n = (let within = equal.within in let count = so_far.count in omega arith) in
          let assigned = before.assigned equal.first drive read earlier in
          subst (λ i. i < length (all_names m)) (sym equal.target) (slice_get_within (all_names m) (get_or assignments equal.first read).target (get_or m.drives equal.first drive).target assigned.target)
    ]

-- an assignment that was found by its key
pub equal_found : (assignments : List Assignment) (assignment other : Assignment) (first : ℕ) → first < length assignments → other ≡ get_or assignments first other → key_of other ≡ key_of assignment → IsEqual assignments assignment other.target
equal_found assignments assignment other first lt at same =
    let here : other ≡ get_or assignments first assignment = at ∙ get_or_default assignments first other assignment lt in
    record { first = first; within = lt; target = ap (λ (x : Assignment). x.target) here; key = sym (ap key_of here) ∙ same }

-- the target is a place
pub target_in : (m : Module) (n : ℕ) (sources : List ℕ) (assignment read : Assignment) → IsFor m n assignment → read ≡ record assignment { gate = gate_at_sources sources assignment.gate } → length sources ≡ length (all_names m) → read.target < length sources
target_in m n sources assignment read for is size =
    subst (λ i. i < length sources) (sym (ap (λ (x : Assignment). x.target) is)) (subst (λ k. assignment.target < k) (sym size) (slice_get_within (all_names m) assignment.target for.drive.target for.assigned.target))

-- after the last
pub all_merged : (m : Module) (n : ℕ) (sources : List ℕ) (assignments : List Assignment) → IsSound m → n ≡ length m.drives → SoFar m n sources assignments → AreMerged m sources
all_merged m n sources assignments sound end so_far =
    let all = so_far.each sources so_far.size (λ place name at known. refl) in
    let known : (name : List ℕ) → Contains (all_names m) name → Contains (known_before m n) name = λ name at. subst (λ i. Contains (known_before m i) name) (sym end) (all_known m sound name at) in
    record {
      size = so_far.size;
      within = λ place lt.
          let name = get_or (all_names m) place [] in
          let at : slice_get (all_names m) place ≡ Some name = slice_get-get_or (all_names m) place [] lt in
          all.have.within place name at (known name (contains_at (all_names m) place name at));
      given = all.given;
      ports = λ name at port. all.ports name (known name at) port;
      widths = λ name at. all.have.widths name (known name at);
      ahead = λ k name le at. all.ahead k name (subst (λ i. k ≤ i) (sym end) le) at;
      drives = λ k d lt. all.drives k d (subst (λ i. k < i) (sym end) lt);
    }

pub all_assigned : (m : Module) (n : ℕ) (sources : List ℕ) (assignments : List Assignment) → n ≡ length m.drives → SoFar m n sources assignments → AreAssigned (merged m sources) (length m.drives) assignments
all_assigned m n sources assignments end so_far =
    let all = so_far.each sources so_far.size (λ place name at known. refl) in
    record {
      count = so_far.count ∙ end;
      each = λ k d e lt.
          let is = all.assigned k d e (subst (λ i. k < i) (sym end) lt) in
          subst (λ (x : Drive). IsAssigned (merged m sources) x (get_or assignments k e)) (sym (merged_at m sources k d d lt)) (record { target = is.target; width = is.width; gate = is.gate });
    }

-- where no drive is left
pub end_of : (m : Module) (assignments merged' : List Assignment) (sources : List ℕ) (n : ℕ) → AreAssigned m (length m.drives) assignments → length assignments ≤ n → SoFar m n sources merged' → n ≡ length m.drives
end_of m assignments merged' sources n are past so_far = let count = are.count in let within = so_far.within in omega arith

-- ---- flip-flops

-- those of the merged steps read at sources
pub steps_merged : (m : Module) (sources : List ℕ) (flip_flops : List FlipFlop) → IsSound m → AreMerged m sources → AreStepped m (length m.steps) flip_flops
    → AreStepped (merged m sources) (length (merged m sources).steps) (map (flip_flop_at_source sources) flip_flops)
steps_merged m sources flip_flops sound are stepped =
    let count : length (merged m sources).steps ≡ length m.steps = length-map m.steps (merged_step m sources) in
    record {
      count = length-map flip_flops (flip_flop_at_source sources) ∙ stepped.count ∙ sym count;
      each = λ k d e lt.
          let lt' : k < length m.steps = subst (λ n. k < n) count lt in
          let is : IsStepped m (get_or m.steps k d) (get_or flip_flops k e) = stepped.each k d e lt' in
          let have : HaveSources m (all_names m) sources =
          record { size = are.size; within = λ place name at known. are.within place (slice_get_within (all_names m) place name at); widths = are.widths } in
          let step : get_or (merged m sources).steps k d ≡ merged_step m sources (get_or m.steps k d) = get_or-map (merged_step m sources) m.steps k d d lt' in
          let flip_flop : get_or (map (flip_flop_at_source sources) flip_flops) k e ≡ flip_flop_at_source sources (get_or flip_flops k e) =
          get_or-map (flip_flop_at_source sources) flip_flops k e e (subst (λ n. k < n) (sym stepped.count) lt') in
          subst (λ (f : FlipFlop). IsStepped (merged m sources) (get_or (merged m sources).steps k d) f) (sym flip_flop)
          (subst (λ (x : Step). IsStepped (merged m sources) x (flip_flop_at_source sources (get_or flip_flops k e))) (sym step) (record {
            register = is.register;
            reset = is.reset;
            next = read_at_source m (all_names m) sources (get_or m.steps k d).next (get_or flip_flops k e).next (names_distinct m sound) have (sound.steps_read k d lt') is.next;
          }));
    }

-- and what they read is there
pub nexts_within : (m : Module) (sources : List ℕ) (flip_flops : List FlipFlop) → length sources ≡ length (all_names m) → AreStepped m (length m.steps) flip_flops → All (λ (f : FlipFlop). IsWithin (length sources) f.next) flip_flops
nexts_within m sources flip_flops size stepped k d lt =
    let lt' : k < length m.steps = subst (λ n. k < n) stepped.count lt in
    at_step (slice_get_cases m.steps k).1 lt'
  where
    at_step : ((x : Step) × (k < length m.steps) × (slice_get m.steps k ≡ Some x) × (get_or m.steps k x ≡ x)) ⊎ ((length m.steps ≤ k) × (slice_get m.steps k ≡ None)) → k < length m.steps → IsWithin (length sources) (get_or flip_flops k d).next
    at_step (inl (step, within, found, here)) below = reading_within (all_names m) (length sources) (get_or m.steps k step).next (get_or flip_flops k d).next size (stepped.each k step d below).next
    at_step (inr (past, none)) below = absurd (omega arith)

-- the whole
pub is_merging : (m : Module) (v : Vec ℕ Global) (assignments : Vec Assignment Global) (flip_flops : Vec FlipFlop Global) (resolved : List FlipFlop) → IsSound m → AreMerged m v.items → AreAssigned (merged m v.items) (length m.drives) assignments.items
    → AreStepped m (length m.steps) resolved → flip_flops.items ≡ map (flip_flop_at_source v.items) resolved → IsMerging m (record { sources = v; assignments = assignments; flip_flops = flip_flops })
is_merging m v assignments flip_flops resolved sound are assigned stepped same = record {
  sound = sound;
  sources = are;
  safe = merged_sound m v.items sound are;
  assignments = subst (λ n. AreAssigned (merged m v.items) n assignments.items) (sym (length-map m.drives (merged_drive m v.items))) assigned;
  flip_flops = subst (AreStepped (merged m v.items) (length (merged m v.items).steps)) (sym same) (steps_merged m v.items resolved sound are stepped);
}
