-- Declarations found by name.
use Rattle.std.proofs.Common.{◌≡◌, ℕ, ◌+◌, ◌<◌, ◌≤◌, List, [], ◌∷◌, ◌++◌, length, get_or, take, drop, slice_get, Option, Some, None, IsSome, cond, Bool, rules, refl, sym, ◌∙◌, ap, subst, arith, true, false, inl, inr, append_assoc, length-append, add-one, take-suc}
use Rattle.std.specs.Prelude.{Contains, is_some, if◌then◌else◌, Result, Ok, Err, OnOk}
use Rattle.std.specs.Str.{bytes_eq}
use Rattle.std.specs.Map.{lookup}
use Rattle.std.proofs.Math.ListN.{get_or-append}
use Rattle.std.proofs.lemmas.Bool.{cases_lt}
use Rattle.std.proofs.lemmas.List.{get_or-map, get_or-append-add, length-map, map-append, take-append-drop, length-take-le, take_all}
use Rattle.std.proofs.lemmas.List.Elements.{Contains-push, Contains-append_left}
use Rattle.std.proofs.lemmas.Option.{slice_get-get_or, slice_get_cases}
use Rattle.std.proofs.lemmas.Slice.Eq.{bytes_eq-Decides}
use Rattle.av_net.specs.declared.netlist.Port.{Port}
use Rattle.av_net.specs.declared.netlist.Module.{Module}
use Rattle.av_net.specs.Names.{AreDistinct, names_of, declarations, all_names, width_of}
use Rattle.av_net.specs.Sound.{IsSound}
use Rattle.av_net.proofs.Declared.{declared_width, names_declared}
use Rattle.av_net.proofs.Distinct.{apart, front_distinct}
use Rattle.av_net.proofs.Settles.{not_equal, names_distinct}
use Rattle.av_clock.specs.declared.resolver.Declared.{Declared}
use Rattle.av_clock.specs.inner.Found.{Finds}

-- a function from names to what is declared with them
abbrev pub Find : Type 0
Find = List ℕ → Option Declared

-- names with what is declared with them
abbrev pub Table : Type 0
Table = List (List ℕ × Declared)

abbrev pub found_in : Table → Find
found_in table q = lookup (bytes_eq q) table

-- what is found is found beside one more entry
still_found : (table : Table) (name q : List ℕ) (declared found : Declared) → found_in table q ≡ Some found → found_in (table ++ (name, declared) ∷ []) q ≡ Some found
still_found [] name q declared found is = absurd cc
still_found (entry ∷ table) name q declared found is = go (bytes_eq q entry.0) (still_found table name q declared found) is
  where
    go : (t : Bool) → (found_in table q ≡ Some found → found_in (table ++ (name, declared) ∷ []) q ≡ Some found) → cond t (Some entry.1) (found_in table q) ≡ Some found → cond t (Some entry.1) (found_in (table ++ (name, declared) ∷ []) q) ≡ Some found
    go true later e = e
    go false later e = later e

-- and where nothing is found, that entry is the only one
newly_found : (table : Table) (name q : List ℕ) (declared : Declared) → found_in table q ≡ None → found_in (table ++ (name, declared) ∷ []) q ≡ cond (bytes_eq q name) (Some declared) None
newly_found [] name q declared none = refl
newly_found (entry ∷ table) name q declared none = go (bytes_eq q entry.0) (newly_found table name q declared) none
  where
    go : (t : Bool) → (found_in table q ≡ None → found_in (table ++ (name, declared) ∷ []) q ≡ cond (bytes_eq q name) (Some declared) None) → cond t (Some entry.1) (found_in table q) ≡ None → cond t (Some entry.1) (found_in (table ++ (name, declared) ∷ []) q) ≡ cond (bytes_eq q name) (Some declared) None
    go true later e = absurd cc
    go false later e = later e

-- no names
pub finds_none : (table : Table) → table ≡ [] → Finds (found_in table) []
finds_none table none = record { each = λ k d lt. absurd (omega arith); others = λ name not. rw none refl }

-- one more declaration, whose name is another
pub finds_more : (table table' : Table) (front : List Port) (port : Port) (declared : Declared) → declared ≡ record { place = length front; width = port.width }
    → table' ≡ (if is_some (found_in table port.name) then table else (table ++ (port.name, declared) ∷ []))
    → AreDistinct (names_of (front ++ port ∷ [])) → Finds (found_in table) front → Finds (found_in table') (front ++ port ∷ [])
finds_more table table' front port declared is put distinct finds = record {
  each = λ k d lt. elim (cases_lt k (length front)) [
    | inl before ↦
        let here : get_or (front ++ port ∷ []) k d ≡ get_or front k d = get_or-append front (port ∷ []) d k before in
        rw (here, put') (still_found table port.name (get_or front k d).name declared _ (finds.each k d before))
    | inr now ↦
        let last : k ≡ length front + 0 = omega (arith, length-append front (port ∷ [])) in
        let here : get_or (front ++ port ∷ []) k d ≡ port = ap (λ n. get_or (front ++ port ∷ []) n d) last ∙ get_or-append-add front (port ∷ []) 0 d in
        let test : bytes_eq port.name port.name ≡ true = (bytes_eq-Decides port.name port.name).1 refl in
        let place : length front ≡ k = omega arith in
        let found : Some declared ≡ Some (record { place = k; width = port.width }) = rw (is, place) refl in
        rw (here, put') (newly_found table port.name port.name declared fresh ∙ rw test found)
  ];
  others = λ name none.
      let test : bytes_eq name port.name ≡ false = not_equal name port.name (λ e. none (subst (Contains (names_of (front ++ port ∷ []))) (sym e) (rw map-append (Contains-push (names_of front) port.name)))) in
      let before : found_in table name ≡ None = finds.others name (λ at. none (rw map-append (Contains-append_left (names_of front) (port.name ∷ []) name at))) in
      rw put' (newly_found table port.name name declared before ∙ rw test refl);
}
  where
    names : AreDistinct (names_of front ++ port.name ∷ [])
    names = rw map-append at distinct

    fresh : found_in table port.name ≡ None
    fresh = finds.others port.name (λ at. apart (names_of front) (port.name ∷ []) port.name names at (0, omega arith, refl))

    put' : table' ≡ table ++ (port.name, declared) ∷ []
    put' = rw fresh at put

-- the table after one turn over the ports
pub enters_more : (table before table' : Table) (ports : List Port) (first i : ℕ) (port : Port) (declared : Declared) (text : List ℕ) → i < length ports → port ≡ get_or ports i port
    → declared ≡ record { place = first + i; width = port.width } → text ≡ port.name
    → table' ≡ (if is_some (found_in table text) then table else (table ++ (text, declared) ∷ []))
    → ((front : List Port) → length front ≡ first → AreDistinct (names_of (front ++ ports)) → Finds (found_in before) front → Finds (found_in table) (front ++ take i ports))
    → (front : List Port) → length front ≡ first → AreDistinct (names_of (front ++ ports)) → Finds (found_in before) front → Finds (found_in table') (front ++ take (i + 1) ports)
enters_more table before table' ports first i port declared text lt at is same put so_far front long distinct finds =
    let more : front ++ take (i + 1) ports ≡ (front ++ take i ports) ++ port ∷ [] = rw (add-one, take-suc ports i port lt, sym at, append_assoc) refl in
    let flat : (front ++ take (i + 1) ports) ++ drop (i + 1) ports ≡ front ++ (take (i + 1) ports ++ drop (i + 1) ports) = rw append_assoc in
    let whole : front ++ ports ≡ ((front ++ take i ports) ++ port ∷ []) ++ drop (i + 1) ports =
    ap (λ (ps : List Port). front ++ ps) (sym (take-append-drop (i + 1) ports)) ∙ sym flat ∙ ap (λ (ps : List Port). ps ++ drop (i + 1) ports) more in
    let names : AreDistinct (names_of ((front ++ take i ports) ++ port ∷ []) ++ names_of (drop (i + 1) ports)) = rw (whole, map-append) at distinct in
    let few : length (take i ports) ≡ i = length-take-le i ports (omega arith) in
    let place : length (front ++ take i ports) ≡ first + i = omega (arith, length-append front (take i ports)) in
    rw more (finds_more table table' (front ++ take i ports) port declared (rw place is)
    (rw same at put) (front_distinct (names_of ((front ++ take i ports) ++ port ∷ [])) (names_of (drop (i + 1) ports)) names) (so_far front long distinct finds))

-- what is found by a declared name
pub record IsFound (m : Module) (found : Option Declared) (name : List ℕ) : Type 0 where
  pub declared : Declared
  pub is : found ≡ Some declared
  pub place : slice_get (all_names m) declared.place ≡ Some name
  pub width : declared.width.bits ≡ width_of m name

-- each name of a sound module is found
pub is_found : (m : Module) (find : Find) (name : List ℕ) → IsSound m → Finds find (declarations m) → Contains (all_names m) name → IsFound m (find name) name
is_found m find name sound finds (k, lt, at) =
    let count : length (declarations m) ≡ length (all_names m) = sym (length-map (declarations m) (λ (port : Port). port.name)) ∙ ap length (names_declared m) in
    elim (slice_get_cases (declarations m) k).1 [
      | inl (port, lt', at', here) ↦
          let same : port.name ≡ name =
          sym (ap (λ (port : Port). port.name) here) ∙ sym (get_or-map (λ (port : Port). port.name) (declarations m) k port name lt')
          ∙ ap (λ (names : List (List ℕ)). get_or names k name) (names_declared m) ∙ at in
          let found = finds.each k port lt' in
          let found' : find name ≡ Some (record { place = k; width = port.width }) = rw (here, same) at found in
          record {
            declared = record { place = k; width = port.width };
            is = found';
            place = slice_get-get_or (all_names m) k name lt ∙ ap Some at;
            width = sym (declared_width m sound port (k, lt', here)) ∙ ap (width_of m) same;
          }
      | inr (past, none) ↦ absurd (omega arith)
    ]

-- what a look-up gave
pub found_read : (m : Module) (r : Option Declared) (x : Declared) (found : Option Declared) (name : List ℕ) → r ≡ found → r ≡ Some x → IsFound m found name
    → (slice_get (all_names m) x.place ≡ Some name) × (x.width.bits ≡ width_of m name)
found_read m r x found name looked is at =
    let same : x ≡ at.declared = some_same (sym is ∙ looked ∙ at.is) in
    (rw same at.place, rw same at.width)
  where
    some_same : {a b : Declared} → Some a ≡ Some b → a ≡ b
    some_same e = cc

-- it gave something
pub found_some : (m : Module) (r : Option Declared) (found : Option Declared) (name : List ℕ) → r ≡ found → IsFound m found name → IsSome r
found_some m r found name looked at = let e : r ≡ Some at.declared = looked ∙ at.is in rw e (search rules)

-- a call that entered ports behind others
abbrev pub Enters : Table → Table → ℕ → List Port → Type 0
Enters old new first ports = (front : List Port) → length front ≡ first → AreDistinct (names_of (front ++ ports)) → Finds (found_in old) front → Finds (found_in new) (front ++ ports)

-- after the last of the ports
pub enters_all : (old new : Table) (first i : ℕ) (ports : List Port) → length ports ≤ i
    → ((front : List Port) → length front ≡ first → AreDistinct (names_of (front ++ ports)) → Finds (found_in old) front → Finds (found_in new) (front ++ take i ports)) → Enters old new first ports
enters_all old new first i ports past so_far front long distinct finds =
    let whole : take i ports ≡ ports = take_all i ports past in
    rw whole at (so_far front long distinct finds)

pub on_done : {T E P Q : Type 0} (r : Result T E) → (P → Q) → OnOk r P → OnOk r Q
on_done (Ok t) f h = f h
on_done (Err e) f h = tt

-- all declarations in four calls
pub finds_all : (m : Module) (f0 f1 f2 f3 f4 : Table) (a b c d : List Port) (n2 n3 n4 : ℕ) → IsSound m → f0 ≡ [] → a ≡ m.inputs → b ≡ m.registers → c ≡ m.outputs → d ≡ m.wires
    → n2 ≡ length a → n3 ≡ length a + length b → n4 ≡ length a + length b + length c
    → Enters f0 f1 0 a → Enters f1 f2 n2 b → Enters f2 f3 n3 c → Enters f3 f4 n4 d → Finds (found_in f4) (declarations m)
finds_all m f0 f1 f2 f3 f4 a b c d n2 n3 n4 sound none ea eb ec ed e2 e3 e4 first second third fourth =
    let all : a ++ b ++ c ++ d ≡ declarations m = rw (ea, eb, ec, ed) refl in
    let four : AreDistinct (names_of (a ++ b ++ c ++ d)) = rw (all, names_declared m) (names_distinct m sound) in
    let three : AreDistinct (names_of (a ++ b ++ c)) = front_distinct (names_of (a ++ b ++ c)) (names_of d) (rw map-append at four) in
    let two : AreDistinct (names_of (a ++ b)) = front_distinct (names_of (a ++ b)) (names_of c) (rw map-append at three) in
    let one : AreDistinct (names_of a) = front_distinct (names_of a) (names_of b) (rw map-append at two) in
    let f1' : Finds (found_in f1) a = first [] refl one (finds_none f0 none) in
    let f2' : Finds (found_in f2) (a ++ b) = second a (sym e2) two f1' in
    let f3' : Finds (found_in f3) (a ++ b ++ c) = third (a ++ b) (omega (arith, length-append a b)) three f2' in
    let f4' : Finds (found_in f4) (a ++ b ++ c ++ d) = fourth (a ++ b ++ c) (omega (arith, length-append (a ++ b) c, length-append a b)) four f3' in
    rw (← all) f4'
