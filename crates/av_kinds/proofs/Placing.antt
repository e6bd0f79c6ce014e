-- Lists that a loop writes, one element after another.
use Rattle.std.proofs.Common.{◌≡◌, ℕ, zero, suc, ◌+◌, ◌<◌, List, [], ◌∷◌, ◌++◌, length, map, take, drop, get_or, refl, sym, arith, ◌∙◌, ap, append_assoc, Some}
use Rattle.std.specs.Prelude.{slice_get}
use Rattle.std.specs.List.{range_with_len, enumerate_from}
use Rattle.std.proofs.lemmas.List.{length-map, map-append, append-nil}
use Rattle.av_base.proofs.Lists.{some_is, next_taken}
use Rattle.std.proofs.lemmas.List.FromFn.{map-range_with_len_more, get_or-enumerate_from, length-enumerate_from}
use Rattle.av_net.specs.declared.operation.Operand.TheVariants.{Name}
use Rattle.av_net.specs.declared.operation.Operation.{Operation}
use Rattle.av_net.specs.declared.netlist.Port.{Port}
use Rattle.av_net.specs.declared.netlist.Drive.{Drive}
use Rattle.av_net.specs.declared.netlist.Step.{Step}
use Rattle.av_kinds.specs.declared.gates.LaneGate.{LaneGate}
use Rattle.av_kinds.specs.declared.naming.LaneNames.{LaneNames}
use Rattle.av_kinds.specs.Names.{Naming, line_name, labels}
use Rattle.av_kinds.specs.Programs.{Program}
use Rattle.av_kinds.specs.inner.Gates.{drives_from, ports_from}
use Rattle.av_kinds.specs.inner.Numbered.{line_in, IsNaming}

pub one_more : (k : ℕ) → suc k ≡ k + 1
one_more k = omega arith

pub range_more : {X : Type 0} (f : ℕ → X) (front old new : List X) (n : ℕ) (x : X) → old ≡ front ++ map f (range_with_len 0 n) → new ≡ old ++ x ∷ [] → x ≡ f n → new ≡ front ++ map f (range_with_len 0 (n + 1))
range_more f front old new n x before is here =
    let at : 0 + n ≡ n = omega arith in
    is ∙ ap (λ ys. ys ++ x ∷ []) before ∙ ap (λ y. (front ++ map f (range_with_len 0 n)) ++ y ∷ []) here ∙ append_assoc front (map f (range_with_len 0 n)) (f n ∷ [])
    ∙ ap (λ ys. front ++ ys) (sym (map-range_with_len_more f 0 n n at))

-- an element is written, where what is still to come begins with it
pub one_less : {X : Type 0} (whole old new : List X) (x : X) (rest later : List X) → old ++ rest ≡ whole → new ≡ old ++ x ∷ [] → rest ≡ x ∷ later → new ++ later ≡ whole
one_less whole old new x rest later before is split = ap (λ ys. ys ++ later) is ∙ append_assoc old (x ∷ []) later ∙ ap (λ ys. old ++ ys) (sym split) ∙ before

-- or several
pub some_less : {X : Type 0} (whole old new own rest later : List X) → old ++ rest ≡ whole → new ≡ old ++ own → rest ≡ own ++ later → new ++ later ≡ whole
some_less whole old new own rest later before is split = ap (λ ys. ys ++ later) is ∙ append_assoc old own later ∙ ap (λ ys. old ++ ys) (sym split) ∙ before

-- an element is written, of which a view is seen
pub one_seen : {X Y : Type 0} (f : X → Y) (whole : List Y) (old new : List X) (x : X) (y : Y) (rest later : List Y) → map f old ++ rest ≡ whole → new ≡ old ++ x ∷ [] → f x ≡ y → rest ≡ y ∷ later → map f new ++ later ≡ whole
one_seen f whole old new x y rest later before put is split =
    one_less whole (map f old) (map f new) y rest later before (ap (map f) put ∙ map-append f old (x ∷ []) ∙ ap (λ z. map f old ++ z ∷ []) is) split

-- what is written follows the elements that were gone through
pub next_mapped : {X Y : Type 0} (f : X → Y) (xs : List X) (k : ℕ) (x : X) (old new : List Y) (y : Y) → k < length xs → x ≡ get_or xs k x → old ≡ map f (take k xs) → new ≡ old ++ y ∷ [] → y ≡ f x → new ≡ map f (take (k + 1) xs)
next_mapped f xs k x old new y lt is before put here =
    put ∙ ap (λ ys. ys ++ y ∷ []) before ∙ ap (λ z. map f (take k xs) ++ z ∷ []) here ∙ sym (map-append f (take k xs) (x ∷ [])) ∙ ap (map f) (sym (next_taken xs k x lt is))

-- nothing is still to come
pub none_less : {X : Type 0} (whole old rest : List X) → old ++ rest ≡ whole → rest ≡ [] → old ≡ whole
none_less whole old rest before none = sym (append-nil old) ∙ ap (λ ys. old ++ ys) (sym none) ∙ before

-- ---- names

-- what has the lane's word of so many cycles before
pub line_named : (program : Program) (q : ℕ) (names : LaneNames) → IsNaming program q names → (d : ℕ) → line_in names d ≡ line_name (labels program) q d
line_named program q names h zero = h.value
line_named program q names h (suc d) = ap (λ (f : ℕ → List ℕ). f d) h.register

abbrev pub step_with : List ℕ → List ℕ → Step
step_with register next = record { register = register; reset = 0; next = Name next }

pub same_step : (a b c d : List ℕ) → a ≡ c → b ≡ d → step_with a b ≡ step_with c d
same_step a b c d e f = ap (λ x. step_with x b) e ∙ ap (step_with c) f

abbrev pub drive_of : List ℕ → Operation → Drive
drive_of target operation = record { target = target; operation = operation }

-- ---- gates

ports_more : (name : Naming) (n : ℕ) (gates : List LaneGate) (g : LaneGate) (k : ℕ) → n + length gates ≡ k → ports_from name n (gates ++ g ∷ []) ≡ ports_from name n gates ++ record { name = name k; width = g.width } ∷ []
ports_more name n [] g k at = let e : n ≡ k = omega arith in ap (λ i. let p : Port = record { name = name i; width = g.width } in p ∷ []) e
ports_more name n (f ∷ gates) g k at = let e : n + 1 + length gates ≡ k = omega arith in ap (λ (ps : List Port). record { name = name n; width = f.width } ∷ ps) (ports_more name (n + 1) gates g k e)

drives_more : (name : Naming) (n : ℕ) (gates : List LaneGate) (g : LaneGate) (k : ℕ) → n + length gates ≡ k → drives_from name n (gates ++ g ∷ []) ≡ drives_from name n gates ++ drive_of (name k) g.operation ∷ []
drives_more name n [] g k at = let e : n ≡ k = omega arith in ap (λ i. drive_of (name i) g.operation ∷ []) e
drives_more name n (f ∷ gates) g k at = let e : n + 1 + length gates ≡ k = omega arith in ap (λ (ds : List Drive). drive_of (name n) f.operation ∷ ds) (drives_more name (n + 1) gates g k e)

pub gates_many : (name : Naming) (n : ℕ) (gates : List LaneGate) → length (ports_from name n gates) ≡ length gates
gates_many name n [] = refl
gates_many name n (g ∷ gates) = ap suc (gates_many name (n + 1) gates)

-- the number of an item is how many came before
pub number_is : (gates : List LaneGate) (i n : ℕ) (g : LaneGate) → (i < length (enumerate_from 0 gates)) × (◌≡◌ {A = ℕ × LaneGate} (n, g) (get_or (enumerate_from 0 gates) i (n, g))) → n ≡ i
number_is gates i n g h =
    let within : i < length gates = omega (arith, h.0, length-enumerate_from 0 gates) in
    let e : ◌≡◌ {A = ℕ × LaneGate} (n, g) (0 + i, get_or gates i g) = h.1 ∙ get_or-enumerate_from 0 gates i (n, g) within in
    let first : n ≡ 0 + i = ap (λ (p : ℕ × LaneGate). p.0) e in
    omega (arith, first)

pub next_port : (name : Naming) (front old new : List Port) (yielded : List (ℕ × LaneGate)) (n : ℕ) (g : LaneGate) (text : List ℕ) → n ≡ length yielded
    → old ≡ front ++ ports_from name 0 (map (λ p. p.1) yielded) → new ≡ old ++ record { name = text; width = g.width } ∷ [] → text ≡ name n
    → new ≡ front ++ ports_from name 0 (map (λ p. p.1) (yielded ++ (n, g) ∷ []))
next_port name front old new yielded n g text many before is here =
    let gates : List LaneGate = map (λ (p : ℕ × LaneGate). p.1) yielded in
    let at : 0 + length gates ≡ n = omega (arith, many, length-map yielded (λ (p : ℕ × LaneGate). p.1)) in
    let all : map (λ (p : ℕ × LaneGate). p.1) (yielded ++ (n, g) ∷ []) ≡ gates ++ g ∷ [] = map-append (λ (p : ℕ × LaneGate). p.1) yielded ((n, g) ∷ []) in
    is ∙ ap (λ (ps : List Port). ps ++ record { name = text; width = g.width } ∷ []) before
    ∙ ap (λ (t : List ℕ). (front ++ ports_from name 0 gates) ++ record { name = t; width = g.width } ∷ []) here
    ∙ append_assoc front (ports_from name 0 gates) (record { name = name n; width = g.width } ∷ [])
    ∙ ap (λ (ps : List Port). front ++ ps) (sym (ports_more name 0 gates g n at))
    ∙ ap (λ (gs : List LaneGate). front ++ ports_from name 0 gs) (sym all)

pub next_gate : (name : Naming) (front old new : List Drive) (yielded : List (ℕ × LaneGate)) (n : ℕ) (g : LaneGate) (text : List ℕ) → n ≡ length yielded
    → old ≡ front ++ drives_from name 0 (map (λ p. p.1) yielded) → new ≡ old ++ drive_of text g.operation ∷ [] → text ≡ name n
    → new ≡ front ++ drives_from name 0 (map (λ p. p.1) (yielded ++ (n, g) ∷ []))
next_gate name front old new yielded n g text many before is here =
    let gates : List LaneGate = map (λ (p : ℕ × LaneGate). p.1) yielded in
    let at : 0 + length gates ≡ n = omega (arith, many, length-map yielded (λ (p : ℕ × LaneGate). p.1)) in
    let all : map (λ (p : ℕ × LaneGate). p.1) (yielded ++ (n, g) ∷ []) ≡ gates ++ g ∷ [] = map-append (λ (p : ℕ × LaneGate). p.1) yielded ((n, g) ∷ []) in
    is ∙ ap (λ (ds : List Drive). ds ++ drive_of text g.operation ∷ []) before
    ∙ ap (λ (t : List ℕ). (front ++ drives_from name 0 gates) ++ drive_of t g.operation ∷ []) here
    ∙ append_assoc front (drives_from name 0 gates) (drive_of (name n) g.operation ∷ [])
    ∙ ap (λ (ds : List Drive). front ++ ds) (sym (drives_more name 0 gates g n at))
    ∙ ap (λ (gs : List LaneGate). front ++ drives_from name 0 gs) (sym all)

-- ---- elements

pub read_mapped : {X Y : Type 0} (f : X → Y) (xs : List X) (k : ℕ) (d x : X) → k < length xs → x ≡ get_or xs k d → slice_get (map f xs) k ≡ Some (f x)
read_mapped f [] k d x lt is = absurd (omega arith)
read_mapped f (y ∷ xs) zero d x lt is = ap (λ z. Some (f z)) (sym is)
read_mapped f (y ∷ xs) (suc k) d x lt is = read_mapped f xs k d x (omega arith) is

-- what begins at the place of an element
pub from_place : {X : Type 0} (xs : List X) (k : ℕ) (x : X) → slice_get xs k ≡ Some x → drop k xs ≡ x ∷ drop (suc k) xs
from_place [] k x is = absurd cc
from_place (y ∷ xs) zero x is = ap (λ z. z ∷ xs) (some_is y x is)
from_place (y ∷ xs) (suc k) x is = from_place xs k x is

-- a view of a part of a list
pub dropped : {X Y : Type 0} (f : X → Y) (xs : List X) (k : ℕ) → map f (drop k xs) ≡ drop k (map f xs)
dropped f [] zero = refl
dropped f [] (suc k) = refl
dropped f (x ∷ xs) zero = refl
dropped f (x ∷ xs) (suc k) = dropped f xs k

taken : {X Y : Type 0} (f : X → Y) (xs : List X) (k : ℕ) → map f (take k xs) ≡ take k (map f xs)
taken f [] zero = refl
taken f [] (suc k) = refl
taken f (x ∷ xs) zero = refl
taken f (x ∷ xs) (suc k) = ap (λ ys. f x ∷ ys) (taken f xs k)

pub part_seen : {X Y : Type 0} (f : X → Y) (xs : List X) (a n k : ℕ) → n ≡ k → map f (take n (drop a xs)) ≡ take k (drop a (map f xs))
part_seen f xs a n k e = taken f (drop a xs) n ∙ ap (take n) (dropped f xs a) ∙ ap (λ i. take i (drop a (map f xs))) e
