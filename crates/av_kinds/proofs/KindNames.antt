-- The names of a kind: ports, outputs and wires are apart.
use Rattle.std.proofs.Common.{◌≡◌, ◌≢◌, ℕ, zero, suc, ◌+◌, ◌^◌, ◌<◌, ◌≤◌, ◌⊎◌, List, [], ◌∷◌, ◌++◌, length, map, refl, sym, subst, arith, ◌∙◌, ap, inl, inr, Bool, true, false, if◌then◌else◌, append_assoc}
use Rattle.std.specs.Prelude.{decimal}
use Rattle.std.specs.List.{AllByRecursion, range_with_len}
use Rattle.std.proofs.lemmas.List.{map-append, append-nil}
use Rattle.av_base.proofs.Lists.{each_append, each_weaker}
use Rattle.av_net.specs.declared.operation.Operand.{Operand}
use Rattle.av_net.specs.declared.operation.Operand.TheVariants.{Name}
use Rattle.av_net.specs.declared.netlist.Port.{Port}
use Rattle.av_net.specs.declared.netlist.Drive.{Drive}
use Rattle.av_net.specs.Names.{AreDistinct, clk, rst, names_of, targets_of, all_names}
use Rattle.av_net.specs.Flat.{kind_module}
use Rattle.av_net.proofs.Tested.{distinct_tested}
use Rattle.av_kinds.specs.declared.gates.LaneGate.{LaneGate}
use Rattle.av_kinds.specs.Names.{Naming, pipe_name, inner_name, kind_value, kind_counter}
use Rattle.av_kinds.specs.Counters.{counter_width}
use Rattle.av_kinds.specs.Tops.{port}
use Rattle.av_kinds.specs.inner.Gates.{drives_from, ports_from}
use Rattle.av_kinds.specs.inner.Shapes.{LaneShape}
use Rattle.av_kinds.specs.inner.Interfaces.{PortCounts, past_modes}
use Rattle.av_kinds.specs.inner.Kinds.{counts, lane_built, output_of, no_ports, lanes_inputs, lanes_outputs, lanes_wires, lanes_drives, kind_by}
use Rattle.av_kinds.proofs.NameParts.{one_distinct, nothing_distinct}
use Rattle.av_kinds.proofs.PortNames.{joined_apart, IsIn, letters_apart, numbers_apart, wider, letter_distinct, letter_each, IsOf, IsSmall, past_lanes, lanes_named}

-- ---- wires

pub names_from : (name : Naming) (n : ℕ) (gates : List LaneGate) → names_of (ports_from name n gates) ≡ map name (range_with_len n (length gates))
names_from name n [] = refl
names_from name n (g ∷ gates) = ap (λ ys. name n ∷ ys) (names_from name (n + 1) gates)

pub targets_from : (name : Naming) (n : ℕ) (gates : List LaneGate) → targets_of (drives_from name n gates) ≡ map name (range_with_len n (length gates))
targets_from name n [] = refl
targets_from name n (g ∷ gates) = ap (λ ys. name n ∷ ys) (targets_from name (n + 1) gates)

-- the numbers of a lane go on from those before
shifted : (n a b m : ℕ) → n + a ≡ b → map (inner_name n) (range_with_len a m) ≡ map (λ i. 119 ∷ decimal i) (range_with_len b m)
shifted n a b zero e = refl
shifted n a b (suc m) e = ap (λ i. (119 ∷ decimal i) ∷ map (inner_name n) (range_with_len (a + 1) m)) e ∙ ap (λ ys. (119 ∷ decimal b) ∷ ys) (shifted n (a + 1) (b + 1) m (omega (arith, e)))

-- the number behind those of all lanes
abbrev pub wires_end : Operand → PortCounts → ℕ → List LaneShape → ℕ
wires_end c at n [] = n
wires_end c at n (lane ∷ lanes) = wires_end c (past_modes at lane.modes) (n + length (lane_built c at n lane).gates) lanes

pub end_after : (c : Operand) (at : PortCounts) (n : ℕ) (lanes : List LaneShape) → n ≤ wires_end c at n lanes
end_after c at n [] = omega arith
end_after c at n (lane ∷ lanes) = omega (arith, end_after c (past_modes at lane.modes) (n + length (lane_built c at n lane).gates) lanes)

pub record WireNames (low high : ℕ) (names : List (List ℕ)) : Type 0 where
  pub distinct : AreDistinct names
  pub each : AllByRecursion (IsIn 119 low high) names

own_wires : (n m high : ℕ) → n + m ≤ high → high ≤ 10 ^ 64 → WireNames n (n + m) (map (inner_name n) (range_with_len 0 m))
own_wires n m high le few = subst (WireNames n (n + m)) (sym (shifted n 0 n m (omega arith))) (record { distinct = letter_distinct 119 n m (omega arith); each = letter_each 119 n m (n + m) (omega arith) })

wires_after : (low mid high : ℕ) (xs ys : List (List ℕ)) → low ≤ mid → mid ≤ high → high ≤ 10 ^ 64 → WireNames low mid xs → WireNames mid high ys → WireNames low high (xs ++ ys)
wires_after low mid high xs ys a b few h k = record {
  distinct = joined_apart (IsIn 119 low mid) (IsIn 119 mid high) (λ x p q. numbers_apart 119 low mid high few x p q) xs ys h.distinct k.distinct h.each k.each;
  each = each_append (IsIn 119 low high) xs ys (each_weaker (IsIn 119 low mid) (IsIn 119 low high) (wider 119 low mid low high (omega arith) b) xs h.each) (each_weaker (IsIn 119 mid high) (IsIn 119 low high) (wider 119 mid high low high a (omega arith)) ys k.each);
}

pub wires_named : (c : Operand) (at : PortCounts) (n : ℕ) (lanes : List LaneShape) → wires_end c at n lanes ≤ 10 ^ 64 → WireNames n (wires_end c at n lanes) (names_of (lanes_wires c at n lanes))
wires_named c at n [] few = record { distinct = nothing_distinct; each = tt }
wires_named c at n (lane ∷ lanes) few =
    let gates = (lane_built c at n lane).gates in
    let m = n + length gates in
    let mid = past_modes at lane.modes in
    let later = end_after c mid m lanes in
    let e : names_of (ports_from (inner_name n) 0 gates) ++ names_of (lanes_wires c mid m lanes) ≡ names_of (lanes_wires c at n (lane ∷ lanes)) = sym (map-append (λ (p : Port). p.name) (ports_from (inner_name n) 0 gates) (lanes_wires c mid m lanes)) in
    let own : WireNames n m (names_of (ports_from (inner_name n) 0 gates)) = subst (WireNames n m) (sym (names_from (inner_name n) 0 gates)) (own_wires n (length gates) (wires_end c mid m lanes) later few) in
    subst (WireNames n (wires_end c mid m lanes)) e
    (wires_after n m (wires_end c mid m lanes) (names_of (ports_from (inner_name n) 0 gates)) (names_of (lanes_wires c mid m lanes)) (omega arith) later few own (wires_named c mid m lanes few))

-- ---- outputs

-- the word of a pipeline from the k-th on, or the value
abbrev pub IsOut : ℕ → ℕ → List ℕ → Type 0
IsOut low high x = IsIn 112 low high x ⊎ (x ≡ kind_value)

pub record OutNames (low high : ℕ) (names : List (List ℕ)) : Type 0 where
  pub distinct : AreDistinct names
  pub each : AllByRecursion (IsOut low high) names

abbrev head_of : List ℕ → ℕ
head_of [] = 0
head_of (x ∷ xs) = x

pipe_no_value : (low high : ℕ) (x : List ℕ) → IsIn 112 low high x → x ≡ kind_value → ⊥
pipe_no_value low high x p e = let f : 112 ≡ 118 = sym (ap head_of p.3) ∙ ap head_of e in absurd (omega (arith, f))

out_apart : (low mid high : ℕ) → high ≤ 10 ^ 64 → (x : List ℕ) → IsIn 112 low mid x → IsOut mid high x → ⊥
out_apart low mid high few x p (inl q) = numbers_apart 112 low mid high few x p q
out_apart low mid high few x p (inr e) = pipe_no_value low mid x p e

out_wider : (low mid high : ℕ) → low ≤ mid → (x : List ℕ) → IsOut mid high x → IsOut low high x
out_wider low mid high le x (inl p) = inl (wider 112 mid high low high le (omega arith) x p)
out_wider low mid high le x (inr e) = inr e

pub outs_named : (k : ℕ) (lanes : List LaneShape) → k + length lanes ≤ 10 ^ 64 → OutNames k (k + length lanes) (names_of (lanes_outputs k lanes))
outs_named k [] few = record { distinct = nothing_distinct; each = tt }
outs_named k (lane ∷ []) few = record { distinct = one_distinct kind_value; each = (inr refl, tt) }
outs_named k (lane ∷ g ∷ lanes) few =
    let high = k + suc (suc (length lanes)) in
    let e : k + 1 + suc (length lanes) ≡ high = omega arith in
    let rest : OutNames (k + 1) high (names_of (lanes_outputs (k + 1) (g ∷ lanes))) = subst (λ i. OutNames (k + 1) i (names_of (lanes_outputs (k + 1) (g ∷ lanes)))) e (outs_named (k + 1) (g ∷ lanes) (omega (arith, few, e))) in
    let own : IsIn 112 k (k + 1) (pipe_name k) = (k, omega arith, omega arith, refl) in
    let tail = names_of (lanes_outputs (k + 1) (g ∷ lanes)) in
    record {
      distinct = joined_apart (IsIn 112 k (k + 1)) (IsOut (k + 1) high) (out_apart k (k + 1) high few) (pipe_name k ∷ []) tail (one_distinct (pipe_name k)) rest.distinct (own, tt) rest.each;
      each = (inl (wider 112 k (k + 1) k high (omega arith) (omega arith) (pipe_name k) own), each_weaker (IsOut (k + 1) high) (IsOut k high) (out_wider k (k + 1) high (omega arith)) tail rest.each);
    }

-- ---- targets: the wires of each lane and its output

abbrev pub IsTarget : ℕ → ℕ → ℕ → ℕ → List ℕ → Type 0
IsTarget n m low high x = IsIn 119 n m x ⊎ IsOut low high x

pub record TargetNames (n m low high : ℕ) (names : List (List ℕ)) : Type 0 where
  pub distinct : AreDistinct names
  pub each : AllByRecursion (IsTarget n m low high) names

wire_no_out : (n m low high : ℕ) (x : List ℕ) → IsIn 119 n m x → IsOut low high x → ⊥
wire_no_out n m low high x p (inl q) = letters_apart 119 112 n m low high (λ e. absurd (omega (arith, e))) x p q
wire_no_out n m low high x p (inr e) = let f : 119 ≡ 118 = sym (ap head_of p.3) ∙ ap head_of e in absurd (omega (arith, f))

target_wider : (n i m low j high : ℕ) → n ≤ i → low ≤ j → (x : List ℕ) → IsTarget i m j high x → IsTarget n m low high x
target_wider n i m low j high a b x (inl p) = inl (wider 119 i m n m a (omega arith) x p)
target_wider n i m low j high a b x (inr q) = inr (out_wider low j high b x q)

-- the output of a lane is in no later lane
output_apart : (n m k high : ℕ) → high ≤ 10 ^ 64 → (lanes : List LaneShape) → 0 < length lanes → (x : List ℕ) → x ≡ output_of k lanes → IsTarget n m (k + 1) high x → ⊥
output_apart n m k high few [] some x is t = absurd (omega (arith, some))
output_apart n m k high few (g ∷ lanes) some x is (inl p) = letters_apart 119 112 n m k (k + 1) (λ e. absurd (omega (arith, e))) x p (k, omega arith, omega arith, is)
output_apart n m k high few (g ∷ lanes) some x is (inr q) = out_apart k (k + 1) high few x (k, omega arith, omega arith, is) q

output_is : (k high : ℕ) (lanes : List LaneShape) → k < high → IsOut k high (output_of k lanes)
output_is k high [] lt = inr refl
output_is k high (g ∷ lanes) lt = inl (k, omega arith, lt, refl)

later_apart : (n i m k high : ℕ) → m ≤ 10 ^ 64 → (x : List ℕ) → IsIn 119 n i x → IsTarget i m k high x → ⊥
later_apart n i m k high few x p (inl q) = numbers_apart 119 n i m few x p q
later_apart n i m k high few x p (inr q) = wire_no_out n i k high x p q

-- the output of a lane before the targets of later ones: where there is no later lane, there is no later target
target_first : (n m k high : ℕ) → high ≤ 10 ^ 64 → (lanes : List LaneShape) (tail : List (List ℕ)) → (lanes ≡ [] → tail ≡ []) → AreDistinct tail → AllByRecursion (IsTarget n m (k + 1) high) tail → AreDistinct (output_of k lanes ∷ tail)
target_first n m k high few [] tail none distinct each = subst (λ (ys : List (List ℕ)). AreDistinct (kind_value ∷ ys)) (sym (none refl)) (one_distinct kind_value)
target_first n m k high few (g ∷ lanes) tail none distinct each =
    joined_apart (λ x. x ≡ pipe_name k) (IsTarget n m (k + 1) high) (output_apart n m k high few (g ∷ lanes) (omega arith)) (pipe_name k ∷ []) tail (one_distinct (pipe_name k)) distinct (refl, tt) each

pub targets_named : (c : Operand) (at : PortCounts) (n k : ℕ) (lanes : List LaneShape) → wires_end c at n lanes ≤ 10 ^ 64 → k + length lanes ≤ 10 ^ 64 → TargetNames n (wires_end c at n lanes) k (k + length lanes) (targets_of (lanes_drives c at n k lanes))
targets_named c at n k [] few outs = record { distinct = nothing_distinct; each = tt }
targets_named c at n k (lane ∷ lanes) few outs =
    let b = lane_built c at n lane in
    let gates = b.gates in
    let i = n + length gates in
    let mid = past_modes at lane.modes in
    let m = wires_end c mid i lanes in
    let high = k + suc (length lanes) in
    let later = end_after c mid i lanes in
    let target = output_of k lanes in
    let last : Drive = record { target = target; operation = b.root } in
    let more = lanes_drives c mid i (k + 1) lanes in
    let own = map (inner_name n) (range_with_len 0 (length gates)) in
    let tail = targets_of more in
    let e : own ++ (target ∷ tail) ≡ targets_of (drives_from (inner_name n) 0 gates ++ (last ∷ more)) =
    sym (map-append (λ (d : Drive). d.target) (drives_from (inner_name n) 0 gates) (last ∷ more) ∙ ap (λ ys. ys ++ (target ∷ tail)) (targets_from (inner_name n) 0 gates)) in
    let f : k + 1 + length lanes ≡ high = omega arith in
    let rest : TargetNames i m (k + 1) high tail = subst (λ h. TargetNames i m (k + 1) h tail) f (targets_named c mid i (k + 1) lanes few (omega (arith, outs, f))) in
    let mine = own_wires n (length gates) m later few in
    subst (TargetNames n m k high) e (record {
      distinct = joined_apart (IsIn 119 n i) (IsTarget i m k high) (later_apart n i m k high few) own (target ∷ tail) mine.distinct (target_first i m k high outs lanes tail (λ none. ap (λ (ls : List LaneShape). targets_of (lanes_drives c mid i (k + 1) ls)) none) rest.distinct rest.each) mine.each
          (inr (output_is k high lanes (omega arith)), each_weaker (IsTarget i m (k + 1) high) (IsTarget i m k high) (target_wider i i m k (k + 1) high (omega arith) (omega arith)) tail rest.each);
      each = each_append (IsTarget n m k high) own (target ∷ tail) (each_weaker (IsIn 119 n i) (IsTarget n m k high) (λ x p. inl (wider 119 n i n m (omega arith) later x p)) own mine.each)
          (inr (output_is k high lanes (omega arith)), each_weaker (IsTarget i m (k + 1) high) (IsTarget n m k high) (target_wider n i m k (k + 1) high (omega arith) (omega arith)) tail rest.each);
    })

-- ---- all names of a kind

abbrev pub counter_ports : Bool → List Port
counter_ports counted = if counted then port counter_width kind_counter ∷ [] else []

-- `clk`, `rst`, and `cyc` where the kind tests the counter
abbrev pub fixed_names : Bool → List (List ℕ)
fixed_names counted = clk ∷ rst ∷ names_of (counter_ports counted)

abbrev IsFixed : List ℕ → Type 0
IsFixed x = (head_of x ≡ 99) ⊎ (head_of x ≡ 114)

fixed_distinct : (counted : Bool) → AreDistinct (fixed_names counted)
fixed_distinct true = distinct_tested (clk ∷ rst ∷ kind_counter ∷ []) refl
fixed_distinct false = distinct_tested (clk ∷ rst ∷ []) refl

fixed_each : (counted : Bool) → AllByRecursion IsFixed (fixed_names counted)
fixed_each true = (inl refl, (inr refl, (inl refl, tt)))
fixed_each false = (inl refl, (inr refl, tt))

-- none of these begins with the letter
fixed_no : (b l h : ℕ) → 99 ≢ b → 114 ≢ b → (x : List ℕ) → IsFixed x → IsIn b l h x → ⊥
fixed_no b l h c r x (inl e) p = c (sym e ∙ ap head_of p.3)
fixed_no b l h c r x (inr e) p = r (sym e ∙ ap head_of p.3)

apart_by : (a b : ℕ) → (a < b) ⊎ (b < a) → a ≢ b
apart_by a b (inl lt) e = absurd (omega (arith, e, lt))
apart_by a b (inr lt) e = absurd (omega (arith, e, lt))

fixed_no_port : (a b : PortCounts) (x : List ℕ) → IsFixed x → IsOf a b x → ⊥
fixed_no_port a b x f (inl p) = fixed_no 105 a.inputs b.inputs (apart_by 99 105 (inl (omega arith))) (apart_by 114 105 (inr (omega arith))) x f p
fixed_no_port a b x f (inr (inl p)) = fixed_no 116 a.taps b.taps (apart_by 99 116 (inl (omega arith))) (apart_by 114 116 (inl (omega arith))) x f p
fixed_no_port a b x f (inr (inr p)) = fixed_no 98 a.bounds b.bounds (apart_by 99 98 (inr (omega arith))) (apart_by 114 98 (inr (omega arith))) x f p

fixed_no_out : (a b : ℕ) (x : List ℕ) → IsFixed x → IsOut a b x → ⊥
fixed_no_out a b x f (inl p) = fixed_no 112 a b (apart_by 99 112 (inl (omega arith))) (apart_by 114 112 (inr (omega arith))) x f p
fixed_no_out a b x (inl e) (inr v) = let g : 99 ≡ 118 = sym e ∙ ap head_of v in absurd (omega (arith, g))
fixed_no_out a b x (inr e) (inr v) = let g : 114 ≡ 118 = sym e ∙ ap head_of v in absurd (omega (arith, g))

fixed_no_wire : (a b : ℕ) (x : List ℕ) → IsFixed x → IsIn 119 a b x → ⊥
fixed_no_wire a b x f p = fixed_no 119 a b (apart_by 99 119 (inl (omega arith))) (apart_by 114 119 (inl (omega arith))) x f p

port_no_out : (a b : PortCounts) (l h : ℕ) (x : List ℕ) → IsOf a b x → IsOut l h x → ⊥
port_no_out a b l h x (inl p) (inl q) = letters_apart 105 112 a.inputs b.inputs l h (apart_by 105 112 (inl (omega arith))) x p q
port_no_out a b l h x (inr (inl p)) (inl q) = letters_apart 116 112 a.taps b.taps l h (apart_by 116 112 (inr (omega arith))) x p q
port_no_out a b l h x (inr (inr p)) (inl q) = letters_apart 98 112 a.bounds b.bounds l h (apart_by 98 112 (inl (omega arith))) x p q
port_no_out a b l h x (inl p) (inr v) = let g : 105 ≡ 118 = sym (ap head_of p.3) ∙ ap head_of v in absurd (omega (arith, g))
port_no_out a b l h x (inr (inl p)) (inr v) = let g : 116 ≡ 118 = sym (ap head_of p.3) ∙ ap head_of v in absurd (omega (arith, g))
port_no_out a b l h x (inr (inr p)) (inr v) = let g : 98 ≡ 118 = sym (ap head_of p.3) ∙ ap head_of v in absurd (omega (arith, g))

port_no_wire : (a b : PortCounts) (l h : ℕ) (x : List ℕ) → IsOf a b x → IsIn 119 l h x → ⊥
port_no_wire a b l h x (inl p) q = letters_apart 105 119 a.inputs b.inputs l h (apart_by 105 119 (inl (omega arith))) x p q
port_no_wire a b l h x (inr (inl p)) q = letters_apart 116 119 a.taps b.taps l h (apart_by 116 119 (inl (omega arith))) x p q
port_no_wire a b l h x (inr (inr p)) q = letters_apart 98 119 a.bounds b.bounds l h (apart_by 98 119 (inl (omega arith))) x p q

-- the numbers of a kind's names are those of numerals
pub record IsFewKind (shape : List LaneShape) : Type 0 where
  pub ports : IsSmall (past_lanes no_ports shape)
  pub outputs : length shape ≤ 10 ^ 64
  pub wires : wires_end (Name kind_counter) no_ports 0 shape ≤ 10 ^ 64

module _ (number : ℕ) (shape : List LaneShape) (few : IsFewKind shape) where
  abbrev counter : Operand
  counter = Name kind_counter

  abbrev ins : List (List ℕ)
  ins = names_of (lanes_inputs no_ports shape)

  abbrev outs : List (List ℕ)
  outs = names_of (lanes_outputs 0 shape)

  abbrev inner : List (List ℕ)
  inner = names_of (lanes_wires counter no_ports 0 shape)

  abbrev last : PortCounts
  last = past_lanes no_ports shape

  abbrev end : ℕ
  end = wires_end counter no_ports 0 shape

  few_outs : 0 + length shape ≤ 10 ^ 64
  few_outs = omega (arith, few.outputs)

  distinct_inner : AreDistinct (outs ++ inner)
  distinct_inner =
      let o = outs_named 0 shape few_outs in
      let w = wires_named counter no_ports 0 shape few.wires in
      joined_apart (IsOut 0 (0 + length shape)) (IsIn 119 0 end) (λ x p q. wire_no_out 0 end 0 (0 + length shape) x q p) outs inner o.distinct w.distinct o.each w.each

  -- of an output or a wire
  abbrev IsInner : List ℕ → Type 0
  IsInner x = IsOut 0 (0 + length shape) x ⊎ IsIn 119 0 end x

  each_inner : AllByRecursion IsInner (outs ++ inner)
  each_inner = each_append IsInner outs inner (each_weaker (IsOut 0 (0 + length shape)) IsInner (λ x p. inl p) outs (outs_named 0 shape few_outs).each) (each_weaker (IsIn 119 0 end) IsInner (λ x p. inr p) inner (wires_named counter no_ports 0 shape few.wires).each)

  port_no_inner : (x : List ℕ) → IsOf no_ports last x → IsInner x → ⊥
  port_no_inner x p (inl q) = port_no_out no_ports last 0 (0 + length shape) x p q
  port_no_inner x p (inr q) = port_no_wire no_ports last 0 end x p q

  fixed_no_inner : (x : List ℕ) → IsFixed x → IsInner x → ⊥
  fixed_no_inner x f (inl q) = fixed_no_out 0 (0 + length shape) x f q
  fixed_no_inner x f (inr q) = fixed_no_wire 0 end x f q

  abbrev IsLater : List ℕ → Type 0
  IsLater x = IsOf no_ports last x ⊎ IsInner x

  fixed_no_later : (x : List ℕ) → IsFixed x → IsLater x → ⊥
  fixed_no_later x f (inl p) = fixed_no_port no_ports last x f p
  fixed_no_later x f (inr q) = fixed_no_inner x f q

  all_parts : (cs xs ys : List (List ℕ)) → ((cs ++ xs) ++ []) ++ ys ≡ cs ++ (xs ++ ys)
  all_parts cs xs ys = ap (λ zs. zs ++ ys) (append-nil (cs ++ xs)) ∙ append_assoc cs xs ys

  pub kind_distinct : AreDistinct (clk ∷ rst ∷ all_names (kind_module (kind_by number shape)))
  kind_distinct =
      let ports = lanes_named no_ports shape few.ports in
      let counted = counts shape in
      let first : names_of (counter_ports counted ++ lanes_inputs no_ports shape) ≡ names_of (counter_ports counted) ++ ins = map-append (λ (p : Port). p.name) (counter_ports counted) (lanes_inputs no_ports shape) in
      let e : clk ∷ rst ∷ (names_of (counter_ports counted) ++ (ins ++ (outs ++ inner))) ≡ clk ∷ rst ∷ all_names (kind_module (kind_by number shape)) =
      ap (λ ys. clk ∷ rst ∷ ys) (sym (ap (λ zs. (zs ++ []) ++ (outs ++ inner)) first ∙ all_parts (names_of (counter_ports counted)) ins (outs ++ inner))) in
      subst AreDistinct e
      (joined_apart IsFixed IsLater fixed_no_later (fixed_names counted) (ins ++ (outs ++ inner)) (fixed_distinct counted)
      (joined_apart (IsOf no_ports last) IsInner port_no_inner ins (outs ++ inner) ports.distinct distinct_inner ports.each each_inner)
      (fixed_each counted)
      (each_append IsLater ins (outs ++ inner) (each_weaker (IsOf no_ports last) IsLater (λ x p. inl p) ins ports.each) (each_weaker IsInner IsLater (λ x p. inr p) (outs ++ inner) each_inner)))
