-- What the ports of a kind are fed, place by place.
use Rattle.std.proofs.Common.{◌≡◌, ℕ, zero, suc, ◌+◌, ◌≤◌, List, [], ◌∷◌, ◌++◌, length, refl, arith, ap, Bool, true, false, if◌then◌else◌, ◌&&◌, ◌||◌}
use Rattle.std.specs.Prelude.{nat_le}
use Rattle.std.specs.List.{list_any}
use Rattle.av_base.specs.declared.width.Width.{Width}
use Rattle.av_net.specs.declared.operation.Operand.{Operand}
use Rattle.av_net.specs.declared.operation.Operand.TheVariants.{Name}
use Rattle.av_net.specs.declared.netlist.Port.{Port}
use Rattle.av_net.specs.Meaning.{Words, word_of}
use Rattle.av_net.specs.Instances.{AreFed}
use Rattle.av_kinds.specs.declared.program.WordSource.{WordSource}
use Rattle.av_kinds.specs.declared.program.Window.{Window}
use Rattle.av_kinds.specs.declared.program.Selection.{Selection}
use Rattle.av_kinds.specs.Programs.{has_number, source_by}
use Rattle.av_kinds.specs.Names.{Naming, bound_name}
use Rattle.av_kinds.specs.inner.Choices.{holds_in, tapped_by}
use Rattle.av_kinds.specs.inner.Interfaces.{ports_by, bounds_by, options_by, last_by, guards_by, window_ports}
use Rattle.av_kinds.specs.inner.Instances.{words_for, bounds_for, windows_for}

-- ---- one for each

abbrev pub OneEach : List Port → List Operand → Type 0
OneEach [] [] = Unit {0}
OneEach (p ∷ ports) (a ∷ operands) = OneEach ports operands
OneEach [] (a ∷ operands) = ⊥
OneEach (p ∷ ports) [] = ⊥

pub one_each_joined : (ports more : List Port) (operands rest : List Operand) → OneEach ports operands → OneEach more rest → OneEach (ports ++ more) (operands ++ rest)
one_each_joined [] more [] rest h k = k
one_each_joined (p ∷ ports) more (a ∷ operands) rest h k = one_each_joined ports more operands rest h k
one_each_joined [] more (a ∷ operands) rest h k = absurd h
one_each_joined (p ∷ ports) more [] rest h k = absurd h

pub fed_front : (inner v : Words) (ports more : List Port) (operands rest : List Operand) → OneEach ports operands → AreFed inner v (ports ++ more) (operands ++ rest) → AreFed inner v ports operands
fed_front inner v [] more [] rest h fed = tt
fed_front inner v (p ∷ ports) more (a ∷ operands) rest h fed = (fed.0, fed_front inner v ports more operands rest h fed.1)
fed_front inner v [] more (a ∷ operands) rest h fed = absurd h
fed_front inner v (p ∷ ports) more [] rest h fed = absurd h

pub fed_back : (inner v : Words) (ports more : List Port) (operands rest : List Operand) → OneEach ports operands → AreFed inner v (ports ++ more) (operands ++ rest) → AreFed inner v more rest
fed_back inner v [] more [] rest h fed = fed
fed_back inner v (p ∷ ports) more (a ∷ operands) rest h fed = fed_back inner v ports more operands rest h fed.1
fed_back inner v [] more (a ∷ operands) rest h fed = absurd h
fed_back inner v (p ∷ ports) more [] rest h fed = absurd h

pub words_each : (name : Naming) (w : Width) (f : WordSource → Operand) (k n : ℕ) (selections : List Selection) (otherwise : WordSource) → OneEach (ports_by name w k (suc n)) (words_for f n selections otherwise)
words_each name w f k zero selections otherwise = tt
words_each name w f k (suc n) [] otherwise = words_each name w f (k + 1) n [] otherwise
words_each name w f k (suc n) (l ∷ selections) otherwise = words_each name w f (k + 1) n selections otherwise

pub bounds_each : (b n : ℕ) (selections : List Selection) → OneEach (bounds_by b n) (bounds_for n selections)
bounds_each b zero selections = tt
bounds_each b (suc n) [] = bounds_each (b + 1) n []
bounds_each b (suc n) (l ∷ selections) = bounds_each (b + 1) n selections

pub windows_each : (b n : ℕ) (windows : List Window) → OneEach (window_ports b n) (windows_for n windows)
windows_each b zero windows = tt
windows_each b (suc n) [] = windows_each (b + 2) n []
windows_each b (suc n) (s ∷ windows) = windows_each (b + 2) n windows

-- ---- a place: whatever the number, the word of its source is taken

if_word : (inner : Words) (test : Bool) (a b : Operand) (x : ℕ) → word_of inner a ≡ x → word_of inner b ≡ x → word_of inner (if test then a else b) ≡ x
if_word inner true a b x h k = h
if_word inner false a b x h k = k

if_source : (inner v : Words) (f : WordSource → Operand) (test : Bool) (a b : Operand) (s t : WordSource) → word_of inner a ≡ word_of v (f s) → word_of inner b ≡ word_of v (f t) → word_of inner (if test then a else b) ≡ word_of v (f (if test then s else t))
if_source inner v f true a b s t h k = h
if_source inner v f false a b s t h k = k

pub site_taken : (inner v : Words) (f : WordSource → Operand) (name : Naming) (w : Width) (c k b n : ℕ) (selections : List Selection) (otherwise : WordSource) → length selections ≤ n
    → AreFed inner v (ports_by name w k (suc n)) (words_for f n selections otherwise) → AreFed inner v (bounds_by b n) (bounds_for n selections)
    → word_of inner (tapped_by inner c (last_by name k n) (options_by name k b n)) ≡ word_of v (f (source_by c otherwise selections))
site_taken inner v f name w c k b zero [] otherwise room words bounds = words.0
site_taken inner v f name w c k b zero (l ∷ selections) otherwise room words bounds = absurd (omega (arith, room))
site_taken inner v f name w c k b (suc n) [] otherwise room words bounds =
    if_word inner (nat_le c (inner (bound_name b))) (Name (name k)) (tapped_by inner c (last_by name (k + 1) n) (options_by name (k + 1) (b + 1) n)) (word_of v (f otherwise))
    words.0 (site_taken inner v f name w c (k + 1) (b + 1) n [] otherwise (omega arith) words.1 bounds.1)
site_taken inner v f name w c k b (suc n) (l ∷ selections) otherwise room words bounds =
    let e : inner (bound_name b) ≡ l.last = bounds.0 in
    rw e (if_source inner v f (nat_le c l.last) (Name (name k)) (tapped_by inner c (last_by name (k + 1) n) (options_by name (k + 1) (b + 1) n)) l.source (source_by c otherwise selections)
    words.0 (site_taken inner v f name w c (k + 1) (b + 1) n selections otherwise (omega (arith, room)) words.1 bounds.1))

-- ---- a mode: whatever the number, it is in a guard where it is in a window

never : (c : ℕ) → (nat_le 1 c && nat_le c 0) ≡ false
never zero = refl
never (suc c) = grind arith

pub mode_taken : (inner v : Words) (c b n : ℕ) (windows : List Window) → length windows ≤ n → AreFed inner v (window_ports b n) (windows_for n windows)
    → list_any (holds_in inner c) (guards_by b n) ≡ list_any (has_number c) windows
mode_taken inner v c b zero [] room fed = refl
mode_taken inner v c b zero (s ∷ windows) room fed = absurd (omega (arith, room))
mode_taken inner v c b (suc n) [] room fed =
    let low : inner (bound_name b) ≡ 1 = fed.0 in
    let high : inner (bound_name (b + 1)) ≡ 0 = fed.1.0 in
    rw (low, high, never c) (mode_taken inner v c (b + 2) n [] (omega arith) fed.1.1)
mode_taken inner v c b (suc n) (s ∷ windows) room fed =
    let low : inner (bound_name b) ≡ s.first = fed.0 in
    let high : inner (bound_name (b + 1)) ≡ s.last = fed.1.0 in
    rw (low, high) (ap (λ (x : Bool). (nat_le s.first c && nat_le c s.last) || x) (mode_taken inner v c (b + 2) n windows (omega (arith, room)) fed.1.1))
