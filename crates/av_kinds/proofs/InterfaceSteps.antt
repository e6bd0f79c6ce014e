-- Ports, arms and guards, one more; and what a place adds to an interface.
use Rattle.std.proofs.Common.{◌≡◌, ℕ, zero, suc, ◌+◌, ◌*◌, List, [], ◌∷◌, ◌++◌, length, refl, sym, subst, arith, ◌∙◌, ap, append_assoc}
use Rattle.std.proofs.lemmas.List.{length-append, append-nil}
use Rattle.av_base.specs.declared.width.Width.{Width}
use Rattle.av_net.specs.declared.operation.Operand.{Operand}
use Rattle.av_net.specs.declared.operation.Operand.TheVariants.{Name}
use Rattle.av_net.specs.declared.netlist.Port.{Port}
use Rattle.av_kinds.specs.declared.choice.Arm.{Arm}
use Rattle.av_kinds.specs.declared.choice.Guard.{Guard}
use Rattle.av_kinds.specs.declared.choice.Guard.TheVariants.{UpTo, Within}
use Rattle.av_kinds.specs.declared.choice.Tap.{Tap}
use Rattle.av_kinds.specs.declared.interface.Interface.{Interface}
use Rattle.av_kinds.specs.declared.program.Inlet.{Inlet}
use Rattle.av_kinds.specs.declared.program.Inlet.TheVariants.{Inputs, Taps}
use Rattle.av_kinds.specs.declared.shape.SiteShape.{SiteShape}
use Rattle.av_kinds.specs.Names.{Naming, input_name, tap_name, bound_name}
use Rattle.av_kinds.specs.Counters.{counter_width}
use Rattle.av_kinds.specs.Tops.{port}
use Rattle.av_kinds.specs.inner.Interfaces.{PortCounts, ports_by, bounds_by, options_by, last_by, tap_by, guards_by, window_ports, ports_in, past, tap_in, site_ports, past_site, tap_of, tested_ports, past_tested, sites_ports, past_sites}
use Rattle.av_kinds.specs.inner.Shapes.{ModeShape}
use Rattle.av_kinds.specs.inner.Numbers.{counts_of, AreFew, AddsPorts}
use Rattle.av_kinds.proofs.Placing.{one_more}

ports_more : (name : Naming) (w : Width) (k n : ℕ) → ports_by name w k (suc n) ≡ ports_by name w k n ++ port w (name (k + n)) ∷ []
ports_more name w k zero = let e : k ≡ k + 0 = omega arith in ap (λ i. port w (name i) ∷ []) e
ports_more name w k (suc n) =
    let e : k + 1 + n ≡ k + suc n = omega arith in
    ap (λ (ps : List Port). port w (name k) ∷ ps) (ports_more name w (k + 1) n ∙ ap (λ i. ports_by name w (k + 1) n ++ port w (name i) ∷ []) e)

pub port_added : (name : Naming) (w : Width) (first k : ℕ) (old ports next : List Port) (p : Port) → ports ≡ old ++ ports_by name w first k → next ≡ ports ++ p ∷ [] → p ≡ port w (name (first + k)) → next ≡ old ++ ports_by name w first (k + 1)
port_added name w first k old ports next p h n is =
    n ∙ ap (λ (ps : List Port). ps ++ p ∷ []) h ∙ append_assoc old (ports_by name w first k) (p ∷ []) ∙ ap (λ (q : Port). old ++ (ports_by name w first k ++ q ∷ [])) is
    ∙ ap (λ (ps : List Port). old ++ ps) (sym (ports_more name w first k)) ∙ ap (λ i. old ++ ports_by name w first i) (one_more k)

abbrev pub arm_at : Operand → Operand → Arm
arm_at last own = record { guard = UpTo last; operand = own }

abbrev pub arm_of : Naming → ℕ → ℕ → Arm
arm_of name k b = arm_at (Name (bound_name b)) (Name (name k))

arms_more : (name : Naming) (k b n : ℕ) → options_by name k b (suc n) ≡ options_by name k b n ++ arm_of name (k + n) (b + n) ∷ []
arms_more name k b zero = let e : k ≡ k + 0 = omega arith in let f : b ≡ b + 0 = omega arith in ap (λ i. arm_of name i b ∷ []) e ∙ ap (λ i. arm_of name (k + 0) i ∷ []) f
arms_more name k b (suc n) =
    let e : k + 1 + n ≡ k + suc n = omega arith in
    let f : b + 1 + n ≡ b + suc n = omega arith in
    ap (λ (xs : List Arm). arm_of name k b ∷ xs)
    (arms_more name (k + 1) (b + 1) n ∙ ap (λ i. options_by name (k + 1) (b + 1) n ++ arm_of name i (b + 1 + n) ∷ []) e ∙ ap (λ i. options_by name (k + 1) (b + 1) n ++ arm_of name (k + suc n) i ∷ []) f)

pub arm_put : (name : Naming) (word bound k : ℕ) (arms next : List Arm) (a : Arm) → arms ≡ options_by name word bound k → next ≡ arms ++ a ∷ [] → a ≡ arm_of name (word + k) (bound + k) → next ≡ options_by name word bound (k + 1)
arm_put name word bound k arms next a h n is =
    n ∙ ap (λ (xs : List Arm). xs ++ a ∷ []) h ∙ ap (λ (x : Arm). options_by name word bound k ++ x ∷ []) is ∙ sym (arms_more name word bound k) ∙ ap (options_by name word bound) (one_more k)

-- ---- a place

-- behind the arms stands the last word
last_at : (name : Naming) (k n : ℕ) → last_by name k n ≡ Name (name (k + n))
last_at name k zero = let e : k ≡ k + 0 = omega arith in ap (λ i. Name (name i)) e
last_at name k (suc n) = let e : k + 1 + n ≡ k + suc n = omega arith in last_at name (k + 1) n ∙ ap (λ i. Name (name i)) e

abbrev pub tap_with : Width → List Arm → Operand → Tap
tap_with w arms otherwise = record { width = w; arms = arms; otherwise = otherwise }

pub tap_whole : (name : Naming) (w : Width) (word bound selections : ℕ) (arms : List Arm) (otherwise : Operand) → arms ≡ options_by name word bound selections → otherwise ≡ Name (name (word + selections)) → tap_with w arms otherwise ≡ tap_by name w word bound selections
tap_whole name w word bound selections arms otherwise h is = ap (λ xs. tap_with w xs otherwise) h ∙ ap (tap_with w (options_by name word bound selections)) (is ∙ sym (last_at name word selections))

-- its words, and then its bounds
pub words_put : (name : Naming) (w : Width) (word bound selections : ℕ) (p0 p1 p2 : List Port) → p1 ≡ p0 ++ ports_by name w word (selections + 1) → p2 ≡ p1 ++ bounds_by bound selections → p2 ≡ p0 ++ (ports_by name w word (suc selections) ++ bounds_by bound selections)
words_put name w word bound selections p0 p1 p2 h k =
    k ∙ ap (λ (ps : List Port). ps ++ bounds_by bound selections) h ∙ append_assoc p0 (ports_by name w word (selections + 1)) (bounds_by bound selections)
    ∙ ap (λ n. p0 ++ (ports_by name w word n ++ bounds_by bound selections)) (sym (one_more selections))

pub by_many : (name : Naming) (w : Width) (k n : ℕ) → length (ports_by name w k n) ≡ n
by_many name w k zero = refl
by_many name w k (suc n) = ap suc (by_many name w (k + 1) n)

place_many : (name : Naming) (w : Width) (word bound selections : ℕ) (old : List Port) → length (old ++ (ports_by name w word (suc selections) ++ bounds_by bound selections)) ≡ length old + suc selections + selections
place_many name w word bound selections old =
    omega (
      arith,
      length-append old (ports_by name w word (suc selections) ++ bounds_by bound selections),
      length-append (ports_by name w word (suc selections)) (bounds_by bound selections),
      by_many name w word (suc selections),
      by_many bound_name counter_width bound selections,
    )

abbrev pub interface_of : List Port → ℕ → ℕ → ℕ → Interface
interface_of ports inputs taps bounds = record { ports = ports; inputs = inputs; taps = taps; bounds = bounds }

same_counts : (i j t u b d : ℕ) → i ≡ j → t ≡ u → b ≡ d → ◌≡◌ {A = PortCounts} (record { inputs = i; taps = t; bounds = b }) (record { inputs = j; taps = u; bounds = d })
same_counts i j t u b d e f g = cc

pub inputs_added : (old : Interface) (w : Width) (selections : ℕ) (ports : List Port) → AreFew old → ports ≡ old.ports ++ (ports_by input_name w old.inputs (suc selections) ++ bounds_by old.bounds selections)
    → AddsPorts old (interface_of ports (old.inputs + selections + 1) old.taps (old.bounds + selections)) (ports_in (counts_of old) Inputs w selections) (past (counts_of old) Inputs selections)
inputs_added old w selections ports few is =
    let many : length ports ≡ length old.ports + suc selections + selections = ap length is ∙ place_many input_name w old.inputs old.bounds selections old.ports in
    record { ports_are = is; counts_are = same_counts (old.inputs + selections + 1) (old.inputs + suc selections) old.taps old.taps (old.bounds + selections) (old.bounds + selections) (omega arith) refl refl; few = omega (arith, many, few) }

pub taps_added : (old : Interface) (w : Width) (selections : ℕ) (ports : List Port) → AreFew old → ports ≡ old.ports ++ (ports_by tap_name w old.taps (suc selections) ++ bounds_by old.bounds selections)
    → AddsPorts old (interface_of ports old.inputs (old.taps + selections + 1) (old.bounds + selections)) (ports_in (counts_of old) Taps w selections) (past (counts_of old) Taps selections)
taps_added old w selections ports few is =
    let many : length ports ≡ length old.ports + suc selections + selections = ap length is ∙ place_many tap_name w old.taps old.bounds selections old.ports in
    record { ports_are = is; counts_are = same_counts old.inputs old.inputs (old.taps + selections + 1) (old.taps + suc selections) (old.bounds + selections) (old.bounds + selections) refl (omega arith) refl; few = omega (arith, many, few) }

-- a place of the kind's own pipelines has none
pub none_added : (old : Interface) → AreFew old → AddsPorts old old [] (counts_of old)
none_added old few = record { ports_are = sym (append-nil old.ports); counts_are = refl; few = few }

-- what is said by the inlet is said of the place
pub place_tap : (at : PortCounts) (site : SiteShape) (i : Inlet) (tap : Tap) → site.inlet ≡ i → tap ≡ tap_in at i site.width site.selections → tap ≡ tap_of at site
place_tap at site i tap e is = is ∙ ap (λ j. tap_in at j site.width site.selections) (sym e)

pub place_ports : (old new : Interface) (site : SiteShape) (i : Inlet) → site.inlet ≡ i → AddsPorts old new (ports_in (counts_of old) i site.width site.selections) (past (counts_of old) i site.selections)
    → AddsPorts old new (site_ports (counts_of old) site) (past_site (counts_of old) site)
place_ports old new site i e h = record {
  ports_are = h.ports_are ∙ ap (λ j. old.ports ++ ports_in (counts_of old) j site.width site.selections) (sym e);
  counts_are = h.counts_are ∙ ap (λ j. past (counts_of old) j site.selections) (sym e);
  few = h.few;
}

-- ---- the windows of a mode

abbrev pub guard_at : Operand → Operand → Guard
guard_at first last = Within first last

abbrev pub guard_of : ℕ → Guard
guard_of b = guard_at (Name (bound_name b)) (Name (bound_name (b + 1)))

guards_more : (b n : ℕ) → guards_by b (suc n) ≡ guards_by b n ++ guard_of (b + 2 * n) ∷ []
guards_more b zero = let e : b ≡ b + 2 * 0 = omega arith in ap (λ i. guard_of i ∷ []) e
guards_more b (suc n) =
    let e : b + 2 + 2 * n ≡ b + 2 * suc n = omega arith in
    ap (λ (gs : List Guard). guard_of b ∷ gs) (guards_more (b + 2) n ∙ ap (λ i. guards_by (b + 2) n ++ guard_of i ∷ []) e)

pub guard_put : (bound k : ℕ) (guards next : List Guard) (g : Guard) → guards ≡ guards_by bound k → next ≡ guards ++ g ∷ [] → g ≡ guard_of (bound + 2 * k) → next ≡ guards_by bound (k + 1)
guard_put bound k guards next g h n is =
    n ∙ ap (λ (xs : List Guard). xs ++ g ∷ []) h ∙ ap (λ (x : Guard). guards_by bound k ++ x ∷ []) is ∙ sym (guards_more bound k) ∙ ap (guards_by bound) (one_more k)

windows_more : (b n : ℕ) → window_ports b (suc n) ≡ window_ports b n ++ ports_by bound_name counter_width (b + 2 * n) 2
windows_more b zero = let e : b ≡ b + 2 * 0 = omega arith in ap (λ i. port counter_width (bound_name i) ∷ port counter_width (bound_name (i + 1)) ∷ []) e
windows_more b (suc n) =
    let e : b + 2 + 2 * n ≡ b + 2 * suc n = omega arith in
    ap (λ (ps : List Port). port counter_width (bound_name b) ∷ port counter_width (bound_name (b + 1)) ∷ ps)
    (windows_more (b + 2) n ∙ ap (λ i. window_ports (b + 2) n ++ ports_by bound_name counter_width i 2) e)

pub window_put : (bound k : ℕ) (old ports next : List Port) → ports ≡ old ++ window_ports bound k → next ≡ ports ++ ports_by bound_name counter_width (bound + 2 * k) 2 → next ≡ old ++ window_ports bound (k + 1)
window_put bound k old ports next h n =
    n ∙ ap (λ (ps : List Port). ps ++ ports_by bound_name counter_width (bound + 2 * k) 2) h ∙ append_assoc old (window_ports bound k) (ports_by bound_name counter_width (bound + 2 * k) 2)
    ∙ ap (λ (ps : List Port). old ++ ps) (sym (windows_more bound k)) ∙ ap (λ i. old ++ window_ports bound i) (one_more k)

pub windows_many : (b n : ℕ) → length (window_ports b n) ≡ 2 * n
windows_many b zero = refl
windows_many b (suc n) = let h = windows_many (b + 2) n in omega (arith, h)

-- the places of a mode, and then its windows
whole_added : (old mid : Interface) (mode : ModeShape) (ports : List Port) → AddsPorts old mid (sites_ports (counts_of old) mode.sites) (past_sites (counts_of old) mode.sites)
    → ports ≡ mid.ports ++ window_ports mid.bounds mode.windows
    → AddsPorts old (interface_of ports mid.inputs mid.taps (mid.bounds + 2 * mode.windows)) (tested_ports (counts_of old) mode) (past_tested (counts_of old) mode)
whole_added old mid mode ports h is =
    let at = counts_of old in
    let to = past_sites at mode.sites in
    let bounds : mid.bounds ≡ to.bounds = ap (λ (c : PortCounts). c.bounds) h.counts_are in
    let many : length ports ≡ length mid.ports + 2 * mode.windows = ap length is ∙ length-append mid.ports (window_ports mid.bounds mode.windows) ∙ ap (λ i. length mid.ports + i) (windows_many mid.bounds mode.windows) in
    record {
      ports_are = is ∙ ap (λ b. mid.ports ++ window_ports b mode.windows) bounds ∙ ap (λ (ps : List Port). ps ++ window_ports to.bounds mode.windows) h.ports_are
          ∙ append_assoc old.ports (sites_ports at mode.sites) (window_ports to.bounds mode.windows);
      counts_are = ap (λ (c : PortCounts). let r : PortCounts = record { inputs = c.inputs; taps = c.taps; bounds = c.bounds + 2 * mode.windows } in r) h.counts_are;
      few = omega (arith, many, h.few);
    }

pub tested_added : (old mid : Interface) (mode : ModeShape) (n : ℕ) (ports : List Port) → n ≡ mode.windows → AddsPorts old mid (sites_ports (counts_of old) mode.sites) (past_sites (counts_of old) mode.sites) → ports ≡ mid.ports ++ window_ports mid.bounds n
    → AddsPorts old (interface_of ports mid.inputs mid.taps (mid.bounds + 2 * n)) (tested_ports (counts_of old) mode) (past_tested (counts_of old) mode)
tested_added old mid mode n ports e h is =
    subst (λ i. ports ≡ mid.ports ++ window_ports mid.bounds i → AddsPorts old (interface_of ports mid.inputs mid.taps (mid.bounds + 2 * i)) (tested_ports (counts_of old) mode) (past_tested (counts_of old) mode)) (sym e)
    (whole_added old mid mode ports h) is
