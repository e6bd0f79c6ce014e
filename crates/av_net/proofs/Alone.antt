-- A design is a plan without kinds and instances.
use Rattle.std.proofs.Common.{◌≡◌, List, [], ◌∷◌, ◌++◌, refl, sym, ◌∙◌, subst, arith}
use Rattle.std.proofs.lemmas.List.{append-nil}
use Rattle.std.proofs.lemmas.List.Elements.{All-nil}
use Rattle.av_net.specs.declared.design.Listing.{Listing}
use Rattle.av_net.specs.declared.netlist.Module.{Module}
use Rattle.av_net.specs.declared.plan.CellKind.{CellKind}
use Rattle.av_net.specs.declared.plan.Plan.{Plan}
use Rattle.av_net.specs.Names.{clk, rst, given_names, all_names, AreDistinct}
use Rattle.av_net.specs.Sound.{IsInOrder, IsSound}
use Rattle.av_net.specs.Flat.{flat_module}
use Rattle.av_net.specs.Plans.{IsSoundTop, HasSoundModules}
use Rattle.av_base.proofs.Among.{none_among}
use Rattle.av_net.proofs.Distinct.{cons_distinct}

abbrev pub alone : Listing → Module → Plan
alone listing m = record { listing = listing; kinds = []; top = m; instances = [] }

-- the rules for a module are those for a top without instances
pub alone_top : (kinds : List CellKind) (m : Module) → IsSound m → IsSoundTop kinds m []
alone_top kinds m sound = record {
  declared_once = subst (λ names. AreDistinct (clk ∷ rst ∷ names)) (sym (append-nil (all_names m ++ []) ∙ append-nil (all_names m))) sound.declared_once;
  driven_once = sound.driven_once;
  links_wires = All-nil _;
  drives_wires = sound.drives_wires;
  steps_registers = sound.steps_registers;
  instances_read = All-nil _;
  drives_read = sound.drives_read;
  steps_read = sound.steps_read;
  wires_driven = sound.wires_driven;
  registers_stepped = sound.registers_stepped;
  instances_in_order = tt;
  in_order = subst (λ names. IsInOrder names m.drives) (sym (append-nil (given_names m))) sound.in_order;
  placed = All-nil _;
  drive_widths = sound.drive_widths;
  step_widths = sound.step_widths;
  instances_fit = All-nil _;
  drives_fit = sound.drives_fit;
  steps_fit = sound.steps_fit;
  resets_fit = sound.resets_fit;
  orders = sound.orders;
}

pub alone_sound : (listing : Listing) (m : Module) → IsSound m → HasSoundModules (alone listing m)
alone_sound listing m sound = record {
  named_once = cons_distinct m.name [] (none_among m.name) (λ i j d lt lj same. absurd (omega arith));
  kinds = All-nil _;
  top = alone_top [] m sound;
}

-- and its flat module is itself
pub alone_flat : (listing : Listing) (m : Module) → flat_module (alone listing m) ≡ m
alone_flat listing m = let e = append-nil m.wires in rw e refl
