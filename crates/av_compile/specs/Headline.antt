-- What is promised of the plan that is made of a text: the equations have one solution for every input, and the plan's flat design shows it
-- (Mauras 1989 on equations and solutions; the listing and the array are this project's).
use Rattle.std.specs.Prelude.{◌≡◌, ℕ, List}
use Rattle.av_tree.specs.Trees.{System, Text}
use Rattle.av_tree.specs.Grammar.{IsProgramText}
use Rattle.av_tree.specs.Points.{Point}
use Rattle.av_tree.specs.Domains.{IsDeclared, computed}
use Rattle.av_tree.specs.Counts.{Instance}
use Rattle.av_tree.specs.Values.{Assignment}
use Rattle.av_tree.specs.Solutions.{AreInputs, IsSolution, HasOneSolution}
use Rattle.av_flat.specs.declared.timed.Timed.{Timed}
use Rattle.av_flat.specs.Trees.{FlatSystem, view_system}
use Rattle.av_names.specs.declared.size.Size.{Size}
use Rattle.av_names.specs.Sizes.{instance_of}
use Rattle.av_names.specs.Flattened.{flat_of}
use Rattle.av_normal.specs.NormalForm.{IsNormalForm}
use Rattle.av_serial.specs.SerialForm.{IsSerialForm}
use Rattle.av_sched.specs.First.{IsFirstSchedule}
use Rattle.av_pipe.specs.Pipelines.{pipelines}
use Rattle.av_net.specs.declared.design.Design.{Design}
use Rattle.av_net.specs.declared.plan.Plan.{Plan}
use Rattle.av_net.specs.Flat.{flat_of as design_of}
use Rattle.av_net.specs.Presented.{IsPresentable}
use Rattle.av_net.specs.Shown.{Shows}
use Rattle.av_space.specs.declared.cells.Cells.{Cells}
use Rattle.av_space.specs.Whole.{IsListedOnce}
use Rattle.av_build.specs.ArrayPlans.{IsPlanOf}

-- a design that computes a system with its sizes
pub record Computes (i : Instance) (d : Design) : Type 0 where
  -- the equations have one solution for every input
  pub one_solution : (x : Assignment) → AreInputs i x → HasOneSolution i x
  -- every input can be presented
  pub presentable : (x : Assignment) → AreInputs i x → IsPresentable d x
  -- every declared point of an output or a local is listed once
  pub listed : (variable : Text) (z : Point) → IsDeclared i.sizes (computed i.system) variable z → IsListedOnce d.listing.ats variable z
  -- in every run, from any words of the registers, under every stream that presents the input, the listed wires have the solution's
  -- words in the listed cycles
  pub shows : (x u : Assignment) → AreInputs i x → IsSolution i x u → Shows d x u

-- the bytes are a program text with this tree and no other; the timed system is its flat system in normal form, with reductions as
-- chains, by the first schedule in the box, with a helper for each reference that this moves; and the plan is one of the array of
-- that, whose flat design computes the system
pub record Headline (bytes : List ℕ) (words : List Size) (width c : ℕ) (t : Timed) (a : Cells) (p : Plan) : Type 0 where
  pub system : System
  pub program : IsProgramText bytes system
  pub only : (other : System) → IsProgramText bytes other → other ≡ system
  pub normal : FlatSystem
  pub form : IsNormalForm (flat_of (instance_of system words width)) normal
  pub chains : IsSerialForm normal (view_system t.flat)
  pub first : IsFirstSchedule (view_system t.flat) c t.times
  pub helpers : t.helpers ≡ pipelines (view_system t.flat) t.times
  pub plan : IsPlanOf t a p
  pub computes : Computes (instance_of system words width) (design_of p)
