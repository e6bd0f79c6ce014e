-- The array of a text that takes problem after problem shows the solutions of the text's equations.
use Rattle.std.proofs.Common.{◌≡◌, ℕ, ◌*◌, ◌<◌, ◌≤◌, zero, suc, List, [], ◌∷◌, length, Some, refl, sym, ap, ◌∙◌, subst, arith}
use Rattle.std.specs.Prelude.{All, slice_get}
use Rattle.std.proofs.lemmas.Option.{slice_get_within}
use Rattle.std.proofs.lemmas.List.Elements.{All-head, All-tail, All-weaker, All-map}
use Rattle.av_base.proofs.Lists.{all_at, some_is, there_is, get_mapped}
use Rattle.av_parse.proofs.Parsed.{one_text}
use Rattle.av_tree.specs.Trees.{System}
use Rattle.av_tree.specs.Grammar.{IsProgramText}
use Rattle.av_tree.specs.Counts.{Instance}
use Rattle.av_tree.specs.Values.{Assignment}
use Rattle.av_tree.specs.Solutions as text
use Rattle.av_flat.specs.declared.timed.Timed.{Timed}
use Rattle.av_flat.specs.Trees.{FlatSystem, view_system}
use Rattle.av_flat.specs.OneSolution.{AreInputs, HasOneSolution}
use Rattle.av_flat.specs.Solutions.{IsSolution}
use Rattle.av_names.specs.declared.size.Size.{Size}
use Rattle.av_names.specs.Sizes.{instance_of}
use Rattle.av_net.specs.declared.design.Entry.{Entry}
use Rattle.av_net.specs.declared.design.Design.{Design}
use Rattle.av_net.specs.declared.design.Listing.{Listing}
use Rattle.av_net.specs.Flat.{flat_of}
use Rattle.av_net.specs.Meaning.{Words}
use Rattle.av_net.specs.Shown.{HasListed}
use Rattle.av_space.specs.declared.cells.Cells.{Cells}
use Rattle.av_space.proofs.ByPlace.{all_by_place}
use Rattle.av_build.specs.Later.{later_line, later_lines}
use Rattle.av_compile.specs.Scheduled.{HasOneSolutionEach}
use Rattle.av_compile.specs.Mapped.{IsMapped}
use Rattle.av_compile.proofs.Meant.{inputs}
use Rattle.av_compile.proofs.Promised.{line_declared, line_agrees}
use Rattle.av_stream.specs.declared.building.Streamed.{Streamed}
use Rattle.av_stream.specs.Streams.{ShowsEach}
use Rattle.av_stream.specs.StreamPlans.{AreSolutions, IsStreamOf}
use Rattle.av_commands.specs.Streams.{AreSolutionsOf, StreamsText}

-- ---- the solutions for some inputs

abbrev solutions : (s : FlatSystem) (xs : List Assignment) → All (HasOneSolution s) xs → List Assignment
solutions s [] one = []
solutions s (x ∷ xs) one = (All-head (HasOneSolution s) x xs one).solution ∷ solutions s xs (All-tail (HasOneSolution s) x xs one)

as_many : (s : FlatSystem) (xs : List Assignment) (one : All (HasOneSolution s) xs) → length (solutions s xs one) ≡ length xs
as_many s [] one = refl
as_many s (x ∷ xs) one = ap suc (as_many s xs (All-tail (HasOneSolution s) x xs one))

-- one of them is the solution for the input with its number
record IsTheSolution (s : FlatSystem) (x v : Assignment) : Type 0 where
  one : HasOneSolution s x
  is : one.solution ≡ v

solution_at : (s : FlatSystem) (xs : List Assignment) (one : All (HasOneSolution s) xs) (b : ℕ) (x v : Assignment) → slice_get xs b ≡ Some x → slice_get (solutions s xs one) b ≡ Some v → IsTheSolution s x v
solution_at s [] one b x v at there = absurd cc
solution_at s (y ∷ xs) one zero x v at there =
    let head = All-head (HasOneSolution s) y xs one in
    subst (λ (z : Assignment). IsTheSolution s z v) (some_is y x at) (record { one = head; is = some_is head.solution v there })
solution_at s (y ∷ xs) one (suc b) x v at there = solution_at s xs (All-tail (HasOneSolution s) y xs one) b x v at there

are_solutions : (t : Timed) (xs : List Assignment) (one : All (HasOneSolution (view_system t.flat)) xs) → AreSolutions t xs (solutions (view_system t.flat) xs one)
are_solutions t xs one = record {
  one_each = as_many (view_system t.flat) xs one;
  each = λ b x v at there. let found = solution_at (view_system t.flat) xs one b x v at there in subst (IsSolution (view_system t.flat) x) found.is found.one.solves;
}

-- ---- the text

module _ (bytes : List ℕ) (sizes : List Size) (width c : ℕ) (t : Timed) (a : Cells) (short : length bytes < 4294967295) (wide : 1 ≤ width) (h : IsMapped bytes sizes width c t a)
    (each : HasOneSolutionEach bytes sizes width) (streamed : Streamed) (is : IsStreamOf t a streamed) where
  abbrev own : FlatSystem
  own = view_system t.flat

  abbrev d : Design
  d = flat_of streamed.plan

  abbrev system : System
  system = h.pipelined.serialises.normalises.flattens.system

  abbrev i : Instance
  i = instance_of system sizes width

  program : IsProgramText bytes system
  program = h.pipelined.serialises.normalises.flattens.text

  flat_inputs : (xs : List Assignment) → All (text.AreInputs i) xs → All (AreInputs own) xs
  flat_inputs xs are = All-weaker (text.AreInputs i) (AreInputs own) (λ x of_text. inputs bytes sizes width own short h.pipelined.serialises system program wide x of_text) xs are

  -- lines that have the words of the chained system's solution, some cycles later, have those of the text's
  lines_agree : (x u v : Assignment) → text.AreInputs i x → text.IsSolution i x u → IsTheSolution own x v → (start n : ℕ) (in_cycle : ℕ → Words)
      → All (HasListed n in_cycle v) (later_lines start d.listing.ats) → All (HasListed n in_cycle u) (later_lines start d.listing.ats)
  lines_agree x u v are solves found start n in_cycle all =
      let listing = is.is_plan.carries.listing in
      All-map (HasListed n in_cycle u) (later_line start) d.listing.ats
      (all_by_place (λ (line : Entry). HasListed n in_cycle u (later_line start line)) d.listing.ats
      (λ k line at.
      let declared = line_declared t a h.whole k line (ap (λ (l : Listing). slice_get l.ats k) (sym listing) ∙ at) in
      let has : HasListed n in_cycle v (later_line start line) = all_at (HasListed n in_cycle v) (later_lines start d.listing.ats) k (later_line start line) all (get_mapped (later_line start) d.listing.ats k line at) in
      let own_has : HasListed n in_cycle found.one.solution (later_line start line) = subst (λ (w : Assignment). HasListed n in_cycle w (later_line start line)) (sym found.is) has in
      line_agrees bytes sizes width c t a short h system program each x u are solves found.one n in_cycle (later_line start line) declared own_has))

  shows : (xs us : List Assignment) → All (text.AreInputs i) xs → AreSolutionsOf i xs us → ShowsEach d streamed.period xs us
  shows xs us are solve = λ n stream run clocked presents b u at.
      let told = is.shows xs (flat_inputs xs are) in
      let vs = solutions own xs told.one in
      let all = told.shows vs (are_solutions t xs told.one) n stream run clocked presents in
      let within = slice_get_within us b u at in
      let x = there_is xs b (let many = solve.one_each in omega (arith, within, many)) in
      let v = there_is vs b (let many = solve.one_each in let same = as_many own xs told.one in omega (arith, within, many, same)) in
      lines_agree x.0 u v.0 (all_at (text.AreInputs i) xs b x.0 are x.1) (solve.each b x.0 u x.1 at) (solution_at own xs told.one b x.0 v.0 x.1 v.1) (b * streamed.period) n run.in_cycle (all b v.0 v.1)

  pub streams_text : StreamsText bytes sizes width streamed
  streams_text = record {
    system = system;
    program = program;
    only = λ other said. one_text bytes other system said program;
    one_solution = λ x are. each system program x are;
    shows = shows;
  }
