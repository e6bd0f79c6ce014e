-- How the answer of `demo` follows from what its steps did.
use Rattle.std.proofs.Common.{◌≡◌, ℕ, ◌<◌, ◌≤◌, Bool, true, false, List, [], ◌∷◌, length, pos, Option, Some, None, refl, sym, ap, ◌∙◌, subst, arith, IsTrue, true≢false}
use Rattle.std.specs.Prelude.{◌↔◌, if◌then◌else◌, codes, All, IsSome, bytes_eq, unwrap_or}
use Rattle.std.specs.List.{AllByRecursion}
use Rattle.std.proofs.lemmas.List.Elements.{All-weaker}
use Rattle.av_base.specs.Words.{IsWord, residue}
use Rattle.av_tree.specs.Trees.{Text}
use Rattle.av_tree.specs.Points.{Point}
use Rattle.av_tree.specs.Values.{Assignment}
use Rattle.av_tree.specs.declared.system.Declaration.{Declaration}
use Rattle.av_tree.specs.Domains.{is_declared, variables}
use Rattle.av_tree.specs.Widths.{own_width, declared_width, width_of}
use Rattle.av_flat.specs.Trees.{view_system}
use Rattle.av_flat.specs.OneSolution.{AreInputs}
use Rattle.av_tree.specs.Counts.{Instance}
use Rattle.av_tree.specs.Solutions as tree
use Rattle.av_flat.specs.declared.timed.Timed.{Timed}
use Rattle.av_names.specs.Sizes.{instance_of}
use Rattle.av_net.specs.declared.design.Entry.{Entry}
use Rattle.av_net.specs.declared.design.Design.{Design}
use Rattle.av_net.specs.declared.plan.Plan.{Plan}
use Rattle.av_net.specs.Flat.{flat_of}
use Rattle.av_net.specs.Presented.{HaveFittingWords}
use Rattle.av_space.specs.declared.cells.Cells.{Cells}
use Rattle.av_compile.specs.Mapped.{IsMapped}
use Rattle.av_compile.specs.Headline.{Headline}
use Rattle.av_commands.specs.Shown.{AreShown}
use Rattle.av_commands.specs.Demos.{product_text, product_sizes, AreEntries, GivesDemo}
use Rattle.av_commands.specs.inner.DemoData.{entry, entries, IsEntered, IsSummed}
use Rattle.av_commands.proofs.Fed.{shows_words}
use Rattle.av_parse.proofs.Unwidened.{HasRunWidth, run_widths, no_w}
use Rattle.av_compile.proofs.Meant.{inputs}
use Rattle.av_commands.proofs.Reporting.{clockable, presented_inputs}
use Rattle.std.proofs.Math.Nat.{mod-lt, one-le-pow}
use Rattle.av_data.proofs.Lined.{one_some}

-- a residue is a word
residue_fits : (bits a : ℕ) → IsWord bits (residue bits a)
residue_fits bits a = mod-lt a (one-le-pow bits 2 (omega arith))

-- ---- the entries as words of the text's inputs

-- the entries, at declared points of inputs alone
abbrev pub matrices : Instance → ℕ → Assignment
matrices i bits name z = if is_declared i.sizes i.system.inputs name z then entries bits name z else None

-- where no declaration has a width, all variables have that of the run
run_width : (run : ℕ) (ds : List Declaration) (name : Text) → AllByRecursion HasRunWidth ds → declared_width run ds name ≡ run
run_width run [] name h = refl
run_width run (d ∷ ds) name h = go (bytes_eq d.name name) (run_width run ds name h.1)
  where
    go : (b : Bool) → declared_width run ds name ≡ run → (if b then own_width run d else declared_width run ds name) ≡ run
    go true others = ap (λ (o : Option ℕ). unwrap_or o run) h.0
    go false others = others

matrices_are : (i : Instance) (bits : ℕ) → i.width ≡ bits → AllByRecursion HasRunWidth (variables i.system) → tree.AreInputs i (matrices i bits)
matrices_are i bits width same = record {
  declared = λ name z. both (is_declared i.sizes i.system.inputs name z) (entries bits name z) refl;
  words = λ name z w e. by (is_declared i.sizes i.system.inputs name z) name z w e;
}
  where
    both : (b : Bool) (o : Option ℕ) → IsSome o → IsSome (if b then o else None) ↔ IsTrue b
    both true o some = (λ h. refl, λ h. some)
    both false o some = (λ h. absurd (true≢false (sym h)), λ h. absurd (true≢false (sym h)))

    by : (b : Bool) (name : Text) (z : Point) (w : ℕ) → (if b then entries bits name z else None) ≡ Some w → IsWord (width_of i name) w
    by true name z w e = subst (λ n. IsWord n w) (sym (run_width i.width (variables i.system) name same ∙ width)) (subst (IsWord bits) (one_some e) (residue_fits bits (entry name z)))
    by false name z w e = absurd cc

matrices_entries : (i : Instance) (bits : ℕ) → AreEntries bits (matrices i bits)
matrices_entries i bits = record {
  left = λ j k w e. sym (word (is_declared i.sizes i.system.inputs (codes "A") (pos j ∷ pos k ∷ [])) (entry (codes "A") (pos j ∷ pos k ∷ [])) w e);
  right = λ k j w e. sym (word (is_declared i.sizes i.system.inputs (codes "B") (pos k ∷ pos j ∷ [])) (entry (codes "B") (pos k ∷ pos j ∷ [])) w e);
}
  where
    word : (b : Bool) (n w : ℕ) → (if b then Some (residue bits n) else None) ≡ Some w → residue bits n ≡ w
    word true n w e = one_some e
    word false n w e = absurd cc

-- ---- the answer

pub product_short : length product_text < 4294967295
product_short = omega arith

module _ (k bits box : ℕ) (t : Timed) (a : Cells) (plan : Plan) (h : Headline product_text (product_sizes k) bits box t a plan) (m : IsMapped product_text (product_sizes k) bits box t a)
    (short : length product_text < 4294967295) (wide : 1 ≤ bits) where
  abbrev own : Instance
  own = instance_of h.system (product_sizes k) bits

  abbrev d : Design
  d = flat_of plan

  same_on : All (λ line. matrices own bits line.variable line.point ≡ entries bits line.variable line.point) d.listing.ins
  same_on =
      All-weaker (λ (l : Entry). IsTrue (is_declared own.sizes own.system.inputs l.variable l.point)) (λ (l : Entry). matrices own bits l.variable l.point ≡ entries bits l.variable l.point)
      (λ l declared. ap (λ (b : Bool). if b then entries bits l.variable l.point else None) declared) d.listing.ins (presented_inputs product_text (product_sizes k) bits box t a plan short wide h m)

  are : tree.AreInputs own (matrices own bits)
  are = matrices_are own bits refl (run_widths product_text h.system h.program (no_w product_text refl))

  flat_are : AreInputs (view_system t.flat) (matrices own bits)
  flat_are = inputs product_text (product_sizes k) bits (view_system t.flat) short m.pipelined.serialises h.system h.program wide (matrices own bits) are

  fits : HaveFittingWords d (matrices own bits)
  fits = (clockable product_text (product_sizes k) bits box t a plan h m).fitting (matrices own bits) flat_are

  -- the design can be clocked on the entries
  pub entered : IsEntered d bits
  entered =
      let ready = clockable product_text (product_sizes k) bits box t a plan h m in
      record {
        sound = ready.sound;
        apart = ready.apart;
        fitting = λ j e lt.
            let (w, has, each) = fits j e lt in
            (w, sym (same_on j e lt) ∙ has, each);
      }

  shown_too : (words : List ℕ) → AreShown d (entries bits) words → AreShown d (matrices own bits) words
  shown_too words shown =
      let fed = shown.clocked.fed in
      record {
        cycles = shown.cycles;
        run = shown.run;
        clocked = record {
          stream = shown.clocked.stream;
          fed = record { on_reset = fed.on_reset; listed = λ j e lt. fed.listed j e lt ∙ sym (same_on j e lt); idle = fed.idle };
          powered = shown.clocked.powered;
          clocked = shown.clocked.clocked;
        };
        reached = shown.reached;
        words_are = shown.words_are;
      }

  pub demo_given : (out : List ℕ) → IsSummed a d bits out → GivesDemo k bits box out
  demo_given out summed =
      let x = matrices own bits in
      let one = h.computes.one_solution x are in
      record {
        timed = t;
        cells = a;
        plan = plan;
        mapped = m;
        computes = h;
        inputs = x;
        are_inputs = are;
        entries = matrices_entries own bits;
        solution = one.solution;
        solves = one.solves;
        words = summed.words;
        solved = shows_words d x one.solution summed.words fits (h.computes.shows x one.solution are one.solves) (shown_too summed.words summed.shown);
        lines = summed.lines;
      }
