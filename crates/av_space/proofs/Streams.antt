-- A whole listing can be presented: no port has two words in one cycle, and each word fits its port.
use Rattle.std.proofs.Common.{◌≡◌, ℕ, List, Some, sym, ap, subst, ◌∙◌, All, IsTrue}
use Rattle.std.specs.Prelude.{slice_get}
use Rattle.av_base.specs.Words.{IsWord}
use Rattle.av_tree.specs.Trees.{Text}
use Rattle.av_tree.specs.Points.{Point}
use Rattle.av_tree.specs.Values.{Assignment}
use Rattle.av_flat.specs.declared.timed.Timed.{Timed}
use Rattle.av_flat.specs.Trees.{Variable, FlatSystem, view_system}
use Rattle.av_flat.specs.Signatures.{signatures, is_input, is_declared}
use Rattle.av_flat.specs.OneSolution.{AreInputs}
use Rattle.av_flat.proofs.Solving.{some_of}
use Rattle.av_net.specs.declared.netlist.Port.{Port}
use Rattle.av_net.specs.declared.design.Entry.{Entry}
use Rattle.av_net.specs.declared.design.Listing.{Listing}
use Rattle.av_net.specs.declared.design.Design.{Design}
use Rattle.av_net.specs.Presented.{AreApart, HasFittingWord, HaveFittingWords, IsPresentable}
use Rattle.av_net.proofs.Streams.{are_presentable}
use Rattle.av_space.specs.declared.cells.Cells.{Cells}
use Rattle.av_space.specs.Listings.{input_name, InLine, IsInLine}
use Rattle.av_space.specs.Whole.{IsPresented, HasInputWidth, HasWholeListing}
use Rattle.av_space.proofs.ByPlace.{from_map, all_by_place}
use Rattle.av_base.proofs.Lists.{all_at}

module _ (t : Timed) (a : Cells) (d : Design) (h : HasWholeListing t a d) (x : Assignment) (inputs : AreInputs (view_system t.flat) x) where
  abbrev own : FlatSystem
  own = view_system t.flat

  fitting : (i : ℕ) (line : Entry) → slice_get a.listing.ins i ≡ Some line → HasFittingWord d.module.inputs x line
  fitting i line is =
      let array = h.whole.list in
      let b = from_map (λ (l : InLine). l.entry) array.ins.lines i line (sym (ap (λ (es : List Entry). slice_get es i) array.ins.entries) ∙ is) in
      let l = all_at (IsInLine own t.helpers array.placings a.cells a.inputs) array.ins.lines i b.0 array.ins.each b.1 in
      let named : l.input.name ≡ line.variable = sym l.variable_is ∙ ap (λ (e : Entry). e.variable) b.2 in
      let declared : IsTrue (is_declared is_input (signatures own) line.variable line.point) = (all_at (IsPresented own a) a.listing.ins i line h.whole.presented is).0 in
      let w = some_of (x line.variable line.point) ((inputs.declared line.variable line.point).1 declared) in
      let word : IsWord l.input.width w.0 =
      all_at (λ (v : Variable). (z : Point) (n : ℕ) → x v.name z ≡ Some n → IsWord v.width n) own.variables l.fed.place l.input inputs.words l.fed.is_variable_read line.point w.0 (ap (λ (n : Text). x n line.point) named ∙ w.1) in (
        w.0,
        w.1,
        all_by_place (λ (q : Port). line.wire ≡ q.name → IsWord q.width.bits w.0) d.module.inputs
            (λ k q there wire.
            let at_port : q.name ≡ input_name b.0.port = sym wire ∙ sym (ap (λ (e : Entry). e.wire) b.2) ∙ l.wire_is in
            let wide = all_at (λ (p : Port). (n : ℕ) → p.name ≡ input_name n → HasInputWidth own t.helpers array.placings a n p.width.bits) d.module.inputs k q h.inputs.widths there b.0.port at_port in
            let same : q.width.bits ≡ l.input.width = wide l.port b.0.entry.cycle l.point l.input l.map l.is_port l.fed in
            subst (λ (n : ℕ). IsWord n w.0) (sym same) word),
      )

  pub fitting_words : HaveFittingWords d x
  fitting_words = subst (λ (l : Listing). All (HasFittingWord d.module.inputs x) l.ins) (sym h.listing) (all_by_place (HasFittingWord d.module.inputs x) a.listing.ins fitting)

  pub presentable : IsPresentable d x
  presentable = are_presentable d x (subst (λ (l : Listing). AreApart l.ins) (sym h.listing) h.whole.apart) fitting_words
