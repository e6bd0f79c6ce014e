-- The lines of the reads at one port, by the name of the port's wire.
use Rattle.std.proofs.Common.{◌≡◌, suc, ◌+◌, List, [], ◌∷◌, ◌++◌, length, length-append, ap, ◌∙◌, arith}
use Rattle.std.proofs.lemmas.List.{append-nil}
use Rattle.av_affine.specs.declared.map.Map.{Map}
use Rattle.av_tree.specs.Trees.{Text}
use Rattle.av_net.specs.declared.design.Entry.{Entry}
use Rattle.av_space.specs.declared.cells.InPort.{InPort}
use Rattle.av_space.specs.declared.layout.Slot.{Slot}
use Rattle.av_space.specs.declared.ports.Ports.{Ports as Found}
use Rattle.av_space.specs.Listings.{input_name}
use Rattle.av_space.specs.inner.Feeding.{lines_at, with_port}

module _ (port : InPort) (name : Text) (m : Map) (old : Found) (wire : Text) (named : wire ≡ input_name (length old.inputs)) where
  -- the ports, and these lines behind those before
  abbrev with_lines : List InPort → List Entry → Found
  with_lines inputs ins = record { inputs = inputs; ins = ins }

  -- a reference that has no read on the cell
  pub without_port : (own : List Slot) (ins : List Entry) → ins ≡ old.ins ++ lines_at wire name m own → length ins ≡ length old.ins → with_lines old.inputs ins ≡ with_port port name m old own
  without_port [] ins e same = ap (λ (lines : List Entry). with_lines old.inputs lines) (e ∙ append-nil old.ins)
  without_port (t ∷ own) ins e same =
      let longer : length (old.ins ++ lines_at wire name m (t ∷ own)) ≡ length old.ins + suc (length (lines_at wire name m own)) = length-append old.ins (lines_at wire name m (t ∷ own)) in
      let whole = ap (λ (lines : List Entry). length lines) e in
      absurd (omega (arith, longer, whole, same))

  -- and one that has some
  pub port_with_lines : (own : List Slot) (inputs : List InPort) (ins : List Entry) → inputs ≡ old.inputs ++ port ∷ [] → ins ≡ old.ins ++ lines_at wire name m own → (length ins ≡ length old.ins → ⊥)
      → with_lines inputs ins ≡ with_port port name m old own
  port_with_lines [] inputs ins pushed e some = absurd (some (ap (λ (lines : List Entry). length lines) (e ∙ append-nil old.ins)))
  port_with_lines (t ∷ own) inputs ins pushed e some =
      ap (λ (ports : List InPort). with_lines ports ins) pushed
      ∙ ap (λ (lines : List Entry). with_lines (old.inputs ++ port ∷ []) lines) (e ∙ ap (λ (w : Text). old.ins ++ lines_at w name m (t ∷ own)) named)
