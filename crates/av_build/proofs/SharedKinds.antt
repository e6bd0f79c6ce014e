-- In the plan of an array each cell has an instance of its own, and cells of one signature have instances of one kind.
use Rattle.std.proofs.Common.{◌≡◌, ℕ, ◌<◌, length, sym, arith, ◌∙◌, ap, Some}
use Rattle.std.specs.Prelude.{All, Contains, slice_get}
use Rattle.av_base.proofs.Lists.{some_is, there_is, place_in}
use Rattle.av_base.proofs.Among.{among_at}
use Rattle.av_net.specs.declared.design.Listing.{Listing}
use Rattle.av_net.specs.declared.plan.Instance.{Instance}
use Rattle.av_space.proofs.ByPlace.{all_by_place}
use Rattle.av_space.proofs.Elements.{in_range}
use Rattle.av_kinds.specs.declared.counter.Counter.{Counter}
use Rattle.av_kinds.specs.declared.planning.Modules.{Modules}
use Rattle.av_kinds.specs.Names.{instance_name}
use Rattle.av_kinds.specs.Programs.{Program, IsProgram}
use Rattle.av_kinds.specs.Netlists.{plan_of, AreNetlistsOf}
use Rattle.av_kinds.specs.Forms.{HaveOwnInstances}
use Rattle.av_history.specs.Performing.{Array}
use Rattle.av_build.specs.Shared.{HaveOneSignature, IsShared}
use Rattle.av_build.specs.inner.Built.{AreSorted}

module _ (a : Array) (counter : Counter) (program : Program) (is : IsProgram program) (one_each : length program.cells ≡ length a.cells) (sorted : AreSorted a program.kinds) (m : Modules) (netlists : AreNetlistsOf counter program m)
    (instances : HaveOwnInstances program m) where
  -- the instance of a cell, and its kind
  record HasOwn (p : ℕ) : Type 0 where
    kind : ℕ
    is_kind : slice_get program.kinds p ≡ Some kind
    instance : Instance
    is_there : slice_get m.instances p ≡ Some instance
    name : instance.name ≡ instance_name p
    kind_is : instance.kind ≡ kind

  own_of : (p : ℕ) → p < length a.cells → HasOwn p
  own_of p lt =
      let many = is.kinds in
      let own = there_is program.cells p (omega (arith, lt, one_each)) in
      let kind = there_is program.kinds p (omega (arith, lt, one_each, many)) in
      let h = netlists.instances p kind.0 own.0 own.1 kind.1 in
      record { kind = kind.0; is_kind = kind.1; instance = h.instance; is_there = h.is_there; name = h.name; kind_is = h.kind_is }

  some : (p : ℕ) → p < length a.cells → (i : Instance) × Contains m.instances i × (i.name ≡ instance_name p)
  some p lt = let h = own_of p lt in (h.instance, among_at m.instances p h.instance h.is_there, h.name)

  only : All (λ (i : Instance). (p : ℕ) × (p < length a.cells) × (i.name ≡ instance_name p)) m.instances
  only = all_by_place (λ (i : Instance). (p : ℕ) × (p < length a.cells) × (i.name ≡ instance_name p)) m.instances (λ p i at.
      let many = netlists.one_each in
      let low : p < length a.cells = (let lt = in_range m.instances p i at in omega (arith, lt, many, one_each)) in
      let h = own_of p low in
      (p, low, ap (λ (x : Instance). x.name) (some_is i h.instance (sym at ∙ h.is_there)) ∙ h.name))

  -- the kind of the instance of this name is that of the cell
  kind_of : (p : ℕ) (i : Instance) → Contains m.instances i → i.name ≡ instance_name p → (h : HasOwn p) → i.kind ≡ h.kind
  kind_of p i among named h =
      let at = place_in m.instances i among in
      let same : at.0 ≡ p = instances.once at.0 p i h.instance at.1 h.is_there (named ∙ sym h.name) in
      ap (λ (x : Instance). x.kind) (some_is i h.instance (sym at.1 ∙ ap (slice_get m.instances) same ∙ h.is_there)) ∙ h.kind_is

  alike : (p q : ℕ) (i j : Instance) → p < length a.cells → q < length a.cells → Contains m.instances i → i.name ≡ instance_name p → Contains m.instances j → j.name ≡ instance_name q
      → HaveOneSignature a.system a.helpers a.times a.cells a.links p q → i.kind ≡ j.kind
  alike p q i j low few i_among i_named j_among j_named signature =
      let g = own_of p low in
      let h = own_of q few in
      let x = there_is a.cells p low in
      let y = there_is a.cells q few in
      let same : g.kind ≡ h.kind = (sorted p q g.kind h.kind x.0 y.0 x.1 y.1 g.is_kind h.is_kind).1 (signature.node x.0 y.0 x.1 y.1, λ n piece. signature.pieces n piece) in
      kind_of p i i_among i_named g ∙ same ∙ sym (kind_of q j j_among j_named h)

  pub shared : (l : Listing) → IsShared a.system a.helpers a.times a.cells a.links (plan_of l m)
  shared l = record {
    some = some;
    once = instances.once;
    only = only;
    alone = λ p lt name wire. instances.alone p name (omega (arith, lt, one_each)) wire;
    kinds = alike;
  }
