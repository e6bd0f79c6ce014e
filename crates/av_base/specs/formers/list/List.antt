-- How a `List` holds its items: one by one, in order, as the vector inside it does. With this a type may
-- lead to itself through a `List`.
use mathlib.Core.Path.{◌≡◌, refl, sym, subst}
use mathlib.Core.List.{List as Items, []}
use mathlib.Core.Former.{Former, this, list, via, children}
use native.Mathlib.Bridge.{le_prop}
use lib.ListN.{length-map}
use base.Stored.{code_map}
use denote.RattleType.{RattleType}
use denote.HoleLaws.{Alike}
use denote.HolePlaces.{Recodes, struct_places, laid}
use denote.Hole.Carrier.{listed, list-listed}
use denote.Hole.Fix.{over}
use denote.Param.Weighed.{Weighed, w_list}
use denote.Model.Placed.{view_places}
use Rattle.std.specs.Prelude.{ℕ, ◌≤◌}
use Rattle.std.specs.formers.vec.Vec as vec
use Rattle.std.specs.declared.alloc.Global.{Global}
use Rattle.std.specs.contracts.alloc.Global as heap
use Rattle.std.specs.contracts.impls.GlobalAllocator.TheImpl.{ghosts}
use Rattle.av_base.specs.declared.list.List.TheInside.{Inside}
use Rattle.av_base.specs.declared.list.List.TheView.{view, invariant}
use Rattle.av_base.specs.contracts.list.List as C
use Rattle.av_base.specs.contracts.list.List.TheInside as I

abbrev pub the_former : Former {0} → Former {0}
the_former item = list item

abbrev pub the_weighed : {item : Former {0}} → Weighed item → Weighed (the_former item)
the_weighed weight = w_list weight

pub the_empty : Items ⊥
the_empty = []

abbrev pub the_items : (X : Type 0) → Items X → Items X
the_items X items = items

pub the_items_listed : (X : Type 0) (items : Items X) → listed _ (children (the_former this) X items) ≡ the_items X items
the_items_listed X items = list-listed X items

-- the one field
abbrev field : Former {0}
field = via (vec.the_former this Global) Inside (λ X inside. inside.items) (λ X vector. record { items = vector }) (λ X inside. refl) (λ X vector. refl)

abbrev few : ℕ → Type 0
few count = count ≤ 1073741824

module _ (R S : RattleType) (change : R.Denot → S.Denot) where
  pub the_places : Alike R S change → Alike (C.the_row R) (C.the_row S) ((the_former this).map R.Denot S.Denot change)
  the_places alike = view_places field (list this) view (λ X Y k inside. refl) (λ X inside. refl) R.Denot S.Denot change (C.the_row R).coded (C.the_row S).coded
      (invariant R.Denot) (invariant S.Denot) (λ inside. le_prop) (λ inside. le_prop)
      (λ inside e. subst few (sym (length-map _ _)) e) (λ inside e. subst few (length-map _ _) e)
      (over (I.the_row R)) (over (I.the_row S))
      (struct_places (I.the_type R) (I.the_type S) (vec.mapped change, tt) _ (λ inside. refl) refl (laid _ _ _ (vec.the_places heap.the_row ghosts R S change alike), tt))

  pub the_codes_placed : Recodes R S change → Recodes (C.the_row R) (C.the_row S) ((the_former this).map R.Denot S.Denot change)
  the_codes_placed recodes items = sym (code_map R.coded.code S.coded.code change (λ x. sym (recodes x)) items)
