-- The tests of the rows of faults, each as the fact that it decides.
use Rattle.std.proofs.Common.{◌≡◌, ℕ, ◌+◌, ◌-◌, Bool, true, false, cond, not, List, [], ◌∷◌, ◌++◌, Option, Some, None, refl, sym, subst, ◌∙◌, inl, inr, true≢false}
use Rattle.std.specs.Prelude.{◌&&◌, Contains, find, nat_eq, nat_lt, option_map}
use Rattle.std.specs.List.{list_any, AllByRecursion}
use Rattle.std.proofs.lemmas.Bool.{eqb-true, ltb-true}
use Rattle.std.proofs.lemmas.List.Elements.{All-from_recursion, All-contains, Contains-append_cases}
use Rattle.av_base.specs.declared.width.Width.{Width}
use Rattle.av_base.specs.Words.{IsWord}
use Rattle.av_base.proofs.Among.{first_among, more_among}
use Rattle.av_base.proofs.Tables.{is_found, is_there}
use Rattle.av_base.proofs.Truths.{both, neither, by_test}
use Rattle.av_net.specs.declared.operation.Operand.{Operand}
use Rattle.av_net.specs.declared.operation.Operand.TheVariants as operand
use Rattle.av_net.specs.declared.operation.Operation.{Operation}
use Rattle.av_net.specs.declared.operation.Operation.TheVariants as operation
use Rattle.av_net.specs.declared.netlist.Drive.{Drive}
use Rattle.av_net.specs.declared.netlist.Step.{Step}
use Rattle.av_net.specs.declared.plan.CellKind.{CellKind}
use Rattle.av_net.specs.Meaning.{Widths, operand_width, EachOperand}
use Rattle.av_net.specs.Names.{targets_of, registers_of, IsAmong}
use Rattle.av_net.specs.Sound.{symbol_width, SuitsWidth, IsFitting, ComparesByOrder}
use Rattle.av_net.specs.Lexemes.{Token}
use Rattle.av_net.specs.Grammar.{PortLink, Item, drive, widening, step, instance, IsOperand, named, constant, IsLiteralAt, literal, IsOperation, plain, binary, signed, choice, selection, IsNextLink, IsItem, assignment, wide_assignment, at_an_edge, instantiation, IsKindItem, kind_assignment, kind_wide_assignment, AreMany, no_more, one_more}
use Rattle.av_net.specs.Rows.{drives_of, steps_of, operands_of, is_in, first_from, first_some, wrong_operand, is_early, suits_width, suits}

-- ---- lists

-- what no item answers
pub each_none : {X Y : Type 0} (f : X → Option Y) (xs : List X) → first_some f xs ≡ None → AllByRecursion (λ x. f x ≡ None) xs
each_none f [] e = tt
each_none f (x ∷ xs) e = go (f x) refl e (each_none f xs)
  where
    go : (o : Option _) → f x ≡ o → first_from o (first_some f xs) ≡ None → (first_some f xs ≡ None → AllByRecursion (λ y. f y ≡ None) xs) → (f x ≡ None) × AllByRecursion (λ y. f y ≡ None) xs
    go None g e ih = (g, ih e)
    go (Some y) g e ih = absurd cc

-- what passes no test
pub each_fails : {X : Type 0} (p : X → Bool) (xs : List X) → find (λ x. not (p x)) xs ≡ None → AllByRecursion (λ x. p x ≡ true) xs
each_fails p [] e = tt
each_fails p (x ∷ xs) e = go (p x) refl e (each_fails p xs)
  where
    go : (t : Bool) → p x ≡ t → cond (not t) (Some x) (find (λ y. not (p y)) xs) ≡ None → (find (λ y. not (p y)) xs ≡ None → AllByRecursion (λ y. p y ≡ true) xs) → (p x ≡ true) × AllByRecursion (λ y. p y ≡ true) xs
    go true g e ih = (g, ih e)
    go false g e ih = absurd cc

-- a fact on each operand of a list is one on each operand of the operation
pub each_operand : (P : Operand → Type 0) (o : Operation) → AllByRecursion P (operands_of o) → EachOperand P o
each_operand P (operation.Plain a) h = h.0
each_operand P (operation.Binary a s b) h = (h.0, h.1.0)
each_operand P (operation.Signed a s b) h = (h.0, h.1.0)
each_operand P (operation.Choose a b c) h = (h.0, h.1.0, h.1.1.0)
each_operand P (operation.Part name high low) h = h.0
each_operand P (operation.Widen name by) h = h.0

pub all_as : {X : Type 0} {P Q : X → Type 0} (xs : List X) → ((x : X) → P x → Q x) → AllByRecursion P xs → AllByRecursion Q xs
all_as [] f h = tt
all_as (x ∷ xs) f h = (f x h.0, all_as xs f h.1)

-- what each element is
pub each_by : {X : Type 0} (P : X → Type 0) (xs : List X) → ((x : X) → Contains xs x → P x) → AllByRecursion P xs
each_by P [] h = tt
each_by P (x ∷ xs) h = (h x (first_among x xs), each_by P xs (λ y at. h y (more_among x y xs at)))

pub each_at : {X : Type 0} (P : X → Type 0) (xs : List X) (x : X) → AllByRecursion P xs → Contains xs x → P x
each_at P xs x h at = All-contains P xs x (All-from_recursion P xs h) at

-- what fails at none, at each
pub none_of : {X : Type 0} (p : X → Bool) (xs : List X) → list_any p xs ≡ false → AllByRecursion (λ x. p x ≡ false) xs
none_of p [] e = tt
none_of p (x ∷ xs) e = let z = neither (p x) (list_any p xs) e in (z.0, none_of p xs z.1)

pub none_both : {A : Type 0} (a b : Option A) → first_from a b ≡ None → (a ≡ None) × (b ≡ None)
none_both None b e = (refl, e)
none_both (Some x) b e = absurd cc

pub none_found : {A B : Type 0} (f : A → B) (o : Option A) → option_map f o ≡ None → o ≡ None
none_found f None e = refl
none_found f (Some x) e = absurd cc

-- ---- items

-- a fact on each item is one on each drive, and on each step
pub drives_all : (P : Item → Type 0) (Q : Drive → Type 0) (items : List Item) → ((d : Drive) → P (drive d) → Q d) → ((bit : ℕ) (d : Drive) → P (widening bit d) → Q d)
    → AllByRecursion P items → AllByRecursion Q (drives_of items)
drives_all P Q [] f g h = tt
drives_all P Q (drive d ∷ items) f g h = (f d h.0, drives_all P Q items f g h.1)
drives_all P Q (widening bit d ∷ items) f g h = (g bit d h.0, drives_all P Q items f g h.1)
drives_all P Q (step width s ∷ items) f g h = drives_all P Q items f g h.1
drives_all P Q (instance x ∷ items) f g h = drives_all P Q items f g h.1

pub steps_all : (P : Item → Type 0) (Q : Step → Type 0) (items : List Item) → ((width : Width) (s : Step) → P (step width s) → Q s) → AllByRecursion P items → AllByRecursion Q (steps_of items)
steps_all P Q [] f h = tt
steps_all P Q (drive d ∷ items) f h = steps_all P Q items f h.1
steps_all P Q (widening bit d ∷ items) f h = steps_all P Q items f h.1
steps_all P Q (step width s ∷ items) f h = (f width s h.0, steps_all P Q items f h.1)
steps_all P Q (instance x ∷ items) f h = steps_all P Q items f h.1

pub targets_all : (P : List ℕ → Type 0) (drives : List Drive) → AllByRecursion (λ d. P d.target) drives → AllByRecursion P (targets_of drives)
targets_all P [] h = tt
targets_all P (d ∷ drives) h = (h.0, targets_all P drives h.1)

pub registers_all : (P : List ℕ → Type 0) (steps : List Step) → AllByRecursion (λ s. P s.register) steps → AllByRecursion P (registers_of steps)
registers_all P [] h = tt
registers_all P (s ∷ steps) h = (h.0, registers_all P steps h.1)

-- ---- names that stand where they may

pub right_operand : (names : List (List ℕ)) (o : Operand) → wrong_operand (is_in names) o ≡ None → IsAmong names o
right_operand names (operand.Name name) e = go (is_in names name) refl e
  where
    go : (t : Bool) → is_in names name ≡ t → cond t None (Some name) ≡ None → Contains names name
    go true g e = is_there name names g
    go false g e = absurd cc
right_operand names (operand.Literal width value) e = tt

-- ---- order

module _ (all wires given : List (List ℕ)) where
  -- what is known where earlier items drive these names
  pub record Known (known earlier : List (List ℕ)) : Type 0 where
    pub first : (n : List ℕ) → Contains given n → Contains known n
    pub driven : (n : List ℕ) → Contains all n → (is_in wires n ≡ true → is_in earlier n ≡ true) → Contains known n

  pub known_operand : (known earlier : List (List ℕ)) (o : Operand) → Known known earlier → IsAmong all o → is_early (is_in wires) (is_in earlier) o ≡ false → IsAmong known o
  known_operand known earlier (operand.Literal width value) k a e = tt
  known_operand known earlier (operand.Name n) k a e = k.driven n a (λ w. go (is_in earlier n) (let z : (is_in wires n && not (is_in earlier n)) ≡ false = e in rw w at z))
    where
      go : (t : Bool) → not t ≡ false → t ≡ true
      go true h = refl
      go false h = absurd (true≢false h)

  pub known_operation : (known earlier : List (List ℕ)) (o : Operation) → Known known earlier → EachOperand (IsAmong all) o → AllByRecursion (λ x. is_early (is_in wires) (is_in earlier) x ≡ false) (operands_of o) → EachOperand (IsAmong known) o
  known_operation known earlier (operation.Plain a) k h e = known_operand known earlier a k h e.0
  known_operation known earlier (operation.Binary a s b) k h e = (known_operand known earlier a k h.0 e.0, known_operand known earlier b k h.1 e.1.0)
  known_operation known earlier (operation.Signed a s b) k h e = (known_operand known earlier a k h.0 e.0, known_operand known earlier b k h.1 e.1.0)
  known_operation known earlier (operation.Choose a b c) k h e = (known_operand known earlier a k h.0 e.0, known_operand known earlier b k h.1 e.1.0, known_operand known earlier c k h.2 e.1.1.0)
  known_operation known earlier (operation.Part name high low) k h e = known_operand known earlier (operand.Name name) k h e.0
  known_operation known earlier (operation.Widen name by) k h e = known_operand known earlier (operand.Name name) k h e.0

  -- an item more, which drives these names
  pub known_more : (known known' earlier more : List (List ℕ)) → Known known earlier → ((n : List ℕ) → Contains known n → Contains known' n) → ((n : List ℕ) → Contains more n → Contains known' n) → Known known' (earlier ++ more)
  known_more known known' earlier more k wider here = record {
    first = λ n g. wider n (k.first n g);
    driven = λ n a h. by_test (is_in more n)
        (λ now. here n (is_there n more now))
        (λ other. wider n (k.driven n a (λ w. elim (Contains-append_cases earlier more n (is_there n (earlier ++ more) (h w))) [
          | inl before ↦ is_found n earlier before
          | inr now ↦ absurd (true≢false (sym (is_found n more now) ∙ other))
        ])));
  }

-- ---- widths

pub suits_so : (widths : Widths) (w : ℕ) (o : Operation) → suits_width widths w o ≡ true → SuitsWidth widths w o
suits_so widths w (operation.Plain a) h = eqb-true (operand_width widths a) w h
suits_so widths w (operation.Binary a s b) h =
    let z = both (nat_eq (operand_width widths a) (operand_width widths b)) (nat_eq (symbol_width s (operand_width widths a)) w) h in
    (eqb-true _ _ z.0, eqb-true _ _ z.1)
suits_so widths w (operation.Signed a s b) h =
    let z = both (nat_eq (operand_width widths a) (operand_width widths b)) (nat_eq w 1) h in
    (eqb-true _ _ z.0, eqb-true _ _ z.1)
suits_so widths w (operation.Choose a b c) h =
    let z = both (nat_eq (operand_width widths a) 1) (nat_eq (operand_width widths b) w && nat_eq (operand_width widths c) w) h in
    let y = both (nat_eq (operand_width widths b) w) (nat_eq (operand_width widths c) w) z.1 in
    (eqb-true _ _ z.0, eqb-true _ _ y.0, eqb-true _ _ y.1)
suits_so widths w (operation.Part name high low) h =
    let z = both (nat_lt high (widths name)) (nat_eq (high + 1 - low) w) h in
    (ltb-true high (widths name) z.0, eqb-true _ _ z.1)
suits_so widths w (operation.Widen name by) h = eqb-true (widths name + by) w h

-- ---- what the grammar says of literals and orders

fit_operand : {ts rest : List Token} {o : Operand} → IsOperand ts rest o → IsFitting o
fit_operand (named n) = tt
fit_operand (constant (literal k l)) = l.fits

fit_operation : {ts rest : List Token} {o : Operation} → IsOperation ts rest o → EachOperand IsFitting o × ComparesByOrder o
fit_operation (plain a) = (fit_operand a, tt)
fit_operation (binary a s b) = ((fit_operand a, fit_operand b), tt)
fit_operation (signed a o s b) = ((fit_operand a.operand_in, fit_operand b.operand_in), o)
fit_operation (choice a s b t c) = ((fit_operand a, fit_operand b, fit_operand c), tt)
fit_operation (selection p) = (tt, tt)

-- the operands of items are literals of their width or names
abbrev pub IsFit : Item → Type 0
IsFit (drive d) = EachOperand IsFitting d.operation × ComparesByOrder d.operation
IsFit (widening bit d) = EachOperand IsFitting d.operation × ComparesByOrder d.operation
IsFit (step width s) = IsFitting s.next × IsWord width.bits s.reset
IsFit (instance x) = AllByRecursion (λ link. IsFitting link.operand) x.links

fit_literal : {ts rest : List Token} {width : Width} {value : ℕ} → IsLiteralAt ts rest width value → IsWord width.bits value
fit_literal (literal k l) = l.fits

fit_widening : (d : Drive) {name : List ℕ} {by : ℕ} → d.operation ≡ operation.Widen name by → EachOperand IsFitting d.operation × ComparesByOrder d.operation
fit_widening d {name = name} {by = by} e = subst (λ o. EachOperand IsFitting o × ComparesByOrder o) (sym e) (tt, tt)

fit_links : {ts rest : List Token} {links : List PortLink} → AreMany IsNextLink ts rest links → AllByRecursion (λ link. IsFitting link.operand) links
fit_links no_more = tt
fit_links (one_more l many) = (fit_operand l.linked.operand, fit_links many)

fit_item : {ts rest : List Token} {item : Item} → IsItem ts rest item → IsFit item
fit_item (assignment d) = fit_operation d.operation
fit_item (wide_assignment {d = d} w) = fit_widening d w.operation
fit_item (at_an_edge s) = (fit_operand s.next, fit_literal s.reset)
fit_item (instantiation i) = subst (AllByRecursion (λ link. IsFitting link.operand)) (sym i.links) (fit_operand i.links_first.operand, fit_links i.links_later)

pub fit_items : {ts rest : List Token} {items : List Item} → AreMany IsItem ts rest items → AllByRecursion IsFit items
fit_items no_more = tt
fit_items (one_more i many) = (fit_item i, fit_items many)

fit_kind_item : {ts rest : List Token} {item : Item} → IsKindItem ts rest item → IsFit item
fit_kind_item (kind_assignment d) = fit_operation d.operation
fit_kind_item (kind_wide_assignment {d = d} w) = fit_widening d w.operation

pub fit_kind_items : {ts rest : List Token} {items : List Item} → AreMany IsKindItem ts rest items → AllByRecursion IsFit items
fit_kind_items no_more = tt
fit_kind_items (one_more i many) = (fit_kind_item i, fit_kind_items many)

-- a step's literal is as wide as its register
pub reset_fits : (kinds : List CellKind) (widths : Widths) (items : List Item) → AllByRecursion IsFit items → AllByRecursion (λ item. suits kinds widths item ≡ true) items → AllByRecursion (λ s. IsWord (widths s.register) s.reset) (steps_of items)
reset_fits kinds widths [] f h = tt
reset_fits kinds widths (drive d ∷ items) f h = reset_fits kinds widths items f.1 h.1
reset_fits kinds widths (widening bit d ∷ items) f h = reset_fits kinds widths items f.1 h.1
reset_fits kinds widths (step width s ∷ items) f h =
    let z = both (nat_eq width.bits (widths s.register)) (nat_eq (operand_width widths s.next) (widths s.register)) h.0 in
    (subst (λ w. IsWord w s.reset) (eqb-true _ _ z.0) f.0.1, reset_fits kinds widths items f.1 h.1)
reset_fits kinds widths (instance x ∷ items) f h = reset_fits kinds widths items f.1 h.1
