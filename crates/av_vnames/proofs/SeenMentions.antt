-- Names that stand a second time, mention by mention.
use Rattle.std.proofs.Common.{◌≡◌, ℕ, ◌+◌, ◌<◌, ◌≤◌, Bool, true, false, true≢false, List, [], ◌∷◌, ◌++◌, map, length, get_or, drop, Option, Some, None, refl, sym, ap, subst, ◌∙◌, append_assoc}
use Rattle.std.specs.Prelude.{◌||◌, ◌&&◌, option_map, if◌then◌else◌}
use Rattle.std.specs.List.{list_any, flat_map}
use Rattle.std.specs.Str.{bytes_eq}
use Rattle.std.proofs.lemmas.List.{append-nil}
use Rattle.std.proofs.lemmas.List.Folds.{list_any-append}
use Rattle.std.proofs.lemmas.Slice.Eq.{bytes_eq-Decides}
use Rattle.av_base.proofs.Lists.{next_item, nothing_left, same_default}
use Rattle.av_net.specs.declared.plan.CellKind.{CellKind}
use Rattle.av_net.specs.Names.{clk, rst}
use Rattle.av_net.specs.Grammar.{PortLink}
use Rattle.av_net.specs.Rows.{is_in, first_from, Mention, of_module, declares, drives, links, mentioned, is_same, first_again, driven_by_link, link_mentions}
use Rattle.av_vnames.specs.declared.twice.Seen.{Seen as FoundSeen}
use Rattle.av_vnames.specs.Scoped.{Bytes, texts}
use Rattle.av_vnames.specs.inner.Seen.{IsPut, Stands, StandsIn, Tells, standing}
use denote.Ref.{Bor}

-- ---- mentions one after the other

again_more : (earlier ms ns : List Mention) → first_again earlier (ms ++ ns) ≡ first_from (first_again earlier ms) (first_again (earlier ++ ms) ns)
again_more earlier [] ns = ap (λ e. first_again e ns) (sym (append-nil earlier))
again_more earlier (m ∷ ms) ns = go (list_any (is_same m) earlier) (again_more (earlier ++ m ∷ []) ms ns)
  where
    go : (t : Bool) → first_again (earlier ++ m ∷ []) (ms ++ ns) ≡ first_from (first_again (earlier ++ m ∷ []) ms) (first_again ((earlier ++ m ∷ []) ++ ms) ns)
        → (if t then Some (mentioned m) else first_again (earlier ++ m ∷ []) (ms ++ ns)) ≡ first_from (if t then Some (mentioned m) else first_again (earlier ++ m ∷ []) ms) (first_again (earlier ++ m ∷ ms) ns)
    go true e = refl
    go false e = e ∙ ap (λ z. first_from (first_again (earlier ++ m ∷ []) ms) (first_again z ns)) (append_assoc earlier (m ∷ []) ms)

-- where a walk stands: what is told of the rest is told of all
abbrev pub GoesOn : {S : Type 0} → (List Mention → S → Type 0) → S → S → List Mention → List Mention → Type 0
GoesOn {S} Stand start at rest total = (final : S) (found : Option Bytes) → Tells Stand at final rest found → Tells Stand start final total found

module _ {S : Type 0} (Stand : List Mention → S → Type 0) where
  pub tells_nothing : (at : S) → Tells Stand at at [] None
  tells_nothing at = λ earlier h. (refl, λ e. subst (λ z. Stand z at) (sym (append-nil earlier)) h)

  pub tells_more : (old at new : S) (ms ns : List Mention) (found : Option Bytes) → Tells Stand old at ms None → Tells Stand at new ns found → Tells Stand old new (ms ++ ns) found
  tells_more old at new ms ns found first second = λ earlier h.
      let (none, stands) = first earlier h in
      let (is, after) = second (earlier ++ ms) (stands refl) in (
        is ∙ ap (λ o. first_from o (first_again (earlier ++ ms) ns)) none ∙ sym (again_more earlier ms ns),
        λ e. subst (λ z. Stand z new) (append_assoc earlier ms ns) (after e),
      )

  pub tells_some : (old at new : S) (ms ns : List Mention) (y : Bytes) → Tells Stand old at ms (Some y) → Tells Stand old new (ms ++ ns) (Some y)
  tells_some old at new ms ns y first = λ earlier h. (
    ap (λ o. first_from o (first_again (earlier ++ ms) ns)) (first earlier h).0 ∙ sym (again_more earlier ms ns),
    λ e. absurd cc,
  )

  module _ {X : Type 0} (f : X → List Mention) (F : List X → List Mention) (each : (x : X) (xs : List X) → F (x ∷ xs) ≡ f x ++ F xs) where
    next : (xs : List X) (i : ℕ) (x : X) → i < length xs → x ≡ get_or xs i x → f x ++ F (drop (i + 1) xs) ≡ F (drop i xs)
    next xs i x lt is = sym (each x (drop (i + 1) xs)) ∙ ap F (sym (next_item xs i x lt is))

    pub goes_more : (start at new : S) (total : List Mention) (xs : List X) (i : ℕ) (x : X) → GoesOn Stand start at (F (drop i xs)) total → i < length xs → x ≡ get_or xs i x → Tells Stand at new (f x) None
        → GoesOn Stand start new (F (drop (i + 1) xs)) total
    goes_more start at new total xs i x so lt is here = λ final found rest.
        so final found (subst (λ z. Tells Stand at final z found) (next xs i x lt is) (tells_more at new final (f x) (F (drop (i + 1) xs)) found here rest))

    pub goes_found : (start at new : S) (total : List Mention) (xs : List X) (i : ℕ) (x : X) (y : Bytes) → GoesOn Stand start at (F (drop i xs)) total → i < length xs → x ≡ get_or xs i x
        → Tells Stand at new (f x) (Some y) → Tells Stand start new total (Some y)
    goes_found start at new total xs i x y so lt is here =
        so new (Some y) (subst (λ z. Tells Stand at new z (Some y)) (next xs i x lt is) (tells_some at new new (f x) (F (drop (i + 1) xs)) y here))

    pub goes_over : (start at : S) (total : List Mention) (xs : List X) (i : ℕ) → F [] ≡ [] → GoesOn Stand start at (F (drop i xs)) total → length xs ≤ i → Tells Stand start at total None
    goes_over start at total xs i none so past =
        so at None (subst (λ z. Tells Stand at at z None) (sym (ap F (nothing_left xs i past) ∙ none)) (tells_nothing at))

-- ---- what a call told

abbrev nows : Option (Bor Bytes) → Option Bytes
nows o = option_map (λ name. name.now) o

pub untold : (o : Option (Bor Bytes)) → ((name : Bor Bytes) → o ≡ Some name → ⊥) → o ≡ None
untold None none = refl
untold (Some name) none = absurd (none name refl)

module _ {S : Type 0} (Stand : List Mention → S → Type 0) (old new : S) (ms : List Mention) (o : Option (Bor Bytes)) (tells : Tells Stand old new ms (nows o)) where
  pub told_some : (name : Bor Bytes) → o ≡ Some name → Tells Stand old new ms (Some name.now)
  told_some name is = subst (λ (z : Option (Bor Bytes)). Tells Stand old new ms (nows z)) is tells

  pub told_none : ((name : Bor Bytes) → o ≡ Some name → ⊥) → Tells Stand old new ms None
  told_none none = subst (λ (z : Option (Bor Bytes)). Tells Stand old new ms (nows z)) (untold o none) tells

module _ (old new : List Bytes) (key name : Bytes) (o : Option (Bor Bytes)) (put : IsPut old new key (nows o)) (is : key ≡ name) where
  pub put_some : (y : Bor Bytes) → o ≡ Some y → IsPut old new name (Some y.now)
  put_some y e = subst (λ (z : Option (Bor Bytes)). IsPut old new name (nows z)) e (subst (λ (z : Bytes). IsPut old new z (nows o)) is put)

  pub put_none : ((y : Bor Bytes) → o ≡ Some y → ⊥) → IsPut old new name None
  put_none none = subst (λ (z : Option (Bor Bytes)). IsPut old new name (nows z)) (untold o none) (subst (λ (z : Bytes). IsPut old new z (nows o)) is put)

-- names that are declared one after the other
module _ (start at new : FoundSeen) (names : List (Bor Bytes)) (i : ℕ) (d : Bor Bytes) (so : GoesOn Stands start at (map declares (texts (drop i names))) (map declares (texts names))) where
  pub names_more : i < length names → Tells Stands at new (declares (get_or names i d).now ∷ []) None → GoesOn Stands start new (map declares (texts (drop (i + 1) names))) (map declares (texts names))
  names_more lt here =
      goes_more Stands (λ (x : Bor Bytes). declares x.now ∷ []) (λ xs. map declares (texts xs)) (λ x xs. refl) start at new (map declares (texts names)) names i (get_or names i d) so lt
      (same_default names i d (get_or names i d) lt) here

  pub names_found : (y : Bytes) → i < length names → Tells Stands at new (declares (get_or names i d).now ∷ []) (Some y) → Tells Stands start new (map declares (texts names)) (Some y)
  names_found y lt here =
      goes_found Stands (λ (x : Bor Bytes). declares x.now ∷ []) (λ xs. map declares (texts xs)) (λ x xs. refl) start at new (map declares (texts names)) names i (get_or names i d) y so lt
      (same_default names i d (get_or names i d) lt) here

-- ---- one mention

or_nothing : (a : Bool) → (a || false) ≡ a
or_nothing true = refl
or_nothing false = refl

left_false : (a b : Bool) → (a || b) ≡ false → a ≡ false
left_false true b e = absurd cc
left_false false b e = refl

any_more : (test : Mention → Bool) (earlier : List Mention) (m : Mention) → list_any test (earlier ++ m ∷ []) ≡ (list_any test earlier || test m)
any_more test earlier m = list_any-append test earlier (m ∷ []) ∙ ap (λ b. list_any test earlier || b) (or_nothing (test m))

-- a mention of another sort
any_other : (test : Mention → Bool) (earlier : List Mention) (m : Mention) → test m ≡ false → list_any test (earlier ++ m ∷ []) ≡ list_any test earlier
any_other test earlier m e = any_more test earlier m ∙ ap (λ b. list_any test earlier || b) e ∙ or_nothing (list_any test earlier)

name_more : (names : List Bytes) (name q : Bytes) → is_in (names ++ name ∷ []) q ≡ (is_in names q || bytes_eq q name)
name_more names name q = list_any-append (bytes_eq q) names (name ∷ []) ∙ ap (λ b. is_in names q || b) (or_nothing (bytes_eq q name))

-- a name that is not told was not there
pub new_name : (old new : List Bytes) (name : Bytes) (found : Option Bytes) → IsPut old new name found → found ≡ None → (is_in old name ≡ false) × (new ≡ old ++ name ∷ [])
new_name old new name found put none =
    let apart = go (is_in old name) (sym put.told ∙ none) in (apart, put.names ∙ ap (λ (t : Bool). if t then old else (old ++ name ∷ [])) apart)
  where
    go : (t : Bool) → (if t then Some name else None) ≡ None → t ≡ false
    go true e = absurd cc
    go false e = refl

pub put_declared : (old new : FoundSeen) (q : Bytes) (found : Option Bytes) → IsPut old.declared new.declared q found → new.driven ≡ old.driven → Tells Stands old new (declares q ∷ []) found
put_declared old new q found put kept = λ earlier h. (
  put.told ∙ ap (λ (t : Bool). if t then Some q else None) (h.declared q),
  λ none.
      let names : new.declared ≡ old.declared ++ q ∷ [] = (new_name old.declared new.declared q found put none).1 in
      let more : (p : Bytes) → is_in new.declared p ≡ (is_in old.declared p || bytes_eq p q) = λ p. ap (λ z. is_in z p) names ∙ name_more old.declared q p in
      record {
        declared = λ p. more p ∙ ap (λ b. b || bytes_eq p q) (h.declared p) ∙ sym (any_more (is_same (declares p)) earlier (declares q));
        driven = λ p. ap (λ z. is_in z p) kept ∙ h.driven p ∙ sym (any_other (is_same (drives p)) earlier (declares q) refl);
        linked = λ u p e. any_other (is_same (links u p)) earlier (declares q) refl ∙ h.linked u p (left_false (is_in old.declared u) (bytes_eq u q) (sym (more u) ∙ e));
      },
)

pub put_driven : (old new : FoundSeen) (q : Bytes) (found : Option Bytes) → IsPut old.driven new.driven q found → new.declared ≡ old.declared → Tells Stands old new (drives q ∷ []) found
put_driven old new q found put kept = λ earlier h. (
  put.told ∙ ap (λ (t : Bool). if t then Some q else None) (h.driven q),
  λ none.
      let names : new.driven ≡ old.driven ++ q ∷ [] = (new_name old.driven new.driven q found put none).1 in
      record {
        declared = λ p. ap (λ z. is_in z p) kept ∙ h.declared p ∙ sym (any_other (is_same (declares p)) earlier (drives q) refl);
        driven = λ p. ap (λ z. is_in z p) names ∙ name_more old.driven q p ∙ ap (λ b. b || bytes_eq p q) (h.driven p) ∙ sym (any_more (is_same (drives p)) earlier (drives q));
        linked = λ u p e. any_other (is_same (links u p)) earlier (drives q) refl ∙ h.linked u p (ap (λ z. is_in z u) (sym kept) ∙ e);
      },
)

-- ---- the links of an instance

apart_names : (names : List Bytes) (u v : Bytes) → is_in names u ≡ true → is_in names v ≡ false → bytes_eq v u ≡ false
apart_names names u v there none = go (bytes_eq v u) refl
  where
    go : (t : Bool) → bytes_eq v u ≡ t → t ≡ false
    go false e = refl
    go true e = absurd (true≢false (sym there ∙ ap (is_in names) (sym ((bytes_eq-Decides v u).0 e)) ∙ none))

pub put_linked : (u : Bytes) (seen : FoundSeen) (old new : List Bytes) (port : Bytes) (found : Option Bytes) → IsPut old new port found → Tells (StandsIn u) (seen, old) (seen, new) (links u port ∷ []) found
put_linked u seen old new port found put = λ earlier h. (
  put.told ∙ ap (λ (t : Bool). if t then Some port else None) (h.ports port),
  λ none.
      let names : new ≡ old ++ port ∷ [] = (new_name old new port found put none).1 in
      let own : bytes_eq u u ≡ true = (bytes_eq-Decides u u).1 refl in
      record {
        names = record {
          declared = λ p. h.names.declared p ∙ sym (any_other (is_same (declares p)) earlier (links u port) refl);
          driven = λ p. h.names.driven p ∙ sym (any_other (is_same (drives p)) earlier (links u port) refl);
          linked = λ v p e.
              any_other (is_same (links v p)) earlier (links u port) (ap (λ b. b && bytes_eq p port) (apart_names seen.declared u v h.declared e)) ∙ h.names.linked v p e;
        };
        declared = h.declared;
        ports = λ p.
            ap (λ z. is_in z p) names ∙ name_more old port p ∙ ap (λ b. b || bytes_eq p port) (h.ports p) ∙ ap (λ b. list_any (is_same (links u p)) earlier || (b && bytes_eq p port)) (sym own)
            ∙ sym (any_more (is_same (links u p)) earlier (links u port));
      },
)

-- a name that a link drives
pub drives_in : (u : Bytes) (old new : FoundSeen) (linked : List Bytes) (q : Bytes) (found : Option Bytes) → Tells Stands old new (drives q ∷ []) found → Tells (StandsIn u) (old, linked) (new, linked) (drives q ∷ []) found
drives_in u old new linked q found tells = λ earlier h.
    let (is, after) = tells earlier h.names in (
      is,
      λ none.
          let stands = after none in
          record {
            names = stands;
            declared = stands.declared u ∙ any_other (is_same (declares u)) earlier (drives q) refl ∙ sym (h.names.declared u) ∙ h.declared;
            ports = λ p. h.ports p ∙ sym (any_other (is_same (links u p)) earlier (drives q) refl);
          },
    )

-- a link that drives a name
pub name_told : (kind : CellKind) (u : Bytes) (seen new : FoundSeen) (old linked : List Bytes) (link : PortLink) (q : Bytes) (found : Option Bytes) → IsPut old linked link.port None → q ∷ [] ≡ driven_by_link kind link
    → Tells Stands seen new (drives q ∷ []) found → Tells (StandsIn u) (seen, old) (new, linked) (link_mentions kind u link) found
name_told kind u seen new old linked link q found put driven tells =
    subst (λ names. Tells (StandsIn u) (seen, old) (new, linked) (links u link.port ∷ map drives names) found) driven
    (tells_more (StandsIn u) (seen, old) (seen, linked) (new, linked) (links u link.port ∷ []) (drives q ∷ []) found (put_linked u seen old linked link.port None put) (drives_in u seen new linked q found tells))

-- and one that drives none
pub none_told : (kind : CellKind) (u : Bytes) (seen : FoundSeen) (old linked : List Bytes) (link : PortLink) → IsPut old linked link.port None → [] ≡ driven_by_link kind link
    → Tells (StandsIn u) (seen, old) (seen, linked) (link_mentions kind u link) None
none_told kind u seen old linked link put driven =
    subst (λ names. Tells (StandsIn u) (seen, old) (seen, linked) (links u link.port ∷ map drives names) None) driven (put_linked u seen old linked link.port None put)

-- ---- an instance

not_told : (t : Bool) (y : Bytes) → None ≡ (if t then Some y else None) → t ≡ false
not_told true y e = absurd cc
not_told false y e = refl

pub instance_told : (u : Bytes) (old mid new : FoundSeen) (linked : List Bytes) (found kind : CellKind) (ls : List PortLink) (told : Option Bytes) → found ≡ kind → Tells Stands old mid (declares u ∷ []) None
    → (none : List Bytes) → none ≡ [] → Tells (StandsIn u) (mid, none) (new, linked) (flat_map (link_mentions found u) ls) told → Tells Stands old new (declares u ∷ flat_map (link_mentions kind u) ls) told
instance_told u old mid new linked found kind ls told same first none empty second = λ earlier h.
    let ms : List Mention = flat_map (link_mentions kind u) ls in
    let (alone, after) = first earlier h in
    let mid_stands = after refl in
    let apart : list_any (is_same (declares u)) earlier ≡ false = not_told (list_any (is_same (declares u)) earlier) u alone in
    let own : bytes_eq u u ≡ true = (bytes_eq-Decides u u).1 refl in
    let no_links : (q : Bytes) → list_any (is_same (links u q)) earlier ≡ false = λ q. h.linked u q (h.declared u ∙ apart) in
    let begins : StandsIn u (earlier ++ declares u ∷ []) (mid, none) = record {
      names = mid_stands;
      declared = mid_stands.declared u ∙ any_more (is_same (declares u)) earlier (declares u) ∙ ap (λ b. b || bytes_eq u u) apart ∙ own;
      ports = λ q. ap (λ z. is_in z q) empty ∙ sym (any_other (is_same (links u q)) earlier (declares u) refl ∙ no_links q);
    } in
    let (is, ends) = (subst (λ k. Tells (StandsIn u) (mid, none) (new, linked) (flat_map (link_mentions k u) ls) told) same second) (earlier ++ declares u ∷ []) begins in (
      is ∙ ap (λ (t : Bool). if t then Some u else first_again (earlier ++ declares u ∷ []) ms) (sym apart),
      λ e. subst (λ z. Stands z new) (append_assoc earlier (declares u ∷ []) ms) (ends e).names,
    )

-- ---- a module

any_behind : (test : Mention → Bool) → ((name : Bytes) → test (of_module name) ≡ false) → (modules : List Bytes) (rest : List Mention) → list_any test (map of_module modules ++ rest) ≡ list_any test rest
any_behind test other [] rest = refl
any_behind test other (name ∷ modules) rest = ap (λ b. b || list_any test (map of_module modules ++ rest)) (other name) ∙ any_behind test other modules rest

module_named : (modules : List Bytes) (name : Bytes) → list_any (is_same (of_module name)) (standing modules) ≡ is_in modules name
module_named [] name = refl
module_named (first ∷ modules) name = ap (λ b. bytes_eq name first || b) (module_named modules name)

-- names of modules declare and drive nothing
module _ (modules : List Bytes) (name : Bytes) (test : Mention → Bool) (other : (name : Bytes) → test (of_module name) ≡ false) where
  any_standing : list_any test (declares clk ∷ declares rst ∷ []) ≡ list_any test (standing modules ++ of_module name ∷ [])
  any_standing = sym (any_other test (standing modules) (of_module name) (other name) ∙ any_behind test other modules (declares clk ∷ declares rst ∷ []))

pub behind_modules : (modules : List Bytes) (name : Bytes) (seen : FoundSeen) → Stands (declares clk ∷ declares rst ∷ []) seen → Stands (standing modules ++ of_module name ∷ []) seen
behind_modules modules name seen h = record {
  declared = λ q. h.declared q ∙ any_standing modules name (is_same (declares q)) (λ n. refl);
  driven = λ q. h.driven q ∙ any_standing modules name (is_same (drives q)) (λ n. refl);
  linked = λ u q none. sym (any_standing modules name (is_same (links u q)) (λ n. refl)) ∙ h.linked u q none;
}

-- the name of a module that is told
pub module_told : (modules new : List Bytes) (name : Bytes) (ms : List Mention) (y : Bytes) → IsPut modules new name (Some y) → Some y ≡ first_again (standing modules) (of_module name ∷ ms)
module_told modules new name ms y put = go (is_in modules name) put.told ∙ ap (λ (t : Bool). if t then Some name else first_again (standing modules ++ of_module name ∷ []) ms) (sym (module_named modules name))
  where
    go : (t : Bool) → Some y ≡ (if t then Some name else None) → Some y ≡ (if t then Some name else first_again (standing modules ++ of_module name ∷ []) ms)
    go true e = e
    go false e = absurd cc

-- what is told behind it
pub within_told : (modules names : List Bytes) (name : Bytes) (seen new : FoundSeen) (ms : List Mention) (found : Option Bytes) → IsPut modules names name None → Stands (declares clk ∷ declares rst ∷ []) seen
    → Tells Stands seen new ms found → found ≡ first_again (standing modules) (of_module name ∷ ms)
within_told modules names name seen new ms found put begins tells =
    let apart : is_in modules name ≡ false = (new_name modules names name None put refl).0 in
    (tells (standing modules ++ of_module name ∷ []) (behind_modules modules name seen begins)).0
    ∙ ap (λ (t : Bool). if t then Some name else first_again (standing modules ++ of_module name ∷ []) ms) (sym (module_named modules name ∙ apart))
