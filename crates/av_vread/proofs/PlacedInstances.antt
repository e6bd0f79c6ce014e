-- Instances of a text, whose kinds and links are found by their names.
use Rattle.std.proofs.Common.{◌≡◌, ℕ, zero, suc, ◌+◌, ◌<◌, Bool, true, false, cond, List, [], ◌∷◌, ◌++◌, map, length, take, get_or, Option, Some, None, refl, sym, ap, subst, ◌∙◌, arith}
use Rattle.std.specs.Prelude.{option_map, is_some, find, if◌then◌else◌}
use Rattle.std.specs.List.{flat_map}
use Rattle.std.specs.Map.{lookup}
use Rattle.std.specs.Str.{bytes_eq}
use Rattle.std.proofs.lemmas.List.{append-nil, length-map, length-take-le, map_push}
use Rattle.av_base.proofs.Lists.{same_default}
use Rattle.av_net.specs.declared.plan.CellKind.{CellKind}
use Rattle.av_net.specs.Flat.{no_kind, kind_of, part_wires, part_drives, instance_wires, instance_drives}
use Rattle.av_net.specs.Grammar.{PortLink, Instantiation, instance}
use Rattle.av_net.specs.Rows.{kind_or, kind_for, kind_number, linked_to, instance_by, instance_of, instances_in}
use Rattle.av_vparse.specs.declared.parsed.PortLink.{PortLink as FoundLink}
use Rattle.av_vparse.specs.Said.{said_link}
use Rattle.av_vnames.specs.Numbered.{place_among, number_of}
use Rattle.av_vread.specs.inner.Numbered.{place_of}
use Rattle.av_vnames.specs.Scoped.{Bytes}
use Rattle.av_vnames.proofs.KindTables.{place_within, more_places, number_item, number_below}
use Rattle.av_vread.proofs.KindTables.{taken_map}

-- ---- links

link_step : (link : FoundLink) (links : List FoundLink) (q : Bytes) (t : Bool) (a : Option ℕ) (n : ℕ) (at : FoundLink) → cond t (Some 0) (option_map suc a) ≡ Some n → at ≡ get_or (link ∷ links) n at
    → ((m : ℕ) → a ≡ Some m → at ≡ get_or links m at → linked_to (map said_link links) q ≡ Some at.operand)
    → option_map (λ (l : PortLink). l.operand) (cond t (Some (said_link link)) (find (λ (l : PortLink). bytes_eq l.port q) (map said_link links))) ≡ Some at.operand
link_step link links q true a zero at e is ih = ap (λ (l : FoundLink). Some l.operand) (sym is)
link_step link links q true a (suc n) at e is ih = absurd cc
link_step link links q false None n at e is ih = absurd cc
link_step link links q false (Some m) zero at e is ih = absurd cc
link_step link links q false (Some m) (suc n) at e is ih = let same : n ≡ m = cc in ih m refl (is ∙ ap (λ k. get_or links k at) same)

pub link_there : (links : List FoundLink) (q : Bytes) (n : ℕ) (at : FoundLink) → place_of q (map said_link links) ≡ Some n → at ≡ get_or links n at → linked_to (map said_link links) q ≡ Some at.operand
link_there [] q n at e is = absurd cc
link_there (link ∷ links) q n at e is = link_step link links q (bytes_eq link.port q) (place_of q (map said_link links)) n at e is (λ m f here. link_there links q m at f here)

no_link_step : (link : PortLink) (found : Option PortLink) (t : Bool) (a : Option ℕ) → cond t (Some 0) (option_map suc a) ≡ None → (a ≡ None → option_map (λ (l : PortLink). l.operand) found ≡ None)
    → option_map (λ (l : PortLink). l.operand) (cond t (Some link) found) ≡ None
no_link_step link found true a e ih = absurd cc
no_link_step link found false None e ih = ih refl
no_link_step link found false (Some m) e ih = absurd cc

pub link_none : (links : List PortLink) (q : Bytes) → place_of q links ≡ None → linked_to links q ≡ None
link_none [] q e = refl
link_none (link ∷ links) q e = no_link_step link (find (λ l. bytes_eq l.port q) links) (bytes_eq link.port q) (place_of q links) e (λ f. link_none links q f)

pub link_within : (links : List FoundLink) (q : Bytes) (n : ℕ) → place_of q (map said_link links) ≡ Some n → n < length links
link_within links q n e =
    let size : length (map (λ (l : PortLink). l.port) (map said_link links)) ≡ length links = length-map (map said_link links) (λ (l : PortLink). l.port) ∙ length-map links said_link in
    subst (λ m. n < m) size (place_within (map (λ (l : PortLink). l.port) (map said_link links)) q n e)

-- a link more of those that were gone over
pub links_more : (links : List FoundLink) (i : ℕ) (link : FoundLink) (found found' : List (Bytes × ℕ)) (key : Bytes) → ((q : Bytes) → lookup (bytes_eq q) found ≡ place_of q (map said_link (take i links))) → i < length links → link ≡ get_or links i link
    → key ≡ link.port → found' ≡ (if is_some (lookup (bytes_eq key) found) then found else (found ++ (key, i) ∷ [])) → (q : Bytes) → lookup (bytes_eq q) found' ≡ place_of q (map said_link (take (i + 1) links))
links_more links i link found found' key so lt is name put q =
    let before : List Bytes = map (λ (l : PortLink). l.port) (map said_link (take i links)) in
    let taken : length (take i links) ≡ i = length-take-le i links (omega (arith, lt)) in
    let size : i ≡ length before = sym (length-map (map said_link (take i links)) (λ (l : PortLink). l.port) ∙ length-map (take i links) said_link ∙ taken) in
    more_places found found' before key i so size put q ∙ ap (λ k. place_among (before ++ k ∷ []) q) name
    ∙ ap (λ names. place_among names q) (sym (map_push (λ (l : PortLink). l.port) (map said_link (take i links)) (said_link link)) ∙ ap (map (λ (l : PortLink). l.port)) (taken_map said_link links i link lt is))

-- ---- kinds

number_is : (kinds : List CellKind) (q : Bytes) (n : ℕ) → number_of kinds q ≡ Some n → kind_number kinds q ≡ n
number_is [] q n e = absurd cc
number_is (kind ∷ kinds) q n e = step (bytes_eq kind.name q) (number_of kinds q) n e (λ m f. number_is kinds q m f)
  where
    step : (t : Bool) (a : Option ℕ) (n : ℕ) → cond t (Some 0) (option_map suc a) ≡ Some n → ((m : ℕ) → a ≡ Some m → kind_number kinds q ≡ m) → (if t then 0 else 1 + kind_number kinds q) ≡ n
    step true a zero e ih = refl
    step true a (suc n) e ih = absurd cc
    step false None n e ih = absurd cc
    step false (Some m) zero e ih = absurd cc
    step false (Some m) (suc n) e ih = let same : m ≡ n = cc in let at = ih m refl in omega (arith, same, at)

number_past : (kinds : List CellKind) (q : Bytes) → number_of kinds q ≡ None → kind_number kinds q ≡ length kinds
number_past [] q e = refl
number_past (kind ∷ kinds) q e = step (bytes_eq kind.name q) (number_of kinds q) e (λ f. number_past kinds q f)
  where
    step : (t : Bool) (a : Option ℕ) → cond t (Some 0) (option_map suc a) ≡ None → (a ≡ None → kind_number kinds q ≡ length kinds) → (if t then 0 else 1 + kind_number kinds q) ≡ length (kind ∷ kinds)
    step true a e ih = absurd cc
    step false None e ih = let at = ih refl in omega (arith, at)
    step false (Some m) e ih = absurd cc

past_all : {X : Type 0} (xs : List X) (d : X) → get_or xs (length xs) d ≡ d
past_all [] d = refl
past_all (x ∷ xs) d = past_all xs d

module _ (cells : List CellKind) (x : Instantiation) where
  module _ (n : ℕ) (kind : CellKind) (e : number_of cells x.kind ≡ Some n) (is : kind ≡ get_or cells n kind) where
    kind_is : kind_for cells x ≡ kind
    kind_is = ap kind_or (sym (number_item cells x.kind n kind e)) ∙ sym is

    of_kind : kind_of cells (instance_of cells x) ≡ kind
    of_kind = ap (λ m. get_or cells m no_kind) (number_is cells x.kind n e) ∙ same_default cells n no_kind kind (number_below cells x.kind n e) ∙ sym is

    wires_there : part_wires kind x.name ≡ instance_wires cells (instance_of cells x)
    wires_there = ap (λ k. part_wires k x.name) (sym of_kind)

    pub parts_there : part_wires kind x.name ≡ flat_map (instance_wires cells) (instances_in cells (instance x ∷ []))
    parts_there = wires_there ∙ sym (append-nil (instance_wires cells (instance_of cells x)))

    pub drives_there : part_drives kind (instance_by kind n x) ≡ instance_drives cells (instance_of cells x)
    drives_there =
        ap (λ k. part_drives kind (instance_by k n x)) (sym kind_is) ∙ ap (λ m. part_drives kind (instance_by (kind_for cells x) m x)) (sym (number_is cells x.kind n e))
        ∙ ap (λ k. part_drives k (instance_of cells x)) (sym of_kind)

  module _ (e : number_of cells x.kind ≡ None) where
    of_none : kind_of cells (instance_of cells x) ≡ no_kind
    of_none = ap (λ m. get_or cells m no_kind) (number_past cells x.kind e) ∙ past_all cells no_kind

    wires_nowhere : instance_wires cells (instance_of cells x) ≡ []
    wires_nowhere = ap (λ k. part_wires k x.name) of_none

    pub parts_nowhere : flat_map (instance_wires cells) (instances_in cells (instance x ∷ [])) ≡ []
    parts_nowhere = ap (λ z. z ++ []) wires_nowhere

    pub drives_nowhere : instance_drives cells (instance_of cells x) ≡ []
    drives_nowhere = ap (λ k. part_drives k (instance_of cells x)) of_none
