-- What kinds of cells found by their names tell.
use Rattle.std.proofs.Common.{◌≡◌, ℕ, zero, suc, ◌++◌, false, List, [], ◌∷◌, map, length, get_or, take, drop, ◌+◌, ◌≤◌, Option, Some, None, refl, sym, ap, ◌∙◌, arith}
use Rattle.std.specs.Prelude.{◌<◌, find, not}
use Rattle.std.specs.List.{list_any}
use Rattle.av_net.specs.declared.plan.CellKind.{CellKind}
use Rattle.av_net.specs.Flat.{no_kind}
use Rattle.av_net.specs.Names.{names_of}
use Rattle.av_net.specs.Grammar.{PortLink, Instantiation, ModuleText, instance}
use Rattle.av_net.specs.Rows.{Among, is_in, first_from, first_some, kind_from, kind_or, kind_named, unlinked_in, is_early_link, reads_early}
use Rattle.av_vnames.specs.Scoped.{Bytes}
use Rattle.av_vparse.specs.declared.parsed.ModuleText.{ModuleText as FoundModule}
use Rattle.av_vparse.specs.declared.parsed.PortLink.{PortLink as FoundLink}
use Rattle.av_vparse.specs.declared.parsed.Instantiation.{Instantiation as FoundInstance}
use Rattle.av_vparse.specs.Said.{said_link, said_instance, said_module}
use Rattle.av_base.proofs.Lists.{next_item, nothing_left}

-- ---- no kind

no_early : (wires earlier : Among) (links : List PortLink) → list_any (is_early_link wires earlier no_kind) links ≡ false
no_early wires earlier [] = refl
no_early wires earlier (link ∷ links) = no_early wires earlier links

pub unknown_early : (kinds : List CellKind) (wires earlier : Among) (x : Instantiation) → kind_named kinds x.kind ≡ None → reads_early kinds wires earlier (instance x) ≡ false
unknown_early kinds wires earlier x e = rw e (no_early wires earlier x.links)

-- ---- ports that are not linked

ports_said : (links : List FoundLink) → map (λ link. link.port) (map said_link links) ≡ map (λ link. link.port) links
ports_said [] = refl
ports_said (link ∷ links) = ap (λ ports. link.port ∷ ports) (ports_said links)

pub unlinked_there : (kinds : List CellKind) (x : FoundInstance) (kind : CellKind) (text : FoundModule) → kind_named kinds x.kind ≡ Some kind → kind_from (said_module text) ≡ kind
    → find (λ port. not (is_in (map (λ link. link.port) x.links) port)) (names_of text.inputs ++ names_of text.outputs) ≡ unlinked_in kinds (instance (said_instance x))
unlinked_there kinds x kind text e same =
    ap (λ (k : CellKind). find (λ port. not (is_in (map (λ link. link.port) x.links) port)) (names_of k.inputs ++ names_of k.outputs)) same
    ∙ ap (λ ports. find (λ port. not (is_in ports port)) (names_of kind.inputs ++ names_of kind.outputs)) (sym (ports_said x.links))
    ∙ ap (λ o. find (λ port. not (is_in (map (λ link. link.port) (map said_link x.links)) port)) (names_of (kind_or o).inputs ++ names_of (kind_or o).outputs)) (sym e)

pub unlinked_none : (kinds : List CellKind) (x : FoundInstance) → kind_named kinds x.kind ≡ None → unlinked_in kinds (instance (said_instance x)) ≡ None
unlinked_none kinds x e = rw e refl

-- ---- one module after the other

pub first_joined : {X : Type 0} (f : X → Option Bytes) (xs ys : List X) → first_some f (xs ++ ys) ≡ first_from (first_some f xs) (first_some f ys)
first_joined f [] ys = refl
first_joined f (x ∷ xs) ys = go (f x) (first_joined f xs ys)
  where
    go : (o : Option Bytes) → first_some f (xs ++ ys) ≡ first_from (first_some f xs) (first_some f ys) → first_from o (first_some f (xs ++ ys)) ≡ first_from (first_from o (first_some f xs)) (first_some f ys)
    go None e = e
    go (Some y) e = refl

pub kind_first : {X : Type 0} (f : X → Option Bytes) (xs : List X) (top : X) (y : Bytes) → first_some f xs ≡ Some y → first_some f (xs ++ top ∷ []) ≡ Some y
kind_first f xs top y e = first_joined f xs (top ∷ []) ∙ ap (λ o. first_from o (first_some f (top ∷ []))) e

pub top_first : {X : Type 0} (f : X → Option Bytes) (xs : List X) (top : X) → first_some f xs ≡ None → first_some f (xs ++ top ∷ []) ≡ f top
top_first f xs top e = first_joined f xs (top ∷ []) ∙ ap (λ o. first_from o (first_some f (top ∷ []))) e ∙ alone (f top)
  where
    alone : (o : Option Bytes) → first_from o None ≡ o
    alone None = refl
    alone (Some y) = refl

-- one item more of those that were gone over
pub taken_map : {X Y : Type 0} (f : X → Y) (xs : List X) (i : ℕ) (x : X) → i < length xs → x ≡ get_or xs i x → map f (take i xs) ++ f x ∷ [] ≡ map f (take (i + 1) xs)
taken_map f [] i x lt is = absurd (omega arith)
taken_map f (y ∷ xs) zero x lt is = ap (λ z. f z ∷ []) is
taken_map f (y ∷ xs) (suc i) x lt is =
    let next : suc (i + 1) ≡ suc i + 1 = omega arith in
    ap (λ zs. f y ∷ zs) (taken_map f xs i x (omega arith) is) ∙ ap (λ n. map f (take n (y ∷ xs))) next

-- a walk over the kinds of a text, and then its top
pub told_by_kind : (f : ModuleText → Option Bytes) (kinds : List FoundModule) (i : ℕ) (kind : FoundModule) (top : ModuleText) (name : Bytes) → first_some f (map said_module (drop i kinds)) ≡ first_some f (map said_module kinds)
    → i < length kinds → kind ≡ get_or kinds i kind → f (said_module kind) ≡ Some name → Some name ≡ first_some f (map said_module kinds ++ top ∷ [])
told_by_kind f kinds i kind top name so lt is at =
    let here : first_some f (map said_module (drop i kinds)) ≡ Some name =
    ap (λ z. first_some f (map said_module z)) (next_item kinds i kind lt is) ∙ ap (λ o. first_from o (first_some f (map said_module (drop (i + 1) kinds)))) at in
    sym (kind_first f (map said_module kinds) top name (sym so ∙ here))

pub told_by_top : (f : ModuleText → Option Bytes) (kinds : List FoundModule) (i : ℕ) (top : ModuleText) → first_some f (map said_module (drop i kinds)) ≡ first_some f (map said_module kinds) → length kinds ≤ i
    → f top ≡ first_some f (map said_module kinds ++ top ∷ [])
told_by_top f kinds i top so past = sym (top_first f (map said_module kinds) top (sym so ∙ ap (λ z. first_some f (map said_module z)) (nothing_left kinds i past)))
