-- The walks of the rows of faults.
use Rattle.std.proofs.Common.{◌≡◌, ℕ, suc, ◌+◌, ◌<◌, Bool, false, cond, not, List, [], ◌∷◌, ◌++◌, length, drop, get_or, map, Option, Some, refl, sym, ap, ◌∙◌, arith, drop-cons}
use Rattle.std.specs.Prelude.{find, if◌then◌else◌}
use Rattle.std.proofs.Math.Path.{fun_ext}
use Rattle.av_net.specs.declared.netlist.Port.{Port}
use Rattle.av_net.specs.declared.plan.CellKind.{CellKind}
use Rattle.av_net.specs.Names.{width_in}
use Rattle.av_net.specs.Grammar.{Item}
use Rattle.av_net.specs.Rows.{Among, is_in, target_of, driven_by, reads_early, first_early}
use Rattle.av_vnames.specs.Scoped.{Bytes, texts}
use Rattle.av_vparse.specs.declared.parsed.Item.{Item as FoundItem}
use Rattle.av_vparse.specs.Said.{said_item}
use Rattle.av_vnames.proofs.Walks.{put_in}
use denote.Ref.{Bor}
use Rattle.av_base.proofs.Lists.{next_item}
use Rattle.av_vnames.proofs.RowWalks.{same_test, more_names}

-- a name more of those that are put in
pub set_walk : (names : List (Bor Bytes)) (i : ℕ) (d : Bor Bytes) (set set' : List Bytes) (total : Bytes → Bool) (q : Bytes) → i < length names
    → set' ≡ (if is_in set (get_or names i d).now then set else (set ++ (get_or names i d).now ∷ [])) → ((q : Bytes) → is_in (set ++ texts (drop i names)) q ≡ total q)
    → is_in (set' ++ texts (drop (i + 1) names)) q ≡ total q
set_walk names i d set set' total q lt e so =
    put_in set set' (texts (drop (i + 1) names)) (get_or names i d).now q e ∙ ap (λ (z : List (Bor Bytes)). is_in (set ++ texts z) q) (sym (rest_at names i d lt)) ∙ so q
  where
    rest_at : (names : List (Bor Bytes)) (i : ℕ) (d : Bor Bytes) → i < length names → drop i names ≡ get_or names i d ∷ drop (i + 1) names
    rest_at names i d lt = drop-cons names i d lt ∙ ap (λ n. get_or names i d ∷ drop n names) (let next : suc i ≡ i + 1 = omega arith in next)

pub early_same : (kinds : List CellKind) (w : Among) (a b : List (List ℕ)) (items : List Item) → ((q : List ℕ) → is_in a q ≡ is_in b q) → first_early kinds w a items ≡ first_early kinds w b items
early_same kinds w a b [] h = refl
early_same kinds w a b (item ∷ items) h =
    ap (λ (t : Among). cond (reads_early kinds w t item) (Some (target_of item)) (first_early kinds w (a ++ driven_by kinds item) items)) (same_test a b h)
    ∙ ap (λ z. cond (reads_early kinds w (is_in b) item) (Some (target_of item)) z)
    (early_same kinds w (a ++ driven_by kinds item) (b ++ driven_by kinds item) items (λ q. more_names a b (driven_by kinds item) q (h q)))

pub early_more : (kinds : List CellKind) (w : Among) (items : List FoundItem) (i : ℕ) (x : FoundItem) (earlier earlier' : List (List ℕ)) (total : Option (List ℕ)) → first_early kinds w earlier (map said_item (drop i items)) ≡ total
    → i < length items → x ≡ get_or items i x → reads_early kinds w (is_in earlier) (said_item x) ≡ false
    → ((q : List ℕ) → is_in earlier' q ≡ is_in (earlier ++ driven_by kinds (said_item x)) q) → first_early kinds w earlier' (map said_item (drop (i + 1) items)) ≡ total
early_more kinds w items i x earlier earlier' total so lt at late same =
    let rest : List Item = map said_item (drop (i + 1) items) in
    let one : first_early kinds w earlier (said_item x ∷ rest) ≡ first_early kinds w (earlier ++ driven_by kinds (said_item x)) rest =
    ap (λ test. cond test (Some (target_of (said_item x))) (first_early kinds w (earlier ++ driven_by kinds (said_item x)) rest)) late in
    early_same kinds w earlier' (earlier ++ driven_by kinds (said_item x)) rest same ∙ sym one ∙ ap (λ z. first_early kinds w earlier (map said_item z)) (sym (next_item items i x lt at)) ∙ so

pub missing_same : (a b : List (List ℕ)) (names : List (List ℕ)) → ((q : List ℕ) → is_in a q ≡ is_in b q) → find (λ name. not (is_in a name)) names ≡ find (λ name. not (is_in b name)) names
missing_same a b names h = ap (λ (t : Among). find (λ name. not (t name)) names) (same_test a b h)

pub widths_test : (a : List Port) (w : List ℕ → ℕ) → ((q : List ℕ) → width_in a q ≡ w q) → width_in a ≡ w
widths_test a w h = fun_ext h
