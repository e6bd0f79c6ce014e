-- What is tried list by list, and what that says of a whole system.
use Rattle.std.proofs.Common.{◌≡◌, ℕ, ◌+◌, ◌<◌, List, [], ◌∷◌, ◌++◌, map, drop, length, get_or, inl, inr, refl, ap, ap₂, sym, subst, ◌∙◌, append_assoc}
use Rattle.std.specs.List.{flat_map}
use Rattle.std.proofs.lemmas.List.{map-append}
use Rattle.std.proofs.lemmas.List.Elements.{All-nil, All-cons}
use Rattle.av_affine.specs.declared.form.Form.{Form}
use Rattle.av_flat.specs.declared.quantity.Quantity.{Quantity}
use Rattle.av_flat.specs.Trees.{Tree, Piece, Variable, FlatSystem, right_side, restriction, trees_of}
use Rattle.av_flat.specs.Signatures.{Signature, signatures}
use Rattle.av_flat.specs.Pieces.{Part, part, parts, parts_of_all, pieces_of, with_rows, filled}
use Rattle.av_flat.specs.Quantities.{IsFirst, Measured, of_set, of_map, IsOver, measured, composed_maps, composed_maps_of_all, body_sets}
use Rattle.av_normal.specs.declared.fault.NormalFault.{NormalFault}
use Rattle.av_normal.specs.declared.fault.NormalFault.TheVariants as fault
use Rattle.av_normal.specs.NormalForm.{set_of}
use Rattle.av_normal.specs.NormalFaults.{HasNarrowSets}
use Rattle.av_normal.specs.Searches.{IsNarrow, AreNarrow, IsFirstWide, IsWide}
use Rattle.av_normal.specs.inner.Making.{maps_measured, parts_measured, bodies_measured, StandsFor, held_parts, filled_part}
use Rattle.av_normal.specs.inner.AllPieces.{IsWideIn}
use Rattle.av_base.proofs.Lists.{next_item}

-- ---- one list behind another

pub both_narrow : (a b : List Measured) → AreNarrow a → AreNarrow b → AreNarrow (a ++ b)
both_narrow [] b h k = k
both_narrow (o ∷ a) b h k = (h.0, both_narrow a b h.1 k)

pub apart : (a b : List Measured) → AreNarrow (a ++ b) → AreNarrow a × AreNarrow b
apart [] b h = (tt, h)
apart (o ∷ a) b h = let r = apart a b h.1 in ((h.0, r.0), r.1)

first_wide : (a b : List Measured) (kind : Quantity) (n : ℕ) → IsFirstWide a kind n → IsFirstWide (a ++ b) kind n
first_wide [] b kind n h = absurd h
first_wide (o ∷ a) b kind n (inl h) = inl h
first_wide (o ∷ a) b kind n (inr h) = inr (h.0, first_wide a b kind n h.1)

second_wide : (a b : List Measured) (kind : Quantity) (n : ℕ) → AreNarrow a → IsFirstWide b kind n → IsFirstWide (a ++ b) kind n
second_wide [] b kind n h k = k
second_wide (o ∷ a) b kind n h k = inr (h.0, second_wide a b kind n h.1 k)

pub wide_before : (a b : List Measured) (f : NormalFault) → IsWide a f → IsWide (a ++ b) f
wide_before a b (fault.Limit kind n) h = first_wide a b kind n h
wide_before a b (fault.Pieces n) h = absurd h
wide_before a b (fault.Unbounded name) h = absurd h
wide_before a b fault.Memory h = tt

pub wide_behind : (a b : List Measured) (f : NormalFault) → AreNarrow a → IsWide b f → IsWide (a ++ b) f
wide_behind a b (fault.Limit kind n) h k = second_wide a b kind n h k
wide_behind a b (fault.Pieces n) h k = absurd k
wide_behind a b (fault.Unbounded name) h k = absurd k
wide_behind a b fault.Memory h k = tt

-- ---- what stands for all

pub begun : (all : List Measured) → StandsFor all all
begun all = record { narrow = λ h. h; wide = λ f h. h }

pub past : (os rest all : List Measured) → StandsFor (os ++ rest) all → AreNarrow os → StandsFor rest all
past os rest all s n = record { narrow = λ k. s.narrow (both_narrow os rest n k); wide = λ f k. s.wide f (wide_behind os rest f n k) }

pub refused : (os rest all : List Measured) (f : NormalFault) → StandsFor (os ++ rest) all → IsWide os f → IsWide all f
refused os rest all f s w = s.wide f (wide_before os rest f w)

-- ---- systems

narrow_at : (before : List Measured) (o : Measured) (after : List Measured) → AreNarrow (before ++ o ∷ after) → IsNarrow o
narrow_at [] o after h = h.0
narrow_at (b ∷ before) o after h = narrow_at before o after h.1

pub narrow_sets : (s : FlatSystem) → AreNarrow (flat_map (measured (signatures s)) s.variables) → HasNarrowSets s
narrow_sets s h kind n w =
    let first = w.first in
    narrow_at first.before w.what first.after (rw (sym first.is) h) kind n w.over

abbrev IsOverSome : Measured → Type 0
IsOverSome o = (k : Quantity) × (m : ℕ) × IsOver o k m

record Found (os : List Measured) (kind : Quantity) (n : ℕ) : Type 0 where
  what : Measured
  first : IsFirst IsOverSome os what
  over : IsOver what kind n

found : (os : List Measured) (kind : Quantity) (n : ℕ) → IsFirstWide os kind n → Found os kind n
found [] kind n h = absurd h
found (o ∷ os) kind n (inl h) =
    record { what = o; first = record { before = []; after = os; is = refl; not_before = All-nil (λ y. IsOverSome y → ⊥); here = (kind, n, h) }; over = h }
found (o ∷ os) kind n (inr h) =
    let r = found os kind n h.1 in
    let first = r.first in
    record {
      what = r.what;
      first = record {
        before = o ∷ first.before;
        after = first.after;
        is = ap (λ xs. o ∷ xs) first.is;
        not_before = All-cons (λ y. IsOverSome y → ⊥) o first.before (λ p. h.0 p.0 p.1 p.2) first.not_before;
        here = first.here;
      };
      over = r.over;
    }

pub wide_in : (s : FlatSystem) (f : NormalFault) → IsWide (flat_map (measured (signatures s)) s.variables) f → IsWideIn s f
wide_in s (fault.Limit kind n) h = let r = found (flat_map (measured (signatures s)) s.variables) kind n h in record { what = r.what; first = r.first; over = r.over }
wide_in s (fault.Pieces n) h = absurd h
wide_in s (fault.Unbounded name) h = absurd h
wide_in s fault.Memory h = tt

-- ---- variables

abbrev restricted : Piece → Tree
restricted e = restriction e.domain e.tree

maps_same : (es : List Piece) → map of_map (composed_maps_of_all [] (trees_of (map restricted es))) ≡ maps_measured es
maps_same [] = refl
maps_same (e ∷ es) =
    map-append of_map (composed_maps [] e.tree) (composed_maps_of_all [] (trees_of (map restricted es))) ∙ ap (λ os. map of_map (composed_maps [] e.tree) ++ os) (maps_same es)

pub maps_are : (v : Variable) → map of_map (composed_maps [] (right_side v)) ≡ maps_measured v.pieces
maps_are v = maps_same v.pieces

module _ (vs : List Signature) (rows : List Form) where
  abbrev final : Part → Part
  final p = part (rows ++ p.rows) (filled (rows ++ p.rows) p.tree)

  one_piece : (own : List Form) (ps : List Part) → map final (with_rows own ps) ≡ map filled_part (with_rows (rows ++ own) ps)
  one_piece own [] = refl
  one_piece own (p ∷ ps) = ap₂ (λ q qs. q ∷ qs) (ap (λ all. part all (filled all p.tree)) (sym (append_assoc rows own p.rows))) (one_piece own ps)

  all_pieces : (es : List Piece) → map final (parts_of_all vs [] (trees_of (map restricted es))) ≡ map filled_part (held_parts vs rows es)
  all_pieces [] = refl
  all_pieces (e ∷ es) =
      map-append final (with_rows e.domain.rows (parts vs [] e.tree)) (parts_of_all vs [] (trees_of (map restricted es)))
      ∙ ap₂ (λ a b. a ++ b) (one_piece e.domain.rows (parts vs [] e.tree)) (all_pieces es)
      ∙ sym (map-append filled_part (with_rows (rows ++ e.domain.rows) (parts vs [] e.tree)) (held_parts vs rows es))

pub pieces_are : (vs : List Signature) (v : Variable) → pieces_of vs v ≡ map filled_part (held_parts vs v.domain.rows v.pieces)
pieces_are vs v = all_pieces vs v.domain.rows v.pieces

sets_same : (dim : ℕ) (ps : List Part) → map (λ (p : Part). of_set (record { dim = dim; rows = p.rows })) (map filled_part ps) ≡ parts_measured dim ps
sets_same dim [] = refl
sets_same dim (p ∷ ps) = ap (λ os. of_set (set_of dim p) ∷ os) (sets_same dim ps)

bodies_same : (ps : List Part) → map of_set (flat_map (λ (p : Part). body_sets p.tree) (map filled_part ps)) ≡ bodies_measured ps
bodies_same [] = refl
bodies_same (p ∷ ps) =
    map-append of_set (body_sets (filled p.rows p.tree)) (flat_map (λ (q : Part). body_sets q.tree) (map filled_part ps))
    ∙ ap (λ os. map of_set (body_sets (filled p.rows p.tree)) ++ os) (bodies_same ps)

module _ (vs : List Signature) (v : Variable) where
  abbrev own_parts : List Part
  own_parts = held_parts vs v.domain.rows v.pieces

  pub measured_are : measured vs v ≡ of_set v.domain ∷ maps_measured v.pieces ++ parts_measured v.domain.dim own_parts ++ bodies_measured own_parts
  measured_are =
      rw (maps_same v.pieces, pieces_are vs v, sets_same v.domain.dim own_parts, bodies_same own_parts) refl

  pub all_narrow : IsNarrow (of_set v.domain) → AreNarrow (maps_measured v.pieces) → AreNarrow (parts_measured v.domain.dim own_parts) → AreNarrow (bodies_measured own_parts) → AreNarrow (measured vs v)
  all_narrow d m p b =
      subst AreNarrow (sym measured_are) (d, both_narrow (maps_measured v.pieces ++ parts_measured v.domain.dim own_parts) (bodies_measured own_parts) (both_narrow (maps_measured v.pieces) (parts_measured v.domain.dim own_parts) m p) b)

  pub wide_domain : (f : NormalFault) → IsWide (of_set v.domain ∷ []) f → IsWide (measured vs v) f
  wide_domain f w =
      subst (λ (os : List Measured). IsWide os f) (sym measured_are)
      (wide_before (of_set v.domain ∷ []) (maps_measured v.pieces ++ parts_measured v.domain.dim own_parts ++ bodies_measured own_parts) f w)

  pub wide_maps : (f : NormalFault) → IsNarrow (of_set v.domain) → IsWide (maps_measured v.pieces) f → IsWide (measured vs v) f
  wide_maps f d w =
      subst (λ (os : List Measured). IsWide os f) (sym measured_are)
      (wide_behind (of_set v.domain ∷ []) (maps_measured v.pieces ++ parts_measured v.domain.dim own_parts ++ bodies_measured own_parts) f (d, tt)
      (wide_before (maps_measured v.pieces ++ parts_measured v.domain.dim own_parts) (bodies_measured own_parts) f (wide_before (maps_measured v.pieces) (parts_measured v.domain.dim own_parts) f w)))

  pub wide_pieces : (f : NormalFault) → IsNarrow (of_set v.domain) → AreNarrow (maps_measured v.pieces) → IsWide (parts_measured v.domain.dim own_parts) f → IsWide (measured vs v) f
  wide_pieces f d m w =
      subst (λ (os : List Measured). IsWide os f) (sym measured_are)
      (wide_behind (of_set v.domain ∷ []) (maps_measured v.pieces ++ parts_measured v.domain.dim own_parts ++ bodies_measured own_parts) f (d, tt)
      (wide_before (maps_measured v.pieces ++ parts_measured v.domain.dim own_parts) (bodies_measured own_parts) f (wide_behind (maps_measured v.pieces) (parts_measured v.domain.dim own_parts) f m w)))

  pub wide_bodies : (f : NormalFault) → IsNarrow (of_set v.domain) → AreNarrow (maps_measured v.pieces) → AreNarrow (parts_measured v.domain.dim own_parts) → IsWide (bodies_measured own_parts) f
      → IsWide (measured vs v) f
  wide_bodies f d m p w =
      subst (λ (os : List Measured). IsWide os f) (sym measured_are)
      (wide_behind (of_set v.domain ∷ []) (maps_measured v.pieces ++ parts_measured v.domain.dim own_parts ++ bodies_measured own_parts) f (d, tt)
      (wide_behind (maps_measured v.pieces ++ parts_measured v.domain.dim own_parts) (bodies_measured own_parts) f (both_narrow (maps_measured v.pieces) (parts_measured v.domain.dim own_parts) m p) w))

-- ---- lists that are gone through

pub next_stands : {X : Type 0} (F : List X → List Measured) (all : List Measured) (xs : List X) (i : ℕ) (x : X) → i < length xs → x ≡ get_or xs i x → StandsFor (F (drop i xs)) all
    → StandsFor (F (x ∷ drop (i + 1) xs)) all
next_stands F all xs i x l e h = subst (λ rest. StandsFor (F rest) all) (next_item xs i x l e) h

pub parts_append : (dim : ℕ) (ps qs : List Part) → parts_measured dim (ps ++ qs) ≡ parts_measured dim ps ++ parts_measured dim qs
parts_append dim [] qs = refl
parts_append dim (p ∷ ps) qs = ap (λ os. of_set (set_of dim p) ∷ os) (parts_append dim ps qs)
