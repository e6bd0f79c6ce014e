-- Sums over tables, step by step, and what their forms are.
use Rattle.std.proofs.Common.{◌≡◌, ℕ, zero, suc, ◌+◌, ◌^◌, ◌<◌, ◌≤◌, ℤ, ◌-ℤ◌, List, [], ◌∷◌, ◌++◌, map, length, get_or, take, take_all, drop, append-nil, max, option_map, Option, Some, None, Bool, true, false, if◌then◌else◌, refl, ap, sym, subst, ◌∙◌, arith, Bor, All}
use Rattle.std.specs.Prelude.{bytes_eq, unsigned_abs, IfSome}
use Rattle.std.specs.List.{flat_map, range_with_len}
use Rattle.std.proofs.lemmas.Int.{ints}
use Rattle.std.proofs.lemmas.List.{map-append}
use Rattle.std.proofs.lemmas.List.Elements.{All-head, All-tail}
use Rattle.av_affine.specs.declared.form.Form.{Form}
use Rattle.av_affine.specs.Forms.{IsWithinLimits}
use Rattle.av_poly.specs.Points.{IsSmall}
use Rattle.av_tree.specs.declared.domain.Constraint.{Constraint}
use Rattle.av_tree.specs.declared.relation.Relation.{Relation}
use Rattle.av_tree.specs.declared.relation.Relation.TheVariants as relation
use Rattle.av_tree.specs.declared.domain.IndexExpr.{IndexExpr}
use Rattle.av_tree.specs.Trees.{Text, System}
use Rattle.av_tree.specs.Points.{Sizes}
use Rattle.av_tree.specs.Rows as rows
use Rattle.av_tree.specs.Rows.{compared}
use Rattle.av_names.specs.declared.size.Size.{Size}
use Rattle.av_names.specs.inner.Fitting.{FitsRows}
use Rattle.av_names.specs.Forms.{filled, index_form, form_of_row, rows_over}
use Rattle.av_names.specs.Found.{sooner, first_of}
use Rattle.av_names.specs.Quantities.{Counted, greatest, exceeds}
use Rattle.av_names.specs.Sizes.{sizes_of}
use Rattle.av_names.specs.declared.measure.Measure.{Measure}
use Rattle.av_names.specs.declared.measure.Measure.TheVariants as measure
use Rattle.av_names.specs.declared.written.Written.{Written as WrittenMade}
use Rattle.av_names.specs.inner.Sums.{of_index, of_row, numbers_of, limit_of, great, written}
use Rattle.av_names.specs.declared.part.Part.{Part as PartMade}
use Rattle.av_names.specs.Parts.{parts}
use Rattle.av_names.specs.inner.Seen.{part}
use Rattle.av_names.specs.inner.ShortSums.{IsShortWritten, HasShortSums}
use Rattle.av_names.specs.Written.{Written, all_written, written_at, written_sizes, written_declaration}
use Rattle.av_tree.specs.declared.system.Declaration.{Declaration}
use Rattle.av_tree.specs.Domains.{variables}
use Rattle.av_names.proofs.Among.{Among, all_at, all_from, among_source, among_image}
use Rattle.av_names.proofs.Limited.{among_flat_source}
use Rattle.av_names.proofs.Sooner.{first_append, first_map}
use Rattle.av_base.proofs.Lists.{next_item, all_parts}

-- ---- sizes

-- the sizes of words that are small are small
pub small_values : (words : List Size) → All (λ w. unsigned_abs w.value ≤ 1048576) words → (name : Text) → unsigned_abs (rows.or_zero (sizes_of words name)) ≤ 1048576
small_values [] all name = omega arith
small_values (w ∷ words) all name = by (bytes_eq w.name name) (small_values words (All-tail (λ w. unsigned_abs w.value ≤ 1048576) w words all) name)
  where
    by : (t : Bool) → unsigned_abs (rows.or_zero (sizes_of words name)) ≤ 1048576 → unsigned_abs (rows.or_zero (if t then Some w.value else sizes_of words name)) ≤ 1048576
    by true rest = All-head (λ w. unsigned_abs w.value ≤ 1048576) w words all
    by false rest = rest

-- ---- the greatest coefficient and the greatest constant of the rows of a comparison

greatest_append : (xs ys : List ℤ) → greatest (xs ++ ys) ≡ max (greatest xs) (greatest ys)
greatest_append [] ys = omega arith
greatest_append (x ∷ xs) ys = let e = greatest_append xs ys in omega (arith, e)

flipped : (f g : Text → ℤ) (names : List Text) → greatest (map (λ n. f n -ℤ g n) names) ≡ greatest (map (λ n. g n -ℤ f n) names)
flipped f g [] = refl
flipped f g (n ∷ names) =
    let e = flipped f g names in
    let d : unsigned_abs (f n -ℤ g n) ≡ unsigned_abs (g n -ℤ f n) = omega (arith, ints) in
    ap (λ x. max x (greatest (map (λ n. f n -ℤ g n) names))) d ∙ ap (λ x. max (unsigned_abs (g n -ℤ f n)) x) e

pub greatest_of_rows : (sizes : Sizes) (names : List Text) (a b : IndexExpr) (r : Relation) → (r ≡ relation.Unequal → ⊥)
    → greatest (map (λ n. rows.coefficient a.terms n -ℤ rows.coefficient b.terms n) names) ≡ greatest (flat_map (λ q. q.coefficients) (compared sizes names a r b))
greatest_of_rows sizes names a b relation.Less ne = flipped (rows.coefficient a.terms) (rows.coefficient b.terms) names ∙ ap greatest (sym (append-nil (map (λ n. rows.coefficient b.terms n -ℤ rows.coefficient a.terms n) names)))
greatest_of_rows sizes names a b relation.LessEqual ne = flipped (rows.coefficient a.terms) (rows.coefficient b.terms) names ∙ ap greatest (sym (append-nil (map (λ n. rows.coefficient b.terms n -ℤ rows.coefficient a.terms n) names)))
greatest_of_rows sizes names a b relation.Greater ne = ap greatest (sym (append-nil (map (λ n. rows.coefficient a.terms n -ℤ rows.coefficient b.terms n) names)))
greatest_of_rows sizes names a b relation.GreaterEqual ne = ap greatest (sym (append-nil (map (λ n. rows.coefficient a.terms n -ℤ rows.coefficient b.terms n) names)))
greatest_of_rows sizes names a b relation.Equal ne =
    let p = map (λ n. rows.coefficient a.terms n -ℤ rows.coefficient b.terms n) names in
    let q = map (λ n. rows.coefficient b.terms n -ℤ rows.coefficient a.terms n) names in
    let e : greatest p ≡ greatest q = flipped (rows.coefficient a.terms) (rows.coefficient b.terms) names in
    let f : greatest (p ++ (q ++ [])) ≡ max (greatest p) (greatest (q ++ [])) = greatest_append p (q ++ []) in
    let g : greatest (q ++ []) ≡ greatest q = ap greatest (append-nil q) in
    omega (arith, e, f, g)
greatest_of_rows sizes names a b relation.Unequal ne = absurd (ne refl)

-- ---- numbers above a limit

pub written_exceeds : (m : Measure) (sizes : Sizes) (w : Written) (limit : ℕ) (x y : Option Counted)
    → x ≡ first_of (λ c. c.place) (λ e. exceeds limit (of_index m sizes w.names e)) w.indices
    → y ≡ first_of (λ c. c.place) (λ c. exceeds limit (of_row m sizes w.names c)) w.constraints
    → sooner (λ c. c.place) x y ≡ first_of (λ c. c.place) (exceeds limit) (numbers_of m sizes w)
written_exceeds m sizes w limit x y e f =
    rw (e, f) (ap (λ r. sooner (λ c. c.place) r (first_of (λ c. c.place) (λ c. exceeds limit (of_row m sizes w.names c)) w.constraints))
    (sym (first_map (λ c. c.place) (exceeds limit) (of_index m sizes w.names) w.indices))
    ∙ ap (λ r. sooner (λ c. c.place) (first_of (λ c. c.place) (exceeds limit) (map (of_index m sizes w.names) w.indices)) r)
    (sym (first_map (λ c. c.place) (exceeds limit) (of_row m sizes w.names) w.constraints))
    ∙ sym (first_append (λ c. c.place) (exceeds limit) (map (of_index m sizes w.names) w.indices) (map (of_row m sizes w.names) w.constraints)))

first_flat : {A B C : Type 0} (at : A → _) (rule : B → Option A) (f : C → List B) (xs : List C) → first_of at rule (flat_map f xs) ≡ first_of at (λ x. first_of at rule (f x)) xs
first_flat at rule f [] = refl
first_flat at rule f (x ∷ xs) = first_append at rule (f x) (flat_map f xs) ∙ ap (λ r. sooner at (first_of at rule (f x)) r) (first_flat at rule f xs)

pub great_is : (m : Measure) (s : System) (sizes : Sizes) (all : List WrittenMade) (first : Option Counted) → map written all ≡ all_written s
    → first ≡ first_of (λ c. c.place) (λ w. first_of (λ c. c.place) (exceeds (limit_of m)) (numbers_of m sizes (written w))) all
    → option_map (λ c. c.number) first ≡ great m s sizes
great_is m s sizes all first are e =
    ap (option_map (λ c. c.number)) (e ∙ sym (first_map (λ c. c.place) (λ w. first_of (λ c. c.place) (exceeds (limit_of m)) (numbers_of m sizes w)) written all)
    ∙ ap (first_of (λ c. c.place) (λ w. first_of (λ c. c.place) (exceeds (limit_of m)) (numbers_of m sizes w))) are
    ∙ sym (first_flat (λ c. c.place) (exceeds (limit_of m)) (numbers_of m sizes) (all_written s))) ∙ by m
  where
    by : (k : Measure) → option_map (λ c. c.number) (first_of (λ c. c.place) (exceeds (limit_of k)) (flat_map (numbers_of k sizes) (all_written s))) ≡ great k s sizes
    by measure.Coefficient = refl
    by measure.Constant = refl

-- ---- rows

pub rows_more : (sizes : Sizes) (names : List Text) (cs : List Constraint) (i : ℕ) (c : Constraint) (made new : List Form) → i < length cs → c ≡ get_or cs i c
    → made ++ rows_over sizes names (drop i cs) ≡ rows_over sizes names cs → new ≡ made ++ map form_of_row (compared sizes names c.left c.relation c.right)
    → new ++ rows_over sizes names (drop (i + 1) cs) ≡ rows_over sizes names cs
rows_more sizes names cs i c made new lt at so_far pushed =
    let here = map form_of_row (compared sizes names c.left c.relation c.right) in
    let rest = rows_over sizes names (drop (i + 1) cs) in
    let split : rows_over sizes names (drop i cs) ≡ here ++ rest =
    ap (rows_over sizes names) (next_item cs i c lt at)
    ∙ map-append form_of_row (compared sizes names c.left c.relation c.right) (flat_map (λ d. compared sizes names d.left d.relation d.right) (drop (i + 1) cs)) in
    ap (λ front. front ++ rest) pushed ∙ append_again made here rest ∙ ap (λ back. made ++ back) (sym split) ∙ so_far
  where
    append_again : (xs ys zs : List Form) → (xs ++ ys) ++ zs ≡ xs ++ (ys ++ zs)
    append_again [] ys zs = refl
    append_again (x ∷ xs) ys zs = ap (λ r. x ∷ r) (append_again xs ys zs)

pub row_is : (sizes : Sizes) (names : List Text) (a b : IndexExpr) (gap : ℤ) (coef : List ℤ) (k : ℤ)
    → coef ≡ filled (map (λ name. rows.coefficient a.terms name -ℤ rows.coefficient b.terms name) names)
    → k ≡ rows.constant sizes names a.terms -ℤ rows.constant sizes names b.terms -ℤ gap → ◌≡◌ {A = Form} (record { coef = coef; constant = k }) (form_of_row (rows.at_least sizes names a b gap))
row_is sizes names a b gap coef k e f = rw (e, f) refl

-- ---- the identity

pub identity_rows : (n : ℕ) → n ≤ 4 → take n (index_form 0 ∷ index_form 1 ∷ index_form 2 ∷ index_form 3 ∷ []) ≡ map index_form (range_with_len 0 n)
identity_rows zero l = refl
identity_rows (suc zero) l = refl
identity_rows (suc (suc zero)) l = refl
identity_rows (suc (suc (suc zero))) l = refl
identity_rows (suc (suc (suc (suc zero)))) l = refl
identity_rows (suc (suc (suc (suc (suc n))))) l = absurd (omega (arith, l))

-- ---- what is written

map_twice : {A B C : Type 0} (g : B → C) (f : A → B) (xs : List A) → map (λ x. g (f x)) xs ≡ map g (map f xs)
map_twice g f [] = refl
map_twice g f (x ∷ xs) = ap (λ ys. g (f x) ∷ ys) (map_twice g f xs)

pub written_is : (s : System) (vs : List (Bor Declaration)) (ps : List PartMade) (i : ℕ) → map (λ d. d.now) vs ≡ variables s → map part ps ≡ parts s → length ps ≤ i
    → written_sizes s.sizes ∷ (map (λ d. written_declaration d.now) vs ++ map (λ p. written_at (part p)) (take i ps)) ≡ all_written s
written_is s vs ps i are also past =
    ap (λ (qs : List PartMade). written_sizes s.sizes ∷ (map (λ d. written_declaration d.now) vs ++ map (λ p. written_at (part p)) qs)) (take_all i ps past)
    ∙ ap (λ ws. written_sizes s.sizes ∷ (ws ++ map (λ p. written_at (part p)) ps)) (map_twice written_declaration (λ d. d.now) vs ∙ ap (map written_declaration) are)
    ∙ ap (λ ws. written_sizes s.sizes ∷ (map written_declaration (variables s) ++ ws)) (map_twice written_at part ps ∙ ap (map written_at) also)

pub short_written : (s : System) (all : List WrittenMade) → map written all ≡ all_written s → HasShortSums s → All (λ w. IsShortWritten (written w)) all
short_written s all are short =
    all_from (λ w. IsShortWritten (written w)) all (λ w m. all_at IsShortWritten (all_written s) (written w) short (subst (λ ws. Among (written w) ws) are (among_image written all w m)))

-- ---- rows within the limits

small_row : (f : Form) → IsWithinLimits f → IsSmall f
small_row f h = record {
  coefficients = all_from (λ x. unsigned_abs x ≤ 2 ^ 40) f.coef (λ x m. let l = all_at (λ y. unsigned_abs y ≤ 1024) f.coef x h.coefficients m in omega (arith, l));
  constant = let l = h.constant in omega (arith, l);
}

-- the rows at the front of those of some comparisons
pub front_small : (sizes : Sizes) (names : List Text) (cs : List Constraint) (front rest : List Form) → front ++ rest ≡ rows_over sizes names cs → All (FitsRows sizes names) cs → All IsSmall front
front_small sizes names cs front rest e fits =
    (all_parts IsSmall front rest (subst (All IsSmall) (sym e) (all_from IsSmall (rows_over sizes names cs) (λ f m.
    let r = among_source form_of_row (flat_map (λ c. compared sizes names c.left c.relation c.right) cs) f m in
    let q = among_flat_source (λ c. compared sizes names c.left c.relation c.right) cs r.0 r.1 in
    let h = (all_at (FitsRows sizes names) cs q.0 fits q.1).1 in
    small_row f (subst IsWithinLimits r.2 (all_at IsWithinLimits (map form_of_row (compared sizes names q.0.left q.0.relation q.0.right)) (form_of_row r.0) h
    (among_image form_of_row (compared sizes names q.0.left q.0.relation q.0.right) r.0 q.2))))))).0

pub small_there : (o p : Option ℤ) → o ≡ p → unsigned_abs (rows.or_zero p) ≤ 1048576 → IfSome o (λ k. unsigned_abs k ≤ 1048576)
small_there o p e h = rw e (by p h)
  where
    by : (q : Option ℤ) → unsigned_abs (rows.or_zero q) ≤ 1048576 → IfSome q (λ k. unsigned_abs k ≤ 1048576)
    by None l = tt
    by (Some k) l = l

-- ---- places

pub place_there : (o : Option ℕ) (other p q : ℕ) → o ≡ Some p → (elim o [ None ↦ other | Some place ↦ place ]) ≡ q → p ≡ q
place_there o other p q e h = let x = rw e at h in x

pub place_missing : (o : Option ℕ) (other q : ℕ) → o ≡ None → (elim o [ None ↦ other | Some place ↦ place ]) ≡ q → other ≡ q
place_missing o other q e h = let x = rw e at h in x
