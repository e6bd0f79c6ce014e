-- Variables by their places.
use Rattle.std.proofs.Common.{◌≡◌, ℕ, zero, suc, ◌<◌, ◌≤◌, ◌+◌, List, [], ◌∷◌, length, map, get_or, drop, Some, None, refl, sym, ap, subst, ◌∙◌, arith}
use Rattle.std.specs.Prelude.{slice_get}
use Rattle.std.proofs.Math.Seq.{drop-cons}
use Rattle.av_affine.specs.declared.map.Map.{Map}
use Rattle.av_flat.specs.declared.tree.Tree.{Tree as TreeMade}
use Rattle.av_flat.specs.Trees.{view, trees_of}
use Rattle.av_check.specs.inner.Reachable.{IsReachable, AreReachable}
use Rattle.av_tree.specs.Trees.{Text}
use Rattle.std.proofs.lemmas.List.{length-map}
use Rattle.std.proofs.lemmas.Option.{slice_get_past}
use Rattle.av_check.specs.Blame.{Blamed, named, named_as}
use Rattle.av_tree.specs.Points.{Point}
use Rattle.av_flat.specs.declared.flat.Var.{Var}
use Rattle.av_flat.specs.Trees.{view_variable}
use Rattle.av_flat.specs.Points.{has}
use Rattle.av_flat.specs.Signatures.{Signature, signature, domain_has, is_declared_at}
use Rattle.av_flat.specs.WellFormed.{dimension_of}

pub signature_at : (vars : List Var) (place : ℕ) (d : Var) → place < length vars → slice_get (map signature (map view_variable vars)) place ≡ Some (signature (view_variable (get_or vars place d)))
signature_at [] place d l = absurd (omega (arith, l))
signature_at (v ∷ vars) zero d l = refl
signature_at (v ∷ vars) (suc place) d l = signature_at vars place d (omega (arith, l))

the_same : (a b : ℕ) → Some a ≡ Some b → a ≡ b
the_same a b p = cc

pub dimension_at : (vars : List Var) (place : ℕ) (d : Var) (n : ℕ) → place < length vars → dimension_of (slice_get (map signature (map view_variable vars)) place) ≡ Some n → n ≡ (get_or vars place d).domain.dim
dimension_at vars place d n l e = sym (the_same _ n (ap dimension_of (sym (signature_at vars place d l)) ∙ e))

pub declared_at : (vars : List Var) (place : ℕ) (d : Var) (z : Point) → place < length vars → is_declared_at (map signature (map view_variable vars)) place z ≡ has (get_or vars place d).domain z
declared_at vars place d z l = ap (λ o. domain_has o z) (signature_at vars place d l)

pub place_within : (vars : List Var) (place n : ℕ) → dimension_of (slice_get (map signature (map view_variable vars)) place) ≡ Some n → place < length vars
place_within [] place n e = absurd cc
place_within (v ∷ vars) zero n e = omega arith
place_within (v ∷ vars) (suc place) n e = let l = place_within vars place n e in omega (arith, l)

pub named_here : (vars : List Var) (b : Blamed) (d : Var) (name : Text) → b.var < length vars → name ≡ (get_or vars b.var d).name → Some (name, b.point) ≡ named (map signature (map view_variable vars)) (Some b)
named_here vars b d name l e = ap (λ (n : Text). Some (n, b.point)) e ∙ sym (ap (λ o. named_as o b.point) (signature_at vars b.var d l))

pub named_past : (vars : List Var) (b : Blamed) → length vars ≤ b.var → None ≡ named (map signature (map view_variable vars)) (Some b)
named_past vars b l =
    let m = length-map vars view_variable in
    let n = length-map (map view_variable vars) signature in
    sym (ap (λ o. named_as o b.point) (slice_get_past (map signature (map view_variable vars)) b.var (omega (arith, l, m, n))))

-- the next of the branches stands, and those behind it
pub next_stands : (vs : List Signature) (ds : List Map) (trees : List TreeMade) (i : ℕ) (t : TreeMade) (z : Point) → i < length trees → t ≡ get_or trees i t → AreReachable vs ds (trees_of (map view (drop i trees))) z
    → IsReachable vs ds (view t) z × AreReachable vs ds (trees_of (map view (drop (i + 1) trees))) z
next_stands vs ds trees i t z l e h =
    let s : suc i ≡ i + 1 = omega arith in
    let parted : drop i trees ≡ t ∷ drop (i + 1) trees = drop-cons trees i t l ∙ ap (λ x. x ∷ drop (suc i) trees) (sym e) ∙ ap (λ (j : ℕ). t ∷ drop j trees) s in
    subst (λ (ts : List TreeMade). AreReachable vs ds (trees_of (map view ts)) z) parted h
