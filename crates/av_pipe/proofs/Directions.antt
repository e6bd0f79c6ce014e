-- Directions that move a reference: points along them.
use Rattle.std.proofs.Common.{◌≡◌, ℤ, pos, ◌+ℤ◌, ◌-ℤ◌, ◌*ℤ◌, ◌≤ℤ◌, true, IsTrue, Some, List, [], ◌∷◌, length, filter, refl, sym, ap₂, ◌∙◌, arith}
use Rattle.std.specs.List.{list_all}
use Rattle.std.specs.Ordering.{int_eq}
use Rattle.std.proofs.lemmas.Int.{ints}
use Rattle.std.proofs.lemmas.List.Elements.{All-filter, filter_passes}
use Rattle.std.proofs.lemmas.Bool.Decides.{Decides-int_eq}
use Rattle.av_affine.specs.declared.form.Form.{Form}
use Rattle.av_affine.specs.declared.map.Map.{Map}
use Rattle.av_affine.specs.Numbers.{dot}
use Rattle.av_affine.specs.Forms.{value_at}
use Rattle.av_affine.specs.Maps.{image}
use Rattle.av_affine.proofs.Ring.{times_sum, times_neg}
use Rattle.av_tree.specs.Points.{Point}
use Rattle.av_flat.specs.Broadcasts.{directions, stays, along, moves, first_moving}
use Rattle.av_flat.specs.Helped.{before}
use Rattle.av_flat.proofs.Sets.{both_true}
use Rattle.av_flat.proofs.SignVectors.{moving_vector}
use Rattle.av_base.proofs.Lists.{all_at}

-- ---- sums of products at the point before

times_less : (c x y : ℤ) → c *ℤ (x -ℤ y) ≡ c *ℤ x -ℤ c *ℤ y
times_less c x y = simp (times_sum, times_neg) (omega (arith, ints))

pub dot_before : (cs z w : List ℤ) → length w ≡ length z → dot cs (before z w) ≡ dot cs z -ℤ dot cs w
dot_before [] z w e = omega (arith, ints)
dot_before (c ∷ cs) [] [] e = omega (arith, ints)
dot_before (c ∷ cs) [] (y ∷ w) e = absurd (omega (arith, e))
dot_before (c ∷ cs) (x ∷ z) [] e = absurd (omega (arith, e))
dot_before (c ∷ cs) (x ∷ z) (y ∷ w) e = let r = dot_before cs z w (omega (arith, e)) in let t = times_less c x y in omega (arith, ints, r, t)

-- ---- the first direction that moves a reference

pub record IsMover (linear w : Point) (m : Map) : Type 0 where
  pub size : length w ≡ m.from
  pub stays : IsTrue (stays m w)
  pub moves : IsTrue (moves linear w)

pub mover : (linear w : Point) (m : Map) → first_moving linear m ≡ Some w → IsMover linear w m
mover linear w m e =
    let all = filter (moves linear) (along m) in
    let staying = All-filter (moves linear) (λ (v : Point). stays m v ≡ true) (along m) (filter_passes (stays m) (directions m.from)) in
    record {
      size = (moving_vector linear w m e).size;
      stays = all_at (λ (v : Point). stays m v ≡ true) all 0 w staying e;
      moves = all_at (λ (v : Point). moves linear v ≡ true) all 0 w (filter_passes (moves linear) (along m)) e;
    }

-- ---- points along it

image_stays : (forms : List Form) (z w : Point) → length w ≡ length z → IsTrue (list_all (λ f. int_eq (dot f.coef w) (pos 0)) forms) → image forms (before z w) ≡ image forms z
image_stays [] z w e h = refl
image_stays (f ∷ forms) z w e h =
    let p = both_true (int_eq (dot f.coef w) (pos 0)) (list_all (λ f. int_eq (dot f.coef w) (pos 0)) forms) h in
    let none = (Decides-int_eq (dot f.coef w) (pos 0)).0 p.0 in
    let d = dot_before f.coef z w e in
    let value : value_at f (before z w) ≡ value_at f z = omega (arith, ints, none, d) in
    ap₂ (λ a b. a ∷ b) value (image_stays forms z w e p.1)

-- the reference reads the same point
pub same_image : (linear w : Point) (m : Map) (z : Point) → IsMover linear w m → length z ≡ m.from → image m.rows (before z w) ≡ image m.rows z
same_image linear w m z is e = image_stays m.rows z w (is.size ∙ sym e) is.stays

pub above : (linear w : Point) → IsTrue (moves linear w) → pos 1 ≤ℤ dot linear w
above linear w h = omega (arith, ints, h)

-- the point before is at least a cycle earlier
pub earlier : (linear w : Point) (m : Map) (z : Point) → IsMover linear w m → length z ≡ m.from → (dot linear (before z w) +ℤ pos 1) ≤ℤ dot linear z
earlier linear w m z is e = let d = dot_before linear z w (is.size ∙ sym e) in let a = above linear w is.moves in omega (arith, ints, d, a)
