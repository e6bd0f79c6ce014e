-- What of a text stands first: the thing with the first place, and of things at one place the one that is listed first.
use Rattle.std.specs.Prelude.{Bool, ◌&&◌, ◌||◌, nat_eq, nat_lt, List, [], ◌∷◌, Option, Some, None, if◌then◌else◌}
use Rattle.av_base.specs.declared.place.Place.{Place}
use Rattle.av_tree.specs.Trees.{Text}

-- a comes before b in the text
abbrev pub is_before : Place → Place → Bool
is_before a b = nat_lt a.line b.line || (nat_eq a.line b.line && nat_lt a.column b.column)

-- a name that is told with a place
pub record Found : Type 0 where
  pub name : Text
  pub place : Place

-- the one of two that stands first, and the left one where both stand at one place
abbrev pub sooner : {A : Type 0} → (A → Place) → Option A → Option A → Option A
sooner at None y = y
sooner at (Some x) None = Some x
sooner at (Some x) (Some y) = if is_before (at y) (at x) then Some y else Some x

-- the first of what the rule finds at each of the objects
abbrev pub first_of : {A B : Type 0} → (A → Place) → (B → Option A) → List B → Option A
first_of at rule [] = None
first_of at rule (x ∷ xs) = sooner at (rule x) (first_of at rule xs)

abbrev pub first_found : {B : Type 0} → (B → Option Found) → List B → Option Found
first_found = first_of (λ f. f.place)

-- the first place that the rule finds
abbrev pub first_place : {B : Type 0} → (B → Option Place) → List B → Option Place
first_place = first_of (λ place. place)

abbrev pub found_where : Bool → Text → Place → Option Found
found_where test name place = if test then Some (record { name = name; place = place }) else None

abbrev pub place_where : Bool → Place → Option Place
place_where test place = if test then Some place else None
