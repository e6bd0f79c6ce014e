-- Repeated names, by sets of names, and what is found by its name.
use Rattle.std.proofs.Common.{◌≡◌, ℕ, ◌+◌, ◌<◌, List, [], ◌∷◌, map, length, get_or, take, drop, Option, Some, None, option_map, Bool, true, false, not, ◌||◌, if◌then◌else◌, refl, ap, sym, ◌∙◌, arith, Bor}
use Rattle.std.specs.Prelude.{bytes_eq, find, cond}
use Rattle.std.proofs.lemmas.List.{get_or-map, length-map}
use Rattle.av_tree.specs.declared.system.Declaration.{Declaration}
use Rattle.av_tree.specs.declared.system.Equation.{Equation as EquationMade}
use Rattle.av_tree.specs.Trees.{Text, view_equation}
use Rattle.av_tree.specs.Rows.{is_index}
use Rattle.av_names.specs.inner.FirstAgain.{first_again}
use Rattle.av_names.specs.inner.Seen.{SameNames, equations_seen}
use Rattle.av_names.specs.Equations.{equation_found, declaration_found, second_equation}
use Rattle.av_names.specs.Repetitions.{again, second, repeated_variable}
use Rattle.av_names.proofs.Sets.{one_more}
use Rattle.av_base.proofs.Lists.{next_item}

pub again_same : (a b names : List Text) → SameNames a b → again a names ≡ again b names
again_same a b [] same = refl
again_same a b (n ∷ names) same =
    ap (λ t. if is_index names n || t then Some n else again a names) (same n)
    ∙ ap (λ r. if is_index names n || is_index b n then Some n else r) (again_same a b names same)

-- one more name, from behind
pub again_more : (sizes names : List Text) (i : ℕ) (item : Text) (set : List Text) (repeats : Bool) → i < length names → item ≡ get_or names i item → SameNames set (drop (i + 1) names)
    → (is_index set item || is_index sizes item) ≡ repeats → again sizes (drop i names) ≡ (if repeats then Some item else again sizes (drop (i + 1) names))
again_more sizes names i item set repeats lt at same test =
    ap (again sizes) (next_item names i item lt at)
    ∙ ap (λ t. if t then Some item else again sizes (drop (i + 1) names)) (ap (λ t. t || is_index sizes item) (sym (same item)) ∙ test)

pub behind_more : (names : List Text) (i : ℕ) (item : Text) (set set' : List Text) → i < length names → item ≡ get_or names i item → SameNames set' (item ∷ set) → SameNames set (drop (i + 1) names)
    → SameNames set' (drop i names)
behind_more names i item set set' lt at more same name =
    more name ∙ ap (λ t. bytes_eq item name || t) (same name) ∙ ap (λ ns. is_index ns name) (sym (next_item names i item lt at))

-- whether a name was there, by what the set says of putting it in
pub was_there : (added there : Bool) → added ≡ not there → added ≡ false → there ≡ true
was_there added true e f = refl
was_there added false e f = sym f ∙ e

pub was_new : (added there : Bool) → added ≡ not there → added ≡ true → there ≡ false
was_new added true e f = sym f ∙ e
was_new added false e f = refl

-- ---- names of things in a list

module _ {A : Type 0} (f : A → Text) where
  within : (xs : List A) (i : ℕ) → i < length xs → i < length (map f xs)
  within xs i lt = omega (arith, length-map xs f)

  here : (xs : List A) (i : ℕ) (x : A) → i < length xs → x ≡ get_or xs i x → f x ≡ get_or (map f xs) i (f x)
  here xs i x lt at = ap f at ∙ sym (get_or-map f xs i x (f x) lt)

  pub one_more_of : (xs : List A) (set set' : List Text) (i : ℕ) (x : A) → i < length xs → x ≡ get_or xs i x
      → ((name : Text) → is_index set' name ≡ (bytes_eq (f x) name || is_index set name)) → SameNames set (take i (map f xs)) → SameNames set' (take (i + 1) (map f xs))
  one_more_of xs set set' i x lt at = one_more (map f xs) set set' i (f x) (within xs i lt) (here xs i x lt at)

-- ---- the first whose name came before

module _ {A : Type 0} (f : A → Text) where
  pub again_alike : (a b : List Text) (xs : List A) → SameNames a b → first_again f a xs ≡ first_again f b xs
  again_alike a b [] same = refl
  again_alike a b (x ∷ xs) same =
      ap (λ t. if t then Some x else first_again f (f x ∷ a) xs) (same (f x))
      ∙ ap (λ r. if is_index b (f x) then Some x else r) (again_alike (f x ∷ a) (f x ∷ b) xs (λ name. ap (λ t. bytes_eq (f x) name || t) (same name)))

  -- one whose name is none of those before it
  pub again_later : (start set set' : List Text) (xs : List A) (i : ℕ) (x : A) → i < length xs → x ≡ get_or xs i x → SameNames set' (f x ∷ set) → is_index set (f x) ≡ false
      → first_again f start xs ≡ first_again f set (drop i xs) → first_again f start xs ≡ first_again f set' (drop (i + 1) xs)
  again_later start set set' xs i x lt at more other so_far =
      so_far ∙ ap (first_again f set) (next_item xs i x lt at) ∙ ap (λ t. if t then Some x else first_again f (f x ∷ set) (drop (i + 1) xs)) other
      ∙ again_alike (f x ∷ set) set' (drop (i + 1) xs) (λ name. sym (more name))

  -- its name alone
  pub again_named : (before : List Text) (xs : List A) → option_map f (first_again f before xs) ≡ second before (map f xs)
  again_named before [] = refl
  again_named before (x ∷ xs) = by (is_index before (f x)) (again_named (f x ∷ before) xs)
    where
      by : (t : Bool) → option_map f (first_again f (f x ∷ before) xs) ≡ second (f x ∷ before) (map f xs)
          → option_map f (if t then Some x else first_again f (f x ∷ before) xs) ≡ (if t then Some (f x) else second (f x ∷ before) (map f xs))
      by true e = refl
      by false e = e

pub name_again : (before names : List Text) → first_again (λ n. n) before names ≡ second before names
name_again before [] = refl
name_again before (n ∷ names) = ap (λ r. if is_index before n then Some n else r) (name_again (n ∷ before) names)

pub equation_again : (before : List Text) (es : List EquationMade)
    → option_map (λ e. equation_found (view_equation e)) (first_again (λ e. e.name) before es) ≡ second_equation before (equations_seen es)
equation_again before [] = refl
equation_again before (e ∷ es) = by (is_index before e.name) (equation_again (e.name ∷ before) es)
  where
    by : (t : Bool) → option_map (λ e. equation_found (view_equation e)) (first_again (λ e. e.name) (e.name ∷ before) es) ≡ second_equation (e.name ∷ before) (equations_seen es)
        → option_map (λ e. equation_found (view_equation e)) (if t then Some e else first_again (λ e. e.name) (e.name ∷ before) es)
        ≡ (if t then Some (equation_found (view_equation e)) else second_equation (e.name ∷ before) (equations_seen es))
    by true h = refl
    by false h = h

pub variable_again : (before : List Text) (vs : List (Bor Declaration))
    → option_map (λ d. declaration_found d.now) (first_again (λ d. d.now.name) before vs) ≡ repeated_variable before (map (λ d. d.now) vs)
variable_again before [] = refl
variable_again before (d ∷ vs) = by (is_index before d.now.name) (variable_again (d.now.name ∷ before) vs)
  where
    by : (t : Bool)
        → option_map (λ d. declaration_found d.now) (first_again (λ d. d.now.name) (d.now.name ∷ before) vs) ≡ repeated_variable (d.now.name ∷ before) (map (λ d. d.now) vs)
        → option_map (λ d. declaration_found d.now) (if t then Some d else first_again (λ d. d.now.name) (d.now.name ∷ before) vs)
        ≡ (if t then Some (declaration_found d.now) else repeated_variable (d.now.name ∷ before) (map (λ d. d.now) vs))
    by true h = refl
    by false h = h

-- ---- what is behind a reference that was found

pub told : {A B : Type 0} (g : A → B) (r : Option (Bor A)) (x : Option A) → option_map (λ y. y.now) r ≡ x → option_map (λ y. g y.now) r ≡ option_map g x
told g None x e = ap (option_map g) e
told g (Some y) x e = ap (option_map g) e

-- the first of many, and the first of what they are seen as
pub find_seen : {A B : Type 0} (v : A → B) (test : B → Bool) (xs : List A) → option_map v (find (λ x. test (v x)) xs) ≡ find test (map v xs)
find_seen v test [] = refl
find_seen v test (x ∷ xs) = by (test (v x)) (find_seen v test xs)
  where
    by : (t : Bool) → option_map v (find (λ x. test (v x)) xs) ≡ find test (map v xs)
        → option_map v (cond t (Some x) (find (λ x. test (v x)) xs)) ≡ cond t (Some (v x)) (find test (map v xs))
    by true h = refl
    by false h = h

pub twice_seen : {A B C : Type 0} (g : B → C) (v : A → B) (o : Option A) → option_map (λ x. g (v x)) o ≡ option_map g (option_map v o)
twice_seen g v None = refl
twice_seen g v (Some x) = refl
