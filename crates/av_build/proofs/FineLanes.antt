-- The lanes of an array's program are lanes of a program: their sites have sources that are there, and their modes begin and end with numbers
-- of the counter.
use Rattle.std.proofs.Common.{◌≡◌, ◌⊎◌, ℕ, suc, ◌+◌, ◌-◌, ◌^◌, ◌<◌, ◌≤◌, List, [], ◌∷◌, length, refl, sym, subst, arith, ◌∙◌, ap, Bool, true, false, IsTrue, if◌then◌else◌, Option, Some, None, inl, inr}
use Rattle.std.specs.Prelude.{slice_get}
use Rattle.std.specs.List.{AllByRecursion}
use Rattle.std.proofs.lemmas.Bool.{cases_lt}
use Rattle.std.proofs.lemmas.Nat.{pow_pos}
use Rattle.av_base.specs.Words.{IsWord}
use Rattle.av_base.proofs.Lists.{each_weaker, some_is}
use Rattle.av_base.proofs.Widths.{width_is}
use Rattle.av_base.proofs.Among.{among_at}
use Rattle.av_affine.specs.declared.map.Map.{Map}
use Rattle.av_tree.specs.Points.{Point}
use Rattle.av_flat.specs.declared.tree.Choice.{Choice}
use Rattle.av_flat.specs.Trees.{FlatSystem, Tree, reference, constant, binary, choice, restriction, cases, dependence, reduction, pick}
use Rattle.av_flat.specs.Points.{has}
use Rattle.av_flat.specs.Values.{picked}
use Rattle.av_flat.specs.Nodes.{is_node, nodes, number_at}
use Rattle.av_flat.specs.Broadcasts.{references}
use Rattle.av_depend.specs.ComputedPlaces.{computed_at}
use Rattle.av_space.specs.Taps.{node_place, Pipeline, helper_at, each}
use Rattle.av_kinds.specs.declared.program.WordSource.{WordSource}
use Rattle.av_kinds.specs.declared.program.WordSource.TheVariants.{Word, Line}
use Rattle.av_kinds.specs.declared.program.Selection.{Selection}
use Rattle.av_kinds.specs.declared.program.Inlet.{Inlet}
use Rattle.av_kinds.specs.declared.program.Inlet.TheVariants.{Inputs, Taps, Pipe}
use Rattle.av_kinds.specs.declared.program.ProgramSite.{ProgramSite}
use Rattle.av_kinds.specs.declared.program.CellLanes.{CellLanes}
use Rattle.av_kinds.specs.Programs.{source_in, site_count, Work, Program, IsSource, IsInletOf, IsSite, FitsTree}
use Rattle.av_history.specs.Widths.{width_at, read_width, PicksAsWide}
use Rattle.av_history.specs.Places.{EachPlace}
use Rattle.av_history.specs.Performing.{Array, ComputesOn, Lanes, Spot, pipeline_at, IsHelpedSource, IsPlaceSource}
use Rattle.av_history.specs.Arranged.{IsArranged}
use Rattle.av_history.proofs.Words.{place_both}
use Rattle.av_history.proofs.Serving.{Reading, moved_by}
use Rattle.av_build.specs.inner.Programmed.{IsRight, IsSiteFor, inlet_by, Always, pipe_in, IsPiped, IsPlaceSite, IsWorkFor, IsProgramFor}
use Rattle.av_build.specs.inner.Built.{HasPorts}
use Rattle.av_build.proofs.Owned.{IsOwned, is_source, reference_owned, pick_owned}

-- ---- lists

both_each : {X : Type 0} (P Q : X → Type 0) (xs : List X) → AllByRecursion P xs → AllByRecursion Q xs → AllByRecursion (λ x. P x × Q x) xs
both_each P Q [] h g = tt
both_each P Q (x ∷ xs) h g = ((h.0, g.0), both_each P Q xs h.1 g.1)

pub each_found : {X : Type 0} (Q : X → Type 0) (xs : List X) → ((k : ℕ) → k < length xs → (x : X) × (slice_get xs k ≡ Some x) × Q x) → AllByRecursion Q xs
each_found Q [] h = tt
each_found Q (x ∷ xs) h =
    let first = h 0 (omega arith) in
    (subst Q (sym (some_is x first.0 first.1)) first.2, each_found Q xs (λ k lt. h (suc k) (omega arith)))

-- a fact on each number of a place
pub numbered : (R : ℕ → ℕ → Tree → Type 0) (Q : ℕ → Type 0) → ((k i : ℕ) (u : Tree) → R k i u → Q k) → (s n : ℕ) (t : Tree) → EachPlace R s n t → (k : ℕ) → s ≤ k → k < s + site_count t → Q k
numbered R Q f s n (reference place m) h k low high = let e : s ≡ k = omega arith in subst Q e (f s n (reference place m) h)
numbered R Q f s n (constant x) h k low high = absurd (omega arith)
numbered R Q f s n (binary g l r) h k low high = elim (cases_lt k (s + site_count l)) [
  | inl less ↦ numbered R Q f s n l h.0 k low less
  | inr more ↦ numbered R Q f (s + site_count l) (n + length (references l)) r h.1 k more (omega arith)
]
numbered R Q f s n (choice l c r x y) h k low high = elim (cases_lt k (s + site_count l)) [
  | inl less ↦ numbered R Q f s n l h.0 k low less
  | inr more ↦ elim (cases_lt k (s + site_count l + site_count r)) [
    | inl less ↦ numbered R Q f (s + site_count l) (n + length (references l)) r h.1 k more less
    | inr more ↦ elim (cases_lt k (s + site_count l + site_count r + site_count x)) [
      | inl less ↦ numbered R Q f (s + site_count l + site_count r) (n + length (references l) + length (references r)) x h.2 k more less
      | inr more ↦ numbered R Q f (s + site_count l + site_count r + site_count x) (n + length (references l) + length (references r) + length (references x)) y h.3 k more (omega arith)
    ]
  ]
]
numbered R Q f s n (pick place choices x) h k low high = let e : s ≡ k = omega arith in subst Q e (f s n (pick place choices x) h)
numbered R Q f s n _ h k low high = absurd h

-- the numbers of a tree are words, also those of picks
abbrev pub HasNumbers : ℕ → Tree → Type 0
HasNumbers w (constant k) = IsWord w k
HasNumbers w (binary g l r) = HasNumbers w l × HasNumbers w r
HasNumbers w (choice l c r x y) = HasNumbers w l × HasNumbers w r × HasNumbers w x × HasNumbers w y
HasNumbers w (pick place choices n) = IsWord w n
HasNumbers w _ = Unit {0}

pub fits_tree : (w : ℕ) (t : Tree) → HasNumbers w t → FitsTree w t
fits_tree w (reference place m) h = tt
fits_tree w (constant k) h = h
fits_tree w (binary g l r) h = (fits_tree w l h.0, fits_tree w r h.1)
fits_tree w (choice l c r x y) h = (fits_tree w l h.0, fits_tree w r h.1, fits_tree w x h.2, fits_tree w y h.3)
fits_tree w (pick place choices n) h = tt
fits_tree w (restriction d t) h = tt
fits_tree w (cases ts) h = tt
fits_tree w (dependence m t) h = tt
fits_tree w (reduction o m t set) h = tt

-- with what holds of the parts of the tree
pub with_words : (w : ℕ) (R : ℕ → ℕ → Tree → Type 0) (s n : ℕ) (t : Tree) → EachPlace R s n t → HasNumbers w t → EachPlace (λ k i u. R k i u × HasNumbers w u) s n t
with_words w R s n (reference place m) h f = (h, f)
with_words w R s n (constant x) h f = tt
with_words w R s n (binary g l r) h f = (with_words w R s n l h.0 f.0, with_words w R (s + site_count l) (n + length (references l)) r h.1 f.1)
with_words w R s n (choice l c r x y) h f = (
  with_words w R s n l h.0 f.0,
  with_words w R (s + site_count l) (n + length (references l)) r h.1 f.1,
  with_words w R (s + site_count l + site_count r) (n + length (references l) + length (references r)) x h.2 f.2,
  with_words w R (s + site_count l + site_count r + site_count x) (n + length (references l) + length (references r) + length (references x)) y h.3 f.3,
)
with_words w R s n (pick place choices x) h f = (h, f)
with_words w R s n _ h f = absurd h

-- ---- one site

abbrev pub IsFineSite : Program → ProgramSite → Type 0
IsFineSite program site = AllByRecursion (λ (l : Selection). (l.last < 2 ^ 12) × IsSource program site.width l.source) site.selections × IsSource program site.width site.otherwise

pub fine_site : (a : Array) (count : ℕ → ℕ) → ((c : ℕ) → count c < 2 ^ 12) → (program : Program) (at : Spot) → slice_get (nodes a.system) at.node ≡ Some at.variable → slice_get at.variable.pieces at.number ≡ Some at.piece
    → (R : Point → Type 0) (P : Point → ℕ → WordSource → Type 0) (site : ProgramSite) → IsSiteFor a count at R P site → ((c : ℕ) (z : Point) (source : WordSource) → Reading a at c z → R z → P z c source → IsOwned a program site.width at.cell source)
    → IsFineSite program site
fine_site a count few program at is_variable is_piece R P site h owned = (
  both_each (λ (l : Selection). l.last < 2 ^ 12) (λ (l : Selection). IsSource program site.width l.source) site.selections
      (each_weaker (λ (l : Selection). (c : ℕ) × (z : Point) × ComputesOn a at.cell c at.node z × (l.last ≡ count c)) (λ (l : Selection). l.last < 2 ^ 12) (λ l e. small l e) site.selections h.lasts)
      (each_weaker (λ (l : Selection). (l.source ≡ Word 0) ⊎ IsRight a at R P l.source) (λ (l : Selection). IsSource program site.width l.source) (λ l e. there l.source e) site.selections h.each.0),
  there site.otherwise h.each.1,
)
  where
    small : (l : Selection) → (c : ℕ) × (z : Point) × ComputesOn a at.cell c at.node z × (l.last ≡ count c) → l.last < 2 ^ 12
    small l (c, z, computes, e) = let b = few c in subst (λ (n : ℕ). n < 2 ^ 12) (sym e) b

    there : (source : WordSource) → (source ≡ Word 0) ⊎ IsRight a at R P source → IsSource program site.width source
    there source (inl e) = subst (IsSource program site.width) (sym e) (pow_pos site.width.bits)
    there source (inr (c, z, computes, inside, read, right)) =
        is_source a program site.width at.cell source (owned c z source (record { computes = computes; is_variable = is_variable; is_piece = is_piece; within = inside }) read right)

-- a pick taps
inlet_pick : (s : FlatSystem) (pipe : ℕ → ℕ) (o : Option Pipeline) (place : ℕ) (choices : List Choice) (n : ℕ) → inlet_by s pipe o (pick place choices n) ≡ Taps
inlet_pick s pipe None place choices n = refl
inlet_pick s pipe (Some h) place choices n = refl

-- by ports for words of input ports, or for those of lines
pub either_inlet : (program : Program) (first q : ℕ) (b : Bool) (site : ProgramSite) → IsFineSite program site → IsInletOf program first q (if b then Taps else Inputs) site
either_inlet program first q true site h = h
either_inlet program first q false site h = h

module _ (a : Array) (count : ℕ → ℕ) (few : (c : ℕ) → count c < 2 ^ 12) (lanes : Lanes) (program : Program) (g : IsProgramFor a count lanes program) (arranged : IsArranged a) (ports : HasPorts a program.inputs) where
  -- a piece on a cell, with a computation
  pub record IsBusy (at : Spot) (own : ℕ) : Type 0 where
    pub is_variable : slice_get (nodes a.system) at.node ≡ Some at.variable
    pub is_piece : slice_get at.variable.pieces at.number ≡ Some at.piece
    pub is_own : slice_get a.system.variables own ≡ Some at.variable
    pub own_node : is_node at.variable ≡ true
    pub number : at.node ≡ number_at a.system own
    pub own_place : node_place a.system at.node ≡ own
    pub cycle : ℕ
    pub point : Point
    pub computes : ComputesOn a at.cell cycle at.node point
    pub within : IsTrue (has at.piece.domain point)

  abbrev PlaceSite : ℕ → Spot → ℕ → Tree → ProgramSite → Type 0
  PlaceSite first at i t site = IsPlaceSite a count lanes first at i t site

  -- a reference without a helper
  plain_reference : (first q : ℕ) (at : Spot) (own : ℕ) → IsBusy at own → (i place : ℕ) (m : Map) (site : ProgramSite) → PlaceSite first at i (reference place m) site → pipeline_at a at i ≡ None → IsSite program first q site
  plain_reference first q at own busy i place m site h none =
      let inlet : site.inlet ≡ (if computed_at (slice_get a.system.variables place) then Taps else Inputs) = h.inlet ∙ ap (λ (o : Option Pipeline). inlet_by a.system (pipe_in lanes at.cell first) o (reference place m)) none in
      let wide : site.width.bits ≡ width_at a.system place = h.width ∙ ap (λ (o : Option Pipeline). read_width a.system at.variable.width o (reference place m)) none in
      let fine = fine_site a count few program at busy.is_variable busy.is_piece Always (λ z c source. IsPlaceSource a lanes at z c i (reference place m) source) site h.reads
      (λ c z source r read brought. reference_owned a count lanes program g arranged ports site.width at c z r i place m each refl wide (place, (refl, refl), refl) source
      (subst (λ (o : Option Pipeline). IsHelpedSource a lanes at o c i place m source) none brought)) in
      subst (λ (n : Inlet). IsInletOf program first q n site) (sym inlet) (either_inlet program first q (computed_at (slice_get a.system.variables place)) site fine)

  -- one with a helper
  piped_reference : (first q : ℕ) (at : Spot) (own : ℕ) → IsBusy at own → q ≡ lanes.of_value at.cell → (cell : CellLanes) → slice_get program.cells at.cell ≡ Some cell → cell.first ≡ first → (i place : ℕ) (m : Map) (site : ProgramSite) → PlaceSite first at i (reference place m) site
      → (o : Pipeline) → pipeline_at a at i ≡ Some o → IsSite program first q site
  piped_reference first q at own busy at_is cell is_cell first_is i place m site h o some =
      let read = subst (λ (u : Option Pipeline). IsHelpedSource a lanes at u busy.cycle i place m (source_in (count busy.cycle) site)) some (h.reads.all busy.cycle busy.point busy.computes busy.within tt) in
      let is_reference : slice_get (references at.piece.tree) i ≡ Some (record { place = place; map = m }) = read.0 in
      let moved = moved_by a at busy.is_piece own busy.is_own busy.own_node busy.number i place m o (ap (λ (k : ℕ). helper_at a.helpers k at.number i) (sym busy.own_place) ∙ some) is_reference in
      let there = g.helpers o.number moved.helper at.variable at.piece (record { place = place; map = m }) moved.is at.cell busy.cycle busy.point (subst (λ (k : ℕ). ComputesOn a at.cell busy.cycle k busy.point) moved.node busy.computes) busy.within in
      let inlet : site.inlet ≡ Pipe (lanes.of_helper o.number at.cell - first) = h.inlet ∙ ap (λ (u : Option Pipeline). inlet_by a.system (pipe_in lanes at.cell first) u (reference place m)) some in
      let piped = subst (λ (u : Option Pipeline). IsPiped lanes at.cell u (reference place m) site) some h.piped in
      let bits : site.width.bits ≡ at.variable.width = h.width ∙ ap (λ (u : Option Pipeline). read_width a.system at.variable.width u (reference place m)) some in
      let same : there.0 ≡ cell = some_is there.0 cell (sym there.1 ∙ is_cell) in
      let low : first ≤ lanes.of_helper o.number at.cell = subst (λ (n : ℕ). n ≤ lanes.of_helper o.number at.cell) (ap (λ (x : CellLanes). x.first) same ∙ first_is) there.2 in
      let sum : first + (lanes.of_helper o.number at.cell - first) ≡ lanes.of_helper o.number at.cell = omega (arith, low) in
      let value = g.value_last at.cell there.0 there.1 in
      let last = there.3 in
      let lane = there.4.0 in
      subst (λ (n : Inlet). IsInletOf program first q n site) (sym inlet) (
        lane,
        ap (slice_get program.lanes) sum ∙ there.4.1,
        width_is lane.width site.width (there.4.2.width_is ∙ sym bits),
        omega (arith, sum, last, value, at_is),
        piped.0,
        piped.1 ∙ ap (λ (n : ℕ). Line n 0) (sym sum),
      )

  -- a pick
  picking : (first q : ℕ) (at : Spot) (own : ℕ) → IsBusy at own → (i place : ℕ) (choices : List Choice) (n : ℕ) (site : ProgramSite) → PlaceSite first at i (pick place choices n) site → IsWord at.variable.width n → width_at a.system place ≡ at.variable.width → IsSite program first q site
  picking first q at own busy i place choices n site h fits wide =
      let fine = fine_site a count few program at busy.is_variable busy.is_piece Always (λ z c source. IsPlaceSource a lanes at z c i (pick place choices n) source) site h.reads
      (λ c z source r read brought. pick_owned a count lanes program g arranged ports site.width at c z r i place choices n (subst (λ (w : ℕ). IsWord w n) (sym h.width) fits) (h.width ∙ sym wide) (picked choices z) refl source brought) in
      subst (λ (x : Inlet). IsInletOf program first q x site) (sym (h.inlet ∙ inlet_pick a.system (pipe_in lanes at.cell first) (pipeline_at a at i) place choices n)) fine

  -- a place of the piece, in the lane of the cell's value
  place_fine : (first q : ℕ) (at : Spot) (own : ℕ) → IsBusy at own → q ≡ lanes.of_value at.cell → (cell : CellLanes) → slice_get program.cells at.cell ≡ Some cell → cell.first ≡ first
      → (i : ℕ) (t : Tree) (site : ProgramSite) → PlaceSite first at i t site → HasNumbers at.variable.width t → PicksAsWide a.system at.variable.width t → IsSite program first q site
  place_fine first q at own busy at_is cell is_cell first_is i (reference place m) site h fits wide = by_pipeline (pipeline_at a at i) refl
    where
      by_pipeline : (o : Option Pipeline) → pipeline_at a at i ≡ o → IsSite program first q site
      by_pipeline None e = plain_reference first q at own busy i place m site h e
      by_pipeline (Some o) e = piped_reference first q at own busy at_is cell is_cell first_is i place m site h o e
  place_fine first q at own busy at_is cell is_cell first_is i (pick place choices n) site h fits wide = picking first q at own busy i place choices n site h fits wide
  place_fine first q at own busy at_is cell is_cell first_is i _ site h fits wide = absurd (h.reads.all busy.cycle busy.point busy.computes busy.within tt)

  -- all places of the piece
  pub work_fine : (first q : ℕ) (at : Spot) (own : ℕ) → IsBusy at own → q ≡ lanes.of_value at.cell → (cell : CellLanes) → slice_get program.cells at.cell ≡ Some cell → cell.first ≡ first
      → (work : Work) → IsWorkFor a count lanes first at work → HasNumbers at.variable.width at.piece.tree → AllByRecursion (IsSite program first q) work.sites
  work_fine first q at own busy at_is cell is_cell first_is work h fits =
      let Sited : ℕ → ℕ → Tree → Type 0 = λ k i t. (site : ProgramSite) × (slice_get work.sites k ≡ Some site) × IsPlaceSite a count lanes first at i t site in
      let Good : ℕ → Type 0 = λ k. (site : ProgramSite) × (slice_get work.sites k ≡ Some site) × IsSite program first q site in
      let good : (k i : ℕ) (t : Tree) → PicksAsWide a.system at.variable.width t → Sited k i t → HasNumbers at.variable.width t → Good k =
      λ k i t wide x numbers. (x.0, x.1, place_fine first q at own busy at_is cell is_cell first_is i t x.0 x.2 numbers wide) in
      let Picks : ℕ → ℕ → Tree → Type 0 = λ k i t. PicksAsWide a.system at.variable.width t in
      let picks : EachPlace Picks 0 0 at.piece.tree = arranged.widths at.variable at.number at.piece (among_at a.system.variables own at.variable busy.is_own) busy.is_piece in
      let Fine : ℕ → ℕ → Tree → Type 0 = λ k i t. Sited k i t × Picks k i t in
      let all = with_words at.variable.width Fine 0 0 at.piece.tree (place_both Sited Picks 0 0 at.piece.tree h.sites picks) fits in
      each_found (IsSite program first q) work.sites
      (λ k low. numbered (λ k i t. Fine k i t × HasNumbers at.variable.width t) Good
      (λ k i t x. good k i t x.0.1 x.0.0 x.1) 0 0 at.piece.tree all k (omega arith) (let many = h.many in omega (arith, low, many)))
