-- The lanes of tasks that serve a system have the words of a solution: by the cycle, and in one cycle the helpers before the computations.
use Rattle.std.proofs.Common.{◌≡◌, ℕ, zero, suc, ◌<◌, ◌≤◌, List, [], ◌∷◌, map, refl, sym, ◌∙◌, ap, subst, arith, Bool, true, false, if◌then◌else◌, ◌&&◌, ◌||◌, Option, Some, None, inl, inr}
use Rattle.std.specs.Prelude.{slice_get, nat_eq}
use Rattle.std.specs.Str.{bytes_eq}
use Rattle.std.proofs.lemmas.Slice.Eq.{bytes_eq-Decides}
use Rattle.std.proofs.lemmas.List.Elements.{recursion_from_All}
use Rattle.std.proofs.lemmas.Bool.{cases_lt}
use Rattle.av_base.specs.Words.{IsWord}
use Rattle.av_affine.specs.declared.map.Map.{Map}
use Rattle.av_affine.specs.Maps.{image}
use Rattle.av_tree.specs.Points.{Point}
use Rattle.av_tree.specs.Trees.{Text}
use Rattle.av_tree.specs.Values.{Assignment}
use Rattle.av_flat.specs.Trees.{Tree, Piece, Variable, FlatSystem, reference, pick}
use Rattle.av_flat.specs.Points.{has}
use Rattle.av_flat.specs.declared.flat.Kind.{Kind}
use Rattle.av_flat.specs.Signatures.{Signature, signature, signatures, domain_has, is_declared, is_declared_at, is_input}
use Rattle.av_flat.specs.Values.{picked, HasPicked, IsWordAt}
use Rattle.av_flat.specs.Solutions.{scene}
use Rattle.av_flat.specs.declared.timed.Helper.{Helper}
use Rattle.av_flat.specs.Broadcasts.{Reference, references}
use Rattle.av_flat.specs.Helped.{before, IsEntry, PointWords, HelperWords, HasRead, HasHelped, helped_at, IsHelpedSolution}
use Rattle.av_space.specs.Taps.{Pipeline, helper_from, helper_at}
use Rattle.av_kinds.specs.declared.program.WordSource.{WordSource}
use Rattle.av_kinds.specs.declared.program.WordSource.TheVariants.{Line}
use Rattle.av_kinds.specs.Histories.{value_by, resized, Tasks, Signals, HasWord, IsHistory}
use Rattle.av_history.specs.Widths.{width_at, handed_width, read_width, PicksAsWide}
use Rattle.av_history.proofs.Serves.{Placement, Feeding, read_of, read_by, read_at, IsOfLane, IsPointBrought, IsHelperBrought, IsBrought, Serves}
use Rattle.av_history.proofs.Words.{place_weaker, value_is, piece_value}
use Rattle.av_history.proofs.Resized.{resized_same, assigned, read_word}
use Rattle.av_base.proofs.Lists.{some_is}

-- ---- declarations

pub signature_at : (vs : List Variable) (place : ℕ) (v : Variable) → slice_get vs place ≡ Some v → slice_get (map signature vs) place ≡ Some (signature v)
signature_at [] place v is = absurd cc
signature_at (first ∷ vs) zero v is = ap (λ (x : Variable). Some (signature x)) (some_is first v is)
signature_at (first ∷ vs) (suc place) v is = signature_at vs place v is

or_left : (a b : Bool) → a ≡ true → (a || b) ≡ true
or_left true b e = refl
or_left false b e = absurd cc

or_right : (a b : Bool) → b ≡ true → (a || b) ≡ true
or_right true b e = refl
or_right false b e = e

three : (a b c : Bool) → a ≡ true → b ≡ true → c ≡ true → (a && b && c) ≡ true
three a b c e f g = rw (e, f, g) refl

declared_at : (test : Kind → Bool) (vs : List Signature) (place : ℕ) (v : Signature) (z : Point) → slice_get vs place ≡ Some v → test v.kind ≡ true → has v.domain z ≡ true → is_declared test vs v.name z ≡ true
declared_at test [] place v z is passes in_domain = absurd cc
declared_at test (first ∷ vs) zero v z is passes in_domain =
    subst (λ (x : Signature). (test x.kind && bytes_eq x.name v.name && has x.domain z || is_declared test vs v.name z) ≡ true) (sym (some_is first v is))
    (or_left (test v.kind && bytes_eq v.name v.name && has v.domain z) (is_declared test vs v.name z) (three (test v.kind) (bytes_eq v.name v.name) (has v.domain z) passes ((bytes_eq-Decides v.name v.name).1 refl) in_domain))
declared_at test (first ∷ vs) (suc place) v z is passes in_domain =
    or_right (test first.kind && bytes_eq first.name v.name && has first.domain z) (is_declared test vs v.name z) (declared_at test vs place v z is passes in_domain)

some_same : (a b : ℕ) (o : Option ℕ) → o ≡ Some a → o ≡ Some b → a ≡ b
some_same a b o e f = cc

-- ---- helpers by reference

abbrev words_by : HelperWords → Option Pipeline → Option PointWords
words_by g None = None
words_by g (Some h) = Some (g h.number)

same_helper : (g : HelperWords) (hs : List Helper) (j place piece site : ℕ) → helped_at hs g j place piece site ≡ words_by g (helper_from j hs place piece site)
same_helper g [] j place piece site = refl
same_helper g (h ∷ hs) j place piece site = rw (same_helper g hs (suc j) place piece site) (by_test (nat_eq h.var place && nat_eq h.piece piece && nat_eq h.site site))
  where
    by_test : (b : Bool) → (if b then Some (g j) else words_by g (helper_from (suc j) hs place piece site)) ≡ words_by g (if b then Some (record { number = j; direction = h.direction }) else helper_from (suc j) hs place piece site)
    by_test true = refl
    by_test false = refl

-- ---- a history of tasks that serve the system, whose input ports have the words of the inputs

pub record Setting (s : FlatSystem) (hs : List Helper) (tasks : Tasks) (count : ℕ → ℕ) (Fed : Feeding) (At Hand : Placement) (x u : Assignment) (g : HelperWords) (n : ℕ) (ports lanes : Signals) : Type 0 where
  pub serves : Serves s hs tasks count Fed At Hand
  pub solves : IsHelpedSolution s hs x u g
  pub history : IsHistory tasks count n ports lanes
  pub presents : (k : ℕ) (name : Text) (y : Point) (c : ℕ) → Fed k name y c → c < n → Some (ports c k) ≡ x name y

-- the lane has in the cycle the word of the computation
abbrev pub HasValueOf : FlatSystem → Assignment → Signals → ℕ → Point → ℕ → ℕ → Type 0
HasValueOf s u lanes place z p c = assigned u (slice_get (signatures s) place) z ≡ Some (lanes c p)

-- and that of the helper
abbrev pub HasPipelineWord : HelperWords → Signals → ℕ → Point → ℕ → ℕ → Type 0
HasPipelineWord g lanes j z p c = g j z ≡ Some (lanes c p)

module _ (s : FlatSystem) (hs : List Helper) (tasks : Tasks) (count : ℕ → ℕ) (Fed : Feeding) (At Hand : Placement) (x u : Assignment) (g : HelperWords) (n : ℕ) (ports lanes : Signals)
    (t : Setting s hs tasks count Fed At Hand x u g n ports lanes) where
  -- all words of a cycle
  abbrev HasValues : ℕ → Type 0
  HasValues c = (place : ℕ) (z : Point) (p : ℕ) → At place z p c → HasValueOf s u lanes place z p c

  abbrev HavePipelineWords : ℕ → Type 0
  HavePipelineWords c = (j : ℕ) (z : Point) (p : ℕ) → Hand j z p c → HasPipelineWord g lanes j z p c

  -- the word of a source that is a line
  lane_word : (P : Placement) (c : ℕ) (source : WordSource) (b place : ℕ) (y : Point) → HasWord ports lanes c source b → (is : IsOfLane P c source place y) → b ≡ lanes is.cycle is.lane
  lane_word P c source b place y on is =
      let from_lane : HasWord ports lanes c (Line is.lane is.delay) b = subst (λ (r : WordSource). HasWord ports lanes c r b) is.from_line on in
      from_lane is.cycle is.later

  -- a source has the word of the point that it brings
  point_word : (c : ℕ) → c < n → ((b : ℕ) → b < c → HasValues b) → (source : WordSource) (b : ℕ) → HasWord ports lanes c source b → (place : ℕ) (y : Point)
      → IsPointBrought s Fed At c source place y → is_declared_at (signatures s) place y ≡ true → assigned u (slice_get (signatures s) place) y ≡ Some b
  point_word c lt earlier source b on place y (inl is) declared =
      let on_port : b ≡ ports c is.port = subst (λ (r : WordSource). HasWord ports lanes c r b) is.from_port on in
      let shown = t.presents is.port is.variable.name y c is.fed lt in
      let domain : has is.variable.domain y ≡ true = subst (λ (o : Option Signature). domain_has o y ≡ true) is.here declared in
      let same = t.solves.inputs is.variable.name y (declared_at is_input (signatures s) place is.variable y is.here is.is_input domain) in
      ap (λ (o : Option Signature). assigned u o y) is.here ∙ same ∙ sym shown ∙ ap Some (sym on_port)
  point_word c lt earlier source b on place y (inr is) declared =
      let l = is.of_lane in
      earlier l.cycle (omega (arith, is.some, l.later)) place y l.lane l.at ∙ ap Some (sym (lane_word At c source b place y on l))

  -- an equation of so many bits reads it as the place brings it
  read_at_point : (c : ℕ) → c < n → ((b : ℕ) → b < c → HasValues b) → (source : WordSource) (b : ℕ) → HasWord ports lanes c source b → (bits place : ℕ) (y : Point) (a : ℕ)
      → IsPointBrought s Fed At c source place y → IsWordAt (record { variables = signatures s; words = u; width = bits }) place y a → a ≡ resized (width_at s place) bits b
  read_at_point c lt earlier source b on bits place y a brought h =
      read_word s.variables u (recursion_from_All (λ (v : Variable). (z : Point) (w : ℕ) → u v.name z ≡ Some w → IsWord v.width w) s.variables t.solves.words) bits place y a b h.has
      (point_word c lt earlier source b on place y brought h.declared)

  -- and so does a pick, of words of the equation's width
  pick_word : (c : ℕ) → c < n → ((b : ℕ) → b < c → HasValues b) → (source : WordSource) (b : ℕ) → HasWord ports lanes c source b → (bits place k : ℕ) → width_at s place ≡ bits → (o : Option Point) (a : ℕ)
      → IsBrought s Fed At Hand c source (read_of place k o) → HasPicked (record { variables = signatures s; words = u; width = bits }) place k o a → a ≡ b
  pick_word c lt earlier source b on bits place k wide None a brought h =
      let number_is : b ≡ k = subst (λ (r : WordSource). HasWord ports lanes c r b) brought on in
      h ∙ sym number_is
  pick_word c lt earlier source b on bits place k wide (Some y) a brought h = read_at_point c lt earlier source b on bits place y a brought h ∙ resized_same (width_at s place) bits b wide

  -- and of a helper: the reference's at an entry, else the helper's own of an earlier cycle
  helper_word : (c : ℕ) → c < n → ((b : ℕ) → b < c → HasValues b) → ((b : ℕ) → b < c → HavePipelineWords b) → (source : WordSource) (b : ℕ) → HasWord ports lanes c source b
      → (bits j : ℕ) (z : Point) → (h : IsHelperBrought s hs Fed At Hand c source bits j z) → g j z ≡ Some (resized bits h.variable.width b)
  helper_word c lt earlier handed source b on bits j z h =
      let is = t.solves.helpers j h.helper h.helper_is in
      let same_variable : is.variable ≡ h.variable = some_of is.variable h.variable (slice_get s.variables h.helper.var) is.is h.variable_is in
      let same_piece : is.piece ≡ h.piece = some_of is.piece h.piece (slice_get h.variable.pieces h.helper.piece) (subst (λ (v : Variable). slice_get v.pieces h.helper.piece ≡ Some is.piece) same_variable is.is_piece) h.piece_is in
      let same_site : is.site ≡ h.read = some_of is.site h.read (slice_get (references h.piece.tree) h.helper.site) (subst (λ (q : Piece). slice_get (references q.tree) h.helper.site ≡ Some is.site) same_piece is.is_site) h.read_is in
      elim h.brought [
        | inl e ↦ (let r = is.entry z (subst (λ (q : Piece). IsEntry q.domain h.helper.direction z) (sym same_piece) e.entry) in
            let own : IsWordAt (scene s u h.variable) is.site.place (image is.site.map.rows z) r.0 = subst (λ (v : Variable). IsWordAt (scene s u v) is.site.place (image is.site.map.rows z) r.0) same_variable r.2 in
            let read : IsWordAt (scene s u h.variable) h.read.place (image h.read.map.rows z) r.0 = subst (λ (y : Reference). IsWordAt (scene s u h.variable) y.place (image y.map.rows z) r.0) same_site own in
            let word = read_at_point c lt earlier source b on h.variable.width h.read.place (image h.read.map.rows z) r.0 e.point read in
            r.1 ∙ ap Some (word ∙ ap (λ k. resized k h.variable.width b) (sym e.wide)))
        | inr e ↦ (let l = e.earlier.of_lane in
            let known = handed l.cycle (omega (arith, e.earlier.some, l.later)) j (before z h.helper.direction) l.lane l.at in
            let step = is.handed z (subst (λ (q : Piece). has q.domain z ≡ true) (sym same_piece) h.within) (subst (λ (q : Piece). has q.domain (before z h.helper.direction) ≡ true) (sym same_piece) e.inside) in
            step ∙ known ∙ ap Some (sym (lane_word Hand c source b j (before z h.helper.direction) on l) ∙ sym (resized_same bits h.variable.width b e.wide)))
      ]
    where
      some_of : {X : Type 0} (x y : X) (o : Option X) → o ≡ Some x → o ≡ Some y → x ≡ y
      some_of x y o e f = some_is x y (sym e ∙ f)

  -- ---- places that read

  -- a reference has the word of its source
  reference_word : (c : ℕ) → c < n → ((b : ℕ) → b < c → HasValues b) → ((b : ℕ) → b ≤ c → HavePipelineWords b) → (source : WordSource) (b : ℕ) → HasWord ports lanes c source b
      → (v : Variable) (z : Point) (place : ℕ) (m : Map) (h : Option Pipeline) → IsBrought s Fed At Hand c source (read_by h place (image m.rows z) z)
      → (a : ℕ) → HasRead (scene s u v) place m (words_by g h) z a → a ≡ resized (handed_width s v.width h place) v.width b
  reference_word c lt earlier handed source b on v z place m None brought a h = read_at_point c lt earlier source b on v.width place (image m.rows z) a brought h
  reference_word c lt earlier handed source b on v z place m (Some o) l a h =
      let known = handed l.cycle (omega (arith, l.later)) o.number z l.lane l.at in
      some_same a (lanes l.cycle l.lane) (g o.number z) h known ∙ sym (lane_word Hand c source b o.number z on l) ∙ sym (resized_same v.width v.width b refl)

  -- what a place reads has the word of its source
  place_word : (c : ℕ) → c < n → ((b : ℕ) → b < c → HasValues b) → ((b : ℕ) → b ≤ c → HavePipelineWords b) → (source : WordSource) (b : ℕ) → HasWord ports lanes c source b
      → (v : Variable) (own number : ℕ) (z : Point) (i : ℕ) (tree : Tree) → IsBrought s Fed At Hand c source (read_at (helper_at hs own number i) tree z) → PicksAsWide s v.width tree
      → (a : ℕ) → HasHelped (scene s u v) (helped_at hs g 0 own number) i tree z a → a ≡ resized (read_width s v.width (helper_at hs own number i) tree) v.width b
  place_word c lt earlier handed source b on v own number z i (reference place m) brought wide a h =
      reference_word c lt earlier handed source b on v z place m (helper_at hs own number i) brought a
      (subst (λ (o : Option PointWords). HasRead (scene s u v) place m o z a) (same_helper g hs 0 own number i) h)
  place_word c lt earlier handed source b on v own number z i (pick place choices k) brought wide a h =
      pick_word c lt earlier source b on v.width place k wide (picked choices z) a brought h ∙ sym (resized_same v.width v.width b refl)
  place_word c lt earlier handed source b on v own number z i _ brought wide a h = absurd brought

  -- ---- by the cycle

  -- the words of the helpers in one cycle, from the cycles before it
  one_rank : (c : ℕ) → c < n → ((b : ℕ) → b < c → HasValues b) → ((b : ℕ) → b < c → HavePipelineWords b) → HavePipelineWords c
  one_rank c lt earlier handed j z p at =
      let h = t.serves.helpers j z p c at in
      let task = h.task in
      let done = t.history c p task lt h.task_is in
      let on_lane : lanes c p ≡ resized (task.widths 0) task.width (done.brought 0) = done.value ∙ ap (λ (tree : Tree). value_by task.width (λ k. resized (task.widths k) task.width (done.brought k)) 0 tree) h.tree in
      let wide : resized (task.widths 0) h.brought.variable.width (done.brought 0) ≡ resized (task.widths 0) task.width (done.brought 0) = ap (λ k. resized (task.widths 0) k (done.brought 0)) (sym h.wide) in
      helper_word c lt earlier handed (task.sources 0) (done.brought 0) (done.has 0) (task.widths 0) j z h.brought ∙ ap Some (wide ∙ sym on_lane)

  -- those of the computations, from those and from the cycles before
  one_cycle : (c : ℕ) → c < n → ((b : ℕ) → b < c → HasValues b) → ((b : ℕ) → b ≤ c → HavePipelineWords b) → HasValues c
  one_cycle c lt earlier handed place z p at =
      let h = t.serves.values place z p c at in
      let v = h.variable in
      let task = h.task in
      let done = t.history c p task lt h.task_is in
      let satisfied = t.solves.equations place v h.variable_is h.computed z h.declared in
      let a = satisfied.0 in
      let value : HasHelped (scene s u v) (helped_at hs g 0 place h.number) 0 task.tree z a = piece_value (scene s u v) (helped_at hs g 0 place) z h.number task.tree a 0 v.pieces (λ k q at inside. let o = h.piece k q at inside in (omega (arith, o.0), o.1)) satisfied.3 in
      let words : ℕ → ℕ = λ k. resized (task.widths k) v.width (done.brought k) in
      let Brings : ℕ → ℕ → Tree → Type 0 = λ k i tree. IsBrought s Fed At Hand c (task.sources k) (read_at (helper_at hs place h.number i) tree z) × (task.widths k ≡ read_width s v.width (helper_at hs place h.number i) tree) × PicksAsWide s v.width tree in
      let each = place_weaker Brings (λ k i tree. (a : ℕ) → HasHelped (scene s u v) (helped_at hs g 0 place h.number) i tree z a → a ≡ words k)
      (λ k i tree brought a is. place_word c lt earlier handed (task.sources k) (done.brought k) (done.has k) v place h.number z i tree brought.0 brought.2 a is ∙ ap (λ m. resized m v.width (done.brought k)) (sym brought.1)) 0 0 task.tree h.brought in
      let is : a ≡ value_by v.width words 0 task.tree = value_is (scene s u v) (helped_at hs g 0 place h.number) z words 0 0 task.tree each a value in
      let same : a ≡ lanes c p = is ∙ ap (λ m. value_by m (λ k. resized (task.widths k) m (done.brought k)) 0 task.tree) (sym h.wide) ∙ sym done.value in
      ap (λ (o : Option Signature). assigned u o z) (signature_at s.variables place v h.variable_is) ∙ satisfied.1 ∙ ap Some same

  -- all cycles before one: in each the helpers before the computations
  before_cycle : (m c : ℕ) → c < m → c < n → HavePipelineWords c × HasValues c
  before_cycle zero c lt late = absurd (omega arith)
  before_cycle (suc m) c lt late =
      let values : (b : ℕ) → b < c → HasValues b = λ b below. (before_cycle m b (omega arith) (omega arith)).1 in
      let hands : (b : ℕ) → b < c → HavePipelineWords b = λ b below. (before_cycle m b (omega arith) (omega arith)).0 in
      let now = one_rank c late values hands in
      let up_to : (b : ℕ) → b ≤ c → HavePipelineWords b = λ b le. elim (cases_lt b c) [
        | inl less ↦ hands b less
        | inr more ↦ (let e : c ≡ b = omega arith in subst HavePipelineWords e now)
      ] in
      (now, one_cycle c late values up_to)

  -- Each computation's word is on its lane in its cycle.
  pub computed : (c : ℕ) → c < n → (place : ℕ) (z : Point) (p : ℕ) → At place z p c → HasValueOf s u lanes place z p c
  computed c lt place z p at = (before_cycle (suc c) c (omega arith) lt).1 place z p at

  -- And so is each helper's word.
  pub handed : (c : ℕ) → c < n → (j : ℕ) (z : Point) (p : ℕ) → Hand j z p c → HasPipelineWord g lanes j z p c
  handed c lt j z p at = (before_cycle (suc c) c (omega arith) lt).0 j z p at
