-- The line that a link reads belongs to a cell, and if to a helper, to one of the helpers.
use Rattle.std.proofs.Common.{◌≡◌, ℕ, ◌+◌, ◌-◌, ◌<◌, List, [], ◌∷◌, ◌++◌, length, take, get_or, sym, subst, ap, ap₂, ◌∙◌, Option, max, if◌then◌else◌}
use Rattle.std.specs.BTreeMap.{BTreeMap}
use Rattle.std.proofs.lemmas.List.{take_more}
use Rattle.std.specs.Prelude.{IfSome}
use Rattle.av_flat.specs.declared.timed.Timed.{Timed}
use Rattle.av_flat.specs.declared.timed.Helper.{Helper}
use Rattle.av_flat.specs.Trees.{FlatSystem, view_system}
use Rattle.av_flat.specs.Legal.{IsLegal}
use Rattle.av_space.specs.declared.cells.Cell.{Cell}
use Rattle.av_space.specs.declared.cells.Link.{Link}
use Rattle.av_space.specs.declared.lengths.DelayLine.{DelayLine}
use Rattle.av_space.specs.Coordinates.{Placing}
use Rattle.av_flat.specs.Nodes.{node_place}
use Rattle.av_space.specs.Taps.{Way, each, entries, handed, helper_of, helper_read, IsTapped}
use Rattle.av_space.specs.Links.{IsStretch, AreLinks, line_length, delay_count}
use Rattle.av_space.specs.inner.Lengths.{is_line, line_of}
use Rattle.av_space.specs.Lengths.{length_in, AreLengths}
use Rattle.av_space.proofs.Elements.{in_range}
use Rattle.av_space.proofs.FineSites.{IsKnown, fine_tap}
use Rattle.av_flat.proofs.NodeNumbers.{chained_node}
use Rattle.av_space.proofs.LineLengths.{lengths_more, count_more, tapped_helper}

known_of : (t : Timed) (legal : IsLegal t) (way : Way) → IsKnown t legal way → IfSome (helper_of way) (λ h. h < length t.helpers)
known_of t legal each k = tt
known_of t legal (entries w) k = tt
known_of t legal (handed h w) k = k

known_helper : (t : Timed) → IsLegal t → (placings : List Placing) (cells : List Cell) (p j c q d : ℕ) → IsTapped (view_system t.flat) t.helpers placings cells p j c q d
    → IfSome (helper_read (view_system t.flat) t.helpers cells p j) (λ h. h < length t.helpers)
known_helper t legal placings cells p j c q d r =
    let s = view_system t.flat in
    let f = fine_tap t legal (node_place s r.node) r.variable (chained_node s r.node r.variable legal.chained r.is_variable) j r.tap r.is_tap in
    subst (λ (o : Option ℕ). IfSome o (λ h. h < length t.helpers)) (sym (tapped_helper s t.helpers placings cells p j c q d r)) (known_of t legal r.tap.way f.known)

-- so the registers of all lines grow by what that line grows
pub link_counted : (t : Timed) → IsLegal t → (placings : List Placing) (cells : List Cell) (links : List Link) (l : Link) → IsStretch (view_system t.flat) t.helpers placings cells l
    → delay_count (view_system t.flat) t.helpers cells (links ++ l ∷ []) ≡ delay_count (view_system t.flat) t.helpers cells links
    + (l.delay - line_length (view_system t.flat) t.helpers cells links l.producer (helper_read (view_system t.flat) t.helpers cells l.consumer l.site))
link_counted t legal placings cells links l h =
    count_more (view_system t.flat) t.helpers cells links l (in_range cells l.producer h.begins.computed.cell h.begins.computed.is_cell)
    (known_helper t legal placings cells l.consumer l.site l.first l.producer l.delay h.begins)

-- the next link
pub one_line_more : (s : FlatSystem) (hs : List Helper) (cells : List Cell) (links : List Link) (k : ℕ) (d : Link) → k < length links
    → (m n : BTreeMap DelayLine ℕ) (line : DelayLine) → line ≡ line_of s hs cells (get_or links k d) → (delay : ℕ) → delay ≡ (get_or links k d).delay → AreLengths s hs cells (take k links) m
    → ((q : DelayLine) → length_in n q ≡ (if is_line line q then max (length_in m q) delay else length_in m q)) → AreLengths s hs cells (take (k + 1) links) n
one_line_more s hs cells links k d low m n line here delay when h raised =
    let l = get_or links k d in
    let own = line_of s hs cells l in
    let one : take (k + 1) links ≡ take k links ++ l ∷ [] = take_more links k d low in
    let all : (q : DelayLine) → length_in n q ≡ (if is_line own q then max (length_in m q) l.delay else length_in m q) = λ q. raised q ∙ ap (λ (x : DelayLine). if is_line x q then max (length_in m q) delay else length_in m q) here ∙ ap (λ e. if is_line own q then max (length_in m q) e else length_in m q) when in
    subst (λ (ls : List Link). AreLengths s hs cells ls n) (sym one) (lengths_more s hs cells (take k links) l m n h all)

-- the same, with the registers
pub one_link_more : (t : Timed) → IsLegal t → (placings : List Placing) (cells : List Cell) (links : List Link) → AreLinks (view_system t.flat) t.helpers placings cells links → (k : ℕ) (d : Link) → k < length links
    → (m n : BTreeMap DelayLine ℕ) (line : DelayLine) → line ≡ line_of (view_system t.flat) t.helpers cells (get_or links k d) → (delay : ℕ) → delay ≡ (get_or links k d).delay → AreLengths (view_system t.flat) t.helpers cells (take k links) m
    → (count by : ℕ) → count ≡ delay_count (view_system t.flat) t.helpers cells (take k links) → by ≡ delay - length_in m line
    → ((q : DelayLine) → length_in n q ≡ (if is_line line q then max (length_in m q) delay else length_in m q))
    → AreLengths (view_system t.flat) t.helpers cells (take (k + 1) links) n × (count + by ≡ delay_count (view_system t.flat) t.helpers cells (take (k + 1) links))
one_link_more t legal placings cells links are k d low m n line here delay when h count by counted grown raised =
    let s = view_system t.flat in
    let hs = t.helpers in
    let l = get_or links k d in
    let own = line_of s hs cells l in
    let one : take (k + 1) links ≡ take k links ++ l ∷ [] = take_more links k d low in
    let by_is : by ≡ l.delay - line_length s hs cells (take k links) own.cell.0 own.helper = grown ∙ ap₂ (λ (e : ℕ) (x : DelayLine). e - length_in m x) when here ∙ ap (λ e. l.delay - e) (h own) in (
      one_line_more s hs cells links k d low m n line here delay when h raised,
      ap₂ (λ a b. a + b) counted by_is ∙ sym (link_counted t legal placings cells (take k links) l (are.each k d low)) ∙ ap (delay_count s hs cells) (sym one),
    )
