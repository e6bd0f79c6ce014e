-- Lines of nodes that are written one after another.
use Rattle.std.proofs.Common.{◌≡◌, ℕ, ◌+◌, ◌<◌, ◌≤◌, Bool, true, false, List, [], ◌∷◌, ◌++◌, length, map, filter, get_or, take, drop, sym, ◌∙◌, ap, append_assoc, arith, if◌then◌else◌}
use Rattle.std.proofs.lemmas.List.{append-nil, take_more, map-append, take-append-drop, take_all, length-append}
use Rattle.std.proofs.lemmas.List.Elements.{filter-append}
use Rattle.av_flat.specs.declared.timed.Time.{Time}
use Rattle.av_flat.specs.declared.flat.Var.{Var}
use Rattle.av_flat.specs.Trees.{Variable, view_variable}
use Rattle.av_flat.specs.Nodes.{is_node}
use Rattle.av_data.specs.Schedules.{time_line, time_lines}

-- a node more
lines_more : (vs : List Variable) (ts : List Time) (v : Variable) (d : Time) → length vs < length ts → time_lines (vs ++ v ∷ []) ts ≡ time_lines vs ts ++ time_line v (get_or ts (length vs) d)
lines_more vs [] v d l = absurd (omega (arith, l))
lines_more [] (t ∷ ts) v d l = append-nil (time_line v t)
lines_more (w ∷ vs) (t ∷ ts) v d l =
    ap (λ rest. time_line w t ++ rest) (lines_more vs ts v d (omega (arith, l)))
    ∙ sym (append_assoc (time_line w t) (time_lines vs ts) (time_line v (get_or ts (length vs) d)))

-- the nodes among the first of the variables
abbrev pub first_nodes : List Var → ℕ → List Variable
first_nodes vars i = filter is_node (map view_variable (take i vars))

pub node_more : (vars : List Var) (i : ℕ) (v d : Var) → i < length vars → get_or vars i d ≡ v → is_node (view_variable v) ≡ true → first_nodes vars (i + 1) ≡ first_nodes vars i ++ view_variable v ∷ []
node_more vars i v d l e node =
    ap (λ (xs : List Var). filter is_node (map view_variable xs)) (take_more vars i d l)
    ∙ ap (filter is_node) (map-append view_variable (take i vars) (get_or vars i d ∷ []))
    ∙ filter-append is_node (map view_variable (take i vars)) (view_variable (get_or vars i d) ∷ [])
    ∙ ap (λ x. first_nodes vars i ++ filter is_node (view_variable x ∷ [])) e
    ∙ ap (λ (b : Bool). first_nodes vars i ++ (if b then view_variable v ∷ [] else [])) node

pub other_more : (vars : List Var) (i : ℕ) (v d : Var) → i < length vars → get_or vars i d ≡ v → is_node (view_variable v) ≡ false → first_nodes vars (i + 1) ≡ first_nodes vars i
other_more vars i v d l e node =
    ap (λ (xs : List Var). filter is_node (map view_variable xs)) (take_more vars i d l)
    ∙ ap (filter is_node) (map-append view_variable (take i vars) (get_or vars i d ∷ []))
    ∙ filter-append is_node (map view_variable (take i vars)) (view_variable (get_or vars i d) ∷ [])
    ∙ ap (λ x. first_nodes vars i ++ filter is_node (view_variable x ∷ [])) e
    ∙ ap (λ (b : Bool). first_nodes vars i ++ (if b then view_variable v ∷ [] else [])) node
    ∙ append-nil (first_nodes vars i)

-- the lines so far and that of one more node
pub node_line : (vars : List Var) (ts : List Time) (i next : ℕ) (v d : Var) (e : Time) → i < length vars → get_or vars i d ≡ v → is_node (view_variable v) ≡ true → next ≡ length (first_nodes vars i) → next < length ts
    → time_lines (first_nodes vars (i + 1)) ts ≡ time_lines (first_nodes vars i) ts ++ time_line (view_variable v) (get_or ts next e)
node_line vars ts i next v d e l is node at within =
    ap (λ (xs : List Variable). time_lines xs ts) (node_more vars i v d l is node)
    ∙ lines_more (first_nodes vars i) ts (view_variable v) e (omega (arith, at, within))
    ∙ ap (λ (k : ℕ). time_lines (first_nodes vars i) ts ++ time_line (view_variable v) (get_or ts k e)) (sym at)

no_more_nodes : (vars : List Var) (i : ℕ) → length (first_nodes vars i) ≤ length (filter is_node (map view_variable vars))
no_more_nodes vars i =
    let all : filter is_node (map view_variable vars) ≡ first_nodes vars i ++ filter is_node (map view_variable (drop i vars)) =
    ap (λ (xs : List Var). filter is_node (map view_variable xs)) (sym (take-append-drop i vars))
    ∙ ap (filter is_node) (map-append view_variable (take i vars) (drop i vars))
    ∙ filter-append is_node (map view_variable (take i vars)) (map view_variable (drop i vars))
    in
    let sum = ap length all ∙ length-append (first_nodes vars i) (filter is_node (map view_variable (drop i vars))) in
    omega (arith, sum)

-- each node has a time
pub has_time : (vars : List Var) (ts : List Time) (i next : ℕ) (v d : Var) → length ts ≡ length (filter is_node (map view_variable vars)) → i < length vars → get_or vars i d ≡ v → is_node (view_variable v) ≡ true
    → next ≡ length (first_nodes vars i) → next < length ts
has_time vars ts i next v d each l e node at =
    let more = ap length (node_more vars i v d l e node) ∙ length-append (first_nodes vars i) (view_variable v ∷ []) in
    let most = no_more_nodes vars (i + 1) in
    omega (arith, each, at, more, most)

pub all_nodes : (vars : List Var) (i : ℕ) → length vars ≤ i → first_nodes vars i ≡ filter is_node (map view_variable vars)
all_nodes vars i l = ap (λ (xs : List Var). filter is_node (map view_variable xs)) (take_all i vars l)
