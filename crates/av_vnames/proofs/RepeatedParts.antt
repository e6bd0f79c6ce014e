-- Names of the flat wires of instances that stand a second time.
use Rattle.std.proofs.Common.{◌≡◌, Bool, true, false, cond, List, [], ◌∷◌, ◌++◌, map, Some, refl, sym, ap, ◌∙◌}
use Rattle.std.specs.Prelude.{◌||◌}
use Rattle.std.specs.Str.{bytes_eq}
use Rattle.av_net.specs.declared.plan.CellKind.{CellKind}
use Rattle.av_net.specs.Names.{clk, rst, names_of}
use Rattle.av_net.specs.Grammar.{Text, Item, drive, widening, step, instance}
use Rattle.av_net.specs.Rows.{Among, is_in, kinds_of, instances_in, declared_names, first_repeated, top_names}
use Rattle.av_vnames.specs.Scoped.{Bytes}
use Rattle.av_vnames.specs.inner.Scoped.{instances_named, own_names}
use Rattle.av_vnames.proofs.Walks.{any_or_of}
use Rattle.av_vnames.proofs.RowWalks.{same_test, more_names}

pub repeated_same : (a b names : List Bytes) → ((q : Bytes) → is_in a q ≡ is_in b q) → first_repeated a names ≡ first_repeated b names
repeated_same a b [] h = refl
repeated_same a b (name ∷ names) h =
    ap (λ (t : Among). cond (t name) (Some name) (first_repeated (a ++ name ∷ []) names)) (same_test a b h)
    ∙ ap (λ z. cond (is_in b name) (Some name) z) (repeated_same (a ++ name ∷ []) (b ++ name ∷ []) names (λ q. more_names a b (name ∷ []) q (h q)))

-- ---- the names of the top

pub named_instances : (kinds : List CellKind) (items : List Item) → map (λ instance. instance.name) (instances_in kinds items) ≡ instances_named items
named_instances kinds [] = refl
named_instances kinds (drive d ∷ items) = named_instances kinds items
named_instances kinds (widening bit d ∷ items) = named_instances kinds items
named_instances kinds (step width s ∷ items) = named_instances kinds items
named_instances kinds (instance x ∷ items) = ap (λ names. x.name ∷ names) (named_instances kinds items)

last_first : (a b c d : Bool) → (a || (b || (c || d))) ≡ (b || (c || (a || d)))
last_first true true c d = refl
last_first true false true d = refl
last_first true false false d = refl
last_first false b c d = refl

pub own_same : (x : Text) (q : Bytes) → is_in (own_names x.top) q ≡ is_in (top_names x) q
own_same x q =
    let declared : List Bytes = names_of x.top.inputs ++ names_of x.top.outputs ++ declared_names x.top.declarations in
    let instances : List Bytes = instances_named x.top.items in
    any_or_of q declared (clk ∷ rst ∷ instances) ∙ last_first (is_in declared q) (bytes_eq q clk) (bytes_eq q rst) (is_in instances q)
    ∙ ap (λ b. bytes_eq q clk || (bytes_eq q rst || b)) (sym (any_or_of q declared instances)) ∙ ap (λ names. is_in (clk ∷ rst ∷ (declared ++ names)) q) (sym (named_instances (kinds_of x) x.top.items))
