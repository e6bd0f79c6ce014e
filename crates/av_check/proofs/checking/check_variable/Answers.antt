use Rattle.std.proofs.Common.{◌≡◌, ◌∙◌, true, map, List, Option, Some, None, All, ap, sym, subst}
use Rattle.std.proofs.lemmas.List.Elements.{All-map}
use Rattle.av_poly.specs.Points.{Set}
use Rattle.av_tree.specs.Points.{Point}
use Rattle.av_flat.specs.declared.flat.Piece.{Piece as PieceMade}
use Rattle.av_flat.specs.Trees.{view_variable, view_piece}
use Rattle.av_flat.specs.Signatures.{signature, is_computed}
use Rattle.av_normal.proofs.Limits.{all_sources}
use Rattle.av_check.specs.inner.Least.{IsLeast}
use Rattle.av_elim.specs.Extents.{IsOrdinary}
use Rattle.av_check.specs.inner.Coverage.{IsOff}
use Rattle.av_check.specs.inner.Reachable.{IsReachableInside}
use Rattle.av_check.proofs.Settled.{least_is_miscovered, none_is_miscovered}
use Rattle.av_check.proofs.checking.check_variable.Goals as goal

pub least_miscovered-requires-clause-sets : goal.least_miscovered-requires-clause-sets
least_miscovered-requires-clause-sets c =
    let d = c.args.var.now.domain.dim in
    let e : c.as_slice-2.result.now ≡ map (λ p. p.domain) (map view_piece c.args.kept.now.pieces) =
    c.as_slice-2.ensures ∙ c.in_ok-sets.ensures ∙ ap (λ (ps : List PieceMade). map (λ p. p.domain) (map view_piece ps)) c.as_slice.ensures in
    subst (All (IsOrdinary d)) (sym e) (All-map (IsOrdinary d) (λ p. p.domain) (map view_piece c.args.kept.now.pieces) c.requires.sets)

pub returns-in-None-clause-fine : goal.returns-in-None-clause-fine
returns-in-None-clause-fine c =
    let vs = map signature (map view_variable c.args.vars.now) in
    let v = view_variable c.args.var.now in
    let computed : is_computed v.kind ≡ true = sym c.is_computed.ensures ∙ c.if-not-is_computed.false in
    let e : c.as_slice-2.result.now ≡ map (λ p. p.domain) (map view_piece c.args.kept.now.pieces) =
    c.as_slice-2.ensures ∙ c.in_ok-sets.ensures ∙ ap (λ (ps : List PieceMade). map (λ p. p.domain) (map view_piece ps)) c.as_slice.ensures in
    let h = subst (λ (o : Option Point). IsLeast (IsOff v.domain c.as_slice-2.result.now) o) c.in-None.is c.in_ok-least_miscovered.ensures in
    none_is_miscovered vs v (view_variable c.args.kept.now) c.requires computed (subst (λ (sets : List Set). IsLeast (IsOff v.domain sets) None) e h)

pub fault_at-requires-clause-stand : goal.fault_at-requires-clause-stand
fault_at-requires-clause-stand c =
    let vs = map signature (map view_variable c.args.vars.now) in
    let point = c.in-Some.point in
    let h = subst (λ (o : Option Point). IsLeast (IsOff c.args.var.now.domain c.as_slice-2.result.now) o) c.in-Some.is c.in_ok-least_miscovered.ensures in
    all_sources (λ p. IsReachableInside vs p point) view_piece c.args.var.now.pieces (c.requires.stand point h.0.0)

pub fault_at-requires-clause-small : goal.fault_at-requires-clause-small
fault_at-requires-clause-small c =
    let point = c.in-Some.point in
    let h = subst (λ (o : Option Point). IsLeast (IsOff c.args.var.now.domain c.as_slice-2.result.now) o) c.in-Some.is c.in_ok-least_miscovered.ensures in
    c.requires.small point h.0.0

pub fault_at-requires-clause-least : goal.fault_at-requires-clause-least
fault_at-requires-clause-least c =
    let vs = map signature (map view_variable c.args.vars.now) in
    let v = view_variable c.args.var.now in
    let point = c.in-Some.point in
    let computed : is_computed v.kind ≡ true = sym c.is_computed.ensures ∙ c.if-not-is_computed.false in
    let e : c.as_slice-2.result.now ≡ map (λ p. p.domain) (map view_piece c.args.kept.now.pieces) =
    c.as_slice-2.ensures ∙ c.in_ok-sets.ensures ∙ ap (λ (ps : List PieceMade). map (λ p. p.domain) (map view_piece ps)) c.as_slice.ensures in
    let h = subst (λ (o : Option Point). IsLeast (IsOff v.domain c.as_slice-2.result.now) o) c.in-Some.is c.in_ok-least_miscovered.ensures in
    least_is_miscovered vs v (view_variable c.args.kept.now) c.requires computed point (subst (λ (sets : List Set). IsLeast (IsOff v.domain sets) (Some point)) e h)
