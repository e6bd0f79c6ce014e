use Rattle.std.proofs.Common.{rules, ◌≡◌, ℕ, ◌∙◌, ◌<◌, ◌≤◌, Option, List, length, get_or, take, sym, ap, subst, arith}
use Rattle.std.specs.Option.{IfSome, IfNone}
use Rattle.std.specs.List.{flat_map}
use Rattle.av_poly.specs.declared.poly.Bounds.{Bounds}
use Rattle.av_poly.specs.Points.{Set, Has}
use Rattle.av_tree.specs.Points.{Point}
use Rattle.av_flat.specs.declared.flat.Piece.{Piece as PieceMade}
use Rattle.av_flat.specs.Trees.{view, view_system, view_variable, view_piece}
use Rattle.av_flat.specs.Signatures.{signatures}
use Rattle.av_flat.specs.Chained.{IsChainedPiece}
use Rattle.av_depend.specs.Sites.{Site, sites_in, sites_of}
use Rattle.av_elim.specs.Extents.{IsInside}
use Rattle.av_depend.specs.inner.Adding.{HasAdded}
use Rattle.av_flat.proofs.Bounded.{small_point}
use Rattle.av_flat.proofs.Sets.{has_is}
use Rattle.av_depend.proofs.Adds.{added_nothing, added_none_of, added_both, flat_take_more, at_mapped}
use Rattle.av_depend.proofs.Walked.{sites_of_piece, sites_of_pieces, no_pieces, no_sites, piece_inside, piece_fits}
use Rattle.av_depend.proofs.edging.add_variable.Goals as goal
use Rattle.av_base.proofs.Lists.{take_whole}

pub box_of-requires-clause-small : goal.box_of-requires-clause-small
box_of-requires-clause-small c = small_point c.args.var.now.domain c.requires.bounded

pub returns-in_default : goal.returns-in_default
returns-in_default c =
    let s = view_system c.args.nodes.now in
    let v = view_variable c.args.var.now in
    let empty : (z : Point) → Has v.domain z → ⊥ = subst (λ (o : Option Bounds). IfNone o ((z : Point) → Has v.domain z → ⊥)) c.in_default.is c.in_ok-extent.ensures.empty in
    added_none_of s (sites_of c.args.node v) c.args.edges.now (no_sites c.args.node v (no_pieces s v c.requires empty))

pub loop-piece-init : goal.loop-piece-init
loop-piece-init c = added_nothing (view_system c.args.nodes.now) c.args.edges.now

pub own_box-requires-clause-dim : goal.own_box-requires-clause-dim
own_box-requires-clause-dim c =
    let s = view_system c.args.nodes.now in
    let v = view_variable c.args.var.now in
    let x = c.piece-item.result in
    let l : c.loop-piece.piece-index < length c.as_slice-piece-items.result.now = search rules in
    let within : c.loop-piece.piece-index < length c.args.var.now.pieces = (let e = ap length c.as_slice-piece-items.ensures in omega (arith, e, l)) in
    let is = subst (λ (xs : List PieceMade). x ≡ get_or xs c.loop-piece.piece-index x) c.as_slice-piece-items.ensures c.piece-item.is in
    let piece = at_mapped (IsChainedPiece (signatures s) v) view_piece c.args.var.now.pieces c.loop-piece.piece-index x c.requires.pieces within is in
    omega (arith, piece.dimension, c.requires.indices)

pub own_box-requires-clause-rows : goal.own_box-requires-clause-rows
own_box-requires-clause-rows c =
    let s = view_system c.args.nodes.now in
    let v = view_variable c.args.var.now in
    let x = c.piece-item.result in
    let l : c.loop-piece.piece-index < length c.as_slice-piece-items.result.now = search rules in
    let within : c.loop-piece.piece-index < length c.args.var.now.pieces = (let e = ap length c.as_slice-piece-items.ensures in omega (arith, e, l)) in
    let is = subst (λ (xs : List PieceMade). x ≡ get_or xs c.loop-piece.piece-index x) c.as_slice-piece-items.ensures c.piece-item.is in
    let piece = at_mapped (IsChainedPiece (signatures s) v) view_piece c.args.var.now.pieces c.loop-piece.piece-index x c.requires.pieces within is in
    piece.rows

pub own_box-requires-clause-small : goal.own_box-requires-clause-small
own_box-requires-clause-small c = λ z h.
    let s = view_system c.args.nodes.now in
    let v = view_variable c.args.var.now in
    let x = c.piece-item.result in
    let l : c.loop-piece.piece-index < length c.as_slice-piece-items.result.now = search rules in
    let within : c.loop-piece.piece-index < length c.args.var.now.pieces = (let e = ap length c.as_slice-piece-items.ensures in omega (arith, e, l)) in
    let is = subst (λ (xs : List PieceMade). x ≡ get_or xs c.loop-piece.piece-index x) c.as_slice-piece-items.ensures c.piece-item.is in
    let piece = at_mapped (IsChainedPiece (signatures s) v) view_piece c.args.var.now.pieces c.loop-piece.piece-index x c.requires.pieces within is in
    small_point v.domain c.requires.bounded z ((has_is v.domain z).0 (piece.within z ((has_is (view_piece x).domain z).1 h)))

pub own_box-requires-clause-inside : goal.own_box-requires-clause-inside
own_box-requires-clause-inside c =
    let s = view_system c.args.nodes.now in
    let v = view_variable c.args.var.now in
    let x = c.piece-item.result in
    let l : c.loop-piece.piece-index < length c.as_slice-piece-items.result.now = search rules in
    let within : c.loop-piece.piece-index < length c.args.var.now.pieces = (let e = ap length c.as_slice-piece-items.ensures in omega (arith, e, l)) in
    let is = subst (λ (xs : List PieceMade). x ≡ get_or xs c.loop-piece.piece-index x) c.as_slice-piece-items.ensures c.piece-item.is in
    let piece = at_mapped (IsChainedPiece (signatures s) v) view_piece c.args.var.now.pieces c.loop-piece.piece-index x c.requires.pieces within is in
    let inside = subst (λ (o : Option Bounds). IfSome o (λ extent. IsInside v.domain.dim extent v.domain)) c.in-Some.is c.in_ok-extent.ensures.inside in
    piece_inside s v (view_piece x) c.in-Some.extent piece inside

pub reading_set-requires-clause-few : goal.reading_set-requires-clause-few
reading_set-requires-clause-few c =
    let s = view_system c.args.nodes.now in
    let v = view_variable c.args.var.now in
    let x = c.piece-item.result in
    let l : c.loop-piece.piece-index < length c.as_slice-piece-items.result.now = search rules in
    let within : c.loop-piece.piece-index < length c.args.var.now.pieces = (let e = ap length c.as_slice-piece-items.ensures in omega (arith, e, l)) in
    let is = subst (λ (xs : List PieceMade). x ≡ get_or xs c.loop-piece.piece-index x) c.as_slice-piece-items.ensures c.piece-item.is in
    let piece = at_mapped (IsChainedPiece (signatures s) v) view_piece c.args.var.now.pieces c.loop-piece.piece-index x c.requires.pieces within is in
    omega (arith, piece.dimension, c.requires.indices)

pub add_tree-requires-clause-fits : goal.add_tree-requires-clause-fits
add_tree-requires-clause-fits c =
    let s = view_system c.args.nodes.now in
    let v = view_variable c.args.var.now in
    let x = c.piece-item.result in
    let l : c.loop-piece.piece-index < length c.as_slice-piece-items.result.now = search rules in
    let within : c.loop-piece.piece-index < length c.args.var.now.pieces = (let e = ap length c.as_slice-piece-items.ensures in omega (arith, e, l)) in
    let is = subst (λ (xs : List PieceMade). x ≡ get_or xs c.loop-piece.piece-index x) c.as_slice-piece-items.ensures c.piece-item.is in
    let piece = at_mapped (IsChainedPiece (signatures s) v) view_piece c.args.var.now.pieces c.loop-piece.piece-index x c.requires.pieces within is in
    piece_fits s v (view_piece x) c.in_ok-reading.reading.set piece c.in_ok-reading.ensures.set

pub loop-piece-preserved : goal.loop-piece-preserved
loop-piece-preserved c =
    let s = view_system c.args.nodes.now in
    let x = c.piece-item.result in
    let f = sites_of_piece c.args.node in
    let xs = c.as_slice-piece-items.result.now in
    let old = c.args.edges.now in
    let new = c.add_tree.new.edges in
    let l : c.loop-piece.piece-index < length xs = search rules in
    let one = subst (λ (n : ℕ). HasAdded s (sites_in n x.domain (view x.tree)) c.loop-piece.edges new) c.in_ok-reading.ensures.node
    (subst (λ (set : Set). HasAdded s (sites_in c.in_ok-reading.reading.node set (view x.tree)) c.loop-piece.edges new) c.in_ok-reading.ensures.set c.in_ok-add_tree.ensures) in
    subst (λ (places : List Site). HasAdded s places old new) (sym (flat_take_more f xs c.loop-piece.piece-index x l c.piece-item.is))
    (added_both s (flat_map f (take c.loop-piece.piece-index xs)) (f x) old c.loop-piece.edges new c.loop-piece.invariant one)

pub returns : goal.returns
returns c =
    let s = view_system c.args.nodes.now in
    let f = sites_of_piece c.args.node in
    let over : length c.as_slice-piece-items.result.now ≤ c.loop-piece.piece-index = search rules in
    let whole = ap (flat_map f) (take_whole c.as_slice-piece-items.result.now c.loop-piece.piece-index over ∙ c.as_slice-piece-items.ensures) ∙ sym (sites_of_pieces c.args.node c.args.var.now) in
    subst (λ (places : List Site). HasAdded s places c.args.edges.now c.loop-piece.edges) whole c.loop-piece.invariant
