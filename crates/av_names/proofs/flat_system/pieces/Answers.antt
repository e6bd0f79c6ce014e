use Rattle.std.proofs.Common.{◌≡◌, ap, sym, ◌∙◌, [], ◌∷◌, map, option_map}
use Rattle.std.specs.Prelude.{bytes_eq}
use Rattle.std.proofs.lemmas.Result.{IfOk-weaker}
use Rattle.std.specs.Map.{lookup}
use Rattle.av_tree.specs.Trees.{view_equation, view_system}
use Rattle.av_flat.specs.Trees.{view_piece}
use Rattle.av_names.specs.inner.Building.{instance_in}
use Rattle.av_names.specs.Flattened.{equation_of, pieces_of}
use Rattle.av_names.specs.inner.Sums.{sizes_in}
use Rattle.av_names.proofs.Built.{context_found, right_there, pieces_are}
use Rattle.av_names.proofs.flat_system.pieces.Goals as goal

pub piece-requires-clause-right : goal.piece-requires-clause-right
piece-requires-clause-right c =
    let n = c.args.names.now in
    let s = view_system n.tables.system.now in
    let q = c.in-Some.equation.now in
    let there = ap (option_map (λ e. view_equation e.now)) (sym c.in-Some.is ∙ c.get.ensures) ∙ c.requires.names.equations c.as_bytes.result.now in
    right_there (sizes_in n.tables.sizes) s c.as_bytes.result.now (view_equation q) c.context-indices.result.now c.requires.names.rights there
    (context_found s q (option_map (λ d. d.now) (lookup (bytes_eq q.name) n.declared)) c.context-indices.result.now (c.requires.names.declared q.name) c.context-indices.ensures)

pub returns-in-None : goal.returns-in-None
returns-in-None c =
    let n = c.args.names.now in
    let s = view_system n.tables.system.now in
    ap (map view_piece) c.new.ensures
    ∙ ap (pieces_of (instance_in n.tables) c.args.variable.now)
    (ap (option_map (λ e. view_equation e.now)) (sym c.in-None.is ∙ c.get.ensures) ∙ c.requires.names.equations c.as_bytes.result.now ∙ ap (equation_of s.equations) (c.as_bytes.ensures.value ∙ c.as_str.ensures))

pub returns-in_ok-made-in-Some : goal.returns-in_ok-made-in-Some
returns-in_ok-made-in-Some c =
    let n = c.args.names.now in
    let s = view_system n.tables.system.now in
    let q = c.in-Some.equation.now in
    let there = ap (option_map (λ e. view_equation e.now)) (sym c.in-Some.is ∙ c.get.ensures) ∙ c.requires.names.equations c.as_bytes.result.now ∙ ap (equation_of s.equations) (c.as_bytes.ensures.value ∙ c.as_str.ensures) in
    let same = context_found s q (option_map (λ d. d.now) (lookup (bytes_eq q.name) n.declared)) c.context-indices.result.now (c.requires.names.declared q.name) c.context-indices.ensures in
    IfOk-weaker c.one_piece.result (λ to. map view_piece to ≡ view_piece c.in_ok-made-in-Some.made ∷ [])
    (λ to. map view_piece to ≡ pieces_of (instance_in n.tables) c.args.variable.now (equation_of s.equations c.args.variable.now.name)) (λ to is. is ∙ pieces_are (instance_in n.tables) c.args.variable.now (equation_of s.equations c.args.variable.now.name) (view_equation q) c.context-indices.result.now
    (view_piece c.in_ok-made-in-Some.made) there same c.in_ok-made-in-Some.ensures) c.one_piece.ensures
