use Rattle.std.proofs.Common.{◌∙◌, length, map, refl}
use Rattle.av_flat.specs.Trees.{view_variable}
use Rattle.av_flat.specs.Signatures.{signature}
use Rattle.av_check.proofs.Looking.{place_within, dimension_at, declared_at}
use Rattle.av_check.proofs.Judging.{reads, misses, has_true, has_false}
use Rattle.av_check.proofs.judge.judge_reference.Goals as goal

pub contains-requires-clause-fits : goal.contains-requires-clause-fits
contains-requires-clause-fits c =
    let l = place_within c.args.vars.now c.args.var.0 (length c.args.point) c.requires.fits in
    dimension_at c.args.vars.now c.args.var.0 c.index-vars-var.result (length c.args.point) l c.requires.fits

pub returns-then-contains : goal.returns-then-contains
returns-then-contains c =
    let l = place_within c.args.vars.now c.args.var.0 (length c.args.point) c.requires.fits in
    let e = declared_at c.args.vars.now c.args.var.0 c.index-vars-var.result c.args.point l in
    reads (map signature (map view_variable c.args.vars.now)) c.args.var.0 c.args.point (e ∙ has_true _ c.args.point c.contains.result c.contains.ensures c.if-contains.true)

pub returns-else-contains : goal.returns-else-contains
returns-else-contains c =
    let l = place_within c.args.vars.now c.args.var.0 (length c.args.point) c.requires.fits in
    let e = declared_at c.args.vars.now c.args.var.0 c.index-vars-var.result c.args.point l in
    misses (map signature (map view_variable c.args.vars.now)) c.args.var.0 c.args.point _ (e ∙ has_false _ c.args.point c.contains.result c.contains.ensures c.if-contains.false) refl

pub bounds-vars-var : goal.bounds-vars-var
bounds-vars-var c = place_within c.args.vars.now c.args.var.0 (length c.args.point) c.requires.fits
