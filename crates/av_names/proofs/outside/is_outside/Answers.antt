use Rattle.std.proofs.Common.{◌∙◌, sym, ap, not, List, All, inl, refl, subst}
use Rattle.std.proofs.Math.Path.{fun_ext}
use Rattle.av_tree.specs.declared.domain.Constraint.{Constraint}
use Rattle.av_tree.specs.Domains as domains
use Rattle.av_tree.specs.Points.{Sizes}
use Rattle.av_tree.specs.Trees.{view_system}
use Rattle.av_names.specs.inner.ShortSums.{IsShortWritten, HasShortSides}
use Rattle.av_names.specs.Written.{all_written, written_sizes}
use Rattle.av_names.proofs.Among.{all_at}
use Rattle.av_names.proofs.SpelledSystems.{short_sums}
use Rattle.av_names.proofs.Summed.{small_values}
use Rattle.av_names.proofs.outside.is_outside.Goals as goal

pub all_hold-requires-clause-short : goal.all_hold-requires-clause-short
all_hold-requires-clause-short c =
    let s = view_system c.args.system.now in
    let w = written_sizes s.sizes in
    subst (λ (cs : List Constraint). All HasShortSides cs) (sym c.as_slice.ensures) (all_at IsShortWritten (all_written s) w (short_sums s c.requires.text) (inl refl)).1

pub all_hold-requires-clause-sizes : goal.all_hold-requires-clause-sizes
all_hold-requires-clause-sizes c = λ name. rw (c.in_ok-table.ensures name) (small_values c.args.sizes.now c.requires.small name)

pub returns : goal.returns
returns c =
    let cs = c.args.system.now.sizes.constraints in
    ap not ((rw c.as_slice.ensures at c.all_hold.ensures) ∙ ap (λ (z : Sizes). domains.all_hold z cs) (fun_ext c.in_ok-table.ensures))
