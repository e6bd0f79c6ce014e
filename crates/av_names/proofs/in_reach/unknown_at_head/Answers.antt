use Rattle.std.proofs.Common.{◌≡◌, Bool, ap}
use Rattle.std.specs.Prelude.{option_map}
use Rattle.std.proofs.lemmas.Result.{IfOk-weaker}
use Rattle.av_tree.specs.Trees.{view}
use Rattle.av_names.specs.Forms.{Context, names_or}
use Rattle.av_names.specs.inner.Seen.{found, SameNames}
use Rattle.av_names.specs.Found.{first_found}
use Rattle.av_names.specs.Unknowns as rules
use Rattle.av_names.specs.Written.{written_at}
use Rattle.av_names.proofs.Reach.{sides_written, or_same, part_of}
use Rattle.av_names.proofs.in_reach.unknown_at_head.Goals as goal

pub returns-in-Restrict : goal.returns-in-Restrict
returns-in-Restrict c =
    let d = c.in-Restrict.domain in
    IfOk-weaker c.unknown_in_restriction.result (λ first. option_map found first ≡ first_found (rules.unknown_side c.args.sizes.now (names_or c.args.context.now d.names)) d.constraints)
    (λ first. (k : Context) (r : Bool) → SameNames c.args.context.now k.names → option_map found first ≡ rules.unknown_written c.args.sizes.now (written_at (part_of r k (view c.args.expr.now))))
    (λ first is k r same.
    sides_written c.args.sizes.now (names_or c.args.context.now d.names) (names_or k.names d.names) d.constraints (written_at (part_of r k (view c.args.expr.now))) (option_map found first)
    (or_same c.args.context.now k.names d.names same) (ap (λ e. written_at (part_of r k (view e))) c.in-Restrict.is) is) c.unknown_in_restriction.ensures
