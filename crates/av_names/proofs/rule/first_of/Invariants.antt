use Rattle.std.proofs.Common.{◌≡◌, take, option_map}
use Rattle.av_names.specs.Found.{first_of}
use Rattle.av_names.proofs.rule.first_of.Given as goal

abbrev pub invariant-loop-item : goal.invariant-loop-item
invariant-loop-item g l =
    (find : _) → ((item : _) (fault : _) → g.R.Rule.gives l.rule item fault → option_map g.P.HasPlace.value fault ≡ find item)
    → option_map g.P.HasPlace.value l.first ≡ first_of g.P.HasPlace.place_of find (take l.item-index l.items)
