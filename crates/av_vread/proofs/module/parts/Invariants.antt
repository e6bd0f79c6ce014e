use Rattle.std.proofs.Common.{◌≡◌, ◌++◌, drop, map}
use Rattle.std.specs.List.{flat_map}
use Rattle.av_net.specs.Flat.{instance_wires}
use Rattle.av_net.specs.Rows.{instances_in}
use Rattle.av_vparse.specs.Said.{said_item}
use Rattle.av_vread.proofs.module.parts.Given as goal

abbrev pub invariant-loop-item : goal.invariant-loop-item
invariant-loop-item l =
    l.parts ++ flat_map (instance_wires l.cells) (instances_in l.cells (map said_item (drop l.item-index l.items))) ≡ flat_map (instance_wires l.cells) (instances_in l.cells (map said_item l.items))
