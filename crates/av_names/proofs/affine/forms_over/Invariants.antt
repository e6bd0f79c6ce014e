use Rattle.std.proofs.Common.{◌≡◌, map, take}
use Rattle.av_names.specs.Forms.{form_of}
use Rattle.av_names.specs.inner.Sums.{sizes_in}
use Rattle.av_names.proofs.affine.forms_over.Given as goal

abbrev pub invariant-loop-index : goal.invariant-loop-index
invariant-loop-index l = l.all.items ≡ map (form_of (sizes_in l.sizes) l.names) (take l.index-index l.entries)
