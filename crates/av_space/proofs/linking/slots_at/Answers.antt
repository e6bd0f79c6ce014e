use Rattle.std.proofs.Common.{◌∙◌, List, Some, refl, sym, ap}
use Rattle.av_space.specs.declared.layout.Slot.{Slot}
use Rattle.av_space.proofs.ByPlace.{read_at}
use Rattle.av_space.proofs.linking.slots_at.Goals as goal

pub returns : goal.returns
returns c = read_at c.args.own.now c.args.own.now c.args.piece c.index-own-piece.result refl c.requires c.index-own-piece.is ∙ ap (λ (slots : List Slot). Some slots) (sym c.as_slice.ensures)
