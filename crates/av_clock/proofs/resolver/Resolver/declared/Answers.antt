use Rattle.std.proofs.Common.{ap, sym, subst, ◌∙◌}
use Rattle.std.specs.Prelude.{Contains}
use Rattle.av_net.specs.declared.netlist.Module.{Module}
use Rattle.av_net.specs.Names.{all_names}
use Rattle.av_clock.proofs.Found.{found_in, IsFound, is_found, found_some, found_read}
use Rattle.av_clock.proofs.resolver.Resolver.declared.Goals as goal

pub unwrap-requires : goal.unwrap-requires
unwrap-requires c =
    let P : Module → Type 0 = λ m. Contains (all_names m) c.args.name.now in
    let found = is_found c.self.inside.of.now (found_in c.self.inside.table) c.args.name.now c.self.invariant.sound c.self.invariant.finds (subst P (sym c.self.view_is) c.requires) in
    found_some c.self.inside.of.now c.get.result (found_in c.self.inside.table c.args.name.now) c.args.name.now (c.get.ensures ∙ ap (found_in c.self.inside.table) (c.as_bytes.ensures.value ∙ c.as_str.ensures)) found

pub returns-clause-place : goal.returns-clause-place
returns-clause-place c =
    let P : Module → Type 0 = λ m. Contains (all_names m) c.args.name.now in
    let found = is_found c.self.inside.of.now (found_in c.self.inside.table) c.args.name.now c.self.invariant.sound c.self.invariant.finds (subst P (sym c.self.view_is) c.requires) in
    let Q : Module → Type 0 = λ m. IsFound m (found_in c.self.inside.table c.args.name.now) c.args.name.now in
    (found_read c.args.self.now c.get.result c.unwrap.result (found_in c.self.inside.table c.args.name.now) c.args.name.now (c.get.ensures ∙ ap (found_in c.self.inside.table) (c.as_bytes.ensures.value ∙ c.as_str.ensures)) c.unwrap.ensures (subst Q c.self.view_is found)).0

pub returns-clause-width : goal.returns-clause-width
returns-clause-width c =
    let P : Module → Type 0 = λ m. Contains (all_names m) c.args.name.now in
    let found = is_found c.self.inside.of.now (found_in c.self.inside.table) c.args.name.now c.self.invariant.sound c.self.invariant.finds (subst P (sym c.self.view_is) c.requires) in
    let Q : Module → Type 0 = λ m. IsFound m (found_in c.self.inside.table c.args.name.now) c.args.name.now in
    (found_read c.args.self.now c.get.result c.unwrap.result (found_in c.self.inside.table c.args.name.now) c.args.name.now (c.get.ensures ∙ ap (found_in c.self.inside.table) (c.as_bytes.ensures.value ∙ c.as_str.ensures)) c.unwrap.ensures (subst Q c.self.view_is found)).1
