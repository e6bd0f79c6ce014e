use Rattle.std.proofs.Common.{ℕ, List, ◌∙◌, sym, subst}
use Rattle.av_names.specs.declared.size.Size.{Size}
use Rattle.av_net.specs.declared.design.Design.{Design}
use Rattle.av_compile.specs.Mapped.{IsMapped}
use Rattle.av_compile.specs.Headline.{Headline}
use Rattle.av_commands.specs.Demos.{product_text, product_sizes}
use Rattle.av_commands.specs.inner.DemoData.{IsEntered, IsSummed}
use Rattle.av_commands.proofs.Entering.{entered, demo_given, product_short}
use Rattle.av_commands.proofs.Outputs.{puts_more}
use Rattle.av_commands.proofs.demos.demo.Goals as goal

pub multiply-requires : goal.multiply-requires
multiply-requires g c =
    let made = c.in-Ok-compile.compiled in
    let bits = c.args.width.bits in
    let box = c.args.reach.size in
    let headline : Headline product_text (product_sizes c.args.size) bits box made.timed made.cells made.plan =
    subst (λ (text : List ℕ). Headline text (product_sizes c.args.size) bits box made.timed made.cells made.plan) c.as_bytes.ensures.value
    (subst (λ (sizes : List Size). Headline c.as_bytes.result.now sizes bits box made.timed made.cells made.plan) (c.as_slice.ensures ∙ c.in-Ok.ensures) c.in-Ok-compile.ensures.headline) in
    let mapped : IsMapped product_text (product_sizes c.args.size) bits box made.timed made.cells =
    subst (λ (text : List ℕ). IsMapped text (product_sizes c.args.size) bits box made.timed made.cells) c.as_bytes.ensures.value
    (subst (λ (sizes : List Size). IsMapped c.as_bytes.result.now sizes bits box made.timed made.cells) (c.as_slice.ensures ∙ c.in-Ok.ensures) c.in-Ok-compile.ensures.mapped) in
    subst (λ (d : Design). IsEntered d bits) (sym c.in-Ok-compile.ensures.design) (entered c.args.size bits box made.timed made.cells made.plan headline mapped product_short c.args.width.least)

pub returns : goal.returns
returns g c =
    let made = c.in-Ok-compile.compiled in
    let bits = c.args.width.bits in
    let box = c.args.reach.size in
    let headline : Headline product_text (product_sizes c.args.size) bits box made.timed made.cells made.plan =
    subst (λ (text : List ℕ). Headline text (product_sizes c.args.size) bits box made.timed made.cells made.plan) c.as_bytes.ensures.value
    (subst (λ (sizes : List Size). Headline c.as_bytes.result.now sizes bits box made.timed made.cells made.plan) (c.as_slice.ensures ∙ c.in-Ok.ensures) c.in-Ok-compile.ensures.headline) in
    let mapped : IsMapped product_text (product_sizes c.args.size) bits box made.timed made.cells =
    subst (λ (text : List ℕ). IsMapped text (product_sizes c.args.size) bits box made.timed made.cells) c.as_bytes.ensures.value
    (subst (λ (sizes : List Size). IsMapped c.as_bytes.result.now sizes bits box made.timed made.cells) (c.as_slice.ensures ∙ c.in-Ok.ensures) c.in-Ok-compile.ensures.mapped) in
    puts_more (λ (out : List ℕ) summed. demo_given c.args.size bits box made.timed made.cells made.plan headline mapped product_short c.args.width.least out (subst (λ (d : Design). IsSummed made.cells d bits out) c.in-Ok-compile.ensures.design summed)) c.multiply.ensures
