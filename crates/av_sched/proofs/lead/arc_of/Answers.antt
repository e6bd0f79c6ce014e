use Rattle.std.proofs.Common.{◌≡◌, ◌∙◌, rules, arith, w64, FitsSigned, to_z-of_z, ℤ, pos, ◌-ℤ◌, List, [], refl, subst}
use Rattle.std.proofs.lemmas.Int.{ints}
use Rattle.av_tree.specs.Points.{Point}
use Rattle.av_sched.specs.Offsets.{part}
use Rattle.av_sched.specs.Leads.{IsLeastLead}
use Rattle.av_sched.proofs.lead.arc_of.Goals as goal
use Rattle.av_base.proofs.Lists.{same_default}

pub returns : goal.returns
returns c =
    let x = c.least_lead-least.result in
    let linear = c.args.linear.now in
    let e = c.args.edge.now in
    let s = c.least_lead-least.ensures.small in
    let f : FitsSigned w64 x = search rules in
    let g : FitsSigned w64 (pos 1 -ℤ x) = omega (arith, ints, s) in
    let a : c.index-linear-consumer.result ≡ part linear e.consumer = c.index-linear-consumer.is ∙ same_default linear e.consumer c.index-linear-consumer.result [] c.requires.consumer_within in
    let b : c.index-linear-producer.result ≡ part linear e.producer = c.index-linear-producer.is ∙ same_default linear e.producer c.index-linear-producer.result [] c.requires.producer_within in
    let same : x ≡ pos 1 -ℤ (pos 1 -ℤ x) = omega (arith, ints) in
    let v = subst (λ (ps : List Point). IsLeastLead c.index-linear-consumer.result c.index-linear-producer.result e.map ps x) c.as_slice.ensures c.least_lead-least.ensures.value in
    let v1 = subst (λ (p : Point). IsLeastLead p c.index-linear-producer.result e.map e.points x) a v in
    let v2 = subst (λ (p : Point). IsLeastLead (part linear e.consumer) p e.map e.points x) b v1 in
    simp to_z-of_z (record { reader = refl; read = refl; weight = subst (λ (n : ℤ). IsLeastLead (part linear e.consumer) (part linear e.producer) e.map e.points n) same v2; small = omega (arith, ints, s) })
