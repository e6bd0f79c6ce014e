-- Widths are their numbers of bits.
use Rattle.std.proofs.Common.{◌≡◌, ◌≤◌, ap, subst, ◌∙◌}
use Rattle.std.proofs.Math.Bridge.{le_prop}
use Rattle.av_base.specs.declared.width.Width.{Width}

pub width_is : (v w : Width) → v.bits ≡ w.bits → v ≡ w
width_is v w e = subst (λ n. (l : 1 ≤ n) (m : n ≤ 64) → v ≡ record { bits = n; least = l; most = m }) e same w.least w.most
  where
    same : (l : 1 ≤ v.bits) (m : v.bits ≤ 64) → v ≡ record { bits = v.bits; least = l; most = m }
    same l m =
        let one : v ≡ record { bits = v.bits; least = l; most = v.most } = ap (λ (x : 1 ≤ v.bits). let r : Width = record { bits = v.bits; least = x; most = v.most } in r) (le_prop v.least l) in
        let two : (let r : Width = record { bits = v.bits; least = l; most = v.most } in r) ≡ record { bits = v.bits; least = l; most = m } = ap (λ (x : v.bits ≤ 64). let r : Width = record { bits = v.bits; least = l; most = x } in r) (le_prop v.most m) in
        one ∙ two
