-- Values that are written one after another.
use Rattle.std.proofs.Common.{◌≡◌, ℕ, zero, suc, ◌+◌, ◌<◌, List, [], ◌∷◌, ◌++◌, length, get_or, take, sym, ◌∙◌, ap, append_assoc, add-one, arith}
use Rattle.std.proofs.lemmas.List.{append-nil}
use Rattle.av_net.specs.declared.netlist.Port.{Port}
use Rattle.av_data.specs.Cycles.{value_text, values_text}

more : (ports : List Port) (values : List ℕ) (i : ℕ) (port : Port) → i < length ports → i < length values → port ≡ get_or ports i port
    → values_text (take (suc i) ports) (take (suc i) values) ≡ values_text (take i ports) (take i values) ++ value_text port (get_or values i 0)
more [] values i port lt lt' is = absurd (omega arith)
more (p ∷ ports) [] i port lt lt' is = absurd (omega arith)
more (p ∷ ports) (v ∷ values) zero port lt lt' is = ap (λ q. value_text q v ++ []) (sym is) ∙ append-nil (value_text port v)
more (p ∷ ports) (v ∷ values) (suc i) port lt lt' is =
    ap (λ rest. value_text p v ++ rest) (more ports values i port (omega arith) (omega arith) is)
    ∙ sym (append_assoc (value_text p v) (values_text (take i ports) (take i values)) (value_text port (get_or values i 0)))

-- one more port
pub values_more : (ports : List Port) (values : List ℕ) (i : ℕ) (port : Port) → i < length ports → i < length values → port ≡ get_or ports i port
    → values_text (take (i + 1) ports) (take (i + 1) values) ≡ values_text (take i ports) (take i values) ++ value_text port (get_or values i 0)
values_more ports values i port lt lt' is = rw add-one (more ports values i port lt lt' is)
