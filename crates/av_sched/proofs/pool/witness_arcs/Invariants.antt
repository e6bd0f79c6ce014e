use Rattle.std.proofs.Common.{List, All}
use Rattle.av_depend.specs.declared.edge.Edge.{Edge}
use Rattle.av_sched.specs.Witnesses.{IsWitness, IsWitnessArc}
use Rattle.av_sched.proofs.pool.witness_arcs.Given as goal

abbrev pub invariant-loop-witness : goal.invariant-loop-witness
invariant-loop-witness l = (edges : List Edge) → All (IsWitness edges l.component) l.pool → All (IsWitnessArc edges l.component l.level l.linear) l.arcs.items
