use Rattle.std.proofs.Common.{subst}
use Rattle.std.specs.Prelude.{Ok}
use Rattle.av_wave.specs.declared.stage.Stage.{Stage}
use Rattle.av_wave.specs.declared.stage.Stage.TheVariants.{Timescale, Scope, Ports, Definitions, Start, Cycles}
use Rattle.av_wave.specs.inner.Stages.{Knows}
use Rattle.av_wave.proofs.Staging.{turns_as, knows_turned}
use Rattle.av_wave.proofs.stage.Stage.take.Goals as goal

pub take-requires : goal.take-requires
take-requires c = subst (λ (s : Stage). Knows s c.args.names.now) c.in-Ports.is c.requires

pub returns-in-Timescale-clause-turns : goal.returns-in-Timescale-clause-turns
returns-in-Timescale-clause-turns c = turns_as c.args.self Timescale c.args.line.now (Ok c.after_timescale.result) c.in-Timescale.is c.after_timescale.ensures

pub returns-in-Timescale-clause-names : goal.returns-in-Timescale-clause-names
returns-in-Timescale-clause-names c =
    knows_turned Timescale c.args.line.now (Ok c.after_timescale.result) c.args.names.now (subst (λ (s : Stage). Knows s c.args.names.now) c.in-Timescale.is c.requires) c.after_timescale.ensures (λ head e. cc)

pub returns-in-Scope-clause-turns : goal.returns-in-Scope-clause-turns
returns-in-Scope-clause-turns c = turns_as c.args.self Scope c.args.line.now c.open.result c.in-Scope.is c.open.ensures

pub returns-in-Scope-clause-names : goal.returns-in-Scope-clause-names
returns-in-Scope-clause-names c =
    knows_turned Scope c.args.line.now c.open.result c.args.names.now (subst (λ (s : Stage). Knows s c.args.names.now) c.in-Scope.is c.requires) c.open.ensures (λ head e. cc)

pub returns-in-Ports-clause-turns : goal.returns-in-Ports-clause-turns
returns-in-Ports-clause-turns c = turns_as c.args.self (Ports c.in-Ports.header) c.args.line.now c.take.result c.in-Ports.is c.take.ensures.turns

pub returns-in-Definitions-clause-turns : goal.returns-in-Definitions-clause-turns
returns-in-Definitions-clause-turns c = turns_as c.args.self (Definitions c.in-Definitions.header) c.args.line.now (Ok c.after_definitions.result) c.in-Definitions.is c.after_definitions.ensures

pub returns-in-Definitions-clause-names : goal.returns-in-Definitions-clause-names
returns-in-Definitions-clause-names c = knows_turned (Definitions c.in-Definitions.header) c.args.line.now (Ok c.after_definitions.result) c.args.names.now tt c.after_definitions.ensures (λ head e. cc)

pub returns-in-Start-clause-turns : goal.returns-in-Start-clause-turns
returns-in-Start-clause-turns c = turns_as c.args.self (Start c.in-Start.header) c.args.line.now c.start.result c.in-Start.is c.start.ensures

pub returns-in-Start-clause-names : goal.returns-in-Start-clause-names
returns-in-Start-clause-names c = knows_turned (Start c.in-Start.header) c.args.line.now c.start.result c.args.names.now tt c.start.ensures (λ head e. cc)

pub returns-in-Cycles-clause-turns : goal.returns-in-Cycles-clause-turns
returns-in-Cycles-clause-turns c = turns_as c.args.self (Cycles c.in-Cycles.recorder) c.args.line.now c.go_on.result c.in-Cycles.is c.go_on.ensures

pub returns-in-Cycles-clause-names : goal.returns-in-Cycles-clause-names
returns-in-Cycles-clause-names c = knows_turned (Cycles c.in-Cycles.recorder) c.args.line.now c.go_on.result c.args.names.now tt c.go_on.ensures (λ head e. cc)
