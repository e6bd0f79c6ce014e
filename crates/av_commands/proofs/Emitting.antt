-- How the answers of `emit` follow from what its steps did.
use Rattle.std.proofs.Common.{ℕ, List, refl}
use Rattle.av_base.specs.Outside.{SinkState}
use Rattle.av_names.specs.declared.size.Size.{Size}
use Rattle.av_net.specs.declared.plan.Plan.{Plan}
use Rattle.av_net.specs.Flat.{flat_of}
use Rattle.av_net.specs.PlanTexts.{text2}
use Rattle.av_vread.proofs.Faulted.{one_design}
use Rattle.av_vread.proofs.RoundTrip.{plan_read_back}
use Rattle.av_compile.specs.Planned.{IsPlanned}
use Rattle.av_commands.specs.declared.status.Status.{Status}
use Rattle.av_commands.specs.declared.status.Status.TheVariants.{Done}
use Rattle.av_commands.specs.SizeWords.{GiveSizes}
use Rattle.av_commands.specs.Tables.{RefusesTable}
use Rattle.av_commands.specs.WithWords.{RefusesEmitWith, GivesMapped, GivesEmitWith}
use Rattle.av_commands.specs.Written.{IsPut, IsAnswered, given}
use Rattle.av_commands.proofs.Tabling.{not_unmapped}

pub exclusive_emit : (sizes : List Size) (bits box : ℕ) (bytes reason out : List ℕ) → RefusesTable sizes bits box bytes reason → GivesMapped sizes bits box bytes out → ⊥
exclusive_emit sizes bits box bytes reason out r g = not_unmapped sizes bits box bytes reason g.gives.timed g.gives.cells r g.mapped

-- the text of a sound plan is read back as its flat design alone
pub emit_given : (words : List (List ℕ)) (sizes : List Size) (bits box : ℕ) (bytes : List ℕ) (p : Plan) {sink sink' : SinkState} {status : Status}
    → GiveSizes words sizes → IsPlanned bytes sizes bits box p → IsPut sink sink' (text2 p) Done status
    → IsAnswered (RefusesEmitWith words bits box bytes) (GivesEmitWith words bits box bytes) sink sink' status
emit_given words sizes bits box bytes p give is put =
    let spelled = plan_read_back p is.headline.plan.is_plan.sound in
    given (record {
      sizes = sizes;
      give = give;
      gives = record {
        gives = record { timed = is.timed; cells = is.cells; plan = p; computes = is.headline; text_of = refl; spelled = spelled; only = λ other says. one_design (text2 p) other (flat_of p) says spelled };
        mapped = is.mapped;
      };
    }) put
