-- The plan of an array whose cells choose by the phase of its period takes problem after problem.
use Rattle.std.proofs.Common.{ℕ, List, sym, subst}
use Rattle.std.specs.Prelude.{All}
use Rattle.std.proofs.lemmas.List.Elements.{All-weaker}
use Rattle.av_tree.specs.Values.{Assignment}
use Rattle.av_flat.specs.declared.timed.Timed.{Timed}
use Rattle.av_flat.specs.Trees.{FlatSystem, view_system}
use Rattle.av_flat.specs.Legal.{IsLegal}
use Rattle.av_flat.specs.OneSolution.{AreInputs, HasOneSolution}
use Rattle.av_flat.proofs.Cycles.{scheduled_once}
use Rattle.av_net.specs.declared.design.Design.{Design}
use Rattle.av_net.specs.declared.design.Listing.{Listing}
use Rattle.av_net.specs.declared.plan.Plan.{Plan}
use Rattle.av_net.specs.Flat.{flat_of}
use Rattle.av_net.specs.Presented.{AreApart, HaveFittingWords}
use Rattle.av_space.specs.declared.cells.Cells.{Cells}
use Rattle.av_space.proofs.Streams.{fitting_words}
use Rattle.av_kinds.specs.declared.counter.Counter.TheVariants.{Phases}
use Rattle.av_build.specs.ArrayPlans.{IsCountingPlan}
use Rattle.av_stream.specs.Periods.{HasPeriod}
use Rattle.av_stream.specs.Streams.{AreApartEach}
use Rattle.av_stream.specs.StreamPlans.{ShowsSolutions, IsStreamOf}
use Rattle.av_stream.proofs.Apart.{lines_apart}
use Rattle.av_stream.proofs.EachProblem.{each_problem}
use Rattle.av_stream.proofs.Presenting.{presentable_each}

module _ (t : Timed) (a : Cells) (legal : IsLegal t) (period : ℕ) (has : HasPeriod t a period) (p : Plan) (counts : IsCountingPlan t a (Phases period) p) where
  abbrev own : FlatSystem
  own = view_system t.flat

  abbrev d : Design
  d = flat_of p

  apart : AreApartEach a.listing.ins period
  apart = lines_apart t a p period counts.is_plan.sound counts.is_plan.carries has

  shows : (xs : List Assignment) → All (AreInputs own) xs → ShowsSolutions t d period xs
  shows xs inputs =
      let carries = counts.is_plan.carries in
      record {
        one = All-weaker (AreInputs own) (HasOneSolution own) (λ x i. scheduled_once own 4 t.times legal.chained legal.proper legal.schedule x i) xs inputs;
        presentable = presentable_each d period (subst (λ (l : Listing). AreApart l.ins) (sym carries.listing) carries.whole.apart) (subst (λ (l : Listing). AreApartEach l.ins period) (sym carries.listing) apart) xs
            (All-weaker (AreInputs own) (HaveFittingWords d) (λ x i. fitting_words t a d carries x i) xs inputs);
        shows = λ us solve. each_problem t d period (λ k x u s. counts.shows k x u s) xs us solve;
      }

  pub stream_of : IsStreamOf t a (record { plan = p; period = period })
  stream_of = record { has_period = has; is_plan = counts.is_plan; apart = apart; shows = shows }
