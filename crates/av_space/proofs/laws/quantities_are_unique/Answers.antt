use Rattle.av_space.proofs.OnePlacing.{one_placings}
use Rattle.av_space.proofs.OneLinks.{one_links}
use Rattle.av_space.proofs.OneCount.{one_operator_count}
use Rattle.av_space.proofs.OneArray.{one_cells, one_cycle_count}
use Rattle.av_space.proofs.laws.quantities_are_unique.Goals as goal

pub returns-clause-placings : goal.returns-clause-placings
returns-clause-placings c = one_placings

pub returns-clause-cells : goal.returns-clause-cells
returns-clause-cells c = one_cells

pub returns-clause-cycles : goal.returns-clause-cycles
returns-clause-cycles c = one_cycle_count

pub returns-clause-links : goal.returns-clause-links
returns-clause-links c = one_links

pub returns-clause-operators : goal.returns-clause-operators
returns-clause-operators c = one_operator_count
