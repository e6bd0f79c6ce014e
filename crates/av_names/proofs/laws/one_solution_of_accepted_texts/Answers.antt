use Rattle.av_names.specs.Sizes.{instance_of}
use Rattle.av_names.proofs.Resolved.{is_regular}
use Rattle.av_names.proofs.Solutions.{same_inputs, one_solution}
use Rattle.av_names.proofs.laws.one_solution_of_accepted_texts.Goals as goal

pub returns-clause-inputs : goal.returns-clause-inputs
returns-clause-inputs c = λ s words width t a. same_inputs (instance_of s words width) (is_regular s words width t a)

pub returns-clause-one : goal.returns-clause-one
returns-clause-one c = λ s words width t a. one_solution (instance_of s words width) (is_regular s words width t a)
