-- The figures are those of the report.
use Rattle.speldervacht.specs.Numbers.{report_numbers}
use Rattle.speldervacht.proofs.speldervacht_report.Goals as goal

pub returns : goal.returns
unfolding report_numbers
returns c = rw (c.into.ensures, c.report.ensures)
