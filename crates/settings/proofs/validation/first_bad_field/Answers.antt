-- The list that is searched holds, field by field, whether the field is bad. Assumes nothing.
use Rattle.settings.specs.Validation.{first_bad, bad_fields}
use Rattle.settings.proofs.Places.{found, not_found}
use Rattle.settings.proofs.validation.first_bad_field.Goals as goal

pub returns-in-Some : goal.returns-in-Some
unfolding first_bad
returns-in-Some c = found (bad_fields c.args.s c.args.opening) c.in-Some.index cc

pub returns-in-None : goal.returns-in-None
unfolding first_bad
returns-in-None c = not_found (bad_fields c.args.s c.args.opening) cc
