-- Take and configure have their kinds behind those that `plain_of` reads.
use mathlib.Core.List.{[], ◌∷◌}
use mathlib.Core.Path.{sym, ap, ◌∙◌}
use native.Mathlib.Omega.{arith}
use Rattle.rules.specs.declared.request.Request.TheVariants.{Take, Configure}
use Rattle.numbers.specs.Meanings.{meaning, settings_of_raw, asked, plain_kinds, plain_of, asked_of_raw}
use Rattle.numbers.proofs.Listed.{meaning_before, neither}
use Rattle.numbers.proofs.request.RequestTryFromRawRequest.try_from.Goals as goal

pub returns-in-13 : goal.returns-in-13
unfolding asked_of_raw meaning
returns-in-13 c = rw (c.in-13.is, c.into.ensures)

pub returns-in_default : goal.returns-in_default
unfolding asked_of_raw plain_of
returns-in_default c =
    let w = c.args.w in
    let s = settings_of_raw w.settings in
    sym c.ok_or.ensures.ok_part ∙ c.plain_request.ensures
    ∙ ap asked (sym (meaning_before (plain_kinds w.address w.size) ((12, Take) ∷ (13, Configure s) ∷ []) w.kind (neither 12 13 Take (Configure s) w.kind (λ e. omega (arith, e)) (λ e. omega (arith, e)))))
