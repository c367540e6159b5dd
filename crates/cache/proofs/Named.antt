-- What a request names: none if it is refused or takes a message, else what its own work tells.
use mathlib.Core.List.{[]}
use Rattle.std.specs.Prelude.{Option, Some, Ok, Err, None}
use mathlib.Core.Path.{◌≡◌, refl, sym, ap, ◌∙◌}
use Rattle.rules.specs.Answers.{verdict_of}
use Rattle.rules.specs.Cache.{Cache}
use Rattle.rules.specs.Refusals.{Call, refusal_of}
use Rattle.rules.specs.declared.answer.Refusal.{Refusal}
use Rattle.rules.specs.Types.{Verdict}
use Rattle.rules.specs.declared.request.Request.{Request}
use Rattle.rules.specs.declared.request.Request.TheVariants.{Take}
use Rattle.reason_rules.specs.Reasons.{reasons_of, changes_of, granted}
use Rattle.reasons.specs.Changes.{change_of}
use Rattle.reasons.specs.Runs.{all_runs}
use Rattle.verdicts.proofs.Telling.{verdict_some, verdict_none}
use Rattle.cache.specs.Named.{Named}
use Rattle.cache.specs.declared.stepping.Worked.{Worked}

granted_none : {A : Type 0} (o : Option Refusal) → granted {A = A} o [] ≡ []
granted_none None = refl
granted_none (Some x) = refl

module _ (c : Cache) (call : Call) where
  module _ {w : Worked} where
    pub take_named : call.request ≡ Take → all_runs w.done.runs ≡ [] → w.done.change ≡ None → Named c call w
    unfolding reasons_of changes_of
    take_named e p q = record {
      reasons = p ∙ sym (ap (λ (r : Request). granted (refusal_of c call) (reasons_of c r)) e ∙ granted_none (refusal_of c call));
      change = q ∙ ap change_of (sym (ap (λ (r : Request). granted (refusal_of c call) (changes_of c r)) e ∙ granted_none (refusal_of c call)));
    }

  module _ {v : Verdict} (p : v ≡ verdict_of (refusal_of c call)) where
    pub refused_named : (x : Refusal) → v ≡ Err x → {w : Worked} → all_runs w.done.runs ≡ [] → w.done.change ≡ None → Named c call w
    refused_named x e l q =
        let s = verdict_some (refusal_of c call) x (sym p ∙ e) in
        record {
          reasons = l ∙ ap (λ (o : Option Refusal). granted o (reasons_of c call.request)) (sym s);
          change = q ∙ ap (λ (o : Option Refusal). change_of (granted o (changes_of c call.request))) (sym s);
        }

    pub done_named : v ≡ Ok tt → {w : Worked} → all_runs w.done.runs ≡ reasons_of c call.request → w.done.change ≡ change_of (changes_of c call.request) → Named c call w
    done_named e l q =
        let s = verdict_none (refusal_of c call) (sym p ∙ e) in
        record {
          reasons = l ∙ ap (λ (o : Option Refusal). granted o (reasons_of c call.request)) (sym s);
          change = q ∙ ap (λ (o : Option Refusal). change_of (granted o (changes_of c call.request))) (sym s);
        }
