-- The history of held bytes over tables: a run on a table is a run on the cache that it pictures.
use Rattle.std.specs.Prelude.{Ok}
use Prim.Native.Nat.{ℕ, ◌+◌}
use mathlib.Core.Bool.{true}
use mathlib.Core.List.{List, [], ◌∷◌, map}
use mathlib.Core.Path.{◌≡◌, refl, ap, ◌∙◌}
use lib.ListN.{length}
use Rattle.settings.specs.declared.Settings.{Settings}
use Rattle.settings_words.specs.FloatsFit.{FloatsFit}
use Rattle.rules.proofs.History.{balanced}
use Rattle.rules.proofs.Steps.{stepped}
use Rattle.rules.specs.Answers.{answer_orders}
use Rattle.rules.specs.Cache.{Cache, fresh}
use Rattle.rules.specs.Hosts.{accepted, asking}
use Rattle.rules.specs.History.{evicted_bytes, next, Past, past, plus}
use Rattle.rules.specs.Reports.{report_of}
use Rattle.rules.specs.Requests.{Outcome, effect}
use Rattle.settings.specs.declared.Mode.{Mode}
use Rattle.rules.specs.declared.request.Request.{Request}
use Rattle.layout.specs.Picture.{cache_in}
use Rattle.judge.specs.Verdict.{judge_words}
use Rattle.runs.specs.History.{TableCall, call_of, evicted_in, TablePast, added_to, table_past, TableBalanced, ReportBalanced}
use Rattle.runs.specs.Hosts.{accepts}
use Rattle.cache.specs.Tables.{Left, carried_out, step_words, open_words}
use Rattle.cache.proofs.StepAnswers.{carried}
use Rattle.runs.proofs.Pictured.{Pictures, ruled, accepts_as, pictures_after, pictures_fresh, reported}
use Rattle.runs.proofs.Read.{evicted_back}

-- ---- one request

-- the bytes evicted, as the order words tell them, count if the request is accepted
module _ (ws os message : List ℕ) (r : Request) (v : judge_words ws ≡ true) (n : ℕ) where
  abbrev evicted_by : Left → ℕ
  evicted_by x = plus (accepts x) n (evicted_in (answer_orders x.answer) x.orders)

  evicted_as : evicted_by (step_words ws os message r) ≡ plus (accepted (ruled ws os message r v)) n (evicted_bytes (ruled ws os message r v).orders)
  evicted_as =
      ap evicted_by (carried ws os message r v)
      ∙ stepped (cache_in ws) (asking r message (length os))
      (λ (o : Outcome). evicted_by (carried_out o.answer o ws os) ≡ plus (accepted o) n (evicted_bytes o.orders))
      (λ e. ap (λ (m : ℕ). n + m) (evicted_back (effect (cache_in ws) message r).orders os))
      (λ x. refl)

-- ---- a run

pub record Same (p : TablePast) (q : Past) : Type 0 where
  pub pictures : Pictures p.table q.cache
  brought : p.brought ≡ q.brought
  grown : p.grown ≡ q.grown
  evicted : p.evicted ≡ q.evicted
  discarded : p.discarded ≡ q.discarded
  shrunk : p.shrunk ≡ q.shrunk

goes_on : (p : TablePast) (q : Past) (call : TableCall) → Same p q
    → Same (added_to p call.request (step_words p.table call.orders call.message call.request)) (next q (call_of call))
goes_on p q call k =
    let ws = p.table in
    let os = call.orders in
    let message = call.message in
    let r = call.request in
    let v = k.pictures.passes in
    let c = k.pictures.cache in
    let a = accepts_as ws os message r v in
    let e = evicted_as ws os message r v p.evicted in
    rw (← c)
    (record {
      pictures = pictures_after ws os message r v call.floats;
      brought = rw (a, k.brought);
      grown = rw (a, k.grown);
      evicted = e ∙ rw k.evicted;
      discarded = rw (a, k.discarded);
      shrunk = rw (a, k.shrunk);
    })

pub same_past : (ws : List ℕ) (c : Cache) (calls : List TableCall) → Pictures ws c → Same (table_past ws calls) (past c (map call_of calls))
unfolding table_past past
same_past ws c [] h = record { pictures = h; brought = refl; grown = refl; evicted = refl; discarded = refl; shrunk = refl }
same_past ws c (call ∷ calls) h = goes_on (table_past ws calls) (past c (map call_of calls)) call (same_past ws c calls h)

-- ---- from an opening on, in every mode

pub tables_balanced : (ws : List ℕ) (n : ℕ) (m : Mode) (t : ℕ) (s : Settings) → FloatsFit s → (open_words ws n m t s).answer ≡ Ok 0
    → (calls : List TableCall) → TableBalanced (table_past (open_words ws n m t s).table calls)
tables_balanced ws n m t s f h calls =
    let k = same_past (open_words ws n m t s).table (fresh n m t s) calls (pictures_fresh ws n m t s f h) in
    rw (k.pictures.cache, k.brought, k.grown, k.evicted, k.discarded, k.shrunk) (balanced n m t s (map call_of calls))

-- and the held bytes of the report balance too
pub reports_balanced : (ws : List ℕ) (n : ℕ) (m : Mode) (t : ℕ) (s : Settings) → FloatsFit s → (open_words ws n m t s).answer ≡ Ok 0
    → (calls : List TableCall) → ReportBalanced (table_past (open_words ws n m t s).table calls)
unfolding report_of
reports_balanced ws n m t s f h calls =
    let p = table_past (open_words ws n m t s).table calls in
    let k = same_past (open_words ws n m t s).table (fresh n m t s) calls (pictures_fresh ws n m t s f h) in
    let x = reported (record { passes = k.pictures.passes; cache = refl }) in
    record {
      report = report_of (cache_in p.table);
      answer = x;
      held = tables_balanced ws n m t s f h calls;
    }
