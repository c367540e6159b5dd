-- A request on a table that passes leaves a table that passes, and its words picture the cache that the rules give.
use Prim.Native.Nat.{ℕ}
use mathlib.Core.Bool.{Bool, true, false, true≢false, ◌||◌}
use mathlib.Core.List.{List, []}
use Rattle.std.specs.Prelude.{Option, None, Some, Ok}
use mathlib.Core.Path.{◌≡◌, refl, sym, ap, ◌∙◌}
use lib.Dec.{eqb, leb, ltb}
use lib.ListN.{length, drop}
use Rattle.settings.specs.declared.Settings.{Settings}
use Rattle.settings_words.specs.FloatsFit.{FloatsFit}
use Rattle.rules.proofs.Allowed.{step_allowed, fresh_allowed}
use Rattle.rules.proofs.Sides.{each_put}
use Rattle.rules.proofs.Steps.{failed, stepped}
use Rattle.rules.proofs.Tests.{or_true}
use Rattle.rules.specs.Allowed.{Allowed}
use Rattle.rules.specs.Cache.{Cache, fresh}
use Rattle.rules.specs.Hosts.{is_accepted, accepted, asking}
use Rattle.rules.specs.Opening.{refusal_of_opening}
use Rattle.rules.specs.Limits.{most_rows}
use Rattle.rules.specs.Reports.{report_of}
use Rattle.rules.specs.Refusals.{Call}
use Rattle.rules.specs.Requests.{Outcome, step}
use Rattle.rules.specs.Sides.{Side, one, two, Pair, at, put}
use Rattle.rules.specs.Types.{Answer}
use Rattle.rules.specs.declared.answer.Refusal.{Refusal}
use Rattle.settings.specs.declared.Mode.TheVariants.{Lead, Standby}
use Rattle.settings.specs.declared.Mode.{Mode}
use Rattle.rules.specs.declared.request.Request.{Request}
use Rattle.layout.proofs.ReadBack.{cache_back}
use Rattle.layout.specs.Layout.{layout_words}
use Rattle.layout.specs.Picture.{encode, cache_in}
use Rattle.judge.proofs.Verdicts.{sound, complete, good}
use Rattle.judge.specs.Verdict.{judge_words}
use Rattle.runs.specs.Hosts.{accepts, FloatsOf}
use Rattle.cache.specs.Tables.{carried_out, step_words, opened_with, open_words, report_words}
use Rattle.cache.proofs.StepAnswers.{carried, same_answer}
use Rattle.runs.proofs.Settled.{step_floats}

-- the words pass, and picture the cache
pub record Pictures (ws : List ℕ) (c : Cache) : Type 0 where
  pub passes : judge_words ws ≡ true
  pub cache : cache_in ws ≡ c

pictured : (c : Cache) (rest : List ℕ) → Allowed c → FloatsFit c.settings → Pictures (encode c rest) c
pictured c rest k f = record { passes = complete c rest k f; cache = cache_back c rest k.rows k.entries k.sound f }

-- ---- a request

module _ (ws os message : List ℕ) (r : Request) (v : judge_words ws ≡ true) where
  -- the rules' outcome
  abbrev pub ruled : Outcome
  ruled = step (cache_in ws) (asking r message (length os))

  pub accepts_as : accepts (step_words ws os message r) ≡ accepted ruled
  accepts_as = ap is_accepted (same_answer ws os message r v)

  pub pictures_after : FloatsOf r → Pictures (step_words ws os message r).table ruled.cache
  pictures_after f =
      let k = (sound ws v).0 in
      rw (carried ws os message r v)
      (stepped (cache_in ws) (asking r message (length os))
      (λ (o : Outcome). Allowed o.cache → FloatsFit o.cache.settings → Pictures (carried_out o.answer o ws os).table o.cache)
      (λ e i j. pictured _ _ i j)
      (λ x i j. record { passes = v; cache = refl })
      (step_allowed (cache_in ws) (asking r message (length os)) k)
      (step_floats (cache_in ws) (asking r message (length os)) k.sound (good ws v).steady.floats f))

  pub pictures_refused : accepts (step_words ws os message r) ≡ false → Pictures (step_words ws os message r).table ruled.cache
  pictures_refused h =
      rw (carried ws os message r v)
      (stepped (cache_in ws) (asking r message (length os))
      (λ (o : Outcome). accepted o ≡ false → Pictures (carried_out o.answer o ws os).table o.cache)
      (λ e i. absurd (true≢false i))
      (λ x i. record { passes = v; cache = refl })
      (sym accepts_as ∙ h))

-- on a table that pictures a cache, as the rules name the request
module _ {ws : List ℕ} {c : Cache} (k : Pictures ws c) (os message : List ℕ) (r : Request) {call : Call} (e : asking r message (length os) ≡ call) where
  pub same_step : step (cache_in ws) (asking r message (length os)) ≡ step c call
  same_step = rw k.cache (ap (step c) e)

  pub tells : accepts (step_words ws os message r) ≡ accepted (step c call)
  tells = accepts_as ws os message r k.passes ∙ ap accepted same_step

  pub pictures_next : FloatsOf r → Pictures (step_words ws os message r).table (step c call).cache
  pictures_next f = rw (← same_step) (pictures_after ws os message r k.passes f)

  pub pictures_still : accepts (step_words ws os message r) ≡ false → Pictures (step_words ws os message r).table (step c call).cache
  pictures_still h = rw (← same_step) (pictures_refused ws os message r k.passes h)

-- ---- opening

-- a table that is too short is refused
short : (n : ℕ) (m : Option Mode) (t : ℕ) (s : Settings) → refusal_of_opening n false m t s ≡ None → ⊥
unfolding refusal_of_opening
short n m t s e = true≢false (sym (or_true (eqb n 0 || ltb most_rows n)) ∙ (failed _ e).0)

opened_none : (o : Option Refusal) (ws : List ℕ) (n : ℕ) (c : Cache) → (opened_with o ws n c).answer ≡ Ok 0 → o ≡ None
opened_none None ws n c e = refl
opened_none (Some r) ws n c e = absurd (true≢false (ap (λ (a : Answer). accepted (record { answer = a; cache = c; orders = [] })) (sym e)))

module _ (ws : List ℕ) (n : ℕ) (m : Mode) (t : ℕ) (s : Settings) (f : FloatsFit s) (h : (open_words ws n m t s).answer ≡ Ok 0) where
  not_refused : refusal_of_opening n (leb (layout_words n) (length ws)) (Some m) t s ≡ None
  unfolding open_words
  not_refused = opened_none (refusal_of_opening n (leb (layout_words n) (length ws)) (Some m) t s) ws n (fresh n m t s) h

  -- the table is long enough, and nothing else is refused
  pub open_allowed : refusal_of_opening n true (Some m) t s ≡ None
  open_allowed = go (leb (layout_words n) (length ws)) not_refused
    where
      go : (b : Bool) → refusal_of_opening n b (Some m) t s ≡ None → refusal_of_opening n true (Some m) t s ≡ None
      go true e = e
      go false e = absurd (short n (Some m) t s e)

  pub pictures_fresh : Pictures (open_words ws n m t s).table (fresh n m t s)
  unfolding open_words
  pictures_fresh =
      rw not_refused (pictured (fresh n m t s) (drop (layout_words n) ws) (fresh_allowed n m t s open_allowed) f)

-- ---- two tables

pub record BothPicture (h : Pair (List ℕ)) (k : Pair Cache) : Type 0 where
  pub side : (x : Side) → Pictures (at x h) (at x k)

pub one_goes : {h : Pair (List ℕ)} {k : Pair Cache} (x : Side) {ws : List ℕ} {c : Cache} → BothPicture h k → Pictures ws c → BothPicture (put x ws h) (put x c k)
one_goes x b p = record { side = each_put (λ y ws c. Pictures ws c) x p b.side }

module _ (a b : List ℕ) (n m t : ℕ) (s u : Settings) (f : FloatsFit s) (g : FloatsFit u) (h : (open_words a n Lead t s).answer ≡ Ok 0) (k : (open_words b m Standby t u).answer ≡ Ok 0) where
  pub both_fresh : BothPicture (record { one = (open_words a n Lead t s).table; two = (open_words b m Standby t u).table }) (record { one = fresh n Lead t s; two = fresh m Standby t u })
  both_fresh = record { side = go }
    where
      go : (x : Side) → Pictures (at x (record { one = (open_words a n Lead t s).table; two = (open_words b m Standby t u).table })) (at x (record { one = fresh n Lead t s; two = fresh m Standby t u }))
      go one = pictures_fresh a n Lead t s f h
      go two = pictures_fresh b m Standby t u g k

-- ---- the report

pub reported : {ws : List ℕ} {c : Cache} → Pictures ws c → report_words ws ≡ Ok (report_of c)
unfolding report_words
reported k = rw (k.passes, k.cache)
