-- Runs by asking exist: one on tables in which each of its turns is taken.
use Prim.Native.Nat.{ℕ}
use mathlib.Core.Bool.{true, false}
use mathlib.Core.List.{List, [], ◌∷◌}
use Rattle.std.specs.Prelude.{None, Some, Ok}
use mathlib.Core.Path.{◌≡◌, refl, ◌∙◌}
use lib.Dec.{lit≤}
use lib.ListN.{length, length-replicate}
use Rattle.settings.specs.declared.Settings.{Settings}
use Rattle.settings_words.specs.FloatsFit.{FloatsFit}
use Rattle.rules.proofs.Cases.{computing}
use Rattle.rules.specs.Cache.{Cache, fresh}
use Rattle.rules.specs.Cases.{ask, small}
use Rattle.rules.specs.Hosts.{accepted, asking, message_by, hear_message}
use Rattle.rules.specs.Ledger.{Ledger, blank, hear, sent_by, Shared, Local, Sends, insert, protect, unchanged, flush}
use Rattle.rules.specs.Messages.{Words}
use Rattle.rules.specs.Opening.{refusal_of_opening}
use Rattle.rules.specs.Refusals.{Call, refusal_of}
use Rattle.rules.specs.Requests.{step}
use Rattle.rules.specs.Sides.{Side, one, two, other, Pair, at, put}
use Rattle.rules.specs.declared.request.Access.TheVariants.{Reading}
use Rattle.settings.specs.declared.Mode.TheVariants.{Lead, Standby}
use Rattle.rules.specs.declared.request.Request.{Request}
use Rattle.rules.specs.declared.request.Request.TheVariants.{Protect, Release, Flush, Take}
use Rattle.layout.specs.Layout.{layout_words}
use Rattle.cache.specs.Asked.{ask_words}
use Rattle.runs.specs.AskedRuns.{Outstanding, nothing, doing, taking, Free, AskedRun}
use Rattle.runs.specs.Hosts.{FloatsOf}
use Rattle.runs.proofs.Hosts.{list_sent, message_sent, shared_floats, sends_floats}
use Rattle.runs.proofs.Pictured.{Pictures, tells, pictures_next, pictures_still, BothPicture, one_goes, both_fresh}
use Rattle.runs.proofs.Runs.{blank as zeros, with_blank, opens, small_fits}

-- tables that picture two caches, after a run by asking
pub record Played (t : ℕ) (h : Pair Cache) (l : Ledger) (p : Outstanding) : Type 0 where
  pub tables : Pair (List ℕ)
  pub pictures : BothPicture tables h
  pub run : AskedRun t tables l p

-- what a table says, by the rules on its cache
says_yes : {ws : List ℕ} {c : Cache} → Pictures ws c → (r : Request) (lent : ℕ) → refusal_of c (asking r [] lent) ≡ None
    → ask_words ws (length (zeros lent)) [] r ≡ Ok tt
unfolding ask_words
says_yes k r lent e = rw (length-replicate {A = ℕ} lent 0, k.passes, k.cache, e)

-- ---- the turns

goes : {t : ℕ} {h : Pair Cache} {l m : Ledger} {p q : Outstanding} (k : Played t h l p) (x : Side) {ws : List ℕ} {c : Cache}
    → Pictures ws c → AskedRun t (put x ws k.tables) m q → Played t (put x c h) m q
goes k x w r = record { tables = _; pictures = one_goes x k.pictures w; run = r }

opened : {t : ℕ} (n m : ℕ) (s : Settings) → FloatsFit s → refusal_of_opening n true (Some Lead) t s ≡ None → refusal_of_opening m true (Some Standby) t s ≡ None
    → Played t (record { one = fresh n Lead t s; two = fresh m Standby t s }) blank nothing
opened {t} n m s f h k =
    let a = zeros (layout_words n) in
    let b = zeros (layout_words m) in
    let i = opens n Lead t s h in
    let j = opens m Standby t s k in
    record { tables = _; pictures = both_fresh a b n m t s s f f i j; run = AskedRun.opened a b n m s s f f i j }

module _ {t : ℕ} {h : Pair Cache} {l : Ledger} {p : Outstanding} (x : Side) (call : Call) where
  local : Local call.request → FloatsOf call.request → Free x p → Played t h l p → Played t (put x (step (at x h) call).cache h) l p
  local k f w b =
      let os = zeros call.lent in
      goes b x (pictures_next (b.pictures.side x) os call.message call.request (with_blank call.request call.message call.lent) f)
      (AskedRun.local x os call.message call.request k f w b.run)

  refuses : accepted (step (at x h) call) ≡ false → Free x p → Played t h l p → Played t (put x (step (at x h) call).cache h) l p
  refuses e w b =
      let os = zeros call.lent in
      let v = b.pictures.side x in
      let i = with_blank call.request call.message call.lent in
      let n = tells v os call.message call.request i ∙ e in
      goes b x (pictures_still v os call.message call.request i n) (AskedRun.refuses x os call.message call.request n w b.run)

module _ {t : ℕ} {h : Pair Cache} {l : Ledger} {r : Request} (x : Side) (k : Shared r) (lent : ℕ) where
  -- both say yes, and one has the change
  begins : refusal_of (at x h) (asking r [] lent) ≡ None → refusal_of (at (other x) h) (asking r [] lent) ≡ None → Played t h l nothing
      → Played t (put x (step (at x h) (asking r [] lent)).cache h) l (doing x k (length (zeros lent)) [])
  begins e f b =
      let os = zeros lent in
      let v = b.pictures.side in
      goes b x (pictures_next (v x) os [] r (with_blank r [] lent) (shared_floats k))
      (AskedRun.begins x k os [] (length os) [] (says_yes (v x) r lent e) (says_yes (v (other x)) r lent f) b.run)

  -- the other has it
  ends : Played t h l (doing x k (length (zeros lent)) []) → Played t (put (other x) (step (at (other x) h) (asking r [] lent)).cache h) (hear k l) nothing
  ends b =
      goes b (other x) (pictures_next (b.pictures.side (other x)) (zeros lent) [] r (with_blank r [] lent) (shared_floats k))
      (AskedRun.ends x k (zeros lent) [] b.run)

sends : {t : ℕ} {h : Pair Cache} {l : Ledger} (x : Side) (call : Call) → Sends call.request → accepted (step (at x h) call) ≡ true → Words (sent_by (step (at x h) call)) → Played t h l nothing
    → Played t (put x (step (at x h) call).cache h) l (taking x (message_by (at x h) (step (at x h) call)))
sends x call k e q b =
    let os = zeros call.lent in
    let v = b.pictures.side x in
    let i = with_blank call.request call.message call.lent in
    let a = tells v os call.message call.request i ∙ e in
    goes b x (pictures_next v os call.message call.request i (sends_floats k))
    (rw (message_sent v os call.message k i a) (AskedRun.sends x k os call.message a (rw (list_sent v os call.message k i a) q) b.run))

takes : {t : ℕ} {h : Pair Cache} {l : Ledger} (x : Side) (message : List ℕ) → Played t h l (taking x message)
    → Played t (put (other x) (step (at (other x) h) (asking Take message 0)).cache h) (hear_message message l) nothing
takes x message b = goes b (other x) (pictures_next (b.pictures.side (other x)) (zeros 0) message Take refl tt) (AskedRun.takes x (zeros 0) message b.run)

-- ---- the run

-- a run in which nothing is outstanding
pub record Shown : Type 0 where
  pub hosts : Pair Cache
  pub ledger : Ledger
  pub played : Played 1000 hosts ledger nothing

-- a change to the lead first, with a request to the lead before the standby has it; one to the standby first
unfoldable changes : Shown
unfolding computing
changes = record {
  hosts = _;
  ledger = _;
  played =
      ends two (insert 200 60) 27
      (local two (ask (Protect Reading 300 10)) (protect Reading 300 10) tt refl
      (begins two (insert 200 60) 27 refl refl
      (ends one (insert 100 50) 27
      (local one (ask (Protect Reading 100 50)) (protect Reading 100 50) tt refl
      (begins one (insert 100 50) 27 refl refl
      (opened 4 3 small small_fits refl refl))))));
}

both_words : Words (100 ∷ 200 ∷ [])
both_words = (lit≤ tt, (lit≤ tt, tt))

-- refused requests, and a message that is sent and taken
pub shown : Shown
unfolding computing changes
shown = record {
  hosts = _;
  ledger = _;
  played =
      takes one _
      (sends one (ask Flush) flush refl both_words
      (local one (ask (Release 100)) (unchanged 100) tt tt
      (refuses two (ask Flush) refl tt
      (refuses one (ask Take) refl tt
      changes.played))));
}
