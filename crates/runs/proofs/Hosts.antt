-- Demand 3 over tables: a run on tables is a run of the caches that they picture, and what the words say is what those say.
use Rattle.std.specs.Prelude.{Err, Ok}
use Prim.Native.Nat.{ℕ, zero, suc, ◌+◌}
use mathlib.Core.Bool.{Bool, true, true≢false}
use mathlib.Core.List.{List, [], ◌∷◌}
use mathlib.Core.Path.{◌≡◌, refl, sym, ap, ap₂, subst, ◌∙◌}
use lib.Dec.{eqb}
use lib.ListN.{length, get_or}
use Rattle.rules.proofs.Hosts.{demand3, standby_accepts, all_taken, in_order, sent_before}
use Rattle.rules.proofs.Steps.{stepped}
use Rattle.rules.proofs.Tests.{split}
use Rattle.rules.specs.Cache.{Cache, due}
use Rattle.rules.specs.Hosts.{Run, Pending, settled, change, sent, accepted, asking, message_by, sent_in, taken_in, InOrder, Each}
use Rattle.rules.specs.Ledger.{Ledger, Shared, Sends, sent_by, ledger_of, dirty_size}
use Rattle.rules.specs.Messages.{message_of}
use Rattle.rules.specs.Refusals.{Call}
use Rattle.rules.specs.Reports.{report_of}
use Rattle.rules.specs.Requests.{Outcome, effect, step}
use Rattle.rules.specs.Rows.{get}
use Rattle.rules.specs.Sides.{Side, one, two, other, Pair, at, put}
use Rattle.rules.specs.Types.{Answer}
use Rattle.rules.specs.declared.answer.Refusal.TheVariants as refusal
use Rattle.settings.specs.declared.Mode.TheVariants.{Lead, Standby}
use Rattle.rules.specs.declared.request.Request.{Request}
use Rattle.rules.specs.declared.request.Request.TheVariants.{Take}
use Rattle.layout.specs.Layout.{row_at}
use Rattle.layout.specs.Picture.{entry_of, rows_of, cache_in}
use Rattle.runs.specs.Hosts.{accepts, list_in, next_in, message_from, FloatsOf, TableRun, sent_on, taken_on, dirty_in, ledger_in, due_in, TablesAgree, ReportsAgree}
use Rattle.cache.specs.Tables.{left, carried_out, step_words, report_words}
use Rattle.cache.proofs.StepAnswers.{carried}
use Rattle.runs.proofs.Pictured.{Pictures, accepts_as, same_step, tells, pictures_next, pictures_still, open_allowed, BothPicture, one_goes, both_fresh, reported}
use Rattle.runs.proofs.Read.{sends_writes, writes_back}

-- ---- the message sent

module _ {ws : List ℕ} {c : Cache} (k : Pictures ws c) (os message : List ℕ) {r : Request} (h : Sends r) {call : Call} (e : asking r message (length os) ≡ call) where
  pub list_sent : accepts (step_words ws os message r) ≡ true → list_in (step_words ws os message r) ≡ sent_by (step c call)
  list_sent a =
      ap list_in (carried ws os message r k.passes)
      ∙ stepped (cache_in ws) (asking r message (length os)) (λ (o : Outcome). accepted o ≡ true → list_in (carried_out o.answer o ws os) ≡ sent_by o)
      (λ e b. writes_back (effect (cache_in ws) message r).orders os (sends_writes (cache_in ws) message h))
      (λ x b. absurd (true≢false (sym b)))
      (sym (accepts_as ws os message r k.passes) ∙ a)
      ∙ ap sent_by (same_step k os message r e)

next_in_same : {ws : List ℕ} {c : Cache} → Pictures ws c → next_in ws ≡ c.next
unfolding cache_in
next_in_same k = ap (λ (c : Cache). c.next) k.cache

module _ {ws : List ℕ} {c : Cache} (k : Pictures ws c) (os message : List ℕ) {r : Request} (h : Sends r) {call : Call} (e : asking r message (length os) ≡ call) where
  pub message_sent : accepts (step_words ws os message r) ≡ true → message_by c (step c call) ≡ message_from ws (step_words ws os message r)
  message_sent a = sym (ap₂ message_of (next_in_same k) (list_sent k os message h e a))

-- ---- a run on tables is a run on caches

-- two caches that the tables picture, after a run with the same messages
pub record Follows (t : ℕ) (h : Pair (List ℕ)) (l : Ledger) (p : Pending) (out got : List (List ℕ)) : Type 0 where
  pub caches : Pair Cache
  pub pictures : BothPicture h caches
  pub run : Run t caches l p
  pub sent : sent_in run ≡ out
  pub taken : taken_in run ≡ got

-- the run as it goes on, with what is pending by another name
record Named (t : ℕ) (h : Pair Cache) (l : Ledger) (q : Pending) (out got : List (List ℕ)) : Type 0 where
  run : Run t h l q
  sent : sent_in run ≡ out
  taken : taken_in run ≡ got

by_name : {t : ℕ} {h : Pair Cache} {l : Ledger} {p q : Pending} {out got : List (List ℕ)} → p ≡ q → (run : Run t h l p) → sent_in run ≡ out → taken_in run ≡ got → Named t h l q out got
by_name {t} {h} {l} {out = out} {got} e run s k = subst (λ (q : Pending). Named t h l q out got) e (record { run = run; sent = s; taken = k })

goes : {t : ℕ} {h : Pair (List ℕ)} {l m : Ledger} {p q : Pending} {out got more gets : List (List ℕ)} (f : Follows t h l p out got) (x : Side) {ws : List ℕ} {c : Cache}
    → Pictures ws c → Named t (put x c f.caches) m q more gets → Follows t (put x ws h) m q more gets
goes f x k r = record { caches = _; pictures = one_goes x f.pictures k; run = r.run; sent = r.sent; taken = r.taken }

-- a shared change has no settings
pub shared_floats : {r : Request} → Shared r → FloatsOf r
shared_floats (Shared.insert a s) = tt
shared_floats (Shared.changed a s) = tt
shared_floats (Shared.resize a s) = tt
shared_floats (Shared.discard a) = tt

pub sends_floats : {r : Request} → Sends r → FloatsOf r
sends_floats Sends.flush = tt
sends_floats Sends.sync = tt

pub follows : {t : ℕ} {h : Pair (List ℕ)} {l : Ledger} {p : Pending} (run : TableRun t h l p) → Follows t h l p (sent_on run) (taken_on run)
follows {t} (TableRun.opened a b n m s u i j h k) = record {
  caches = _;
  pictures = both_fresh a b n m t s u i j h k;
  run = Run.opened n m s u (open_allowed a n Lead t s i h) (open_allowed b m Standby t u j k);
  sent = refl;
  taken = refl;
}
follows (TableRun.local x os message r k f run) =
    let b = follows run in
    let w = b.pictures.side x in
    goes b x (pictures_next w os message r refl f) (record { run = Run.local x (asking r message (length os)) k b.run; sent = b.sent; taken = b.taken })
follows (TableRun.refuses x os message r h run) =
    let b = follows run in
    let w = b.pictures.side x in
    goes b x (pictures_still w os message r refl h)
    (record { run = Run.refuses x (asking r message (length os)) (sym (tells w os message r refl) ∙ h) b.run; sent = b.sent; taken = b.taken })
follows (TableRun.begins {r = r} x k os message run) =
    let b = follows run in
    let w = b.pictures.side x in
    goes b x (pictures_next w os message r refl (shared_floats k))
    (by_name (ap (λ (ok : Bool). change x k ok) (sym (tells w os message r refl))) (Run.begins x k message (length os) b.run) b.sent b.taken)
follows (TableRun.ends {r = r} x k os message ok e run) =
    let b = follows run in
    let w = b.pictures.side (other x) in
    goes b (other x) (pictures_next w os message r refl (shared_floats k))
    (record { run = Run.ends x k message (length os) ok (sym (tells w os message r refl) ∙ e) b.run; sent = b.sent; taken = b.taken })
follows (TableRun.sends {h} {r = r} x k os message e f run) =
    let b = follows run in
    let w = b.pictures.side x in
    let m = message_sent w os message k refl e in
    goes b x (pictures_next w os message r refl (sends_floats k))
    (by_name (ap (sent x) m)
    (Run.sends x (asking r message (length os)) k (sym (tells w os message r refl) ∙ e) (rw (list_sent w os message k refl e) at f) b.run)
    (ap₂ (λ (y : List ℕ) (rest : List (List ℕ)). y ∷ rest) m b.sent) b.taken)
follows (TableRun.takes x os message e run) =
    let b = follows run in
    let w = b.pictures.side (other x) in
    goes b (other x) (pictures_next w os message Take refl tt)
    (record { run = Run.takes x message (length os) (sym (tells w os message Take refl) ∙ e) b.run; sent = b.sent; taken = ap (λ (rest : List (List ℕ)). message ∷ rest) b.taken })

-- ---- what the words say

dirty_in_same : (n r : ℕ) (ws : List ℕ) (a : ℕ) → dirty_in n r ws a ≡ dirty_size (get (rows_of n r ws) a)
unfolding dirty_in rows_of get entry_of
dirty_in_same zero r ws a = refl
dirty_in_same (suc n) r ws a =
    split (eqb (get_or ws (row_at r + 1) 0) 0)
    (λ z. rw z (dirty_in_same n (suc r) ws a))
    (λ z. split (eqb (get_or ws (row_at r) 0) a) (λ e. rw (z, e)) (λ e. rw (z, e) (dirty_in_same n (suc r) ws a)))

ledger_in_same : {ws : List ℕ} {c : Cache} → Pictures ws c → ledger_in ws ≡ ledger_of c
unfolding cache_in
ledger_in_same {ws} k = (λ i. record { sizes = λ a. dirty_in_same (get_or ws 1 0) 0 ws a i; count = get_or ws 7 0 }) ∙ ap ledger_of k.cache

due_in_same : {ws : List ℕ} {c : Cache} → Pictures ws c → due_in ws ≡ due c
unfolding cache_in
due_in_same k = ap due k.cache

-- ---- the demand

pub tables_agree : {t : ℕ} {h : Pair (List ℕ)} {l : Ledger} → TableRun t h l settled → TablesAgree h l
tables_agree run =
    let k = follows run in
    let d = demand3 k.run in
    record {
      ledger = λ x. ledger_in_same (k.pictures.side x) ∙ d.ledger x;
      due = due_in_same (k.pictures.side one) ∙ d.due ∙ sym (due_in_same (k.pictures.side two));
      next = next_in_same (k.pictures.side one) ∙ d.next ∙ sym (next_in_same (k.pictures.side two));
    }

-- both tables give the reports of their caches
both_reported : {h : Pair (List ℕ)} {c : Pair Cache} → BothPicture h c → (x : Side) → report_words (at x h) ≡ Ok (at x (record { one = report_of c.one; two = report_of c.two }))
both_reported k one = reported (k.side one)
both_reported k two = reported (k.side two)

-- the reports say the same
pub reports_agree : {t : ℕ} {h : Pair (List ℕ)} {l : Ledger} → TableRun t h l settled → ReportsAgree h
unfolding report_of
reports_agree run =
    let k = follows run in
    let d = demand3 k.run in
    record {
      report = record { one = report_of k.caches.one; two = report_of k.caches.two };
      answer = both_reported k.pictures;
      count = ap (λ l. l.count) (d.ledger one ∙ sym (d.ledger two));
      due = d.due;
      next = d.next;
    }

-- ---- the messages

-- the standby never refuses a message that was sent
pub takes_message : {t : ℕ} {h : Pair (List ℕ)} {l : Ledger} {x : Side} {message : List ℕ} → TableRun t h l (sent x message) → (os : List ℕ)
    → accepts (step_words (at (other x) h) os message Take) ≡ true
takes_message {x = x} {message} run os =
    let k = follows run in
    tells (k.pictures.side (other x)) os message Take refl ∙ standby_accepts k.run (length os)

-- they are numbered 1, 2, 3 and so on, and taken as they were sent
pub numbered_in_order : {t : ℕ} {h : Pair (List ℕ)} {l : Ledger} {p : Pending} (run : TableRun t h l p) → InOrder (sent_on run)
numbered_in_order run = let k = follows run in subst InOrder k.sent (in_order k.run)

pub taken_as_sent : {t : ℕ} {h : Pair (List ℕ)} {l : Ledger} (run : TableRun t h l settled) → taken_on run ≡ sent_on run
taken_as_sent run = let k = follows run in sym k.taken ∙ all_taken k.run ∙ k.sent

-- one that was sent before is refused with 16, and no lent word changes
again_refused : {ws : List ℕ} {c : Cache} → Pictures ws c → (os : List ℕ) (messages : List (List ℕ))
    → Each (λ message. (step c (asking Take message (length os))).answer ≡ Err refusal.Number) messages
    → Each (λ message. step_words ws os message Take ≡ left (Err refusal.Number) ws os) messages
again_refused k os [] e = tt
again_refused {ws} k os (message ∷ earlier) e =
    let s = same_step k os message Take refl in (
      carried ws os message Take k.passes
          ∙ ap (λ (a : Answer). carried_out a (step (cache_in ws) (asking Take message (length os))) ws os) (ap (λ (o : Outcome). o.answer) s ∙ e.0),
      again_refused k os earlier e.1,
    )

pub refused_again : {t : ℕ} {h : Pair (List ℕ)} {l : Ledger} (run : TableRun t h l settled) (os : List ℕ)
    → Each (λ message. step_words h.two os message Take ≡ left (Err refusal.Number) h.two os) (sent_on run)
refused_again {h = h} run os =
    let k = follows run in
    subst (Each (λ message. step_words h.two os message Take ≡ left (Err refusal.Number) h.two os)) k.sent
    (again_refused (k.pictures.side two) os (sent_in k.run) (sent_before k.run (length os)))
