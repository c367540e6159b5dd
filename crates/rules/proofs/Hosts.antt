-- Demand 3: after any run a lead and a standby have the dirty records, the sizes and the count of the ledger, and say alike whether a list
-- is due; and the standby takes every message that was sent, in the order of their numbers, and none of them again. By induction on the run:
-- each host keeps the ledger, and the number of the next message, as far as it has heard.
use Prim.Native.Nat.{ℕ, suc, ◌≤◌}
use mathlib.Core.Path.{◌≡◌, refl, sym, ap, ap₂, subst, ◌∙◌}
use mathlib.Core.Bool.{Bool, true, false, not, ◌&&◌, ◌||◌, false≢true, true≢false}
use Rattle.std.proofs.lemmas.Option.{none-some}
use Rattle.std.specs.Prelude.{Option, None, Some, Err}
use mathlib.Core.List.{List, [], ◌∷◌}
use native.Mathlib.Numerals.{add-one}
use native.Mathlib.Omega.{arith}
use lib.Dec.{eqb}
use lib.ListN.{length, length-map}
use borrow.Author.Tests.{eqb-true, eqb-false, eq-eqb, ne_eqb, not-false}
use Rattle.settings.specs.declared.Settings.{Settings}
use Rattle.rules.specs.declared.answer.Refusal.TheVariants as refusal
use Rattle.rules.specs.declared.entry.Entry.{Entry}
use Rattle.rules.specs.Types.{Row}
use Rattle.settings.specs.declared.Mode.{Mode}
use Rattle.settings.specs.declared.Mode.TheVariants.{Alone, Lead, Standby}
use Rattle.rules.specs.declared.request.Request.{Request}
use Rattle.rules.specs.declared.request.Request.TheVariants.{Flush, Sync, Take}
use Rattle.rules.specs.Addresses.{elem, twice, some_address}
use Rattle.rules.specs.Allowed.{Allowed}
use Rattle.rules.specs.Cache.{Cache, fresh}
use Rattle.rules.specs.Hosts.{accepted, asking, message_by, Pending, settled, change, sent, heard, hear_message, Run, opened, local, refuses, begins, ends, sends, takes, Agree, sent_in, taken_in, InOrder, Each}
use Rattle.rules.specs.Kept.{number_after}
use Rattle.rules.specs.Ledger.{Ledger, blank, Shared, insert, changed, resize, discard, Local, protect, unchanged, pin, unpin, configure, Sends, flush, sync, hear_list, is_in, dirty_size, ledger_of, sent_by}
use Rattle.rules.specs.Limits.{all_ones, last_number}
use Rattle.rules.specs.Messages.{message_of, Words, IsMessage, Message, right, early, malformed, read_message, number_in, addresses_in, next_after}
use Rattle.rules.specs.Opening.{refusal_of_opening}
use Rattle.rules.specs.Refusals.{is_alone, is_lead, is_standby, Call, tests, first_of, refusal_of}
use Rattle.rules.specs.Requests.{Outcome, effect, judged, step}
use Rattle.rules.specs.Rows.{get, passes, dirty_at}
use Rattle.rules.specs.Sides.{Side, one, two, other, Pair, at, put}
use Rattle.rules.proofs.Allowed.{step_allowed, fresh_allowed}
use Rattle.rules.proofs.Follow.{same_ledger, dirty_in_same, shared_follows, local_keeps, takes_list}
use Rattle.rules.proofs.Kept.{step_kept, mode_kept, step_number, step_orders}
use Rattle.rules.proofs.Lists.{elem_first, elem_rest}
use Rattle.rules.proofs.Messages.{reads}
use Rattle.rules.proofs.Sent.{sends as sends-list}
use Rattle.rules.proofs.Sides.{each_put, put_same, at_other}
use Rattle.rules.proofs.Sound.{none_free}
use Rattle.rules.proofs.Steps.{failed, stepped, step_refused, accepts}
use Rattle.rules.proofs.Tests.{split, if_same, or_true}

-- ---- a host

-- what a host has heard of: the ledger, and the number of the next message
record Heard : Type 0 where
  ledger : Ledger
  next : ℕ

-- a shared change, and a message
abbrev on_change : (Ledger → Ledger) → Heard → Heard
on_change f k = record { ledger = f k.ledger; next = k.next }

abbrev on_message : List ℕ → Heard → Heard
on_message message k = record { ledger = hear_message message k.ledger; next = next_after k.next }

-- one of the two, with what it has heard of
record Host (m : Mode) (t : ℕ) (c : Cache) (k : Heard) : Type 0 where
  says : ledger_of c ≡ k.ledger
  next : c.next ≡ k.next
  mode : c.mode ≡ m
  threshold : c.threshold ≡ t
  allowed : Allowed c

-- a host after a request
goes : {m : Mode} {t : ℕ} {c : Cache} {k n : Heard} (call : Call) → Host m t c k → ledger_of (step c call).cache ≡ n.ledger → (step c call).cache.next ≡ n.next
    → Host m t (step c call).cache n
goes {c = c} call h e f =
    let k = h.allowed.sound in
    record {
      says = e;
      next = f;
      mode = mode_kept c call k ∙ h.mode;
      threshold = (step_kept c call k).threshold ∙ h.threshold;
      allowed = step_allowed c call h.allowed;
    }

-- neither a local request nor a shared change uses up a number
local_number : {r : Request} (c : Cache) → Local r → number_after c r ≡ c.next
local_number c (protect x a s) = refl
local_number c (unchanged a) = refl
local_number c (pin a) = refl
local_number c (unpin a) = refl
local_number c (configure s) = refl

shared_number : {r : Request} (c : Cache) → Shared r → number_after c r ≡ c.next
shared_number c (insert a s) = refl
shared_number c (changed a s) = refl
shared_number c (resize a s) = refl
shared_number c (discard a) = refl

module _ {m : Mode} (host : is_alone m ≡ false) {t : ℕ} {c : Cache} {k : Heard} (h : Host m t c k) (call : Call) where
  here : is_alone c.mode ≡ false
  here = ap is_alone h.mode ∙ host

  same_number : number_after c call.request ≡ c.next → (step c call).cache.next ≡ k.next
  same_number e = step_number c call h.allowed.sound ∙ rw e (if_same (accepted (step c call)) c.next) ∙ h.next

  host_local : Local call.request → Host m t (step c call).cache k
  unfolding refusal_of
  host_local x =
      goes call h
      (stepped c call (λ o. ledger_of o.cache ≡ ledger_of c) (λ e. local_keeps c call.lent call.message h.allowed.sound here x e) (λ r. refl) ∙ h.says)
      (same_number (local_number c x))

  host_refuses : accepted (step c call) ≡ false → Host m t (step c call).cache k
  host_refuses e = let s = (step_refused c call e).cache in goes call h (ap ledger_of s ∙ h.says) (ap (λ (d : Cache). d.next) s ∙ h.next)

  host_shared : (x : Shared call.request) (ok : Bool) → accepted (step c call) ≡ ok → Host m t (step c call).cache (on_change (heard ok x) k)
  unfolding refusal_of
  host_shared x ok e =
      rw (← e)
      (goes call h
      (stepped c call (λ o. ledger_of o.cache ≡ heard (accepted o) x (ledger_of c))
      (λ e. shared_follows c call.lent call.message h.allowed.sound here x e) (λ r. refl)
      ∙ ap (heard (accepted (step c call)) x) h.says)
      (same_number (shared_number c x)))

-- ---- lists

-- what is found at an address has it
get_address : (rows : List Row) (a : ℕ) (e : Entry) → get rows a ≡ Some e → e.address ≡ a
unfolding get
get_address [] a e g = absurd (none-some e g)
get_address (None ∷ rows) a e g = get_address rows a e g
get_address (Some x ∷ rows) a e g =
    split (eqb x.address a)
    (λ p. let q : Some x ≡ Some e = simp p at g in let s : x ≡ e = cc in sym (ap (λ e. e.address) s) ∙ eqb-true x.address a p)
    (λ p. get_address rows a e (simp p at g))

-- a list that the standby can take: no address twice, none all ones, each of a dirty record
record Sendable (list : List ℕ) (l : Ledger) : Type 0 where
  once : twice list ≡ false
  address : elem all_ones list ≡ false
  dirty : (b : ℕ) → elem b list ≡ true → is_in (l.sizes b) ≡ true

no_ones : (c : Cache) → Allowed c → dirty_at c.rows all_ones ≡ false
no_ones c k = go (get c.rows all_ones) refl
  where
    go : (o : Option Entry) → get c.rows all_ones ≡ o → passes (λ e. e.dirty) o ≡ false
    go None g = refl
    go (Some e) g =
        absurd (true≢false (sym (ap (λ (x : ℕ). eqb x all_ones) (get_address c.rows all_ones e g)) ∙ (k.entries all_ones e g).address))

-- ---- opening, a message sent, a message taken

opens : {m : Mode} {t : ℕ} (n : ℕ) (s : Settings) → refusal_of_opening n true (Some m) t s ≡ None → Host m t (fresh n m t s) (record { ledger = blank; next = 1 })
opens {m} {t} n s h = record {
  says = same_ledger (λ b. ap dirty_size (none_free n b)) refl;
  next = refl;
  mode = refl;
  threshold = refl;
  allowed = fresh_allowed n m t s h;
}

-- of a host that is not alone, only the lead accepts a flush or a sync, and only while a number is left
leads_by : {r : Request} → Sends r → (c : Cache) (lent : ℕ) (message : List ℕ) → first_of (tests c lent message r) ≡ None → is_alone c.mode ≡ false
    → (is_lead c.mode ≡ true) × (eqb c.next 0 ≡ false)
unfolding tests
leads_by flush c lent message e i = let f = failed (tests c lent message Flush) e in go c.mode i f.1.0 f.1.1.1.0
  where
    go : (m : Mode) → is_alone m ≡ false → is_standby m ≡ false → is_lead m && eqb c.next 0 ≡ false → (is_lead m ≡ true) × (eqb c.next 0 ≡ false)
    go Alone p q r = absurd (true≢false p)
    go Lead p q r = (refl, r)
    go Standby p q r = absurd (true≢false q)
leads_by sync c lent message e i = let f = failed (tests c lent message Sync) e in (not-false _ f.1.0, f.1.1.0)

-- and it uses that number up
sends_number : {r : Request} (c : Cache) → Sends r → is_lead c.mode ≡ true → number_after c r ≡ next_after c.next
sends_number c flush e = rw e
sends_number c sync e = rw e

-- a host that sent a message
record Sending (m : Mode) (t : ℕ) (d : Cache) (k : Heard) (message : List ℕ) : Type 0 where
  host : Host m t d (on_message message k)
  leads : is_lead m ≡ true
  left : eqb k.next 0 ≡ false
  list : List ℕ
  written : IsMessage message k.next list
  sendable : Sendable list k.ledger

module _ {m : Mode} (host : is_alone m ≡ false) {t : ℕ} {c : Cache} {k : Heard} (h : Host m t c k) (call : Call) (e : accepted (step c call) ≡ true) where
  abbrev out : Outcome
  out = step c call

  -- the list is that of the ledger's records, each once
  list_sent : Sends call.request → (ledger_of out.cache ≡ hear_list (sent_by out) (ledger_of c)) × Sendable (sent_by out) (ledger_of c)
  unfolding refusal_of
  list_sent x =
      stepped c call
      (λ o. accepted o ≡ true → (ledger_of o.cache ≡ hear_list (sent_by o) (ledger_of c)) × Sendable (sent_by o) (ledger_of c))
      (λ r t. let s = sends-list c call.message x h.allowed.sound in (
        s.ledger,
        record {
          once = s.once;
          address = split (elem all_ones (sent_by (judged None c (effect c call.message call.request))))
              (λ p. absurd (true≢false (sym (s.dirty all_ones p) ∙ no_ones c h.allowed))) (λ p. p);
          dirty = λ b i. sym (dirty_in_same (get c.rows b)) ∙ s.dirty b i;
        },
      ))
      (λ r t. absurd (false≢true t)) e

  sender : Sends call.request → (is_lead c.mode ≡ true) × (eqb c.next 0 ≡ false)
  unfolding refusal_of
  sender x =
      stepped c call (λ o. accepted o ≡ true → (is_lead c.mode ≡ true) × (eqb c.next 0 ≡ false))
      (λ r t. leads_by x c call.lent call.message r (ap is_alone h.mode ∙ host)) (λ r t. absurd (false≢true t)) e

  -- the number after it
  numbered_by : number_after c call.request ≡ next_after c.next → out.cache.next ≡ next_after k.next
  numbered_by n = step_number c call h.allowed.sound ∙ rw (e, n, h.next)

  host_sends : Sends call.request → Words (sent_by out) → k.next ≤ last_number → Sending m t out.cache k (message_by c out)
  host_sends x w b =
      let l = list_sent x in
      let s = sender x in
      let i : IsMessage (message_by c out) k.next (sent_by out) = record {
        number = b;
        count = let p = step_orders c call h.allowed.sound in let q = h.allowed.rows in let r = length-map out.orders (λ o. o.address) in omega arith;
        addresses = w;
        written = ap (λ (n : ℕ). message_of n (sent_by out)) h.next;
      } in
      record {
        host = goes call h (l.0 ∙ ap₂ (λ (j : Message) (d : Ledger). hear_list (addresses_in j) d) (sym (reads i)) h.says) (numbered_by (sends_number c x s.0));
        leads = sym (ap is_lead h.mode) ∙ s.0;
        left = sym (ap (λ (n : ℕ). eqb n 0) h.next) ∙ s.1;
        list = sent_by out;
        written = i;
        sendable = subst (Sendable (sent_by out)) h.says l.1;
      }

host_takes : {m : Mode} {t : ℕ} {c : Cache} {k : Heard} (message : List ℕ) (lent : ℕ) → is_alone m ≡ false → accepted (step c (asking Take message lent)) ≡ true → Host m t c k
    → Host m t (step c (asking Take message lent)).cache (on_message message k)
unfolding effect
host_takes {c = c} message lent i e h =
    let call = asking Take message lent in
    goes call h
    (stepped c call (λ o. accepted o ≡ true → ledger_of o.cache ≡ hear_message message (ledger_of c))
    (λ r t. takes_list (addresses_in (read_message message)) c) (λ r t. absurd (false≢true t)) e ∙ ap (hear_message message) h.says)
    (numbered_by i h call e refl)

-- ---- both

abbrev mode_of : Side → Mode
mode_of one = Lead
mode_of two = Standby

not_alone : (x : Side) → is_alone (mode_of x) ≡ false
not_alone one = refl
not_alone two = refl

-- the lead's other is the standby
other_stands : (x : Side) → is_lead (mode_of x) ≡ true → mode_of (other x) ≡ Standby
other_stands one h = refl
other_stands two h = absurd (false≢true h)

-- the two, each with what it has heard of
record Hosts (t : ℕ) (h : Pair Cache) (k : Pair Heard) : Type 0 where
  host : (x : Side) → Host (mode_of x) t (at x h) (at x k)

goes_on : {t : ℕ} {h : Pair Cache} {k : Pair Heard} (x : Side) {c : Cache} {m : Heard} → Hosts t h k → Host (mode_of x) t c m → Hosts t (put x c h) (put x m k)
goes_on {t} x b a = record { host = each_put (λ y c m. Host (mode_of y) t c m) x a b.host }

abbrev each : Heard → Pair Heard
each k = record { one = k; two = k }

at_each : (x : Side) (k : Heard) → at x (each k) ≡ k
at_each one k = refl
at_each two k = refl

-- the one hears of a change or message, and then the other
put_first : (f : Heard → Heard) (x : Side) (k : Heard) → put x (f (at x (each k))) (each k) ≡ put x (f k) (each k)
put_first f x k = ap (λ (m : Heard). put x (f m) (each k)) (at_each x k)

put_second : (f : Heard → Heard) (x : Side) (k : Heard) → let p = put x (f k) (each k) in put (other x) (f (at (other x) p)) p ≡ each (f k)
put_second f one k = refl
put_second f two k = refl

-- ---- numbers

-- after j messages the next number is j + 1, or none is left
numbers : (j : ℕ) → j ≤ last_number → (next_after j ≤ last_number) × (eqb (next_after j) 0 ≡ false → (next_after j ≡ suc j) × (suc j ≤ last_number))
numbers j h =
    split (eqb j last_number)
    (λ p. rw p (omega arith, λ q. absurd (true≢false q)))
    (λ p. rw p (let n = eqb-false j last_number p in (omega arith, λ q. (refl, omega arith))))

-- ---- a run

-- what each has heard by now, if both have heard of k
abbrev heards : Pending → Heard → Pair Heard
heards settled k = each k
heards (change x c ok) k = put x (on_change (heard ok c) k) (each k)
heards (sent x message) k = put x (on_message message k) (each k)

-- a message that is on its way can be taken, and the one to take it is the standby
record OnItsWay (x : Side) (message : List ℕ) (k : Heard) : Type 0 where
  list : List ℕ
  written : IsMessage message k.next list
  left : eqb k.next 0 ≡ false
  sendable : Sendable list k.ledger
  stands : mode_of (other x) ≡ Standby

abbrev Waiting : Pending → Heard → Type 0
Waiting settled k = Unit
Waiting (change x c ok) k = Unit
Waiting (sent x message) k = OnItsWay x message k

-- what both have heard of after j messages that were taken
abbrev after_taken : Ledger → ℕ → Heard
after_taken l j = record { ledger = l; next = next_after j }

record Both (t : ℕ) (h : Pair Cache) (l : Ledger) (p : Pending) (j : ℕ) : Type 0 where
  few : j ≤ last_number
  hosts : Hosts t h (heards p (after_taken l j))
  waiting : Waiting p (after_taken l j)

-- the one that sends next
sending : {t : ℕ} {h : Pair Cache} {l : Ledger} {j : ℕ} → Both t h l settled j → (x : Side) (call : Call) → Sends call.request → accepted (step (at x h) call) ≡ true
    → Words (sent_by (step (at x h) call)) → Sending (mode_of x) t (step (at x h) call).cache (after_taken l j) (message_by (at x h) (step (at x h) call))
sending {t} {h} {l} {j} b x call k e w =
    host_sends (not_alone x) (subst (Host (mode_of x) t (at x h)) (at_each x (after_taken l j)) (b.hosts.host x)) call e k w (numbers j b.few).0

run_keeps : {t : ℕ} {h : Pair Cache} {l : Ledger} {p : Pending} (run : Run t h l p) → Both t h l p (length (taken_in run))
run_keeps {t} (opened n m s u h k) = record { few = omega arith; hosts = record { host = go }; waiting = tt }
  where
    go : (x : Side) → Host (mode_of x) t (at x (record { one = fresh n Lead t s; two = fresh m Standby t u })) (at x (each (after_taken blank 0)))
    go one = opens n s h
    go two = opens m u k
run_keeps {l = l} {p} (local x call k run) =
    let b = run_keeps run in
    record {
      few = b.few;
      hosts = rw (← put_same x (heards p (after_taken l (length (taken_in run))))) (goes_on x b.hosts (host_local (not_alone x) (b.hosts.host x) call k));
      waiting = b.waiting;
    }
run_keeps {l = l} {p} (refuses x call e run) =
    let b = run_keeps run in
    record {
      few = b.few;
      hosts = rw (← put_same x (heards p (after_taken l (length (taken_in run))))) (goes_on x b.hosts (host_refuses (not_alone x) (b.hosts.host x) call e));
      waiting = b.waiting;
    }
run_keeps (begins {h} {l} {r} x k message lent run) =
    let b = run_keeps run in
    let call = asking r message lent in
    let ok = accepted (step (at x h) call) in
    record {
      few = b.few;
      hosts = rw (← put_first (on_change (heard ok k)) x (after_taken l (length (taken_in run)))) (goes_on x b.hosts (host_shared (not_alone x) (b.hosts.host x) call k ok refl));
      waiting = tt;
    }
run_keeps (ends {l = l} {r} x k message lent ok e run) =
    let y = other x in
    let b = run_keeps run in
    record {
      few = b.few;
      hosts = rw (← put_second (on_change (heard ok k)) x (after_taken l (length (taken_in run)))) (goes_on y b.hosts (host_shared (not_alone y) (b.hosts.host y) (asking r message lent) k ok e));
      waiting = tt;
    }
run_keeps (sends x call k e w run) =
    let b = run_keeps run in
    let s = sending b x call k e w in
    record {
      few = b.few;
      hosts = goes_on x b.hosts s.host;
      waiting = record { list = s.list; written = s.written; left = s.left; sendable = s.sendable; stands = other_stands x s.leads };
    }
run_keeps (takes {l = l} x message lent e run) =
    let y = other x in
    let b = run_keeps run in
    let j = length (taken_in run) in
    let n = (numbers j b.few).1 b.waiting.left in
    record {
      few = let i = n.1 in omega arith;
      hosts = rw (← n.0) (rw (← put_second (on_message message) x (after_taken l j)) (goes_on y b.hosts (host_takes message lent (not_alone y) e (b.hosts.host y))));
      waiting = tt;
    }

-- ---- demand 3

pub demand3 : {t : ℕ} {h : Pair Cache} {l : Ledger} → Run t h l settled → Agree h l
demand3 {l = l} run =
    let b = (run_keeps run).hosts in
    let p = (b.host one).threshold ∙ sym (b.host two).threshold in
    let q = ap (λ l. l.count) ((b.host one).says ∙ sym (b.host two).says) in
    record { ledger = λ x. (b.host x).says ∙ ap (λ (k : Heard). k.ledger) (at_each x (after_taken l (length (taken_in run)))); due = cc; next = (b.host one).next ∙ sym (b.host two).next }

-- every state of a run is one that document 01 allows
pub run_allowed : {t : ℕ} {h : Pair Cache} {l : Ledger} {p : Pending} → Run t h l p → (x : Side) → Allowed (at x h)
run_allowed run x = ((run_keeps run).hosts.host x).allowed

-- ---- the standby takes every message

no_address : (test : ℕ → Bool) (l : List ℕ) → ((b : ℕ) → elem b l ≡ true → test b ≡ false) → some_address test l ≡ false
unfolding some_address
no_address test [] h = refl
no_address test (a ∷ l) h = rw (h a (elem_first a l)) (no_address test l (λ b i. h b (elem_rest a b l i)))

-- of a standby that has heard of k
taken_by : {t : ℕ} {c : Cache} {k : Heard} {x : Side} {message : List ℕ} → Host Standby t c k → OnItsWay x message k → (lent : ℕ)
    → accepted (step c (asking Take message lent)) ≡ true
unfolding refusal_of tests first_of
taken_by {c = c} {k} {message = message} b w lent =
    let s = w.sendable in
    accepts c (asking Take message lent)
    (rw (
      reads w.written,
      b.mode,
      b.next,
      w.left,
      eq-eqb k.next k.next refl,
      s.address,
      s.once,
      no_address (λ a. not (dirty_at c.rows a)) w.list
          (λ a i. rw (dirty_in_same (get c.rows a) ∙ ap (λ l. is_in (l.sizes a)) b.says ∙ s.dirty a i)),
    ))

pub standby_accepts : {t : ℕ} {h : Pair Cache} {l : Ledger} {x : Side} {message : List ℕ} → Run t h l (sent x message) → (lent : ℕ)
    → accepted (step (at (other x) h) (asking Take message lent)) ≡ true
standby_accepts {t} {h} {l} {x} {message} run lent =
    let b = run_keeps run in
    let k = after_taken l (length (taken_in run)) in
    let host = b.hosts.host (other x) in
    taken_by
    (subst (λ (m : Mode). Host m t (at (other x) h) k) b.waiting.stands
    (subst (Host (mode_of (other x)) t (at (other x) h)) (at_other x (on_message message k) (each k) ∙ at_each (other x) k) host))
    b.waiting lent

-- ---- the order of the messages

-- what was sent is what was taken, and what is on its way
abbrev Through : Pending → List (List ℕ) → List (List ℕ) → Type 0
Through settled out taken = out ≡ taken
Through (change x k ok) out taken = out ≡ taken
Through (sent x message) out taken = out ≡ message ∷ taken

through : {t : ℕ} {h : Pair Cache} {l : Ledger} {p : Pending} (run : Run t h l p) → Through p (sent_in run) (taken_in run)
through (opened n m s u h k) = refl
through (local x call k run) = through run
through (refuses x call e run) = through run
through (begins x k message lent run) = through run
through (ends x k message lent ok e run) = through run
through (sends {h} x call k e w run) = ap (λ (l : List (List ℕ)). message_by (at x h) (step (at x h) call) ∷ l) (through run)
through (takes x message lent e run) = through run

pub all_taken : {t : ℕ} {h : Pair Cache} {l : Ledger} (run : Run t h l settled) → taken_in run ≡ sent_in run
all_taken run = sym (through run)

pub in_order : {t : ℕ} {h : Pair Cache} {l : Ledger} {p : Pending} (run : Run t h l p) → InOrder (sent_in run)
in_order (opened n m s u h k) = tt
in_order (local x call k run) = in_order run
in_order (refuses x call e run) = in_order run
in_order (begins x k message lent run) = in_order run
in_order (ends x k message lent ok e run) = in_order run
in_order (sends x call k e w run) =
    let b = run_keeps run in
    let s = sending b x call k e w in
    let n = ((numbers _ b.few).1 s.left).0 in
    (ap number_in (reads s.written) ∙ n ∙ ap (λ (l : List (List ℕ)). suc (length l)) (sym (through run)) ∙ sym (add-one _), in_order run)
in_order (takes x message lent e run) = in_order run

-- ---- a message that was taken is not taken again

-- a number from 1 on is that of a right message
is_right : (m : Message) (n : ℕ) → number_in m ≡ suc n → m ≡ right (suc n) (addresses_in m)
is_right (right i list) n e = ap (λ (k : ℕ). right k list) e
is_right early n e = absurd (omega arith)
is_right malformed n e = absurd (omega arith)

not_next_told : (i j : ℕ) → suc i ≤ j → (eqb (next_after j) 0 || not (eqb (suc i) (next_after j))) ≡ true
not_next_told i j h =
    split (eqb j last_number)
    (λ p. rw p)
    (λ p. rw (p, ne_eqb (suc i) (suc j) (omega arith)) (or_true (eqb (suc j) 0)))

refused_again : {t : ℕ} {c : Cache} {k : Heard} {j : ℕ} → Host Standby t c k → k.next ≡ next_after j → (message : List ℕ) (i lent : ℕ) → number_in (read_message message) ≡ suc i → suc i ≤ j
    → (step c (asking Take message lent)).answer ≡ Err refusal.Number
unfolding step refusal_of tests first_of
refused_again {j = j} b e message i lent n h = rw (is_right (read_message message) i n, b.mode, b.next, e, not_next_told i j h)

each_refused : {t : ℕ} {c : Cache} {k : Heard} {j : ℕ} → Host Standby t c k → k.next ≡ next_after j → (lent : ℕ) (l : List (List ℕ)) → InOrder l → length l ≤ j
    → Each (λ message. (step c (asking Take message lent)).answer ≡ Err refusal.Number) l
each_refused b e lent [] o h = tt
each_refused {j = j} b e lent (message ∷ earlier) o h =
    (refused_again {j = j} b e message (length earlier) lent (o.0 ∙ add-one _) (omega arith), each_refused {j = j} b e lent earlier o.1 (omega arith))

pub sent_before : {t : ℕ} {h : Pair Cache} {l : Ledger} (run : Run t h l settled) (lent : ℕ)
    → Each (λ message. (step (at two h) (asking Take message lent)).answer ≡ Err refusal.Number) (sent_in run)
sent_before run lent =
    each_refused {j = length (taken_in run)} ((run_keeps run).hosts.host two) refl lent (sent_in run) (in_order run) (let e = ap length (through run) in omega arith)
