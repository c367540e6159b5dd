-- Runs as demand 3 speaks of exist: one in which each host opens, gets local requests, is refused, has a change first and second,
-- accepted and refused, and in which messages are sent and taken.
use Prim.Native.Nat.{ℕ}
use mathlib.Core.Path.{refl, ap}
use mathlib.Core.Bool.{true, false}
use mathlib.Core.List.{List, [], ◌∷◌}
use lib.Dec.{lit≤}
use Rattle.rules.specs.declared.request.Access.TheVariants.{Reading, Writing}
use Rattle.rules.specs.declared.request.Request.TheVariants.{Protect, Release, Pin, Unpin, Flush, Sync, Take, Configure}
use Rattle.rules.specs.Cache.{Cache}
use Rattle.rules.specs.Cases.{ask, small}
use Rattle.rules.specs.Hosts.{is_accepted, asking, settled, sent, Run, opened, local, refuses, begins, ends, sends, takes, Agree}
use Rattle.rules.specs.Ledger.{Ledger, insert, changed, resize, discard, protect, unchanged, pin, unpin, configure, flush, sync}
use Rattle.rules.specs.Messages.{Words}
use Rattle.rules.specs.Sides.{one, two, Pair}
use Rattle.rules.proofs.Hosts.{demand3, standby_accepts, sent_before}
use Rattle.rules.proofs.Cases.{computing}

-- a run in which nothing is pending
pub record Played : Type 0 where
  pub hosts : Pair Cache
  pub ledger : Ledger
  pub run : Run 1000 hosts ledger settled

-- changes that both accept, to either first
unfoldable pub both_accept : Played
unfolding computing
both_accept = record {
  hosts = _;
  ledger = _;
  run =
      ends two (insert 200 60) [] 27 true refl
      (begins two (insert 200 60) [] 27
      (ends one (insert 100 50) [] 27 true refl
      (begins one (insert 100 50) [] 27
      (opened 4 3 small small refl refl))));
}

-- changes that both refuse, to either first: an address that is there, and one that is not
unfoldable pub both_refuse : Played
unfolding computing both_accept
both_refuse = record {
  hosts = _;
  ledger = _;
  run =
      ends two (resize 300 10) [] 27 false refl
      (begins two (resize 300 10) [] 27
      (ends one (insert 100 50) [] 27 false refl
      (begins one (insert 100 50) [] 27
      both_accept.run)));
}

-- local requests of each, and other refusals: a list for the lead, a flush of the standby
unfoldable pub locals : Played
unfolding computing both_refuse
locals = record {
  hosts = _;
  ledger = _;
  run =
      refuses two (ask Flush) refl
      (refuses one (ask Take) refl
      (local two (ask (Protect Writing 100 50)) (protect Writing 100 50)
      (local two (ask (Protect Reading 300 10)) (protect Reading 300 10)
      (local one (ask (Configure small)) (configure small)
      (local one (ask (Protect Writing 100 50)) (protect Writing 100 50)
      (local one (ask (Unpin 100)) (unpin 100)
      (local one (ask (Release 100)) (unchanged 100)
      (local one (ask (Pin 100)) (pin 100)
      (local one (ask (Protect Reading 100 50)) (protect Reading 100 50)
      both_refuse.run)))))))));
}

-- a resize, a changed release and a discard; between a change's two halves, a local request
unfoldable pub changes : Played
unfolding computing locals
changes = record {
  hosts = _;
  ledger = _;
  run =
      ends two (discard 200) [] 0 true refl
      (begins two (discard 200) [] 0
      (ends one (changed 100 70) [] 27 true refl
      (local one (ask (Configure small)) (configure small)
      (begins one (changed 100 70) [] 27
      (ends one (resize 100 90) [] 0 true refl
      (begins one (resize 100 90) [] 0
      locals.run))))));
}

pub hundred : Words (100 ∷ [])
hundred = (lit≤ tt, tt)

-- a run with a message on its way
pub record Under : Type 0 where
  pub hosts : Pair Cache
  pub ledger : Ledger
  pub message : List ℕ
  pub run : Run 1000 hosts ledger (sent one message)

-- which the standby takes
unfoldable pub taken : Under → Played
taken u = record { hosts = _; ledger = _; run = takes one u.message 0 (standby_accepts u.run 0) u.run }

-- a flush; between the message and its taking, a local request
unfoldable pub flushing : Under
unfolding computing changes
flushing = record {
  hosts = _;
  ledger = _;
  message = _;
  run =
      local two (ask (Release 300)) (unchanged 300)
      (sends one (ask Flush) flush refl hundred
      changes.run);
}

-- the same message again
unfoldable pub again : Played
unfolding flushing taken
again =
    let p = taken flushing in
    record {
      hosts = _;
      ledger = p.ledger;
      run = refuses {h = p.hosts} {l = p.ledger} {p = settled} two (asking Take flushing.message 0) (ap is_accepted (sent_before p.run 0).0) p.run;
    }

-- a sync
unfoldable pub syncing : Under
unfolding computing flushing taken again
syncing = record {
  hosts = _;
  ledger = _;
  message = _;
  run = sends one (ask Sync) sync refl tt again.run;
}

unfoldable pub lists : Played
lists = taken syncing

shown : Agree lists.hosts lists.ledger
shown = demand3 lists.run
