-- A run by asking is a run of demand 3: a change that both said yes to is accepted by both.
use Rattle.std.specs.Prelude.{Ok, Err}
use Prim.Native.Nat.{ℕ}
use mathlib.Core.Bool.{true}
use mathlib.Core.List.{List}
use mathlib.Core.Path.{◌≡◌, refl, sym, subst, ◌∙◌}
use lib.ListN.{length}
use Rattle.rules.proofs.Sides.{at_other}
use Rattle.rules.specs.Answers.{verdict_in}
use Rattle.rules.specs.Hosts.{is_accepted}
use Rattle.rules.specs.Ledger.{Ledger}
use Rattle.rules.specs.Sides.{Side, other, Pair, at, put}
use Rattle.rules.specs.Types.{Answer}
use Rattle.rules.specs.declared.request.Request.{Request}
use Rattle.cache.proofs.AskAnswers.{ask_step}
use Rattle.cache.specs.Asked.{ask_words}
use Rattle.cache.specs.Tables.{step_words}
use Rattle.runs.specs.AskedRuns.{Outstanding, pending_of, Free, AskedRun}
use Rattle.runs.specs.Hosts.{accepts, TableRun, TablesAgree}
use Rattle.runs.proofs.Hosts.{tables_agree, takes_message}

accepted_of : (a : Answer) → verdict_in a ≡ Ok tt → is_accepted a ≡ true
accepted_of (Ok n) e = refl
accepted_of (Err r) e = cc

pub asked_accepts : (ws os message : List ℕ) (r : Request) → ask_words ws (length os) message r ≡ Ok tt → accepts (step_words ws os message r) ≡ true
asked_accepts ws os message r e = accepted_of (step_words ws os message r).answer (sym (ask_step ws os message r) ∙ e)

-- ---- runs

-- the yes of the one that does the change next still stands
abbrev Stands : Pair (List ℕ) → Outstanding → Type 0
Stands h Outstanding.nothing = Unit
Stands h (Outstanding.doing x {r} k n message) = ask_words (at (other x) h) n message r ≡ Ok tt
Stands h (Outstanding.taking x message) = Unit

-- and does so after a request to the other
moved : (h : Pair (List ℕ)) (y : Side) (ws : List ℕ) (p : Outstanding) → Free y p → Stands h p → Stands (put y ws h) p
moved h y ws Outstanding.nothing f s = tt
moved h y ws (Outstanding.doing x {r} k n message) f s =
    rw f (subst (λ (w : List ℕ). ask_words w n message r ≡ Ok tt) (sym (at_other x ws h)) s)
moved h y ws (Outstanding.taking x message) f s = tt

record Keeps (t : ℕ) (h : Pair (List ℕ)) (l : Ledger) (p : Outstanding) : Type 0 where
  run : TableRun t h l (pending_of p)
  stands : Stands h p

keeps : {t : ℕ} {h : Pair (List ℕ)} {l : Ledger} {p : Outstanding} → AskedRun t h l p → Keeps t h l p
keeps (AskedRun.opened a b n m s u i j h k) = record { run = TableRun.opened a b n m s u i j h k; stands = tt }
keeps {p = p} (AskedRun.local {h} x os message r k f w run) =
    let b = keeps run in
    record { run = TableRun.local x os message r k f b.run; stands = moved h x (step_words (at x h) os message r).table p w b.stands }
keeps {p = p} (AskedRun.refuses {h} x os message r e w run) =
    let b = keeps run in
    record { run = TableRun.refuses x os message r e b.run; stands = moved h x (step_words (at x h) os message r).table p w b.stands }
keeps (AskedRun.begins {h} {r = r} x k os message lent theirs e y run) = record {
  run = rw (← asked_accepts (at x h) os message r e) (TableRun.begins x k os message (keeps run).run);
  stands = subst (λ (w : List ℕ). ask_words w lent theirs r ≡ Ok tt) (sym (at_other x _ h)) y;
}
keeps (AskedRun.ends {h} {r = r} x k os message run) =
    let b = keeps run in
    record { run = TableRun.ends x k os message true (asked_accepts (at (other x) h) os message r b.stands) b.run; stands = tt }
keeps (AskedRun.sends x k os message e w run) = record { run = TableRun.sends x k os message e w (keeps run).run; stands = tt }
keeps (AskedRun.takes x os message run) =
    let b = keeps run in
    record { run = TableRun.takes x os message (takes_message b.run os) b.run; stands = tt }

pub asked_run : {t : ℕ} {h : Pair (List ℕ)} {l : Ledger} {p : Outstanding} → AskedRun t h l p → TableRun t h l (pending_of p)
asked_run run = (keeps run).run

-- demand 3 of such runs
pub asked_agree : {t : ℕ} {h : Pair (List ℕ)} {l : Ledger} → AskedRun t h l Outstanding.nothing → TablesAgree h l
asked_agree run = tables_agree (asked_run run)
