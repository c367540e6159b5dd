-- Every run of the rules is a run on tables: on tables that picture its caches, with as many order words as it names.
use Prim.Native.Nat.{ℕ}
use mathlib.Core.Bool.{true, false}
use mathlib.Core.List.{List}
use Rattle.std.specs.Prelude.{None, Some, Ok}
use mathlib.Core.Path.{◌≡◌, ap, ◌∙◌}
use native.Mathlib.Omega.{arith}
use lib.Dec.{leb}
use lib.Ieee.{fits, round}
use lib.ListN.{length, replicate, length-replicate}
use borrow.Author.Tests.{le-leb}
use Rattle.settings.specs.declared.Settings.{Settings}
use Rattle.settings_words.specs.FloatsFit.{FloatsFit}
use Rattle.rules.proofs.Shown.{both_accept, both_refuse, locals, changes, flushing, taken, again, syncing, lists}
use Rattle.rules.specs.Cache.{Cache}
use Rattle.rules.specs.Cases.{small}
use Rattle.rules.specs.Hosts.{Run, Pending, settled, asking}
use Rattle.rules.specs.Ledger.{Ledger}
use Rattle.rules.specs.Opening.{refusal_of_opening}
use Rattle.rules.specs.Sides.{Side, other, Pair, put}
use Rattle.settings.specs.declared.Mode.TheVariants.{Lead, Standby}
use Rattle.settings.specs.declared.Mode.{Mode}
use Rattle.rules.specs.declared.request.Request.{Request}
use Rattle.rules.specs.declared.request.Request.TheVariants.{Take}
use Rattle.layout.specs.Layout.{layout_words}
use Rattle.runs.specs.Hosts.{FloatsOf, TableRun}
use Rattle.cache.specs.Tables.{open_words}
use Rattle.runs.proofs.Hosts.{list_sent, message_sent, shared_floats, sends_floats}
use Rattle.runs.proofs.Pictured.{Pictures, tells, pictures_next, pictures_still, BothPicture, one_goes, both_fresh}

-- the floats of a run's settings fit the format
abbrev pub RunFits : {t : ℕ} {h : Pair Cache} {l : Ledger} {p : Pending} → Run t h l p → Type 0
RunFits (Run.opened n m s u h k) = FloatsFit s × FloatsFit u
RunFits (Run.local x call k r) = FloatsOf call.request × RunFits r
RunFits (Run.refuses x call e r) = RunFits r
RunFits (Run.begins x k message lent r) = RunFits r
RunFits (Run.ends x k message lent ok e r) = RunFits r
RunFits (Run.sends x call k e w r) = RunFits r
RunFits (Run.takes x message lent e r) = RunFits r

-- two tables that picture the caches, after such a run
pub record OnTables (t : ℕ) (h : Pair Cache) (l : Ledger) (p : Pending) : Type 0 where
  pub tables : Pair (List ℕ)
  pub pictures : BothPicture tables h
  pub run : TableRun t tables l p

-- ---- order words

abbrev pub blank : ℕ → List ℕ
blank n = replicate n 0

-- a request with so many of them
pub with_blank : (r : Request) (message : List ℕ) (lent : ℕ) → asking r message (length (blank lent)) ≡ asking r message lent
with_blank r message lent = ap (asking r message) (length-replicate {A = ℕ} lent 0)

-- ---- opening

pub opens : (n : ℕ) (m : Mode) (t : ℕ) (s : Settings) → refusal_of_opening n true (Some m) t s ≡ None → (open_words (blank (layout_words n)) n m t s).answer ≡ Ok 0
unfolding open_words
opens n m t s h =
    let e : leb (layout_words n) (length (blank (layout_words n))) ≡ true = le-leb (layout_words n) (length (blank (layout_words n))) (let l = length-replicate {A = ℕ} (layout_words n) 0 in omega arith) in
    rw (e, h)

-- ---- the run

goes : {t : ℕ} {h : Pair Cache} {l m : Ledger} {p q : Pending} (k : OnTables t h l p) (x : Side) {ws : List ℕ} {c : Cache}
    → Pictures ws c → TableRun t (put x ws k.tables) m q → OnTables t (put x c h) m q
goes k x w r = record { tables = _; pictures = one_goes x k.pictures w; run = r }

pub on_tables : {t : ℕ} {h : Pair Cache} {l : Ledger} {p : Pending} (r : Run t h l p) → RunFits r → OnTables t h l p
on_tables {t} (Run.opened n m s u h k) f =
    let a = blank (layout_words n) in
    let b = blank (layout_words m) in
    let i = opens n Lead t s h in
    let j = opens m Standby t u k in
    record { tables = _; pictures = both_fresh a b n m t s u f.0 f.1 i j; run = TableRun.opened a b n m s u f.0 f.1 i j }
on_tables (Run.local x call k r) f =
    let b = on_tables r f.1 in
    let w = b.pictures.side x in
    let os = blank call.lent in
    let q = call.request in
    let e = with_blank q call.message call.lent in
    goes b x (pictures_next w os call.message q e f.0) (TableRun.local x os call.message q k f.0 b.run)
on_tables (Run.refuses x call h r) f =
    let b = on_tables r f in
    let w = b.pictures.side x in
    let os = blank call.lent in
    let q = call.request in
    let e = with_blank q call.message call.lent in
    let n = tells w os call.message q e ∙ h in
    goes b x (pictures_still w os call.message q e n) (TableRun.refuses x os call.message q n b.run)
on_tables (Run.begins {r = q} x k message lent r) f =
    let b = on_tables r f in
    let w = b.pictures.side x in
    let os = blank lent in
    let e = with_blank q message lent in
    goes b x (pictures_next w os message q e (shared_floats k)) (rw (← tells w os message q e) (TableRun.begins x k os message b.run))
on_tables (Run.ends {r = q} x k message lent ok h r) f =
    let b = on_tables r f in
    let w = b.pictures.side (other x) in
    let os = blank lent in
    let e = with_blank q message lent in
    goes b (other x) (pictures_next w os message q e (shared_floats k)) (TableRun.ends x k os message ok (tells w os message q e ∙ h) b.run)
on_tables (Run.sends x call k h q r) f =
    let b = on_tables r f in
    let w = b.pictures.side x in
    let os = blank call.lent in
    let e = with_blank call.request call.message call.lent in
    let a = tells w os call.message call.request e ∙ h in
    goes b x (pictures_next w os call.message call.request e (sends_floats k))
    (rw (message_sent w os call.message k e a) (TableRun.sends x k os call.message a (rw (list_sent w os call.message k e a) q) b.run))
on_tables (Run.takes x message lent h r) f =
    let b = on_tables r f in
    let w = b.pictures.side (other x) in
    let os = blank lent in
    let e = with_blank Take message lent in
    goes b (other x) (pictures_next w os message Take e tt) (TableRun.takes x os message (tells w os message Take e ∙ h) b.run)

-- ---- such runs exist

pub small_fits : FloatsFit small
unfolding fits round
small_fits = record { clean = tt; increase = tt; flash = tt; decrease = tt }

-- the rules' run with every kind of turn in it, on tables
pub shown : OnTables 1000 lists.hosts lists.ledger settled
unfolding lists syncing again taken flushing changes locals both_refuse both_accept
shown = on_tables lists.run (tt, (small_fits, (tt, (tt, (small_fits, (tt, (tt, (tt, (tt, (tt, (small_fits, small_fits)))))))))))
