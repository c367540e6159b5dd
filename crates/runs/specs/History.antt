-- The bytes that came and went over a run of requests on a table.
use Rattle.std.specs.Prelude.{ℕ, zero, suc, ◌+◌, ◌-◌, ◌≡◌, List, [], ◌∷◌, eqb, length, get_or, drop, if◌then◌else◌, Ok}
use Rattle.rules.specs.declared.report.Report.{Report}
use Rattle.rules.specs.declared.order.Kind.TheVariants.{Evict}
use Rattle.rules.specs.declared.request.Request.{Request}
use Rattle.rules.specs.Answers.{answer_orders}
use Rattle.rules.specs.Cache.{held}
use Rattle.rules.specs.History.{brought_in, new_size, old_size, plus, thrown_away}
use Rattle.rules.specs.Hosts.{asking}
use Rattle.rules.specs.Refusals.{Call}
use Rattle.layout.specs.Layout.{kind_word}
use Rattle.layout.specs.Picture.{cache_in}
use Rattle.runs.specs.Hosts.{accepts, FloatsOf}
use Rattle.cache.specs.Tables.{Left, step_words, report_words}

-- A request with the order slice and the message that are lent with it.
pub record TableCall : Type 0 where
  pub request : Request
  pub orders : List ℕ
  pub message : List ℕ
  pub floats : FloatsOf request

-- The call as the rules name it.
abbrev pub call_of : TableCall → Call
call_of call = asking call.request call.message (length call.orders)

-- The bytes of the evict orders among the first n.
unfoldable pub evicted_in : ℕ → List ℕ → ℕ
evicted_in zero orders = 0
evicted_in (suc n) orders = (if eqb (get_or orders 0 0) (kind_word Evict) then get_or orders 2 0 else 0) + evicted_in n (drop 3 orders)

-- The table at the end of a run, with the bytes that came and went.
pub record TablePast : Type 0 where
  pub table : List ℕ
  pub brought : ℕ
  pub grown : ℕ
  pub evicted : ℕ
  pub discarded : ℕ
  pub shrunk : ℕ

-- A history that goes on with a request and what it left. Accepted requests alone add to it.
abbrev pub added_to : TablePast → Request → Left → TablePast
added_to p r x =
    let c = cache_in p.table in
    record {
      table = x.table;
      brought = plus (accepts x) p.brought (brought_in c r);
      grown = plus (accepts x) p.grown (new_size r - old_size c r);
      evicted = plus (accepts x) p.evicted (evicted_in (answer_orders x.answer) x.orders);
      discarded = plus (accepts x) p.discarded (thrown_away c r);
      shrunk = plus (accepts x) p.shrunk (old_size c r - new_size r);
    }

-- The latest request stands first; each gets the table as the one before it left it.
unfoldable pub table_past : List ℕ → List TableCall → TablePast
table_past table [] = record { table = table; brought = 0; grown = 0; evicted = 0; discarded = 0; shrunk = 0 }
table_past table (call ∷ earlier) =
    let p = table_past table earlier in
    added_to p call.request (step_words p.table call.orders call.message call.request)

-- So many held bytes balance: they equal bytes brought in and grown, less bytes evicted, discarded and shrunk.
abbrev pub Balances : ℕ → TablePast → Type 0
Balances n p = n + (p.evicted + p.discarded + p.shrunk) ≡ p.brought + p.grown

-- The held bytes of the cache that the table pictures balance.
abbrev pub TableBalanced : TablePast → Type 0
TableBalanced p = Balances (held (cache_in p.table)) p

-- The table's report is given, and its held bytes balance.
pub record ReportBalanced (p : TablePast) : Type 0 where
  pub report : Report
  pub answer : report_words p.table ≡ Ok report
  pub held : Balances report.held p
