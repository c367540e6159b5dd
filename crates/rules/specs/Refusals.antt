-- When a request is refused: for each request its tests, in the order of judging, which but for take is by rising refusal number.
use Rattle.std.specs.Prelude.{ℕ, ◌+◌, ◌*◌, Bool, true, false, not, ◌&&◌, ◌||◌, List, [], ◌∷◌, eqb, ltb, length, if◌then◌else◌, Option, None, Some}
use Rattle.settings.specs.Validation.{first_bad}
use Rattle.rules.specs.declared.answer.Refusal.{Refusal}
use Rattle.rules.specs.declared.answer.Refusal.TheVariants as refusal
use Rattle.rules.specs.declared.entry.Entry.{Entry}
use Rattle.rules.specs.Types.{Row}
use Rattle.settings.specs.declared.Mode.{Mode}
use Rattle.settings.specs.declared.Mode.TheVariants.{Alone, Lead, Standby}
use Rattle.rules.specs.declared.request.Request.{Request}
use Rattle.rules.specs.declared.request.Request.TheVariants.{Insert, Protect, Release, ReleaseChanged, Pin, Unpin, Resize, Discard, Flush, Sync, Take, Configure}
use Rattle.rules.specs.Addresses.{elem, some_address, twice}
use Rattle.rules.specs.Cache.{Cache, recency_list}
use Rattle.rules.specs.Entries.{is_held, is_read, is_written, forbids}
use Rattle.rules.specs.Limits.{all_ones, most_size}
use Rattle.rules.specs.Messages.{Message, read_message, is_malformed, is_early, number_in, addresses_in}
use Rattle.rules.specs.Rows.{get, passes, is_here, clean_at, dirty_at, has_free, some_entry}

-- A request as the host hands it over: with the bytes of the message for take, and the number of order words lent.
pub record Call : Type 0 where
  pub request : Request
  pub message : List ℕ
  pub lent : ℕ

-- A test, and the refusal given where it passes.
abbrev pub Test : Type 0
Test = Bool × Refusal

-- The first test that passes, if any does.
unfoldable pub first_of : List Test → Option Refusal
first_of [] = None
first_of (t ∷ rest) = if t.0 then Some t.1 else first_of rest

-- ---- the tests

-- 2: the request can give orders and fewer than 3 x (2 x rows + 1) words are lent for them.
abbrev pub too_few_words : Cache → ℕ → Bool
too_few_words c lent = ltb lent (3 * (2 * length c.rows + 1))

-- 3
abbrev pub bad_address : ℕ → Bool
bad_address a = eqb a all_ones

-- 4
abbrev pub bad_size : ℕ → Bool
bad_size s = eqb s 0 || ltb most_size s

-- 5: flush is meant for alone and lead, sync for lead, take for standby.
abbrev pub is_alone : Mode → Bool
is_alone Alone = true
is_alone Lead = false
is_alone Standby = false

abbrev pub is_standby : Mode → Bool
is_standby Alone = false
is_standby Lead = false
is_standby Standby = true

abbrev pub is_lead : Mode → Bool
is_lead Alone = false
is_lead Lead = true
is_lead Standby = false

-- A test of the entry at an address; it fails where there is none.
abbrev pub entry_test : Cache → ℕ → (Entry → Bool) → Bool
entry_test c a test = passes test (get c.rows a)

-- May be evicted: alone any entry of the recency list, else a clean one.
abbrev pub may_evict : Mode → List Row → ℕ → Bool
may_evict Alone rows a = true
may_evict Lead rows a = clean_at rows a
may_evict Standby rows a = clean_at rows a

-- 11: a row is wanted, none is free, and no entry may be evicted.
abbrev pub no_row : Cache → Bool
no_row c = not (has_free c.rows) && not (c.settings.evictions && some_address (may_evict c.mode c.rows) (recency_list c))

-- 12
abbrev pub bad_field : ℕ → Bool
bad_field n = not (eqb n 0)

-- 16: no number is left for a list, or it is not the one that comes next.
abbrev pub none_left : Cache → Bool
none_left c = eqb c.next 0

abbrev pub not_next : Cache → ℕ → Bool
not_next c n = none_left c || not (eqb n c.next)

-- 13: a list names an address twice, or one not dirty here.
abbrev pub bad_list : Cache → List ℕ → Bool
bad_list c list = twice list || some_address (λ a. not (dirty_at c.rows a)) list

-- What bytes are as a message, for take.
abbrev pub take_tests : Cache → Message → List Test
take_tests c m =
    (not (is_standby c.mode), refusal.Mode) ∷ (is_malformed m, refusal.Malformed) ∷ (is_early m, refusal.Cut)
    ∷ (not_next c (number_in m), refusal.Number) ∷ (elem all_ones (addresses_in m), refusal.Address)
    ∷ (bad_list c (addresses_in m), refusal.List) ∷ []

-- ---- by request

unfoldable pub tests : Cache → ℕ → List ℕ → Request → List Test
tests c lent message (Insert a s) =
    (too_few_words c lent, refusal.OrderWords) ∷ (bad_address a, refusal.Address) ∷ (bad_size s, refusal.Size)
    ∷ (is_here c.rows a, refusal.Present) ∷ (no_row c, refusal.Full) ∷ []
tests c lent message (Protect x a s) =
    (too_few_words c lent, refusal.OrderWords) ∷ (bad_address a, refusal.Address) ∷ (bad_size s, refusal.Size)
    ∷ (entry_test c a (λ e. forbids e.hold x), refusal.Held) ∷ (not (is_here c.rows a) && no_row c, refusal.Full) ∷ []
tests c lent message (Release a) =
    (too_few_words c lent, refusal.OrderWords) ∷ (bad_address a, refusal.Address) ∷ (not (is_here c.rows a), refusal.Absent)
    ∷ (entry_test c a (λ e. not (is_held e.hold)), refusal.Unheld) ∷ []
tests c lent message (ReleaseChanged a s) =
    (too_few_words c lent, refusal.OrderWords) ∷ (bad_address a, refusal.Address) ∷ (bad_size s, refusal.Size)
    ∷ (not (is_here c.rows a), refusal.Absent) ∷ (entry_test c a (λ e. is_read e.hold), refusal.Held)
    ∷ (entry_test c a (λ e. not (is_held e.hold)), refusal.Unheld) ∷ []
tests c lent message (Pin a) =
    (bad_address a, refusal.Address) ∷ (not (is_here c.rows a), refusal.Absent)
    ∷ (entry_test c a (λ e. not (is_held e.hold)), refusal.Unheld) ∷ (entry_test c a (λ e. e.pinned), refusal.Pinned) ∷ []
tests c lent message (Unpin a) =
    (bad_address a, refusal.Address) ∷ (not (is_here c.rows a), refusal.Absent)
    ∷ (entry_test c a (λ e. not e.pinned), refusal.Pinned) ∷ []
tests c lent message (Resize a s) =
    (bad_address a, refusal.Address) ∷ (bad_size s, refusal.Size) ∷ (not (is_here c.rows a), refusal.Absent)
    ∷ (entry_test c a (λ e. is_read e.hold), refusal.Held)
    ∷ (entry_test c a (λ e. not e.pinned && not (is_written e.hold)), refusal.Unheld) ∷ []
tests c lent message (Discard a) =
    (bad_address a, refusal.Address) ∷ (entry_test c a (λ e. is_held e.hold), refusal.Held)
    ∷ (entry_test c a (λ e. e.pinned), refusal.Pinned) ∷ []
tests c lent message Flush =
    (too_few_words c lent, refusal.OrderWords) ∷ (is_standby c.mode, refusal.Mode)
    ∷ (some_entry (λ e. is_held e.hold) c.rows, refusal.Held) ∷ (is_lead c.mode && none_left c, refusal.Number) ∷ []
tests c lent message Sync =
    (too_few_words c lent, refusal.OrderWords) ∷ (not (is_lead c.mode), refusal.Mode) ∷ (none_left c, refusal.Number) ∷ []
tests c lent message Take = take_tests c (read_message message)
tests c lent message (Configure s) =
    (too_few_words c lent, refusal.OrderWords) ∷ (bad_field (first_bad s false), refusal.Setting (first_bad s false)) ∷ []

unfoldable pub refusal_of : Cache → Call → Option Refusal
refusal_of c call = first_of (tests c call.lent call.message call.request)
