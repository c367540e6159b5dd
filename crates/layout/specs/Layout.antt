-- Where the parts of a table stand, and what one word says.
--
--   0          version
--   1          row count
--   2          mode
--   3          dirty-byte threshold
--   4          maximum
--   5          accesses
--   6          hits
--   7          byte count
--   8          the next list's number
--   9          whether making room found the maximum exceeded
--   10 .. 30   settings
--   31         rows, 6 words each: address, size, dirty, idle, pinned, hold
--   31 + 6 n   recency run: row numbers from the tail to the head, then all ones
--   31 + 7 n   address run: row numbers of the entries by rising address, then all ones
--   31 + 8 n   the end of the layout
use Rattle.std.specs.Prelude.{ℕ, ◌+◌, ◌*◌, eqb, if◌then◌else◌}
use Rattle.rules.specs.declared.entry.Hold.{Hold}
use Rattle.rules.specs.declared.entry.Hold.TheVariants.{Unheld, Readers, Writer}
use Rattle.rules.specs.declared.order.Kind.{Kind}
use Rattle.rules.specs.declared.order.Kind.TheVariants as kind
use Rattle.settings.specs.declared.Mode.{Mode}
use Rattle.settings.specs.declared.Mode.TheVariants.{Alone, Lead, Standby}

-- ---- places

abbrev pub ones : ℕ
ones = 0xffff_ffff_ffff_ffff

-- "SPLDVT" and the layout's number.
abbrev pub version : ℕ
version = 0x5350_4c44_5654_0003

-- The header's words.
abbrev pub version_at : ℕ
version_at = 0

abbrev pub row_count_at : ℕ
row_count_at = 1

abbrev pub mode_at : ℕ
mode_at = 2

abbrev pub threshold_at : ℕ
threshold_at = 3

abbrev pub maximum_at : ℕ
maximum_at = 4

abbrev pub accesses_at : ℕ
accesses_at = 5

abbrev pub hits_at : ℕ
hits_at = 6

abbrev pub count_at : ℕ
count_at = 7

abbrev pub next_at : ℕ
next_at = 8

abbrev pub exceeded_at : ℕ
exceeded_at = 9

abbrev pub settings_at : ℕ
settings_at = 10

abbrev pub header_words : ℕ
header_words = 31

-- Words of a row.
abbrev pub width : ℕ
width = 6

abbrev pub row_at : ℕ → ℕ
row_at r = header_words + r * width

-- With n rows.
abbrev pub recency_at : ℕ → ℕ
recency_at n = header_words + n * width

abbrev pub addresses_at : ℕ → ℕ
addresses_at n = recency_at n + n

abbrev pub layout_words : ℕ → ℕ
layout_words n = addresses_at n + n

-- ---- words

abbrev pub mode_word : Mode → ℕ
mode_word Alone = 0
mode_word Lead = 1
mode_word Standby = 2

abbrev pub mode_of : ℕ → Mode
mode_of w = if eqb w 0 then Alone else (if eqb w 1 then Lead else Standby)

-- The number of readers, and 65,536 for a writer.
abbrev pub hold_word : Hold → ℕ
hold_word Unheld = 0
hold_word (Readers n) = n
hold_word Writer = 65_536

abbrev pub hold_of : ℕ → Hold
hold_of w = if eqb w 0 then Unheld else (if eqb w 65_536 then Writer else Readers w)

abbrev pub kind_word : Kind → ℕ
kind_word kind.Write = 1
kind_word kind.Evict = 2
kind_word kind.Load = 3
