-- The limits of document 01.
use Rattle.std.specs.Prelude.{ℕ}

abbrev pub all_ones : ℕ
all_ones = 0xffff_ffff_ffff_ffff

abbrev pub most_rows : ℕ
most_rows = 4_096

abbrev pub most_size : ℕ
most_size = 134_217_728

abbrev pub most_readers : ℕ
most_readers = 65_535

abbrev pub most_idle : ℕ
most_idle = 10

abbrev pub most_threshold : ℕ
most_threshold = 1_073_741_824

-- the dirty-byte threshold by default
abbrev pub default_threshold : ℕ
default_threshold = 262_144

-- where the byte count stops
abbrev pub count_stop : ℕ
count_stop = 1_099_511_627_776

-- the last number of a list
abbrev pub last_number : ℕ
last_number = 0xffff_ffff_ffff_ffff

-- the most addresses of a message
abbrev pub most_listed : ℕ
most_listed = 65_535
