-- Document 01's test of the clean share, which says yes or no, and the pass by it.
use Rattle.std.specs.Prelude.{ℕ, ◌+◌, Bool, not, ◌&&◌, List, [], ◌∷◌, leb, if◌then◌else◌}
use Rattle.rules.specs.Cache.{Cache, Work, recency_list, minimum_clean}
use Rattle.rules.specs.Room.{clean_bytes, unused_bytes, write_in_place}
use Rattle.rules.specs.Rows.{dirty_at}

-- Clean bytes in the recency list plus unused bytes is at least the minimum clean bytes.
abbrev pub clean_share_met : ℕ → Cache → Bool
clean_share_met x c = leb (minimum_clean c) (clean_bytes c.rows (recency_list c) + unused_bytes x c)

-- From the tail, while the clean share isn't met, each dirty entry is written and keeps its place.
unfoldable pub write_by_test : ℕ → List ℕ → Work → Work
write_by_test x [] w = w
write_by_test x (a ∷ rest) w =
    write_by_test x rest (if not (clean_share_met x w.cache) && dirty_at w.cache.rows a then write_in_place a w else w)
