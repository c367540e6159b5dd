-- Where the address that a request names stands.
use Rattle.std.specs.Prelude.{ℕ, List, Option, None, Some}
use Rattle.rules.specs.Types.{Row}
use Rattle.rules.specs.declared.request.Request.{Request}
use Rattle.rules.specs.declared.request.Request.TheVariants.{Insert, Protect, Release, ReleaseChanged, Pin, Unpin, Resize, Discard, Flush, Sync, Take, Configure}
use Rattle.table.specs.Told.{found_in}
use Rattle.table.specs.declared.lookup.Found.{Found}

-- Nothing for a request that names none.
abbrev pub found_for : List Row → Request → Option Found
found_for rows (Insert a s) = found_in rows a
found_for rows (Protect x a s) = found_in rows a
found_for rows (Release a) = found_in rows a
found_for rows (ReleaseChanged a s) = found_in rows a
found_for rows (Pin a) = found_in rows a
found_for rows (Unpin a) = found_in rows a
found_for rows (Resize a s) = found_in rows a
found_for rows (Discard a) = found_in rows a
found_for rows Flush = None
found_for rows Sync = None
found_for rows Take = None
found_for rows (Configure s) = None

-- The row of an address that was found.
abbrev pub row_found : Option Found → ℕ
row_found (Some f) = f.row
row_found None = 0
