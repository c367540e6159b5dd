-- A new entry in a cache that has room for it.
use Rattle.std.specs.Prelude.{ℕ}
use Rattle.rules.specs.Cache.{Cache, start}
use Rattle.rules.specs.Requests.{inserted}

abbrev pub inserted_in : ℕ → ℕ → Cache → Cache
inserted_in a s c = (inserted a s (start c)).cache
