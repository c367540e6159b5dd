-- The mode that was read decides which entries may be evicted.
use Rattle.layout.specs.Picture.{cache_in}
use Rattle.conditions.proofs.Evictable.{evictable_alone, evictable_clean}
use Rattle.conditions.proofs.full.any_evictable.Goals as goal

pub returns-in-Alone : goal.returns-in-Alone
returns-in-Alone c =
    let t = cache_in c.args.table.now in
    evictable_alone t.rows t.recency c.mode.ensures c.in-Alone.is c.listed_len.ensures

pub returns-in-Lead : goal.returns-in-Lead
returns-in-Lead c =
    let t = cache_in c.args.table.now in
    evictable_clean t.rows t.recency c.mode.ensures c.in-Lead.is c.any_clean.ensures
