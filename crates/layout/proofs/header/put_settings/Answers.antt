-- The settings' words are written from their place on.
use Rattle.settings_words.specs.Words.{settings_words}
use Rattle.layout.specs.Layout.{settings_at}
use Rattle.layout.specs.Leaves.{put_settings}
use Rattle.layout.proofs.Leaves.{over_end}
use Rattle.layout.proofs.header.put_settings.Goals as goal

pub returns-clause-table_after : goal.returns-clause-table_after
unfolding put_settings
returns-clause-table_after c =
    let s = c.args in
    over_end settings_at 21 (settings_words s.s) s.table.now _ c.store.ensures.words_after
