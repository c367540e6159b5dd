-- The settings' words and the maximum are written, and they agree.
use Rattle.table.proofs.Tuned.{settings_holds}
use Rattle.table.proofs.header.set_settings.Goals as goal

pub returns : goal.returns
returns c =
    let p = c.requires in
    rw c.put_settings.ensures.table_after (settings_holds p.0 c.args.s c.args.maximum c.put_settings.ensures.floats_fit p.1)
