-- A piece of work after orders that were given before it.
use Rattle.std.specs.Prelude.{List, ◌++◌}
use Rattle.rules.specs.declared.order.Order.{Order}
use Rattle.rules.specs.Cache.{Work}

abbrev pub after : List Order → Work → Work
after before w = record { cache = w.cache; orders = before ++ w.orders }
