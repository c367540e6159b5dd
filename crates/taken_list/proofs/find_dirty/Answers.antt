-- What is found at the address, and the entry read there, tell whether it is dirty.
use mathlib.Core.Path.{sym, ◌∙◌}
use Rattle.layout.specs.Picture.{cache_in}
use Rattle.table.proofs.Told.{found_at, told_dirty}
use Rattle.taken_list.proofs.Marked.{in_dirty, in_clean, in_none}
use Rattle.taken_list.proofs.find_dirty.Goals as goal

pub entry_of-requires : goal.entry_of-requires
entry_of-requires c = (c.requires.0, (found_at _ _ _ (sym c.find_next.ensures ∙ c.in_ok-found.was)).0)

pub returns-then-entry_of : goal.returns-then-entry_of
returns-then-entry_of c =
    let rows = (cache_in c.args.table.now).rows in
    let a = c.args.address in
    sym (in_dirty rows a (sym (told_dirty rows a _ c.entry_of.ensures) ∙ c.if-entry_of.true) ∙ sym c.find_next.ensures ∙ c.in_ok-found.was)

pub returns-else-entry_of : goal.returns-else-entry_of
returns-else-entry_of c =
    let rows = (cache_in c.args.table.now).rows in
    let a = c.args.address in
    sym (in_clean rows a (sym (told_dirty rows a _ c.entry_of.ensures) ∙ c.if-entry_of.false))

pub returns-in_err-found : goal.returns-in_err-found
returns-in_err-found c = c.from_residual.ensures ∙ sym (in_none (cache_in c.args.table.now).rows c.args.address (sym c.find_next.ensures ∙ c.in_err-found.was))
