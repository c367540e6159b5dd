-- The array has the words of each part one by one. Assumes nothing.
use Rattle.settings_words.proofs.Flat.{words_flat}
use Rattle.settings_words.proofs.words_of.Goals as goal

pub returns-clause-value : goal.returns-clause-value
returns-clause-value c = cc (words_flat c.args.s)
