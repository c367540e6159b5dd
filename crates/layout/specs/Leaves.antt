-- What the leaf operations leave of a table's words: each writes one part of it.
use Rattle.std.specs.Prelude.{ℕ, ◌*◌, List, [], ◌∷◌, ◌++◌, take, drop, replicate}
use Rattle.settings.specs.declared.Settings.{Settings}
use Rattle.settings_words.specs.Words.{settings_words}
use Rattle.words.specs.Runs.{removed, inserted}
use Rattle.rules.specs.Types.{Row}
use Rattle.rules.specs.declared.order.Order.{Order}
use Rattle.layout.specs.Layout.{width, row_at, settings_at}
use Rattle.layout.specs.Picture.{row_words, order_words}

-- The n words from a on put through f.
abbrev pub over : ℕ → ℕ → (List ℕ → List ℕ) → List ℕ → List ℕ
over a n f ws = take a ws ++ (f (take n (drop a ws)) ++ drop n (drop a ws))

-- The run of n words at a less the word at pos.
unfoldable pub run_cut : ℕ → ℕ → ℕ → List ℕ → List ℕ
run_cut a n pos ws = over a n (removed pos) ws

-- The run of n words at a with v at pos.
unfoldable pub run_put : ℕ → ℕ → ℕ → ℕ → List ℕ → List ℕ
run_put a n pos v ws = over a n (inserted pos v) ws

unfoldable pub put_row : ℕ → Row → List ℕ → List ℕ
put_row r x ws = over (row_at r) width (λ old. row_words x) ws

unfoldable pub put_settings : Settings → List ℕ → List ℕ
put_settings s ws = over settings_at 21 (λ old. settings_words s) ws

-- The n words from a on written over with v.
unfoldable pub fill_part : ℕ → ℕ → ℕ → List ℕ → List ℕ
fill_part a n v ws = over a n (λ old. replicate n v) ws

-- The order with number n.
unfoldable pub put_order : ℕ → Order → List ℕ → List ℕ
put_order n o ws = over (n * 3) 3 (λ old. order_words (o ∷ [])) ws
