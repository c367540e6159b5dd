-- What a table stores of "full" is what happened in its run.
use Rattle.std.specs.Prelude.{Ok}
use Prim.Native.Nat.{ℕ}
use mathlib.Core.List.{List, map}
use mathlib.Core.Path.{◌≡◌, refl, ap, ◌∙◌}
use lib.ListN.{get_or}
use Rattle.settings.specs.declared.Mode.{Mode}
use Rattle.settings.specs.declared.Settings.{Settings}
use Rattle.settings_words.specs.FloatsFit.{FloatsFit}
use Rattle.settings_words.specs.Words.{flag_word}
use Rattle.rules.specs.Cache.{Cache, fresh}
use Rattle.rules.specs.Full.{found_since, events_in}
use Rattle.rules.proofs.Full.{tells_truth}
use Rattle.layout.specs.Layout.{exceeded_at}
use Rattle.layout.specs.Picture.{encode, cache_in}
use Rattle.judge.proofs.Verdicts.{sound}
use Rattle.cache.specs.Tables.{open_words}
use Rattle.runs.specs.History.{TableCall, call_of, table_past}
use Rattle.runs.proofs.History.{same_past}
use Rattle.runs.proofs.Pictured.{pictures_fresh}

stored : (c : Cache) (rest : List ℕ) → get_or (encode c rest) exceeded_at 0 ≡ flag_word c.exceeded
unfolding encode
stored c rest = refl

-- from an opening on, in every mode: the word is 1 if making room found held plus incoming above the maximum since the counters last restarted, else 0
pub tables_tell : (ws : List ℕ) (n : ℕ) (m : Mode) (t : ℕ) (s : Settings) → FloatsFit s → (open_words ws n m t s).answer ≡ Ok 0
    → (calls : List TableCall)
    → get_or (table_past (open_words ws n m t s).table calls).table exceeded_at 0 ≡ flag_word (found_since (events_in (fresh n m t s) (map call_of calls)))
tables_tell ws n m t s f h calls =
    let p = (same_past (open_words ws n m t s).table (fresh n m t s) calls (pictures_fresh ws n m t s f h)).pictures in
    let xs = (table_past (open_words ws n m t s).table calls).table in
    ap (λ (ys : List ℕ). get_or ys exceeded_at 0) (sound xs p.passes).1
    ∙ stored (cache_in xs) _
    ∙ ap (λ (c : Cache). flag_word c.exceeded) p.cache
    ∙ ap flag_word (tells_truth n m t s (map call_of calls))
