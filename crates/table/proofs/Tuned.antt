-- The header's words written.
use Prim.Native.Nat.{ℕ, ◌≤◌}
use mathlib.Core.Bool.{Bool}
use mathlib.Core.List.{List}
use mathlib.Core.Path.{◌≡◌, refl, ap, ◌∙◌}
use lib.ListN.{set}
use Rattle.settings.specs.declared.Settings.{Settings}
use Rattle.settings_words.specs.FloatsFit.{FloatsFit}
use Rattle.settings_words.specs.Words.{flag_word}
use Rattle.rules.specs.Cache.{Cache, with_settings, with_maximum, with_counters, with_count, with_next, with_exceeded}
use Rattle.rules.specs.Limits.{count_stop}
use Rattle.rules.proofs.Moves.{sound_same}
use Rattle.layout.specs.Holds.{Steady, Holds}
use Rattle.layout.specs.Leaves.{put_settings}
use Rattle.layout.proofs.Encoded.{maximum_encode, counters_encode, count_encode, next_encode, exceeded_encode, settings_encode}
use Rattle.layout.proofs.Held.{holds}
use Rattle.table.specs.Asked.{Settable}

-- other figures, with the same rows and the same list
steady_as : (c d : Cache) → Steady c → d.rows ≡ c.rows → d.recency ≡ c.recency → FloatsFit d.settings → Settable d.settings d.maximum → d.count ≤ count_stop → Steady d
steady_as c d s p q f k n = record {
  some_rows = rw p s.some_rows;
  rows = rw p s.rows;
  entries = rw p s.entries;
  sound = sound_same c d p q s.sound;
  settings = k.passes;
  floats = f;
  least = k.least;
  most = k.most;
  count = n;
}

module _ {ws : List ℕ} {c : Cache} {rest : List ℕ} (h : Holds ws c rest) where
  as_before : Settable c.settings c.maximum
  as_before = let s = h.steady in record { passes = s.settings; least = s.least; most = s.most }

  pub maximum_holds : (n : ℕ) → c.settings.smallest ≤ n → n ≤ c.settings.largest → Holds (set ws 4 n) (with_maximum n c) rest
  maximum_holds n l m =
      holds (ap (λ (x : List ℕ). set x 4 n) h.words ∙ maximum_encode c rest n)
      (steady_as c (with_maximum n c) h.steady refl refl h.steady.floats (record { passes = h.steady.settings; least = l; most = m }) h.steady.count)

  pub counters_holds : (n k : ℕ) → Holds (set (set ws 5 n) 6 k) (with_counters n k c) rest
  counters_holds n k =
      holds (ap (λ (x : List ℕ). set (set x 5 n) 6 k) h.words ∙ counters_encode c rest n k)
      (steady_as c (with_counters n k c) h.steady refl refl h.steady.floats as_before h.steady.count)

  pub count_holds : (n : ℕ) → n ≤ count_stop → Holds (set ws 7 n) (with_count n c) rest
  count_holds n l =
      holds (ap (λ (x : List ℕ). set x 7 n) h.words ∙ count_encode c rest n)
      (steady_as c (with_count n c) h.steady refl refl h.steady.floats as_before l)

  pub next_holds : (n : ℕ) → Holds (set ws 8 n) (with_next n c) rest
  next_holds n =
      holds (ap (λ (x : List ℕ). set x 8 n) h.words ∙ next_encode c rest n)
      (steady_as c (with_next n c) h.steady refl refl h.steady.floats as_before h.steady.count)

  pub exceeded_holds : (b : Bool) → Holds (set ws 9 (flag_word b)) (with_exceeded b c) rest
  exceeded_holds b =
      holds (ap (λ (x : List ℕ). set x 9 (flag_word b)) h.words ∙ exceeded_encode c rest b)
      (steady_as c (with_exceeded b c) h.steady refl refl h.steady.floats as_before h.steady.count)

  pub settings_holds : (s : Settings) (n : ℕ) → FloatsFit s → Settable s n → Holds (set (put_settings s ws) 4 n) (with_maximum n (with_settings s c)) rest
  settings_holds s n f k =
      holds (ap (λ (x : List ℕ). set (put_settings s x) 4 n) h.words ∙ ap (λ (x : List ℕ). set x 4 n) (settings_encode c rest s) ∙ maximum_encode (with_settings s c) rest n)
      (steady_as c (with_maximum n (with_settings s c)) h.steady refl refl f k h.steady.count)
