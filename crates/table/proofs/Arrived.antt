-- An entry comes: into the lowest free row and to its place among the addresses, then to the head if it is listed.
use Rattle.std.specs.Prelude.{Some}
use Prim.Native.Nat.{ℕ, ◌<◌}
use mathlib.Core.List.{List}
use mathlib.Core.Path.{◌≡◌, sym, ap, ◌∙◌}
use native.Mathlib.Omega.{arith}
use lib.ListN.{length}
use borrow.Author.Tests.{ltb-true}
use Rattle.rules.specs.declared.entry.Entry.{Entry}
use Rattle.rules.specs.Cache.{Cache, with_rows}
use Rattle.rules.specs.Entries.{is_listed}
use Rattle.rules.specs.Rows.{passes, place}
use Rattle.rules.proofs.Fit.{fit_place}
use Rattle.rules.proofs.Found.{length_place}
use Rattle.rules.proofs.Sound.{sound_place}
use Rattle.layout.specs.Holds.{Holds}
use Rattle.layout.specs.Layout.{addresses_at}
use Rattle.layout.specs.Leaves.{put_row, run_put}
use Rattle.layout.specs.Picture.{addresses, encode}
use Rattle.layout.specs.Places.{lowest_free, place_of}
use Rattle.layout.proofs.Cuts.{place_low}
use Rattle.layout.proofs.Encoded.{place_encode}
use Rattle.layout.proofs.Held.{holds}
use Rattle.layout.proofs.Numbers.{listed_used, free_is}
use Rattle.layout.proofs.Rows.{number_new}
use Rattle.table.specs.Asked.{Addable}
use Rattle.table.specs.Told.{added, put_on}
use Rattle.table.proofs.Changed.{steady_with, fit_of, on_or_not}

module _ {ws : List ℕ} {c : Cache} {rest : List ℕ} (h : Holds ws c rest) (e : Entry) (ok : Addable c e) where
  pub room : length (addresses c.rows) < length c.rows
  room = ltb-true _ _ (sym (free_is c.rows) ∙ ok.free)

  pub place_fits : place_of e.address (addresses c.rows) < length c.rows
  place_fits = let p = place_low e.address (addresses c.rows) in let r = room in omega arith

  pub head_fits : length c.recency < length c.rows
  head_fits = let u = listed_used c h.steady.sound in let r = room in omega arith

  pub place_words : run_put (addresses_at (length c.rows)) (length c.rows) (place_of e.address (addresses c.rows)) (lowest_free c.rows) (put_row (lowest_free c.rows) (Some e) ws)
      ≡ encode (with_rows (place e c.rows) c.recency c) rest
  place_words =
      ap (λ (x : List ℕ). run_put (addresses_at (length c.rows)) (length c.rows) (place_of e.address (addresses c.rows)) (lowest_free c.rows) (put_row (lowest_free c.rows) (Some e) x)) h.words
      ∙ place_encode c rest e h.steady.sound.distinct ok.free ok.absent (h.steady.sound.listed e.address ∙ ap (passes is_listed) ok.absent) h.listed room

  pub add_holds : (n : ℕ) → n ≡ length c.recency
      → Holds (put_on (is_listed e) (length c.rows) n (lowest_free c.rows) (encode (with_rows (place e c.rows) c.recency c) rest)) (added e c) rest
  add_holds n q =
      let k = length_place e c.rows in
      let f = head_fits in
      holds
      (on_or_not (is_listed e) (with_rows (place e c.rows) c.recency c) rest e.address _ n _ (sym k) q (sym (number_new e c.rows ok.free ok.absent)) (omega arith))
      (steady_with c (place e c.rows) _ h.steady k (fit_place e c.rows ok.free ok.absent ok.allowed (fit_of c h.steady)) (sound_place e c ok.free ok.absent h.steady.sound))
