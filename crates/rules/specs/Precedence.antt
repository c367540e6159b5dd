-- If several refusals apply, the first in the order of judging is given. But for take this is the lowest number.
use Rattle.std.specs.Prelude.{ℕ, ◌≡◌, List, [], ◌∷◌, if◌then◌else◌, Option, None, Some}
use Rattle.rules.specs.declared.answer.Refusal.{Refusal}
use Rattle.rules.specs.declared.answer.Refusal.TheVariants as refusal
use Rattle.rules.specs.declared.request.Request.{Request}
use Rattle.rules.specs.declared.request.Request.TheVariants.{Insert, Protect, Release, ReleaseChanged, Pin, Unpin, Resize, Discard, Flush, Sync, Take, Configure}
use Rattle.rules.specs.Answers.{refusal_number}
use Rattle.rules.specs.Refusals.{Test}
use Rattle.rules.specs.Rising.{Above}

-- A take is judged by its mode, its message's bytes, its number and then its addresses.
abbrev pub take_rank : Refusal → ℕ
take_rank refusal.Table = 1
take_rank refusal.Mode = 2
take_rank refusal.Malformed = 3
take_rank refusal.Cut = 4
take_rank refusal.Number = 5
take_rank refusal.Address = 6
take_rank refusal.List = 7
-- not given by a take
take_rank refusal.OrderWords = 8
take_rank refusal.Size = 9
take_rank refusal.Absent = 10
take_rank refusal.Present = 11
take_rank refusal.Held = 12
take_rank refusal.Unheld = 13
take_rank refusal.Pinned = 14
take_rank refusal.Full = 15
take_rank (refusal.Setting field) = 16

-- The place of a refusal in the order in which a request is judged: but for take the refusal's number.
abbrev pub rank : Request → Refusal → ℕ
rank (Insert a s) x = refusal_number x
rank (Protect y a s) x = refusal_number x
rank (Release a) x = refusal_number x
rank (ReleaseChanged a s) x = refusal_number x
rank (Pin a) x = refusal_number x
rank (Unpin a) x = refusal_number x
rank (Resize a s) x = refusal_number x
rank (Discard a) x = refusal_number x
rank Flush x = refusal_number x
rank Sync x = refusal_number x
rank Take x = take_rank x
rank (Configure s) x = refusal_number x

-- Any request but take.
abbrev pub NoTake : Request → Type 0
NoTake r = r ≡ Take → ⊥

-- The places of the tests that pass.
unfoldable pub passing : (Refusal → ℕ) → List Test → List ℕ
passing place [] = []
passing place (t ∷ rest) = if t.0 then place t.1 ∷ passing place rest else passing place rest

-- The lowest of them, if there is any.
abbrev pub Lowest : (Refusal → ℕ) → Option Refusal → List ℕ → Type 0
Lowest place None l = l ≡ []
Lowest place (Some r) l = (rest : List ℕ) × (l ≡ place r ∷ rest) × Above (place r) rest
