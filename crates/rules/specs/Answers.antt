-- The answers by number.
use Rattle.std.specs.Prelude.{ℕ, Option, Some, Ok, Err, None}
use Rattle.rules.specs.Types.{Answer, Verdict}
use Rattle.rules.specs.declared.answer.Refusal.{Refusal}
use Rattle.rules.specs.declared.answer.Refusal.TheVariants as refusal

abbrev pub refusal_number : Refusal → ℕ
refusal_number refusal.Table = 1
refusal_number refusal.OrderWords = 2
refusal_number refusal.Address = 3
refusal_number refusal.Size = 4
refusal_number refusal.Mode = 5
refusal_number refusal.Absent = 6
refusal_number refusal.Present = 7
refusal_number refusal.Held = 8
refusal_number refusal.Unheld = 9
refusal_number refusal.Pinned = 10
refusal_number refusal.Full = 11
refusal_number (refusal.Setting field) = 12
refusal_number refusal.List = 13
refusal_number refusal.Cut = 14
refusal_number refusal.Malformed = 15
refusal_number refusal.Number = 16

-- The number of an answer: 0 is acceptance.
abbrev pub answer_number : Answer → ℕ
answer_number (Ok orders) = 0
answer_number (Err r) = refusal_number r

-- The lowest bad field's number comes with 12 only.
abbrev pub refusal_field : Refusal → ℕ
refusal_field refusal.Table = 0
refusal_field refusal.OrderWords = 0
refusal_field refusal.Address = 0
refusal_field refusal.Size = 0
refusal_field refusal.Mode = 0
refusal_field refusal.Absent = 0
refusal_field refusal.Present = 0
refusal_field refusal.Held = 0
refusal_field refusal.Unheld = 0
refusal_field refusal.Pinned = 0
refusal_field refusal.Full = 0
refusal_field (refusal.Setting field) = field
refusal_field refusal.List = 0
refusal_field refusal.Cut = 0
refusal_field refusal.Malformed = 0
refusal_field refusal.Number = 0

abbrev pub answer_field : Answer → ℕ
answer_field (Ok orders) = 0
answer_field (Err r) = refusal_field r

-- The number of orders: none with a refusal.
abbrev pub answer_orders : Answer → ℕ
answer_orders (Ok orders) = orders
answer_orders (Err r) = 0

-- ---- verdicts

-- No refusal is acceptance.
abbrev pub verdict_of : Option Refusal → Verdict
verdict_of None = Ok tt
verdict_of (Some r) = Err r

-- The verdict that an answer carries.
abbrev pub verdict_in : Answer → Verdict
verdict_in (Ok orders) = Ok tt
verdict_in (Err r) = Err r

-- Its number and field are those of the answer.
abbrev pub verdict_number : Verdict → ℕ
verdict_number (Ok tt) = 0
verdict_number (Err r) = refusal_number r

abbrev pub verdict_field : Verdict → ℕ
verdict_field (Ok tt) = 0
verdict_field (Err r) = refusal_field r
