-- Writing a message.
use Rattle.std.specs.Prelude.{ℕ, ◌+◌, ◌*◌, List, ◌∷◌, ◌++◌, ltb, length, drop, if◌then◌else◌, Result, Ok, Err}
use Rattle.rules.specs.declared.answer.Refusal.{Refusal}
use Rattle.rules.specs.declared.answer.Refusal.TheVariants.{OrderWords, Malformed}
use Rattle.rules.specs.Limits.{most_listed}
use Rattle.rules.specs.Messages.{bytes_of, message_of}

-- The fields before the addresses.
abbrev pub message_front : ℕ → ℕ → List ℕ
message_front number count = 1 ∷ 0 ∷ 8 ∷ (bytes_of 8 number ++ 2 ∷ 0 ∷ 2 ∷ bytes_of 2 count)

-- The answer, and the bytes lent, afterwards.
pub record Wrote : Type 0 where
  pub answer : Result ℕ Refusal
  pub bytes : List ℕ

abbrev pub wrote : Result ℕ Refusal → List ℕ → Wrote
wrote answer bytes = record { answer = answer; bytes = bytes }

-- How many bytes the message of so many addresses has.
abbrev pub message_bytes : ℕ → ℕ
message_bytes count = 19 + count * 11

-- 2 if fewer bytes are lent than the message has, else 15 if the list is longer than a message can have; else the message stands in the
-- first bytes, and those past it are as they were.
abbrev pub write_words : List ℕ → ℕ → List ℕ → Wrote
write_words bytes number list =
    if ltb (length bytes) (message_bytes (length list)) then wrote (Err OrderWords) bytes
    else (if ltb most_listed (length list) then wrote (Err Malformed) bytes
    else wrote (Ok (message_bytes (length list))) (message_of number list ++ drop (message_bytes (length list)) bytes))
