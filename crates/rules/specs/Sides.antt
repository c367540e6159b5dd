-- Two hosts of one world. Side one is opened as the lead, side two as the standby.

pub data Side : Type 0 where
  one two : Side

abbrev pub other : Side → Side
other one = two
other two = one

-- What each of the two has: a cache, or a table.
pub record Pair (A : Type 0) : Type 0 where
  pub one : A
  pub two : A

abbrev pub at : {A : Type 0} → Side → Pair A → A
at one h = h.one
at two h = h.two

-- One of the two goes on, and the other stays.
abbrev pub put : {A : Type 0} → Side → A → Pair A → Pair A
put one a h = record { one = a; two = h.two }
put two a h = record { one = h.one; two = a }
