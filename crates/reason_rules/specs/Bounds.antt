-- The bound that decides a changed maximum: a rule gives a value of its own, which limits of the settings may cut.
use Rattle.std.specs.Prelude.{ℕ, ◌+◌, ◌-◌, ◌≤◌, ◌≡◌, ◌⊎◌, ◌&&◌, List, [], ◌∷◌, leb, ltb, if◌then◌else◌, None, Some, Option}
use Rattle.settings.specs.Types.{Cap}
use Rattle.settings.specs.declared.Settings.{Settings}
use Rattle.reason_rules.specs.declared.Bound.TheVariants as bound
use Rattle.reason_rules.specs.declared.Bound.{Bound}

-- ---- what is named

-- The field's number; 0 where none held the value.
abbrev pub bound_number : Option Bound → ℕ
bound_number None = 0
bound_number (Some bound.Largest) = 5
bound_number (Some bound.Smallest) = 6
bound_number (Some bound.Increment) = 9
bound_number (Some bound.Decrement) = 12

-- A rise to `raw`, which maximum size and maximum plus cap may cut.
abbrev pub rise_bound : Cap → ℕ → ℕ → ℕ → Option Bound
rise_bound None raw maximum largest = if ltb largest raw then Some bound.Largest else None
rise_bound (Some most) raw maximum largest =
    if ltb largest raw && leb largest (maximum + most) then Some bound.Largest
    else (if ltb (maximum + most) raw then Some bound.Increment else None)

-- A fall to `raw`, which minimum size and maximum less cap may cut.
abbrev pub fall_bound : Cap → ℕ → ℕ → ℕ → Option Bound
fall_bound None raw maximum smallest = if ltb raw smallest then Some bound.Smallest else None
fall_bound (Some most) raw maximum smallest =
    if ltb raw smallest && leb (maximum - most) smallest then Some bound.Smallest
    else (if ltb raw (maximum - most) then Some bound.Decrement else None)

-- Configuring: an initial size is not cut; without one the old maximum is brought into the range.
abbrev pub settings_bound : Settings → ℕ → Option Bound
settings_bound s maximum =
    if s.preset then None
    else (if ltb s.largest maximum then Some bound.Largest else (if ltb maximum s.smallest then Some bound.Smallest else None))

-- ---- what that means

pub record Limit : Type 0 where
  pub bound : Bound
  pub limit : ℕ

abbrev pub Every : (Limit → Type 0) → List Limit → Type 0
Every P [] = Unit
Every P (l ∷ rest) = P l × Every P rest

abbrev pub Any : (Limit → Type 0) → List Limit → Type 0
Any P [] = ⊥
Any P (l ∷ rest) = P l ⊎ Any P rest

-- The limits of a rise, and those of a fall.
abbrev pub above : Cap → ℕ → ℕ → List Limit
above None maximum largest = record { bound = bound.Largest; limit = largest } ∷ []
above (Some most) maximum largest =
    record { bound = bound.Largest; limit = largest } ∷ record { bound = bound.Increment; limit = maximum + most } ∷ []

abbrev pub below : Cap → ℕ → ℕ → List Limit
below None maximum smallest = record { bound = bound.Smallest; limit = smallest } ∷ []
below (Some most) maximum smallest =
    record { bound = bound.Smallest; limit = smallest } ∷ record { bound = bound.Decrement; limit = maximum - most } ∷ []

-- `Decided within raw limits b value`: the value that the limits leave of raw, and the bound that decided it.
pub data Decided (within : ℕ → ℕ → Type 0) (raw : ℕ) (limits : List Limit) : Option Bound → ℕ → Type 0 where
  -- no limit cuts raw
  uncut : Every (λ l. within raw l.limit) limits → Decided within raw limits None raw
  -- the value is cut, it is b's limit, it is within every limit, and of the bounds with that limit b has the lowest number
  cut : {b : Bound} {value : ℕ} → (within raw value → ⊥) → Any (λ l. (l.bound ≡ b) × (l.limit ≡ value)) limits
      → Every (λ l. within value l.limit × (l.limit ≡ value → bound_number (Some b) ≤ bound_number (Some l.bound))) limits
      → Decided within raw limits (Some b) value

-- A rise is cut from above, a fall from below.
abbrev pub Rise : ℕ → List Limit → Option Bound → ℕ → Type 0
Rise raw limits b value = Decided (λ n m. n ≤ m) raw limits b value

abbrev pub Fall : ℕ → List Limit → Option Bound → ℕ → Type 0
Fall raw limits b value = Decided (λ n m. m ≤ n) raw limits b value
