-- Which calls of a device in memory fail: those whose numbers are in a list.
use Rattle.std.specs.Prelude.{◌≡◌, ℕ, ◌+◌, ◌-◌, ◌^◌, min, List, Contains, Result, Ok, Err}

-- one more, up to the last value of a counter of 64 bits
abbrev pub raised : ℕ → ℕ
raised count = min (count + 1) (2 ^ 64 - 1)

-- and of 32 bits
abbrev pub raised_32 : ℕ → ℕ
raised_32 count = min (count + 1) (2 ^ 32 - 1)

-- the numbers of the calls that fail, the number of the next call, and how many have failed
pub record Plan : Type 0 where
  pub fails : List ℕ
  pub next : ℕ
  pub faults : ℕ

-- a call was made, and didn't fail
abbrev pub passed : Plan → Plan
passed plan = record plan { next = raised plan.next }

-- a call was made, and failed
abbrev pub failed : Plan → Plan
failed plan = record plan { next = raised plan.next; faults = raised plan.faults }

-- a call failed for want of memory, and took no number
abbrev pub blamed : Plan → Plan
blamed plan = record plan { faults = raised plan.faults }

-- a call failed exactly where its number is in the list
abbrev pub GoesBy : {T E : Type 0} → Plan → Plan → Result T E → Type 0
GoesBy old new (Ok _) = (Contains old.fails old.next → ⊥) × (new ≡ passed old)
GoesBy old new (Err _) = Contains old.fails old.next × (new ≡ failed old)
