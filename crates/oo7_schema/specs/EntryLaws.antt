-- Laws of lists of entries, and of the dates under which they stand.
use Rattle.std.specs.Prelude.{ℕ, ◌≡◌, ◌+◌, ◌-◌, ◌^◌, ◌≤◌, List, [], ◌∷◌, true, false}
use Rattle.oo7_schema.specs.Entries.{Entry, objects, with_entry, without_entry, has_entry, AreRising, times}
use Rattle.oo7_schema.specs.Traversals.{turned}

-- what an entry that comes does to a list: the keys go on rising, and its object stands in it once more
pub record ComesInto (key n : ℕ) (es : List Entry) : Type 0 where
  pub rising : AreRising es → AreRising (with_entry key n es)
  pub counted : (m : ℕ) → times m (objects (with_entry key n es)) ≡ times m (objects es) + times m (n ∷ [])

abbrev pub EntriesCome : Type 0
EntriesCome = (key n : ℕ) (es : List Entry) → ComesInto key n es

-- what an entry that goes does to a list: the keys go on rising, and its object stands in it once less; where there is no such
-- entry nothing changes
pub record GoesFrom (key n : ℕ) (es : List Entry) : Type 0 where
  pub rising : AreRising es → AreRising (without_entry key n es)
  pub counted : has_entry key n es ≡ true → (m : ℕ) → times m (objects (without_entry key n es)) + times m (n ∷ []) ≡ times m (objects es)
  pub absent : has_entry key n es ≡ false → without_entry key n es ≡ es

abbrev pub EntriesGo : Type 0
EntriesGo = (key n : ℕ) (es : List Entry) → GoesFrom key n es

-- an entry that came is there, and goes again
abbrev pub EntriesComeAndGo : Type 0
EntriesComeAndGo = (key n : ℕ) (es : List Entry) → has_entry key n es ≡ false → without_entry key n (with_entry key n es) ≡ es

-- a date that is turned stays within its bounds, and turned again it is as it was
pub record TurnsWithin (date : ℕ) : Type 0 where
  pub some : 1 ≤ turned date
  pub most : turned date ≤ 2 ^ 64 - 2
  pub back : turned (turned date) ≡ date

abbrev pub DatesTurn : Type 0
DatesTurn = (date : ℕ) → 1 ≤ date → date ≤ 2 ^ 64 - 2 → TurnsWithin date

-- three entries, with a and b and c for the objects 1 and 2 and 3
abbrev pub three_entries : List Entry
three_entries = with_entry 5 3 (with_entry 3 2 (with_entry 5 1 []))
