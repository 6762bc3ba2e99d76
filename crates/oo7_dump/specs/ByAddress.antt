-- The text of a store whose objects are met by their addresses.
use Rattle.std.specs.Prelude.{ℕ, ◌≡◌, ◌<◌, ◌≤◌, List, length}
use Rattle.std.specs.FinMap.{get}
use Rattle.pm3_types.specs.Dump.{dump, text_of}
use Rattle.pm3_types.specs.Fields.{Fields}
use Rattle.pm3_types.specs.Graph.{Part}
use Rattle.pm3_types.specs.Numbering.{met_from}
use Rattle.pm3_types.specs.Shown.{Images}
use Rattle.pm3_journal.specs.Opening.{OpenTo}
use Rattle.oo7_dump.specs.Raw.{raw_at, root_words}

module _ (catalog : List Fields) (base : ℕ) (images : Images) (count : ℕ) where
  -- the addresses that are met from the root slots once so many objects were looked at
  abbrev pub met_addresses : List ℕ
  met_addresses = met_from catalog (raw_at catalog base images) count (root_words (get images 2))

  -- all that are met were looked at
  abbrev pub IsEnough : Type 0
  IsEnough = length met_addresses ≤ count

  -- the text of the objects that are met so
  abbrev pub text_by_address : List ℕ
  text_by_address = text_of catalog (raw_at catalog base images) (root_words (get images 2)) met_addresses

-- Of files that open to a graph, the dump of the graph is the text of the objects that are met by their addresses, however many
-- were looked at.
abbrev pub DumpsOpened : Type 0
DumpsOpened = (base : ℕ) (file journal : List ℕ) (g : Part) → 0 < base → (o : OpenTo base file journal g) → (count : ℕ)
    → IsEnough o.catalog base o.images count → dump o.catalog g ≡ text_by_address o.catalog base o.images count

-- for all images that fit what is held, these are the addresses that are met, and all of them were looked at
pub record AreAllMet (catalog : List Fields) (base : ℕ) (fits : Images → Type 0) (met : List ℕ) : Type 0 where
  pub count : ℕ
  pub are : (all : Images) → fits all → met ≡ met_addresses catalog base all count
  pub enough : length met ≤ count

-- for all images that fit what is held, this is the text of the objects that are met, and all of them were looked at
pub record IsTextOf (catalog : List Fields) (base : ℕ) (fits : Images → Type 0) (text : List ℕ) : Type 0 where
  pub count : ℕ
  pub is : (all : Images) → fits all → text ≡ text_by_address catalog base all count
  pub enough : (all : Images) → fits all → IsEnough catalog base all count
