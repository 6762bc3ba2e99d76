-- Blocks of places for the words of pages, and what tables of all these places say.
use Rattle.std.specs.Prelude.{ℕ, ◌≡◌, ◌⊎◌, ◌↔◌, ◌+◌, ◌*◌, ◌<◌, Bool, true, false, List, length, slice_index, slice_index_or}
use Rattle.std.specs.List.{Contains, count_by}
use Rattle.std.specs.FinSet as set
use Rattle.std.specs.Ordering.{nat_cmp}
use Rattle.pm3_types.specs.Layout.{is_address, page_in, word_in}
use Rattle.pm3_types.specs.PassMoves.{IsRising}

-- the block of a page, or 65535 where it has none
abbrev pub block_of : List ℕ → ℕ → ℕ
block_of blocks page = slice_index_or blocks page 65535

-- the place of a word
abbrev pub slot_of : ℕ → List ℕ → ℕ → ℕ
slot_of base blocks a = 512 * block_of blocks (page_in base a) + word_in base a

-- the page has a block, where so many words have places
abbrev pub HasBlock : List ℕ → ℕ → ℕ → Type 0
HasBlock blocks words page = 512 * block_of blocks page < words

-- whole blocks, each of one page, for so many words
pub record AreBlocks (blocks : List ℕ) (words : ℕ) : Type 0 where
  pub count : ℕ
  pub whole : words ≡ 512 * count
  pub long : length blocks ≡ 16384
  pub within : (p : ℕ) → (block_of blocks p < count) ⊎ (block_of blocks p ≡ 65535)
  pub apart : (p q : ℕ) → block_of blocks p < count → block_of blocks p ≡ block_of blocks q → p ≡ q

-- each member of a list is an address on a page with a block
abbrev pub AreOnBlocks : ℕ → List ℕ → ℕ → List ℕ → Type 0
AreOnBlocks base blocks words list = (a : ℕ) → Contains list a → (is_address base a ≡ true) × HasBlock blocks words (page_in base a)

-- each member of a list is an address on one of these pages
abbrev pub AreOnSome : ℕ → set.FinSet nat_cmp → List ℕ → Type 0
AreOnSome base pages list = (a : ℕ) → Contains list a → (is_address base a ≡ true) × (set.contains pages (page_in base a) ≡ true)

-- the number at the place of a word
abbrev pub number_of : ℕ → List ℕ → List ℕ → ℕ → ℕ
number_of base blocks numbers a = slice_index numbers (slot_of base blocks a)

-- the members of a list are numbered one after another from a number on
abbrev pub AreNumbered : ℕ → List ℕ → List ℕ → ℕ → List ℕ → Type 0
AreNumbered base blocks numbers first list = (i : ℕ) → i < length list → number_of base blocks numbers (slice_index list i) ≡ first + i

-- the members of a list are numbered by their places there, and those of another behind them
abbrev pub AreBothNumbered : ℕ → List ℕ → List ℕ → List ℕ → List ℕ → Type 0
AreBothNumbered base blocks numbers list behind = AreNumbered base blocks numbers 0 list × AreNumbered base blocks numbers (length list) behind

-- an object waits at the place of a word
abbrev pub Waits : ℕ → List ℕ → List Bool → ℕ → Type 0
Waits base blocks waiting a = slice_index_or waiting (slot_of base blocks a) false ≡ true

-- just the objects that have not been found wait
pub record AreWaiting (base : ℕ) (blocks objects : List ℕ) (waiting : List Bool) (list : List ℕ) : Type 0 where
  pub whole : AreBlocks blocks (length waiting)
  pub rising : IsRising objects
  pub on : AreOnBlocks base blocks (length waiting) objects
  pub waits : (a : ℕ) → is_address base a ≡ true → HasBlock blocks (length waiting) (page_in base a)
      → Waits base blocks waiting a ↔ (Contains objects a × (Contains list a → ⊥))
  pub only : (a : ℕ) → Contains list a → Contains objects a
  pub count : length list + count_by (λ waits. waits) waiting ≡ length objects
