-- What a pass knows of its sets while it goes from one object to the next.
use Rattle.std.specs.Prelude.{ℕ, ◌≡◌, ◌⊎◌, ◌↔◌, ◌<◌, ◌≤◌, ◌++◌, true, false, List, [], ◌∷◌, length, slice_index}
use Rattle.std.specs.List.{Contains}
use Rattle.std.specs.FinSet as set
use Rattle.std.specs.Ordering.{nat_cmp}
use Rattle.pm3_types.specs.Fields.{Fields}
use Rattle.pm3_types.specs.Layout.{is_address, page_in}
use Rattle.pm3_types.specs.Objects.{RefersTo}
use Rattle.pm3_types.specs.PassMoves.{IsListOf}
use Rattle.pm3_types.specs.PassSets.{Before, Turns}
use Rattle.pm3_page.specs.PageMap.{Images}
use Rattle.pm3_page.specs.PageSheets.{sheets_of}
use Rattle.pm3_copy.specs.Finds.{Finds}
use Rattle.pm3_copy.specs.Whole.{IsObjectOf}

-- the images just before a pass
abbrev pub before_of : Images → Images → set.FinSet nat_cmp → Before
before_of space written pinned = record { space = sheets_of space; written = sheets_of written; pinned = pinned }

-- all that was found is of the set, and what the finds from the first to the next lead to was found
pub record IsSpread (InSet : ℕ → Type 0) (Leads : ℕ → ℕ → Type 0) (found : Finds) (first next : ℕ) : Type 0 where
  pub only : (a : ℕ) → Contains found.list a → InSet a
  pub closed : (k b : ℕ) → first ≤ k → k < next → k < length found.list → Contains found.objects b → Leads (slice_index found.list k) b → Contains found.list b

-- an object leads to what it refers to and, on a pinned page, to all objects of its page
abbrev pub LeadsTo : List Fields → ℕ → Images → set.FinSet nat_cmp → ℕ → ℕ → Type 0
LeadsTo catalog base images pinned a b =
    RefersTo catalog base (sheets_of images) a b
    ⊎ ((set.contains pinned (page_in base a) ≡ true) × IsObjectOf base images b × (page_in base b ≡ page_in base a))

-- the pages that were turned, and this one if it is pinned
abbrev pub TurnsPage : set.FinSet nat_cmp → ℕ → set.FinSet nat_cmp → set.FinSet nat_cmp → Type 0
TurnsPage pinned page old new =
    (p : ℕ) → (set.contains new p ≡ true) ↔ ((set.contains old p ≡ true) ⊎ ((p ≡ page) × (set.contains pinned page ≡ true)))

-- all objects of the pages that were turned have been found
abbrev pub AreWhole : ℕ → Images → set.FinSet nat_cmp → Finds → Type 0
AreWhole base images turned found = (b : ℕ) → set.contains turned (page_in base b) ≡ true → IsObjectOf base images b → Contains found.list b

-- just the pinned pages on which a promoted object lies
abbrev pub AreTurned : List Fields → ℕ → Before → set.FinSet nat_cmp → Type 0
AreTurned catalog base before turned = (p : ℕ) → (set.contains turned p ≡ true) ↔ Turns catalog base before p

-- an object was found that lies on no pinned page and is not among others
abbrev pub Picks : ℕ → set.FinSet nat_cmp → List ℕ → Finds → ℕ → Type 0
Picks base pinned but found a = Contains found.list a × (set.contains pinned (page_in base a) ≡ false) × (Contains but a → ⊥)

-- it is one of the first n
pub record IsBefore (list : List ℕ) (n a : ℕ) : Type 0 where
  pub place : ℕ
  pub low : place < n
  pub is : slice_index list place ≡ a

-- just what is picked of the first n objects, in rising order
unfoldable pub ArePicked : ℕ → set.FinSet nat_cmp → List ℕ → Finds → ℕ → List ℕ → Type 0
ArePicked base pinned but found n list = IsListOf (λ a. Picks base pinned but found a × IsBefore found.objects n a) list

-- of a list within all, the members before a place are among the first i of all, and the others behind them
pub record ArePassed (all list : List ℕ) (i next : ℕ) : Type 0 where
  pub low : next ≤ length list
  pub before : (k : ℕ) → k < next → k < length list → (j : ℕ) × (j < i) × (slice_index all j ≡ slice_index list k)
  pub behind : (k : ℕ) → next ≤ k → k < length list → (j : ℕ) × (i ≤ j) × (j < length all) × (slice_index all j ≡ slice_index list k)

-- the members of a list lie on no pinned page
abbrev pub AreFree : ℕ → set.FinSet nat_cmp → List ℕ → Type 0
AreFree base pinned list = (a : ℕ) → Contains list a → set.contains pinned (page_in base a) ≡ false

-- the members of a list from one place to another lie on the page of the first of them
abbrev pub AreOnOne : ℕ → List ℕ → ℕ → ℕ → Type 0
AreOnOne base list first end = (k : ℕ) → first ≤ k → k < end → page_in base (slice_index list k) ≡ page_in base (slice_index list first)

-- an object of the images refers to it
abbrev pub RefersFor : List Fields → ℕ → Images → ℕ → ℕ → Type 0
RefersFor catalog base images a b = RefersTo catalog base (sheets_of images) a b

-- these are addresses on pages that a store can have
abbrev pub AreOnPages : ℕ → List ℕ → Type 0
AreOnPages base list = (i : ℕ) → i < length list → (is_address base (slice_index list i) ≡ true) × (page_in base (slice_index list i) < 16384)

-- an object is added to a list exactly where this holds
abbrev pub TakesUp : Type 0 → ℕ → List ℕ → List ℕ → Type 0
TakesUp Holds a old new = (Holds × (new ≡ old ++ a ∷ [])) ⊎ ((Holds → ⊥) × (new ≡ old))

-- the pages that were given up, and this one unless it is pinned
abbrev pub Frees : set.FinSet nat_cmp → ℕ → set.FinSet nat_cmp → set.FinSet nat_cmp → Type 0
Frees pinned page old new =
    (p : ℕ) → (set.contains new p ≡ true) ↔ ((set.contains old p ≡ true) ⊎ ((p ≡ page) × (set.contains pinned page ≡ false)))
