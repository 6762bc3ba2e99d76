-- What it takes for a place to stand, told over the list of events.
use Rattle.std.specs.Prelude.{◌≡◌, ℕ, Bool, true, false, ◌&&◌, ◌==◌, nat_lt, List, ◌∷◌, ◌++◌, All}
use Rattle.pm3_core.specs.declared.events.Event.{Event}
use Rattle.pm3_core.specs.declared.events.Event.TheVariants.{Store, Validate, Clear}
use Rattle.pm3_core.specs.declared.events.TheConstants.{ROWS, ROW_PLACES}
use Rattle.pm3_core.specs.Machine.{Machine, spot, names_unmarked, run}

-- the place of the row is this one
abbrev pub is_at : ℕ → ℕ → ℕ → Bool
is_at n row place = (nat_lt row ROWS && nat_lt place ROW_PLACES) && (spot row place == n)

-- the event stores a word at the place
abbrev pub stores_at : ℕ → Event → Bool
stores_at n (Store who place word) = is_at n who place
stores_at n (Clear who place) = is_at n who place
stores_at n _ = false

-- the event loads the word of the page that the place names
abbrev pub loads_at : ℕ → Event → Bool
loads_at n (Validate who place) = is_at n who place
loads_at n _ = false

-- no event stores at the place
abbrev pub NoneStores : ℕ → List Event → Type 0
NoneStores n events = All (λ event. stores_at n event ≡ false) events

-- since the state at the start of these events the page of the place's word was loaded and found
-- without a mark, and nothing was stored at the place since then
pub record Stood (pages : ℕ) (n : ℕ) (events : List Event) (m : Machine) : Type 0 where
  pub before : List Event
  pub load : Event
  pub since : List Event
  pub are : events ≡ before ++ load ∷ since
  pub loads : loads_at n load ≡ true
  pub unmarked : names_unmarked pages (run pages before m).mark ((run pages before m).word n) ≡ true
  pub kept : NoneStores n since
