-- The pinning machine: rows of words, and the pages that mutators mark.
use Rattle.std.specs.Prelude.{ℕ, Bool, true, false, ◌+◌, ◌*◌, ◌&&◌, ◌==◌, not, nat_lt, if◌then◌else◌, List, [], ◌∷◌}
use Rattle.pm3_core.specs.declared.events.Event.{Event}
use Rattle.pm3_core.specs.declared.events.Event.TheVariants.{Store, Validate, Clear, Mark, Read, Move, Unmark}
use Rattle.pm3_core.specs.declared.events.TheConstants.{ROWS, ROW_PLACES}
use Rattle.pm3_core.specs.Naming.{names, page_in}

-- a state; a place is counted over all rows, and a mutator has the row of its number
pub record Machine : Type 0 where
  -- the word at a place
  pub word : ℕ → ℕ
  -- whether the place stands
  pub stands : ℕ → Bool
  -- who marks a page: the mutator's number plus one, or 0
  pub mark : ℕ → ℕ
  -- whether a page has a place read off since its mark
  pub read : ℕ → ℕ → Bool

-- the number of a place of a row
abbrev pub spot : ℕ → ℕ → ℕ
spot row place = ROW_PLACES * row + place

-- each place holds 0 and none stands; no page is marked
abbrev pub opening : Machine
opening = record { word = λ _. 0; stands = λ _. false; mark = λ _. 0; read = λ _ _. false }

-- the function with another value at one number
abbrev pub put : {A : Type 0} → (ℕ → A) → ℕ → A → ℕ → A
put f n x k = if k == n then x else f k

-- the word names a page that is not marked
abbrev pub names_unmarked : ℕ → (ℕ → ℕ) → ℕ → Bool
names_unmarked pages mark word = names pages word (page_in word) && (mark (page_in word) == 0)

-- the place holds the word and does not stand
abbrev pub stored : Machine → ℕ → ℕ → Machine
stored m n word = record m { word = put m.word n word; stands = put m.stands n false }

-- the place stands if its word names an unmarked page
abbrev pub validated : ℕ → Machine → ℕ → Machine
validated pages m n =
    record m { stands = if names_unmarked pages m.mark (m.word n) then put m.stands n true else m.stands }

-- the page has this mark, and no place is read off for it
abbrev pub marked : Machine → ℕ → ℕ → Machine
marked m page mark = record m { mark = put m.mark page mark; read = put m.read page (λ _. false) }

-- the place is read off for each page that the mutator marks and that the word there does not name
abbrev pub read_off : ℕ → Machine → ℕ → ℕ → Machine
read_off pages m who n =
    record m {
      read = λ page.
          if (m.mark page == who + 1) && not (names pages (m.word n) page)
          then put (m.read page) n true
          else m.read page;
    }

-- what the event makes of the state where it is a step; a move touches nothing
abbrev pub effect : ℕ → Machine → Event → Machine
effect pages m (Store who place word) = stored m (spot who place) word
effect pages m (Validate who place) = validated pages m (spot who place)
effect pages m (Clear who place) = stored m (spot who place) 0
effect pages m (Mark who page) = marked m page (who + 1)
effect pages m (Read who row place) = read_off pages m who (spot row place)
effect pages m (Move who page) = m
effect pages m (Unmark who page) = marked m page 0

-- its mutator, row, place and page exist, and its page has the mark that it needs
abbrev pub admits : ℕ → Machine → Event → Bool
admits pages m (Store who place word) = nat_lt who ROWS && nat_lt place ROW_PLACES
admits pages m (Validate who place) = nat_lt who ROWS && nat_lt place ROW_PLACES
admits pages m (Clear who place) = nat_lt who ROWS && nat_lt place ROW_PLACES
admits pages m (Mark who page) = (nat_lt who ROWS && nat_lt page pages) && (m.mark page == 0)
admits pages m (Read who row place) = (nat_lt who ROWS && nat_lt row ROWS) && nat_lt place ROW_PLACES
admits pages m (Move who page) = (nat_lt who ROWS && nat_lt page pages) && (m.mark page == who + 1)
admits pages m (Unmark who page) = (nat_lt who ROWS && nat_lt page pages) && (m.mark page == who + 1)

-- the state after the event, which is the same state where the event is not admitted
abbrev pub after : ℕ → Machine → Event → Machine
after pages m event = if admits pages m event then effect pages m event else m

-- the state after a list of events
abbrev pub run : ℕ → List Event → Machine → Machine
run pages [] m = m
run pages (event ∷ events) m = run pages events (after pages m event)

-- the state that a list of events comes to from the opening
abbrev pub reached : ℕ → List Event → Machine
reached pages events = run pages events opening
