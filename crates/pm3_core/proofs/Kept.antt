-- Each event keeps what holds of the states that are reached.
use Rattle.std.proofs.Common.{◌≡◌, ℕ, ◌+◌, Bool, true, false, if◌then◌else◌, List, [], ◌∷◌, refl, arith}
use Rattle.std.proofs.lemmas.Bool.{cases_eq}
use Rattle.std.proofs.lemmas.Bool.Decides.{nat_tests}
use Rattle.pm3_core.specs.declared.events.Event.{Event}
use Rattle.pm3_core.specs.declared.events.Event.TheVariants.{Store, Validate, Clear, Mark, Read, Move, Unmark}
use Rattle.pm3_core.proofs.Names.{names_is, unmarked_not}
use Rattle.pm3_core.specs.Machine.{Machine, spot, opening, put, names_unmarked, stored, validated, marked, read_off, admits, after, run, reached}
use Rattle.pm3_core.specs.Cleared.{Cleared}
use Rattle.pm3_core.specs.Law.{IsUnpinned}
use Rattle.pm3_core.specs.Apart.{IsApart}

-- a store: the place does not stand, and the other places are as before
pub stored_apart : (pages : ℕ) (m : Machine) (at w : ℕ) → IsApart pages m → IsApart pages (stored m at w)
stored_apart pages m at w apart n page stands marks is = grind (arith, nat_tests, cases_eq n at, apart n page)

pub validated_apart : (pages : ℕ) (m : Machine) (at : ℕ) → IsApart pages m → IsApart pages (validated pages m at)
validated_apart pages m at apart n page stands marks is =
    apart n page (stood (names_unmarked pages m.mark (m.word at)) refl stands) marks is
  where
    stood : (b : Bool) → names_unmarked pages m.mark (m.word at) ≡ b → (if b then put m.stands at true else m.stands) n ≡ true → m.stands n ≡ true
    stood false e stood_so = stood_so
    stood true e stood_so = grind (arith, nat_tests, cases_eq n at, e, stood_so, unmarked_not pages (m.word n) page m.mark is marks)

pub marked_apart : (pages : ℕ) (m : Machine) (p mark : ℕ) → IsApart pages m → IsApart pages (marked m p mark)
marked_apart pages m p mark apart n page stands marks is = grind (arith, nat_tests, cases_eq page p, apart n page)

pub read_off_apart : (pages : ℕ) (m : Machine) (who at : ℕ) → IsApart pages m → IsApart pages (read_off pages m who at)
read_off_apart pages m who at apart n page stands marks is =
    grind (arith, nat_tests, cases_eq n at, apart n page stands marks is, names_is pages (m.word n) page is)

-- of two states that keep it, the one that is chosen does
chosen_apart : (pages : ℕ) (b : Bool) (m m' : Machine) → IsApart pages m' → IsApart pages m → IsApart pages (if b then m' else m)
chosen_apart pages true m m' apart' apart = apart'
chosen_apart pages false m m' apart' apart = apart

-- each event keeps the rule
pub after_apart : (pages : ℕ) (m : Machine) (event : Event) → IsApart pages m → IsApart pages (after pages m event)
after_apart pages m (Store who place word) apart =
    chosen_apart pages (admits pages m (Store who place word)) m (stored m (spot who place) word) (stored_apart pages m (spot who place) word apart) apart
after_apart pages m (Validate who place) apart =
    chosen_apart pages (admits pages m (Validate who place)) m (validated pages m (spot who place)) (validated_apart pages m (spot who place) apart) apart
after_apart pages m (Clear who place) apart =
    chosen_apart pages (admits pages m (Clear who place)) m (stored m (spot who place) 0) (stored_apart pages m (spot who place) 0 apart) apart
after_apart pages m (Mark who page) apart =
    chosen_apart pages (admits pages m (Mark who page)) m (marked m page (who + 1)) (marked_apart pages m page (who + 1) apart) apart
after_apart pages m (Read who row place) apart =
    chosen_apart pages (admits pages m (Read who row place)) m (read_off pages m who (spot row place)) (read_off_apart pages m who (spot row place) apart) apart
after_apart pages m (Move who page) apart =
    chosen_apart pages (admits pages m (Move who page)) m m apart apart
after_apart pages m (Unmark who page) apart =
    chosen_apart pages (admits pages m (Unmark who page)) m (marked m page 0) (marked_apart pages m page 0 apart) apart

pub opening_apart : (pages : ℕ) → IsApart pages opening
opening_apart pages n page stands marks is = refl

pub run_apart : (pages : ℕ) (events : List Event) (m : Machine) → IsApart pages m → IsApart pages (run pages events m)
run_apart pages [] m apart = apart
run_apart pages (event ∷ events) m apart = run_apart pages events (after pages m event) (after_apart pages m event apart)

-- each state that is reached keeps the rule
pub reached_apart : (pages : ℕ) (events : List Event) → IsApart pages (reached pages events)
reached_apart pages events = run_apart pages events opening (opening_apart pages)

-- no standing word names a cleared page
pub cleared_unpinned : (pages : ℕ) (m : Machine) (who page : ℕ) → IsApart pages m → Cleared m who page → IsUnpinned pages m page
cleared_unpinned pages m who page apart cleared n below pins =
    let read : m.read page n ≡ true = cleared.1 n below in
    let not_read : m.read page n ≡ false = apart n page pins.0 (λ none. omega (arith, none, cleared.0)) pins.1 in
    cc
