-- A place stands exactly where its page was found without a mark, with no store there since.
use Rattle.std.proofs.Common.{◌≡◌, ℕ, ◌==◌, ◌&&◌, ◌⊎◌, inl, inr, Bool, true, false, if◌then◌else◌, List, [], ◌∷◌, ◌++◌, refl, ap, sym, subst, arith, eqb-true, eq-eqb}
use Rattle.std.proofs.lemmas.Bool.{cases_eq}
use Rattle.std.proofs.lemmas.Bool.Decides.{nat_tests}
use Rattle.pm3_core.specs.declared.events.Event.{Event}
use Rattle.pm3_core.specs.declared.events.Event.TheVariants.{Store, Validate, Clear, Mark, Read, Move, Unmark}
use Rattle.pm3_core.specs.Naming.{Names, names, page_in}
use Rattle.pm3_core.specs.Apart.{StandingNames}
use Rattle.pm3_core.proofs.Names.{names_of}
use Rattle.pm3_core.specs.Machine.{Machine, spot, opening, put, names_unmarked, validated, admits, after, run, reached}
use Rattle.pm3_core.proofs.Functions.{each_first, each_rest, each_more, each_none}
use Rattle.pm3_core.specs.Standing.{stores_at, loads_at, NoneStores, Stood}

-- the event loads the word of the place's page, which has no mark
abbrev pub Finds : ℕ → ℕ → Event → Machine → Type 0
Finds pages n event m = (loads_at n event ≡ true) × (names_unmarked pages m.mark (m.word n) ≡ true)

-- the place stood before, and the event does not store there
abbrev pub Remains : ℕ → Event → Machine → Type 0
Remains n event m = (m.stands n ≡ true) × (stores_at n event ≡ false)

-- a load: the place stood, or it is this one and its word names an unmarked page
stands_by : (pages : ℕ) (m : Machine) (at n : ℕ) (b : Bool) → (if b then validated pages m at else m).stands n ≡ true
    → ((m.stands n ≡ true) × (false ≡ false)) ⊎ ((b && (at == n) ≡ true) × (names_unmarked pages m.mark (m.word n) ≡ true))
stands_by pages m at n false stands = inl (stands, refl)
stands_by pages m at n true stands = test (names_unmarked pages m.mark (m.word at)) refl stands
  where
    test : (unmarked : Bool) → names_unmarked pages m.mark (m.word at) ≡ unmarked → (if unmarked then put m.stands at true else m.stands) n ≡ true
        → ((m.stands n ≡ true) × (false ≡ false)) ⊎ ((at == n ≡ true) × (names_unmarked pages m.mark (m.word n) ≡ true))
    test false e now = inl (now, refl)
    test true e now = here (cases_eq n at)
      where
        here : (n ≡ at) ⊎ (n ≡ at → ⊥) → ((m.stands n ≡ true) × (false ≡ false)) ⊎ ((at == n ≡ true) × (names_unmarked pages m.mark (m.word n) ≡ true))
        here (inl same) = inr (eq-eqb at n (sym same), subst (λ (k : ℕ). names_unmarked pages m.mark (m.word k) ≡ true) (sym same) e)
        here (inr other) = inl (grind (arith, nat_tests, other, now), refl)

found_at : (pages : ℕ) (m : Machine) (at n : ℕ) (b : Bool) → b && (at == n) ≡ true → names_unmarked pages m.mark (m.word n) ≡ true → (if b then validated pages m at else m).stands n ≡ true
found_at pages m at n false is unmarked = let wrong : false ≡ true = is in cc
found_at pages m at n true is unmarked =
    test (names_unmarked pages m.mark (m.word at)) (subst (λ (k : ℕ). names_unmarked pages m.mark (m.word k) ≡ true) (sym (eqb-true at n is)) unmarked)
  where
    test : (found : Bool) → found ≡ true → (if found then put m.stands at true else m.stands) n ≡ true
    test true so = grind (arith, nat_tests, eqb-true at n is)
    test false so = cc

-- where a place stands after an event, it was found there or remains
pub after_stands : (pages : ℕ) (m : Machine) (event : Event) (n : ℕ) → (after pages m event).stands n ≡ true → Remains n event m ⊎ Finds pages n event m
after_stands pages m (Store who place word) n stands = inl (grind (arith, nat_tests, stands, cases_eq n (spot who place)))
after_stands pages m (Validate who place) n stands =
    stands_by pages m (spot who place) n (admits pages m (Validate who place)) stands
after_stands pages m (Clear who place) n stands = inl (grind (arith, nat_tests, stands, cases_eq n (spot who place)))
after_stands pages m (Mark who page) n stands = inl (grind (arith, nat_tests, stands))
after_stands pages m (Read who row place) n stands = inl (grind (arith, nat_tests, stands))
after_stands pages m (Move who page) n stands = inl (grind (arith, nat_tests, stands))
after_stands pages m (Unmark who page) n stands = inl (grind (arith, nat_tests, stands))

pub after_remains : (pages : ℕ) (m : Machine) (event : Event) (n : ℕ) → Remains n event m → (after pages m event).stands n ≡ true
after_remains pages m (Store who place word) n remains = grind (arith, nat_tests, remains.0, remains.1, cases_eq n (spot who place))
after_remains pages m (Validate who place) n remains = grind (arith, nat_tests, remains.0, remains.1, cases_eq n (spot who place))
after_remains pages m (Clear who place) n remains = grind (arith, nat_tests, remains.0, remains.1, cases_eq n (spot who place))
after_remains pages m (Mark who page) n remains = grind (arith, nat_tests, remains.0)
after_remains pages m (Read who row place) n remains = grind (arith, nat_tests, remains.0)
after_remains pages m (Move who page) n remains = grind (arith, nat_tests, remains.0)
after_remains pages m (Unmark who page) n remains = grind (arith, nat_tests, remains.0)

pub after_finds : (pages : ℕ) (m : Machine) (event : Event) (n : ℕ) → Finds pages n event m → (after pages m event).stands n ≡ true
after_finds pages m (Validate who place) n finds =
    found_at pages m (spot who place) n (admits pages m (Validate who place)) finds.0 finds.1
after_finds pages m (Store who place word) n finds = let wrong : false ≡ true = finds.0 in cc
after_finds pages m (Clear who place) n finds = let wrong : false ≡ true = finds.0 in cc
after_finds pages m (Mark who page) n finds = let wrong : false ≡ true = finds.0 in cc
after_finds pages m (Read who row place) n finds = let wrong : false ≡ true = finds.0 in cc
after_finds pages m (Move who page) n finds = let wrong : false ≡ true = finds.0 in cc
after_finds pages m (Unmark who page) n finds = let wrong : false ≡ true = finds.0 in cc

-- it stood at the start and remained, or was found later
abbrev pub StoodFrom : ℕ → ℕ → List Event → Machine → Type 0
StoodFrom pages n events m = ((m.stands n ≡ true) × NoneStores n events) ⊎ Stood pages n events m

pub run_stands : (pages n : ℕ) (events : List Event) (m : Machine) → (run pages events m).stands n ≡ true → StoodFrom pages n events m
run_stands pages n [] m stands = inl (stands, each_none (λ event. stores_at n event ≡ false))
run_stands pages n (event ∷ events) m stands = later (run_stands pages n events (after pages m event) stands)
  where
    sooner : NoneStores n events → Remains n event m ⊎ Finds pages n event m → StoodFrom pages n (event ∷ events) m
    sooner kept (inl remains) = inl (remains.0, each_more (λ e. stores_at n e ≡ false) event events remains.1 kept)
    sooner kept (inr finds) = inr (record { before = []; load = event; since = events; are = refl; loads = finds.0; unmarked = finds.1; kept = kept })

    later : StoodFrom pages n events (after pages m event) → StoodFrom pages n (event ∷ events) m
    later (inl here) = sooner here.1 (after_stands pages m event n here.0)
    later (inr stood) = inr (record { before = event ∷ stood.before; load = stood.load; since = stood.since; are = ap (λ es. event ∷ es) stood.are; loads = stood.loads; unmarked = stood.unmarked; kept = stood.kept })

-- what stands remains standing while nothing is stored there
pub run_remains : (pages n : ℕ) (events : List Event) (m : Machine) → m.stands n ≡ true → NoneStores n events → (run pages events m).stands n ≡ true
run_remains pages n [] m stands kept = stands
run_remains pages n (event ∷ events) m stands kept =
    run_remains pages n events (after pages m event) (after_remains pages m event n (stands, each_first (λ e. stores_at n e ≡ false) event events kept)) (each_rest (λ e. stores_at n e ≡ false) event events kept)

pub stood_stands : (pages n : ℕ) (before : List Event) (load : Event) (since : List Event) (m : Machine) → Finds pages n load (run pages before m) → NoneStores n since
    → (run pages (before ++ load ∷ since) m).stands n ≡ true
stood_stands pages n [] load since m finds kept = run_remains pages n since (after pages m load) (after_finds pages m load n finds) kept
stood_stands pages n (event ∷ before) load since m finds kept = stood_stands pages n before load since (after pages m event) finds kept

-- a place that no event stores at keeps its word
pub after_word : (pages : ℕ) (m : Machine) (event : Event) (n : ℕ) → stores_at n event ≡ false → (after pages m event).word n ≡ m.word n
after_word pages m (Store who place word) n kept = grind (arith, nat_tests, kept, cases_eq n (spot who place))
after_word pages m (Validate who place) n kept = grind (arith, nat_tests)
after_word pages m (Clear who place) n kept = grind (arith, nat_tests, kept, cases_eq n (spot who place))
after_word pages m (Mark who page) n kept = grind (arith, nat_tests)
after_word pages m (Read who row place) n kept = grind (arith, nat_tests)
after_word pages m (Move who page) n kept = grind (arith, nat_tests)
after_word pages m (Unmark who page) n kept = grind (arith, nat_tests)

-- a load stores nothing
pub loads_alone : (n : ℕ) (event : Event) → loads_at n event ≡ true → stores_at n event ≡ false
loads_alone n (Validate who place) loads = refl
loads_alone n (Store who place word) loads = let wrong : false ≡ true = loads in cc
loads_alone n (Clear who place) loads = let wrong : false ≡ true = loads in cc
loads_alone n (Mark who page) loads = refl
loads_alone n (Read who row place) loads = refl
loads_alone n (Move who page) loads = refl
loads_alone n (Unmark who page) loads = refl

-- what names an unmarked page names a page
pub names_some : (pages word : ℕ) (mark : ℕ → ℕ) → names_unmarked pages mark word ≡ true → Names pages word (page_in word)
names_some pages word mark unmarked = names_of pages word (page_in word) (first (names pages word (page_in word)) (mark (page_in word) == 0) unmarked)
  where
    first : (a b : Bool) → a && b ≡ true → a ≡ true
    first true b both = refl
    first false b both = let wrong : false ≡ true = both in cc

-- each event keeps it that standing places name pages
pub after_named : (pages : ℕ) (m : Machine) (event : Event) → StandingNames pages m → StandingNames pages (after pages m event)
after_named pages m event named n stands = cases (after_stands pages m event n stands)
  where
    same : stores_at n event ≡ false → Names pages (m.word n) (page_in (m.word n)) → Names pages ((after pages m event).word n) (page_in ((after pages m event).word n))
    same kept names = subst (λ w. Names pages w (page_in w)) (sym (after_word pages m event n kept)) names

    cases : Remains n event m ⊎ Finds pages n event m → Names pages ((after pages m event).word n) (page_in ((after pages m event).word n))
    cases (inl remains) = same remains.1 (named n remains.0)
    cases (inr finds) = same (loads_alone n event finds.0) (names_some pages (m.word n) m.mark finds.1)

pub run_named : (pages : ℕ) (events : List Event) (m : Machine) → StandingNames pages m → StandingNames pages (run pages events m)
run_named pages [] m named = named
run_named pages (event ∷ events) m named = run_named pages events (after pages m event) (after_named pages m event named)

pub reached_named : (pages : ℕ) (events : List Event) → StandingNames pages (reached pages events)
reached_named pages events = run_named pages events opening (λ n stands. let wrong : false ≡ true = stands in cc)
