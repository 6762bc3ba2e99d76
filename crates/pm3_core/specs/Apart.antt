-- What holds of each state that the machine comes to.
use Rattle.std.specs.Prelude.{◌≡◌, ◌≢◌, ℕ, true, false}
use Rattle.pm3_core.specs.Naming.{Names, page_in}
use Rattle.pm3_core.specs.Machine.{Machine}

-- a standing place that names a marked page is not read off for that page
abbrev pub IsApart : ℕ → Machine → Type 0
IsApart pages m =
    (n page : ℕ) → m.stands n ≡ true → m.mark page ≢ 0 → Names pages (m.word n) page
    → m.read page n ≡ false

-- a standing place names a page
abbrev pub StandingNames : ℕ → Machine → Type 0
StandingNames pages m = (n : ℕ) → m.stands n ≡ true → Names pages (m.word n) (page_in (m.word n))
