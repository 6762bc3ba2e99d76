-- Which page a word names.
use Rattle.std.specs.Prelude.{ℕ, Bool, ◌+◌, ◌-◌, ◌*◌, ◌/◌, ◌<◌, ◌≤◌, ◌&&◌, nat_lt, nat_le}
use Rattle.pm3_core.specs.declared.naming.TheConstants.{BASE, PAGE_BYTES}

-- the word is an address in the page, which is one of so many
abbrev pub Names : ℕ → ℕ → ℕ → Type 0
Names pages word page =
    (page < pages) × (BASE + PAGE_BYTES * page ≤ word) × (word < BASE + PAGE_BYTES * (page + 1))

-- the same as a test
abbrev pub names : ℕ → ℕ → ℕ → Bool
names pages word page =
    (nat_lt page pages && nat_le (BASE + PAGE_BYTES * page) word) && nat_lt word (BASE + PAGE_BYTES * (page + 1))

-- the one page that a word can name
abbrev pub page_in : ℕ → ℕ
page_in word = (word - BASE) / PAGE_BYTES
