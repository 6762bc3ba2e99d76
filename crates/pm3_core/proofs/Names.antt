-- A word names one page, which the test finds.
use Rattle.std.proofs.Common.{◌≡◌, ◌≢◌, ℕ, true, false, arith}
use Rattle.std.proofs.lemmas.Bool.Decides.{nat_tests}
use Rattle.pm3_core.specs.Naming.{Names, names, page_in}
use Rattle.pm3_core.specs.Machine.{names_unmarked}

-- what the test finds is named
pub names_of : (pages word page : ℕ) → names pages word page ≡ true → Names pages word page
names_of pages word page is = grind (arith, nat_tests)

-- what is named the test finds
pub names_is : (pages word page : ℕ) → Names pages word page → names pages word page ≡ true
names_is pages word page is = grind (arith, nat_tests)

pub names_not : (pages word page : ℕ) → (Names pages word page → ⊥) → names pages word page ≡ false
names_not pages word page is = grind (arith, nat_tests)

-- a word names one page
pub page_is : (pages word page : ℕ) → Names pages word page → page_in word ≡ page
page_is pages word page is = omega (arith, is.0, is.1, is.2)

-- the word names an unmarked page
pub unmarked_is : (pages word page : ℕ) (mark : ℕ → ℕ) → Names pages word page → mark page ≡ 0 → names_unmarked pages mark word ≡ true
unmarked_is pages word page mark is free =
    rw (page_is pages word page is) (grind (arith, nat_tests, names_is pages word page is, free))

-- the word names a marked page
pub unmarked_not : (pages word page : ℕ) (mark : ℕ → ℕ) → Names pages word page → mark page ≢ 0 → names_unmarked pages mark word ≡ false
unmarked_not pages word page mark is held =
    rw (page_is pages word page is) (grind (arith, nat_tests, names_is pages word page is, held))

-- the word names no page
pub unmarked_none : (pages word : ℕ) (mark : ℕ → ℕ) → ((page : ℕ) → Names pages word page → ⊥) → names_unmarked pages mark word ≡ false
unmarked_none pages word mark none = grind (arith, nat_tests, names_not pages word (page_in word) (none (page_in word)))
