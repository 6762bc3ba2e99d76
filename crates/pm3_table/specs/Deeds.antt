-- What a mutator has done with its row, and what it knows by that.
use Rattle.std.specs.Prelude.{◌≡◌, ℕ, ◌<◌, ◌&&◌, Bool, true, false, not, if◌then◌else◌, List, [], ◌∷◌}
use Rattle.pm3_core.specs.declared.events.TheConstants.{PLACES}
use Rattle.pm3_core.specs.Naming.{names}
use Rattle.pm3_core.specs.Machine.{put, spot}
use Rattle.pm3_table.specs.declared.view.Deed.{Deed}
use Rattle.pm3_table.specs.declared.view.Deed.TheVariants.{Stored, Stood, Marked, Found, Unmarked}

-- the word at a place of its row
abbrev pub word_of : List Deed → ℕ → ℕ
word_of [] = λ _. 0
word_of (Stored place word ∷ ds) = put (word_of ds) place word
word_of (Stood place ∷ ds) = word_of ds
word_of (Marked page ∷ ds) = word_of ds
word_of (Found row place word ∷ ds) = word_of ds
word_of (Unmarked page ∷ ds) = word_of ds

-- whether the place stands
abbrev pub stands_of : List Deed → ℕ → Bool
stands_of [] = λ _. false
stands_of (Stored place word ∷ ds) = put (stands_of ds) place false
stands_of (Stood place ∷ ds) = put (stands_of ds) place true
stands_of (Marked page ∷ ds) = stands_of ds
stands_of (Found row place word ∷ ds) = stands_of ds
stands_of (Unmarked page ∷ ds) = stands_of ds

-- whether it marks the page
abbrev pub marks_of : List Deed → ℕ → Bool
marks_of [] = λ _. false
marks_of (Stored place word ∷ ds) = marks_of ds
marks_of (Stood place ∷ ds) = marks_of ds
marks_of (Marked page ∷ ds) = put (marks_of ds) page true
marks_of (Found row place word ∷ ds) = marks_of ds
marks_of (Unmarked page ∷ ds) = put (marks_of ds) page false

-- whether a place was read off for the page since its mark
abbrev pub reads_of : ℕ → List Deed → ℕ → ℕ → Bool
reads_of pages [] = λ _ _. false
reads_of pages (Stored place word ∷ ds) = reads_of pages ds
reads_of pages (Stood place ∷ ds) = reads_of pages ds
reads_of pages (Marked page ∷ ds) = put (reads_of pages ds) page (λ _. false)
reads_of pages (Found row place word ∷ ds) =
    λ page.
    if marks_of ds page && not (names pages word page)
    then put (reads_of pages ds page) (spot row place) true
    else reads_of pages ds page
reads_of pages (Unmarked page ∷ ds) = put (reads_of pages ds) page (λ _. false)

-- it marks the page, and each place of all rows is read off for it
abbrev pub IsClearedIn : ℕ → List Deed → ℕ → Type 0
IsClearedIn pages log page =
    (marks_of log page ≡ true) × ((n : ℕ) → n < PLACES → reads_of pages log page n ≡ true)
