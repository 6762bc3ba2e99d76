-- What a mutator read after all its marks.
use Rattle.std.specs.Prelude.{ℕ, ◌≡◌, ◌<◌, Bool, false, List, [], ◌∷◌, length, get_or, Option, None, Some}
use Rattle.std.specs.Ordering.{nat_cmp}
use Rattle.std.specs.FinSet as set
use Rattle.pm3_core.specs.declared.events.TheConstants.{PLACES}
use Rattle.pm3_core.specs.Machine.{put, spot}
use Rattle.pm3_history.specs.Entry.{Done, Pass}
use Rattle.pm3_table.specs.declared.view.Deed.{Deed}
use Rattle.pm3_table.specs.declared.view.Deed.TheVariants.{Stored, Stood, Marked, Found, Unmarked}
use Rattle.pm3_table.specs.Deeds.{marks_of}

-- the word that was last read at a place of all rows, where that was after the last mark
abbrev pub read_of : List Deed → ℕ → Option ℕ
read_of [] = λ _. None
read_of (Stored place word ∷ ds) = read_of ds
read_of (Stood place ∷ ds) = read_of ds
read_of (Marked page ∷ ds) = λ _. None
read_of (Found row place word ∷ ds) = put (read_of ds) (spot row place) (Some word)
read_of (Unmarked page ∷ ds) = read_of ds

-- whether a page was marked when a word was last read
abbrev pub marked_then : List Deed → ℕ → Bool
marked_then [] = λ _. false
marked_then (Stored place word ∷ ds) = marked_then ds
marked_then (Stood place ∷ ds) = marked_then ds
marked_then (Marked page ∷ ds) = λ _. false
marked_then (Found row place word ∷ ds) = marks_of ds
marked_then (Unmarked page ∷ ds) = marked_then ds

-- These are the words of all places, each read after every mark, and the pages that were marked then.
pub record AreRead (log : List Deed) (marked : set.FinSet nat_cmp) (words : List ℕ) : Type 0 where
  pub wide : length words ≡ PLACES
  pub words_are : (n : ℕ) → n < PLACES → read_of log n ≡ Some (get_or words n 0)
  pub marks_are : (page : ℕ) → marked_then log page ≡ set.contains marked page

abbrev pub PassIsRead : List Deed → Option Pass → Type 0
PassIsRead log None = Unit {0}
PassIsRead log (Some p) = AreRead log p.marked p.words

-- the marks and words of each commit's pass are those that the log has of it
abbrev pub AllRead : List Deed → List Done → Type 0
AllRead log [] = Unit {0}
AllRead log (e ∷ es) = PassIsRead log e.pass × AllRead log es
