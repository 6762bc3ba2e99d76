-- What a table is told, and what a view then knows.
use Rattle.std.specs.Prelude.{◌≡◌, ◌⊎◌, ℕ, zero, suc, ◌+◌, ◌^◌, ◌<◌, ◌≤◌, ◌==◌, ◌&&◌, ◌||◌, Bool, true, false, nat_lt, if◌then◌else◌, List, [], ◌++◌, Option, None, Some}
use Rattle.std.specs.FinMap.{get}
use Rattle.pm3_core.specs.declared.naming.TheConstants.{BASE}
use Rattle.pm3_history.specs.Entry.{Done}
use Rattle.pm3_history.specs.Opens.{LawfulFrom}
use Rattle.pm3_table.specs.declared.view.Told.{Told}
use Rattle.pm3_table.specs.declared.view.View.{View}
use Rattle.pm3_table.specs.Deeds.{IsClearedIn, marks_of}
use Rattle.pm3_table.specs.Entries.{names_unit, makes, refers, touches, writes, keeps_in}
use Rattle.pm3_table.specs.Histories.{some_has, NoneHas, by, AllBy}
use Rattle.pm3_table.specs.Holds.{holds_of, spans_of, is_in}
use Rattle.pm3_table.specs.Reads.{AllRead}
use Rattle.pm3_table.specs.Words.{space_unit, turn_unit}

-- the limits of the three counters, and what they begin with
abbrev pub limit : Told → ℕ → ℕ
limit told c = if c == 0 then told.pages else (if c == 1 then 2 ^ 62 else 32)

abbrev pub first : Told → ℕ → ℕ
first told c = if c == 0 then told.frontier else (if c == 1 then told.next_name else 0)

-- the commit names the unit; an image of it names the page
abbrev pub names : Told → Done → ℕ → Bool
names told = names_unit (turn_unit told.pages)

abbrev pub names_page : Told → Done → ℕ → Bool
names_page told = refers told.opening.catalog

-- no commit names the unit
abbrev pub NoneNames : Told → List Done → ℕ → Type 0
NoneNames told h u = NoneHas (names told) h u

-- the history may be that of this table
abbrev pub Lawful : Told → List Done → Type 0
Lawful told h = LawfulFrom BASE told.pages told.opening h

-- Of a slot of which `stands` says for what it stands: a value stands for its unit after the history; a page may be without
-- one where no commit names it and the opened images lack it.
abbrev pub Good : {V : Type 0} → (Told → List Done → List Done → ℕ → V → Type 0) → Told → List Done → List Done → ℕ → Option V → Type 0
Good stands told lost h u (Some x) = stands told lost h u x
Good stands told lost h u None = (u < told.pages) × NoneNames told h u × (get told.opening.images u ≡ None)

-- the pages of a space's value, and the faults that the turn's value counts
abbrev pub spans_in : {V : Type 0} → (V → List ℕ) → Option V → List ℕ
spans_in spans None = []
spans_in spans (Some x) = spans x

abbrev pub counted_in : {V : Type 0} → (V → ℕ) → Option V → ℕ
counted_in counted None = 0
counted_in counted (Some x) = counted x

-- the view knows the page to be persistent: from the start, from a look or its own settling, or since it has seen it written
abbrev pub is_steady : Told → View → ℕ → Bool
is_steady told v p = nat_lt p told.frontier || (is_in p v.steady || some_has writes v.seen p)

-- the mark that a page has by the view: its own number plus one, or none
abbrev pub mark_by : View → ℕ → ℕ
mark_by v p = if marks_of v.log p then v.row + 1 else 0

-- the page is in the space, which the view holds
abbrev pub HasInSpace : Told → View → ℕ → ℕ → Type 0
HasInSpace told v j p =
    (j < 32) × (holds_of v.holds (space_unit told.pages j) ≡ true) × (spans_of v.spans (space_unit told.pages j) p ≡ true)

-- the page is in one of the first n spaces, and the view holds that
abbrev pub in_some_space : Told → View → ℕ → ℕ → Bool
in_some_space told v zero p = false
in_some_space told v (suc n) p =
    (holds_of v.holds (space_unit told.pages n) && spans_of v.spans (space_unit told.pages n) p) || in_some_space told v n p

-- the view knows the page to be used: persistent, in a space that it holds, or named by an image that it has seen
unfoldable pub knows_used : Told → View → ℕ → Bool
knows_used told v p = is_steady told v p || (in_some_space told v 32 p || some_has (names_page told) v.seen p)

-- no commit that the view has seen makes the name, the graph that was opened hasn't it, and the view hasn't drawn it
pub record IsNewName (told : Told) (v : View) (n : ℕ) : Type 0 where
  pub from : told.next_name ≤ n
  pub undrawn : is_in n v.names ≡ false
  pub unmade : some_has makes v.seen n ≡ false

-- no image that the view has seen has or names the page, and it is none that the view knows to be persistent, or of a space that it
-- holds
pub record IsNewPage (told : Told) (v : View) (p : ℕ) : Type 0 where
  pub from : told.frontier ≤ p
  pub elsewhere : (j : ℕ) → HasInSpace told v j p → ⊥
  pub unnamed : some_has (names_page told) v.seen p ≡ false
  pub unknown : is_steady told v p ≡ false

-- nothing is told of a number that was drawn
abbrev pub IsAnyNumber : Told → View → ℕ → Type 0
IsAnyNumber told v n = Unit {0}

-- the page, one of space j, is none that the view knows to be persistent, and a pass that left it in a space was of this one
pub record IsOnlyIn (told : Told) (v : View) (j p : ℕ) : Type 0 where
  pub bare : is_steady told v p ≡ false
  pub kept : (i : ℕ) → some_has (keeps_in i) v.seen p ≡ true → i ≡ j

-- What a view that has seen the whole history knows of itself: the history is lawful, with the failed commits too; its own
-- commits are those that it counts; its drawn names and pages are new; and a page of a space that it holds is in no other, nor
-- persistent.
pub record IsSound (told : Told) (v : View) (lost : List Done) : Type 0 where
  pub lawful : Lawful told v.seen
  pub lawful_lost : Lawful told (v.seen ++ lost)
  pub own : v.mine ≡ by v.row v.seen
  pub new_names : (n : ℕ) → is_in n v.names ≡ true → (told.next_name ≤ n) × (some_has makes v.seen n ≡ false)
  pub new_pages : (p : ℕ) → is_in p v.pages ≡ true → (told.frontier ≤ p) × (some_has (names_page told) v.seen p ≡ false)
  pub apart : (j p : ℕ) → HasInSpace told v j p → IsOnlyIn told v j p

-- The commits `more` may join the history that the view has seen, and `failed` be kept as failed beside `lost`.
pub record MayJoin (told : Told) (v : View) (more failed : List Done) : Type 0 where
  pub lawful : Lawful told (v.seen ++ more)
  pub lawful_lost : Lawful told ((v.seen ++ more) ++ (v.lost ++ failed))
  pub single : ((v.lost ≡ []) ⊎ (more ≡ [])) × ((v.lost ≡ []) ⊎ (failed ≡ []))
  pub own : AllBy v.row (more ++ failed)
  pub held : (u : ℕ) → holds_of v.holds u ≡ false → NoneNames told more u
  pub drawn : (n : ℕ) → some_has makes more n ≡ true → is_in n v.names ≡ true
  pub used : (p : ℕ) → some_has (names_page told) more p ≡ true → knows_used told v p ≡ true
  pub cleared : (p : ℕ) → some_has touches more p ≡ true → IsClearedIn told.pages v.log p
  pub kept : (j p : ℕ) → some_has (keeps_in j) more p ≡ true → HasInSpace told v j p
  pub read : AllRead v.log more
