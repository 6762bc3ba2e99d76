-- A page word by word: in a file or in memory, with the words in the other form.
use Rattle.std.specs.Prelude.{ℕ, ◌+◌, ◌==◌, ◌&&◌, not, Bool, true, false, cond, nat_le, List, [], ◌∷◌, ◌++◌, Option, Some, None, Result, Ok, Err, slice_get}
use Rattle.pm3_types.specs.Fields.{Fields}
use Rattle.pm3_types.specs.Layout.{Sheet, blank_sheet, type_in, tail_in, size_by, used_in}
use Rattle.pm3_types.specs.Bytes.{is_zero}
use Rattle.pm3_types.specs.PageForm.{is_page_head, is_head_of, is_name, is_padded}
use Rattle.pm3_types.specs.declared.type_map.Tail.TheVariants.{Empty}
use Rattle.pm3_page.specs.declared.roles.Reading.{Reading}
use Rattle.pm3_page.specs.declared.roles.Role.{Role}
use Rattle.pm3_page.specs.declared.roles.Role.TheVariants.{PageHead, Zero, Head, Name, Number, Reference, Bytes}
use Rattle.pm3_page.specs.declared.steps.Step.{Step}
use Rattle.pm3_page.specs.Roles.{role_at}

-- what follows on a word that passes a test
abbrev pub when : Bool → Step → Option Step
when true step = Some step
when false step = None

-- the same has been read, and no object begins at the word
abbrev pub plain : Reading → ℕ → Step
plain r word = record { reading = r; begins = false; word = word }

-- sixteen references
abbrev pub roots_map : Fields
roots_map = record { count = 16; refs = 65535; tail = Empty }

-- nothing has been read of a page whose objects end there and begin at `next`
abbrev pub reading_to : ℕ → ℕ → Reading
reading_to end next = record { end = end; next = next; at = 0; map = roots_map; tail = 0 }

-- the roots are read as the body of an object at word 0, behind which none begins
abbrev pub first_reading : ℕ → ℕ → Reading
first_reading page word = cond (page == 2) (reading_to 18 18) (reading_to (used_in word) 2)

-- an object begins at word i
abbrev pub object_reading : Reading → ℕ → Fields → ℕ → Reading
object_reading r i map tail = record { end = r.end; next = i + size_by (Some map) tail; at = i; map = map; tail = tail }

abbrev pub head_step : Option Fields → Reading → ℕ → ℕ → Option Step
head_step None r i word = None
head_step (Some map) r i word =
    when (is_head_of map word && nat_le (i + size_by (Some map) (tail_in word)) r.end)
    (record { reading = object_reading r i map (tail_in word); begins = true; word = word })

abbrev pub reference_step : Option ℕ → Reading → Option Step
reference_step None r = None
reference_step (Some word) r = Some (plain r word)

-- what follows on word i in its role, or nothing where it departs from the form
abbrev pub step_in : List Fields → (ℕ → Option ℕ) → ℕ → Reading → ℕ → Role → ℕ → Option Step
step_in catalog refer page r i PageHead word = when (is_page_head page word) (plain (first_reading page word) word)
step_in catalog refer page r i Zero word = when (word == 0) (plain r word)
step_in catalog refer page r i Head word = head_step (slice_get catalog (type_in word)) r i word
step_in catalog refer page r i Name word = when (is_name word) (plain r word)
step_in catalog refer page r i Number word = Some (plain r word)
step_in catalog refer page r i Reference word = reference_step (refer word) r
step_in catalog refer page r i (Bytes left) word = when (is_padded left word) (plain r word)

-- the sheet that words read as, or the first word that departs from the form
abbrev pub Read : Type 0
Read = Result Sheet ℕ

-- the step's word in front of the sheet of those behind it
abbrev pub put_first : Step → Read → Read
put_first step (Ok sheet) = Ok (record { words = step.word ∷ sheet.words; starts = step.begins ∷ sheet.starts })
put_first step (Err i) = Err i

abbrev pub go_on : ℕ → Option Step → (Reading → Read) → Read
go_on i None rest = Err i
go_on i (Some step) rest = put_first step (rest step.reading)

-- the words from word i on
abbrev pub scan : List Fields → (ℕ → Option ℕ) → ℕ → List ℕ → Reading → ℕ → Read
scan catalog refer page [] r i = Ok (record { words = []; starts = [] })
scan catalog refer page (word ∷ words) r i =
    go_on i (step_in catalog refer page r i (role_at r i) word) (λ now. scan catalog refer page words now (i + 1))

-- every word is 0
abbrev pub is_blank : List ℕ → Bool
is_blank words = is_zero words

-- a whole page: a page of zeros has no object, except page 2
abbrev pub pass : List Fields → (ℕ → Option ℕ) → ℕ → List ℕ → Read
pass catalog refer page words =
    cond (not (page == 2) && is_blank words) (Ok blank_sheet) (scan catalog refer page words (reading_to 0 0) 0)

-- words that stand in front of a sheet
abbrev pub joined : List ℕ → List Bool → Read → Read
joined words starts (Ok sheet) = Ok (record { words = words ++ sheet.words; starts = starts ++ sheet.starts })
joined words starts (Err i) = Err i
