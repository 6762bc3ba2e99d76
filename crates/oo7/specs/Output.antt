-- What the program prints, and the status that it ends with.
use Rattle.std.specs.Prelude.{◌≡◌, ℕ, List, [], ◌∷◌, ◌++◌, take, Bool, true, false, if◌then◌else◌, Option, Some, None, Result, Ok, Err, codes}
use Rattle.std.specs.Fmt.{decimal}
use Rattle.pm3_disk.specs.Faults.{Rose}
use Rattle.pm3_disk.specs.Printing.{HasTaken}
use Rattle.pm3_disk.specs.declared.outside.Sink.{Ghosts}
use Rattle.oo7.specs.declared.refusal.Refusal.{Refusal}
use Rattle.oo7.specs.declared.refusal.Refusal.TheVariants.{Usage, PageFault, JournalFault, PageDamaged, JournalDamaged, Memory, Exists, Later}

-- the exit status of each refusal
abbrev pub refused_status : Refusal → ℕ
refused_status Usage = 2
refused_status PageFault = 3
refused_status JournalFault = 4
refused_status (PageDamaged offset) = 5
refused_status (JournalDamaged offset) = 5
refused_status Memory = 8
refused_status Exists = 9
refused_status Later = 14

-- a text, ended by a line feed
abbrev pub line : List ℕ → List ℕ
line text = text ++ 10 ∷ []

-- a line that ends in a number
abbrev pub numbered : List ℕ → ℕ → List ℕ
numbered text number = line (text ++ decimal number)

-- the line that tells a refusal
abbrev pub fault_line : Refusal → List ℕ
fault_line Usage = line (codes "fault 2 usage")
fault_line PageFault = line (codes "fault 3 pages")
fault_line JournalFault = line (codes "fault 4 journal")
fault_line (PageDamaged offset) = numbered (codes "fault 5 pages ") offset
fault_line (JournalDamaged offset) = numbered (codes "fault 5 journal ") offset
fault_line Memory = line (codes "fault 8 memory")
fault_line Exists = line (codes "fault 9 exists")
fault_line Later = line (codes "fault 14 later")

-- how a command ended: it was done, and may have a text to print, or it was refused
abbrev pub Outcome : Type 0
Outcome = Result (Option (List ℕ)) Refusal

-- what is printed
abbrev pub printed_of : Outcome → List ℕ
printed_of (Ok None) = []
printed_of (Ok (Some text)) = text
printed_of (Err refusal) = fault_line refusal

-- the status, where the sink has taken what is printed or has failed
abbrev pub status_of : Bool → Outcome → ℕ
status_of is_taken (Ok None) = 0
status_of is_taken (Ok (Some text)) = if is_taken then 0 else 7
status_of is_taken (Err refusal) = refused_status refusal

module _ {K : Type 0} (k : Ghosts K) where
  -- the sink has taken these bytes and has counted no fault, or it has failed and taken some first of them
  abbrev pub Delivers : Bool → List ℕ → K → K → Type 0
  Delivers true bytes old new = HasTaken k bytes old new × (k.faults new ≡ k.faults old)
  Delivers false bytes old new = Rose (k.faults old) (k.faults new) × ((count : ℕ) × HasTaken k (take count bytes) old new)
