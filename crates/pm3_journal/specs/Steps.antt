-- What calls do to the list of records of a journal's bytes. None of them changes the page count.
use Rattle.std.specs.Prelude.{◌≡◌, ◌⊎◌, ℕ, ◌≤◌, List, [], ◌∷◌, ◌++◌, length, take}
use Rattle.pm3_journal.specs.FileHead.{page_count_of}
use Rattle.pm3_journal.specs.Format.{JournalRecord}
use Rattle.pm3_journal.specs.Records.{records, Whole}

-- whatever list the old bytes have, the new ones have it and this record
pub record HasOneMore (r : JournalRecord) (old new : List ℕ) : Type 0 where
  pub page_count : page_count_of (take 32 new) ≡ page_count_of (take 32 old)
  pub list : (rs : List JournalRecord) → records old ≡ Whole rs → records new ≡ Whole (rs ++ r ∷ [])

-- or they have it as it was
pub record HasMaybeOneMore (r : JournalRecord) (old new : List ℕ) : Type 0 where
  pub page_count : page_count_of (take 32 new) ≡ page_count_of (take 32 old)
  pub list : (rs : List JournalRecord) → records old ≡ Whole rs → (records new ≡ Whole rs) ⊎ (records new ≡ Whole (rs ++ r ∷ []))

-- no record is left
pub record HasNone (old new : List ℕ) : Type 0 where
  pub page_count : page_count_of (take 32 new) ≡ page_count_of (take 32 old)
  pub list : records new ≡ Whole []

-- whatever list the old bytes have, the new ones have it or none
pub record HasAllOrNone (old new : List ℕ) : Type 0 where
  pub page_count : page_count_of (take 32 new) ≡ page_count_of (take 32 old)
  pub list : (rs : List JournalRecord) → records old ≡ Whole rs → (records new ≡ Whole rs) ⊎ (records new ≡ Whole [])

-- the bytes have this page count, some first ones of these records, and no others
pub record HasFirstOf (pages : ℕ) (rs : List JournalRecord) (bytes : List ℕ) : Type 0 where
  pub page_count : page_count_of (take 32 bytes) ≡ pages
  pub number : ℕ
  pub few : number ≤ length rs
  pub list : records bytes ≡ Whole (take number rs)
