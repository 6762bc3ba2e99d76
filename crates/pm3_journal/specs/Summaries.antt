-- Summaries of a journal's records: all of a record but its images.
use Rattle.std.specs.Prelude.{◌≡◌, ℕ, ◌^◌, ◌≤◌, Bool, false, ◌==◌, slice_index_or, List, map}
use Rattle.std.specs.List.{list_any}
use Rattle.pm3_journal.specs.Format.{JournalRecord, PagePart, Image, page_in}

pub record Summary : Type 0 where
  pub seq : ℕ
  pub next_name : ℕ
  pub tag : ℕ
  pub high_page : ℕ
  pub pins : ℕ
  pub moved : ℕ
  pub pages : List ℕ  -- the numbers of its pages

-- the summaries in order, for how many there is space, and how many pages the store has
pub record SummaryList : Type 0 where
  pub summaries : List Summary
  pub slots : ℕ
  pub pages : ℕ

abbrev pub summary_of : JournalRecord → Summary
summary_of r = record {
  seq = r.seq;
  next_name = r.next_name;
  tag = r.tag;
  high_page = r.high_page;
  pins = r.pins;
  moved = r.moved;
  pages = map page_in r.parts;
}

abbrev pub part_of : ℕ × List ℕ → PagePart
part_of item = Image item.0 item.1

-- a record has the page
abbrev pub has_page : List Summary → ℕ → Bool
has_page summaries page = list_any (λ s. list_any (λ p. p == page) s.pages) summaries

-- the table says of each page whether a record has it
abbrev pub IsTableOf : List Summary → List Bool → Type 0
IsTableOf summaries seen = (page : ℕ) → slice_index_or seen page false ≡ has_page summaries page

-- the next name and the high page are within their bounds, in a store of so many pages
pub record IsBounded (pages : ℕ) (s : Summary) : Type 0 where
  pub named : 1 ≤ s.next_name
  pub names : s.next_name ≤ 2 ^ 62
  pub low : 3 ≤ s.high_page
  pub high : s.high_page ≤ pages
