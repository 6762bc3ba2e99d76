-- What a history begins from: what was told of an opened store, and the states that it may stand for.
use Rattle.std.specs.Prelude.{ℕ, ◌≡◌, ◌≤◌, Bool, true, false, cond, List, take, Option, Some, None, is_some, refl}
use Rattle.std.specs.FinMap.{get}
use Rattle.std.specs.Coded.{Coded, code_by, coded×, coded_ℕ, coded_bool, coded_list, coded_option}
use Rattle.pm3_types.specs.Fields.{Fields}
use Rattle.pm3_types.specs.declared.type_map.Tail.{Tail}
use Rattle.pm3_types.specs.declared.type_map.Tail.TheVariants.{Empty, Refs, Bytes}
use Rattle.pm3_types.specs.Graph.{Part}
use Rattle.pm3_types.specs.Layout.{Sheet}
use Rattle.pm3_types.specs.Shown.{Images}
use Rattle.pm3_journal.specs.Summaries.{Summary}
use Rattle.pm3_journal.specs.Codes.{summary_code}
use Rattle.pm3_journal.specs.FileHead.{page_count_of}
use Rattle.pm3_journal.specs.Opening.{OpenTo, last_image}
use Rattle.pm3_history.specs.Entry.{Done, images_code}
use Rattle.pm3_history.specs.State.{State, opening_state}
use Rattle.pm3_history.specs.Lawful.{AreLawful}

-- The catalog, the images that were opened, the summaries of the journal's records, the sequence number that is due first, the
-- bytes that the two devices tell, or none, and of the journal's device how many faults it had counted, and the number at which
-- the journal was stopped, or none.
pub record Origin : Type 0 where
  pub catalog : List Fields
  pub images : Images
  pub summaries : List Summary
  pub due : ℕ
  pub file : Option (List ℕ)
  pub journal : Option (List ℕ)
  pub faults : ℕ
  pub stopped : Option ℕ

-- The two files are told and open to the state, and each page of the records from 2 on is among the opened images. An origin that opens to no state is loose: nothing is said over it of a
-- graph, a book or what images show.
pub record Opens (base pages : ℕ) (o : Origin) (st : State) : Type 0 where
  pub page_file : List ℕ
  pub journal_file : List ℕ
  pub file_told : o.file ≡ Some page_file
  pub journal_told : o.journal ≡ Some journal_file
  pub graph : Part
  pub opens : OpenTo base page_file journal_file graph
  pub state : st ≡ opening_state opens.catalog base opens.images opens.book opens.next_name opens.high_page
  pub catalog_is : opens.catalog ≡ o.catalog
  pub count : page_count_of (take 32 journal_file) ≡ pages
  pub among : (page : ℕ) (sheet : Sheet) → get o.images page ≡ Some sheet → get st.pages page ≡ Some sheet
  pub recorded : (page : ℕ) → 2 ≤ page → is_some (last_image page opens.list None) ≡ true → is_some (get o.images page) ≡ true

-- the history is lawful from each state that the origin opens to
unfoldable pub LawfulFrom : ℕ → ℕ → Origin → List Done → Type 0
LawfulFrom base pages o h = (st : State) → Opens base pages o st → AreLawful o.catalog base pages st h

-- codes, by which clauses tell origins apart
abbrev pub bits_of : Tail → Bool × Bool
bits_of Empty = (false, false)
bits_of Refs = (true, false)
bits_of Bytes = (false, true)

abbrev pub tail_of_bits : Bool × Bool → Tail
tail_of_bits bits = cond bits.0 Refs (cond bits.1 Bytes Empty)

abbrev pub tail_again : (t : Tail) → tail_of_bits (bits_of t) ≡ t
tail_again Empty = refl
tail_again Refs = refl
tail_again Bytes = refl

abbrev pub tail_code : Coded Tail
tail_code = code_by (Bool × Bool) (coded× coded_bool coded_bool) bits_of tail_of_bits tail_again

abbrev pub fields_code : Coded Fields
fields_code =
    code_by (ℕ × (ℕ × Tail)) (coded× coded_ℕ (coded× coded_ℕ tail_code)) (λ f. (f.count, (f.refs, f.tail)))
    (λ p. record { count = p.0; refs = p.1.0; tail = p.1.1 }) (λ _. refl)

abbrev pub origin_code : Coded Origin
origin_code =
    code_by (List Fields × (Images × (List Summary × (ℕ × (Option (List ℕ) × (Option (List ℕ) × (ℕ × Option ℕ)))))))
    (coded× (coded_list fields_code) (coded× images_code (coded× (coded_list summary_code) (coded× coded_ℕ (coded× (coded_option (coded_list coded_ℕ)) (coded× (coded_option (coded_list coded_ℕ)) (coded× coded_ℕ (coded_option coded_ℕ))))))))
    (λ o. (o.catalog, (o.images, (o.summaries, (o.due, (o.file, (o.journal, (o.faults, o.stopped))))))))
    (λ p. record { catalog = p.0; images = p.1.0; summaries = p.1.1.0; due = p.1.1.1.0; file = p.1.1.1.1.0; journal = p.1.1.1.1.1.0; faults = p.1.1.1.1.1.1.0; stopped = p.1.1.1.1.1.1.1 })
    (λ _. refl)
