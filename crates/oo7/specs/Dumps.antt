-- How a dump ends.
use Rattle.std.specs.Prelude.{◌≡◌, ◌⊎◌, ℕ, ◌+◌, ◌*◌, min, List, Option, Some, None, Ok, Err, slice_index_or}
use Rattle.pm3_disk.specs.declared.outside.Disk.{Ghosts}
use Rattle.pm3_types.specs.Dump.{dump}
use Rattle.pm3_types.specs.Graph.{Part}
use Rattle.pm3_journal.specs.Opened.{IsOpenStore}
use Rattle.pm3_journal.specs.declared.opened.Opened.{Opened}
use Rattle.oo7_schema.specs.Schema.{schema}
use Rattle.oo7_dump.specs.Lost.{HasLost}
use Rattle.pm3_store.specs.Creation.{Files, NoneHasFailed}
use Rattle.pm3_store.specs.Standing.{AreOpenTo, AreRead, files_of}
use Rattle.oo7.specs.Opening.{IsRefused}
use Rattle.oo7.specs.Output.{Outcome}
use Rattle.oo7.specs.declared.refusal.Refusal.{Refusal}
use Rattle.oo7.specs.declared.refusal.Refusal.TheVariants.{PageDamaged, JournalDamaged}

-- the refusal of a page that is damaged at a word, whose last image in the journal stands at this offset, if it has one there
abbrev pub refusal_at : Option ℕ → ℕ → ℕ → Refusal
refusal_at None page word = PageDamaged (4096 * page + 8 * min word 511)
refusal_at (Some offset) page word = JournalDamaged (offset + 8 * min word 511)

module _ {D R : Type 0} (g : Ghosts D R) where
  -- Of the open store an object is referred to whose page departs from the form at a word, or that doesn't begin there. So the
  -- files open to no graph.
  pub record IsDamaged (old new : Files D) (refusal : Refusal) : Type 0 where
    pub store : Opened D R
    pub page : ℕ
    pub word : ℕ
    pub open_ : IsOpenStore g store
    pub files : files_of store ≡ new
    pub lost : HasLost store.catalog store.marks.pages (g.content old.pages) store.images.images page word
    pub told : refusal ≡ refusal_at (slice_index_or store.journal.offsets page None) page word
    pub read : AreRead g old new
    pub honest : NoneHasFailed g old new
    pub none : (graph : Part) → AreOpenTo g old graph → ⊥

  -- the text is that of the graph to which the files open, and these were only read
  pub record IsDumped (old new : Files D) (text : List ℕ) : Type 0 where
    pub read : AreRead g old new
    pub honest : NoneHasFailed g old new
    pub text_is : (graph : Part) → AreOpenTo g old graph → text ≡ dump schema graph

  -- done, refused with its cause, or refused at the page that is damaged
  abbrev pub DumpEnds : Files D → Files D → Outcome → Type 0
  DumpEnds old new (Ok output) = (text : List ℕ) × (output ≡ Some text) × IsDumped old new text
  DumpEnds old new (Err refusal) = IsRefused g old new refusal ⊎ IsDamaged old new refusal
