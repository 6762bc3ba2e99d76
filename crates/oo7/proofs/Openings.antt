-- Why an opening is refused, and what stands of the files while a store is open.
use Rattle.std.proofs.Common.{◌≡◌, inl, inr, ⊎_elim, ℕ, List, Option, Some, Ok, Err, subst, sym, ◌∙◌}
use Rattle.pm3_core.specs.declared.naming.TheConstants.{BASE}
use Rattle.pm3_disk.specs.Content.{IfTold}
use Rattle.pm3_disk.specs.Faults.{Rose}
use Rattle.pm3_disk.specs.declared.outside.Disk.{Ghosts}
use Rattle.pm3_disk.proofs.OnlyReading.{reads_on}
use Rattle.pm3_types.specs.Graph.{Part}
use Rattle.pm3_journal.specs.Opening.{OpenTo}
use Rattle.pm3_store.specs.Creation.{AreOnward, AreSynced, Files, NoneHasFailed}
use Rattle.pm3_store.specs.Damage.{IsCauseIn}
use Rattle.pm3_store.specs.Recovering.{IsCauseOf}
use Rattle.pm3_store.specs.Standing.{AreOpenTo, AreRead, Stands}
use Rattle.pm3_store.specs.declared.causes.OpenCause.{OpenCause}
use Rattle.pm3_store.specs.declared.causes.OpenCause.TheVariants as causes
use Rattle.oo7_dump.specs.Lost.{HasLost}
use Rattle.oo7.specs.Checkpoints.{CheckpointEnds}
use Rattle.oo7.specs.Dumps.{DumpEnds, IsDamaged}
use Rattle.oo7.specs.Opening.{IsDamagedBy, IsRefused, refusal_by}
use Rattle.oo7.specs.Output.{Outcome}
use Rattle.oo7.specs.declared.refusal.Refusal.{Refusal}
use Rattle.oo7.specs.declared.refusal.Refusal.TheVariants.{Usage, PageFault, JournalFault, PageDamaged, JournalDamaged, Memory, Exists, Later}

module _ {D R : Type 0} (g : Ghosts D R) (old new : Files D) where
  -- the cause of an opening that was refused is that of the refusal
  pub refused : (cause : OpenCause) → AreRead g old new → IfTold (g.content old.pages) (λ file. IfTold (g.content old.journal) (λ bytes. IsCauseIn BASE file bytes cause))
      → IsCauseOf g old.pages new.pages old.journal new.journal cause → IsRefused g old new (refusal_by cause)
  refused causes.JournalFault read told fault = fault
  refused (causes.JournalDamaged offset) read told fault = (read, fault, told)
  refused causes.PageFault read told fault = fault
  refused (causes.PageDamaged offset) read told fault = (read, fault, λ file is bytes is_journal. inl (told file is bytes is_journal))
  refused causes.Memory read told fault = (read, fault)

  pub onward : AreRead g old new → AreOnward g old new
  onward read = record { pages = read.0.later; journal = read.1.later }

  -- what was only read opens to the same graph
  pub still_open : AreRead g old new → (graph : Part) → AreOpenTo g old graph → AreOpenTo g new graph
  still_open read graph opens = record {
    file = opens.file;
    journal = opens.journal;
    file_told = read.0.same ∙ opens.file_told;
    journal_told = read.1.same ∙ opens.journal_told;
    opens = opens.opens;
  }

module _ {D R : Type 0} (g : Ghosts D R) (files : Files D) (graph : Part) where
  -- files that are synced and open to a graph stand
  pub stands : AreSynced g files → AreOpenTo g files graph → Stands g files graph
  stands synced opens file journal left left_journal =
      let file_is : Some opens.file ≡ Some file = sym opens.file_told ∙ synced.pages.only file left in
      let journal_is : Some opens.journal ≡ Some journal = sym opens.journal_told ∙ synced.journal.only journal left_journal in
      let same : opens.file ≡ file = cc file_is in
      let same_journal : opens.journal ≡ journal = cc journal_is in
      subst (λ (f : List ℕ). OpenTo BASE f journal graph) same (subst (λ (j : List ℕ). OpenTo BASE opens.file j graph) same_journal opens.opens)

-- and so do files that were read and synced
pub stands_since : {D R : Type 0} (g : Ghosts D R) (old opened : Files D) → AreRead g old opened → AreSynced g opened → (graph : Part) → AreOpenTo g old graph → Stands g opened graph
stands_since g old opened read synced graph opens = stands g opened graph synced (still_open g old opened read graph opens)

-- what is said of a command since the files were opened holds since before it, where they were only read until then
module _ {D R : Type 0} (g : Ghosts D R) (old opened new : Files D) (read : AreRead g old opened) (honest : NoneHasFailed g old opened) where
  unfailed : NoneHasFailed g opened new → NoneHasFailed g old new
  unfailed none = (none.0 ∙ honest.0, none.1 ∙ honest.1)

  both_read : AreRead g opened new → AreRead g old new
  both_read more = (reads_on read.0 more.0, reads_on read.1 more.1)

  damaged : (damage : List ℕ → List ℕ → Type 0) → IsDamagedBy g opened new damage → IsDamagedBy g old new damage
  damaged damage is = (both_read is.0, unfailed is.1, λ file told journal told_journal. is.2 file (read.0.same ∙ told) journal (read.1.same ∙ told_journal))

  rose : (before now from : ℕ) → from ≡ before → Rose from now → Rose before now
  rose before now from same is = subst (λ (n : ℕ). Rose n now) same is

  refused_since : (refusal : Refusal) → IsRefused g opened new refusal → IsRefused g old new refusal
  refused_since PageFault is = (rose _ _ _ honest.0 is.0, is.1 ∙ honest.1)
  refused_since JournalFault is = (is.0 ∙ honest.0, rose _ _ _ honest.1 is.1)
  refused_since (PageDamaged offset) is = damaged _ is
  refused_since (JournalDamaged offset) is = damaged _ is
  refused_since Memory is = (both_read is.0, unfailed is.1)
  refused_since Usage is = is
  refused_since Exists is = is
  refused_since Later is = is

  pub ends_since : (outcome : Outcome) → CheckpointEnds g opened new outcome → CheckpointEnds g old new outcome
  ends_since (Ok output) ends = (
    ends.0,
    record {
      honest = unfailed ends.1.honest;
      graph = λ graph opens. ends.1.graph graph (still_open g old opened read graph opens);
      emptied = ends.1.emptied;
      synced = ends.1.synced;
    },
  )
  ends_since (Err refusal) ends = refused_since refusal ends

  damaged_since : (refusal : Refusal) → IsDamaged g opened new refusal → IsDamaged g old new refusal
  damaged_since refusal is = record {
    store = is.store;
    page = is.page;
    word = is.word;
    open_ = is.open_;
    files = is.files;
    lost = subst (λ (content : Option (List ℕ)). HasLost is.store.catalog is.store.marks.pages content is.store.images.images is.page is.word) read.0.same is.lost;
    told = is.told;
    read = both_read is.read;
    honest = unfailed is.honest;
    none = λ graph opens. is.none graph (still_open g old opened read graph opens);
  }

  pub dumped_since : (outcome : Outcome) → DumpEnds g opened new outcome → DumpEnds g old new outcome
  dumped_since (Ok output) ends = (
    ends.0,
    ends.1,
    record {
      read = both_read ends.2.read;
      honest = unfailed ends.2.honest;
      text_is = λ graph opens. ends.2.text_is graph (still_open g old opened read graph opens);
    },
  )
  dumped_since (Err refusal) ends = ⊎_elim (λ is. inl (refused_since refusal is)) (λ is. inr (damaged_since refusal is)) ends
