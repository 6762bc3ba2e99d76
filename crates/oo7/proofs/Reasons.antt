-- What the reason of an outcome says of its status and of the files.
use Rattle.std.proofs.Common.{◌≡◌, ◌≢◌, ◌↔◌, ◌<◌, ⊎_elim, [], List, ℕ, Bool, true, false, length, Option, Some, None, Ok, Err, refl, arith, ap, subst}
use Rattle.std.specs.Prelude.{OnOk}
use Rattle.pm3_disk.specs.declared.outside.Disk.{Ghosts}
use Rattle.oo7.specs.Answer.{Call, CreateEnds, HasReason, Completes, Makes, Spares}
use Rattle.oo7.specs.Checkpoints.{CheckpointEnds}
use Rattle.oo7_schema.specs.Schema.{schema}
use Rattle.pm3_store.specs.Creation.{AreCreated, AreSynced, Files}
use Rattle.oo7.specs.Dumps.{DumpEnds, IsDamaged, refusal_at}
use Rattle.oo7.specs.Output.{Outcome, status_of}
use Rattle.oo7.specs.declared.refusal.Refusal.TheVariants.{Usage, PageFault, JournalFault, PageDamaged, JournalDamaged, Memory, Exists, Later}
use Rattle.oo7.specs.declared.words.Command.{Command}
use Rattle.oo7.specs.declared.words.Command.TheVariants.{Create, Checkpoint, Dump, NotYet}

module _ {D R : Type 0} (g : Ghosts D R) (old new : Files D) where
  -- the statuses that a command that is there doesn't have
  abbrev IsDone : Bool → Outcome → Type 0
  IsDone is_taken outcome = (status_of is_taken outcome ≢ 2) × (status_of is_taken outcome ≢ 14)

  worked : (is_taken : Bool) (outcome : Outcome) → outcome ≢ Err Usage → outcome ≢ Err Later → IsDone is_taken outcome
  worked is_taken (Ok None) usage later = (λ e. omega (arith, e), λ e. omega (arith, e))
  worked true (Ok (Some text)) usage later = (λ e. omega (arith, e), λ e. omega (arith, e))
  worked false (Ok (Some text)) usage later = (λ e. omega (arith, e), λ e. omega (arith, e))
  worked is_taken (Err PageFault) usage later = (λ e. omega (arith, e), λ e. omega (arith, e))
  worked is_taken (Err JournalFault) usage later = (λ e. omega (arith, e), λ e. omega (arith, e))
  worked is_taken (Err (PageDamaged offset)) usage later = (λ e. omega (arith, e), λ e. omega (arith, e))
  worked is_taken (Err (JournalDamaged offset)) usage later = (λ e. omega (arith, e), λ e. omega (arith, e))
  worked is_taken (Err Memory) usage later = (λ e. omega (arith, e), λ e. omega (arith, e))
  worked is_taken (Err Exists) usage later = (λ e. omega (arith, e), λ e. omega (arith, e))
  worked is_taken (Err Usage) usage later = absurd (usage refl)
  worked is_taken (Err Later) usage later = absurd (later refl)

  created : (is_taken : Bool) (count : ℕ) (outcome : Outcome) → CreateEnds g count old new outcome → IsDone is_taken outcome
  created is_taken count outcome ends =
      worked is_taken outcome (λ e. subst (λ (o : Outcome). CreateEnds g count old new o) e ends) (λ e. subst (λ (o : Outcome). CreateEnds g count old new o) e ends)

  carried : (is_taken : Bool) (outcome : Outcome) → CheckpointEnds g old new outcome → IsDone is_taken outcome
  carried is_taken outcome ends =
      worked is_taken outcome (λ e. subst (λ (o : Outcome). CheckpointEnds g old new o) e ends) (λ e. subst (λ (o : Outcome). CheckpointEnds g old new o) e ends)

  -- a damaged page is told as such
  not_usage : (at : Option ℕ) (page word : ℕ) → Usage ≡ refusal_at at page word → ⊥
  not_usage None page word e = cc e
  not_usage (Some offset) page word e = cc e

  not_later : (at : Option ℕ) (page word : ℕ) → Later ≡ refusal_at at page word → ⊥
  not_later None page word e = cc e
  not_later (Some offset) page word e = cc e

  dumped : (is_taken : Bool) (outcome : Outcome) → DumpEnds g old new outcome → IsDone is_taken outcome
  dumped is_taken outcome ends =
      worked is_taken outcome
      (λ e. ⊎_elim (λ (none : ⊥). none) (λ (is : IsDamaged g old new Usage). not_usage _ is.page is.word is.told) (subst (λ (o : Outcome). DumpEnds g old new o) e ends))
      (λ e. ⊎_elim (λ (none : ⊥). none) (λ (is : IsDamaged g old new Later). not_later _ is.page is.word is.told) (subst (λ (o : Outcome). DumpEnds g old new o) e ends))

  pub usage : (is_taken : Bool) (command : Option Command) (outcome : Outcome) → HasReason g command old new outcome → (status_of is_taken outcome ≡ 2) ↔ (command ≡ None)
  usage is_taken None outcome reason = (λ e. refl, λ e. ap (status_of is_taken) reason.0)
  usage is_taken (Some NotYet) outcome reason = (λ e. absurd (omega (arith, e, ap (status_of is_taken) reason.0)), λ e. absurd (cc e))
  usage is_taken (Some (Create count)) outcome reason = (λ e. absurd ((created is_taken count outcome reason).0 e), λ e. absurd (cc e))
  usage is_taken (Some Checkpoint) outcome reason = (λ e. absurd ((carried is_taken outcome reason).0 e), λ e. absurd (cc e))
  usage is_taken (Some Dump) outcome reason = (λ e. absurd ((dumped is_taken outcome reason).0 e), λ e. absurd (cc e))

  pub later : (is_taken : Bool) (command : Option Command) (outcome : Outcome) → HasReason g command old new outcome → (status_of is_taken outcome ≡ 14) ↔ (command ≡ Some NotYet)
  later is_taken None outcome reason = (λ e. absurd (omega (arith, e, ap (status_of is_taken) reason.0)), λ e. absurd (cc e))
  later is_taken (Some NotYet) outcome reason = (λ e. refl, λ e. ap (status_of is_taken) reason.0)
  later is_taken (Some (Create count)) outcome reason = (λ e. absurd ((created is_taken count outcome reason).1 e), λ e. absurd (cc e))
  later is_taken (Some Checkpoint) outcome reason = (λ e. absurd ((carried is_taken outcome reason).1 e), λ e. absurd (cc e))
  later is_taken (Some Dump) outcome reason = (λ e. absurd ((dumped is_taken outcome reason).1 e), λ e. absurd (cc e))

  -- what holds of a store that was to be made
  asked_for : (command : Option Command) (outcome : Outcome) (count : ℕ) → HasReason g command old new outcome → command ≡ Some (Create count) → CreateEnds g count old new outcome
  asked_for command outcome count reason asked = subst (λ (c : Option Command). HasReason g c old new outcome) asked reason

  abbrev called : Bool → Option Command → Outcome → Call D
  called is_taken command outcome = record { command = command; before = old; after = new; status = status_of is_taken outcome }

  made : (is_taken : Bool) (count : ℕ) (outcome : Outcome) → CreateEnds g count old new outcome → Completes g (called is_taken (Some (Create count)) outcome)
  made is_taken count (Ok None) ends n asked empty pages_fine journal_fine = refl
  made is_taken count (Ok (Some text)) ends n asked empty pages_fine journal_fine = absurd (cc ends.0)
  made is_taken count (Err Exists) ends n asked empty pages_fine journal_fine =
      let long : 0 < 0 = ends.0 [] empty in
      absurd (omega (arith, long))
  made is_taken count (Err PageFault) ends n asked empty pages_fine journal_fine = absurd (pages_fine ends.0)
  made is_taken count (Err JournalFault) ends n asked empty pages_fine journal_fine = absurd (journal_fine ends.1)
  made is_taken count (Err Usage) ends n asked empty pages_fine journal_fine = absurd ends
  made is_taken count (Err (PageDamaged offset)) ends n asked empty pages_fine journal_fine = absurd ends
  made is_taken count (Err (JournalDamaged offset)) ends n asked empty pages_fine journal_fine = absurd ends
  made is_taken count (Err Memory) ends n asked empty pages_fine journal_fine = absurd ends
  made is_taken count (Err Later) ends n asked empty pages_fine journal_fine = absurd ends

  pub completes : (is_taken : Bool) (command : Option Command) (outcome : Outcome) → HasReason g command old new outcome → Completes g (called is_taken command outcome)
  completes is_taken command outcome reason count asked empty = made is_taken count outcome (asked_for command outcome count reason asked) count refl empty

  -- a page file with bytes is left as it was
  abbrev Spared : Type 0
  Spared = (g.content new.pages ≡ g.content old.pages) × (new.journal ≡ old.journal)

  spared : (count : ℕ) (outcome : Outcome) (bytes : List ℕ) → CreateEnds g count old new outcome → g.content old.pages ≡ Some bytes → 0 < length bytes → Spared
  spared count (Ok _) bytes ends told long =
      let empty : length bytes ≡ 0 = ends.1 bytes told in
      absurd (omega (arith, empty, long))
  spared count (Err Exists) bytes ends told long = (ends.1, ends.3)
  spared count (Err PageFault) bytes ends told long =
      ⊎_elim (λ kept. kept) (λ made. absurd (empty made.0)) ends.2
    where
      empty : ((b : List ℕ) → g.content old.pages ≡ Some b → length b ≡ 0) → ⊥
      empty was = let none : length bytes ≡ 0 = was bytes told in omega (arith, none, long)
  spared count (Err JournalFault) bytes ends told long =
      let empty : length bytes ≡ 0 = ends.0 bytes told in
      absurd (omega (arith, empty, long))
  spared count (Err Usage) bytes ends told long = absurd ends
  spared count (Err (PageDamaged offset)) bytes ends told long = absurd ends
  spared count (Err (JournalDamaged offset)) bytes ends told long = absurd ends
  spared count (Err Memory) bytes ends told long = absurd ends
  spared count (Err Later) bytes ends told long = absurd ends

  pub spares : (is_taken : Bool) (command : Option Command) (outcome : Outcome) → HasReason g command old new outcome → Spares g (called is_taken command outcome)
  spares is_taken command outcome reason count bytes asked told long = spared count outcome bytes (asked_for command outcome count reason asked) told long

  files_made : (is_taken : Bool) (count : ℕ) (outcome : Outcome) → CreateEnds g count old new outcome → OnOk outcome (AreSynced g new) → status_of is_taken outcome ≡ 0 → AreCreated g count schema old new × AreSynced g new
  files_made is_taken count (Ok _) ends synced status = (ends.2, synced)
  files_made is_taken count (Err Exists) ends synced status = absurd (omega (arith, status))
  files_made is_taken count (Err PageFault) ends synced status = absurd (omega (arith, status))
  files_made is_taken count (Err JournalFault) ends synced status = absurd (omega (arith, status))
  files_made is_taken count (Err Usage) ends synced status = absurd ends
  files_made is_taken count (Err (PageDamaged offset)) ends synced status = absurd ends
  files_made is_taken count (Err (JournalDamaged offset)) ends synced status = absurd ends
  files_made is_taken count (Err Memory) ends synced status = absurd ends
  files_made is_taken count (Err Later) ends synced status = absurd ends

  pub makes : (is_taken : Bool) (command : Option Command) (outcome : Outcome) → HasReason g command old new outcome → OnOk outcome (AreSynced g new) → Makes g (called is_taken command outcome)
  makes is_taken command outcome reason synced count asked status = files_made is_taken count outcome (asked_for command outcome count reason asked) synced status
