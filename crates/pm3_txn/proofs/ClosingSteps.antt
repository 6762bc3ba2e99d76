-- What a table that was closed makes of a heap's store.
use Rattle.std.proofs.Common.{◌≡◌, ◌+◌, ◌-◌, ◌<◌, ◌++◌, ◌∙◌, ℕ, List, [], ◌∷◌, Option, Some, None, length, get_or, sym, ap, subst}
use mathlib.Core.Option.{some}
use lib.ListN.{get_elem?}
use Rattle.std.specs.FinMap.{get}
use Rattle.pm3_disk.specs.declared.outside.Disk.{Ghosts}
use Rattle.pm3_types.specs.Fields.{Fields}
use Rattle.pm3_types.specs.Layout.{PageImage}
use Rattle.pm3_page.specs.FormLaws.{ReadHasForm, WritesWhatWasRead, ReadsWhatWasWritten}
use Rattle.pm3_journal.specs.Journals.{Keeps}
use Rattle.pm3_journal.specs.Opened.{IsOpen, IsOpenStore}
use Rattle.pm3_journal.specs.declared.opened.Opened.{Opened}
use Rattle.pm3_core.specs.declared.naming.TheConstants.{BASE}
use Rattle.pm3_history.specs.Opens.{Origin}
use Rattle.pm3_table.specs.declared.view.Told.{Told}
use Rattle.pm3_table.specs.declared.view.View.{View}
use Rattle.pm3_table.specs.Closing.{IsClosed}
use Rattle.pm3_table.specs.Words.{turn_unit}
use Rattle.pm3_txn.specs.declared.values.Turn.{Turn as Turns}
use Rattle.pm3_txn.specs.declared.values.Value.{Value}
use Rattle.pm3_txn.specs.declared.values.Value.TheVariants.{Turn}
use Rattle.pm3_txn.specs.Closing.{AreDisksAfter, AreLastDisks, IsLastStore, IsLastTurn, IsStoreOf}
use Rattle.pm3_txn.specs.Draining.{EndsWithTurn, HasTurnLast}
use Rattle.pm3_txn.specs.Gathering.{image_at}
use Rattle.pm3_txn.specs.Heaps.{IsHeap}
use Rattle.pm3_txn.specs.Slots.{faults_in, stands_for, turn_state}
use Rattle.pm3_txn.specs.Values.{IsPageOf}
use Rattle.pm3_txn.proofs.Drained.{last_is}
use Rattle.pm3_txn.proofs.HomesStand.{elem_at, some_same}
use Rattle.pm3_txn.proofs.LastHomes as last
use Rattle.pm3_txn.proofs.ReadPages.{IsBare}
use Rattle.pm3_txn.proofs.Reopened.{known_held, reopened}

module _ {D R : Type 0} where
  -- the value that was taken out of the last home is the turn's
  pub ends_by : (homes rest : List (Option (Value D R))) (slot : Option (Value D R)) (turn : Turns D R) → homes ≡ rest ++ slot ∷ [] → HasTurnLast homes → slot ≡ Some (Turn turn)
      → EndsWithTurn homes turn
  ends_by homes rest slot turn is has here = subst (EndsWithTurn homes) (same (sym (last_is homes rest slot has.0 is has.1) ∙ here)) has.1
    where
      same : ◌≡◌ {A = Option (Value D R)} (Some (Turn has.0)) (Some (Turn turn)) → has.0 ≡ turn
      same e = cc e

  pub no_image : (slot : Option (Value D R)) (turn : Turns D R) → slot ≡ Some (Turn turn) → image_at slot ≡ None
  no_image slot turn is = ap image_at is

  -- the same of values that are taken where they are
  pub found_at : (homes : List (Option (Value D R))) (u : ℕ) (x : Option (Value D R)) → u < length homes → get_elem? homes u ≡ some x → get_or homes u None ≡ x
  found_at homes u x low at = some_same (get_or homes u None) x (sym (elem_at homes u None low) ∙ at)

  pub ends_at : (homes : List (Option (Value D R))) (turn : Turns D R) → HasTurnLast homes → get_or homes (length homes - 1) None ≡ Some (Turn turn) → EndsWithTurn homes turn
  ends_at homes turn has here = subst (EndsWithTurn homes) (same (sym has.1.last ∙ here)) has.1
    where
      same : ◌≡◌ {A = Option (Value D R)} (Some (Turn has.0)) (Some (Turn turn)) → has.0 ≡ turn
      same e = cc e

module _ {D R : Type 0} (g : Ghosts D R) (told : Told) (v : View) (slots : List (Option (Value D R)))
    (closed : IsClosed (stands_for g) (faults_in g) told v (length v.kept + 1) slots) where
  turn_is : (turn : Turns D R) → EndsWithTurn slots turn → Keeps g turn.journal → IsLastTurn g told v (turn_state turn)
  turn_is turn ends keeps = record {
    stands = last.turn_stands g told v slots closed turn ends;
    keeps = keeps;
    heard = last.turn_heard g told v slots closed turn ends;
    tells = (let is = last.turn_stands g told v slots closed turn ends in ap g.content is.file_is ∙ ap (λ (o : Origin). o.file) is.origin);
  }

  pub disks_are : (file disk : D) → AreLastDisks g slots file disk → AreDisksAfter g told v file disk
  disks_are file disk at = (last.seen_all g told v slots closed, (turn_state at.0, turn_is at.0 at.1 at.2, at.3, at.4))

  module _ (catalog : List Fields) (frontier : ℕ) (heap : IsHeap told catalog frontier) (pages : ℕ) (count : pages ≡ told.pages)
      (s : Opened D R) (store : IsStoreOf g slots pages catalog s) where
    there : (page : ℕ) (image : PageImage) → image_at (get_or slots page None) ≡ Some image → IsPageOf told v.seen page image
    there = last.image_stands g told v slots closed

    held : (page : ℕ) (image : PageImage) → get s.images.images page ≡ Some image → IsPageOf told v.seen page image
    held page image at = there page image (sym (store.images page) ∙ at)

    bare : (page : ℕ) → page < told.pages → get s.images.images page ≡ None → IsBare told v.seen page
    bare page low none = last.page_bare g told v slots closed page low (sym (store.images page) ∙ none)

    pub last_store : IsLastStore g told v s
    last_store = record {
      turn = turn_state store.turn;
      last = turn_is store.turn store.ends store.keeps;
      journal = ap (λ (x : Opened D R). x.journal) store.rest;
      marks = ap (λ (x : Opened D R). x.marks) store.rest
          ∙ (λ i. record { pages = count i; high_page = store.turn.high_page; next_name = store.turn.next_name; next_seq = store.turn.journal.next });
      catalog = ap (λ (x : Opened D R). x.catalog) store.rest ∙ sym heap.catalog_is;
      file = ap (λ (x : Opened D R). x.pages) store.rest;
      images = held;
      known = λ page sheet low known. known_held g told v.failed v.seen (turn_unit told.pages) (turn_state store.turn) (last.turn_stands g told v slots closed store.turn store.ends)
          s.images.images held bare page sheet low known;
    }

    pub open_store : ReadHasForm → WritesWhatWasRead → ReadsWhatWasWritten → IsOpenStore g s
    open_store has_form same_words same_image =
        subst (λ (x : Opened D R). IsOpenStore g x) (sym store.rest)
        (subst (λ (n : ℕ). IsOpen g BASE (g.content store.turn.file) store.turn.journal catalog s.images.images
        (record { pages = n; high_page = store.turn.high_page; next_name = store.turn.next_name; next_seq = store.turn.journal.next })) (sym count)
        (subst (λ (c : List Fields). IsOpen g BASE (g.content store.turn.file) store.turn.journal c s.images.images
        (record { pages = told.pages; high_page = store.turn.high_page; next_name = store.turn.next_name; next_seq = store.turn.journal.next })) heap.catalog_is
        (reopened g told v.failed v.seen (turn_unit told.pages) (turn_state store.turn) (last.turn_stands g told v slots closed store.turn store.ends)
        s.images.images held bare heap.most heap.small has_form same_words same_image store.due)))
