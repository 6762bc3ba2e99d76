-- Where the object lies to which a place of the row leads.
use Rattle.std.proofs.Common.{◌≡◌, ◌≢◌, ◌==◌, ◌<◌, ◌≤◌, ◌∙◌, inl, inr, ℕ, Bool, true, false, cond, List, [], ◌∷◌, take, Option, refl, sym, ap, subst, arith, slice_index_or}
use Rattle.std.specs.Prelude.{◌&&◌, ◌||◌, nat_lt, nat_le}
use Rattle.std.specs.Int.{w32, w64, from_le_bytes}
use Rattle.std.proofs.lemmas.Bool.{and_parts, eqb-true, leb-true, ltb-true}
use Rattle.pm3_core.specs.declared.naming.TheConstants.{BASE}
use Rattle.pm3_types.specs.Bytes.{Number, Zeros, is_between}
use Rattle.pm3_types.specs.Layout.{address, is_address, page_in, word_in}
use Rattle.pm3_types.specs.PageForm.{is_memory_reference}
use Rattle.pm3_types.specs.Shown.{name_by}
use Rattle.pm3_access.specs.Holding.{Holding}
use Rattle.pm3_journal.specs.FileHead.{head_departure, kind, page_count_of}
use Rattle.pm3_journal.specs.Format.{JournalRecord}
use Rattle.pm3_journal.specs.Records.{Whole, records}
use Rattle.pm3_journal.proofs.Departing.{fields_fine}
use Rattle.pm3_journal.proofs.Emptying.{whole_head}
use Rattle.pm3_history.specs.Opens.{Opens, Origin}
use Rattle.pm3_history.specs.State.{State}
use Rattle.pm3_table.specs.declared.view.Told.{Told}
use Rattle.pm3_table.specs.declared.view.View.{View}
use Rattle.pm3_table.specs.Entries.{writes}
use Rattle.pm3_table.specs.Histories.{some_has}
use Rattle.pm3_txn.specs.Describing.{IsDescribed, IsNameHere}
use Rattle.pm3_txn.specs.Knowing.{is_in_use}
use Rattle.pm3_txn.specs.ObjectValues.{name_held}
use Rattle.pm3_txn.specs.Owners.{KnowsWordHere, name_here, own_use}
use Rattle.pm3_txn.specs.Refusals.{with_read, word_at}
use Rattle.pm3_txn.specs.States.{TxnState, told_in, view_in}
use Rattle.pm3_txn.specs.Underway.{IsUnderway}
use Rattle.pm3_txn.specs.Works.{is_own_start}
use Rattle.oo7_schema.proofs.Testing.{or_cases}
use Rattle.oo7_objects.specs.Wholes.{IsReference, Kept, Knows, name_at, name_on}
use Rattle.oo7_objects.proofs.Rows.{book_at, place_known, reference_named}
use Rattle.oo7_objects.proofs.Writing.{touched_at}

-- a store has no more pages
few_pages : (bytes : List ℕ) (list : List JournalRecord) → records bytes ≡ Whole list → page_count_of (take 32 bytes) ≤ 16384
unfolding head_departure is_between
few_pages bytes list is =
    let one = fields_fine (Number 0 w64 (from_le_bytes w64 kind) (from_le_bytes w64 kind)) (Number 8 w32 1 1 ∷ Number 12 w32 16 16384 ∷ Zeros 16 16 ∷ []) (take 32 bytes) (whole_head bytes list is) in
    let two = fields_fine (Number 8 w32 1 1) (Number 12 w32 16 16384 ∷ Zeros 16 16 ∷ []) (take 32 bytes) one.1 in
    let three = fields_fine (Number 12 w32 16 16384) (Zeros 16 16 ∷ []) (take 32 bytes) two.1 in
    let parts = and_parts _ _ three.0 in
    let bounds = and_parts _ _ parts.1 in
    leb-true _ _ bounds.1

opened_pages : (pages : ℕ) (o : Origin) (st : State) → Opens BASE pages o st → pages ≤ 16384
opened_pages pages o st opens = subst (λ (n : ℕ). n ≤ 16384) opens.count (few_pages opens.journal_file opens.opens.list opens.opens.records_are)

-- a word that may be a reference and is not nil is the address of a word of the store
memory_of : (told : Told) (v : View) (h : Holding) (a : ℕ) → own_use told v h a ≡ true → is_memory_reference BASE told.pages a ≡ true
memory_of told v h a is = elim (or_cases (is_in_use told v.seen a) (is_memory_reference BASE told.pages a && is_own_start h a) is) [
  | inl used ↦ (and_parts (is_memory_reference BASE told.pages a) ((a == 0) || (nat_lt (page_in BASE a) told.frontier || some_has writes v.seen (page_in BASE a))) used).0
  | inr own ↦ (and_parts (is_memory_reference BASE told.pages a) (is_own_start h a) own).0
]

address_parts : (pages a : ℕ) → a ≢ 0 → is_memory_reference BASE pages a ≡ true → (is_address BASE a ≡ true) × (page_in BASE a < pages)
unfolding is_memory_reference
address_parts pages a some is = elim (or_cases (a == 0) (is_address BASE a && ((nat_le 3 (page_in BASE a) && nat_lt (page_in BASE a) pages) && nat_le 2 (word_in BASE a))) is) [
  | inl nil ↦ absurd (some (eqb-true a 0 nil))
  | inr rest ↦ (let parts = and_parts (is_address BASE a) ((nat_le 3 (page_in BASE a) && nat_lt (page_in BASE a) pages) && nat_le 2 (word_in BASE a)) rest in
      let more = and_parts (nat_le 3 (page_in BASE a) && nat_lt (page_in BASE a) pages) (nat_le 2 (word_in BASE a)) parts.1 in
      let range = and_parts (nat_le 3 (page_in BASE a)) (nat_lt (page_in BASE a) pages) more.0 in (parts.0, ltb-true (page_in BASE a) pages range.1))
]

-- a page and a word are those of an address, where it is one of a store
abbrev pub IsSpotOf : ℕ → ℕ → ℕ → Type 0
IsSpotOf a page word = is_address BASE a ≡ true → page_in BASE a < 16384 → address BASE page word ≡ a

module _ {R : Type 0} (content : R → Option (List ℕ)) (old : TxnState R) (underway : IsUnderway content old) where
  pub spot_named : (new : TxnState R) (i page word : ℕ) → new ≡ with_read old i → IsSpotOf (word_at old i) page word → Kept old new → Knows old (λ st w. name_at old st i ≢ 0)
      → Knows new (λ st w. name_on new st page word ≡ name_at old st i)
  spot_named new i page word read spot kept known = record {
    of = λ st g w whole. (let was = kept.was st g w whole in place st was.opens (known.of st g w was) (slice_index_or old.mutator.refs i false) refl);
  }
    where
      on : (st : State) → Opens BASE (told_in old).pages (told_in old).opening st → name_at old st i ≢ 0 → IsReference old i → KnowsWordHere (told_in old) (view_in old) old.held (word_at old i)
          → name_on new st page word ≡ name_at old st i
      on st opens some tagged (inl nil) = absurd (some (reference_named content old st i tagged ∙ ap (name_by (book_at old st)) nil))
      on st opens some tagged (inr known) =
          let is_some : word_at old i ≢ 0 = (λ nil. some (reference_named content old st i tagged ∙ ap (name_by (book_at old st)) nil)) in
          let parts = address_parts (told_in old).pages (word_at old i) is_some (memory_of (told_in old) (view_in old) old.held (word_at old i) known.usable) in
          let few = opened_pages (told_in old).pages (told_in old).opening st opens in
          let low : page_in BASE (word_at old i) < 16384 = (let below = parts.1 in omega (arith, below, few)) in
          ap (λ (t : TxnState R). name_by (book_at t st) (address BASE page word)) read ∙ ap (name_by (book_at old st)) (spot parts.0 low) ∙ sym (reference_named content old st i tagged)

      place : (st : State) → Opens BASE (told_in old).pages (told_in old).opening st → name_at old st i ≢ 0 → (b : Bool) → slice_index_or old.mutator.refs i false ≡ b
          → name_on new st page word ≡ name_at old st i
      place st opens some false is = absurd (some (ap (λ (b : Bool). cond b (name_by (book_at old st) (word_at old i)) 0) is))
      place st opens some true is = on st opens some is (place_known content old underway i is)

  -- the name that an object has on its page is that of the graph
  pub name_told : (new : TxnState R) → new.heap ≡ old.heap → (i name : ℕ) → IsDescribed old new i name_held name → IsNameHere (told_in new) (view_in new) new.held (word_at old i) name
      → Kept old new → Knows new (λ st w. name_at old st i ≡ name)
  name_told new same i name described named kept = record {
    of = λ st g w whole. (let was = kept.was st g w whole in
        sym ((touched_at content old underway new same i described.address described.object).named st was.opens)
        ∙ ap (name_here (told_in new) (view_in new) new.held st) described.object.word ∙ named st whole.opens);
  }
