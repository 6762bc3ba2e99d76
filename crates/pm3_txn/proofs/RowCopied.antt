-- The row of one mutator is copied to another's.
use Rattle.std.proofs.Common.{◌≡◌, ◌≢◌, ◌∙◌, inl, inr, ℕ, ◌+◌, ◌<◌, Bool, true, false, List, ◌∷◌, Option, length, replicate, get_or, get_or-set_same, get_or-set_other, slice_index_or, refl, sym, ap, subst, arith}
use Rattle.std.proofs.Math.ListN.{set}
use Rattle.std.proofs.lemmas.Bool.{cases_lt, false≢true}
use Rattle.std.proofs.lemmas.List.{get_or_past, length-replicate}
use mathlib.Core.Logic.{dite}
use native.Mathlib.Decide.{ℕ_discrete}
use Rattle.atomic_table.specs.Seated.{TableId}
use Rattle.pm3_core.specs.declared.events.TheConstants.{ROW_PLACES}
use Rattle.pm3_core.specs.Machine.{put}
use Rattle.pm3_core.specs.Naming.{Names}
use Rattle.pm3_table.specs.declared.unit.Busy.{Busy}
use Rattle.pm3_table.specs.declared.view.Refusal.{Refusal}
use Rattle.pm3_table.specs.declared.view.View.{View}
use Rattle.pm3_table.specs.Deeds.{word_of}
use Rattle.pm3_table.specs.declared.view.Told.{Told}
use Rattle.pm3_table.specs.Seats.{new_view}
use Rattle.pm3_table.proofs.Put.{put_at, put_else}
use Rattle.pm3_txn.specs.Crews.{IsFresh}
use Rattle.pm3_txn.specs.Forks.{HasCopied, HasReadRow, HasRowOf, IsCopyRefused, IsFork}
use Rattle.pm3_txn.specs.Knowing.{KnowsWord}
use Rattle.pm3_txn.specs.Puts.{HasPut, IsMarked, IsPinned, read_own}
use Rattle.pm3_txn.specs.States.{MutatorState}
use Rattle.pm3_txn.specs.Takes.{with_view}
use Rattle.pm3_txn.specs.Underway.{Belongs, IsMutatorOf}
use Rattle.pm3_txn.proofs.Recalling.{same_word}

pub read_nothing : {R : Type 0} (m : MutatorState R) → HasReadRow m m
read_nothing m = record { rest = refl; words = λ q. refl; stands = λ q. refl; marks = λ p. refl }

pub read_more : {R : Type 0} (old mid : MutatorState R) (place : ℕ) → HasReadRow old mid → HasReadRow old (read_own mid place)
read_more {R} old mid place has = record {
  rest = subst (λ (m : MutatorState R). read_own m place ≡ with_view old (record old.pass.1 { log = (read_own m place).pass.1.log })) (sym has.rest) refl;
  words = has.words;
  stands = has.stands;
  marks = has.marks;
}

module _ {R : Type 0} (pages : ℕ) (from : MutatorState R) where
  pub copied_none : (old : MutatorState R) → HasCopied pages 0 from old old
  copied_none old = record {
    row = record {
      words = λ q low. absurd (omega (arith, low));
      tags = λ q low. absurd (omega (arith, low));
      pinned = λ q low. absurd (omega (arith, low));
    };
    marks = λ p. refl;
    view = refl;
    rest = refl;
  }

  -- the parts of a mutator that a copy of words leaves, once a further one was put
  rest_put : (old mid new : MutatorState R) (place word : ℕ) (is_ref : Bool) → HasPut mid new place word is_ref
      → mid ≡ record old { pass = mid.pass; refs = mid.refs; wrote = mid.wrote }
      → new ≡ record old { pass = new.pass; refs = new.refs; wrote = new.wrote }
  rest_put old mid new place word is_ref put same =
      let space : new.space ≡ old.space = put.space ∙ ap (λ (m : MutatorState R). m.space) same in
      let reader : new.reader ≡ old.reader = put.reader ∙ ap (λ (m : MutatorState R). m.reader) same in
      let name : new.next_name ≡ old.next_name = put.next_name ∙ ap (λ (m : MutatorState R). m.next_name) same in
      λ i. record { pass = new.pass; space = space i; reader = reader i; refs = new.refs; wrote = new.wrote; next_name = name i }

  view_put : (old mid new : MutatorState R) (place word : ℕ) (is_ref : Bool) (refused : List Refusal) → HasPut mid new place word is_ref
      → new.pass.1.refusals ≡ refused → mid.pass ≡ (old.pass.0, record old.pass.1 { log = mid.pass.1.log })
      → new.pass ≡ (old.pass.0, record old.pass.1 { log = new.pass.1.log; refusals = refused })
  view_put old mid new place word is_ref refused put said same =
      let table : new.pass.0 ≡ old.pass.0 = put.view.0 ∙ ap (λ (t : TableId × View). t.0) same in
      let view : new.pass.1 ≡ record old.pass.1 { log = new.pass.1.log; refusals = refused } =
      put.view.1 ∙ ap (λ (t : TableId × View). record t.1 { log = new.pass.1.log; refusals = new.pass.1.refusals }) same
      ∙ ap (λ (r : List Refusal). record old.pass.1 { log = new.pass.1.log; refusals = r }) said in
      λ i. (table i, view i)

  module _ (i : ℕ) (old mid new : MutatorState R) (word : ℕ) (is_ref : Bool) (low : i < 512) (long : length mid.refs ≡ 512)
      (word_is : word ≡ word_of from.pass.1.log i) (has : HasCopied pages i from old mid) where
    earlier : (q : ℕ) → q < i + 1 → q ≢ i → q < i
    earlier q more other = omega (arith, more, other)

    row_more : is_ref ≡ slice_index_or from.refs i false → HasPut mid new i word is_ref → IsPinned pages new i → HasRowOf pages (i + 1) from new
    row_more tag_is put pinned = record {
      words = λ q more. dite (ℕ_discrete q i)
          (λ here. put.words q ∙ put_at (word_of mid.pass.1.log) i word q here ∙ word_is ∙ ap (word_of from.pass.1.log) (sym here))
          (λ other. put.words q ∙ put_else (word_of mid.pass.1.log) i word q other ∙ has.row.words q (earlier q more other));
      tags = λ q more. dite (ℕ_discrete q i)
          (λ here. ap (λ (l : List Bool). slice_index_or l q false) put.refs ∙ ap (λ (k : ℕ). get_or (set mid.refs i is_ref) k false) here
          ∙ get_or-set_same mid.refs i is_ref false (omega (arith, low, long)) ∙ tag_is ∙ ap (λ (k : ℕ). slice_index_or from.refs k false) (sym here))
          (λ other. ap (λ (l : List Bool). slice_index_or l q false) put.refs ∙ get_or-set_other mid.refs i q is_ref false other ∙ has.row.tags q (earlier q more other));
      pinned = λ q more. dite (ℕ_discrete q i)
          (λ here. subst (λ (k : ℕ). IsPinned pages new k) (sym here) pinned)
          (λ other. still q other (has.row.pinned q (earlier q more other)));
    }
      where
        still : (q : ℕ) → q ≢ i → IsPinned pages mid q → IsPinned pages new q
        still q other (inl stands) = inl (put.stands q other ∙ stands)
        still q other (inr never) = inr (λ page named. never page (subst (λ (w : ℕ). Names pages w page) (put.words q ∙ put_else (word_of mid.pass.1.log) i word q other) named))

    pub copied_more : is_ref ≡ slice_index_or from.refs i false → HasPut mid new i word is_ref → IsPinned pages new i
        → new.pass.1.refusals ≡ mid.pass.1.refusals → HasCopied pages (i + 1) from old new
    copied_more tag_is put pinned calm = record {
      row = row_more tag_is put pinned;
      marks = λ p. put.marks p ∙ has.marks p;
      view = view_put old mid new i word is_ref old.pass.1.refusals put (calm ∙ ap (λ (t : TableId × View). t.1.refusals) has.view) has.view;
      rest = rest_put old mid new i word is_ref put has.rest;
    }

    pub copy_refused : (busy : Busy) → HasPut mid new i 0 true → IsMarked pages word mid new busy → IsCopyRefused pages from old new busy
    copy_refused busy put marked = record {
      place = i;
      low = low;
      page = marked.page;
      marked = record { named = subst (λ (w : ℕ). Names pages w marked.page) word_is marked.named; unit_is = marked.unit; mark = marked.mark };
      marks = λ p. put.marks p ∙ has.marks p;
      view = view_put old mid new i 0 true (record { unit = marked.page; word = busy.word } ∷ old.pass.1.refusals) put
          (marked.refused ∙ ap (λ (t : TableId × View). record { unit = marked.page; word = busy.word } ∷ t.1.refusals) has.view) has.view;
      rest = rest_put old mid new i 0 true put has.rest;
    }

-- what was copied from a mutator is so of one that is equal
module _ {R : Type 0} (pages : ℕ) (maker still fresh begun made : MutatorState R) (same : still ≡ maker) (in_space : begun ≡ record fresh { space = still.space }) where
  pub copied_for : HasCopied pages ROW_PLACES still begun made → HasCopied pages ROW_PLACES maker (record fresh { space = maker.space }) made
  copied_for has =
      subst (λ (m : MutatorState R). HasCopied pages ROW_PLACES m (record fresh { space = m.space }) made) same
      (subst (λ (m : MutatorState R). HasCopied pages ROW_PLACES still m made) in_space has)

-- a fresh mutator that was given the space of its maker, and a copy of the maker's row
module _ {R : Type 0} (pages : ℕ) (maker fresh made : MutatorState R) (reader : R) (is : IsFresh maker fresh reader) where
  abbrev in_space : MutatorState R
  in_space = record fresh { space = maker.space }

  module _ (has : HasCopied pages ROW_PLACES maker in_space made) where
    abbrev begun : MutatorState R
    begun = record made { wrote = replicate 512 false; next_name = 0 }

    pub is_fork : IsFork pages maker begun reader
    is_fork = record {
      row = is.row;
      low = is.low;
      is =
          let pass : made.pass ≡ (maker.pass.0, record (new_view is.row maker.pass.1) { log = made.pass.1.log }) =
          has.view ∙ ap (λ (m : MutatorState R). (m.pass.0, record m.pass.1 { log = made.pass.1.log })) is.is in
          let space : made.space ≡ maker.space = ap (λ (m : MutatorState R). m.space) has.rest in
          let reads : made.reader ≡ reader = ap (λ (m : MutatorState R). m.reader) has.rest ∙ ap (λ (m : MutatorState R). m.reader) is.is in
          λ i. record { pass = pass i; space = space i; reader = reads i; refs = made.refs; wrote = replicate 512 false; next_name = 0 };
      copied = record { words = has.row.words; tags = has.row.tags; pinned = has.row.pinned };
    }

    module _ (content : R → Option (List ℕ)) (heap : TableId × Told) (of : Belongs content heap maker) (other : IsMutatorOf content heap made) where
      tagged_low : (q : ℕ) → slice_index_or made.refs q false ≡ true → q < 512
      tagged_low q tagged = elim (cases_lt q 512) [
        | inl low ↦ low
        | inr high ↦ absurd (false≢true (sym (get_or_past made.refs q false (let long : length made.refs ≡ 512 = other.tags.0 in omega (arith, long, high))) ∙ tagged))
      ]

      seen : made.pass.1.seen ≡ maker.pass.1.seen
      seen = ap (λ (t : TableId × View). t.1.seen) has.view ∙ ap (λ (m : MutatorState R). m.pass.1.seen) is.is

      pub fork_belongs : Belongs content heap begun
      fork_belongs = record {
        mutator = record {
          of = other.of;
          unmarked = other.unmarked;
          lawful = other.lawful;
          reads = other.reads;
          tags = (other.tags.0, length-replicate 512 false);
          space = other.space;
        };
        known = λ q tagged.
            let low : q < 512 = tagged_low q tagged in
            subst (λ (a : ℕ). KnowsWord heap.1 made.pass.1 a) (sym (has.row.words q low))
            (same_word heap.1 maker.pass.1 made.pass.1 (word_of maker.pass.1.log q) seen (of.known q (sym (has.row.tags q low) ∙ tagged)));
      }
