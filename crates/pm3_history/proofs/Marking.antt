-- The next name and the high page bound what stands.
use Rattle.std.proofs.Common.{◌≡◌, ◌<◌, ◌≤◌, ◌+◌, ◌∙◌, ◌⊎◌, ◌||◌, ◌&&◌, ◌==◌, inl, inr, ℕ, zero, suc, Bool, true, false, cond, nat_le, nat_lt, List, Option, Some, None, is_some, refl, sym, ap, arith}
use Rattle.std.specs.Prelude.{slice_index, slice_index_or, replicate}
use Rattle.std.specs.FinMap.{get}
use Rattle.std.proofs.lemmas.Bool.{cases_eq, and_parts, eqb-true, false≢true}
use Rattle.std.proofs.lemmas.Bool.Decides.{nat_tests}
use Rattle.pm3_types.specs.Fields.{Fields}
use Rattle.pm3_types.specs.Graph.{Part}
use Rattle.pm3_types.specs.Layout.{Sheet, is_start, page_in, word_in, is_address, blank_sheet}
use Rattle.pm3_types.specs.PageForm.{IsReferenceIn, HasForm, HasObjects, is_memory_reference, map_at, tail_at}
use Rattle.pm3_types.specs.Shown.{Images}
use Rattle.pm3_history.specs.Laid.{laid, without}
use Rattle.pm3_history.specs.Entry.{Pass, Entry}
use Rattle.pm3_history.specs.State.{State, step, next_owner, owned_by}
use Rattle.pm3_history.specs.Named.{next_book}
use Rattle.pm3_history.specs.Lawful.{Writes, MeetsPass, IsPass, IsLawful}
use Rattle.pm3_history.specs.Persistent.{persistent_book}
use Rattle.pm3_history.specs.Bounded.{IsBounded}
use Rattle.pm3_history.specs.Chronicled.{Chronicled}
use Rattle.pm3_history.proofs.Laying.{some_of, some_none, one_value, laid_above, laid_below, off_cases, off_keeps, none_if}
use Rattle.pm3_history.proofs.OwnedBy.{get-owned_by}
use Rattle.pm3_history.proofs.Passing.{below, owner_same}

or_cases : (a b : Bool) → (a || b) ≡ true → (a ≡ true) ⊎ (b ≡ true)
or_cases true b is = inl refl
or_cases false b is = inr is

lt_of : (m n : ℕ) → nat_lt m n ≡ true → m < n
lt_of m n is = grind (arith, nat_tests)

-- a reference in a store of so many pages leads below them
pub refers_below : (base pages w : ℕ) → is_memory_reference base pages w ≡ true → (w ≡ 0) ⊎ (page_in base w < pages)
unfolding is_memory_reference
refers_below base pages w is = elim (or_cases (w == 0) (is_address base w && ((nat_le 3 (page_in base w) && nat_lt (page_in base w) pages) && nat_le 2 (word_in base w))) is) [
  | inl nil ↦ inl (eqb-true w 0 nil)
  | inr more ↦
      let second = and_parts (is_address base w) ((nat_le 3 (page_in base w) && nat_lt (page_in base w) pages) && nat_le 2 (word_in base w)) more in
      let third = and_parts (nat_le 3 (page_in base w) && nat_lt (page_in base w) pages) (nat_le 2 (word_in base w)) second.1 in
      let fourth = and_parts (nat_le 3 (page_in base w)) (nat_lt (page_in base w) pages) third.0 in
      inr (lt_of (page_in base w) pages fourth.1)
]

falses : (n s : ℕ) → slice_index_or (replicate n false) s false ≡ false
falses zero s = refl
falses (suc n) zero = refl
falses (suc n) (suc s) = falses n s

form_below : (catalog : List Fields) (base pages page s k : ℕ) (sheet : Sheet) → HasForm catalog (is_memory_reference base pages) page sheet → is_start sheet s ≡ true
    → IsReferenceIn (map_at catalog sheet s) (tail_at sheet s) k
    → (slice_index sheet.words (s + 2 + k) ≡ 0) ⊎ (page_in base (slice_index sheet.words (s + 2 + k)) < pages)
form_below catalog base pages page s k sheet form starts reference = elim (cases_eq page 2) [
  | inl two ↦ absurd (false≢true (sym ((form.roots two).empty s) ∙ starts))
  | inr other ↦ by (form.objects other)
]
  where
    by : (sheet ≡ blank_sheet) ⊎ HasObjects catalog (is_memory_reference base pages) page sheet
        → (slice_index sheet.words (s + 2 + k) ≡ 0) ⊎ (page_in base (slice_index sheet.words (s + 2 + k)) < pages)
    by (inl blank) = absurd (false≢true (sym (ap (λ (x : Sheet). is_start x s) blank ∙ falses 512 s) ∙ starts))
    by (inr objects) = refers_below base pages (slice_index sheet.words (s + 2 + k)) (objects.references s k starts reference)

weaker : (w page low high : ℕ) → low ≤ high → (w ≡ 0) ⊎ (page < low) → (w ≡ 0) ⊎ (page < high)
weaker w page low high rise (inl nil) = inl nil
weaker w page low high rise (inr below_) = inr (omega (arith, rise, below_))

-- a persistent object after an entry is on a page that it wrote, or was there on one that it didn't write
After : (base : ℕ) → State → Images → ℕ → ℕ → Type 0
After base st written a n = (is_some (get written (page_in base a)) ≡ true) ⊎ ((get written (page_in base a) ≡ None) × (get (persistent_book base st) a ≡ Some n))

by_page : (base : ℕ) (st : State) (written : Images) (a n : ℕ) → (get written (page_in base a) ≡ None → get (persistent_book base st) a ≡ Some n) → After base st written a n
unfolding After
by_page base st written a n old = which (get written (page_in base a)) refl
  where
    which : (o : Option Sheet) → get written (page_in base a) ≡ o
        → (is_some (get written (page_in base a)) ≡ true) ⊎ ((get written (page_in base a) ≡ None) × (get (persistent_book base st) a ≡ Some n))
    which None none = inr (none, old none)
    which (Some sheet) is = inl (ap is_some is)

module _ (catalog : List Fields) (base pages : ℕ) (st : State) (e : Entry) (p : Pass) (chron : Chronicled catalog base st) (pass : IsPass catalog base pages st e p) where
  -- a page that a pass leaves to its space isn't persistent
  not_left : (q : ℕ) → get (next_owner st.owner (Some p)) q ≡ None → get p.after q ≡ None
  not_left q none = none_if (get p.after q) (λ sheet on. some_none (get (next_owner st.owner (Some p)) q) p.space
      (laid_above (without st.owner p.before) (owned_by p.space p.after) q p.space
      (get-owned_by p.space p.after q ∙ ap (λ (o : Option Sheet). cond (is_some o) (Some p.space) None) on)) none)

  pass_after : (a n : ℕ) → get (next_book base st.book e.written (Some p)) a ≡ Some n
      → get (next_owner st.owner (Some p)) (page_in base a) ≡ None → get e.written (page_in base a) ≡ None → get (persistent_book base st) a ≡ Some n
  pass_after a n has free none =
      let after : get p.after (page_in base a) ≡ None = not_left (page_in base a) free in
      let off : get (laid p.after e.written) (page_in base a) ≡ None = laid_below p.after e.written (page_in base a) none ∙ after in
      let old = below catalog base st e p chron pass.takes a n has off in
      off_keeps base st.book st.owner a (sym (owner_same catalog base st e p chron pass.takes (page_in base a) old.0 after) ∙ free) ∙ old.1

-- every object after an entry has a name below its next name
names_by : (catalog : List Fields) (base pages : ℕ) (st : State) (found left : Part) (tag mutator next_name high_page : ℕ) (written : Images) (pass : Option Pass)
    → let e : Entry = record { tag = tag; mutator = mutator; next_name = next_name; high_page = high_page; found = found; left = left; written = written; pass = pass } in
    IsBounded catalog base st → Writes catalog base pages st e → MeetsPass catalog base pages st e pass
    → (a n : ℕ) → get (next_book base st.book written pass) a ≡ Some n → n < next_name
names_by catalog base pages st found left tag mutator next_name high_page written None bounded writes meets a n has =
    let rise = writes.names_rise in let low = bounded.names a n has in
    omega (arith, rise, low)
names_by catalog base pages st found left tag mutator next_name high_page written (Some p) bounded writes meets a n has = meets.names a n has

after_by : (catalog : List Fields) (base pages : ℕ) (st : State) (found left : Part) (tag mutator next_name high_page : ℕ) (written : Images) (pass : Option Pass)
    → let e : Entry = record { tag = tag; mutator = mutator; next_name = next_name; high_page = high_page; found = found; left = left; written = written; pass = pass } in
    Chronicled catalog base st → MeetsPass catalog base pages st e pass
    → (a n : ℕ) → get (persistent_book base (step base st e)) a ≡ Some n → After base st written a n
after_by catalog base pages st found left tag mutator next_name high_page written None chron meets a n has =
    by_page base st written a n (λ none. has)
after_by catalog base pages st found left tag mutator next_name high_page written (Some p) chron meets a n has =
    let e : Entry = record { tag = tag; mutator = mutator; next_name = next_name; high_page = high_page; found = found; left = left; written = written; pass = Some p } in
    let old = off_cases base (step base st e).book (step base st e).owner a n has in
    by_page base st written a n (pass_after catalog base pages st e p chron meets a n old.1 old.0)

-- an entry that may follow keeps the bounds
pub bounds_keep : (catalog : List Fields) (base pages : ℕ) (st : State) (e : Entry) → Chronicled catalog base st → IsBounded catalog base st → IsLawful catalog base pages st e
    → IsBounded catalog base (step base st e)
unfolding After
bounds_keep catalog base pages st e chron bounded lawful = record {
  names = names_by catalog base pages st e.found e.left e.tag e.mutator e.next_name e.high_page e.written e.pass bounded lawful.writes lawful.by_pass;
  pages = λ a n has. page_low a n (after a n has);
  references = λ a n s k sheet has on starts is. refers a n s k sheet on starts is (after a n has);
}
  where
    after : (a n : ℕ) → get (persistent_book base (step base st e)) a ≡ Some n
        → (is_some (get e.written (page_in base a)) ≡ true) ⊎ ((get e.written (page_in base a) ≡ None) × (get (persistent_book base st) a ≡ Some n))
    after = after_by catalog base pages st e.found e.left e.tag e.mutator e.next_name e.high_page e.written e.pass chron lawful.by_pass

    page_low : (a n : ℕ) → (is_some (get e.written (page_in base a)) ≡ true) ⊎ ((get e.written (page_in base a) ≡ None) × (get (persistent_book base st) a ≡ Some n)) → page_in base a < e.high_page
    page_low a n (inl there) = (let x = some_of (get e.written (page_in base a)) there in (lawful.writes.form (page_in base a) x.0 x.1).1)
    page_low a n (inr old) = (let low = bounded.pages a n old.1 in let rise = lawful.writes.pages_rise in omega (arith, low, rise))

    refers : (a n s k : ℕ) (sheet : Sheet) → get (laid st.pages e.written) (page_in base a) ≡ Some sheet → is_start sheet s ≡ true
        → IsReferenceIn (map_at catalog sheet s) (tail_at sheet s) k
        → (is_some (get e.written (page_in base a)) ≡ true) ⊎ ((get e.written (page_in base a) ≡ None) × (get (persistent_book base st) a ≡ Some n))
        → (slice_index sheet.words (s + 2 + k) ≡ 0) ⊎ (page_in base (slice_index sheet.words (s + 2 + k)) < e.high_page)
    refers a n s k sheet on starts is (inl there) =
        let x = some_of (get e.written (page_in base a)) there in
        let same : x.0 ≡ sheet = one_value (get (laid st.pages e.written) (page_in base a)) x.0 sheet (laid_above st.pages e.written (page_in base a) x.0 x.1) on in
        form_below catalog base e.high_page (page_in base a) s k sheet
        (lawful.writes.form (page_in base a) sheet (x.1 ∙ ap Some same)).2 starts is
    refers a n s k sheet on starts is (inr old) =
        weaker (slice_index sheet.words (s + 2 + k)) (page_in base (slice_index sheet.words (s + 2 + k))) st.high_page e.high_page lawful.writes.pages_rise
        (bounded.references a n s k sheet old.1 (sym (laid_below st.pages e.written (page_in base a) old.0) ∙ on) starts is)
