-- Marks of the pages of a space, and the words that pin some of them.
use Rattle.std.proofs.Common.{◌≡◌, ◌<◌, ◌+◌, ◌/◌, ◌%◌, ◌↔◌, ◌⊎◌, ◌||◌, ◌==◌, ◌∙◌, inl, inr, ℕ, Bool, true, false, List, [], ◌∷◌, length, Some, refl, sym, ap, subst, arith}
use Rattle.std.proofs.lemmas.Bool.{cases_eq, eq-eqb, false≢true, ne_eqb}
use Rattle.std.proofs.lemmas.List.{get_or_default}
use Rattle.std.proofs.lemmas.List.Elements.{Contains-get_or}
use Rattle.std.specs.Prelude.{slice_index}
use Rattle.std.specs.List.{Contains}
use Rattle.std.specs.Cmp.{nat_cmp_total, unsigned_tied}
use Rattle.std.specs.FinSet as set
use Rattle.std.specs.FinSet.{contains-insert}
use Rattle.std.specs.Ordering.{nat_cmp}
use Rattle.pm3_core.specs.declared.events.TheConstants.{PLACES, ROW_PLACES}
use Rattle.pm3_core.specs.Naming.{Names}
use Rattle.pm3_rows.specs.Scans.{scanned}
use Rattle.pm3_table.specs.declared.view.Deed.{Deed}
use Rattle.pm3_table.specs.declared.view.Deed.TheVariants.{Found}
use Rattle.pm3_table.specs.Deeds.{IsClearedIn, marks_of, stands_of, word_of}
use Rattle.pm3_table.specs.Reads.{marked_then, read_of}
use Rattle.pm3_txn.specs.Pinning.{ArePinned, HasMarked, HasOnlyLogged, HasPinned}
use Rattle.pm3_txn.specs.States.{MutatorState}
use Rattle.pm3_txn.specs.Takes.{with_view}

-- a word names one page at most
one_page : (pages word p q : ℕ) → Names pages word p → Names pages word q → p ≡ q
one_page pages word p q one other = omega (arith, one.1, one.2, other.1, other.2)

or_second : (a b : Bool) → b ≡ true → (a || b) ≡ true
or_second true b is = refl
or_second false b is = is

in_more : (page p : ℕ) (s : set.FinSet nat_cmp) → set.contains (set.insert s page) p ≡ ((p == page) || set.contains s p)
in_more page p s = contains-insert nat_cmp_total s page p ∙ ap (λ (b : Bool). b || set.contains s p) (unsigned_tied p page)

-- the pages that are pinned with one more word
pub pinned_more : (pages word page : ℕ) (has : ℕ → Bool) (old new : set.FinSet nat_cmp) → Names pages word page → has page ≡ true → new ≡ set.insert old page
    → (p : ℕ) → (set.contains new p ≡ true) ↔ ((set.contains old p ≡ true) ⊎ ((has p ≡ true) × Names pages word p))
pinned_more pages word page has old new named there is p = (into, back)
  where
    here : set.contains new p ≡ ((p == page) || set.contains old p)
    here = ap (λ (s : set.FinSet nat_cmp). set.contains s p) is ∙ in_more page p old

    into : set.contains new p ≡ true → (set.contains old p ≡ true) ⊎ ((has p ≡ true) × Names pages word p)
    into there_ = elim (cases_eq p page) [
      | inl e ↦ inr (ap has e ∙ there, subst (Names pages word) (sym e) named)
      | inr ne ↦ inl (sym (ap (λ (b : Bool). b || set.contains old p) (ne_eqb p page ne)) ∙ (sym here ∙ there_))
    ]

    back : (set.contains old p ≡ true) ⊎ ((has p ≡ true) × Names pages word p) → set.contains new p ≡ true
    back (inl was) = here ∙ or_second (p == page) (set.contains old p) was
    back (inr other) = here ∙ ap (λ (b : Bool). b || set.contains old p) (eq-eqb p page (one_page pages word p page other.1 named))

-- what one of the words at the first places names is what one of the words names, where these are all
pub named_by_all : (words : List ℕ) (n : ℕ) (P : ℕ → Type 0) → length words ≡ n → ((k : ℕ) × (k < n) × P (slice_index words k)) → (w : ℕ) × Contains words w × P w
named_by_all words n P long (k, low, is) = (slice_index words k, Contains-get_or words k 0 (omega (arith, low, long)), is)

pub all_by_named : (words : List ℕ) (n : ℕ) (P : ℕ → Type 0) → length words ≡ n → ((w : ℕ) × Contains words w × P w) → (k : ℕ) × (k < n) × P (slice_index words k)
all_by_named words n P long (w, (k, low, at), is) = (k, omega (arith, low, long), subst P (sym (get_or_default words k 0 w low ∙ at)) is)

-- a scan leaves the words of the row and the marks
scanned_marks : (n : ℕ) (words : List ℕ) (log : List Deed) → marks_of (scanned n words log) ≡ marks_of log
scanned_marks n [] log = refl
scanned_marks n (w ∷ ws) log = scanned_marks (n + 1) ws (Found (n / ROW_PLACES) (n % ROW_PLACES) w ∷ log)

scanned_words : (n : ℕ) (words : List ℕ) (log : List Deed) → word_of (scanned n words log) ≡ word_of log
scanned_words n [] log = refl
scanned_words n (w ∷ ws) log = scanned_words (n + 1) ws (Found (n / ROW_PLACES) (n % ROW_PLACES) w ∷ log)

scanned_stands : (n : ℕ) (words : List ℕ) (log : List Deed) → stands_of (scanned n words log) ≡ stands_of log
scanned_stands n [] log = refl
scanned_stands n (w ∷ ws) log = scanned_stands (n + 1) ws (Found (n / ROW_PLACES) (n % ROW_PLACES) w ∷ log)

module _ {R : Type 0} (old mid new : MutatorState R) where
  only_both : HasOnlyLogged old mid → HasOnlyLogged mid new → HasOnlyLogged old new
  only_both first second = record {
    rest = second.rest ∙ ap (λ (m : MutatorState R). with_view m (record m.pass.1 { log = new.pass.1.log })) first.rest;
    words = λ q. second.words q ∙ first.words q;
    stands = λ q. second.stands q ∙ first.stands q;
  }

  -- marks that were taken and given up
  pub marked_both : (has some : ℕ → Bool) → HasMarked old mid has → HasMarked mid new some → HasMarked old new some
  marked_both has some first second = record { only = only_both first.only second.only; marks = second.marks }

  -- marks before a scan are there after it
  pub marked_scanned : (has : ℕ → Bool) (words : List ℕ) → HasMarked old mid has → new ≡ with_view mid (record mid.pass.1 { log = scanned 0 words mid.pass.1.log }) → HasMarked old new has
  marked_scanned has words first is =
      let log : new.pass.1.log ≡ scanned 0 words mid.pass.1.log = ap (λ (m : MutatorState R). m.pass.1.log) is in record {
        only = only_both first.only (record {
          rest = is ∙ ap (λ (l : List Deed). with_view mid (record mid.pass.1 { log = l })) (sym log);
          words = λ q. ap (λ (l : List Deed). word_of l q) log ∙ ap (λ (f : ℕ → ℕ). f q) (scanned_words 0 words mid.pass.1.log);
          stands = λ q. ap (λ (l : List Deed). stands_of l q) log ∙ ap (λ (f : ℕ → Bool). f q) (scanned_stands 0 words mid.pass.1.log);
        });
        marks = λ p. ap (λ (l : List Deed). marks_of l p) log ∙ ap (λ (f : ℕ → Bool). f p) (scanned_marks 0 words mid.pass.1.log) ∙ first.marks p;
      }

  -- with the words that were read, the marked pages are pinned or cleared
  pub has_pinned : (pages : ℕ) (has : ℕ → Bool) (words : List ℕ) (pins : set.FinSet nat_cmp) → HasMarked old mid has
      → new ≡ with_view mid (record mid.pass.1 { log = scanned 0 words mid.pass.1.log }) → length words ≡ PLACES
      → ((n : ℕ) → n < PLACES → read_of new.pass.1.log n ≡ Some (slice_index words n))
      → ((p : ℕ) → marked_then new.pass.1.log p ≡ marks_of mid.pass.1.log p)
      → ((p : ℕ) → marks_of mid.pass.1.log p ≡ true → ((n : ℕ) → n < PLACES → Names pages (slice_index words n) p → ⊥) → IsClearedIn pages new.pass.1.log p)
      → ArePinned pages has words pins → HasPinned pages old new has words pins
  has_pinned pages has words pins first is wide read marks cleared pinned =
      let scanned = marked_scanned has words first is in record {
        only = scanned.only;
        scan = record {
          wide = wide;
          read = read;
          marks = scanned.marks;
          marked = λ p. marks p ∙ first.marks p;
          pinned = pinned;
          cleared = λ p there off. cleared p (first.marks p ∙ there)
              (λ n low named. false≢true (sym off ∙ (pinned p).1 (there, named_by_all words PLACES (λ w. Names pages w p) wide (n, low, named))));
        };
      }
