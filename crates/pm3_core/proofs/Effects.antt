-- What is written to the lists is the effect of the event.
use Rattle.std.proofs.Common.{◌≡◌, ℕ, ◌+◌, ◌<◌, ◌==◌, ◌&&◌, ◌⊎◌, inl, inr, not, Bool, true, false, nat_lt, if◌then◌else◌, List, length, get_or, replicate, Option, Some, None, MatchOption, is_some, option_map, refl, ap, sym, subst, ◌∙◌, arith, get_or-set_same, get_or-set_other}
use Rattle.std.proofs.Math.ListN.{set}
use Rattle.std.proofs.lemmas.List.{length-replicate}
use Rattle.std.proofs.lemmas.Bool.{cases_eq}
use Rattle.std.proofs.lemmas.Bool.Decides.{nat_tests}
use Rattle.pm3_core.specs.declared.events.Event.{Event}
use Rattle.pm3_core.specs.declared.events.Event.TheVariants.{Store, Validate, Mark, Read}
use Rattle.pm3_core.specs.declared.events.Stepped.TheVariants.{Done}
use Rattle.pm3_core.specs.declared.events.TheConstants.{ROWS, ROW_PLACES, PLACES}
use Rattle.pm3_core.specs.Naming.{Names, names}
use Rattle.pm3_core.specs.Machine.{Machine, spot, opening, put, names_unmarked, stored, validated, marked, read_off, admits, effect}
use Rattle.pm3_core.specs.Cleared.{IsStep}
use Rattle.pm3_core.specs.Snapshot.{Marking, Snapshot, fresh, snapshot, mark_of, reads_of, state_of, Answers, IsSound, IsWide}
use Rattle.pm3_core.specs.Listed.{with_read, joined, is_named}
use Rattle.pm3_core.proofs.Functions.{IsSame, put-set, constant, get_or-replicate_default}
use Rattle.pm3_core.proofs.Names.{names_is, names_not, page_is, unmarked_is}

-- two states are one
abbrev IsOne : Machine → Machine → Type 0
IsOne m m' = m ≡ m'

-- the state with other standing places
abbrev standing : Machine → (ℕ → Bool) → Machine
standing m stands = record { word = m.word; stands = stands; mark = m.mark; read = m.read }

-- the state with other marks and places read off
abbrev marking : Machine → (ℕ → ℕ) → (ℕ → ℕ → Bool) → Machine
marking m mark read = record { word = m.word; stands = m.stands; mark = mark; read = read }

-- an admitted event has its effect
taken : (b : Bool) (m m' : Machine) → b ≡ true → (if b then m' else m) ≡ m'
taken true m m' so = refl
taken false m m' so = cc

-- a step is done where the new lists are its effect
done : (s s' : Snapshot) (event : Event) → IsStep s.pages (state_of s) event → state_of s' ≡ effect s.pages (state_of s) event → Answers s event Done s'
done s s' event step is =
    (step, is ∙ sym (taken (admits s.pages (state_of s) event) (state_of s) (effect s.pages (state_of s) event) step.0))

-- both are below their bounds
both_below : (row place : ℕ) → (row < ROWS) × (place < ROW_PLACES) → nat_lt row ROWS && nat_lt place ROW_PLACES ≡ true
both_below row place bounds = grind (arith, nat_tests, bounds.0, bounds.1)

pub store_done : (s : Snapshot) (who place at word : ℕ) → IsSound s → (who < ROWS) × (place < ROW_PLACES) → at ≡ spot who place → at < PLACES
    → Answers s (Store who place word) Done (snapshot s.pages (set s.words at word) (set s.stands at false) s.marks)
store_done s who place at word sound bounds is below =
    done s (snapshot s.pages (set s.words at word) (set s.stands at false) s.marks) (Store who place word) (both_below who place bounds, tt) (there ∙ ap (λ n. stored (state_of s) n word) is)
  where
    there : IsOne (state_of (snapshot s.pages (set s.words at word) (set s.stands at false) s.marks)) (stored (state_of s) at word)
    there = λ i. record {
      word = put-set (λ x. x) s.words at word 0 (omega (arith, sound.words_are, below)) i;
      stands = put-set (λ x. x) s.stands at false false (omega (arith, sound.stands_are, below)) i;
      mark = (state_of s).mark;
      read = (state_of s).read;
    }

-- the place's word names an unmarked page
pub validate_done : (s : Snapshot) (who place at page : ℕ) → IsSound s → (who < ROWS) × (place < ROW_PLACES) → at ≡ spot who place → at < PLACES
    → Names s.pages (get_or s.words at 0) page → mark_of (get_or s.marks page None) ≡ 0
    → Answers s (Validate who place) Done (snapshot s.pages s.words (set s.stands at true) s.marks)
validate_done s who place at page sound bounds is below names free =
    done s (snapshot s.pages s.words (set s.stands at true) s.marks) (Validate who place) (both_below who place bounds, tt)
    (there ∙ chosen (names_unmarked s.pages (state_of s).mark (get_or s.words at 0)) finds ∙ ap (λ n. validated s.pages (state_of s) n) is)
  where
    finds : names_unmarked s.pages (state_of s).mark (get_or s.words at 0) ≡ true
    finds = unmarked_is s.pages (get_or s.words at 0) page (state_of s).mark names free

    there : IsOne (state_of (snapshot s.pages s.words (set s.stands at true) s.marks)) (standing (state_of s) (put (state_of s).stands at true))
    there = λ i. standing (state_of s) (put-set (λ x. x) s.stands at true false (omega (arith, sound.stands_are, below)) i)

    chosen : (b : Bool) → b ≡ true → IsOne (standing (state_of s) (put (state_of s).stands at true)) (standing (state_of s) (if b then put (state_of s).stands at true else (state_of s).stands))
    chosen true so = refl
    chosen false so = cc

-- the place's word names no unmarked page
pub validate_idle : (s : Snapshot) (who place at : ℕ) → (who < ROWS) × (place < ROW_PLACES) → at ≡ spot who place
    → names_unmarked s.pages (state_of s).mark (get_or s.words at 0) ≡ false → Answers s (Validate who place) Done s
validate_idle s who place at bounds is none =
    done s s (Validate who place) (both_below who place bounds, tt)
    (chosen (names_unmarked s.pages (state_of s).mark (get_or s.words at 0)) none ∙ ap (λ n. validated s.pages (state_of s) n) is)
  where
    chosen : (b : Bool) → b ≡ false → IsOne (state_of s) (standing (state_of s) (if b then put (state_of s).stands at true else (state_of s).stands))
    chosen false so = refl
    chosen true so = cc

-- a page without a marker has the mark 0
pub free_of : (mark : Option Marking) → is_some (option_map (λ (m : Marking). m.by) mark) ≡ false → mark_of mark ≡ 0
free_of None free = refl
free_of (Some m) free = cc

-- an unmarked page may be marked
pub mark_may : (s : Snapshot) (who page : ℕ) → who < ROWS → page < s.pages → mark_of (get_or s.marks page None) ≡ 0 → IsStep s.pages (state_of s) (Mark who page)
mark_may s who page mutator below free = (grind (arith, nat_tests, mutator, below, free), tt)

pub mark_done : (s : Snapshot) (who page : ℕ) → IsSound s → who < ROWS → page < s.pages → mark_of (get_or s.marks page None) ≡ 0
    → Answers s (Mark who page) Done (snapshot s.pages s.words s.stands (set s.marks page (Some (fresh who))))
mark_done s who page sound mutator below free =
    done s (snapshot s.pages s.words s.stands (set s.marks page (Some (fresh who)))) (Mark who page) (mark_may s who page mutator below free) there
  where
    none : IsSame (λ k. get_or (replicate PLACES false) k false) (λ k. false)
    none = constant (λ x. x) (replicate PLACES false) PLACES false refl

    marks : IsSame (state_of (snapshot s.pages s.words s.stands (set s.marks page (Some (fresh who))))).mark (put (state_of s).mark page (who + 1))
    marks = put-set mark_of s.marks page (Some (fresh who)) None (omega (arith, sound.marks_are, below))

    reads : IsSame (state_of (snapshot s.pages s.words s.stands (set s.marks page (Some (fresh who))))).read (put (state_of s).read page (λ k. get_or (replicate PLACES false) k false))
    reads = put-set reads_of s.marks page (Some (fresh who)) None (omega (arith, sound.marks_are, below))

    there : IsOne (state_of (snapshot s.pages s.words s.stands (set s.marks page (Some (fresh who))))) (marked (state_of s) page (who + 1))
    there = λ i. marking (state_of s) (marks i) ((reads ∙ ap (λ f. put (state_of s).read page f) none) i)

-- a place read off leaves who marks the page
read_mark : (who at : ℕ) (named : Option ℕ) (page : ℕ) (mark : Option Marking) → mark_of (with_read who at named page mark) ≡ mark_of mark
read_mark who at named page None = grind (arith, nat_tests)
read_mark who at named page (Some m) = grind (arith, nat_tests)

-- the places read off for one page
read_reads : (who at : ℕ) (b : Bool) (mark : Option Marking) (k : ℕ) → at < PLACES → IsWide mark
    → reads_of (if b then mark else joined who at mark) k ≡ (if (mark_of mark == who + 1) && not b then put (reads_of mark) at true else reads_of mark) k
read_reads who at b None k below wide = grind (arith, nat_tests)
read_reads who at true (Some m) k below wide = grind (arith, nat_tests)
read_reads who at false (Some m) k below wide = cases (cases_eq m.by who)
  where
    cases : (m.by ≡ who) ⊎ (m.by ≡ who → ⊥) → reads_of (joined who at (Some m)) k ≡ (if (m.by + 1 == who + 1) && true then put (reads_of (Some m)) at true else reads_of (Some m)) k
    cases (inl same) = grind (arith, nat_tests, same, get_or-set_same m.read at true false (omega (arith, wide, below)), get_or-set_other m.read at k true false, cases_eq k at)
    cases (inr other) = grind (arith, nat_tests, other)

-- the page that was found is the one that the word names
named_is : (pages word : ℕ) (named : Option ℕ) (page : ℕ) → MatchOption named ((p : ℕ) → Names pages word p → ⊥) (Names pages word) → is_named named page ≡ names pages word page
named_is pages word None page none = sym (names_not pages word page (none page))
named_is pages word (Some other) page is = cases (cases_eq other page)
  where
    cases : (other ≡ page) ⊎ (other ≡ page → ⊥) → (other == page) ≡ names pages word page
    cases (inl same) = grind (arith, nat_tests, same, names_is pages word other is)
    cases (inr apart) =
        let not_named : names pages word page ≡ false = names_not pages word page (λ also. apart (sym (page_is pages word other is) ∙ page_is pages word page also)) in
        grind (arith, nat_tests, apart, not_named)

pub read_done : (s : Snapshot) (who row place at : ℕ) (named : Option ℕ) (marks' : List (Option Marking)) → IsSound s → who < ROWS → (row < ROWS) × (place < ROW_PLACES) → at ≡ spot row place → at < PLACES
    → MatchOption named ((page : ℕ) → Names s.pages (get_or s.words at 0) page → ⊥) (Names s.pages (get_or s.words at 0))
    → ((page : ℕ) → get_or marks' page None ≡ with_read who at named page (get_or s.marks page None))
    → Answers s (Read who row place) Done (snapshot s.pages s.words s.stands marks')
read_done s who row place at named marks' sound mutator bounds is below finds each =
    done s (snapshot s.pages s.words s.stands marks') (Read who row place) (grind (arith, nat_tests, mutator, bounds.0, bounds.1), tt) (there ∙ ap (λ n. read_off s.pages (state_of s) who n) is)
  where
    marks : (page : ℕ) → mark_of (get_or marks' page None) ≡ mark_of (get_or s.marks page None)
    marks page = ap mark_of (each page) ∙ read_mark who at named page (get_or s.marks page None)

    reads : (page k : ℕ) → reads_of (get_or marks' page None) k ≡ (read_off s.pages (state_of s) who at).read page k
    reads page k =
        ap (λ mark. reads_of mark k) (each page)
        ∙ read_reads who at (is_named named page) (get_or s.marks page None) k below (sound.reads_are page)
        ∙ ap (λ (b : Bool). (if (mark_of (get_or s.marks page None) == who + 1) && not b then put (reads_of (get_or s.marks page None)) at true else reads_of (get_or s.marks page None)) k) (named_is s.pages (get_or s.words at 0) named page finds)

    there : IsOne (state_of (snapshot s.pages s.words s.stands marks')) (read_off s.pages (state_of s) who at)
    there = λ i. marking (state_of s) (λ page. marks page i) (λ page k. reads page k i)

-- lists of zeros, of places that do not stand and of pages without a mark are the opening
pub opened : (pages : ℕ) (words : List ℕ) (stands : List Bool) (marks : List (Option Marking)) → words ≡ replicate PLACES 0 → stands ≡ replicate PLACES false → marks ≡ replicate pages None
    → state_of (snapshot pages words stands marks) ≡ opening
opened pages words stands marks words_are stands_are marks_are = λ i. record {
  word = constant (λ x. x) words PLACES 0 words_are i;
  stands = constant (λ x. x) stands PLACES false stands_are i;
  mark = constant mark_of marks pages None marks_are i;
  read = constant reads_of marks pages None marks_are i;
}

pub opened_sound : (pages : ℕ) (words : List ℕ) (stands : List Bool) (marks : List (Option Marking)) → words ≡ replicate PLACES 0 → stands ≡ replicate PLACES false → marks ≡ replicate pages None
    → IsSound (snapshot pages words stands marks)
opened_sound pages words stands marks words_are stands_are marks_are = record {
  words_are = ap length words_are ∙ length-replicate {A = ℕ} PLACES 0;
  stands_are = ap length stands_are ∙ length-replicate PLACES false;
  marks_are = ap length marks_are ∙ length-replicate pages None;
  reads_are = λ page. subst IsWide (sym (ap (λ list. get_or list page None) marks_are ∙ get_or-replicate_default pages None page)) tt;
}
