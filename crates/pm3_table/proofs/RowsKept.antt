-- What an event of one mutator leaves of the rows.
use Rattle.std.proofs.Common.{◌≡◌, ◌≢◌, ◌⊎◌, ℕ, ◌+◌, ◌<◌, ◌==◌, ◌&&◌, not, if◌then◌else◌, Bool, true, false, List, [], ◌∷◌, ◌++◌, append_assoc, refl, sym, ap, ◌∙◌, subst, ⊎_elim, arith}
use Rattle.std.proofs.lemmas.Bool.Decides.{nat_tests}
use Rattle.pm3_core.specs.declared.events.TheConstants.{ROWS, ROW_PLACES}
use Rattle.pm3_core.specs.declared.events.Event.{Event}
use Rattle.pm3_core.specs.declared.events.Event.TheVariants.{Store, Validate, Clear, Mark, Read, Move, Unmark}
use Rattle.pm3_core.specs.Naming.{names}
use Rattle.pm3_core.specs.Machine.{Machine, opening, put, spot, stored, marked, read_off, admits, effect, after, run}
use Rattle.pm3_core.specs.Cleared.{Cleared, IsStep, AllSteps}
use Rattle.pm3_core.proofs.Begins.{run-append}
use Rattle.pm3_table.specs.declared.view.Deed.{Deed}
use Rattle.pm3_table.specs.declared.view.Deed.TheVariants.{Stored, Stood, Marked, Found, Unmarked}
use Rattle.pm3_table.specs.Deeds.{word_of, stands_of, marks_of, reads_of}
use Rattle.pm3_table.specs.Holds.{is_in}
use Rattle.pm3_table.specs.Rows.{RowView, row_with, KnowsRow, is_move, moves, moves_from, RowsRule}
use Rattle.pm3_table.proofs.Put.{put_at, put_else, put_cases}

-- what an event of mutator k leaves of the others' parts
pub record Frame (m m' : Machine) (k : ℕ) : Type 0 where
  pub words : (r q : ℕ) → r ≢ k → q < ROW_PLACES → m'.word (spot r q) ≡ m.word (spot r q)
  pub stands : (r q : ℕ) → r ≢ k → q < ROW_PLACES → m'.stands (spot r q) ≡ m.stands (spot r q)
  pub marks : (p r : ℕ) → r ≢ k → (m'.mark p == r + 1) ≡ (m.mark p == r + 1)
  pub reads : (p n r : ℕ) → r ≢ k → m.mark p ≡ r + 1 → m'.read p n ≡ m.read p n

pub after_is : (pages : ℕ) (m : Machine) (e : Event) → admits pages m e ≡ true → after pages m e ≡ effect pages m e
after_is pages m e may = ap (λ b. if b then effect pages m e else m) may

pub steps_snoc : (pages : ℕ) (es : List Event) (e : Event) (m : Machine) → AllSteps pages es m → IsStep pages (run pages es m) e → AllSteps pages (es ++ e ∷ []) m
steps_snoc pages [] e m all step = (step, tt)
steps_snoc pages (x ∷ xs) e m all step = (all.0, steps_snoc pages xs e (after pages m x) all.1 step)

pub moves-append : (a b : List Event) → moves (a ++ b) ≡ moves a ++ moves b
moves-append [] b = refl
moves-append (Store who place word ∷ a) b = moves-append a b
moves-append (Validate who place ∷ a) b = moves-append a b
moves-append (Clear who place ∷ a) b = moves-append a b
moves-append (Mark who page ∷ a) b = moves-append a b
moves-append (Read who row place ∷ a) b = moves-append a b
moves-append (Unmark who page ∷ a) b = moves-append a b
moves-append (Move who page ∷ a) b = ap (λ (l : List Event). Move who page ∷ l) (moves-append a b)

no_move : (e : Event) → is_move e ≡ false → moves (e ∷ []) ≡ []
no_move (Store who place word) none = refl
no_move (Validate who place) none = refl
no_move (Clear who place) none = refl
no_move (Mark who page) none = refl
no_move (Read who row place) none = refl
no_move (Unmark who page) none = refl
no_move (Move who page) none = cc

append_none : (l m : List Event) → m ≡ [] → l ++ m ≡ l
append_none [] m e = e
append_none (x ∷ xs) m e = ap (λ (l : List Event). x ∷ l) (append_none xs m e)

others_know : (pages : ℕ) (m m' : Machine) (k r : ℕ) (log : List Deed) → r ≢ k → Frame m m' k → KnowsRow pages m r log → KnowsRow pages m' r log
others_know pages m m' k r log other f know = record {
  word = λ q b. know.word q b ∙ sym (f.words r q other b);
  stands = λ q b. know.stands q b ∙ sym (f.stands r q other b);
  marks = λ p. know.marks p ∙ sym (f.marks p r other);
  reads = λ p n is. let was : m.mark p ≡ r + 1 = grind (arith, nat_tests, f.marks p r other, is) in
      know.reads p n was ∙ sym (f.reads p n r other was);
}

module _ (pages : ℕ) (m : Machine) (crew : ℕ → RowView) (done : List Event) (r : RowsRule pages done m crew) where
  -- an event of mutator k that is no move, after which its log is ds
  pub event_keeps : (k : ℕ) (e : Event) (m' : Machine) (ds : List Deed) → is_move e ≡ false → (crew k).live ≡ true → IsStep pages m e
      → effect pages m e ≡ m' → Frame m m' k
      → ((p : ℕ) → m'.mark p ≢ 0 → (m.mark p ≡ m'.mark p) ⊎ ((p < pages) × (m'.mark p ≡ k + 1)))
      → KnowsRow pages m' k ds → RowsRule pages done m' (put crew k (row_with ds))
  event_keeps k e m' ds none live step effects f marks know =
      let at : run pages r.events opening ≡ m = r.is in
      let may : IsStep pages (run pages r.events opening) e = subst (λ x. IsStep pages x e) (sym at) step in
      record {
        events = r.events ++ e ∷ [];
        moved = moves-append r.events (e ∷ []) ∙ (append_none (moves r.events) (moves (e ∷ [])) (no_move e none) ∙ r.moved);
        is = run-append pages r.events (e ∷ []) opening ∙ (ap (λ x. after pages x e) at ∙ (after_is pages m e step.0 ∙ effects));
        steps = steps_snoc pages r.events e opening r.steps may;
        known = λ j. put_cases (λ v. v.live ≡ true → KnowsRow pages m' j v.log) crew k (row_with ds) j
            (λ here alive. subst (λ n. KnowsRow pages m' n ds) (sym here) know)
            (λ other alive. others_know pages m m' k j (crew j).log other f (r.known j alive));
        marked = λ p is. ⊎_elim
            (λ same. let was = r.marked p (λ zero. is (sym same ∙ zero)) in
            (was.0, (was.1.0, sym same ∙ was.1.1, put_cases (λ v. v.live ≡ true) crew k (row_with ds) was.1.0 (λ _. refl) (λ _. was.1.2))))
            (λ mine. (mine.0, (k, mine.1, put_cases (λ v. v.live ≡ true) crew k (row_with ds) k (λ _. refl) (λ other. absurd (other refl)))))
            (marks p is);
        idle = λ j below. put_cases (λ v. v.live ≡ false → (q : ℕ) → q < ROW_PLACES → (m'.word (spot j q) ≡ 0) × (m'.stands (spot j q) ≡ false)) crew k (row_with ds) j
            (λ here dead. absurd (cc))
            (λ other dead q b. let was = r.idle j below dead q b in
            (f.words j q other b ∙ was.0, f.stands j q other b ∙ was.1));
      }

-- two places are one only in one row
pub spots : (k place r q : ℕ) → r ≢ k → place < ROW_PLACES → q < ROW_PLACES → spot r q ≢ spot k place
spots k place r q other a b same = other (omega (arith, same, a, b))

pub spots_in : (k place q : ℕ) → q ≢ place → spot k q ≢ spot k place
spots_in k place q other same = other (omega (arith, same))

pub store_frame : (m : Machine) (k place w : ℕ) → place < ROW_PLACES → Frame m (stored m (spot k place) w) k
store_frame m k place w below = record {
  words = λ r q other b. put_else m.word (spot k place) w (spot r q) (spots k place r q other below b);
  stands = λ r q other b. put_else m.stands (spot k place) false (spot r q) (spots k place r q other below b);
  marks = λ p r other. refl;
  reads = λ p n r other is. refl;
}

put_in : {A : Type 0} → (f g : ℕ → A) (k place q : ℕ) (x : A) → f q ≡ g (spot k q) → put f place x q ≡ put g (spot k place) x (spot k q)
put_in f g k place q x same = put_cases (λ y. y ≡ put g (spot k place) x (spot k q)) f place x q
    (λ here. sym (put_at g (spot k place) x (spot k q) (ap (spot k) here)))
    (λ other. same ∙ sym (put_else g (spot k place) x (spot k q) (spots_in k place q other)))

pub store_knows : (pages : ℕ) (m : Machine) (k place w : ℕ) (log : List Deed) → KnowsRow pages m k log → KnowsRow pages (stored m (spot k place) w) k (Stored place w ∷ log)
store_knows pages m k place w log know = record {
  word = λ q b. put_in (word_of log) m.word k place q w (know.word q b);
  stands = λ q b. put_in (stands_of log) m.stands k place q false (know.stands q b);
  marks = know.marks;
  reads = know.reads;
}

-- the place stands
abbrev pub stood : Machine → ℕ → Machine
stood m n = record m { stands = put m.stands n true }

pub stand_frame : (m : Machine) (k place : ℕ) → place < ROW_PLACES → Frame m (stood m (spot k place)) k
stand_frame m k place below = record {
  words = λ r q other b. refl;
  stands = λ r q other b. put_else m.stands (spot k place) true (spot r q) (spots k place r q other below b);
  marks = λ p r other. refl;
  reads = λ p n r other is. refl;
}

pub stand_knows : (pages : ℕ) (m : Machine) (k place : ℕ) (log : List Deed) → KnowsRow pages m k log → KnowsRow pages (stood m (spot k place)) k (Stood place ∷ log)
stand_knows pages m k place log know = record {
  word = know.word;
  stands = λ q b. put_in (stands_of log) m.stands k place q true (know.stands q b);
  marks = know.marks;
  reads = know.reads;
}

-- nothing happens
pub same_frame : (m : Machine) (k : ℕ) → Frame m m k
same_frame m k = record { words = λ r q other b. refl; stands = λ r q other b. refl; marks = λ p r other. refl; reads = λ p n r other is. refl }

-- a read of a place by k
pub read_frame : (pages : ℕ) (m : Machine) (k n : ℕ) → Frame m (read_off pages m k n) k
read_frame pages m k n = record {
  words = λ r q other b. refl;
  stands = λ r q other b. refl;
  marks = λ p r other. refl;
  reads = λ p i r other is. grind (arith, nat_tests, other, is);
}

picked : (c : Bool) (f f' g g' : ℕ → Bool) (n : ℕ) → f n ≡ f' n → g n ≡ g' n → (if c then f else g) n ≡ (if c then f' else g') n
picked true f f' g g' n x y = x
picked false f f' g g' n x y = y

pub read_knows : (pages : ℕ) (m : Machine) (k row place w : ℕ) (log : List Deed) → w ≡ m.word (spot row place) → KnowsRow pages m k log
    → KnowsRow pages (read_off pages m k (spot row place)) k (Found row place w ∷ log)
read_knows pages m k row place w log is know = record {
  word = know.word;
  stands = know.stands;
  marks = know.marks;
  reads = λ p n mine.
      let test : Bool = (m.mark p == k + 1) && not (names pages (m.word (spot row place)) p) in
      let tests : (marks_of log p && not (names pages w p)) ≡ test = λ i. know.marks p i && not (names pages (is i) p) in
      ap (λ (c : Bool). (if c then put (reads_of pages log p) (spot row place) true else reads_of pages log p) n) tests
      ∙ picked test (put (reads_of pages log p) (spot row place) true) (put (m.read p) (spot row place) true) (reads_of pages log p) (m.read p) n
      (put_cases (λ y. y ≡ put (m.read p) (spot row place) true n) (reads_of pages log p) (spot row place) true n
      (λ here. sym (put_at (m.read p) (spot row place) true n here))
      (λ other. know.reads p n mine ∙ sym (put_else (m.read p) (spot row place) true n other)))
      (know.reads p n mine);
}

-- k marks a page, or takes its mark off
pub mark_frame : (m : Machine) (k page mark : ℕ) → (m.mark page ≡ 0) ⊎ (m.mark page ≡ k + 1) → (mark ≡ 0) ⊎ (mark ≡ k + 1) → Frame m (marked m page mark) k
mark_frame m k page mark was is = record {
  words = λ r q other b. refl;
  stands = λ r q other b. refl;
  marks = λ p r other. put_cases (λ y. (y == r + 1) ≡ (m.mark p == r + 1)) m.mark page mark p
      (λ here. both_false (mark == r + 1) (m.mark p == r + 1) (foreign mark r other is) (ap (λ x. m.mark x == r + 1) here ∙ foreign (m.mark page) r other was)) (λ _. refl);
  reads = λ p n r other mine. ap (λ (f : ℕ → Bool). f n) (put_else m.read page (λ _. false) p
      (λ here. let a : m.mark page ≡ r + 1 = ap m.mark (sym here) ∙ mine in ⊎_elim (λ z. omega (arith, z, a)) (λ z. other (omega (arith, z, a))) was));
}
  where
    foreign : (x r : ℕ) → r ≢ k → (x ≡ 0) ⊎ (x ≡ k + 1) → (x == r + 1) ≡ false
    foreign x r other c = ⊎_elim (λ z. grind (arith, nat_tests, z)) (λ z. grind (arith, nat_tests, z, other)) c

    both_false : (a b : Bool) → a ≡ false → b ≡ false → a ≡ b
    both_false a b x y = x ∙ sym y

pub mark_knows : (pages : ℕ) (m : Machine) (k page : ℕ) (log : List Deed) → KnowsRow pages m k log → KnowsRow pages (marked m page (k + 1)) k (Marked page ∷ log)
mark_knows pages m k page log know = record {
  word = know.word;
  stands = know.stands;
  marks = λ p. put_cases (λ y. y ≡ (put m.mark page (k + 1) p == k + 1)) (marks_of log) page true p
      (λ here. let now : put m.mark page (k + 1) p ≡ k + 1 = put_at m.mark page (k + 1) p here in grind (arith, nat_tests, now))
      (λ other. know.marks p ∙ ap (λ (x : ℕ). x == k + 1) (sym (put_else m.mark page (k + 1) p other)));
  reads = λ p n mine. put_cases (λ (f : ℕ → Bool). f n ≡ put m.read page (λ _. false) p n) (reads_of pages log) page (λ _. false) p
      (λ here. ap (λ (f : ℕ → Bool). f n) (sym (put_at m.read page (λ _. false) p here)))
      (λ other. know.reads p n (sym (put_else m.mark page (k + 1) p other) ∙ mine) ∙ ap (λ (f : ℕ → Bool). f n) (sym (put_else m.read page (λ _. false) p other)));
}

pub unmark_knows : (pages : ℕ) (m : Machine) (k page : ℕ) (log : List Deed) → KnowsRow pages m k log → KnowsRow pages (marked m page 0) k (Unmarked page ∷ log)
unmark_knows pages m k page log know = record {
  word = know.word;
  stands = know.stands;
  marks = λ p. put_cases (λ y. y ≡ (put m.mark page 0 p == k + 1)) (marks_of log) page false p
      (λ here. let now : put m.mark page 0 p ≡ 0 = put_at m.mark page 0 p here in grind (arith, nat_tests, now))
      (λ other. know.marks p ∙ ap (λ (x : ℕ). x == k + 1) (sym (put_else m.mark page 0 p other)));
  reads = λ p n mine. put_cases (λ (f : ℕ → Bool). f n ≡ put m.read page (λ _. false) p n) (reads_of pages log) page (λ _. false) p
      (λ here. ap (λ (f : ℕ → Bool). f n) (sym (put_at m.read page (λ _. false) p here)))
      (λ other. know.reads p n (sym (put_else m.mark page 0 p other) ∙ mine) ∙ ap (λ (f : ℕ → Bool). f n) (sym (put_else m.read page (λ _. false) p other)));
}

-- the moves of commits join the events, each a step
module _ (pages : ℕ) (m : Machine) (crew : ℕ → RowView) where
  move_part : (done : List Event) → RowsRule pages done m crew → (k page : ℕ) → k < ROWS → page < pages → Cleared m k page → RowsRule pages (done ++ Move k page ∷ []) m crew
  move_part done r k page row low cleared =
      let at : run pages r.events opening ≡ m = r.is in
      let may : admits pages m (Move k page) ≡ true = grind (arith, nat_tests, row, low, cleared.0) in
      let step : IsStep pages (run pages r.events opening) (Move k page) = subst (λ x. IsStep pages x (Move k page)) (sym at) (may, cleared) in
      record {
        events = r.events ++ Move k page ∷ [];
        moved = moves-append r.events (Move k page ∷ []) ∙ ap (λ (l : List Event). l ++ Move k page ∷ []) r.moved;
        is = run-append pages r.events (Move k page ∷ []) opening ∙ (ap (λ x. after pages x (Move k page)) at ∙ after_is pages m (Move k page) may);
        steps = steps_snoc pages r.events (Move k page) opening r.steps step;
        known = r.known;
        marked = r.marked;
        idle = r.idle;
      }

  pub moves_part : (done : List Event) → RowsRule pages done m crew → (k : ℕ) → k < ROWS → (ps : List ℕ)
      → ((p : ℕ) → is_in p ps ≡ true → (p < pages) × Cleared m k p) → RowsRule pages (done ++ moves_from k ps) m crew
  moves_part done r k row [] each = subst (λ l. RowsRule pages l m crew) (sym (append_none done [] refl)) r
  moves_part done r k row (p ∷ ps) each =
      let here = each p (grind (arith, nat_tests)) in
      let first : RowsRule pages (done ++ Move k p ∷ []) m crew = move_part done r k p row here.0 here.1 in
      subst (λ l. RowsRule pages l m crew) (append_assoc done (Move k p ∷ []) (moves_from k ps))
      (moves_part (done ++ Move k p ∷ []) first k row ps (λ q is. each q (grind (arith, nat_tests, is))))
