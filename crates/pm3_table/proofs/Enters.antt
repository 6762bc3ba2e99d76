-- What the parts of the rule become when a new mutator enters.
use Rattle.std.proofs.Common.{◌≡◌, ◌≢◌, ◌⊎◌, ℕ, ◌+◌, ◌<◌, ◌≤◌, ◌==◌, ◌||◌, Bool, true, false, if◌then◌else◌, List, [], ◌∷◌, refl, sym, ap, ◌∙◌, subst, inl, inr, ⊎_elim, arith}
use Rattle.std.proofs.lemmas.Bool.Decides.{nat_tests}
use mathlib.Core.Option as maybe
use mathlib.Core.Logic.{dite}
use native.Mathlib.Decide.{ℕ_discrete}
use Rattle.pm3_core.specs.declared.events.TheConstants.{ROWS, ROW_PLACES}
use Rattle.pm3_core.specs.declared.events.Event.{Event}
use Rattle.pm3_core.specs.Machine.{Machine, put, spot}
use Rattle.pm3_history.specs.Entry.{Done}
use Rattle.pm3_table.specs.Crew.{total}
use Rattle.pm3_table.specs.Histories.{some_has, by}
use Rattle.pm3_table.specs.Holds.{holds_of, spans_of, is_in}
use Rattle.pm3_table.specs.Rows.{RowView, RowsRule, KnowsRow, row_with}
use Rattle.pm3_table.specs.Units.{UnitView, UnitsRule, KnowsUnits}
use Rattle.pm3_table.specs.Pages.{PageView, PagesRule}
use Rattle.pm3_table.specs.Words.{space_unit}
use Rattle.pm3_table.specs.Draws.{DrawView, DrawsRule, is_drawing, drew}
use Rattle.pm3_table.specs.Names.{NameView, NamesRule}
use Rattle.pm3_table.specs.Counts.{CountView, CountsRule, counts, counted_under, is_kept, kept_under, Distinct}
use Rattle.pm3_table.specs.Lost.{LostView, LostRule}
use Rattle.pm3_table.proofs.Put.{put_at, put_here, put_else, put_cases, put_map}
use Rattle.pm3_table.proofs.Totals.{total_put}
use Rattle.pm3_table.proofs.UnitsKept.{unit_with}
use Rattle.pm3_table.proofs.PagesKept.{yes_or_no, page_with}
use Rattle.pm3_table.proofs.NamesKept.{name_with, count_with}
use Rattle.pm3_table.proofs.LostKept.{lost_with}

not_test : (x n : ℕ) → x ≢ n + 1 → (x == n + 1) ≡ false
not_test x n o = grind (arith, nat_tests, o)

pub not_dead : {b : Bool} (X : Type 0) → b ≡ true → b ≡ false → X
not_dead X a b = absurd (cc)

first_in : (n : ℕ) (xs : List ℕ) → is_in n (n ∷ xs) ≡ true
first_in n xs = grind (arith, nat_tests)

later_in : (x n : ℕ) (xs : List ℕ) → is_in x xs ≡ true → is_in x (n ∷ xs) ≡ true
later_in x n xs is = grind (arith, nat_tests, is)

not_first_in : (x n : ℕ) (xs : List ℕ) → x ≢ n → is_in x (n ∷ xs) ≡ true → is_in x xs ≡ true
not_first_in x n xs o is = grind (arith, nat_tests, o, is)

pub same_test : (n x : ℕ) → n ≡ x → (n == x) ≡ true
same_test n x e = grind (arith, nat_tests, e)

pub is_same : (n x : ℕ) → (n == x) ≡ true → n ≡ x
is_same n x e = grind (arith, nat_tests, e)

or_false : (a b : Bool) → b ≡ false → (a || b) ≡ true → a ≡ true
or_false true b e t = refl
or_false false b e t = absurd (cc)

pub rows_enter : (pages : ℕ) (m : Machine) (crew : ℕ → RowView) (done : List Event) → RowsRule pages done m crew → (n : ℕ) → n < ROWS → (crew n).live ≡ false → RowsRule pages done m (put crew n (row_with []))
rows_enter pages m crew done r n low dead = record {
  events = r.events;
  moved = r.moved;
  is = r.is;
  steps = r.steps;
  known = λ j. put_cases (λ v. v.live ≡ true → KnowsRow pages m j v.log) crew n (row_with []) j
      (λ here _. subst (λ (i : ℕ). KnowsRow pages m i []) (sym here) (record {
        word = λ q b. sym (r.idle n low dead q b).0;
        stands = λ q b. sym (r.idle n low dead q b).1;
        marks = λ p. sym (unmarked p);
        reads = λ p i is. absurd (other p is);
      }))
      (λ _ live. r.known j live);
  marked = λ p is. let was = r.marked p is in (was.0, (was.1.0, was.1.1, put_cases (λ v. v.live ≡ true) crew n (row_with []) was.1.0 (λ _. refl) (λ _. was.1.2)));
  idle = λ j below. put_cases (λ v. v.live ≡ false → (q : ℕ) → q < ROW_PLACES → (m.word (spot j q) ≡ 0) × (m.stands (spot j q) ≡ false)) crew n (row_with []) j (λ _ e. absurd (cc)) (λ _. r.idle j below);
}
  where
    other : (p : ℕ) → m.mark p ≢ n + 1
    other p is = let was = (r.marked p (λ z. omega (arith, z, is))).1 in let same : was.0 ≡ n = (let e = was.1 in omega (arith, e, is)) in
        not_dead ⊥ was.2 (ap (λ (i : ℕ). (crew i).live) same ∙ dead)

    unmarked : (p : ℕ) → (m.mark p == n + 1) ≡ false
    unmarked p = grind (arith, nat_tests, other p)

pub units_enter : {S : Type 0} (good : List Done → ℕ → S → Type 0) (count : S → ℕ) (turn : ℕ) (names : Done → ℕ → Bool) (holder : ℕ → ℕ) (history : List Done) (homes : List (maybe.Option S)) (crew : ℕ → UnitView)
    → UnitsRule good count turn names holder history homes crew → (k n : ℕ) → (crew k).live ≡ true → (crew n).live ≡ false
    → UnitsRule good count turn names holder history homes (put crew n (unit_with [] (crew k).seen (crew k).faults))
units_enter good count turn names holder history homes crew r k n alive dead =
    let w : UnitView = unit_with [] (crew k).seen (crew k).faults in
    let other : (u : ℕ) → holder u ≢ n + 1 = λ u is. let was = (r.held u (λ z. omega (arith, z, is))).1 in let same : was.0 ≡ n = (let e = was.1 in omega (arith, e, is)) in
    not_dead ⊥ was.2 (ap (λ (i : ℕ). (crew i).live) same ∙ dead) in
    let know = r.known k alive in
    let still : (j : ℕ) → (crew j).live ≡ true → (put crew n w j).live ≡ true = λ j live. put_cases (λ v. v.live ≡ true) crew n w j (λ _. refl) (λ _. live) in
    let alike : (j : ℕ) → (crew j).live ≡ true → put crew n w j ≡ crew j = λ j live. put_else crew n w j (λ e. not_dead ⊥ live (ap (λ (i : ℕ). (crew i).live) e ∙ dead)) in
    record {
      deep = r.deep;
      home = r.home;
      out = r.out;
      held = λ u is. let was = r.held u is in (was.0, (was.1.0, was.1.1, still was.1.0 was.1.2));
      known = λ j. put_cases (λ v. v.live ≡ true → KnowsUnits names history holder j v) crew n w j
          (λ here _. subst (λ (i : ℕ). KnowsUnits names history holder i w) (sym here) (record {
            holds = λ u. sym (not_test (holder u) n (other u));
            after = know.after;
            is = know.is;
            apart = λ u is. absurd (other u is);
          }))
          (λ _ live. r.known j live);
      turn_sees = λ j is. let was = (r.held turn (λ z. omega (arith, z, is))).1 in let same : was.0 ≡ j = (let e = was.1 in omega (arith, e, is)) in
          r.turn_sees j is ∙ ap (λ (v : UnitView). v.seen) (sym (alike j (ap (λ (i : ℕ). (crew i).live) (sym same) ∙ was.2)));
      one_sees = (r.one_sees.0, still r.one_sees.0 r.one_sees.1, r.one_sees.2 ∙ ap (λ (v : UnitView). v.seen) (sym (alike r.one_sees.0 r.one_sees.1)));
      heard = λ x at j. put_cases (λ v. v.live ≡ true → v.faults ≤ count x) crew n w j (λ _ _. r.heard x at k alive) (λ _ live. r.heard x at j live);
      heard_out = λ i is j. let was = (r.held turn (λ z. omega (arith, z, is))).1 in let same : was.0 ≡ i = (let e = was.1 in omega (arith, e, is)) in
          let i_is = alike i (ap (λ (m : ℕ). (crew m).live) (sym same) ∙ was.2) in
          put_cases (λ v. v.live ≡ true → v.faults ≤ (put crew n w i).faults) crew n w j
          (λ _ _. subst (λ (v : UnitView). (crew k).faults ≤ v.faults) (sym i_is) (r.heard_out i is k alive))
          (λ _ live. subst (λ (v : UnitView). (crew j).faults ≤ v.faults) (sym i_is) (r.heard_out i is j live));
    }

pub pages_enter : {S : Type 0} (empty : S) (spans : S → List ℕ) (pages frontier : ℕ) (refers : Done → ℕ → Bool) (keeps : ℕ → Done → ℕ → Bool) (top : ℕ) (used : ℕ → Bool) (mark space holder : ℕ → ℕ) (history : List Done) (homes : List (maybe.Option S)) (crew : ℕ → PageView)
    → PagesRule empty spans pages frontier refers keeps top used mark space holder history homes crew → (k n : ℕ) → (crew k).live ≡ true
    → PagesRule empty spans pages frontier refers keeps top used mark space holder history homes (put crew n (page_with [] [] (crew k).steady []))
pages_enter empty spans pages frontier refers keeps top used mark space holder history homes crew r k n alive =
    let w : PageView = page_with [] [] (crew k).steady [] in record {
      opened = r.opened;
      low = r.low;
      blank = r.blank;
      bare = r.bare;
      volatile = r.volatile;
      marks = r.marks;
      at_home = r.at_home;
      held = λ i. put_cases (λ v. v.live ≡ true → (j : ℕ) → j < 32 → holds_of v.holds (space_unit pages j) ≡ true → (p : ℕ) → spans_of v.spans (space_unit pages j) p ≡ (space p == j + 1)) crew n w i (λ _ _ j _ e. absurd (cc)) (λ _. r.held i);
      steady = λ i. put_cases (λ v. v.live ≡ true → (p : ℕ) → is_in p v.steady ≡ true → (used p ≡ true) × (space p ≡ 0)) crew n w i (λ _ _. r.steady k alive) (λ _. r.steady i);
      drawn = λ i. put_cases (λ v. v.live ≡ true → (p : ℕ) → is_in p v.pages ≡ true → (frontier ≤ p) × (p < pages) × (p < top) × (used p ≡ false)) crew n w i (λ _ _ p e. absurd (cc)) (λ _. r.drawn i);
      apart = λ i j p. put_cases (λ v. v.live ≡ true → (put crew n w j).live ≡ true → is_in p v.pages ≡ true → is_in p (put crew n w j).pages ≡ true → i ≡ j) crew n w i
          (λ _ _ _ e _. absurd (cc))
          (λ _ li. put_cases (λ v. v.live ≡ true → is_in p (crew i).pages ≡ true → is_in p v.pages ≡ true → i ≡ j) crew n w j (λ _ _ _ e. absurd (cc)) (λ _ lj. r.apart i j p li lj));
      named = r.named;
      written = r.written;
      kept = r.kept;
    }

pub names_enter : (makes : Done → ℕ → Bool) (first top : ℕ) (history : List Done) (crew : ℕ → NameView) → NamesRule makes first top history crew → (n : ℕ) → NamesRule makes first top history (put crew n (name_with []))
names_enter makes first top history crew r n =
    let w : NameView = name_with [] in record {
      low = r.low;
      drawn = λ i. put_cases (λ v. v.live ≡ true → (x : ℕ) → is_in x v.names ≡ true → (first ≤ x) × (x < top) × (some_has makes history x ≡ false)) crew n w i (λ _ _ x e. absurd (cc)) (λ _. r.drawn i);
      apart = λ i j p. put_cases (λ v. v.live ≡ true → (put crew n w j).live ≡ true → is_in p v.names ≡ true → is_in p (put crew n w j).names ≡ true → i ≡ j) crew n w i
          (λ _ _ _ e _. absurd (cc))
          (λ _ li. put_cases (λ v. v.live ≡ true → is_in p (crew i).names ≡ true → is_in p v.names ≡ true → i ≡ j) crew n w j (λ _ _ _ e. absurd (cc)) (λ _ lj. r.apart i j p li lj));
    }

-- two views change, and count together what they counted
pub draws_two : (limit first counter : ℕ → ℕ) (crew : ℕ → DrawView) → DrawsRule limit first counter crew → (i j : ℕ) → i < 32 → j < 32 → i ≢ j → (w u : DrawView)
    → (w.live ≡ true → (c : ℕ) → is_in c w.filled ≡ true → limit c ≤ counter c) → (u.live ≡ true → (c : ℕ) → is_in c u.filled ≡ true → limit c ≤ counter c)
    → ((c : ℕ) → c < 3 → drew c w + drew c u ≡ drew c (crew i) + drew c (crew j)) → ((c : ℕ) → is_drawing c w + is_drawing c u ≡ is_drawing c (crew i) + is_drawing c (crew j))
    → DrawsRule limit first counter (put (put crew i w) j u)
draws_two limit first counter crew r i j below_i below_j apart w u fill_w fill_u drawn busy =
    let other : put crew i w j ≡ crew j = put_else crew i w j (λ e. apart (sym e)) in record {
      full = λ n. put_cases (λ v. v.live ≡ true → (c : ℕ) → is_in c v.filled ≡ true → limit c ≤ counter c) (put crew i w) j u n
          (λ _. fill_u)
          (λ _. put_cases (λ v. v.live ≡ true → (c : ℕ) → is_in c v.filled ≡ true → limit c ≤ counter c) crew i w n (λ _. fill_w) (λ _. r.full n));
      excess = λ c low past. let a = r.excess c low past in let b = two (is_drawing c) w u below_i below_j other in omega (arith, a, b, busy c);
      sum = λ c low. let a = r.sum c low in let b = two (drew c) w u below_i below_j other in let d = drawn c low in omega (arith, a, b, d);
    }
  where
    two : (f : DrawView → ℕ) (w u : DrawView) → i < 32 → j < 32 → put crew i w j ≡ crew j → total 32 (λ n. f (put (put crew i w) j u n)) + (f (crew i) + f (crew j)) ≡ total 32 (λ n. f (crew n)) + (f w + f u)
    two f w u bi bj other =
        let a = subst (λ (g : ℕ → ℕ). total 32 g + f (crew i) ≡ total 32 (λ n. f (crew n)) + f w) (sym (put_map f crew i w)) (total_put 32 (λ n. f (crew n)) i (f w) bi) in
        let b = subst (λ (g : ℕ → ℕ). total 32 g + f (put crew i w j) ≡ total 32 (λ n. f (put crew i w n)) + f u) (sym (put_map f (put crew i w) j u)) (total_put 32 (λ n. f (put crew i w n)) j (f u) bj) in
        let c : f (put crew i w j) ≡ f (crew j) = ap f other in
        omega (arith, a, b, c)

pub lost_enter : (turn_holder : ℕ) (lost : List Done) (crew : ℕ → LostView) → LostRule turn_holder lost crew → (n : ℕ) → (crew n).live ≡ false → turn_holder ≢ n + 1 → LostRule turn_holder lost (put crew n (lost_with [] []))
lost_enter turn_holder lost crew r n dead away =
    let w : LostView = lost_with [] [] in ⊎_elim
    (λ none_lost. record {
      bearer = r.bearer;
      lives = inl none_lost;
      bears = put_cases (λ v. v.live ≡ true → v.failed ≡ lost) crew n w r.bearer (λ _ _. sym none_lost) (λ _. r.bears);
      others = λ k. put_cases (λ v. v.live ≡ true → k ≢ r.bearer → v.failed ≡ []) crew n w k (λ _ _ _. refl) (λ _. r.others k);
      turn_knows = λ k is. ap (λ (v : LostView). v.lost) (put_else crew n w k (λ e. away (is ∙ ap (λ (i : ℕ). i + 1) e))) ∙ r.turn_knows k is;
    })
    (λ live. let same : put crew n w r.bearer ≡ crew r.bearer = put_else crew n w r.bearer (λ e. not_dead ⊥ live (ap (λ (i : ℕ). (crew i).live) e ∙ dead)) in record {
      bearer = r.bearer;
      lives = inr (ap (λ (v : LostView). v.live) same ∙ live);
      bears = λ _. ap (λ (v : LostView). v.failed) same ∙ r.bears live;
      others = λ k. put_cases (λ v. v.live ≡ true → k ≢ r.bearer → v.failed ≡ []) crew n w k (λ _ _ _. refl) (λ _. r.others k);
      turn_knows = λ k is. ap (λ (v : LostView). v.lost) (put_else crew n w k (λ e. away (is ∙ ap (λ (i : ℕ). i + 1) e))) ∙ r.turn_knows k is;
    })
    r.lives

-- the view of mutator j after the row n that k drew got its mutator
pub counts_enter : (made : ℕ) (history : List Done) (crew : ℕ → CountView) → CountsRule made history crew → (k n : ℕ) (rows : List ℕ) → (crew k).live ≡ true → (crew k).rows ≡ n ∷ rows
    → CountsRule made history (put (put crew k (count_with rows (crew k).mine (crew k).kept)) n (count_with [] [] []))
counts_enter made history crew r k n rows alive drew =
    let w : CountView = count_with rows (crew k).mine (crew k).kept in
    let u : CountView = count_with [] [] [] in
    let c : ℕ → CountView = put (put crew k w) n u in
    let was_in : is_in n (crew k).rows ≡ true = ap (is_in n) drew ∙ first_in n rows in
    let fresh = r.drawn k n alive was_in in
    let owner = r.one k n alive (inr was_in) in
    let apart : k ≢ n = λ e. not_dead ⊥ alive (ap (λ (i : ℕ). (crew i).live) e ∙ fresh.0) in
    let gone : is_in n rows ≡ false = (subst Distinct drew (r.once k alive)).0 in
    let now : (j : ℕ) → j ≢ n → c j ≡ put crew k w j = λ j o. put_else (put crew k w) n u j o in
    let was : (j : ℕ) → j ≢ n → (c j).live ≡ true → (crew j).live ≡ true = λ j o live. put_cases (λ v. v.live ≡ true → (crew j).live ≡ true) crew k w j (λ e _. ap (λ (i : ℕ). (crew i).live) e ∙ alive) (λ _ x. x) (ap (λ (v : CountView). v.live) (sym (now j o)) ∙ live) in
    let count_same : (j x : ℕ) → j ≢ n → counts j (c j) x ≡ counts j (crew j) x = λ j x o. ap (λ (v : CountView). counts j v x) (now j o) ∙ put_cases (λ v. counts j v x ≡ counts j (crew j) x) crew k w j (λ e. ap (λ (i : ℕ). (j == x) || is_kept (crew i).kept x) (sym e)) (λ _. refl) in
    let under_same : (j x : ℕ) → j ≢ n → counted_under j (c j) x ≡ counted_under j (crew j) x = λ j x o. ap (λ (v : CountView). counted_under j v x) (now j o) ∙ put_cases (λ v. counted_under j v x ≡ counted_under j (crew j) x) crew k w j (λ e. ap (λ (i : ℕ). if j == x then (crew i).mine else kept_under (crew i).kept x) (sym e)) (λ _. refl) in
    let rows_was : (j x : ℕ) → j ≢ n → is_in x (c j).rows ≡ true → is_in x (crew j).rows ≡ true = λ j x o is. put_cases (λ v. is_in x v.rows ≡ true → is_in x (crew j).rows ≡ true) crew k w j
    (λ e y. ap (λ (i : ℕ). is_in x (crew i).rows) e ∙ (ap (is_in x) drew ∙ later_in x n rows y)) (λ _ y. y) (ap (λ (v : CountView). is_in x v.rows) (sym (now j o)) ∙ is) in
    let rows_apart : (j x : ℕ) → (o : j ≢ n) → (c j).live ≡ true → is_in x (c j).rows ≡ true → x ≢ n = λ j x o live is same. dite (ℕ_discrete j k)
    (λ e. not_dead ⊥ (ap (λ (v : CountView). is_in x v.rows) (sym (now j o ∙ put_at crew k w j e)) ∙ is) (ap (λ (i : ℕ). is_in i rows) same ∙ gone))
    (λ e. e (sym (r.one j x (was j o live) (inr (rows_was j x o is))).1 ∙ (ap r.keeper same ∙ owner.1))) in
    let here : c n ≡ u = put_here (put crew k w) n u in
    let not_counted : (j : ℕ) → (c j).live ≡ true → j ≢ n → counts j (crew j) n ≡ false = λ j live o. ⊎_elim
    (λ y. let own = (r.one j n (was j o live) (inl y)).1 in let is_k : j ≡ k = sym own ∙ owner.1 in not_dead (counts j (crew j) n ≡ false) y (ap (λ (i : ℕ). counts i (crew i) n) is_k ∙ fresh.2)) (λ x. x) (yes_or_no (counts j (crew j) n)) in
    record {
      low = r.low;
      keeper = put r.keeper n n;
      lives = λ x below. put_cases (λ i. (c i).live ≡ true) r.keeper n n x
          (λ _. ap (λ (v : CountView). v.live) here)
          (λ o. put_cases (λ v. v.live ≡ true) (put crew k w) n u (r.keeper x) (λ _. refl) (λ _. put_cases (λ v. v.live ≡ true) crew k w (r.keeper x) (λ _. refl) (λ _. r.lives x below)));
      kept = λ x below. put_cases (λ i. (counts i (c i) x ≡ true) ⊎ (is_in x (c i).rows ≡ true)) r.keeper n n x
          (λ e. inl (λ i. same_test n x (sym e) i || is_kept (c n).kept x))
          (λ o. let other : r.keeper x ≢ n = (λ e. not_dead ⊥ (r.lives x below) (ap (λ (i : ℕ). (crew i).live) e ∙ fresh.0)) in ⊎_elim
          (λ a. inl (count_same (r.keeper x) x other ∙ a))
          (λ a. inr (ap (λ (v : CountView). is_in x v.rows) (now (r.keeper x) other) ∙ put_cases (λ v. is_in x v.rows ≡ true) crew k w (r.keeper x)
          (λ e. not_first_in x n rows o (ap (is_in x) (sym drew) ∙ (ap (λ (i : ℕ). is_in x (crew i).rows) (sym e) ∙ a))) (λ _. a)))
          (r.kept x below));
      one = λ j x live either. dite (ℕ_discrete j n)
          (λ e. let mine : x ≡ n = ⊎_elim
          (λ a. let b : (j == x) ≡ true = or_false (j == x) (is_kept (c j).kept x) (ap (λ (v : CountView). is_kept v.kept x) (ap c e ∙ here)) a in sym (is_same j x b) ∙ e)
          (λ a. not_dead (x ≡ n) a (ap (λ (v : CountView). is_in x v.rows) (ap c e ∙ here))) either in
          (subst (λ (i : ℕ). i < made) (sym mine) owner.0, ap (put r.keeper n n) mine ∙ (put_here r.keeper n n ∙ sym e)))
          (λ o. let had = r.one j x (was j o live) (⊎_elim (λ a. inl (sym (count_same j x o) ∙ a)) (λ a. inr (rows_was j x o a)) either) in
          let other : x ≢ n = ⊎_elim (λ a same. not_dead ⊥ (sym (count_same j x o) ∙ a) (ap (counts j (crew j)) same ∙ not_counted j live o)) (λ a. rows_apart j x o live a) either in
          (had.0, put_else r.keeper n n x other ∙ had.1));
      entries = λ j x live is. dite (ℕ_discrete j n)
          (λ e. let b : (j == x) ≡ true = or_false (j == x) (is_kept (c j).kept x) (ap (λ (v : CountView). is_kept v.kept x) (ap c e ∙ here)) is in let mine : x ≡ n = sym (is_same j x b) ∙ e in
          ap (λ (t : Bool). if t then (c j).mine else kept_under (c j).kept x) b ∙ (ap (λ (v : CountView). v.mine) (ap c e ∙ here) ∙ (sym fresh.1 ∙ ap (λ (i : ℕ). by i history) (sym mine))))
          (λ o. under_same j x o ∙ r.entries j x (was j o live) (sym (count_same j x o) ∙ is));
      drawn = λ j x live is. dite (ℕ_discrete j n)
          (λ e. not_dead (((c x).live ≡ false) × (by x history ≡ []) × (counts j (c j) x ≡ false)) is (ap (λ (v : CountView). is_in x v.rows) (ap c e ∙ here)))
          (λ o. let had = r.drawn j x (was j o live) (rows_was j x o is) in let other = rows_apart j x o live is in
          (ap (λ (v : CountView). v.live) (now x other) ∙ put_cases (λ v. v.live ≡ false) crew k w x (λ e. not_dead (w.live ≡ false) alive (ap (λ (i : ℕ). (crew i).live) (sym e) ∙ had.0)) (λ _. had.0), had.1, count_same j x o ∙ had.2));
      once = λ j. put_cases (λ v. v.live ≡ true → Distinct v.rows) (put crew k w) n u j (λ _ _. tt)
          (λ _. put_cases (λ v. v.live ≡ true → Distinct v.rows) crew k w j (λ _ _. (subst Distinct drew (r.once k alive)).1) (λ _. r.once j));
    }
