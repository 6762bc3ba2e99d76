-- What the parts of the rule become when one mutator takes in another, which ends.
use Rattle.std.proofs.Common.{◌≡◌, ◌≢◌, ◌⊎◌, ℕ, ◌+◌, ◌<◌, ◌≤◌, ◌==◌, nat_lt, Bool, true, false, if◌then◌else◌, max, List, [], ◌∷◌, ◌++◌, append_assoc, length, length-append, drop, drop_of_length-le, refl, sym, ap, ◌∙◌, subst, inl, inr, ⊎_elim, arith}
use Rattle.std.proofs.lemmas.Bool.Decides.{nat_tests}
use Rattle.std.proofs.lemmas.List.{drop_at}
use mathlib.Core.Option as maybe
use mathlib.Core.Option.{some}
use mathlib.Core.Logic.{dite}
use native.Mathlib.Decide.{ℕ_discrete}
use Rattle.pm3_core.specs.declared.events.TheConstants.{ROW_PLACES}
use Rattle.pm3_core.specs.declared.events.Event.{Event}
use Rattle.pm3_core.specs.Naming.{Names, page_in}
use Rattle.pm3_core.specs.Machine.{Machine, put, spot}
use Rattle.pm3_core.proofs.Stood.{reached_named}
use Rattle.pm3_history.specs.Entry.{Done}
use Rattle.pm3_table.specs.Histories.{some_has, NoneHas}
use Rattle.pm3_table.specs.Deeds.{word_of, marks_of}
use Rattle.pm3_table.specs.Holds.{holds_of, spans_of, is_in}
use Rattle.pm3_table.specs.Rows.{RowView, RowsRule, KnowsRow}
use Rattle.pm3_table.specs.Seats.{beyond}
use Rattle.pm3_table.specs.Units.{UnitView, UnitsRule, KnowsUnits}
use Rattle.pm3_table.specs.Pages.{PageView, PagesRule}
use Rattle.pm3_table.specs.Words.{space_unit}
use Rattle.pm3_table.specs.Names.{NameView, NamesRule}
use Rattle.pm3_table.specs.Lost.{LostView, LostRule}
use Rattle.pm3_table.proofs.Put.{put_at, put_here, put_else, put_cases}
use Rattle.pm3_table.proofs.Has.{none_right}
use Rattle.pm3_table.proofs.UnitsKept.{unit_with}
use Rattle.pm3_table.proofs.PagesKept.{yes_or_no, page_with}
use Rattle.pm3_table.proofs.NamesKept.{name_with}
use Rattle.pm3_table.proofs.LostKept.{lost_with}
use Rattle.pm3_table.proofs.Enters.{not_dead, same_test}

no_page : (pages p : ℕ) → Names pages 0 p → ⊥
no_page pages p is = omega (arith, is.1)

pub in_either : (n : ℕ) (a b : List ℕ) → is_in n (a ++ b) ≡ true → (is_in n a ≡ true) ⊎ (is_in n b ≡ true)
in_either n [] b is = inr is
in_either n (x ∷ a) b is = dite (ℕ_discrete x n)
    (λ e. inl (grind (arith, nat_tests, e)))
    (λ o. ⊎_elim (λ y. inl (grind (arith, nat_tests, y))) inr (in_either n a b (grind (arith, nat_tests, o, is))))

-- a row of zeros without a mark goes
pub rows_leave : (pages : ℕ) (m : Machine) (crew : ℕ → RowView) (done : List Event) → RowsRule pages done m crew → (n : ℕ) (u : RowView) → u.live ≡ false → (crew n).live ≡ true
    → ((p : ℕ) → marks_of (crew n).log p ≡ false) → ((q : ℕ) → q < ROW_PLACES → word_of (crew n).log q ≡ 0) → RowsRule pages done m (put crew n u)
rows_leave pages m crew done r n u dead alive marks zeros =
    let know = r.known n alive in
    let word : (q : ℕ) → q < ROW_PLACES → m.word (spot n q) ≡ 0 = λ q b. sym (know.word q b) ∙ zeros q b in
    record {
      events = r.events;
      moved = r.moved;
      is = r.is;
      steps = r.steps;
      known = λ j. put_cases (λ v. v.live ≡ true → KnowsRow pages m j v.log) crew n u j (λ _ live. not_dead (KnowsRow pages m j u.log) live dead) (λ _ live. r.known j live);
      marked = λ p is. let was = r.marked p is in (
        was.0,
        (
          was.1.0,
          was.1.1,
          put_cases (λ v. v.live ≡ true) crew n u was.1.0
              (λ e. not_dead (u.live ≡ true) (know.marks p ∙ same_test (m.mark p) (n + 1) (was.1.1 ∙ ap (λ (i : ℕ). i + 1) e)) (marks p)) (λ _. was.1.2),
        ),
      );
      idle = λ j below. put_cases (λ v. v.live ≡ false → (q : ℕ) → q < ROW_PLACES → (m.word (spot j q) ≡ 0) × (m.stands (spot j q) ≡ false)) crew n u j
          (λ e _ q b. subst (λ (i : ℕ). (m.word (spot i q) ≡ 0) × (m.stands (spot i q) ≡ false)) (sym e) (
            word q b,
            ⊎_elim
                (λ y. absurd (no_page pages (page_in 0) (subst (λ (x : ℕ). Names pages x (page_in x)) (word q b) (subst (λ (x : Machine). x.stands (spot n q) ≡ true → Names pages (x.word (spot n q)) (page_in (x.word (spot n q)))) r.is (reached_named pages r.events (spot n q)) y))))
                (λ x. x) (yes_or_no (m.stands (spot n q))),
          ))
          (λ _. r.idle j below);
    }

-- two lists that begin one list: the longer begins with both
pub begins_with : (h a x b y : List Done) → h ≡ a ++ x → h ≡ b ++ y → length a ≤ length b → (z : List Done) × (b ≡ a ++ z)
begins_with h [] x b y p q le = (b, refl)
begins_with h (e ∷ a) x [] y p q le = absurd (omega arith)
begins_with h (e ∷ a) x (f ∷ b) y p q le =
    let same : (e ∷ (a ++ x)) ≡ (f ∷ (b ++ y)) = sym p ∙ q in
    let tails : a ++ x ≡ b ++ y = cc in
    let heads : f ≡ e = cc in
    let rest = begins_with (a ++ x) a x b y refl tails (omega (arith, le)) in
    (rest.0, λ i. heads i ∷ rest.1 i)

append_nothing : (h : List Done) → h ++ [] ≡ h
append_nothing [] = refl
append_nothing (e ∷ es) = ap (λ (l : List Done). e ∷ l) (append_nothing es)

short : (x : List Done) → length x ≡ 0 → x ≡ []
short [] z = refl
short (y ∷ ys) z = absurd (omega arith)

drop_front : (a x y : List Done) → a ++ x ≡ a ++ y → x ≡ y
drop_front [] x y e = e
drop_front (f ∷ a) x y e = drop_front a x y (cc)

-- the longer of two lists
abbrev pub longer : List Done → List Done → List Done
longer a b = if nat_lt (length a) (length b) then b else a

past : (a m : List Done) → drop (length a) (a ++ m) ≡ m
past a m = drop_at a m (length a) refl

-- of two lists that begin one list, it is the first with what the second has beyond it
pub longer_is : (h a x b y : List Done) → h ≡ a ++ x → h ≡ b ++ y → a ++ beyond a b ≡ longer a b
longer_is h a x b y p q = chosen (nat_lt (length a) (length b)) refl
  where
    chosen : (t : Bool) → nat_lt (length a) (length b) ≡ t → a ++ beyond a b ≡ (if t then b else a)
    chosen true e =
        let more = begins_with h a x b y p q (grind (arith, nat_tests, e)) in
        ap (λ (l : List Done). a ++ drop (length a) l) more.1 ∙ ap (λ (l : List Done). a ++ l) (past a more.0) ∙ sym more.1
    chosen false e = ap (λ (l : List Done). a ++ l) (drop_of_length-le b {i = length a} (grind (arith, nat_tests, e))) ∙ append_nothing a

pub longer_end : (names : Done → ℕ → Bool) (h a x b y : List Done) → h ≡ a ++ x → h ≡ b ++ y
    → (z : List Done) × (h ≡ longer a b ++ z) × ((u : ℕ) → NoneHas names x u → NoneHas names z u)
longer_end names h a x b y p q = chosen (nat_lt (length a) (length b)) refl
  where
    chosen : (t : Bool) → nat_lt (length a) (length b) ≡ t → (z : List Done) × (h ≡ (if t then b else a) ++ z) × ((u : ℕ) → NoneHas names x u → NoneHas names z u)
    chosen false e = (x, p, λ u is. is)
    chosen true e =
        let more = begins_with h a x b y p q (grind (arith, nat_tests, e)) in
        let same : x ≡ more.0 ++ y = drop_front a x (more.0 ++ y) (sym p ∙ (q ∙ (ap (λ (l : List Done). l ++ y) more.1 ∙ append_assoc a more.0 y))) in
        (y, q, λ u is. none_right names more.0 y u (ap (λ (l : List Done). some_has names l u) (sym same) ∙ is))

pub longer_whole : (h a x b y : List Done) → h ≡ a ++ x → h ≡ b ++ y → (h ≡ a) ⊎ (h ≡ b) → h ≡ longer a b
longer_whole h a x b y p q either = chosen (nat_lt (length a) (length b)) refl
  where
    chosen : (t : Bool) → nat_lt (length a) (length b) ≡ t → h ≡ (if t then b else a)
    chosen true e = ⊎_elim
        (λ is. absurd (let lt : length a < length b = grind (arith, nat_tests, e) in let l1 : length h ≡ length a = ap length is in let l2 : length h ≡ length b + length y = ap length q ∙ length-append b y in omega (arith, lt, l1, l2)))
        (λ is. is) either
    chosen false e = ⊎_elim (λ is. is)
        (λ is. let le : length b ≤ length a = grind (arith, nat_tests, e) in let l1 : length h ≡ length b = ap length is in let l2 : length h ≡ length a + length x = ap length p ∙ length-append a x in
        let none_left : x ≡ [] = short x (omega (arith, le, l1, l2)) in p ∙ (ap (λ (l : List Done). a ++ l) none_left ∙ append_nothing a)) either

module _ {S : Type 0} (good : List Done → ℕ → S → Type 0) (count : S → ℕ) (turn : ℕ) (names : Done → ℕ → Bool) (holder : ℕ → ℕ) (history : List Done) (homes : List (maybe.Option S)) (crew : ℕ → UnitView)
    (r : UnitsRule good count turn names holder history homes crew) where
  -- k takes in n, which holds nothing
  pub units_absorb : (k n : ℕ) → k ≢ n → (crew k).live ≡ true → (crew n).live ≡ true → ((u : ℕ) → holds_of (crew n).holds u ≡ false) → (x : UnitView) → x.live ≡ false
      → UnitsRule good count turn names holder history homes (put (put crew k (unit_with (crew k).holds (longer (crew k).seen (crew n).seen) (max (crew k).faults (crew n).faults))) n x)
  units_absorb k n apart alive other bare x dead =
      let w : UnitView = unit_with (crew k).holds (longer (crew k).seen (crew n).seen) (max (crew k).faults (crew n).faults) in
      let c : ℕ → UnitView = put (put crew k w) n x in
      let know = r.known k alive in let theirs = r.known n other in
      let ends = longer_end names history (crew k).seen know.after (crew n).seen theirs.after know.is theirs.is in
      let away : (u : ℕ) → holder u ≢ n + 1 = λ u is. not_dead ⊥ (theirs.holds u ∙ same_test (holder u) (n + 1) is) (bare u) in
      let now : (j : ℕ) → j ≢ n → j ≢ k → c j ≡ crew j = λ j o p. put_else (put crew k w) n x j o ∙ put_else crew k w j p in
      let here : c k ≡ w = put_else (put crew k w) n x k apart ∙ put_here crew k w in
      let was : (j : ℕ) → (c j).live ≡ true → (j ≢ n) × ((crew j).live ≡ true) = λ j live. dite (ℕ_discrete j n)
      (λ e. not_dead ((j ≢ n) × ((crew j).live ≡ true)) live (ap (λ (v : UnitView). v.live) (put_at (put crew k w) n x j e) ∙ dead))
      (λ o. (o, dite (ℕ_discrete j k) (λ e. ap (λ (i : ℕ). (crew i).live) e ∙ alive) (λ p. ap (λ (v : UnitView). v.live) (sym (now j o p)) ∙ live))) in
      let still : (j : ℕ) → j ≢ n → (crew j).live ≡ true → (c j).live ≡ true = λ j o live. put_cases (λ v. v.live ≡ true) (put crew k w) n x j (λ e. absurd (o e)) (λ _. put_cases (λ v. v.live ≡ true) crew k w j (λ _. refl) (λ _. live)) in
      let more : (j : ℕ) → j ≢ n → (crew j).faults ≤ (c j).faults = λ j o. put_cases (λ v. (crew j).faults ≤ v.faults) (put crew k w) n x j (λ e. absurd (o e)) (λ _. put_cases (λ v. (crew j).faults ≤ v.faults) crew k w j (λ e. let a : (crew j).faults ≡ (crew k).faults = ap (λ (i : ℕ). (crew i).faults) e in omega (arith, a)) (λ _. omega arith)) in
      let most : (bound : ℕ) → ((j : ℕ) → (crew j).live ≡ true → (crew j).faults ≤ bound) → (j : ℕ) → (c j).live ≡ true → (c j).faults ≤ bound = λ bound each j live. let o = was j live in
      dite (ℕ_discrete j k) (λ e. let a = each k alive in let b = each n other in let d : (c j).faults ≡ max (crew k).faults (crew n).faults = ap (λ (v : UnitView). v.faults) (ap c e ∙ here) in omega (arith, a, b, d))
      (λ p. subst (λ (v : UnitView). v.faults ≤ bound) (sym (now j o.0 p)) (each j o.1)) in
      record {
        deep = r.deep;
        home = r.home;
        out = r.out;
        held = λ u is. let h = r.held u is in (h.0, (h.1.0, h.1.1, still h.1.0 (λ e. away u (h.1.1 ∙ ap (λ (i : ℕ). i + 1) e)) h.1.2));
        known = λ j live. let o = was j live in dite (ℕ_discrete j k)
            (λ e. subst (λ (i : ℕ). KnowsUnits names history holder i (c i)) (sym e) (subst (λ (v : UnitView). KnowsUnits names history holder k v) (sym here) (record {
              holds = know.holds;
              after = ends.0;
              is = ends.1;
              apart = λ u mine. ends.2 u (know.apart u mine);
            })))
            (λ p. subst (λ (v : UnitView). KnowsUnits names history holder j v) (sym (now j o.0 p)) (r.known j o.1));
        turn_sees = λ j is. dite (ℕ_discrete j k)
            (λ e. longer_whole history (crew k).seen know.after (crew n).seen theirs.after know.is theirs.is (inl (r.turn_sees k (is ∙ ap (λ (i : ℕ). i + 1) e))) ∙ ap (λ (v : UnitView). v.seen) (sym (ap c e ∙ here)))
            (λ p. r.turn_sees j is ∙ ap (λ (v : UnitView). v.seen) (sym (now j (λ e. away turn (is ∙ ap (λ (i : ℕ). i + 1) e)) p)));
        one_sees = let o = r.one_sees in dite (ℕ_discrete o.0 k)
            (λ e. (k, still k apart alive, longer_whole history (crew k).seen know.after (crew n).seen theirs.after know.is theirs.is (inl (o.2 ∙ ap (λ (i : ℕ). (crew i).seen) e)) ∙ ap (λ (v : UnitView). v.seen) (sym here)))
            (λ p. dite (ℕ_discrete o.0 n)
            (λ e. (k, still k apart alive, longer_whole history (crew k).seen know.after (crew n).seen theirs.after know.is theirs.is (inr (o.2 ∙ ap (λ (i : ℕ). (crew i).seen) e)) ∙ ap (λ (v : UnitView). v.seen) (sym here)))
            (λ q. (o.0, still o.0 q o.1, o.2 ∙ ap (λ (v : UnitView). v.seen) (sym (now o.0 q p)))));
        heard = λ y at. most (count y) (r.heard y at);
        heard_out = λ i is j live. let o : i ≢ n = (λ e. away turn (is ∙ ap (λ (m : ℕ). m + 1) e)) in let a = most (crew i).faults (r.heard_out i is) j live in let b = more i o in omega (arith, a, b);
      }

pub pages_absorb : {S : Type 0} (empty : S) (spans : S → List ℕ) (pages frontier : ℕ) (refers : Done → ℕ → Bool) (keeps : ℕ → Done → ℕ → Bool) (top : ℕ) (used : ℕ → Bool) (mark space holder : ℕ → ℕ) (history : List Done) (homes : List (maybe.Option S)) (crew : ℕ → PageView)
    → PagesRule empty spans pages frontier refers keeps top used mark space holder history homes crew → (k n : ℕ) → k ≢ n → (crew k).live ≡ true → (crew n).live ≡ true → (x : PageView) → x.live ≡ false
    → PagesRule empty spans pages frontier refers keeps top used mark space holder history homes (put (put crew k (page_with (crew k).holds (crew k).spans ((crew k).steady ++ (crew n).steady) ((crew k).pages ++ (crew n).pages))) n x)
pages_absorb empty spans pages frontier refers keeps top used mark space holder history homes crew r k n apart alive other x dead =
    let w : PageView = page_with (crew k).holds (crew k).spans ((crew k).steady ++ (crew n).steady) ((crew k).pages ++ (crew n).pages) in
    let c : ℕ → PageView = put (put crew k w) n x in
    let from : (j p : ℕ) → (c j).live ≡ true → is_in p (c j).pages ≡ true → (i : ℕ) × ((crew i).live ≡ true) × (is_in p (crew i).pages ≡ true) × ((i ≡ j) ⊎ ((i ≡ n) × (j ≡ k))) × (j ≢ n) = λ j p.
    put_cases (λ v. v.live ≡ true → is_in p v.pages ≡ true → (i : ℕ) × ((crew i).live ≡ true) × (is_in p (crew i).pages ≡ true) × ((i ≡ j) ⊎ ((i ≡ n) × (j ≡ k))) × (j ≢ n)) (put crew k w) n x j
    (λ _ live _. absurd (not_dead ⊥ live dead))
    (λ o. put_cases (λ v. v.live ≡ true → is_in p v.pages ≡ true → (i : ℕ) × ((crew i).live ≡ true) × (is_in p (crew i).pages ≡ true) × ((i ≡ j) ⊎ ((i ≡ n) × (j ≡ k))) × (j ≢ n)) crew k w j
    (λ e _ is. ⊎_elim (λ a. (k, alive, a, inl (sym e), o)) (λ a. (n, other, a, inr (refl, e), o)) (in_either p (crew k).pages (crew n).pages is))
    (λ _ live is. (j, live, is, inl refl, o))) in
    record {
      opened = r.opened;
      low = r.low;
      blank = r.blank;
      bare = r.bare;
      volatile = r.volatile;
      marks = r.marks;
      at_home = r.at_home;
      held = λ i. put_cases (λ v. v.live ≡ true → (j : ℕ) → j < 32 → holds_of v.holds (space_unit pages j) ≡ true → (p : ℕ) → spans_of v.spans (space_unit pages j) p ≡ (space p == j + 1)) (put crew k w) n x i (λ _ live. absurd (not_dead ⊥ live dead))
          (λ _. put_cases (λ v. v.live ≡ true → (j : ℕ) → j < 32 → holds_of v.holds (space_unit pages j) ≡ true → (p : ℕ) → spans_of v.spans (space_unit pages j) p ≡ (space p == j + 1)) crew k w i (λ _ _. r.held k alive) (λ _. r.held i));
      steady = λ i. put_cases (λ v. v.live ≡ true → (p : ℕ) → is_in p v.steady ≡ true → (used p ≡ true) × (space p ≡ 0)) (put crew k w) n x i (λ _ live. absurd (not_dead ⊥ live dead))
          (λ _. put_cases (λ v. v.live ≡ true → (p : ℕ) → is_in p v.steady ≡ true → (used p ≡ true) × (space p ≡ 0)) crew k w i
          (λ _ _ p is. ⊎_elim (r.steady k alive p) (r.steady n other p) (in_either p (crew k).steady (crew n).steady is)) (λ _. r.steady i));
      drawn = λ i live p is. let f = from i p live is in r.drawn f.0 f.1 p f.2;
      apart = λ i j p li lj a b. let f = from i p li a in let g = from j p lj b in let same = r.apart f.0 g.0 p f.1 g.1 f.2 g.2 in
          ⊎_elim (λ e. ⊎_elim (λ d. sym e ∙ (same ∙ d)) (λ d. absurd (f.4 (sym e ∙ (same ∙ d.0)))) g.3)
          (λ e. ⊎_elim (λ d. absurd (g.4 (sym d ∙ (sym same ∙ e.0)))) (λ d. e.1 ∙ sym d.1) g.3) f.3;
      named = r.named;
      written = r.written;
      kept = r.kept;
    }

pub names_absorb : (makes : Done → ℕ → Bool) (first top : ℕ) (history : List Done) (crew : ℕ → NameView) → NamesRule makes first top history crew → (k n : ℕ) → k ≢ n → (crew k).live ≡ true → (crew n).live ≡ true → (x : NameView) → x.live ≡ false
    → NamesRule makes first top history (put (put crew k (name_with ((crew k).names ++ (crew n).names))) n x)
names_absorb makes first top history crew r k n apart alive other x dead =
    let w : NameView = name_with ((crew k).names ++ (crew n).names) in
    let c : ℕ → NameView = put (put crew k w) n x in
    let from : (j p : ℕ) → (c j).live ≡ true → is_in p (c j).names ≡ true → (i : ℕ) × ((crew i).live ≡ true) × (is_in p (crew i).names ≡ true) × ((i ≡ j) ⊎ ((i ≡ n) × (j ≡ k))) × (j ≢ n) = λ j p.
    put_cases (λ v. v.live ≡ true → is_in p v.names ≡ true → (i : ℕ) × ((crew i).live ≡ true) × (is_in p (crew i).names ≡ true) × ((i ≡ j) ⊎ ((i ≡ n) × (j ≡ k))) × (j ≢ n)) (put crew k w) n x j
    (λ _ live _. absurd (not_dead ⊥ live dead))
    (λ o. put_cases (λ v. v.live ≡ true → is_in p v.names ≡ true → (i : ℕ) × ((crew i).live ≡ true) × (is_in p (crew i).names ≡ true) × ((i ≡ j) ⊎ ((i ≡ n) × (j ≡ k))) × (j ≢ n)) crew k w j
    (λ e _ is. ⊎_elim (λ a. (k, alive, a, inl (sym e), o)) (λ a. (n, other, a, inr (refl, e), o)) (in_either p (crew k).names (crew n).names is))
    (λ _ live is. (j, live, is, inl refl, o))) in
    record {
      low = r.low;
      drawn = λ i live p is. let f = from i p live is in r.drawn f.0 f.1 p f.2;
      apart = λ i j p li lj a b. let f = from i p li a in let g = from j p lj b in let same = r.apart f.0 g.0 p f.1 g.1 f.2 g.2 in
          ⊎_elim (λ e. ⊎_elim (λ d. sym e ∙ (same ∙ d)) (λ d. absurd (f.4 (sym e ∙ (same ∙ d.0)))) g.3)
          (λ e. ⊎_elim (λ d. absurd (g.4 (sym d ∙ (sym same ∙ e.0)))) (λ d. e.1 ∙ sym d.1) g.3) f.3;
    }

pub lost_absorb : (turn_holder : ℕ) (lost : List Done) (crew : ℕ → LostView) → LostRule turn_holder lost crew → (k n : ℕ) → k ≢ n → (crew k).live ≡ true → (crew n).live ≡ true → turn_holder ≢ n + 1 → (x : LostView) → x.live ≡ false
    → LostRule turn_holder lost (put (put crew k (lost_with ((crew k).failed ++ (crew n).failed) (crew k).lost)) n x)
lost_absorb turn_holder lost crew r k n apart alive other away x dead =
    let w : LostView = lost_with ((crew k).failed ++ (crew n).failed) (crew k).lost in
    let c : ℕ → LostView = put (put crew k w) n x in
    let here : c k ≡ w = put_else (put crew k w) n x k apart ∙ put_here crew k w in
    let now : (j : ℕ) → j ≢ n → j ≢ k → c j ≡ crew j = λ j o p. put_else (put crew k w) n x j o ∙ put_else crew k w j p in
    let off : (j : ℕ) → (c j).live ≡ true → j ≢ n = λ j live e. not_dead ⊥ live (ap (λ (v : LostView). v.live) (put_at (put crew k w) n x j e) ∙ dead) in
    let was : (j : ℕ) → (c j).live ≡ true → (crew j).live ≡ true = λ j live. dite (ℕ_discrete j k) (λ e. ap (λ (i : ℕ). (crew i).live) e ∙ alive) (λ p. ap (λ (v : LostView). v.live) (sym (now j (off j live) p)) ∙ live) in
    let knows : (j : ℕ) → turn_holder ≡ j + 1 → (c j).lost ≡ lost = λ j is. let o : j ≢ n = (λ e. away (is ∙ ap (λ (i : ℕ). i + 1) e)) in dite (ℕ_discrete j k)
    (λ e. ap (λ (v : LostView). v.lost) (ap c e ∙ here) ∙ r.turn_knows k (is ∙ ap (λ (i : ℕ). i + 1) e)) (λ p. ap (λ (v : LostView). v.lost) (now j o p) ∙ r.turn_knows j is) in
    dite (ℕ_discrete r.bearer k)
    (λ at_k. record {
      bearer = k;
      lives = inr (ap (λ (v : LostView). v.live) here);
      bears = λ _. ap (λ (v : LostView). v.failed) here ∙ ((λ i. (ap (λ (j : ℕ). (crew j).failed) (sym at_k) ∙ r.bears (ap (λ (j : ℕ). (crew j).live) at_k ∙ alive)) i ++ (r.others n other (λ e. apart (sym (e ∙ at_k)))) i) ∙ append_nothing lost);
      others = λ j live o. ap (λ (v : LostView). v.failed) (now j (off j live) o) ∙ r.others j (was j live) (λ e. o (e ∙ at_k));
      turn_knows = knows;
    })
    (λ not_k. dite (ℕ_discrete r.bearer n)
    (λ at_n. record {
      bearer = k;
      lives = inr (ap (λ (v : LostView). v.live) here);
      bears = λ _. ap (λ (v : LostView). v.failed) here ∙ (λ i. (r.others k alive (λ e. not_k (sym e))) i ++ (ap (λ (j : ℕ). (crew j).failed) (sym at_n) ∙ r.bears (ap (λ (j : ℕ). (crew j).live) at_n ∙ other)) i);
      others = λ j live o. ap (λ (v : LostView). v.failed) (now j (off j live) o) ∙ r.others j (was j live) (λ e. off j live (e ∙ at_n));
      turn_knows = knows;
    })
    (λ not_n. record {
      bearer = r.bearer;
      lives = ⊎_elim inl (λ live. inr (ap (λ (v : LostView). v.live) (now r.bearer not_n not_k) ∙ live)) r.lives;
      bears = λ live. ap (λ (v : LostView). v.failed) (now r.bearer not_n not_k) ∙ r.bears (was r.bearer live);
      others = λ j live o. dite (ℕ_discrete j k)
          (λ e. ap (λ (v : LostView). v.failed) (ap c e ∙ here) ∙ (λ i. (r.others k alive (λ d. not_k (sym d))) i ++ (r.others n other (λ d. not_n (sym d))) i))
          (λ p. ap (λ (v : LostView). v.failed) (now j (off j live) p) ∙ r.others j (was j live) o);
      turn_knows = knows;
    }))
