-- The table at its start meets the rule.
use Rattle.std.proofs.Common.{◌≡◌, ℕ, zero, suc, ◌+◌, ◌-◌, ◌<◌, ◌≤◌, ◌==◌, nat_lt, true, false, List, [], ◌∷◌, length, get_or, replicate, map, min, Option, None, Some, refl, sym, ap, ◌∙◌, subst, inl, ⊎_elim, arith}
use Rattle.std.proofs.Math.ListN.{set}
use Rattle.std.proofs.lemmas.Bool.Decides.{nat_tests}
use mathlib.Core.Option.{some, some-injective, some-ne-none}
use lib.ListN.{get_elem?, length-map, length-replicate}
use Rattle.atomic_table.specs.Table as table
use Rattle.atomic_table.proofs.Lists.{at_map}
use Rattle.pm3_core.specs.declared.events.TheConstants.{PLACES}
use Rattle.pm3_core.specs.Machine.{put, opening}
use Rattle.pm3_core.proofs.Functions.{get_or-replicate_default}
use Rattle.pm3_history.specs.Entry.{Done}
use Rattle.pm3_history.specs.Opens.{Origin, LawfulFrom}
use Rattle.pm3_table.specs.declared.view.Told.{Told}
use Rattle.pm3_table.specs.declared.view.View.{View}
use Rattle.pm3_table.specs.Crew.{Lives, total}
use Rattle.pm3_table.specs.Holds.{is_in, holds_of}
use Rattle.pm3_table.specs.Telling.{Lawful, limit, first, names, Good, counted_in}
use Rattle.pm3_table.specs.declared.marks.Marks4.{Marks4}
use Rattle.pm3_table.specs.FirstHomes.{FirstHomes, IsTold, told_by, opening_in}
use Rattle.pm3_table.specs.OpensBelow.{OpensBelow}
use Rattle.pm3_table.specs.Starting.{told_of, first_view, spent_view}
use Rattle.pm3_table.specs.Words.{Encodes, unit_at, counter_at, turn_unit, space_unit}
use Rattle.pm3_table.specs.Draws.{drew, is_drawing}
use Rattle.pm3_table.specs.Rows.{KnowsRow}
use Rattle.pm3_table.specs.Units.{KnowsUnits}
use Rattle.pm3_table.specs.Counts.{Distinct, counts, counted_under}
use Rattle.pm3_table.specs.Rule.{Ruled, unit_view, draw_view, count_view}
use Rattle.pm3_table.proofs.Put.{put_at, put_here, put_cases, put_map}
use Rattle.pm3_table.proofs.Totals.{total_put, total_none}
use Rattle.pm3_table.proofs.Encoded.{encode_counter}
use Rattle.pm3_table.proofs.Enters.{not_dead}

-- no commit is lawful
pub nothing_lawful : (told : Told) → Lawful told []
unfolding LawfulFrom
nothing_lawful told st opens = tt

-- an item of a list of items that are all at home
home_of : {A : Type 0} (xs : List A) (i : ℕ) (y : A) → get_elem? (map some xs) i ≡ some (some y) → get_elem? xs i ≡ some y
home_of [] i y e = absurd (some-ne-none (some y) (sym e))
home_of (x ∷ xs) zero y e = some-injective (some x) (some y) e
home_of (x ∷ xs) (suc i) y e = home_of xs i y e

-- the words of the start: rows and units of 0, and the three counters
pub first_words : (pages frontier next_name : ℕ) (ws : List ℕ) → ws ≡ set (set (set (replicate (PLACES + (pages + 33) + 3) 0) (counter_at pages 0) frontier) (counter_at pages 1) next_name) (counter_at pages 2) 1
    → Encodes pages (λ _. 0) (λ _. 0) (λ _. 0) (λ _. 0) (put (put (put (λ _. 0) 0 frontier) 1 next_name) 2 1) ws
first_words pages frontier next_name ws is =
    let n : ℕ = PLACES + (pages + 33) + 3 in
    let base : Encodes pages (λ _. 0) (λ _. 0) (λ _. 0) (λ _. 0) (λ _. 0) (replicate n 0) = record {
      wide = length-replicate n 0;
      rows = λ i _. get_or-replicate_default n 0 i;
      units = λ u _. get_or-replicate_default n 0 (unit_at u);
      counters = λ c _. get_or-replicate_default n 0 (counter_at pages c);
    } in
    let one = encode_counter pages (λ _. 0) (λ _. 0) (λ _. 0) (λ _. 0) (λ _. 0) (replicate n 0) base 0 frontier (omega arith) in
    let two = encode_counter pages (λ _. 0) (λ _. 0) (λ _. 0) (λ _. 0) (put (λ _. 0) 0 frontier) (set (replicate n 0) (counter_at pages 0) frontier) one 1 next_name (omega arith) in
    let three = encode_counter pages (λ _. 0) (λ _. 0) (λ _. 0) (λ _. 0) (put (put (λ _. 0) 0 frontier) 1 next_name) (set (set (replicate n 0) (counter_at pages 0) frontier) (counter_at pages 1) next_name) two 2 1 (omega arith) in
    subst (Encodes pages (λ _. 0) (λ _. 0) (λ _. 0) (λ _. 0) (put (put (put (λ _. 0) 0 frontier) 1 next_name) 2 1)) (sym is) three

three_cases : (P : ℕ → Type 0) → P 0 → P 1 → P 2 → (c : ℕ) → c < 3 → P c
three_cases P a b d zero low = a
three_cases P a b d (suc zero) low = b
three_cases P a b d (suc (suc zero)) low = d
three_cases P a b d (suc (suc (suc c))) low = absurd (omega arith)

drew_dead : (c : ℕ) → drew c (draw_view spent_view) ≡ 0
drew_dead c = grind (arith, nat_tests)

busy_none : (c : ℕ) (faults : ℕ) → is_drawing c (draw_view (first_view faults)) ≡ 0
busy_none c faults = grind (arith, nat_tests)

busy_dead : (c : ℕ) → is_drawing c (draw_view spent_view) ≡ 0
busy_dead c = grind (arith, nat_tests)

not_one_more : (k : ℕ) → (◌==◌ 0 (k + 1)) ≡ false
not_one_more k = grind (arith, nat_tests)

below_test : (p n : ℕ) → p < n → nat_lt p n ≡ true
below_test p n low = grind (arith, nat_tests, low)

below_of : (p n : ℕ) → nat_lt p n ≡ true → p < n
below_of p n low = grind (arith, nat_tests, low)

not_below : (p n : ℕ) → nat_lt p n ≡ false → n ≤ p
not_below p n low = grind (arith, nat_tests, low)

counts_own : (faults y : ℕ) → counts 0 (count_view (first_view faults)) y ≡ true → 0 ≡ y
counts_own faults y is = grind (arith, nat_tests, is)

module _ {V : Type 0} (stands : Told → List Done → List Done → ℕ → V → Type 0) (spans : V → List ℕ) (counted : V → ℕ) (told : Told) where
  pub opens : (ws : List ℕ) (homes : List (Option V)) (turn : V)
      → ws ≡ set (set (set (replicate (PLACES + (told.pages + 33) + 3) 0) (counter_at told.pages 0) told.frontier) (counter_at told.pages 1) told.next_name) (counter_at told.pages 2) 1
      → FirstHomes stands spans told homes → IsTold told → OpensBelow told → get_elem? homes (turn_unit told.pages) ≡ some (Some turn)
      → Ruled stands spans counted told (table.opening ws homes (first_view (counted turn)))
  opens ws homes turn words first_homes bounds below at_turn =
      let v : View = first_view (counted turn) in
      let crew : ℕ → View = put (λ _. spent_view) 0 v in
      let here : crew 0 ≡ v = put_here (λ _. spent_view) 0 v in
      let only : (k : ℕ) → (crew k).live ≡ true → k ≡ 0 = λ k. put_cases (λ y. y.live ≡ true → k ≡ 0) (λ _. spent_view) 0 v k (λ e _. e) (λ _ live. absurd (cc)) in
      let counter : ℕ → ℕ = put (put (put (λ _. 0) 0 told.frontier) 1 told.next_name) 2 1 in
      let at_home : (u : ℕ) (x : Option V) → get_elem? (map some homes) u ≡ some (some x) → get_elem? homes u ≡ some x = λ u x. home_of homes u x in
      let each : (P : View → Type 0) → P v → P spent_view → (k : ℕ) → P (crew k) = λ P a b k. put_cases P (λ _. spent_view) 0 v k (λ _. a) (λ _. b) in
      let sum_is : (f : View → ℕ) → f spent_view ≡ 0 → total 32 (λ k. f (crew k)) ≡ f v = λ f z.
      let p = subst (λ (g : ℕ → ℕ). total 32 g + f spent_view ≡ total 32 (λ k. f spent_view) + f v) (sym (put_map f (λ _. spent_view) 0 v)) (total_put 32 (λ k. f spent_view) 0 (f v) (omega arith)) in
      let q : total 32 (λ k. f spent_view) ≡ 0 = total_none 32 (λ k. f spent_view) (λ k. z) in omega (arith, p, q, z) in
      record {
        crew = crew;
        seated = record {
          knows = λ id y l. sole id y l;
          sits = λ k live. let z = only k live in (0, (ap (λ (y : View). some y) (sym (ap crew z ∙ here)), live), ap (λ (y : View). y.row) (ap crew z ∙ here) ∙ sym z);
          apart = λ i j y z ly lz _. first_only i y ly ∙ sym (first_only j z lz);
          below = λ k live. let z = only k live in omega (arith, z);
        };
        machine = opening;
        holder = λ _. 0;
        space = λ _. 0;
        used = λ p. nat_lt p told.frontier;
        counter = counter;
        history = [];
        lost = [];
        words = first_words told.pages told.frontier told.next_name ws words;
        rows = record {
          events = [];
          moved = refl;
          is = refl;
          steps = tt;
          known = λ k live. subst (λ (y : View). KnowsRow told.pages opening k y.log) (sym (ap crew (only k live) ∙ here))
              (record { word = λ q b. refl; stands = λ q b. refl; marks = λ p. sym (not_one_more k); reads = λ p n is. absurd (omega (arith, is)) });
          marked = λ p is. absurd (is refl);
          idle = λ k _ _ q b. (refl, refl);
        };
        units = record {
          deep = length-map homes some ∙ (first_homes.wide ∙ (omega arith));
          home = λ u low _. let g = first_homes.good u (omega (arith, low)) in (g.0, at_map some homes u g.0 g.1, g.2);
          out = λ u low is. absurd (is refl);
          held = λ u is. absurd (is refl);
          known = λ k live. subst (λ (y : View). KnowsUnits (names told) [] (λ _. 0) k (unit_view y)) (sym (ap crew (only k live) ∙ here))
              (record { holds = λ u. sym (not_one_more k); after = []; is = refl; apart = λ u is. absurd (omega (arith, is)) });
          turn_sees = λ k is. absurd (omega (arith, is));
          one_sees = (0, ap (λ (y : View). y.live) here, ap (λ (y : View). y.seen) (sym here));
          heard = λ x at k live. let same : Some turn ≡ x = some-injective (Some turn) x (sym at_turn ∙ at_home (turn_unit told.pages) x at) in
              let a : (crew k).faults ≡ counted turn = ap (λ (y : View). y.faults) (ap crew (only k live) ∙ here) in let b : counted turn ≡ counted_in counted x = ap (counted_in counted) same in omega (arith, a, b);
          heard_out = λ j is. absurd (omega (arith, is));
        };
        paged = record {
          opened = λ p low. below_test p told.frontier low;
          low = λ p is. let f = below_of p told.frontier is in (omega (arith, f, bounds.frontier), subst (λ (n : ℕ). p < n) (sym (counter_0)) f);
          blank = λ p low _. (refl, refl);
          bare = λ p low either. at_map some homes p None (first_homes.bare p (⊎_elim (λ e. not_below p told.frontier e) (λ e. absurd (e refl)) either) low);
          volatile = λ p is. absurd (is refl);
          marks = λ p is. absurd (is refl);
          at_home = λ j low x at p. first_homes.spaces j low x (at_home (space_unit told.pages j) x at) p ∙ sym (not_one_more j);
          held = λ k live j low holds p. absurd (not_dead ⊥ (ap (λ (y : View). holds_of y.holds (space_unit told.pages j)) (sym (ap crew (only k live) ∙ here)) ∙ holds) refl);
          steady = λ k live p is. absurd (not_dead ⊥ (ap (λ (y : View). is_in p y.steady) (sym (ap crew (only k live) ∙ here)) ∙ is) refl);
          drawn = λ k live p is. absurd (not_dead ⊥ (ap (λ (y : View). is_in p y.pages) (sym (ap crew (only k live) ∙ here)) ∙ is) refl);
          apart = λ i j p li lj _ _. only i li ∙ sym (only j lj);
          named = λ p is. absurd (cc);
          written = λ p is. absurd (cc);
          kept = λ j p is. absurd (cc);
        };
        draws = record {
          full = λ k live c is. absurd (not_dead ⊥ (ap (λ (y : View). is_in c y.filled) (sym (ap crew (only k live) ∙ here)) ∙ is) refl);
          excess = λ c low past. let b = sum_is (λ y. is_drawing c (draw_view y)) (busy_dead c) in let z = busy_none c (counted turn) in
              three_cases (λ c. limit told c ≤ counter c → total 32 (λ k. is_drawing c (draw_view (crew k))) ≡ 0 → (counter c - limit told c) + total 32 (λ k. is_drawing c (draw_view (crew k))) ≤ 32)
              (λ p q. let f = bounds.frontier in let c0 = counter_0 in omega (arith, q, f, c0)) (λ p q. let f = bounds.name.1 in let c1 = counter_1 in omega (arith, q, f, c1)) (λ p q. let c2 = counter_2 in omega (arith, q, c2)) c low past (b ∙ z);
          sum = three_cases (λ c. min (counter c) (limit told c) ≡ first told c + total 32 (λ k. drew c (draw_view (crew k))))
              (let b = sum_is (λ y. drew 0 (draw_view y)) (drew_dead 0) in let f = bounds.frontier in let c0 = counter_0 in omega (arith, b, f, c0))
              (let b = sum_is (λ y. drew 1 (draw_view y)) (drew_dead 1) in let f = bounds.name.1 in let c1 = counter_1 in omega (arith, b, f, c1))
              (let b = sum_is (λ y. drew 2 (draw_view y)) (drew_dead 2) in let c2 = counter_2 in omega (arith, b, c2));
        };
        named = record {
          low = λ n is. absurd (cc);
          drawn = λ k live n is. absurd (not_dead ⊥ (ap (λ (y : View). is_in n y.names) (sym (ap crew (only k live) ∙ here)) ∙ is) refl);
          apart = λ i j n li lj _ _. only i li ∙ sym (only j lj);
        };
        counts = record {
          low = tt;
          keeper = λ _. 0;
          lives = λ k _. ap (λ (y : View). y.live) here;
          kept = λ k below. inl (let z : k ≡ 0 = (let c2 = counter_2 in omega (arith, below, c2)) in own_first k z here);
          one = λ j k live either. let z = only j live in ⊎_elim
              (λ a. let own : 0 ≡ k = counts_own (counted turn) k (ap (λ (y : View). counts 0 (count_view y) k) (sym here) ∙ (ap (λ (i : ℕ). counts i (count_view (crew i)) k) (sym z) ∙ a)) in ((let c2 = counter_2 in omega (arith, own, c2)), sym z))
              (λ a. absurd (not_dead ⊥ (ap (λ (y : View). is_in k y.rows) (sym (ap crew z ∙ here)) ∙ a) refl)) either;
          entries = λ j k live is. let z = only j live in let own : 0 ≡ k = counts_own (counted turn) k (ap (λ (y : View). counts 0 (count_view y) k) (sym here) ∙ (ap (λ (i : ℕ). counts i (count_view (crew i)) k) (sym z) ∙ is)) in
              ap (λ (i : ℕ). counted_under i (count_view (crew i)) k) z ∙ (ap (λ (y : View). counted_under 0 (count_view y) k) here ∙ ap (λ (i : ℕ). counted_under 0 (count_view v) i) (sym own));
          drawn = λ j k live is. absurd (not_dead ⊥ (ap (λ (y : View). is_in k y.rows) (sym (ap crew (only j live) ∙ here)) ∙ is) refl);
          once = λ j live. subst (λ (y : View). Distinct y.rows) (sym (ap crew (only j live) ∙ here)) tt;
        };
        failed = record {
          bearer = 0;
          lives = inl refl;
          bears = λ _. ap (λ (y : View). y.failed) here;
          others = λ k live o. absurd (o (only k live));
          turn_knows = λ k is. absurd (omega (arith, is));
        };
        lasts = λ k live is. absurd (not_dead ⊥ (ap (λ (y : View). y.last) (sym (ap crew (only k live) ∙ here)) ∙ is) refl);
        lawful = (nothing_lawful told, nothing_lawful told);
        bounds = (bounds.pages, bounds.frontier, bounds.name.1, below);
      }
    where
      counter_0 : put (put (put (λ _. 0) 0 told.frontier) 1 told.next_name) 2 1 0 ≡ told.frontier
      counter_0 = refl

      counter_1 : put (put (put (λ _. 0) 0 told.frontier) 1 told.next_name) 2 1 1 ≡ told.next_name
      counter_1 = refl

      counter_2 : put (put (put (λ _. 0) 0 told.frontier) 1 told.next_name) 2 1 2 ≡ 1
      counter_2 = refl

      first_only : (id : ℕ) (y : View) → Lives (first_view (counted turn) ∷ []) id y → id ≡ 0
      first_only zero y l = refl
      first_only (suc id) y l = absurd (some-ne-none y (sym l.0))

      sole : (id : ℕ) (y : View) → Lives (first_view (counted turn) ∷ []) id y → put (λ _. spent_view) 0 (first_view (counted turn)) y.row ≡ y
      sole zero y l = let same : first_view (counted turn) ≡ y = some-injective (first_view (counted turn)) y l.0 in put_at (λ _. spent_view) 0 (first_view (counted turn)) y.row (ap (λ (x : View). x.row) (sym same)) ∙ same
      sole (suc id) y l = absurd (some-ne-none y (sym l.0))

      own_first : (k : ℕ) → k ≡ 0 → put (λ _. spent_view) 0 (first_view (counted turn)) 0 ≡ first_view (counted turn) → counts 0 (count_view (put (λ _. spent_view) 0 (first_view (counted turn)) 0)) k ≡ true
      own_first k z e = ap (λ (x : View). counts 0 (count_view x) k) e ∙ ap (λ (i : ℕ). counts 0 (count_view (first_view (counted turn))) i) z

-- the item that a list has at a place
at_of : {A : Type 0} (xs : List A) (n : ℕ) (d : A) → n < length xs → get_elem? xs n ≡ some (get_or xs n d)
at_of [] n d low = absurd (omega arith)
at_of (y ∷ ys) zero d low = refl
at_of (y ∷ ys) (suc n) d low = at_of ys n d (omega (arith, low))

get_or_at : {A : Type 0} (xs : List A) (n : ℕ) (x d : A) → get_elem? xs n ≡ some x → get_or xs n d ≡ x
get_or_at [] n x d e = absurd (some-ne-none x (sym e))
get_or_at (y ∷ ys) zero x d e = some-injective y x e
get_or_at (y ∷ ys) (suc n) x d e = get_or_at ys n x d e

module _ {V : Type 0} (stands : Told → List Done → List Done → ℕ → V → Type 0) (spans : V → List ℕ) (counted : V → ℕ) (opening : V → Origin)
    (marks : Marks4) (homes : List (Option V)) (first_homes : FirstHomes stands spans (told_by opening marks homes) homes) where
  -- what was read at the turn's home
  at_turn : (x : Option V) → x ≡ get_or homes (marks.pages + 32) x → get_elem? homes (marks.pages + 32) ≡ some x
  at_turn x is = at_of homes (marks.pages + 32) x (let w = first_homes.wide in omega (arith, w)) ∙ ap (λ (y : Option V). some y) (sym is)

  -- it is a value
  pub turn_has : (x : Option V) → x ≡ get_or homes (marks.pages + 32) x → x ≡ None → ⊥
  turn_has x is none_is =
      let good = first_homes.good (marks.pages + 32) (omega arith) in
      let same : good.0 ≡ None = some-injective good.0 None (sym good.1 ∙ (at_turn x is ∙ ap (λ (y : Option V). some y) none_is)) in
      let none_good : Good stands (told_by opening marks homes) [] [] (marks.pages + 32) None = subst (λ (y : Option V). Good stands (told_by opening marks homes) [] [] (marks.pages + 32) y) same good.2 in
      let low : marks.pages + 32 < marks.pages = none_good.0 in omega (arith, low)

  -- the table is told by it
  told_is : (turn : V) → get_elem? homes (marks.pages + 32) ≡ some (Some turn) → told_by opening marks homes ≡ told_of opening marks.pages marks.frontier marks.next_name turn
  told_is turn at = ap (λ (x : Option V). record { pages = marks.pages; frontier = marks.frontier; next_name = marks.next_name; opening = opening_in opening x })
      (get_or_at homes (marks.pages + 32) (Some turn) None at)

  pub opens_by : (x : Option V) (turn : V) (ws : List ℕ) → x ≡ get_or homes (marks.pages + 32) x → x ≡ Some turn
      → ws ≡ set (set (set (replicate (PLACES + (marks.pages + 33) + 3) 0) (counter_at marks.pages 0) marks.frontier) (counter_at marks.pages 1) marks.next_name) (counter_at marks.pages 2) marks.rows
      → marks.rows ≡ 1 → IsTold (told_by opening marks homes) → OpensBelow (told_by opening marks homes)
      → Ruled stands spans counted (told_of opening marks.pages marks.frontier marks.next_name turn) (table.opening ws homes (first_view (counted turn)))
  opens_by x turn ws is value words one told below =
      let at : get_elem? homes (marks.pages + 32) ≡ some (Some turn) = at_turn x is ∙ ap (λ (y : Option V). some y) value in
      subst (λ (t : Told). Ruled stands spans counted t (table.opening ws homes (first_view (counted turn)))) (told_is turn at)
      (opens stands spans counted (told_by opening marks homes) ws homes turn
      (words ∙ ap (set (set (set (replicate (PLACES + (marks.pages + 33) + 3) 0) (counter_at marks.pages 0) marks.frontier) (counter_at marks.pages 1) marks.next_name) (counter_at marks.pages 2)) one)
      first_homes told below at)
