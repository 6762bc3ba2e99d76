-- The names that are met, breadth first, are the reached names, each once.
use Rattle.std.proofs.Common.{◌≡◌, ◌<◌, ◌≤◌, ◌+◌, ℕ, zero, suc, List, [], ◌∷◌, ◌++◌, length, Bool, true, false, cond, not, Option, None, Some, IsSome, is_some, refl, sym, arith, ap, subst, ◌∙◌, ◌⊎◌, inl, inr, get_or, eq-eqb}
use Rattle.std.specs.Prelude.{◌==◌, ◌&&◌, slice_get, fold, unwrap_or, nat_eq}
use Rattle.std.specs.List.{list_any, range_with_len, IsDistinct, AllByRecursion}
use Rattle.std.specs.Ordering.{nat_cmp, eq_by_cmp}
use Rattle.std.specs.Cmp.{nat_eq_equiv, unsigned_ties}
use Rattle.std.specs.FinMap.{get, len, keys, entries, get-retain_keys, contains_key-keys, len-entries, nat_cmp-IsAntisymmetric}
use Rattle.std.proofs.lemmas.List.{length-map}
use Rattle.std.proofs.lemmas.Option.{slice_get_within, slice_get-get_or}
use Rattle.std.proofs.lemmas.Map.Keys.{IsDistinct-push}
use Rattle.std.proofs.lemmas.Map.Made.{length-le_from_is_member}
use Rattle.pm3_types.specs.Fields.{Fields}
use Rattle.pm3_types.specs.Record.{Record}
use Rattle.pm3_types.specs.Graph.{Part}
use Rattle.pm3_types.specs.Reached.{Reached, root, next}
use Rattle.pm3_types.specs.Numbering.{is_among, meet, names_of, names_under, look, met_names, closure}
use Rattle.pm3_types.specs.NumberingLaws.{MeetsTheReached, MeetsOnce, ComputesTheClosure}
use Rattle.pm3_types.proofs.NamesIn.{same_name, itself, and_first, or_cases, or_first, among_first, among_second, among_either, among_contained, contained_among, refers_among, among_refers}

-- a name joins the names met where a test lets it
abbrev joined : Bool → ℕ → List ℕ → List ℕ
joined b x met = cond b (met ++ x ∷ []) met

among_joined : (b : Bool) (x n : ℕ) (met : List ℕ) → is_among met n ≡ true → is_among (joined b x met) n ≡ true
among_joined true x n met is = among_first met (x ∷ []) n is
among_joined false x n met is = is

joined_among : (b : Bool) (x n : ℕ) (met : List ℕ) → is_among (joined b x met) n ≡ true → (is_among met n ≡ true) ⊎ ((b ≡ true) × (n ≡ x))
joined_among false x n met is = inl is
joined_among true x n met is = elim (among_either met (x ∷ []) n is) [
  | inl before ↦ inl before
  | inr last ↦ inr (refl, only_one last)
]
  where
    only_one : is_among (x ∷ []) n ≡ true → n ≡ x
    only_one among = elim (or_cases (n == x) false among) [ inl here ↦ same_name n x here | inr no_more ↦ cc ]

slice_get-first : (xs ys : List ℕ) (i n : ℕ) → slice_get xs i ≡ Some n → slice_get (xs ++ ys) i ≡ Some n
slice_get-first [] ys i n is = cc
slice_get-first (x ∷ xs) ys zero n is = is
slice_get-first (x ∷ xs) ys (suc i) n is = slice_get-first xs ys i n is

module _ (records : ℕ → Option Record) where
  abbrev is_new : List ℕ → ℕ → Bool
  is_new met x = is_some (records x) && not (is_among met x)

  meet_keeps : (met ns : List ℕ) (n : ℕ) → is_among met n ≡ true → is_among (meet records met ns) n ≡ true
  meet_keeps met [] n is = is
  meet_keeps met (x ∷ ns) n is = meet_keeps (joined (is_new met x) x met) ns n (among_joined (is_new met x) x n met is)

  -- a name that is there is among those met once it has been looked at
  head_met : (met : List ℕ) (x : ℕ) (there old : Bool) → there ≡ true → is_among met x ≡ old → is_among (joined (there && not old) x met) x ≡ true
  head_met met x true true is known = known
  head_met met x true false is known = among_second met (x ∷ []) x (or_first _ _ (itself x))
  head_met met x false old is known = cc

  meet_adds : (met ns : List ℕ) (n : ℕ) → is_among ns n ≡ true → IsSome (records n) → is_among (meet records met ns) n ≡ true
  meet_adds met [] n is there = cc
  meet_adds met (x ∷ ns) n is there = elim (or_cases (n == x) (is_among ns n) is) [
    | inl here ↦
        let same : n ≡ x = same_name n x here in
        let found : IsSome (records x) = ap (λ (k : ℕ). is_some (records k)) (sym same) ∙ there in
        meet_keeps (joined (is_new met x) x met) ns n
        (subst (λ (k : ℕ). is_among (joined (is_new met x) x met) k ≡ true) (sym same) (head_met met x (is_some (records x)) (is_among met x) found refl))
    | inr later ↦ meet_adds (joined (is_new met x) x met) ns n later there
  ]

  -- each name met was met before, or is a new name that is there
  meet_only : (P : ℕ → Type 0) (met ns : List ℕ) → ((n : ℕ) → is_among met n ≡ true → P n) → ((n : ℕ) → is_among ns n ≡ true → IsSome (records n) → P n)
      → (n : ℕ) → is_among (meet records met ns) n ≡ true → P n
  meet_only P met [] before new n is = before n is
  meet_only P met (x ∷ ns) before new n is =
      meet_only P (joined (is_new met x) x met) ns
      (λ m among. elim (joined_among (is_new met x) x m met among) [
        | inl old ↦ before m old
        | inr here ↦ subst P (sym here.1) (new x (or_first _ _ (itself x)) (and_first (is_some (records x)) (not (is_among met x)) here.0))
      ])
      (λ m among there. new m (later m among) there)
      n is
    where
      later : (m : ℕ) → is_among ns m ≡ true → is_among (x ∷ ns) m ≡ true
      later m among = among_second (x ∷ []) ns m among

  -- the names met before keep their places
  meet_extends : (met ns : List ℕ) (i n : ℕ) → slice_get met i ≡ Some n → slice_get (meet records met ns) i ≡ Some n
  meet_extends met [] i n is = is
  meet_extends met (x ∷ ns) i n is = meet_extends (joined (is_new met x) x met) ns i n (kept (is_new met x))
    where
      kept : (b : Bool) → slice_get (joined b x met) i ≡ Some n
      kept true = slice_get-first met (x ∷ []) i n is
      kept false = is

  joined_distinct : (met : List ℕ) (x : ℕ) (there old : Bool) → is_among met x ≡ old → IsDistinct nat_eq met → IsDistinct nat_eq (joined (there && not old) x met)
  joined_distinct met x true true known distinct = distinct
  joined_distinct met x true false known distinct = IsDistinct-push nat_eq_equiv met x distinct known
  joined_distinct met x false old known distinct = distinct

  meet_distinct : (met ns : List ℕ) → IsDistinct nat_eq met → IsDistinct nat_eq (meet records met ns)
  meet_distinct met [] distinct = distinct
  meet_distinct met (x ∷ ns) distinct =
      meet_distinct (joined (is_new met x) x met) ns (joined_distinct met x (is_some (records x)) (is_among met x) refl distinct)

less_more : (j i : ℕ) → j < i + 1 → (j < i) ⊎ (j ≡ i)
less_more zero zero less = inr refl
less_more zero (suc i) less = inl (omega arith)
less_more (suc j) zero less = absurd (omega arith)
less_more (suc j) (suc i) less = elim (less_more j i (omega arith)) [ inl before ↦ inl (omega arith) | inr same ↦ inr (ap suc same) ]

-- an earlier place of a list is there too
earlier : (xs : List ℕ) (i j n : ℕ) → slice_get xs i ≡ Some n → j ≤ i → slice_get xs j ≡ Some (get_or xs j 0)
earlier xs i j n is before = slice_get-get_or xs j 0 (omega (arith, slice_get_within xs i n is))

same_value : (o : Option ℕ) (m n : ℕ) → o ≡ Some m → o ≡ Some n → m ≡ n
same_value o m n is also = cc

item_met : (xs : List ℕ) (i n : ℕ) → slice_get xs i ≡ Some n → is_among xs n ≡ true
item_met [] i n is = cc
item_met (x ∷ xs) zero n is = or_first _ _ (eq-eqb n x (same_value (Some x) n x is refl))
item_met (x ∷ xs) (suc i) n is = among_second (x ∷ []) xs n (item_met xs i n is)

met_item : (xs : List ℕ) (n : ℕ) → is_among xs n ≡ true → (i : ℕ) × (i < length xs) × (slice_get xs i ≡ Some n)
met_item xs n is =
    let found = contained_among xs n is in
    (found.0, found.1, slice_get-get_or xs found.0 n found.1 ∙ ap (λ (k : ℕ). Some k) found.2)

module _ (catalog : List Fields) (records : ℕ → Option Record) where
  module _ (roots : List ℕ) where
    -- what holds once the records of the first i names were looked at
    record Progress (i : ℕ) (met : List ℕ) : Type 0 where
      rooted : (n : ℕ) → is_among roots n ≡ true → IsSome (records n) → is_among met n ≡ true
      done : (j m n : ℕ) → j < i → slice_get met j ≡ Some m → is_among (names_of catalog (records m)) n ≡ true → IsSome (records n) → is_among met n ≡ true
      distinct : IsDistinct nat_eq met
      there : (n : ℕ) → is_among met n ≡ true → IsSome (records n)

    begun : Progress 0 (meet records [] roots)
    unfolding IsDistinct
    begun = record {
      rooted = λ n among there. meet_adds records [] roots n among there;
      done = λ j m n less at among there. absurd (omega arith);
      distinct = meet_distinct records [] roots tt;
      there = meet_only records (λ n. IsSome (records n)) [] roots (λ n is. cc) (λ n among there. there);
    }

    past_end : (i : ℕ) (met : List ℕ) → slice_get met i ≡ None → Progress i met → Progress (i + 1) met
    past_end i met none before = record {
      rooted = before.rooted;
      done = λ j m n less at among there. elim (less_more j i less) [
        | inl earlier ↦ before.done j m n earlier at among there
        | inr same ↦ cc (none, at, same)
      ];
      distinct = before.distinct;
      there = before.there;
    }

    looked_at : (i x : ℕ) (met : List ℕ) → slice_get met i ≡ Some x → Progress i met → Progress (i + 1) (meet records met (names_of catalog (records x)))
    looked_at i x met is before = record {
      rooted = λ n among there. meet_keeps records met names n (before.rooted n among there);
      done = λ j m n less at among there. elim (less_more j i less) [
        | inl sooner ↦
            let old : slice_get met j ≡ Some (get_or met j 0) = earlier met i j x is (omega arith) in
            let same : get_or met j 0 ≡ m = same_value (slice_get now j) (get_or met j 0) m (meet_extends records met names j (get_or met j 0) old) at in
            meet_keeps records met names n (before.done j m n sooner (old ∙ ap (λ (k : ℕ). Some k) same) among there)
        | inr same ↦
            let here : m ≡ x = same_value (slice_get now j) m x at (meet_extends records met names j x (ap (slice_get met) same ∙ is)) in
            meet_adds records met names n (ap (λ (k : ℕ). is_among (names_of catalog (records k)) n) (sym here) ∙ among) there
      ];
      distinct = meet_distinct records met names before.distinct;
      there = meet_only records (λ n. IsSome (records n)) met names before.there (λ n among there. there);
    }
      where
        names : List ℕ
        names = names_of catalog (records x)

        now : List ℕ
        now = meet records met names

    one_look : (i : ℕ) (met : List ℕ) (o : Option ℕ) → slice_get met i ≡ o → Progress i met → Progress (i + 1) (meet records met (names_under catalog records o))
    one_look i met None is before = past_end i met is before
    one_look i met (Some x) is before = looked_at i x met is before

    looks : (k i : ℕ) (met : List ℕ) → Progress i met → Progress (i + k) (fold (look catalog records) met (range_with_len i k))
    looks zero i met before = subst (λ (j : ℕ). Progress j met) (omega arith) before
    looks (suc k) i met before =
        subst (λ (j : ℕ). Progress j (fold (look catalog records) (look catalog records met i) (range_with_len (i + 1) k))) (omega arith)
        (looks k (i + 1) (look catalog records met i) (one_look i met (slice_get met i) refl before))

  -- each name met is one that is reached, by any such relation
  module _ (P : ℕ → Type 0) (step : (m n : ℕ) → P m → is_among (names_of catalog (records m)) n ≡ true → IsSome (records n) → P n) where
    look_only : (met : List ℕ) (o : Option ℕ) → ((n : ℕ) → is_among met n ≡ true → P n) → ((x : ℕ) → o ≡ Some x → is_among met x ≡ true)
        → (n : ℕ) → is_among (meet records met (names_under catalog records o)) n ≡ true → P n
    look_only met None before at n is = before n is
    look_only met (Some x) before at n is =
        meet_only records P met (names_of catalog (records x)) before (λ k among there. step x k (before x (at x refl)) among there) n is

    looks_only : (k i : ℕ) (met : List ℕ) → ((n : ℕ) → is_among met n ≡ true → P n)
        → (n : ℕ) → is_among (fold (look catalog records) met (range_with_len i k)) n ≡ true → P n
    looks_only zero i met before n is = before n is
    looks_only (suc k) i met before n is =
        looks_only k (i + 1) (look catalog records met i) (λ m among. look_only met (slice_get met i) before (λ x at. item_met met i x at) m among) n is

module _ (catalog : List Fields) (g : Part) where
  all_looked : Progress catalog (get g.records) (unwrap_or g.roots []) (len g.records) (met_names catalog g)
  unfolding met_names
  all_looked =
      subst (λ (j : ℕ). Progress catalog (get g.records) (unwrap_or g.roots []) j (met_names catalog g)) (omega arith)
      (looks catalog (get g.records) (unwrap_or g.roots []) (len g.records) 0 _ (begun catalog (get g.records) (unwrap_or g.roots [])))

  in_keys : (n : ℕ) → IsSome (get g.records n) → list_any (nat_eq n) (keys g.records) ≡ true
  in_keys n there =
      let tests : list_any (λ (k : ℕ). n == k) (keys g.records) ≡ list_any (eq_by_cmp nat_cmp n) (keys g.records) =
      λ i. list_any (λ (k : ℕ). unsigned_ties n k i) (keys g.records) in
      tests ∙ sym (contains_key-keys g.records n) ∙ there

  -- no more names are met than there are records
  pub few_met : length (met_names catalog g) ≤ len g.records
  few_met =
      let most : length (met_names catalog g) ≤ length (keys g.records) =
      length-le_from_is_member nat_eq_equiv (met_names catalog g) (keys g.records) all_looked.distinct (λ n among. in_keys n (all_looked.there n among)) in
      omega (arith, most, length-map (entries g.records) (λ (e : ℕ × Record). e.0), len-entries g.records)

  -- what a met record refers to is met
  met_closed : (m n : ℕ) → is_among (met_names catalog g) m ≡ true → is_among (names_of catalog (get g.records m)) n ≡ true → IsSome (get g.records n)
      → is_among (met_names catalog g) n ≡ true
  met_closed m n is among there =
      let at = met_item (met_names catalog g) m is in
      all_looked.done at.0 m n (omega (arith, at.1, few_met)) at.2 among there

  pub reached_met : (n : ℕ) → Reached catalog g n → is_among (met_names catalog g) n ≡ true
  reached_met n (root names _ is among there) =
      all_looked.rooted n (ap (λ (o : Option (List ℕ)). is_among (unwrap_or o []) n) is ∙ among_contained names n among) there
  reached_met n (next m _ r up is refers there) =
      met_closed m n (reached_met m up) (ap (λ (o : Option Record). is_among (names_of catalog o) n) is ∙ refers_among catalog r n refers) there

  root_reached : (o : Option (List ℕ)) → g.roots ≡ o → (n : ℕ) → is_among (unwrap_or o []) n ≡ true → IsSome (get g.records n) → Reached catalog g n
  root_reached None is n among there = cc
  root_reached (Some names) is n among there = root names n is (contained_among names n among) there

  next_reached : (m n : ℕ) (o : Option Record) → get g.records m ≡ o → Reached catalog g m → is_among (names_of catalog o) n ≡ true → IsSome (get g.records n)
      → Reached catalog g n
  next_reached m n None is up among there = cc
  next_reached m n (Some r) is up among there = next m n r up is (among_refers catalog r n among) there

  pub met_reached : (n : ℕ) → is_among (met_names catalog g) n ≡ true → Reached catalog g n
  unfolding met_names
  met_reached n is =
      looks_only catalog (get g.records) (Reached catalog g) (λ m k up among there. next_reached m k (get g.records m) refl up among there)
      (len g.records) 0 (meet (get g.records) [] (unwrap_or g.roots []))
      (meet_only (get g.records) (Reached catalog g) [] (unwrap_or g.roots []) (λ k none. cc) (λ k among there. root_reached g.roots refl k among there))
      n is

pub meets_the_reached : MeetsTheReached
meets_the_reached catalog g n = (met_reached catalog g n, reached_met catalog g n)

not_behind : (xs : List ℕ) (x j : ℕ) → AllByRecursion (λ y. nat_eq x y ≡ false) xs → slice_get xs j ≡ Some x → ⊥
not_behind [] x j apart is = cc
not_behind (y ∷ ys) x zero apart is =
    let same : x ≡ y = same_value (Some y) x y is refl in
    let found : nat_eq x y ≡ true = eq-eqb x y same in
    cc (found, apart.0)
not_behind (y ∷ ys) x (suc j) apart is = not_behind ys x j apart.1 is

once_in : (xs : List ℕ) (i j n : ℕ) → IsDistinct nat_eq xs → slice_get xs i ≡ Some n → slice_get xs j ≡ Some n → i ≡ j
unfolding IsDistinct
once_in [] i j n distinct is also = cc
once_in (x ∷ xs) zero zero n distinct is also = refl
once_in (x ∷ xs) zero (suc j) n distinct is also = absurd (not_behind xs x j distinct.0 (also ∙ sym is))
once_in (x ∷ xs) (suc i) zero n distinct is also = absurd (not_behind xs x i distinct.0 (is ∙ sym also))
once_in (x ∷ xs) (suc i) (suc j) n distinct is also = ap suc (once_in xs i j n distinct.1 is also)

pub meets_once : MeetsOnce
meets_once catalog g i j n is also = once_in (met_names catalog g) i j n (all_looked catalog g).distinct is also

cond_of : (b : Bool) (o : Option Record) (r : Record) → cond b o None ≡ Some r → (b ≡ true) × (o ≡ Some r)
cond_of true o r is = (refl, is)
cond_of false o r is = cc

get-closure : (catalog : List Fields) (g : Part) (n : ℕ) → get (closure catalog g).records n ≡ cond (is_among (met_names catalog g) n) (get g.records n) None
get-closure catalog g n =
    get-retain_keys g.records (is_among (met_names catalog g)) n
    (λ k same. ap (is_among (met_names catalog g)) (sym (nat_cmp-IsAntisymmetric n k same)))

pub computes_the_closure : ComputesTheClosure
computes_the_closure catalog g = record {
  kept = λ n r reached is.
      get-closure catalog g n ∙ ap (λ (b : Bool). cond b (get g.records n) None) (reached_met catalog g n reached) ∙ is;
  only = λ n r is.
      let parts = cond_of (is_among (met_names catalog g) n) (get g.records n) r (sym (get-closure catalog g n) ∙ is) in
      (met_reached catalog g n parts.0, parts.1);
  roots = refl;
}
