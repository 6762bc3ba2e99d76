-- As many looks as there are names that the roots can reach find all that they reach.
use Rattle.std.proofs.Common.{◌≡◌, ◌+◌, ◌<◌, ◌≤◌, ℕ, zero, suc, List, [], ◌∷◌, ◌++◌, length, Bool, true, false, cond, not, Option, None, Some, is_some, ◌⊎◌, inl, inr, refl, sym, arith, ap, subst, ◌∙◌, get_or, append_assoc}
use Rattle.std.specs.Prelude.{◌==◌, ◌&&◌, ◌||◌, fold}
use Rattle.std.specs.List.{slice_get, range_with_len}
use Rattle.std.proofs.lemmas.Bool.Decides.{nat_tests}
use Rattle.std.proofs.lemmas.List.{append-nil, get_or_append_left}
use Rattle.std.proofs.lemmas.List.Folds.{list_any-append}
use Rattle.std.proofs.lemmas.Option.{slice_get-get_or, slice_get_within}
use Rattle.pm3_types.specs.Numbering.{is_among, meet, names_of, names_under, look}
use Rattle.pm3_types.specs.Record.{Record}
use Rattle.oo7_schema.specs.Lookup.{Look, listed_schema}
use Rattle.oo7_schema.specs.Entries.{Once}
use Rattle.oo7_schema.specs.Flat.{Flat}
use Rattle.oo7_schema.specs.Alike.{met, IsClosed}
use Rattle.oo7_schema.proofs.Testing.{itself, same_number, test_false, or_cases, or_first, or_second}
use Rattle.oo7_schema.proofs.Holding.{joined_once, one_of}
use Rattle.oo7_schema.proofs.KeptObjects.{joined_first, joined_second}
use Rattle.oo7_schema.proofs.Pieces.{once_head, once_tail, among_get}

-- a list without the first place of a name
abbrev less : ℕ → List ℕ → List ℕ
less n [] = []
less n (m ∷ ms) = cond (n == m) ms (m ∷ less n ms)

less_long : (n : ℕ) (ms : List ℕ) → is_among ms n ≡ true → suc (length (less n ms)) ≡ length ms
less_long n [] among = cc
less_long n (m ∷ ms) among = by_test (n == m) refl (less_long n ms)
  where
    by_test : (b : Bool) → (n == m) ≡ b → (is_among ms n ≡ true → suc (length (less n ms)) ≡ length ms) → suc (length (cond (n == m) ms (m ∷ less n ms))) ≡ suc (length ms)
    by_test true is later = ap (λ (b : Bool). suc (length (cond b ms (m ∷ less n ms)))) is
    by_test false is later =
        ap (λ (b : Bool). suc (length (cond b ms (m ∷ less n ms)))) is ∙ ap suc (later (ap (λ (b : Bool). b || is_among ms n) (sym is) ∙ among))

less_among : (n k : ℕ) (ms : List ℕ) → (k == n) ≡ false → is_among ms k ≡ true → is_among (less n ms) k ≡ true
less_among n k [] other among = cc
less_among n k (m ∷ ms) other among = by_test (n == m) refl (less_among n k ms other)
  where
    by_test : (b : Bool) → (n == m) ≡ b → (is_among ms k ≡ true → is_among (less n ms) k ≡ true) → is_among (cond (n == m) ms (m ∷ less n ms)) k ≡ true
    by_test true is later =
        let apart : (k == m) ≡ false = ap (λ (j : ℕ). k == j) (sym (same_number n m is)) ∙ other in
        ap (λ (b : Bool). is_among (cond b ms (m ∷ less n ms)) k) is ∙ ap (λ (b : Bool). b || is_among ms k) (sym apart) ∙ among
    by_test false is later =
        ap (λ (b : Bool). is_among (cond b ms (m ∷ less n ms)) k) is
        ∙ elim (or_cases (k == m) (is_among ms k) among) [ inl here ↦ or_first (k == m) (is_among (less n ms) k) here | inr rest ↦ or_second (k == m) (is_among (less n ms) k) (later rest) ]

-- a list without repeats is no longer than one that has all its names
pub no_longer : (ns ms : List ℕ) → Once ns → ((n : ℕ) → is_among ns n ≡ true → is_among ms n ≡ true) → length ns ≤ length ms
no_longer [] ms once inside = omega arith
no_longer (n ∷ ns) ms once inside =
    let here : is_among ms n ≡ true = inside n (or_first (n == n) (is_among ns n) (itself n)) in
    let rest : length ns ≤ length (less n ms) = no_longer ns (less n ms) (once_tail n ns once) (λ k among. less_among n k ms (other k among) (inside k (or_second (k == n) (is_among ns k) among))) in
    omega (arith, rest, less_long n ms here)
  where
    other : (k : ℕ) → is_among ns k ≡ true → (k == n) ≡ false
    other k among = test_false k n (λ same. cc (once_head n ns once, ap (is_among ns) (sym same) ∙ among))

-- the names that one look adds to those met
record Adds (objects : Look) (met ns : List ℕ) : Type 0 where
  fresh : List ℕ
  is : meet objects met ns ≡ met ++ fresh
  once : Once met → Once (met ++ fresh)
  from : (n : ℕ) → is_among fresh n ≡ true → (is_among ns n ≡ true) × (is_some (objects n) ≡ true)
  all : (n : ℕ) → is_among ns n ≡ true → is_some (objects n) ≡ true → is_among (met ++ fresh) n ≡ true

pub once_more : (met : List ℕ) (n : ℕ) → is_among met n ≡ false → Once met → Once (met ++ n ∷ [])
once_more met n new once =
    joined_once met (n ∷ []) (met ++ n ∷ []) (λ k. refl) once (one_of n)
    (λ k last among. elim (or_cases (k == n) false last) [ inl same ↦ cc (new, ap (is_among met) (sym (same_number k n same)) ∙ among) | inr never ↦ cc ])

adds : (objects : Look) (ns met : List ℕ) → Adds objects met ns
adds objects [] met = record {
  fresh = [];
  is = sym (append-nil met);
  once = subst Once (sym (append-nil met));
  from = λ n among. cc;
  all = λ n among there. cc;
}
adds objects (x ∷ ns) met = by_test (is_some (objects x)) refl (is_among met x) refl (adds objects ns)
  where
    skipped : is_some (objects x) && not (is_among met x) ≡ false → (is_some (objects x) ≡ true → is_among met x ≡ true) → Adds objects met ns → Adds objects met (x ∷ ns)
    skipped test known later = record {
      fresh = later.fresh;
      is = ap (λ (b : Bool). meet objects (cond b (met ++ x ∷ []) met) ns) test ∙ later.is;
      once = later.once;
      from = λ n among. (or_second (n == x) (is_among ns n) (later.from n among).0, (later.from n among).1);
      all = λ n among there. elim (or_cases (n == x) (is_among ns n) among) [
        | inl here ↦
            let same : n ≡ x = same_number n x here in
            joined_first met later.fresh n (ap (is_among met) same ∙ known (ap (λ (k : ℕ). is_some (objects k)) (sym same) ∙ there))
        | inr rest ↦ later.all n rest there
      ];
    }

    by_test : (b : Bool) → is_some (objects x) ≡ b → (c : Bool) → is_among met x ≡ c → ((met2 : List ℕ) → Adds objects met2 ns) → Adds objects met (x ∷ ns)
    by_test false none c is later = skipped (λ i. none i && not (is i)) (λ there. cc (none, there)) (later met)
    by_test true some true old later = skipped (λ i. some i && not (old i)) (λ there. old) (later met)
    by_test true some false new later =
        let rest : Adds objects (met ++ x ∷ []) ns = later (met ++ x ∷ []) in
        let joined : (met ++ x ∷ []) ++ rest.fresh ≡ met ++ (x ∷ rest.fresh) = append_assoc met (x ∷ []) rest.fresh in
        record {
          fresh = x ∷ rest.fresh;
          is = (λ i. meet objects (cond (some i && not (new i)) (met ++ x ∷ []) met) ns) ∙ rest.is ∙ joined;
          once = λ once. subst Once joined (rest.once (once_more met x new once));
          from = λ n among. elim (or_cases (n == x) (is_among rest.fresh n) among) [
            | inl here ↦ (or_first (n == x) (is_among ns n) here, ap (λ (k : ℕ). is_some (objects k)) (same_number n x here) ∙ some)
            | inr more ↦ (or_second (n == x) (is_among ns n) (rest.from n more).0, (rest.from n more).1)
          ];
          all = λ n among there. subst (λ (ms : List ℕ). is_among ms n ≡ true) joined (elim (or_cases (n == x) (is_among ns n) among) [
            | inl here ↦ joined_first (met ++ x ∷ []) rest.fresh n (joined_second met (x ∷ []) n (or_first (n == x) false here))
            | inr more ↦ rest.all n more there
          ]);
        }

-- what can be met of a graph: the names of which P holds have objects, and these and the roots lead to no others
pub record Leads (P : ℕ → Type 0) (g : Flat) : Type 0 where
  pub there : (n : ℕ) → P n → is_some (g.look n) ≡ true
  pub roots : (n : ℕ) → is_among g.roots n ≡ true → (n ≡ 0) ⊎ P n
  pub refers : (m n : ℕ) → P m → is_among (names_of listed_schema (g.look m)) n ≡ true → (n ≡ 0) ⊎ P n

module _ (P : ℕ → Type 0) (g : Flat) (nil : g.look 0 ≡ None) (leads : Leads P g) where
  -- of what is there P holds
  listed : (n : ℕ) → (n ≡ 0) ⊎ P n → is_some (g.look n) ≡ true → P n
  listed n (inr holds) there = holds
  listed n (inl zeroth) there =
      let none : is_some (g.look n) ≡ false = ap (λ (k : ℕ). is_some (g.look k)) zeroth ∙ ap (λ (o : Option Record). is_some o) nil in
      cc (none, there)

  -- what holds of the names met once the first k have been looked at
  record Looked (k : ℕ) (met : List ℕ) : Type 0 where
    once : Once met
    inside : (n : ℕ) → is_among met n ≡ true → P n
    rooted : (n : ℕ) → is_among g.roots n ≡ true → is_some (g.look n) ≡ true → is_among met n ≡ true
    done : (j n : ℕ) → j < k → j < length met → is_among (names_of listed_schema (g.look (get_or met j 0))) n ≡ true → is_some (g.look n) ≡ true → is_among met n ≡ true

  begun : Looked 0 (meet g.look [] g.roots)
  begun =
      let first : Adds g.look [] g.roots = adds g.look g.roots [] in
      record {
        once = subst Once (sym first.is) (first.once (λ n. omega arith));
        inside = λ n among. let new : is_among first.fresh n ≡ true = ap (λ (ms : List ℕ). is_among ms n) (sym first.is) ∙ among in
            listed n (leads.roots n (first.from n new).0) (first.from n new).1;
        rooted = λ n among there. ap (λ (ms : List ℕ). is_among ms n) first.is ∙ first.all n among there;
        done = λ j n less low among there. absurd (omega arith);
      }

  one_look : (k : ℕ) (met : List ℕ) (o : Option ℕ) → slice_get met k ≡ o → Looked k met → Looked (k + 1) (meet g.look met (names_under listed_schema g.look o))
  one_look k met None past before = record {
    once = before.once;
    inside = before.inside;
    rooted = before.rooted;
    done = λ j n less low among there. before.done j n (not_last j n less low) low among there;
  }
    where
      not_last : (j n : ℕ) → j < k + 1 → j < length met → j < k
      not_last j n less low = by_test (j == k) refl
        where
          by_test : (b : Bool) → (j == k) ≡ b → j < k
          by_test true same =
              let here : slice_get met k ≡ Some (get_or met k 0) = slice_get-get_or met k 0 (subst (λ (i : ℕ). i < length met) (same_number j k same) low) in
              cc (past, here)
          by_test false other = grind (arith, nat_tests)
  one_look k met (Some x) at before =
      let more : Adds g.look met (names_of listed_schema (g.look x)) = adds g.look (names_of listed_schema (g.look x)) met in
      subst (λ (ms : List ℕ). Looked (k + 1) ms) (sym more.is) (record {
        once = more.once before.once;
        inside = λ n among. elim (or_cases (is_among met n) (is_among more.fresh n) (sym (list_any-append (λ (m : ℕ). n == m) met more.fresh) ∙ among)) [
          | inl old ↦ before.inside n old
          | inr new ↦ listed n (leads.refers x n (before.inside x looked_among) (more.from n new).0) (more.from n new).1
        ];
        rooted = λ n among there. joined_first met more.fresh n (before.rooted n among there);
        done = λ j n less low among there. by_place more j n less (j == k) refl among there;
      })
    where
      low_place : k < length met
      low_place = slice_get_within met k x at

      here : get_or met k 0 ≡ x
      here = let both : Some (get_or met k 0) ≡ Some x = sym (slice_get-get_or met k 0 low_place) ∙ at in cc

      looked_among : is_among met x ≡ true
      looked_among = ap (is_among met) (sym here) ∙ among_get met k low_place

      by_place : (more : Adds g.look met (names_of listed_schema (g.look x))) (j n : ℕ) → j < k + 1 → (b : Bool) → (j == k) ≡ b
          → is_among (names_of listed_schema (g.look (get_or (met ++ more.fresh) j 0))) n ≡ true → is_some (g.look n) ≡ true → is_among (met ++ more.fresh) n ≡ true
      by_place more j n less true same among there =
          let named : get_or (met ++ more.fresh) j 0 ≡ x =
          ap (λ (i : ℕ). get_or (met ++ more.fresh) i 0) (same_number j k same) ∙ get_or_append_left met more.fresh 0 k low_place ∙ here in
          more.all n (ap (λ (m : ℕ). is_among (names_of listed_schema (g.look m)) n) (sym named) ∙ among) there
      by_place more j n less false other among there =
          let sooner : j < k = earlier j less other in
          let low : j < length met = omega (arith, sooner, low_place) in
          let named : get_or (met ++ more.fresh) j 0 ≡ get_or met j 0 = get_or_append_left met more.fresh 0 j low in
          joined_first met more.fresh n (before.done j n sooner low (ap (λ (m : ℕ). is_among (names_of listed_schema (g.look m)) n) (sym named) ∙ among) there)
        where
          earlier : (j : ℕ) → j < k + 1 → (j == k) ≡ false → j < k
          earlier j less other = grind (arith, nat_tests)

  looks : (n k : ℕ) (met : List ℕ) → Looked k met → Looked (k + n) (fold (look listed_schema g.look) met (range_with_len k n))
  looks zero k met before = subst (λ (j : ℕ). Looked j met) (omega arith) before
  looks (suc n) k met before =
      subst (λ (j : ℕ). Looked j (fold (look listed_schema g.look) (look listed_schema g.look met k) (range_with_len (k + 1) n))) (omega arith)
      (looks n (k + 1) (look listed_schema g.look met k) (one_look k met (slice_get met k) refl before))

  looked : (count : ℕ) → Looked count (met g count)
  looked count = subst (λ (j : ℕ). Looked j (met g count)) (omega arith) (looks count 0 (meet g.look [] g.roots) begun)

  -- where a name stands in a list
  record Stand (ns : List ℕ) (n : ℕ) : Type 0 where
    place : ℕ
    low : place < length ns
    at : get_or ns place 0 ≡ n

  stand : (ns : List ℕ) (n : ℕ) → is_among ns n ≡ true → Stand ns n
  stand [] n among = cc
  stand (m ∷ ns) n among = elim (or_cases (n == m) (is_among ns n) among) [
    | inl here ↦ record { place = 0; low = omega arith; at = sym (same_number n m here) }
    | inr later ↦ let rest : Stand ns n = stand ns n later in record { place = suc rest.place; low = omega (arith, rest.low); at = rest.at }
  ]

  found : (count : ℕ) (n : ℕ) → (n ≡ 0) ⊎ P n → (is_some (g.look n) ≡ true → is_among (met g count) n ≡ true) → (n ≡ 0) ⊎ (is_among (met g count) n ≡ true)
  found count n (inl zeroth) meets = inl zeroth
  found count n (inr holds) meets = inr (meets (leads.there n holds))

  -- no more is met than a list has that has all of which P holds
  module _ (list : List ℕ) (has : (n : ℕ) → P n → is_among list n ≡ true) where
    pub met_few : (count : ℕ) → length (met g count) ≤ length list
    met_few count = no_longer (met g count) list (looked count).once (λ n among. has n ((looked count).inside n among))

    pub closed_in : (count : ℕ) → length list ≤ count → IsClosed g count
    closed_in count enough = record {
      nil = nil;
      roots = λ n among. found count n (leads.roots n among) (λ there. (looked count).rooted n among there);
      refers = λ m n met_already among.
          found count n (leads.refers m n ((looked count).inside m met_already) among)
          (λ there. let place : Stand (met g count) m = stand (met g count) m met_already in
          (looked count).done place.place n (omega (arith, place.low, met_few count)) place.low (ap (λ (k : ℕ). is_among (names_of listed_schema (g.look k)) n) place.at ∙ among) there);
    }

-- the names of a list are all that can be met
abbrev pub Links : List ℕ → Flat → Type 0
Links list g = Leads (λ (n : ℕ). is_among list n ≡ true) g

module _ (list : List ℕ) (g : Flat) (nil : g.look 0 ≡ None) (links : Links list g) where
  pub few_met : (count : ℕ) → length (met g count) ≤ length list
  few_met = met_few (λ (n : ℕ). is_among list n ≡ true) g nil links list (λ n among. among)

  pub closed_by : (count : ℕ) → length list ≤ count → IsClosed g count
  closed_by = closed_in (λ (n : ℕ). is_among list n ≡ true) g nil links list (λ n among. among)
