-- Objects wait until they are found.
use Rattle.std.proofs.Common.{◌≡◌, ◌<◌, ◌+◌, ◌++◌, ◌↔◌, inl, inr, ◌∙◌, ℕ, zero, suc, Bool, true, false, not, cond, List, [], ◌∷◌, length, get_or, set, replicate, refl, sym, ap, subst, arith, length-set, length-append, get_or-set_other, get_or-set_same}
use Rattle.std.specs.List.{Contains, count_by}
use Rattle.std.proofs.lemmas.Bool.{cases_eq, cases_lt, cases_Bool, false≢true}
use Rattle.std.proofs.lemmas.List.{get_or-replicate, get_or_past, length-replicate, get_or_default}
use Rattle.std.proofs.lemmas.List.Elements.{Contains-push, Contains-push_cases, Contains-append_left, Contains-get_or}
use Rattle.std.proofs.lemmas.List.Sums.{sum_by-set, sum_by-cons}
use Rattle.pm3_types.specs.Layout.{is_address, page_in}
use Rattle.pm3_types.specs.PassMoves.{IsRising}
use Rattle.pm3_copy.specs.Finds.{Finds, Adds}
use Rattle.pm3_copy.specs.Blocks.{slot_of, HasBlock, AreBlocks, AreOnBlocks, Waits, AreWaiting}
use Rattle.pm3_copy.proofs.Adding.{append_nil}
use Rattle.pm3_copy.proofs.Listing.{rising_distinct}
use Rattle.pm3_copy.proofs.Numbered.{block_low, slot_low, slots_apart}
use Rattle.pm3_copy.proofs.Stayers.{is_in}

-- a mark that is changed changes the count
counted : (marks : List Bool) (i : ℕ) (was now : Bool) → i < length marks → get_or marks i false ≡ was → count_by (λ mark. mark) (set marks i now) + cond was 1 0 ≡ count_by (λ mark. mark) marks + cond now 1 0
counted marks i was now low is =
    let f : Bool → ℕ = λ b. cond b 1 0 in
    let step = sum_by-set f marks i now false low in
    let old : f (get_or marks i false) ≡ f was = ap f is in
    omega (arith, step, old)

module _ (base : ℕ) (blocks objects : List ℕ) (waiting : List Bool) (list : List ℕ) (are : AreWaiting base blocks objects waiting list) where
  -- what does not wait is found or is no object
  pub adds_nothing : (word : ℕ) → (Contains objects word → (Contains list word → ⊥) → ⊥)
      → Adds (λ b. b ≡ word) (record { objects = objects; list = list }) (record { objects = objects; list = list })
  adds_nothing word never = record {
    objects = refl;
    front = ([], append_nil list);
    has = λ a there same. elim (is_in list a) [
      | inl found ↦ found
      | inr away ↦ absurd (never (subst (Contains objects) same there) (λ c. away (subst (Contains list) (sym same) c)))
    ];
    only = λ a is. inl is;
  }

  -- no object is at a word without a place
  pub no_place : (word : ℕ) → (is_address base word ≡ true → slot_of base blocks word < length waiting → ⊥) → Contains objects word → ⊥
  no_place word none there = (let on = are.on word there in none on.0 (slot_low base blocks (length waiting) are.whole word on.1))

  -- no object that waits is at a place that is not marked
  pub no_mark : (word : ℕ) → is_address base word ≡ true → get_or waiting (slot_of base blocks word) false ≡ false → Contains objects word → (Contains list word → ⊥) → ⊥
  no_mark word address none there away = false≢true (sym none ∙ (are.waits word address (are.on word there).1).1 (there, away))

  -- whether an object was found
  pub is_found : (a : ℕ) → Contains objects a → (not (get_or waiting (slot_of base blocks a) false) ≡ true) ↔ Contains list a
  is_found a there = (on, back)
    where
      here : (is_address base a ≡ true) × HasBlock blocks (length waiting) (page_in base a)
      here = are.on a there

      on : not (get_or waiting (slot_of base blocks a) false) ≡ true → Contains list a
      on is = elim (is_in list a) [ inl found ↦ found | inr away ↦ absurd (false≢true (sym (ap not ((are.waits a here.0 here.1).1 (there, away))) ∙ is)) ]

      back : Contains list a → not (get_or waiting (slot_of base blocks a) false) ≡ true
      back found = elim (cases_Bool (get_or waiting (slot_of base blocks a) false)) [
        | inl waits ↦ absurd (((are.waits a here.0 here.1).0 waits).1 found)
        | inr none ↦ ap not none
      ]

  module _ (word : ℕ) (address : is_address base word ≡ true) (low : slot_of base blocks word < length waiting) (waits : get_or waiting (slot_of base blocks word) false ≡ true) where
    has : HasBlock blocks (length waiting) (page_in base word)
    has = block_low base blocks (length waiting) are.whole word low

    waiting_word : Contains objects word × (Contains list word → ⊥)
    waiting_word = (are.waits word address has).0 waits

    one_less : count_by (λ mark. mark) (set waiting (slot_of base blocks word) false) + 1 ≡ count_by (λ mark. mark) waiting
    one_less = (let step = counted waiting (slot_of base blocks word) true false low waits in omega (arith, step))

    -- there is room for it
    pub room : length list < length objects
    room = (let count = are.count in let less = one_less in omega arith)

    longer : length (set waiting (slot_of base blocks word) false) ≡ length waiting
    longer = length-set waiting (slot_of base blocks word) false

    -- it waits no more
    pub waiting_less : AreWaiting base blocks objects (set waiting (slot_of base blocks word) false) (list ++ word ∷ [])
    waiting_less = record {
      whole = subst (AreBlocks blocks) (sym longer) are.whole;
      rising = are.rising;
      on = subst (λ n. AreOnBlocks base blocks n objects) (sym longer) are.on;
      waits = λ a at block. still a at (subst (λ n. HasBlock blocks n (page_in base a)) longer block);
      only = λ a is. elim (Contains-push_cases list word a is) [ inl there ↦ are.only a there | inr same ↦ subst (Contains objects) same waiting_word.0 ];
      count = (let count = are.count in let less = one_less in let long = length-append {A = ℕ} list (word ∷ []) in omega arith);
    }
      where
        still : (a : ℕ) → is_address base a ≡ true → HasBlock blocks (length waiting) (page_in base a)
            → Waits base blocks (set waiting (slot_of base blocks word) false) a ↔ (Contains objects a × (Contains (list ++ word ∷ []) a → ⊥))
        still a at block = elim (cases_eq (slot_of base blocks a) (slot_of base blocks word)) [
          | inl same ↦ (
              let e = slots_apart base blocks (length waiting) are.whole a word at address block same in
              let none : get_or (set waiting (slot_of base blocks word) false) (slot_of base blocks a) false ≡ false =
              ap (λ n. get_or (set waiting (slot_of base blocks word) false) n false) same ∙ get_or-set_same waiting (slot_of base blocks word) false false low in
              (λ is. absurd (false≢true (sym none ∙ is)), λ p. absurd (p.1 (subst (Contains (list ++ word ∷ [])) (sym e) (Contains-push list word)))))
          | inr apart ↦ (
              let kept = get_or-set_other waiting (slot_of base blocks word) (slot_of base blocks a) false false apart in
              let was = are.waits a at block in (
                λ is. (let p = was.0 (sym kept ∙ is) in (p.0, λ c. elim (Contains-push_cases list word a c) [ inl there ↦ p.1 there | inr same ↦ apart (ap (slot_of base blocks) (sym same)) ])),
                λ p. kept ∙ was.1 (p.0, λ c. p.1 (Contains-append_left list (word ∷ []) a c)),
              ))
        ]

    -- it is found
    pub adds_word : (new : Finds) → new ≡ record { objects = objects; list = list ++ word ∷ [] } → Adds (λ b. b ≡ word) (record { objects = objects; list = list }) new
    adds_word new is = subst (Adds (λ b. b ≡ word) (record { objects = objects; list = list })) (sym is) (record {
      objects = refl;
      front = (word ∷ [], refl);
      has = λ a there same. subst (Contains (list ++ word ∷ [])) (sym same) (Contains-push list word);
      only = λ a is_. elim (Contains-push_cases list word a is_) [ inl there ↦ inl there | inr same ↦ inr (subst (Contains objects) same waiting_word.0, sym same) ];
    })

-- the first objects of a list wait
pub record AreWaitingBelow (base : ℕ) (blocks : List ℕ) (words : ℕ) (objects : List ℕ) (n : ℕ) (waiting : List Bool) : Type 0 where
  pub long : length waiting ≡ words
  pub waits : (a : ℕ) → is_address base a ≡ true → HasBlock blocks words (page_in base a) → Waits base blocks waiting a ↔ ((k : ℕ) × (k < n) × (get_or objects k 0 ≡ a))
  pub count : count_by (λ mark. mark) waiting ≡ n

none_marked : (n i : ℕ) → get_or (replicate n false) i false ≡ false
none_marked n i =
    let long : length (replicate {A = Bool} n false) ≡ n = length-replicate {A = Bool} n false in
    elim (cases_lt i n) [ inl low ↦ get_or-replicate {A = Bool} n i false false low | inr past ↦ get_or_past {X = Bool} (replicate n false) i false (omega arith) ]

none_counted : (n : ℕ) → count_by (λ (mark : Bool). mark) (replicate n false) ≡ 0
none_counted zero = refl
none_counted (suc n) = (let step = sum_by-cons (λ (mark : Bool). cond mark 1 0) false (replicate n false) in let rest = none_counted n in omega (arith, step, rest))

pub waiting_none : (base : ℕ) (blocks : List ℕ) (words : ℕ) (objects : List ℕ) (waiting : List Bool) → waiting ≡ replicate words false → AreWaitingBelow base blocks words objects 0 waiting
waiting_none base blocks words objects waiting is = subst (AreWaitingBelow base blocks words objects 0) (sym is) (record {
  long = length-replicate {A = Bool} words false;
  waits = λ a at block. (λ waits. absurd (false≢true (sym (none_marked words (slot_of base blocks a)) ∙ waits)), λ p. absurd (omega (arith, p.1)));
  count = none_counted words;
})

module _ (base : ℕ) (blocks : List ℕ) (words : ℕ) (objects : List ℕ) (are : AreBlocks blocks words) (on : AreOnBlocks base blocks words objects) (rising : IsRising objects) where
  pub waiting_more : (n : ℕ) (waiting : List Bool) → n < length objects → AreWaitingBelow base blocks words objects n waiting
      → AreWaitingBelow base blocks words objects (n + 1) (set waiting (slot_of base blocks (get_or objects n 0)) true)
  waiting_more n waiting low below = record {
    long = length-set waiting (slot_of base blocks (get_or objects n 0)) true ∙ below.long;
    waits = λ a at block. more a at block;
    count = (let step = counted waiting (slot_of base blocks (get_or objects n 0)) false true inside before in let was = below.count in omega (arith, step));
  }
    where
      here : (is_address base (get_or objects n 0) ≡ true) × HasBlock blocks words (page_in base (get_or objects n 0))
      here = on (get_or objects n 0) (Contains-get_or objects n 0 low)

      inside : slot_of base blocks (get_or objects n 0) < length waiting
      inside = (let there = slot_low base blocks words are (get_or objects n 0) here.1 in let long = below.long in omega arith)

      before : get_or waiting (slot_of base blocks (get_or objects n 0)) false ≡ false
      before = elim (cases_Bool (get_or waiting (slot_of base blocks (get_or objects n 0)) false)) [
        | inl waits ↦ (
            let place = (below.waits (get_or objects n 0) here.0 here.1).0 waits in
            let same = rising_distinct objects place.0 n rising (omega (arith, place.1)) low place.2 in
            absurd (omega (arith, place.1)))
        | inr none ↦ none
      ]

      more : (a : ℕ) → is_address base a ≡ true → HasBlock blocks words (page_in base a)
          → Waits base blocks (set waiting (slot_of base blocks (get_or objects n 0)) true) a ↔ ((k : ℕ) × (k < n + 1) × (get_or objects k 0 ≡ a))
      more a at block = elim (cases_eq (slot_of base blocks a) (slot_of base blocks (get_or objects n 0))) [
        | inl same ↦ (
            let e = slots_apart base blocks words are a (get_or objects n 0) at here.0 block same in (
              λ is. (n, omega arith, sym e),
              λ p. ap (λ s. get_or (set waiting (slot_of base blocks (get_or objects n 0)) true) s false) same ∙ get_or-set_same waiting (slot_of base blocks (get_or objects n 0)) true false inside,
            ))
        | inr apart ↦ (
            let kept = get_or-set_other waiting (slot_of base blocks (get_or objects n 0)) (slot_of base blocks a) true false apart in
            let was = below.waits a at block in (
              λ is. (let p = was.0 (sym kept ∙ is) in (p.0, omega (arith, p.1), p.2)),
              λ p. kept ∙ was.1 (elim (cases_eq p.0 n) [
                | inl same ↦ absurd (apart (ap (slot_of base blocks) (sym p.2 ∙ ap (λ k. get_or objects k 0) same)))
                | inr less ↦ (p.0, omega (arith, p.1), p.2)
              ]),
            ))
      ]

  pub waiting_all : (n : ℕ) (waiting : List Bool) → length objects ≡ n → AreWaitingBelow base blocks words objects n waiting → AreWaiting base blocks objects waiting []
  waiting_all n waiting end below = record {
    whole = subst (AreBlocks blocks) (sym below.long) are;
    rising = rising;
    on = subst (λ m. AreOnBlocks base blocks m objects) (sym below.long) on;
    waits = λ a at block. (let was = below.waits a at (subst (λ m. HasBlock blocks m (page_in base a)) below.long block) in (
      λ is. (let p = was.0 is in (subst (Contains objects) p.2 (Contains-get_or objects p.0 0 (omega (arith, p.1))), λ c. omega (arith, c.1))),
      λ p. was.1 (p.0.0, omega (arith, p.0.1), get_or_default objects p.0.0 0 a p.0.1 ∙ p.0.2),
    ));
    only = λ a c. absurd (omega (arith, c.1));
    count = (let count = below.count in omega arith);
  }
